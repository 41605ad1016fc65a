-- Every question has a number, from 1 on: so an answer of 0 is an acceptance.
use Prim.Native.Nat.{ℕ, ◌≤◌}
use mathlib.Core.Path.{◌≡◌}
use mathlib.Core.Bool.{Bool}
use mathlib.Core.List.{List, ◌∷◌, ◌++◌, []}
use native.Mathlib.Omega.{arith}
use Rattle.plan.specs.declared.Table.{Table}
use Rattle.plan.specs.Image.{tables}
use Rattle.plan.specs.Questions.{Question, whole, each, each_table, names, in_order, in_range, image_questions, row_questions, queue_questions, piece_questions, stream_questions, buffer_questions, chain_questions, plan_questions, questions, answer_of, accepted}
use Rattle.plan.proofs.Asking.{Real, passed_of, passed_all}

real_append : (ps qs : List Question) → Real ps → Real qs → Real (ps ++ qs)
real_append [] qs g h = h
real_append (p ∷ ps) qs g h = (g.0, real_append ps qs g.1 h)

module _ (s : List ℕ) where
  pub real_tables : (q : ℕ) → 1 ≤ q → (ts : List Table) (ok : Table → ℕ → Bool) → Real (each_table s q ts ok)
  unfolding each_table each
  real_tables q l [] ok = tt
  real_tables q l (t ∷ ts) ok = (l, real_tables q l ts ok)

  pub real_image : Real (image_questions s)
  unfolding image_questions whole
  real_image = omega arith

  pub real_rows : Real (row_questions s)
  unfolding row_questions
  real_rows =
      let q5 = each_table s 5 tables (names s) in let q32 = each_table s 32 tables (in_order s) in let q6 = each_table s 6 tables (in_range s) in
      real_append (q5 ++ q32) q6 (real_append q5 q32 (real_tables 5 (omega arith) tables (names s)) (real_tables 32 (omega arith) tables (in_order s)))
      (real_tables 6 (omega arith) tables (in_range s))

  pub real_queues : Real (queue_questions s)
  unfolding queue_questions each
  real_queues = omega arith

  pub real_pieces : Real (piece_questions s)
  unfolding piece_questions each
  real_pieces = omega arith

  pub real_streams : Real (stream_questions s)
  unfolding stream_questions each
  real_streams = omega arith

  pub real_buffers : Real (buffer_questions s)
  unfolding buffer_questions each
  real_buffers = omega arith

  real_plan : Real (plan_questions s)
  unfolding plan_questions piece_questions stream_questions buffer_questions chain_questions each
  real_plan = omega arith

  pub real : Real (questions s)
  unfolding questions
  real =
      let im = image_questions s in let rs = row_questions s in let qs = queue_questions s in
      real_append (im ++ rs ++ qs) (plan_questions s) (real_append (im ++ rs) qs (real_append im rs real_image real_rows) real_queues) real_plan

  -- a check that gives 0 has accepted
  pub accepted_of : (answer_of s).number ≡ 0 → answer_of s ≡ accepted
  unfolding answer_of
  accepted_of e = passed_all (questions s) (passed_of (questions s) real e)
