-- An answer in one number: it fits 64 bits, and its parts can be taken out again as the header's helpers do.
use Prim.Native.Nat.{ℕ, ◌/◌, ◌%◌, ◌^◌, ◌<◌}
use mathlib.Core.Path.{◌≡◌, refl}
use mathlib.Core.Bool.{Bool}
use mathlib.Core.List.{List, ◌∷◌, ◌++◌, []}
use native.Mathlib.Omega.{arith}
use Rattle.plan.specs.declared.Answer.{Answer}
use Rattle.std.specs.Prelude.{Option}
use Rattle.std.specs.Prelude.{Some, None}
use Rattle.plan.specs.declared.Table.{Table}
use Rattle.plan.specs.declared.Table.TheVariants.{Cores, Vcpus, Tasks, Windows, Pieces, Links, Streams, Frames, Buffers, Chains}
use Rattle.plan.specs.Image.{shape, tables}
use Rattle.plan.specs.Search.{first_no}
use Rattle.plan.specs.Questions.{Question, whole, each, each_table, names, in_order, in_range, image_questions, row_questions, queue_questions, piece_questions, stream_questions, buffer_questions, chain_questions, plan_questions, questions, answer_to, answer_of}
use Rattle.plan.specs.Dispatch.{build_answer}
use Rattle.plan.specs.Boundary.{answer_number}

-- ---- number and table are small

abbrev pub Narrow : List Question → Type 0
Narrow [] = Unit {0}
Narrow (q ∷ qs) = ((q.asked < 2 ^ 16) × (q.table < 2 ^ 16)) × Narrow qs

pub narrow_append : (ps qs : List Question) → Narrow ps → Narrow qs → Narrow (ps ++ qs)
narrow_append [] qs n m = m
narrow_append (p ∷ ps) qs n m = (n.0, narrow_append ps qs n.1 m)

shape_narrow : (t : Table) → (shape t).number < 2 ^ 16
unfolding shape
shape_narrow Cores = omega arith
shape_narrow Vcpus = omega arith
shape_narrow Tasks = omega arith
shape_narrow Windows = omega arith
shape_narrow Pieces = omega arith
shape_narrow Links = omega arith
shape_narrow Streams = omega arith
shape_narrow Frames = omega arith
shape_narrow Buffers = omega arith
shape_narrow Chains = omega arith

tables_narrow : (s : List ℕ) (q : ℕ) (ts : List Table) (ok : Table → ℕ → Bool) → q < 2 ^ 16 → Narrow (each_table s q ts ok)
unfolding each_table each
tables_narrow s q [] ok h = tt
tables_narrow s q (t ∷ ts) ok h = ((h, shape_narrow t), tables_narrow s q ts ok h)

module _ (s : List ℕ) where
  image_narrow : Narrow (image_questions s)
  unfolding image_questions whole
  image_narrow = omega arith

  queues_narrow : Narrow (queue_questions s)
  unfolding queue_questions each shape
  queues_narrow = omega arith

  pieces_narrow : Narrow (piece_questions s)
  unfolding piece_questions each shape
  pieces_narrow = omega arith

  streams_narrow : Narrow (stream_questions s)
  unfolding stream_questions each shape
  streams_narrow = omega arith

  buffers_narrow : Narrow (buffer_questions s)
  unfolding buffer_questions each shape
  buffers_narrow = omega arith

  chains_narrow : Narrow (chain_questions s)
  unfolding chain_questions each shape
  chains_narrow = omega arith

  plan_narrow : Narrow (plan_questions s)
  unfolding plan_questions
  plan_narrow =
      narrow_append (piece_questions s ++ stream_questions s ++ buffer_questions s) (chain_questions s)
      (narrow_append (piece_questions s ++ stream_questions s) (buffer_questions s)
      (narrow_append (piece_questions s) (stream_questions s) pieces_narrow streams_narrow)
      buffers_narrow)
      chains_narrow

  rows_narrow : Narrow (row_questions s)
  unfolding row_questions
  rows_narrow =
      let q5 = each_table s 5 tables (names s) in let q32 = each_table s 32 tables (in_order s) in let q6 = each_table s 6 tables (in_range s) in
      narrow_append (q5 ++ q32) q6
      (narrow_append q5 q32 (tables_narrow s 5 tables (names s) (omega arith)) (tables_narrow s 32 tables (in_order s) (omega arith)))
      (tables_narrow s 6 tables (in_range s) (omega arith))

  pub questions_narrow : Narrow (questions s)
  unfolding questions
  questions_narrow =
      let im = image_questions s in let rs = row_questions s in let qs = queue_questions s in
      narrow_append (im ++ rs ++ qs) (plan_questions s) (narrow_append (im ++ rs) qs (narrow_append im rs image_narrow rows_narrow) queues_narrow) plan_narrow

abbrev pub Small : Answer → Type 0
Small a = (a.number < 2 ^ 16) × (a.table < 2 ^ 16)

pub narrow_answer : (qs : List Question) → Narrow qs → Small (answer_to qs)
unfolding answer_to
narrow_answer [] n = omega arith
narrow_answer (q ∷ qs) n = go (first_no q.many q.ok) refl (narrow_answer qs n.1)
  where
    go : (f : Option ℕ) → first_no q.many q.ok ≡ f → Small (answer_to qs) → Small (answer_to (q ∷ qs))
    go (Some r) e k = rw (e, answer_to) n.0
    go None e k = rw (e, answer_to) k

module _ (s : List ℕ) where
  pub answer_small : Small (answer_of s)
  unfolding answer_of
  answer_small = narrow_answer (questions s) (questions_narrow s)

  pub build_small : (lane : ℕ) (words : List ℕ) → Small (build_answer s lane words)
  unfolding build_answer whole
  build_small lane words = narrow_answer _ (narrow_append (questions s) _ (questions_narrow s) (omega arith))

-- ---- one number

module _ (a : Answer) (h : Small a) where
  pub answer_fits : a.row < 2 ^ 32 → answer_number a < 2 ^ 64
  unfolding answer_number
  answer_fits r = omega arith

  pub answer_parts :
      (answer_number a % 2 ^ 16 ≡ a.number) × (answer_number a / 2 ^ 16 % 2 ^ 16 ≡ a.table) × (answer_number a / 2 ^ 32 ≡ a.row)
  unfolding answer_number
  answer_parts = (omega arith, omega arith, omega arith)

  -- 0 is number 0
  pub answer_zero : (answer_number a ≡ 0 → a.number ≡ 0) × (a.number ≡ 0 → a.table ≡ 0 → a.row ≡ 0 → answer_number a ≡ 0)
  unfolding answer_number
  answer_zero = (λ e. omega arith, λ x y z. omega arith)
