-- Making and the check: `MakeAsks` and `MakePasses40` (specs/Claim.antt).
use Prim.Native.Nat.{ℕ}
use mathlib.Core.Path.{◌≡◌, refl, sym, ap, ◌∙◌}
use mathlib.Core.Logic.{◌≢◌, ◌⊎◌, inl, inr}
use mathlib.Core.Bool.{Bool, true, false, true≢false, cond}
use mathlib.Core.List.{List, ◌∷◌, ◌++◌, [], append_assoc}
use native.Mathlib.Decide.{ℕ_discrete}
use lib.ListN.{length, take, drop, take-append-drop}
use lib.Dec.{leb}
use Rattle.plan.specs.declared.Answer.{Answer}
use Rattle.std.specs.Prelude.{Option}
use Rattle.std.specs.Prelude.{Some, None}
use Rattle.plan.specs.declared.Table.{Table}
use Rattle.plan.specs.declared.Table.TheVariants.{Streams}
use Rattle.plan.specs.Image.{tables}
use Rattle.plan.specs.Search.{first_no}
use Rattle.plan.specs.Questions.{Question, whole, each, each_table, names, in_order, in_range, queue_fits, image_questions, row_questions, queue_questions, piece_questions, stream_questions, buffer_questions, chain_questions, plan_questions, questions, answer_to, answer_of}
use Rattle.plan.proofs.Answers.{named, no_row, a_row}
use Rattle.plan.proofs.Asking.{Real, then_asked, stopped_first}
use Rattle.plan.proofs.Numbers.{real_image, real_rows, real_queues}
use Rattle.drafts.specs.Drafts.{draft_words}
use Rattle.drafts.specs.Edits.{number_of, make_number}
use Rattle.drafts.specs.Claim.{is_early, MakeAsks, MakePasses40}
use Rattle.drafts.proofs.Asking.{asked_none, asked_yes, asked_no}
use Rattle.drafts.proofs.Making.{real_append, real_four}

-- ---- the numbers of a list of questions

-- each question's number is early, or none is
abbrev Numbered : Bool → List Question → Type 0
Numbered b [] = Unit {0}
Numbered b (q ∷ qs) = (is_early q.asked ≡ b) × Numbered b qs

numbered_append : (b : Bool) (ps qs : List Question) → Numbered b ps → Numbered b qs → Numbered b (ps ++ qs)
numbered_append b [] qs g h = h
numbered_append b (p ∷ ps) qs g h = (g.0, numbered_append b ps qs g.1 h)

-- and so is that of the answer
answer_numbered : (b : Bool) (qs : List Question) → Numbered b qs → ((answer_to qs).number ≡ 0) ⊎ (is_early (answer_to qs).number ≡ b)
unfolding answer_to named
answer_numbered b [] g = inl refl
answer_numbered b (q ∷ qs) g = go (first_no q.many q.ok) refl (answer_numbered b qs g.1)
  where
    go : (f : Option ℕ) → first_no q.many q.ok ≡ f → ((answer_to qs).number ≡ 0) ⊎ (is_early (answer_to qs).number ≡ b)
        → ((answer_to (q ∷ qs)).number ≡ 0) ⊎ (is_early (answer_to (q ∷ qs)).number ≡ b)
    go None e h = rw (no_row q qs e) h
    go (Some r) e h = inr (rw (a_row q qs r e) g.0)

number_of_holds : {a b : Answer} → a ≡ b → a.number ≡ b.number
number_of_holds e = ap (λ (x : Answer). x.number) e

early_one : (qs : List Question) → Numbered true qs → (answer_to qs).number ≢ 0 → is_early (answer_to qs).number ≡ true
early_one qs g h = there (answer_numbered true qs g)
  where
    there : ((answer_to qs).number ≡ 0) ⊎ (is_early (answer_to qs).number ≡ true) → is_early (answer_to qs).number ≡ true
    there (inl e) = absurd (h e)
    there (inr e) = e

none_early : is_early 0 ≡ false
unfolding is_early
none_early = refl

late_one : (qs : List Question) → Numbered false qs → is_early (answer_to qs).number ≡ false
late_one qs g = there (answer_numbered false qs g)
  where
    there : ((answer_to qs).number ≡ 0) ⊎ (is_early (answer_to qs).number ≡ false) → is_early (answer_to qs).number ≡ false
    there (inl e) = rw e none_early
    there (inr e) = e

pick : (n m : ℕ) (b : Bool) → is_early n ≡ b → cond (is_early n) n m ≡ cond b n m
pick n m b e = rw e refl

module _ (room : Bool) where
  last_asked : (b : Bool) → b ≡ room → number_of (whole 34 room ∷ []) ≡ cond room 0 34
  last_asked true e = asked_yes 34 room [] (sym e) ∙ asked_none ∙ (rw (← e) refl)
  last_asked false e = asked_no 34 room [] (sym e) ∙ (rw (← e) refl)

  -- early questions, then 34 in place of late ones
  rest_asks : (ps qs : List Question) → Numbered true ps → Numbered false qs → Real ps
      → (answer_to (ps ++ whole 34 room ∷ [])).number ≡ cond (is_early (answer_to (ps ++ qs)).number) (answer_to (ps ++ qs)).number (cond room 0 34)
  unfolding number_of
  rest_asks ps qs early late real = go (ℕ_discrete (answer_to ps).number 0)
    where
      go : Dec ((answer_to ps).number ≡ 0)
          → (answer_to (ps ++ whole 34 room ∷ [])).number ≡ cond (is_early (answer_to (ps ++ qs)).number) (answer_to (ps ++ qs)).number (cond room 0 34)
      go (no h) =
          let n : (answer_to (ps ++ qs)).number ≡ (answer_to ps).number = number_of_holds (stopped_first ps qs h) in
          number_of_holds (stopped_first ps (whole 34 room ∷ []) h) ∙ sym (rw n (pick (answer_to ps).number (cond room 0 34) true (early_one ps early h)))
      go (yes h) =
          let n : (answer_to (ps ++ qs)).number ≡ (answer_to qs).number = number_of_holds (then_asked ps qs real h) in
          number_of_holds (then_asked ps (whole 34 room ∷ []) real h) ∙ last_asked room refl ∙ sym (rw n (pick (answer_to qs).number (cond room 0 34) false (late_one qs late)))

module _ (s : List ℕ) where
  numbered_tables : (q : ℕ) → is_early q ≡ true → (ts : List Table) (ok : Table → ℕ → Bool) → Numbered true (each_table s q ts ok)
  unfolding each_table each
  numbered_tables q l [] ok = tt
  numbered_tables q l (t ∷ ts) ok = (l, numbered_tables q l ts ok)

  -- what is asked before 40, what after it up to 10, and what after that
  abbrev first : List Question
  first = image_questions s ++ row_questions s

  abbrev four : List Question
  four = take 4 (piece_questions s)

  abbrev late : List Question
  late = drop 4 (piece_questions s) ++ (stream_questions s ++ (buffer_questions s ++ chain_questions s))

  image_early : Numbered true (image_questions s)
  unfolding image_questions whole is_early
  image_early = (refl, (refl, (refl, (refl, tt))))

  rows_early : Numbered true (row_questions s)
  unfolding row_questions is_early
  rows_early =
      let q5 = each_table s 5 tables (names s) in let q32 = each_table s 32 tables (in_order s) in let q6 = each_table s 6 tables (in_range s) in
      numbered_append true (q5 ++ q32) q6
      (numbered_append true q5 q32 (numbered_tables 5 refl tables (names s)) (numbered_tables 32 refl tables (in_order s)))
      (numbered_tables 6 refl tables (in_range s))

  four_early : Numbered true (take 4 (piece_questions s))
  unfolding piece_questions each is_early
  four_early = (refl, (refl, (refl, (refl, tt))))

  first_early : Numbered true first
  first_early = numbered_append true (image_questions s) (row_questions s) image_early rows_early

  all_late : Numbered false late
  unfolding piece_questions stream_questions buffer_questions chain_questions each is_early
  all_late = (refl, (refl, (refl, (refl, (refl, (refl, (refl, (refl, (refl, (refl, (refl, (refl, (refl, (refl, (refl, (refl, (refl, (refl, tt))))))))))))))))))

  -- with 40 they are the check's
  checked : answer_of s ≡ answer_to (first ++ (queue_questions s ++ (four ++ late)))
  unfolding answer_of questions plan_questions
  checked =
      ap answer_to
      (append_assoc first (queue_questions s) (plan_questions s) ∙ ap (λ (qs : List Question). first ++ (queue_questions s ++ qs)) parts)
    where
      parts : plan_questions s ≡ four ++ late
      parts =
          append_assoc (piece_questions s ++ stream_questions s) (buffer_questions s) (chain_questions s)
          ∙ append_assoc (piece_questions s) (stream_questions s) (buffer_questions s ++ chain_questions s)
          ∙ ap (λ (qs : List Question). qs ++ (stream_questions s ++ (buffer_questions s ++ chain_questions s))) (sym (take-append-drop 4 (piece_questions s)))
          ∙ append_assoc four (drop 4 (piece_questions s)) (stream_questions s ++ (buffer_questions s ++ chain_questions s))

  real_first : Real first
  real_first = real_append (image_questions s) (row_questions s) (real_image s) (real_rows s)

  -- 40 gives its own number, or none
  queue_number : (answer_to (queue_questions s)).number ≢ 0 → (answer_to (queue_questions s)).number ≡ 40
  unfolding queue_questions each named answer_to
  queue_number h = go (first_no q.many q.ok) refl
    where
      q : Question
      q = each s 40 Streams (queue_fits s)

      go : (f : Option ℕ) → first_no q.many q.ok ≡ f → (answer_to (queue_questions s)).number ≡ 40
      go None e = absurd (h (number_of_holds (no_row q [] e)))
      go (Some r) e = number_of_holds (a_row q [] r e)

  past_first : (answer_to first).number ≡ 0 → answer_of s ≡ answer_to (queue_questions s ++ (four ++ late))
  past_first e = checked ∙ then_asked first (queue_questions s ++ (four ++ late)) real_first e

  module _ (w : List ℕ) where
    abbrev room : Bool
    room = leb draft_words (length w)

    asked_all : make_number s w ≡ (answer_to (first ++ (four ++ whole 34 room ∷ []))).number
    unfolding make_number number_of
    asked_all = number_of_holds (ap answer_to (append_assoc first four (whole 34 room ∷ [])))

    make_past_first : (answer_to first).number ≡ 0 → make_number s w ≡ (answer_to (four ++ whole 34 room ∷ [])).number
    make_past_first e = asked_all ∙ number_of_holds (then_asked first (four ++ whole 34 room ∷ []) real_first e)

    asks : (answer_of s).number ≢ 40 → make_number s w ≡ cond (is_early (answer_of s).number) (answer_of s).number (cond room 0 34)
    asks other = go (ℕ_discrete (answer_to first).number 0) (ℕ_discrete (answer_to (queue_questions s)).number 0)
      where
        go : Dec ((answer_to first).number ≡ 0) → Dec ((answer_to (queue_questions s)).number ≡ 0)
            → make_number s w ≡ cond (is_early (answer_of s).number) (answer_of s).number (cond room 0 34)
        go (no h) q =
            let n : (answer_of s).number ≡ (answer_to first).number = number_of_holds (checked ∙ stopped_first first (queue_questions s ++ (four ++ late)) h) in
            asked_all ∙ number_of_holds (stopped_first first (four ++ whole 34 room ∷ []) h) ∙ sym (rw n (pick (answer_to first).number (cond room 0 34) true (early_one first first_early h)))
        go (yes h) (no q) = absurd (other (number_of_holds (past_first h ∙ stopped_first (queue_questions s) (four ++ late) q) ∙ queue_number q))
        go (yes h) (yes q) =
            let n : (answer_of s).number ≡ (answer_to (four ++ late)).number = number_of_holds (past_first h ∙ then_asked (queue_questions s) (four ++ late) (real_queues s) q) in
            make_past_first h ∙ rw n (rest_asks room four late four_early all_late (real_four s))

    passes_40 : (answer_of s).number ≡ 40 → make_number s w ≡ number_of (four ++ whole 34 room ∷ [])
    unfolding number_of is_early
    passes_40 e = go (ℕ_discrete (answer_to first).number 0)
      where
        go : Dec ((answer_to first).number ≡ 0) → make_number s w ≡ (answer_to (four ++ whole 34 room ∷ [])).number
        go (yes h) = make_past_first h
        go (no h) =
            let n : (answer_to first).number ≡ 40 = sym (number_of_holds (checked ∙ stopped_first first (queue_questions s ++ (four ++ late)) h)) ∙ e in
            absurd (true≢false (sym (early_one first first_early h) ∙ ap is_early n))

pub make_asks : MakeAsks
make_asks s w = asks s w

pub make_passes_40 : MakePasses40
make_passes_40 s w = passes_40 s w
