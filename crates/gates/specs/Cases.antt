-- Gate lists of small plans, proved by one computation.
use Rattle.std.specs.Prelude.{ℕ, ◌≡◌, refl, set, replicate}
use mathlib.Core.List.{List, ◌∷◌, ◌++◌, map, [], flat_map}
use Rattle.plan.specs.declared.Answer.{Answer}
use Rattle.plan.specs.Questions.{accepted}
use Rattle.plan.specs.Boundary.{answer_number, words_of, first_words, bytes_of}
use Rattle.plan.specs.Cases.{bytes, case_b, sharing}
use Rattle.gates.specs.Gates.{gate_words, gate_answer, gated, gate_number, gate_bytes, gating}

-- case B (paper 01, "Cases"), its stream in queue q
in_queue : ℕ → List ℕ
in_queue q = bytes (set case_b 42 q)

-- two frames on one link, from 6 to 8 in queue 2 and from 8 to 10 in queue q
in_two : ℕ → List ℕ
in_two q = bytes (set (sharing 6 q) 67 8)

answer : ℕ → ℕ → Answer
answer n t = record { number = n; table = t; row = 0 }

-- what is expected: the gate list of link 0; for a link of case B in queue 3, or in a queue that there is not, and lent words, the answer and the words
-- afterwards; the same for lent bytes
data Gated : Type 0 where
  one : ℕ → List ℕ → Gated
  two : ℕ → List ℕ → Gated
  lent : ℕ → List ℕ → Answer → List ℕ → Gated
  wrong : ℕ → List ℕ → Answer → List ℕ → Gated
  stored : ℕ → List ℕ → ℕ → List ℕ → Gated

gatings : List Gated
gatings =
    one 0 (3 ∷ 0 ∷ 6 ∷ 1 ∷ 2 ∷ 0 ∷ 12 ∷ [])
    ∷ one 1 (3 ∷ 0 ∷ 6 ∷ 2 ∷ 2 ∷ 0 ∷ 12 ∷ [])
    ∷ one 7 (3 ∷ 0 ∷ 6 ∷ 128 ∷ 2 ∷ 0 ∷ 12 ∷ [])
    ∷ two 3 (4 ∷ 0 ∷ 6 ∷ 4 ∷ 2 ∷ 8 ∷ 2 ∷ 0 ∷ 10 ∷ [])
    ∷ two 2 (3 ∷ 0 ∷ 6 ∷ 4 ∷ 4 ∷ 0 ∷ 10 ∷ [])  -- equal neighbours are one
    ∷ lent 0 (replicate 8 9) accepted (3 ∷ 0 ∷ 6 ∷ 8 ∷ 2 ∷ 0 ∷ 12 ∷ 9 ∷ [])
    ∷ lent 0 (replicate 7 9) accepted (3 ∷ 0 ∷ 6 ∷ 8 ∷ 2 ∷ 0 ∷ 12 ∷ [])
    ∷ lent 0 (replicate 6 9) (answer 42 0) (replicate 6 9)
    ∷ lent 1 (replicate 8 9) (answer 25 0) (replicate 8 9)
    ∷ lent 1 (replicate 2 9) (answer 25 0) (replicate 2 9)  -- 25 before 42
    ∷ wrong 1 (replicate 2 9) (answer 40 7) (replicate 2 9)  -- and the check before both
    ∷ stored 0 (replicate 29 9) 0 (bytes (3 ∷ 0 ∷ 6 ∷ 8 ∷ 2 ∷ 0 ∷ 12 ∷ []) ++ 9 ∷ [])
    ∷ stored 0 (replicate 27 9) 42 (replicate 27 9)
    ∷ stored 1 (replicate 28 9) 25 (replicate 28 9)
    ∷ []

gate_listed : Gated → Gated
gate_listed (one q r) = one q (gate_words (in_queue q) 0)
gate_listed (two q r) = two q (gate_words (in_two q) 0)
gate_listed (lent l ws a r) = lent l ws (gate_answer (in_queue 3) l ws) (gated (in_queue 3) l ws)
gate_listed (wrong l ws a r) = wrong l ws (gate_answer (in_queue 8) l ws) (gated (in_queue 8) l ws)
gate_listed (stored l b n r) = stored l b (gate_number (in_queue 3) l b) (gate_bytes (in_queue 3) l b)

all_gated : map gate_listed gatings ≡ gatings
unfolding gating answer_number words_of first_words bytes_of flat_map bytes case_b sharing answer in_queue in_two gatings gate_listed
all_gated = refl
