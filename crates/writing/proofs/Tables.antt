-- A lane's table in lent bytes: H, n and the entries; refused by the check, 25, 26, or done.
use Prim.Native.Nat.{ℕ, ◌+◌, ◌*◌, ◌/◌, ◌≤◌, ◌<◌}
use mathlib.Core.Path.{◌≡◌, refl, ap, ◌∙◌}
use mathlib.Core.Logic.{◌≢◌}
use mathlib.Core.List.{List, ◌∷◌, []}
use native.Mathlib.Omega.{arith}
use lib.ListN.{length}
use lib.Seq.{sets}
use borrow.Author.Tests.{ne_eqb}
use Rattle.plan.specs.declared.Answer.{Answer}
use Rattle.plan.specs.Image.{cycle_ticks}
use Rattle.plan.specs.Questions.{answer_of, accepted}
use Rattle.plan.specs.Dispatch.{lanes, entries, entry_count, table_of, build_answer}
use Rattle.plan.specs.Boundary.{bytes_of, words_of, build_bytes}
use Rattle.plan.proofs.Tables.{entries_length}
use Rattle.lanes.proofs.Building.{build_refused, build_no_lane, build_short, build_done}
use Rattle.writing.specs.Stored.{stored, Built}
use Rattle.words.proofs.Words.{words_length}
use Rattle.writing.proofs.Storing.{stored_one, stored_after, stored_before, stored_front}

-- two words, and the three of an entry
pub two_stored : (b : List ℕ) (i x y : ℕ) → sets (sets b i (bytes_of 4 x)) (i + 4) (bytes_of 4 y) ≡ stored b i (x ∷ y ∷ [])
two_stored b i x y =
    stored_one (sets b i (bytes_of 4 x)) (i + 4) y ∙ ap (λ (v : List ℕ). stored v (i + 4) (y ∷ [])) (stored_one b i x) ∙ stored_after b i (i + 4) (x ∷ []) (y ∷ []) (omega arith)

pub entry_stored : (b : List ℕ) (i x y z : ℕ) → sets (sets (sets b i (bytes_of 4 x)) (i + 4) (bytes_of 4 y)) (i + 8) (bytes_of 4 z) ≡ stored b i (x ∷ y ∷ z ∷ [])
entry_stored b i x y z =
    stored_one (sets (sets b i (bytes_of 4 x)) (i + 4) (bytes_of 4 y)) (i + 8) z
    ∙ ap (λ (v : List ℕ). stored v (i + 8) (z ∷ [])) (two_stored b i x y) ∙ stored_after b i (i + 8) (x ∷ y ∷ []) (z ∷ []) (omega arith)

module _ (s : List ℕ) (lane : ℕ) where
  pub table_length : length (table_of s lane) ≡ 2 + 3 * entry_count s lane
  unfolding table_of entry_count
  table_length = omega (arith, entries_length s lane (cycle_ticks s))

  -- H and n before the entries
  pub table_stored : (b : List ℕ) (i j h n : ℕ) → j ≡ i + 8 → h ≡ cycle_ticks s → n ≡ entry_count s lane
      → sets (sets (stored b j (entries s lane (cycle_ticks s))) i (bytes_of 4 h)) (i + 4) (bytes_of 4 n) ≡ stored b i (table_of s lane)
  unfolding table_of
  table_stored b i j h n e p q =
      let v = stored b j (entries s lane (cycle_ticks s)) in
      two_stored v i h n ∙ rw (p, q) (stored_before b i j (cycle_ticks s ∷ entry_count s lane ∷ []) (entries s lane (cycle_ticks s)) (omega arith))

  -- ---- table building

  module _ (b : List ℕ) where
    kept : (a : Answer) → a ≡ build_answer s lane (words_of b) → a.number ≢ 0 → Built s lane b a b
    unfolding build_bytes
    kept a e h = record { answer = e; left = rw (← e, ne_eqb a.number 0 h) refl }

    -- the check refuses
    pub bytes_refused : (answer_of s).number ≢ 0 → Built s lane b (answer_of s) b
    bytes_refused h = kept (answer_of s) (build_refused s lane (words_of b) h).answer h

    module _ (e : answer_of s ≡ accepted) where
      -- 25: there is no such lane
      pub bytes_no_lane : lanes s ≤ lane → Built s lane b (record { number = 25; table = 0; row = 0 }) b
      bytes_no_lane l = kept _ (build_no_lane s lane (words_of b) e l).answer (λ q. absurd (omega arith))

      -- 26: the words do not suffice
      pub bytes_short : lane < lanes s → length b / 4 < 2 + 3 * entry_count s lane → Built s lane b (record { number = 26; table = 0; row = 0 }) b
      bytes_short l h = kept _ (build_short s lane (words_of b) e l (omega (arith, words_length b))).answer (λ q. absurd (omega arith))

      -- the table, and later bytes as they were
      pub bytes_done : lane < lanes s → 2 + 3 * entry_count s lane ≤ length b / 4 → Built s lane b accepted (stored b 0 (table_of s lane))
      unfolding build_bytes
      bytes_done l h =
          let q = (build_done s lane (words_of b) e l (omega (arith, words_length b))).answer in
          record { answer = q; left = rw (← q) (stored_front b (table_of s lane) (omega (arith, table_length))) }
