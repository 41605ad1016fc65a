-- The tables of all lanes one after another: where each begins, how long they are together, and building them.
use Prim.Native.Nat.{ℕ, zero, suc, ◌+◌, ◌*◌, ◌/◌, ◌≤◌, ◌<◌}
use mathlib.Core.Path.{◌≡◌, refl, sym, ap, ◌∙◌}
use mathlib.Core.Logic.{◌≢◌}
use mathlib.Core.List.{List, ◌∷◌, []}
use native.Mathlib.Omega.{arith}
use native.Mathlib.Decide.{dec_lt}
use lib.ListN.{length, length-append}
use lib.Dec.{leb}
use borrow.Author.Tests.{le-leb, lt-leb, ne_eqb}
use Rattle.plan.specs.declared.Answer.{Answer}
use Rattle.plan.specs.declared.Table.TheVariants.{Cores, Links}
use Rattle.plan.specs.Image.{shape, cycle_ticks}
use Rattle.plan.specs.Questions.{questions, answer_of, answer_to, accepted, whole}
use Rattle.plan.specs.Dispatch.{lanes, begins, entry_count, table_of, tables_below}
use Rattle.plan.proofs.Asking.{then_asked, stopped_first}
use Rattle.plan.proofs.Searching.{count_most}
use Rattle.lanes.proofs.Accepted.{cycle_small}
use Rattle.plan.proofs.Sounds.{accepted_sound}
use Rattle.plan.proofs.Numbers.{real}
use Rattle.lanes.proofs.Building.{asked, whole_yes, whole_no}
use Rattle.writing.specs.Stored.{stored}
use Rattle.writing.specs.AllTables.{all_tables, all_answer, all_bytes, BuiltAll}
use Rattle.writing.proofs.Storing.{stored_after, stored_front}
use Rattle.writing.proofs.Tables.{table_length}

module _ (s : List ℕ) where
  -- ---- lengths

  pub below_next : (n : ℕ) → length (tables_below s (suc n)) ≡ length (tables_below s n) + (2 + 3 * entry_count s n)
  unfolding tables_below
  below_next n = length-append (tables_below s n) (table_of s n) ∙ ap (λ (k : ℕ). length (tables_below s n) + k) (table_length s n)

  pub below_most : (m n : ℕ) → m ≤ n → length (tables_below s m) ≤ length (tables_below s n)
  below_most m zero l = let e : m ≡ 0 = omega arith in rw e (omega arith)
  below_most m (suc n) l = go (dec_lt n m) (below_most m n)
    where
      go : Dec (n < m) → (m ≤ n → length (tables_below s m) ≤ length (tables_below s n)) → length (tables_below s m) ≤ length (tables_below s (suc n))
      go (yes k) ih = let e : m ≡ suc n = omega arith in rw e (omega arith)
      go (no k) ih = omega (arith, ih (omega arith), below_next n)

  -- a lane's table lies inside all of them
  pub below_inside : (n : ℕ) → n < lanes s → length (tables_below s n) + (2 + 3 * entry_count s n) ≤ length (all_tables s)
  unfolding all_tables
  below_inside n l = omega (arith, below_next n, below_most (suc n) (lanes s) l)

  module _ (e : answer_of s ≡ accepted) where
    pub count_small : (lane : ℕ) → entry_count s lane ≤ 1000000
    unfolding entry_count
    count_small lane = omega (arith, count_most (begins s lane) (cycle_ticks s), cycle_small s e)

    pub lanes_small : lanes s ≤ 96
    unfolding lanes shape
    lanes_small = let k = (accepted_sound s e).inside.counts in omega (arith, k Cores, k Links)

    pub below_small : (n : ℕ) → length (tables_below s n) ≤ 3000002 * n
    unfolding tables_below
    below_small zero = omega arith
    below_small (suc n) = omega (arith, below_next n, below_small n, count_small n)

  -- ---- stores

  -- the tables below n, stored from byte 0 on
  pub stored_next : (b : List ℕ) (n at : ℕ) → at ≡ 4 * length (tables_below s n)
      → stored (stored b 0 (tables_below s n)) at (table_of s n) ≡ stored b 0 (tables_below s (suc n))
  unfolding tables_below
  stored_next b n at e = stored_after b 0 at (tables_below s n) (table_of s n) (omega arith)

  -- ---- building all

  module _ (b : List ℕ) where
    kept : (a : Answer) → a ≡ all_answer s b → a.number ≢ 0 → BuiltAll s b a b
    unfolding all_bytes
    kept a e h = record { answer = e; left = rw (← e, ne_eqb a.number 0 h) refl }

    -- the check refuses
    pub all_refused : (answer_of s).number ≢ 0 → BuiltAll s b (answer_of s) b
    unfolding all_answer answer_of
    all_refused h = kept (answer_of s) (sym (stopped_first (questions s) _ h)) h

    module _ (e : answer_of s ≡ accepted) where
      asks_26 : all_answer s b ≡ answer_to (whole 26 (leb (length (all_tables s)) (length b / 4)) ∷ [])
      unfolding all_answer answer_of
      asks_26 = then_asked (questions s) _ (real s) (ap (λ (a : Answer). a.number) e)

      -- 26: the words do not suffice
      pub all_short : length b / 4 < length (all_tables s) → BuiltAll s b (record { number = 26; table = 0; row = 0 }) b
      unfolding asked
      all_short h =
          kept (asked 26) (sym (asks_26 ∙ whole_no 26 (leb (length (all_tables s)) (length b / 4)) [] (lt-leb _ _ h))) (λ q. absurd (omega arith))

      -- the tables, and later bytes as they were
      pub all_done : length (all_tables s) ≤ length b / 4 → BuiltAll s b accepted (stored b 0 (all_tables s))
      unfolding all_bytes answer_to
      all_done h =
          let q : all_answer s b ≡ accepted = asks_26 ∙ whole_yes 26 (leb (length (all_tables s)) (length b / 4)) [] (le-leb _ _ h) in
          record { answer = sym q; left = rw q (stored_front b (all_tables s) (omega arith)) }
