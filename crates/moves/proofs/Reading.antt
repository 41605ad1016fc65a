-- The step of paper 01 is what is decided of the numbers that stand in the words: all that a reader of words has to show.
use Prim.Native.Nat.{ℕ, ◌+◌, ◌*◌}
use mathlib.Core.Path.{◌≡◌, refl}
use mathlib.Core.List.{List}
use native.Mathlib.Omega.{arith}
use lib.ListN.{length, get_or}
use lib.Dec.{leb}
use Rattle.plan.specs.Dispatch.{table_ticks, table_entries, entry_word, fits, last_tick, calendar_ends, next_entry, moved, step}
use Rattle.plan.specs.declared.LaneState.{LaneState}
use Rattle.moves.specs.declared.Lookup.{Lookup}
use Rattle.moves.specs.Lookups.{lookup, fits_table, ends_cycle, ends_calendar, entry_after, state_after, decided}

module _ (words : List ℕ) (st : LaneState) where
  pub step_read : decided (lookup words st) st ≡ step words st
  unfolding fits last_tick calendar_ends next_entry moved step lookup fits_table ends_cycle ends_calendar entry_after state_after decided
  step_read = refl

  -- the word at an index, or 0 past the end
  abbrev pub word : ℕ → ℕ
  word i = get_or words i 0

  -- where the current entry stands
  abbrev pub entry_at : ℕ
  entry_at = st.first + 2 + 3 * st.entry

  pub looked_up :
      ◌≡◌ {A = Lookup}
      (record {
        inside = leb (st.first + 2 + 3 * word (st.first + 1)) (length words);
        ticks = word st.first;
        entries = word (st.first + 1);
        begin = word entry_at;
        kind = word (entry_at + 1);
        row = word (entry_at + 2);
        next = word (entry_at + 3);
      })
      (lookup words st)
  unfolding lookup table_ticks table_entries entry_word
  looked_up =
      let b : st.first + 2 + 3 * st.entry + 0 ≡ entry_at = omega arith in
      let n : st.first + 2 + 3 * (st.entry + 1) + 0 ≡ entry_at + 3 = omega arith in
      rw (b, n) refl
