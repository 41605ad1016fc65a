-- A step as a function of its state and of the few numbers that it looks up in its lane's table, wherever they are read from.
-- It is the step of paper 01 (Dispatch.antt) at the numbers that stand in the words: proofs/Reading.antt.
use Rattle.std.specs.Prelude.{ℕ, ◌+◌, ◌-◌, ◌*◌, ◌^◌, Bool, not, ◌&&◌, ◌||◌, cond, List, length, ltb, leb, eqb}
use Rattle.plan.specs.Dispatch.{table_ticks, table_entries, entry_word}
use Rattle.plan.specs.declared.LaneState.{LaneState}
use Rattle.plan.specs.declared.Stepped.{Stepped}
use Rattle.moves.specs.declared.Lookup.{Lookup}

-- the numbers that stand in the words
unfoldable pub lookup : List ℕ → LaneState → Lookup
lookup words st =
    record {
      inside = leb (st.first + 2 + 3 * table_entries words st) (length words);
      ticks = table_ticks words st;
      entries = table_entries words st;
      begin = entry_word words st st.entry 0;
      kind = entry_word words st st.entry 1;
      row = entry_word words st st.entry 2;
      next = entry_word words st (st.entry + 1) 0;
    }

module _ (l : Lookup) (st : LaneState) where
  -- 27
  unfoldable pub fits_table : Bool
  fits_table =
      l.inside
      && ltb st.entry l.entries && ltb st.tick l.ticks
      && leb l.begin st.tick
      && (leb l.entries (st.entry + 1) || ltb st.tick l.next)

  unfoldable pub ends_cycle : Bool
  ends_cycle = eqb (st.tick + 1) l.ticks

  -- 28 where it holds
  unfoldable pub ends_calendar : Bool
  ends_calendar = ends_cycle && eqb st.cycle (2 ^ 64 - 1)

  unfoldable pub entry_after : ℕ
  entry_after = cond (ltb (st.entry + 1) l.entries && leb l.next (st.tick + 1)) (st.entry + 1) st.entry

  unfoldable pub state_after : LaneState
  state_after =
      record {
        cycle = cond ends_cycle (st.cycle + 1) st.cycle;
        tick = cond ends_cycle 0 (st.tick + 1);
        entry = cond ends_cycle 0 entry_after;
        first = st.first;
        kind = l.kind;
        row = l.row;
      }

  unfoldable pub decided : Stepped
  decided =
      cond (not fits_table) (record { number = 27; state = st })
      (cond ends_calendar (record { number = 28; state = st })
      (record { number = 0; state = state_after }))
