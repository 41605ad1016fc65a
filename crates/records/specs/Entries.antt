-- A part of question 27, asked before an entry is read.
use Rattle.std.specs.Prelude.{◌+◌, ◌*◌, ℕ, Bool, ◌&&◌, List, length, ltb, leb}
use Rattle.plan.specs.Dispatch.{table_entries}
use Rattle.plan.specs.declared.LaneState.{LaneState}

-- the state's table lies inside the words, and has the state's entry
unfoldable pub has_entry : List ℕ → LaneState → Bool
has_entry words st = leb (st.first + 2 + 3 * table_entries words st) (length words) && ltb st.entry (table_entries words st)
