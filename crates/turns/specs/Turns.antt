-- A row of records, read as the states that it holds (paper 02, request 14).
use Rattle.std.specs.Prelude.{ℕ, List, map}
use Rattle.plan.specs.declared.LaneState.{LaneState}
use Rattle.plan.specs.Boundary.{state_of, records_of}

-- the states that a row of records holds
unfoldable pub states_of : List ℕ → List LaneState
states_of b = map state_of (records_of b)
