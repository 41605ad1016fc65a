use mathlib.Core.List.{flat_map}
use Rattle.picking.specs.Picking.{picked_rows}
use Rattle.composing.specs.Composing.{Wrote}
use Rattle.composing.proofs.put_rows.Given as goal

abbrev pub invariant-loop-i : goal.invariant-loop-i
invariant-loop-i l = Wrote l.initial.joined l.at (flat_map (λ x. x) (picked_rows l.first l.second l.shared l.table l.picks l.i)) l.place l.joined
