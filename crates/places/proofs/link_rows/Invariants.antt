use Rattle.places.specs.Index.{base_of, Linked, Untouched}
use Rattle.places.proofs.link_rows.Given as goal

abbrev pub invariant-loop-row : goal.invariant-loop-row
invariant-loop-row l = Linked l.image l.occupant l.index l.row × Untouched (base_of l.occupant) l.initial.index l.index
