use mathlib.Core.Path.{refl}
use Rattle.plan.specs.declared.Table.TheVariants.{Pieces}
use Rattle.plan.specs.Questions.{piece_fits}
use Rattle.pieces.proofs.piece_fits.Goals as goal

-- src/lib.rt:75:26
pub jobs_of-requires : goal.jobs_of-requires
jobs_of-requires c = let p = c.requires in (p.0, rw c.piece_at-p.ensures (p.0.names Pieces c.args.piece p.1))

-- src/lib.rt:76:16
pub switch_ticks-requires : goal.switch_ticks-requires
switch_ticks-requires c = let p = c.requires in (p.0, rw c.piece_at-p.ensures (p.0.names Pieces c.args.piece p.1))

-- src/lib.rt:77:18
pub release_of-requires : goal.release_of-requires
release_of-requires c = let p = c.requires in (p.0, rw c.piece_at-p.ensures (p.0.names Pieces c.args.piece p.1))

-- src/lib.rt:78:43
pub due_of-requires : goal.due_of-requires
due_of-requires c = let p = c.requires in (p.0, rw c.piece_at-p.ensures (p.0.names Pieces c.args.piece p.1))

-- src/lib.rt:70:1
pub returns : goal.returns
unfolding piece_fits
returns c = rw (c.due_of.ensures, c.piece_end.ensures, c.release_of.ensures, c.switch_ticks.ensures, c.jobs_of.ensures, c.piece_at-p.ensures) refl
