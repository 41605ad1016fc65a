use mathlib.Core.Path.{refl}
use native.Mathlib.Omega.{arith}
use Rattle.plan.specs.declared.Table.TheVariants.{Frames}
use Rattle.plan.specs.Questions.{over_from}
use Rattle.terms.proofs.over_from.Goals as goal

-- src/lib.rt:241:33
pub link_at-requires : goal.link_at-requires
link_at-requires c = let p = c.requires in record { in_image = p.0.inside; row_bound = rw c.frame_at-f.ensures (p.0.names Frames c.args.frame p.1).1 }

-- src/lib.rt:244:9
pub returns-then-over-precision : goal.returns-then-over-precision
unfolding over_from
returns-then-over-precision c = let l = rw (c.precision_ticks-precision.ensures, c.link_at.ensures, c.frame_at-f.ensures) at c.if-over-precision.true in omega arith

-- src/lib.rt:236:1
pub returns : goal.returns
unfolding over_from
returns c = rw (c.precision_ticks-precision.ensures, c.link_at.ensures, c.frame_at-f.ensures) refl
