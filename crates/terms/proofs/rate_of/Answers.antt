use mathlib.Core.Path.{refl}
use Rattle.plan.specs.declared.Table.TheVariants.{Links, Frames}
use Rattle.terms.proofs.rate_of.Goals as goal

-- src/lib.rt:189:5
pub link_at-requires : goal.link_at-requires
link_at-requires c = let p = c.requires in record { in_image = p.0.inside; row_bound = rw c.frame_at.ensures (p.0.names Frames c.args.frame p.1).1 }

-- src/lib.rt:185:1
pub returns : goal.returns
returns c = let p = c.requires in let y = p.0.ranges Links _ (p.0.names Frames c.args.frame p.1).1 in rw (c.link_at.ensures, c.frame_at.ensures) (refl, (y.4, y.5))
