use mathlib.Core.Path.{refl}
use Rattle.plan.specs.declared.Table.TheVariants.{Streams, Frames}
use Rattle.terms.proofs.payload_of.Goals as goal

-- src/lib.rt:181:5
pub stream_at-requires : goal.stream_at-requires
stream_at-requires c = let p = c.requires in record { in_image = p.0.inside; row_bound = rw c.frame_at.ensures (p.0.names Frames c.args.frame p.1).0 }

-- src/lib.rt:177:1
pub returns : goal.returns
returns c = let p = c.requires in rw (c.stream_at.ensures, c.frame_at.ensures) (refl, (p.0.ranges Streams _ (p.0.names Frames c.args.frame p.1).0).5)
