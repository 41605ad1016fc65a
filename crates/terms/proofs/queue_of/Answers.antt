use mathlib.Core.Path.{refl}
use Rattle.plan.specs.declared.Table.TheVariants.{Frames}
use Rattle.plan.specs.Questions.{queue_of}
use Rattle.terms.proofs.queue_of.Goals as goal

-- src/lib.rt:232:5
pub stream_at-requires : goal.stream_at-requires
stream_at-requires c = let p = c.requires in record { in_image = p.0.inside; row_bound = rw c.frame_at-stream.ensures (p.0.names Frames c.args.frame p.1).0 }

-- src/lib.rt:227:1
pub returns : goal.returns
unfolding queue_of
returns c = rw (c.stream_at.ensures, c.frame_at-stream.ensures) refl
