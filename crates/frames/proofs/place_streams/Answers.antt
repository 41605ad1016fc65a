use mathlib.Core.Path.{◌≡◌, subst, ◌∙◌}
use native.Mathlib.Omega.{arith}
use Rattle.plan.specs.declared.Table.TheVariants.{Streams}
use Rattle.plan.specs.Image.{rows, shape}
use Rattle.frames.proofs.Gathering.{Begun, begins_none, begins_more, begun_none, begun_more, taken_none}
use Rattle.frames.proofs.place_streams.Goals as goal

pub loop-stream-init : goal.loop-stream-init
unfolding shape
loop-stream-init c = let a = c.args in let p = c.requires in let k = p.0.inside.counts Streams in let g = c.rows_of-streams.ensures in (omega arith, begins_none a.image.now, rw p.1 (begun_none a.image.now))

pub loop-stream-preserved : goal.loop-stream-preserved
loop-stream-preserved c = let l = c.loop-stream in let s = c.args.image.now in (l.invariant.0, c.capped-place.ensures ∙ (rw c.span_of.ensures (begins_more s l.stream l.place l.invariant.1)), begun_more s l.index l.stream l.place (omega arith) l.invariant.1 l.invariant.2)

pub returns : goal.returns
returns c = let l = c.loop-stream in let s = c.args.image.now in let g = c.rows_of-streams.ensures in let e : l.stream ≡ rows s Streams = omega arith in taken_none s l.index (subst (Begun s l.index) e l.invariant.2)
