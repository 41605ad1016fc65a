use mathlib.Core.Path.{refl}
use native.Mathlib.Omega.{arith}
use Rattle.plan.specs.declared.Table.TheVariants.{Cores, Links}
use Rattle.plan.specs.Image.{shape}
use Rattle.plan.specs.Dispatch.{lanes}
use Rattle.plan.proofs.Sounds.{accepted_sound}
use Rattle.lanes.proofs.lane_count.Goals as goal

pub rows_of-requires : goal.rows_of-requires
rows_of-requires c = (accepted_sound c.args.image.now c.requires).inside.trailer

pub rows_of-requires-2 : goal.rows_of-requires-2
rows_of-requires-2 c = (accepted_sound c.args.image.now c.requires).inside.trailer

pub overflow_add-result : goal.overflow_add-result
unfolding shape
overflow_add-result c = let s = c.args.image.now in let k = (accepted_sound s c.requires).inside.counts in let e = c.rows_of.ensures in let f = c.rows_of-2.ensures in omega (arith, k Cores, k Links)

pub returns : goal.returns
unfolding lanes
returns c = rw (c.rows_of.ensures, c.rows_of-2.ensures) refl
