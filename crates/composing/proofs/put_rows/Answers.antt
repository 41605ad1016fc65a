use Prim.Native.Nat.{ℕ}
use mathlib.Core.Path.{◌≡◌, sym, ap}
use mathlib.Core.List.{flat_map}
use native.Mathlib.Omega.{arith}
use Rattle.plan.specs.Image.{shape}
use Rattle.picking.specs.Picking.{picked_rows}
use Rattle.composing.proofs.Writing.{wrote_none, wrote_more, wrote_as, wrote_size, flat_none, flat_next, flat_long, rows_room, numbers_low}
use Rattle.composing.proofs.put_rows.Goals as goal

pub loop-i-init : goal.loop-i-init
loop-i-init c = let a = c.args in wrote_as a.joined.now a.at (wrote_none a.joined.now a.at) (sym (flat_none a.first.now a.second.now a.shared a.table a.picks.now))

pub overflow_cast-i : goal.overflow_cast-i
overflow_cast-i c = omega arith

pub offset_bounds-picks-i : goal.offset_bounds-picks-i
offset_bounds-picks-i c = omega arith

pub bounds-picks-i : goal.bounds-picks-i
bounds-picks-i c = omega (arith, c.requires.numbers.0.room)

pub put_row-place-requires : goal.put_row-place-requires
put_row-place-requires c = let a = c.args in let p = c.requires in let l = c.loop-i in record { ready = p.ready; row_bound = (p.numbers.0.named l.i (omega arith), omega (arith, l.invariant.reached, wrote_size a.joined.now a.at l.invariant, p.numbers.1, rows_room (shape a.table).width l.i a.n (omega arith), flat_long a.first.now a.second.now a.shared a.table a.picks.now l.i (numbers_low a.first.now a.second.now a.shared a.table a.picks.now a.n l.i p.numbers.0 (omega arith)))) }

pub loop-i-preserved : goal.loop-i-preserved
loop-i-preserved c = let a = c.args in let l = c.loop-i in wrote_as a.joined.now a.at (wrote_more a.joined.now a.at l.invariant c.put_row-place.ensures) (sym (flat_next a.first.now a.second.now a.shared a.table a.picks.now l.i))

pub shape_of-joined : goal.shape_of-joined
shape_of-joined c = wrote_size c.args.joined.now c.args.at c.loop-i.invariant

pub returns : goal.returns
returns c = let a = c.args in let l = c.loop-i in let e : l.i ≡ a.n = omega arith in wrote_as a.joined.now a.at l.invariant (ap (λ (k : ℕ). flat_map (λ x. x) (picked_rows a.first.now a.second.now a.shared a.table a.picks.now k)) e)
