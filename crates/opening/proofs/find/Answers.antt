use Prim.Native.Nat.{ℕ}
use mathlib.Core.Path.{subst}
use native.Mathlib.Omega.{arith}
use Rattle.plan.specs.declared.Table.TheVariants.{Frames}
use Rattle.plan.specs.Image.{rows}
use Rattle.plan.proofs.Sounds.{accepted_sound}
use Rattle.opening.specs.Listings.{GoneOn}
use Rattle.opening.proofs.Sending.{room, last_count, last_room, count_all, list_all}
use Rattle.opening.proofs.find.Goals as goal

-- src/lib.rt:149:9
pub cycle_ticks-end-requires : goal.cycle_ticks-end-requires
cycle_ticks-end-requires c = (accepted_sound _ c.requires.0).inside.trailer

-- src/lib.rt:151:9
pub idle_to-last-requires : goal.idle_to-last-requires
idle_to-last-requires c = let a = c.args in let p = c.requires in let s = a.image.now in let w = c.send_all-sent in let h = c.cycle_ticks-end.ensures in (room s p.0 a.link a.list.now (rows s Frames) w.new.list w.result w.ensures (omega arith) p.1, rw h w.ensures.holds.goes.within)

-- src/lib.rt:152:5
pub put-requires : goal.put-requires
put-requires c = let a = c.args in let p = c.requires in let s = a.image.now in let w = c.send_all-sent in let h = c.cycle_ticks-end.ensures in let i = c.idle_to-last in let g = subst (λ (t : ℕ). GoneOn w.new.list w.result 0 t i.new.list i.result) h i.ensures in last_room s p.0 a.link a.list.now p.1 w.new.list w.result w.ensures i.new.list i.result g

-- src/lib.rt:158:15
pub overflow_add-list : goal.overflow_add-list
overflow_add-list c = let a = c.args in let p = c.requires in let s = a.image.now in let w = c.send_all-sent in let h = c.cycle_ticks-end.ensures in let i = c.idle_to-last in let g = subst (λ (t : ℕ). GoneOn w.new.list w.result 0 t i.new.list i.result) h i.ensures in omega (arith, last_count s p.0 a.link a.list.now p.1 w.new.list w.result w.ensures i.new.list i.result g)

-- src/lib.rt:159:5
pub overflow_add-result : goal.overflow_add-result
overflow_add-result c = let a = c.args in let p = c.requires in let s = a.image.now in let w = c.send_all-sent in let h = c.cycle_ticks-end.ensures in let i = c.idle_to-last in let g = subst (λ (t : ℕ). GoneOn w.new.list w.result 0 t i.new.list i.result) h i.ensures in omega (arith, last_count s p.0 a.link a.list.now p.1 w.new.list w.result w.ensures i.new.list i.result g)

-- src/lib.rt:145:1
pub returns : goal.returns
returns c = let a = c.args in let p = c.requires in let s = a.image.now in let w = c.send_all-sent in let h = c.cycle_ticks-end.ensures in let i = c.idle_to-last in let g = subst (λ (t : ℕ). GoneOn w.new.list w.result 0 t i.new.list i.result) h i.ensures in (count_all s p.0 a.link a.list.now p.1 w.new.list w.result w.ensures i.new.list i.result g, rw (c.put.ensures, h) (list_all s p.0 a.link a.list.now p.1 w.new.list w.result w.ensures i.new.list i.result g))
