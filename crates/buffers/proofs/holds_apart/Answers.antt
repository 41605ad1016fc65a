use mathlib.Core.Bool.{true, false}
use Rattle.buffers.specs.Holds.{hold_of, side_of}
use Rattle.buffers.proofs.Sides.{both_left, none_left}
use Rattle.buffers.proofs.Rising.{holds_rise}
use mathlib.Core.Path.{◌≡◌, refl, sym, ◌∙◌}
use native.Mathlib.Omega.{arith}
use Rattle.plan.specs.Questions.{hold}
use Rattle.buffers.proofs.Merging.{apart_none, apart_all, not_apart, pass_left, pass_right}
use Rattle.buffers.proofs.Sides.{holds_overlap, first_is_over, second_is_over, counted}
use Rattle.buffers.proofs.holds_apart.Goals as goal

pub buffer_jobs-lower_jobs-requires : goal.buffer_jobs-lower_jobs-requires
buffer_jobs-lower_jobs-requires c = let p = c.requires in (p.sound.0, let q = p.lower_lt_row.0 in omega arith)

pub buffer_jobs-jobs-requires : goal.buffer_jobs-jobs-requires
buffer_jobs-jobs-requires c = let p = c.requires in (p.sound.0, p.lower_lt_row.0.1)

pub loop-j-init : goal.loop-j-init
loop-j-init c = let a = c.args in (omega arith, omega arith, apart_none (hold a.image.now a.lower) (hold a.image.now a.row) _ _)

pub hold_of-a-requires : goal.hold_of-a-requires
hold_of-a-requires c = let t = both_left c.loop-j.j c.buffer_jobs-lower_jobs.result c.loop-j.k c.buffer_jobs-jobs.result c.loop-j-test.true in let p = c.requires in let g = c.buffer_jobs-lower_jobs.ensures in record { sound = (p.sound.0, p.sound.1.1); row_bound = ((let q = p.lower_lt_row.0 in omega arith), (p.lower_lt_row.1, omega (arith, t.0))) }

pub hold_of-b-requires : goal.hold_of-b-requires
hold_of-b-requires c = let t = both_left c.loop-j.j c.buffer_jobs-lower_jobs.result c.loop-j.k c.buffer_jobs-jobs.result c.loop-j-test.true in let p = c.requires in let g = c.buffer_jobs-jobs.ensures in record { sound = (p.sound.0, p.sound.1.1); row_bound = (p.lower_lt_row.0.1, (p.lower_lt_row.1, omega (arith, t.1))) }

pub returns-in-Overlap : goal.returns-in-Overlap
returns-in-Overlap c = let l = c.loop-j in let t = both_left c.loop-j.j c.buffer_jobs-lower_jobs.result c.loop-j.k c.buffer_jobs-jobs.result c.loop-j-test.true in let a = c.args in let p = c.requires in let s = a.image.now in let g = c.buffer_jobs-lower_jobs.ensures in let h = c.buffer_jobs-jobs.ensures in let m = c.buffer_jobs-lower_jobs.result in let n = c.buffer_jobs-jobs.result in let q = a.lower in let r = a.row in let F = hold s q in let G = hold s r in let e : c.side_of.result ≡ side_of (hold_of s q l.j) (hold_of s r l.k) = c.side_of.ensures ∙ (rw (c.hold_of-a.ensures, c.hold_of-b.ensures) refl) in sym (counted s q r m n false g h (not_apart F G m n l.j l.k t.0 t.1 (holds_overlap s q r l.j l.k (sym e ∙ c.in-Overlap.is))))

pub overflow_add-j : goal.overflow_add-j
overflow_add-j c = let t = both_left c.loop-j.j c.buffer_jobs-lower_jobs.result c.loop-j.k c.buffer_jobs-jobs.result c.loop-j-test.true in omega (arith, t.0)

pub loop-j-smaller-in-FirstOver : goal.loop-j-smaller-in-FirstOver
loop-j-smaller-in-FirstOver c = let t = both_left c.loop-j.j c.buffer_jobs-lower_jobs.result c.loop-j.k c.buffer_jobs-jobs.result c.loop-j-test.true in omega (arith, t.0)

pub loop-j-preserved-in-FirstOver : goal.loop-j-preserved-in-FirstOver
loop-j-preserved-in-FirstOver c = let l = c.loop-j in let t = both_left c.loop-j.j c.buffer_jobs-lower_jobs.result c.loop-j.k c.buffer_jobs-jobs.result c.loop-j-test.true in let a = c.args in let p = c.requires in let s = a.image.now in let g = c.buffer_jobs-lower_jobs.ensures in let h = c.buffer_jobs-jobs.ensures in let m = c.buffer_jobs-lower_jobs.result in let n = c.buffer_jobs-jobs.result in let q = a.lower in let r = a.row in let F = hold s q in let G = hold s r in let e : c.side_of.result ≡ side_of (hold_of s q l.j) (hold_of s r l.k) = c.side_of.ensures ∙ (rw (c.hold_of-a.ensures, c.hold_of-b.ensures) refl) in (omega (arith, t.0), l.invariant.1, pass_left F G m n l.j l.k l.invariant.2 (holds_rise s p.sound.0 p.sound.1.0 r n p.lower_lt_row.0.1 h) (first_is_over s q r l.j l.k (sym e ∙ c.in-FirstOver.is)))

pub overflow_add-k : goal.overflow_add-k
overflow_add-k c = let t = both_left c.loop-j.j c.buffer_jobs-lower_jobs.result c.loop-j.k c.buffer_jobs-jobs.result c.loop-j-test.true in omega (arith, t.1)

pub loop-j-smaller : goal.loop-j-smaller
loop-j-smaller c = let t = both_left c.loop-j.j c.buffer_jobs-lower_jobs.result c.loop-j.k c.buffer_jobs-jobs.result c.loop-j-test.true in omega (arith, t.1)

pub loop-j-preserved : goal.loop-j-preserved
loop-j-preserved c = let l = c.loop-j in let t = both_left c.loop-j.j c.buffer_jobs-lower_jobs.result c.loop-j.k c.buffer_jobs-jobs.result c.loop-j-test.true in let a = c.args in let p = c.requires in let s = a.image.now in let g = c.buffer_jobs-lower_jobs.ensures in let h = c.buffer_jobs-jobs.ensures in let m = c.buffer_jobs-lower_jobs.result in let n = c.buffer_jobs-jobs.result in let q = a.lower in let r = a.row in let F = hold s q in let G = hold s r in let e : c.side_of.result ≡ side_of (hold_of s q l.j) (hold_of s r l.k) = c.side_of.ensures ∙ (rw (c.hold_of-a.ensures, c.hold_of-b.ensures) refl) in (l.invariant.0, omega (arith, t.1), pass_right F G m n l.j l.k l.invariant.2 (holds_rise s p.sound.0 p.sound.1.0 q m (let w = p.lower_lt_row.0 in omega arith) g) (second_is_over s q r l.j l.k (sym e ∙ c.in-SecondOver.is)))

pub returns : goal.returns
returns c = let l = c.loop-j in let a = c.args in let s = a.image.now in let m = c.buffer_jobs-lower_jobs.result in let n = c.buffer_jobs-jobs.result in sym (counted s a.lower a.row m n true c.buffer_jobs-lower_jobs.ensures c.buffer_jobs-jobs.ensures (apart_all (hold s a.lower) (hold s a.row) m n l.j l.k (none_left l.j m l.k n c.loop-j-test.false) l.invariant.2))
