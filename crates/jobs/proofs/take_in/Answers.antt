use Prim.Native.Nat.{◌+◌, ◌<◌, ◌≤◌}
use mathlib.Core.Path.{ap, ◌∙◌}
use native.Mathlib.Omega.{arith}
use lib.ListN.{get_or}
use Rattle.plan.specs.declared.Piece.{Piece}
use Rattle.plan.specs.declared.Table.TheVariants.{Tasks}
use Rattle.plan.specs.Image.{shape, most_pieces}
use Rattle.plan.proofs.Passing.{piece_ends}
use Rattle.jobs.specs.Times.{piece_place}
use Rattle.jobs.proofs.Gathering.{task_exists, at_is, at_fits, switch_less, work_is, work_fits, taken_in, passed_over}
use Rattle.jobs.proofs.take_in.Goals as goal

-- src/lib.rt:95:17
pub bounds-times-p : goal.bounds-times-p
unfolding shape
bounds-times-p c = let a = c.args in let s = a.image.now in let ts = a.times.now in let p = c.requires in let h = p.sound.0 in let q = p.sound.1.0 in let l = p.sound.1.1 in let g = p.gathered in let z = g.placed.size in let k = h.inside.counts Tasks in rw c.piece_at-p.ensures (omega (arith, task_exists s ts h 6 q (omega arith) a.piece l g))

-- src/lib.rt:95:17
pub overflow_add-place : goal.overflow_add-place
overflow_add-place c = let a = c.args in let s = a.image.now in let ts = a.times.now in let p = c.requires in let h = p.sound.0 in let q = p.sound.1.0 in let l = p.sound.1.1 in let g = p.gathered in let z = g.placed.size in rw (c.piece_at-p.ensures, at_is s ts h 6 q (omega arith) a.piece l g) (omega (arith, at_fits s ts h 6 q (omega arith) a.piece l g))

-- src/lib.rt:97:19
pub overflow_cast-end : goal.overflow_cast-end
overflow_cast-end c = let a = c.args in let s = a.image.now in let ts = a.times.now in let p = c.requires in let h = p.sound.0 in let q = p.sound.1.0 in let l = p.sound.1.1 in let g = p.gathered in let z = g.placed.size in let e = c.piece_end-end.ensures in omega (arith, piece_ends s 6 q (omega arith) a.piece l, h.cycle_most)

-- src/lib.rt:98:31
pub switch_ticks-requires : goal.switch_ticks-requires
switch_ticks-requires c = let a = c.args in let s = a.image.now in let ts = a.times.now in let p = c.requires in let h = p.sound.0 in let q = p.sound.1.0 in let l = p.sound.1.1 in let g = p.gathered in let z = g.placed.size in (h, rw c.piece_at-p.ensures (task_exists s ts h 6 q (omega arith) a.piece l g))

-- src/lib.rt:98:20
pub overflow_sub-work : goal.overflow_sub-work
overflow_sub-work c = let a = c.args in let s = a.image.now in let ts = a.times.now in let p = c.requires in let h = p.sound.0 in let q = p.sound.1.0 in let l = p.sound.1.1 in let g = p.gathered in let z = g.placed.size in rw (c.switch_ticks.ensures, c.piece_at-p.ensures) (switch_less s ts h 6 q (omega arith) a.piece l g)

-- src/lib.rt:99:9
pub take_at-requires : goal.take_at-requires
take_at-requires c = let a = c.args in let s = a.image.now in let ts = a.times.now in let p = c.requires in let h = p.sound.0 in let q = p.sound.1.0 in let l = p.sound.1.1 in let g = p.gathered in let z = g.placed.size in let e = c.piece_at-p.ensures in let f = ap (λ (x : Piece). get_or ts x.task 0 + x.job) e ∙ at_is s ts h 6 q (omega arith) a.piece l g in let y : piece_place s a.piece < most_pieces = omega (arith, f, c.if-place-lt-JOBS.true) in (z, (c.if-place-lt-JOBS.true, rw (c.switch_ticks.ensures, e, at_is s ts h 6 q (omega arith) a.piece l g, ← work_is s ts h 6 q (omega arith) a.piece l g) (work_fits s ts h 6 q (omega arith) a.piece l g y)))

-- src/lib.rt:89:1
pub returns-then-place-lt-JOBS : goal.returns-then-place-lt-JOBS
returns-then-place-lt-JOBS c = let a = c.args in let s = a.image.now in let ts = a.times.now in let p = c.requires in let h = p.sound.0 in let q = p.sound.1.0 in let l = p.sound.1.1 in let g = p.gathered in let z = g.placed.size in let e = c.piece_at-p.ensures in let f = ap (λ (x : Piece). get_or ts x.task 0 + x.job) e ∙ at_is s ts h 6 q (omega arith) a.piece l g in let y : piece_place s a.piece < most_pieces = omega (arith, f, c.if-place-lt-JOBS.true) in rw (c.take_at.ensures, c.piece_end-end.ensures, c.switch_ticks.ensures, e, at_is s ts h 6 q (omega arith) a.piece l g, ← work_is s ts h 6 q (omega arith) a.piece l g) (taken_in s ts h 6 q (omega arith) a.piece l g y)

-- src/lib.rt:89:1
pub returns-else-place-lt-JOBS : goal.returns-else-place-lt-JOBS
returns-else-place-lt-JOBS c = let a = c.args in let s = a.image.now in let ts = a.times.now in let p = c.requires in let h = p.sound.0 in let q = p.sound.1.0 in let l = p.sound.1.1 in let g = p.gathered in let z = g.placed.size in let e = c.piece_at-p.ensures in let f = ap (λ (x : Piece). get_or ts x.task 0 + x.job) e ∙ at_is s ts h 6 q (omega arith) a.piece l g in let y : most_pieces ≤ piece_place s a.piece = omega (arith, f, c.if-place-lt-JOBS.false) in passed_over s ts h 6 q (omega arith) a.piece l g y
