use Prim.Native.Nat.{ℕ, ◌+◌, ◌-◌, ◌*◌, ◌<◌}
use mathlib.Core.Path.{◌≡◌, refl, sym, ap, subst, ◌∙◌}
use mathlib.Core.Bool.{false}
use native.Mathlib.Omega.{arith}
use native.Mathlib.Numerals.{add-one}
use Rattle.plan.specs.Image.{cycle_ticks, shape}
use Rattle.plan.specs.declared.Table.TheVariants.{Tasks}
use Rattle.plan.specs.Search.{any}
use Rattle.plan.specs.Questions.{first_start}
use Rattle.plan.proofs.Searching.{any_turn}
use Rattle.paths.specs.Walks.{messages, sender_of, reader_of, sent_on}
use Rattle.paths.proofs.Leading.{asked_facts, sent_some, not_sent, sent, leads_none, leads_there, one_marked, later_reader, reader_below}
use Rattle.paths.proofs.+from_message_from_task.Goals as goal

-- src/lib.rt:55:9
pub from_message-returns-then-sender_of-task : goal.from_message-returns-then-sender_of-task
from_message-returns-then-sender_of-task t c = let a = c.args in let s = a.image.now in (sym (not_sent s a.task a.goal a.message (λ e. c.if-sender_of-task.true (c.sender_of.ensures ∙ e))), c.requires.1.1.1)

-- src/lib.rt:58:5
pub from_message-from_task-requires : goal.from_message-from_task-requires
from_message-from_task-requires t c = let a = c.args in let s = a.image.now in let p = c.requires in let e = c.reader_of-reader.ensures in let q : sender_of s a.message ≡ a.task = sym c.sender_of.ensures ∙ c.if-sender_of-task.false in let w = later_reader s (asked_facts s p.0) a.message p.1.1.0 (rw q p.1.0) in (rw e (subst (λ (u : ℕ). 2 * (cycle_ticks s - first_start s (reader_of s a.message) 0) + 1 < u) (ap (λ (u : ℕ). 2 * (cycle_ticks s - first_start s u 0)) q ∙ c.decreases) w), (p.0, (rw e (reader_below s p.0.sound a.message p.1.1.0), p.1.1.1)))

-- src/lib.rt:49:1
pub from_message-returns : goal.from_message-returns
from_message-returns t c = let a = c.args in let s = a.image.now in let e = c.reader_of-reader.ensures in let q : sender_of s a.message ≡ a.task = sym c.sender_of.ensures ∙ c.if-sender_of-task.false in (c.from_task.ensures.0 ∙ (rw e refl) ∙ sym (sent s a.task a.goal a.message q), c.from_task.ensures.1)

-- src/lib.rt:68:9
pub from_task-returns-then-task-goal : goal.from_task-returns-then-task-goal
from_task-returns-then-task-goal t c = let a = c.args in (sym (leads_there a.image.now a.task a.goal c.if-task-goal.true), c.requires.1.1)

-- src/lib.rt:70:8
pub from_task-bounds-marks-task : goal.from_task-bounds-marks-task
unfolding shape
from_task-bounds-marks-task t c = let p = c.requires in let m = p.0.sound.inside.counts Tasks in let e = p.1.1.size in omega (arith, p.1.0)

-- src/lib.rt:75:5
pub from_task-loop-message-init : goal.from_task-loop-message-init
unfolding any
from_task-loop-message-init t c = (c.requires.1.1, refl)

-- src/lib.rt:77:13
pub from_task-returns-then-from_message : goal.from_task-returns-then-from_message
from_task-returns-then-from_message t c = let a = c.args in let s = a.image.now in let l = c.loop-message in let p = c.requires in let e = c.message_count-messages.ensures in (sym (sent_some s p.0.sound a.task a.goal l.message (omega (arith, c.loop-message-test.true)) (sym c.from_message.ensures.0 ∙ c.if-from_message.true)), c.from_message.ensures.1)

-- src/lib.rt:75:5
pub from_task-loop-message-preserved : goal.from_task-loop-message-preserved
from_task-loop-message-preserved t c = let a = c.args in let s = a.image.now in let l = c.loop-message in (c.from_message.ensures.1, rw (add-one l.message) (any_turn (sent_on s a.task a.goal) l.message l.invariant.1 (sym c.from_message.ensures.0 ∙ c.if-from_message.false)))

-- src/lib.rt:81:5
pub from_task-bounds-marks-task-2 : goal.from_task-bounds-marks-task-2
unfolding shape
from_task-bounds-marks-task-2 t c = let p = c.requires in let m = p.0.sound.inside.counts Tasks in let e = c.loop-message.invariant.0.size in omega (arith, p.1.0)

-- src/lib.rt:62:1
pub from_task-returns : goal.from_task-returns
unfolding shape
from_task-returns t c = let a = c.args in let s = a.image.now in let p = c.requires in let l = c.loop-message in let e = c.message_count-messages.ensures in let m = p.0.sound.inside.counts Tasks in let q : l.message ≡ messages s = omega (arith, c.loop-message-test.false) in let d = leads_none s a.task a.goal c.if-task-goal.false (subst (λ (n : ℕ). any n (sent_on s a.task a.goal) ≡ false) q l.invariant.1) in (sym d, one_marked s a.goal l.marks a.task (omega (arith, p.1.0)) l.invariant.0 d)
