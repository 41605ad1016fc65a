-- What code takes from a draft's head.
use Prim.Native.Nat.{ℕ, ◌%◌, ◌<◌, ◌≤◌}
use mathlib.Core.Path.{◌≡◌, refl, sym}
use mathlib.Core.Bool.{Bool, true, false, ◌&&◌}
use mathlib.Core.List.{List}
use native.Mathlib.Omega.{arith}
use lib.Dec.{ltb}
use Rattle.plan.proofs.Tests.{r_lt, r_le, r_eq, r_and₅}
use Rattle.drafts.specs.Drafts.{draft_cycle, draft_cores, draft_tasks, task_core, task_period, task_deadline, task_in_range}
use Rattle.draftwords.specs.Heads.{Headed}
use Rattle.drafts.proofs.Heads.{r_head}

-- a task without a period
and_false : (a b c d : Bool) → a && false && b && c && d ≡ false
and_false true b c d = refl
and_false false b c d = refl

pub no_period : (w : List ℕ) (t : ℕ) → task_period w t ≡ 0 → false ≡ task_in_range w t
unfolding task_in_range
no_period w t e = sym (rw (e) (and_false (ltb (task_core w t) (draft_cores w)) _ _ _))

module _ (w : List ℕ) (h : Headed w) where
  pub head_parts : (1 ≤ draft_cycle w) × (draft_cycle w ≤ 1000000) × (1 ≤ draft_cores w) × (draft_cores w ≤ 32) × (draft_tasks w ≤ 256)
  head_parts = (r_head w).0 h.head

  -- a task's core exists and its period is not 0
  pub task_parts : (t : ℕ) → t < draft_tasks w → (task_core w t < 32) × (0 < task_period w t)
  unfolding task_in_range
  task_parts t l =
      let k = (r_and₅ (r_lt (task_core w t) (draft_cores w)) (r_le 1 (task_period w t)) (r_eq (draft_cycle w % task_period w t) 0) (r_le 1 (task_deadline w t)) (r_le (task_deadline w t) (task_period w t))).0 (h.tasks t l) in
      let a : task_core w t < draft_cores w = k.0 in (omega (arith, head_parts.3), k.1)

  pub deadline_period : (t : ℕ) → t < draft_tasks w → task_deadline w t ≤ task_period w t
  unfolding task_in_range
  deadline_period t l =
      ((r_and₅ (r_lt (task_core w t) (draft_cores w)) (r_le 1 (task_period w t)) (r_eq (draft_cycle w % task_period w t) 0) (r_le 1 (task_deadline w t)) (r_le (task_deadline w t) (task_period w t))).0 (h.tasks t l)).4
