use Prim.Native.Nat.{ℕ}
use mathlib.Core.Path.{subst}
use Rattle.jobs.specs.Times.{Cleared}
use Rattle.plan.specs.Image.{most_pieces}
use Rattle.jobs.proofs.gather.Goals as goal

-- src/lib.rt:124:5
pub place_tasks-requires : goal.place_tasks-requires
place_tasks-requires c = let p = c.requires in (p.0, subst (λ (h : ℕ). Cleared h c.clear_jobs.new.times most_pieces) c.cycle_ticks-cycle.ensures c.clear_jobs.ensures)
