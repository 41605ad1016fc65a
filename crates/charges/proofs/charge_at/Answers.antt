use native.Mathlib.Omega.{arith}
use Rattle.plan.specs.Image.{rows, shape}
use Rattle.plan.specs.Questions.{charge}
use Rattle.tallies.proofs.Tallying.{kept_at}
use Rattle.plan.specs.declared.Table.TheVariants.{Windows}
use Rattle.charges.proofs.charge_at.Goals as goal

-- src/lib.rt:51:5
pub bounds-charges-window : goal.bounds-charges-window
unfolding shape
bounds-charges-window c = let p = c.requires in let m = p.1.0.inside.counts Windows in let e = p.0.size in omega arith

-- src/lib.rt:47:1
pub returns : goal.returns
returns c = let a = c.args in let s = a.image.now in let p = c.requires in kept_at a.charges.now (rows s Windows) (charge s) p.0.each a.window p.1.1
