-- A window's charge: v at tick 0 and where no other window of its VCPU ends at its start, else nothing.
use Prim.Native.Nat.{ℕ, ◌<◌}
use mathlib.Core.Path.{◌≡◌, refl}
use mathlib.Core.Logic.{◌≢◌}
use mathlib.Core.Bool.{Bool, true, false, ◌&&◌, cond}
use mathlib.Core.List.{List}
use native.Mathlib.Omega.{arith}
use lib.Dec.{ltb}
use borrow.Author.Tests.{lt-ltb}
use Rattle.plan.specs.declared.Table.TheVariants.{Windows}
use Rattle.plan.specs.Image.{rows, window, core}
use Rattle.plan.specs.Search.{any}
use Rattle.plan.specs.Questions.{window_core, keeps_from, keeps_core, charge}

module _ (s : List ℕ) (w : ℕ) where
  pub pays_at_zero : (window s w).start ≡ 0 → charge s w ≡ (core s (window_core s w)).v
  unfolding charge keeps_core
  pays_at_zero e = rw e refl

  pub pays_alone : any (rows s Windows) (keeps_from s w) ≡ false → charge s w ≡ (core s (window_core s w)).v
  unfolding charge keeps_core
  pays_alone e = rw e (go (ltb 0 (window s w).start))
    where
      go : (b : Bool) → cond (b && false) 0 (core s (window_core s w)).v ≡ (core s (window_core s w)).v
      go true = refl
      go false = refl

  pub keeps : (window s w).start ≢ 0 → any (rows s Windows) (keeps_from s w) ≡ true → charge s w ≡ 0
  unfolding charge keeps_core
  keeps n e = let l : 0 < (window s w).start = omega (arith, n) in rw (e, lt-ltb 0 (window s w).start l) refl
