use Prim.Native.Nat.{ℕ, ◌≤◌}
use mathlib.Core.Path.{◌≡◌}
use mathlib.Core.List.{List}
use native.Mathlib.Omega.{arith}
use lib.ListN.{length, length-take, length-replicate}
use Rattle.texts.specs.Printed.{Printed}
use Rattle.sizes.proofs.Texts.{text_fits}
use Rattle.plancheck.proofs.main.Goals as goal

-- no text is longer than the bytes lent, where these are as many as the longest text has
room : {s b after : List ℕ} {r m : ℕ} → Printed s b r after → length after ≡ m → 175786 ≤ m → r ≤ length after
room {s} h e k = omega (arith, h.given, text_fits s, e)

pub slice_bounds-text-end : goal.slice_bounds-text-end
slice_bounds-text-end c = let r = c.print-length in room r.ensures r.auto.out (rw (length-replicate) (omega arith))

pub slice_bounds-write_all-end : goal.slice_bounds-write_all-end
slice_bounds-write_all-end c = let r = c.print-length in let l : r.result ≤ length r.new.out = room r.ensures r.auto.out (rw (length-replicate) (omega arith)) in rw (length-take) (omega arith)
