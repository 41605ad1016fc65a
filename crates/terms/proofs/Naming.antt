-- Row numbers reached through rows that exist name rows that exist.
use Prim.Native.Nat.{ℕ, ◌+◌, ◌-◌, ◌*◌, ◌≤◌, ◌<◌}
use native.Mathlib.Nat.{div-le_self}
use native.Mathlib.Omega.{arith}
use mathlib.Core.List.{List}
use Rattle.plan.specs.declared.Table.TheVariants.{Cores, Vcpus, Tasks, Windows, Links, Streams, Frames}
use Rattle.plan.specs.Image.{rows, task, window, link, stream, frame}
use Rattle.plan.specs.Questions.{core_of, window_core, overhead, send_ticks}
use Rattle.plan.specs.Held.{Sound}

module _ (s : List ℕ) (h : Sound s) where
  pub core_below : (t : ℕ) → t < rows s Tasks → core_of s t < rows s Cores
  unfolding core_of
  core_below t l = h.names Vcpus (task s t).vcpu (h.names Tasks t l)

  pub window_core_below : (w : ℕ) → w < rows s Windows → window_core s w < rows s Cores
  unfolding window_core
  window_core_below w l = h.names Vcpus (window s w).vcpu (h.names Windows w l)

  -- the longest frame on the slowest link
  pub send_most : (f : ℕ) → f < rows s Frames → send_ticks s f ≤ 1000000
  unfolding send_ticks overhead
  send_most f l =
      let m = h.ranges Streams (frame s f).stream (h.names Frames f l).0 in
      let r = h.ranges Links (frame s f).link (h.names Frames f l).1 in
      let n : ℕ = 8 * ((stream s (frame s f).stream).payload + 42) + ((link s (frame s f).link).rate - 1) in
      omega (arith, div-le_self n (link s (frame s f).link).rate, m.5, r.5)
