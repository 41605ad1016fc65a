use Prim.Native.Nat.{◌≤◌}
use mathlib.Core.Path.{◌≡◌}
use Rattle.plan.specs.Image.{most_streams}
use Rattle.frames.specs.Index.{begins}
use Rattle.frames.proofs.Gathering.{Begun}
use Rattle.frames.proofs.place_streams.Given as goal

abbrev pub invariant-loop-stream : goal.invariant-loop-stream
invariant-loop-stream l = (l.streams ≤ most_streams) × (l.place ≡ begins l.image l.stream) × Begun l.image l.index l.stream
