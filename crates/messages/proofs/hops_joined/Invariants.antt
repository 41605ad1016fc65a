use mathlib.Core.Path.{◌≡◌}
use mathlib.Core.Bool.{true}
use Rattle.plan.specs.Search.{all}
use Rattle.plan.specs.Questions.{reached}
use Rattle.messages.proofs.Framing.{leaves}
use Rattle.messages.proofs.hops_joined.Given as goal

abbrev pub invariant-loop-hop : goal.invariant-loop-hop
invariant-loop-hop l = (l.node ≡ reached l.image l.stream l.job l.hop) × (all l.hop (leaves l.image l.stream l.job) ≡ true)
