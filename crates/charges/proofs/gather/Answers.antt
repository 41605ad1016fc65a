use Rattle.tallies.proofs.Tallying.{kept_fresh}
use Rattle.plan.specs.Image.{most_vcpus}
use Rattle.charges.proofs.gather.Goals as goal

-- src/lib.rt:66:5
pub gather_after-requires : goal.gather_after-requires
gather_after-requires c = let p = c.requires in (p.0, (p.1, kept_fresh most_vcpus 0))
