use Rattle.tallies.proofs.Tallying.{kept_fresh}
use Rattle.plan.specs.Image.{most_vcpus}
use Rattle.inside.proofs.first_outside.Goals as goal

-- src/lib.rt:102:5
pub outside_after-requires : goal.outside_after-requires
outside_after-requires c = let p = c.requires in record { sound = (p.0, (p.1.0, p.1.1)); kept = kept_fresh most_vcpus 0 }
