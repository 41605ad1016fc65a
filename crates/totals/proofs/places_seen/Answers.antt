use Rattle.std.proofs.Common.{rules}
use Rattle.drafts.specs.Drafts.{places}
use Rattle.totals.proofs.places_seen.Goals as goal

pub all-requires : goal.all-requires
unfolding places
all-requires c = λ i l r. search rules

pub returns : goal.returns
unfolding places
returns c = search rules
