use mathlib.Core.Path.{refl}
use Rattle.tallies.proofs.Tallying.{kept_at}
use Rattle.drafts.specs.Drafts.{places}
use Rattle.totals.specs.Gathers.{ticks_of, core_seen}
use Rattle.totals.proofs.core_seen.Goals as goal

pub returns : goal.returns
unfolding core_seen
returns c = let a = c.args in let p = c.requires in rw (c.core_switch-switch.ensures, c.core_total-total.ensures, kept_at a.sums.now 32 (ticks_of a.words.now places) p.core_sums.ticks a.core p.draft_words_in_bounds.1) refl
