use Prim.Native.Nat.{◌≤◌}
use mathlib.Core.Path.{refl, sym, ◌∙◌}
use lib.ListN.{length}
use Rattle.tallies.proofs.Tallying.{kept_fresh}
use Rattle.drafts.specs.Drafts.{draft_words}
use Rattle.totals.proofs.Passing.{enough, short_words, no_head, no_tasks, headed, no_places, rest_is}
use Rattle.totals.proofs.is_draft.Goals as goal

pub returns-then-words-lt-WORDS : goal.returns-then-words-lt-WORDS
returns-then-words-lt-WORDS c = short_words c.args.words.now c.if-words-lt-WORDS.true

pub head_in_range-requires : goal.head_in_range-requires
head_in_range-requires c = enough c.args.words.now c.if-words-lt-WORDS.false

pub returns-then-not-head_in_range : goal.returns-then-not-head_in_range
returns-then-not-head_in_range c = let w = c.args.words.now in let r : draft_words ≤ length w = enough w c.if-words-lt-WORDS.false in no_head w r (sym c.head_in_range.ensures ∙ c.if-not-head_in_range.true)

pub tasks_in_range-requires : goal.tasks_in_range-requires
tasks_in_range-requires c = let w = c.args.words.now in let r : draft_words ≤ length w = enough w c.if-words-lt-WORDS.false in (r, sym c.head_in_range.ensures ∙ c.if-not-head_in_range.false)

pub returns-then-not-tasks_in_range : goal.returns-then-not-tasks_in_range
returns-then-not-tasks_in_range c = let w = c.args.words.now in let r : draft_words ≤ length w = enough w c.if-words-lt-WORDS.false in let f = sym c.head_in_range.ensures ∙ c.if-not-head_in_range.false in no_tasks w r f (sym c.tasks_in_range.ensures ∙ c.if-not-tasks_in_range.true)

pub places_fit-requires : goal.places_fit-requires
places_fit-requires c = let w = c.args.words.now in let r : draft_words ≤ length w = enough w c.if-words-lt-WORDS.false in let f = sym c.head_in_range.ensures ∙ c.if-not-head_in_range.false in headed w r f (sym c.tasks_in_range.ensures ∙ c.if-not-tasks_in_range.false)

pub returns-then-not-places_fit : goal.returns-then-not-places_fit
returns-then-not-places_fit c = let w = c.args.words.now in let r : draft_words ≤ length w = enough w c.if-words-lt-WORDS.false in let f = sym c.head_in_range.ensures ∙ c.if-not-head_in_range.false in let t = sym c.tasks_in_range.ensures ∙ c.if-not-tasks_in_range.false in no_places w r f t (sym c.places_fit.ensures ∙ c.if-not-places_fit.true)

pub totals_true-requires : goal.totals_true-requires
totals_true-requires c = let w = c.args.words.now in let r : draft_words ≤ length w = enough w c.if-words-lt-WORDS.false in let f = sym c.head_in_range.ensures ∙ c.if-not-head_in_range.false in let t = sym c.tasks_in_range.ensures ∙ c.if-not-tasks_in_range.false in record { headed = (headed w r f t, sym c.places_fit.ensures ∙ c.if-not-places_fit.false); gathered_len = ((refl, kept_fresh 6144 0), (refl, kept_fresh 32 0)) }

pub returns : goal.returns
returns c = let w = c.args.words.now in let r : draft_words ≤ length w = enough w c.if-words-lt-WORDS.false in let f = sym c.head_in_range.ensures ∙ c.if-not-head_in_range.false in let t = sym c.tasks_in_range.ensures ∙ c.if-not-tasks_in_range.false in c.totals_true.ensures ∙ rest_is w r f t
