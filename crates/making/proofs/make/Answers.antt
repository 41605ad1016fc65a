use mathlib.Core.Path.{sym, ap, ◌∙◌}
use Rattle.drafts.specs.Edits.{summed}
use Rattle.making.proofs.Made.{make_early, make_34, make_0, sound_here, ready_here, room_here, short_here}
use Rattle.making.proofs.make.Goals as goal

pub returns-then-number-ne0 : goal.returns-then-number-ne0
returns-then-number-ne0 c = let s = c.args.image.now in let w = c.args.words.now in make_early s w _ c.asked-number.ensures c.if-number-ne0.true

pub returns-then-words-lt-WORDS : goal.returns-then-words-lt-WORDS
returns-then-words-lt-WORDS c = let s = c.args.image.now in let w = c.args.words.now in make_34 s w (sym c.asked-number.ensures ∙ c.if-number-ne0.false) (short_here w c.if-words-lt-WORDS.true)

pub copy-requires : goal.copy-requires
copy-requires c = let s = c.args.image.now in let w = c.args.words.now in let l = room_here w c.if-words-lt-WORDS.false in (sound_here s w (sym c.asked-number.ensures ∙ c.if-number-ne0.false) l, l)

pub sum_up-requires : goal.sum_up-requires
sum_up-requires c = let s = c.args.image.now in let w = c.args.words.now in ready_here s w (sym c.asked-number.ensures ∙ c.if-number-ne0.false) (room_here w c.if-words-lt-WORDS.false) _ c.copy.ensures

pub returns : goal.returns
returns c = let s = c.args.image.now in let w = c.args.words.now in make_0 s w (sym c.asked-number.ensures ∙ c.if-number-ne0.false) _ (room_here w c.if-words-lt-WORDS.false) (c.sum_up.ensures ∙ ap summed c.copy.ensures)
