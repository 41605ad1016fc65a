use mathlib.Core.Path.{sym, ◌∙◌}
use native.Mathlib.Omega.{arith}
use lib.ListN.{get_or-eq_default}
use Rattle.plan.specs.Boundary.{words_of}
use Rattle.words.proofs.Words.{words_length, words_at}
use Rattle.records.proofs.word_at.Goals as goal

pub returns-then-i-words : goal.returns-then-i-words
returns-then-i-words c = let a = c.args in c.word.ensures ∙ sym (words_at a.words.now a.i c.if-i-words.true)

pub returns-else-i-words : goal.returns-else-i-words
returns-else-i-words c = sym (get_or-eq_default (words_of c.args.words.now) 0 (omega (arith, words_length c.args.words.now)))
