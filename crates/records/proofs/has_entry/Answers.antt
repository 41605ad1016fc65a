use mathlib.Core.Path.{refl}
use Rattle.plan.specs.Dispatch.{table_entries}
use Rattle.records.specs.Entries.{has_entry}
use Rattle.words.proofs.Words.{words_length}
use Rattle.records.proofs.has_entry.Goals as goal

pub returns : goal.returns
unfolding has_entry table_entries
returns c = let a = c.args in rw (c.word_at-entries.ensures, words_length a.words.now) refl
