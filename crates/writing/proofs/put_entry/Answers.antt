use Rattle.writing.proofs.Tables.{entry_stored}
use Rattle.writing.proofs.put_entry.Goals as goal

pub returns : goal.returns
returns c = let a = c.args in rw (c.put_word-3.ensures, c.put_word-2.ensures, c.put_word.ensures) (entry_stored a.bytes.now a.at a.first a.kind a.row)
