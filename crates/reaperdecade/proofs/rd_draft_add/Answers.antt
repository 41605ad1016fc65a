use borrow.Author.Rules.{rules}
use Rattle.drafts.specs.Edits.{piece_of}
use Rattle.reaperdecade.proofs.rd_draft_add.Goals as goal

pub returns : goal.returns
unfolding piece_of
returns c = search rules
