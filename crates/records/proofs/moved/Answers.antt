use mathlib.Core.Path.{◌∙◌}
use Rattle.plan.specs.Boundary.{words_of}
use Rattle.moves.proofs.Deciding.{fitting}
use Rattle.records.proofs.Entries.{has_entry_holds, fits_said, state_said}
use Rattle.records.proofs.moved.Goals as goal

pub look_up-requires : goal.look_up-requires
look_up-requires c = has_entry_holds (words_of c.args.words.now) c.args.state c.requires

pub state_after-requires : goal.state_after-requires
state_after-requires c = let l = c.look_up in let k = fits_said (words_of c.args.words.now) c.args.state l.result l.ensures c.requires in (fitting l.result c.args.state k.0, k.1)

pub returns : goal.returns
returns c = let l = c.look_up in c.state_after.ensures ∙ state_said (words_of c.args.words.now) c.args.state l.result l.ensures c.requires
