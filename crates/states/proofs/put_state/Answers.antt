use Rattle.states.proofs.Bytes.{state_stored}
use Rattle.states.proofs.put_state.Goals as goal

pub returns : goal.returns
returns c = rw (c.put_word-7.ensures, c.put_word-6.ensures, c.put_word-5.ensures, c.put_word-4.ensures, c.put_word-3.ensures, c.put_word-2.ensures, c.put_word.ensures) (state_stored c.args.state c.args.bytes.now c.requires)
