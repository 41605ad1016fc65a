use Rattle.moves.proofs.Reading.{step_read}
use Rattle.steps.proofs.step.Goals as goal

pub returns : goal.returns
returns c = rw (c.decide.ensures, c.look_up.ensures) (step_read c.args.words.now c.args.state)
