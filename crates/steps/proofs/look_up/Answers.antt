use Rattle.moves.proofs.Reading.{looked_up}
use Rattle.steps.proofs.look_up.Goals as goal

pub returns : goal.returns
returns c =
    rw (c.word_at-next.ensures, c.word_at-row.ensures, c.word_at-kind.ensures, c.word_at-begin.ensures, c.word_at-entries.ensures, c.word_at-ticks.ensures)
    (looked_up c.args.words.now c.args.state)
