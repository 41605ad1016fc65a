use mathlib.Core.Path.{sym, ◌∙◌}
use Rattle.questions.proofs.Verdict.{ask_accepts}
use Rattle.printing.proofs.Written.{printed_refused, printed_accepted}
use Rattle.printing.proofs.print.Goals as goal

pub returns-in-Err : goal.returns-in-Err
returns-in-Err c = let a = c.args in printed_refused a.image.now a.out.now c.in-Err.no (sym c.in-Err.is ∙ c.ask.ensures) c.put_told.ensures

pub put_tables-requires : goal.put_tables-requires
put_tables-requires c = (ask_accepts c.args.image.now (sym c.in_default.is ∙ c.ask.ensures), c.put_told-at.ensures.few)

pub returns : goal.returns
returns c =
    let a = c.args in let s = a.image.now in
    printed_accepted s a.out.now c.accepted.result c.accepted.ensures (ask_accepts s (sym c.in_default.is ∙ c.ask.ensures)) c.put_told-at.ensures c.put_tables.ensures
