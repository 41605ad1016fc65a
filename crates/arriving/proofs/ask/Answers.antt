use Rattle.std.proofs.Common.{rules}
use mathlib.Core.Path.{sym, ◌∙◌}
use native.Mathlib.Omega.{arith}
use Rattle.plan.proofs.Sounds.{accepted_sound}
use Rattle.questions.proofs.Verdict.{ask_accepts}
use Rattle.arriving.proofs.Asking.{refused_by_check, refused_by_row}
use Rattle.arriving.proofs.ask.Goals as goal

pub returns-in_err-ask : goal.returns-in_err-ask
returns-in_err-ask c = refused_by_check c.args.image.now c.args.frame c.in_err-ask.field-0.0 _ (sym c.in_err-ask.was ∙ c.ask.ensures) (search rules)

pub rows_of-requires : goal.rows_of-requires
rows_of-requires c = let s = c.args.image.now in (accepted_sound s (ask_accepts s (sym c.in_ok-ask.was ∙ c.ask.ensures))).inside.trailer

pub returns-then-rows_of-frame : goal.returns-then-rows_of-frame
returns-then-rows_of-frame c = let s = c.args.image.now in
    refused_by_row s c.args.frame (ask_accepts s (sym c.in_ok-ask.was ∙ c.ask.ensures)) (omega (arith, c.rows_of.ensures, c.if-rows_of-frame.true))

pub returns : goal.returns
returns c = (ask_accepts c.args.image.now (sym c.in_ok-ask.was ∙ c.ask.ensures), omega (arith, c.rows_of.ensures, c.if-rows_of-frame.false))
