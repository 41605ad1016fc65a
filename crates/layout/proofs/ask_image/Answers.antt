use Rattle.std.proofs.Common.{rules, refl, arith}
use mathlib.Core.Path.{sym, ap, ◌∙◌}
use Rattle.plan.specs.Questions.{image_questions, question_at, whole}
use Rattle.plan.proofs.Asking.{passed_none}
use Rattle.asking.proofs.Verdicts.{AskedTo, asks_whole, stopped, all_told, holds}
use Rattle.layout.specs.Tests.{length_fits, laid_out, ticks_fit}
use Rattle.layout.proofs.Wholes.{long_enough}
use Rattle.layout.proofs.ask_image.Goals as goal

pub points_back-requires : goal.points_back-requires
points_back-requires c = long_enough c.args.image.now (sym c.length_fits.ensures ∙ holds 1 _ _ c.whole.ensures c.in_ok-whole.was)

pub laid_out-requires : goal.laid_out-requires
laid_out-requires c = long_enough c.args.image.now (sym c.length_fits.ensures ∙ holds 1 _ _ c.whole.ensures c.in_ok-whole.was)

pub ticks_fit-requires : goal.ticks_fit-requires
ticks_fit-requires c = long_enough c.args.image.now (sym c.length_fits.ensures ∙ holds 1 _ _ c.whole.ensures c.in_ok-whole.was)

pub returns-in_err-whole : goal.returns-in_err-whole
unfolding image_questions question_at length_fits laid_out ticks_fit
returns-in_err-whole c =
    let s = c.args.image.now in
    let qs = image_questions s in
    let told_1 : AskedTo qs 1 c.whole.result =
    asks_whole qs 0 1 c.length_fits.result _ (ap (whole 1) (sym c.length_fits.ensures)) (omega arith) (passed_none qs) c.whole.ensures in
    stopped qs 1 _ _ c.in_err-whole.field-0.0 told_1 c.in_err-whole.was (search rules)

pub returns-in_err-whole-2 : goal.returns-in_err-whole-2
unfolding image_questions question_at length_fits laid_out ticks_fit
returns-in_err-whole-2 c =
    let s = c.args.image.now in
    let qs = image_questions s in
    let told_1 : AskedTo qs 1 c.whole.result =
    asks_whole qs 0 1 c.length_fits.result _ (ap (whole 1) (sym c.length_fits.ensures)) (omega arith) (passed_none qs) c.whole.ensures in
    let told_2 : AskedTo qs 2 c.whole-2.result =
    asks_whole qs 1 2 c.points_back.result _ (ap (whole 2) (sym c.points_back.ensures)) (omega arith) (told_1.passed c.in_ok-whole.was) c.whole-2.ensures in
    stopped qs 2 _ _ c.in_err-whole-2.field-0.0 told_2 c.in_err-whole-2.was (search rules)

pub returns-in_err-whole-3 : goal.returns-in_err-whole-3
unfolding image_questions question_at length_fits laid_out ticks_fit
returns-in_err-whole-3 c =
    let s = c.args.image.now in
    let qs = image_questions s in
    let told_1 : AskedTo qs 1 c.whole.result =
    asks_whole qs 0 1 c.length_fits.result _ (ap (whole 1) (sym c.length_fits.ensures)) (omega arith) (passed_none qs) c.whole.ensures in
    let told_2 : AskedTo qs 2 c.whole-2.result =
    asks_whole qs 1 2 c.points_back.result _ (ap (whole 2) (sym c.points_back.ensures)) (omega arith) (told_1.passed c.in_ok-whole.was) c.whole-2.ensures in
    let told_3 : AskedTo qs 3 c.whole-3.result =
    asks_whole qs 2 3 c.laid_out.result _ (ap (whole 3) (sym c.laid_out.ensures)) (omega arith) (told_2.passed c.in_ok-whole-2.was) c.whole-3.ensures in
    stopped qs 3 _ _ c.in_err-whole-3.field-0.0 told_3 c.in_err-whole-3.was (search rules)

pub returns : goal.returns
unfolding image_questions question_at length_fits laid_out ticks_fit
returns c =
    let s = c.args.image.now in
    let qs = image_questions s in
    let told_1 : AskedTo qs 1 c.whole.result =
    asks_whole qs 0 1 c.length_fits.result _ (ap (whole 1) (sym c.length_fits.ensures)) (omega arith) (passed_none qs) c.whole.ensures in
    let told_2 : AskedTo qs 2 c.whole-2.result =
    asks_whole qs 1 2 c.points_back.result _ (ap (whole 2) (sym c.points_back.ensures)) (omega arith) (told_1.passed c.in_ok-whole.was) c.whole-2.ensures in
    let told_3 : AskedTo qs 3 c.whole-3.result =
    asks_whole qs 2 3 c.laid_out.result _ (ap (whole 3) (sym c.laid_out.ensures)) (omega arith) (told_2.passed c.in_ok-whole-2.was) c.whole-3.ensures in
    let told_4 : AskedTo qs 4 c.whole-4.result =
    asks_whole qs 3 4 c.ticks_fit.result _ (ap (whole 4) (sym c.ticks_fit.ensures)) (omega arith) (told_3.passed c.in_ok-whole-3.was) c.whole-4.ensures in
    all_told qs 4 _ refl told_4
