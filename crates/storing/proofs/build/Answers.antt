use mathlib.Core.Path.{refl, sym, subst, ◌∙◌}
use native.Mathlib.Omega.{arith}
use Rattle.plan.specs.declared.Answer.{Answer}
use Rattle.questions.proofs.Verdict.{ask_accepts, ask_refuses, ask_numbers}
use Rattle.writing.specs.Stored.{Built}
use Rattle.writing.proofs.Tables.{bytes_refused, bytes_no_lane}
use Rattle.storing.proofs.build.Goals as goal

pub returns-in-Err : goal.returns-in-Err
returns-in-Err c =
    let a = c.args in let s = a.image.now in let b = a.bytes.now in let x = c.in-Err.no in let e = sym c.in-Err.is ∙ c.ask.ensures in
    subst (λ (r : Answer). Built s a.lane b r b) (ask_refuses s x e) (bytes_refused s a.lane b (ask_numbers s x e))

pub lane_count-requires : goal.lane_count-requires
lane_count-requires c = ask_accepts c.args.image.now (sym c.in_default.is ∙ c.ask.ensures)

pub returns-then-lane_count-lane : goal.returns-then-lane_count-lane
returns-then-lane_count-lane c =
    let a = c.args in let s = a.image.now in
    rw c.refused.ensures (bytes_no_lane s a.lane a.bytes.now (ask_accepts s (sym c.in_default.is ∙ c.ask.ensures)) (omega (arith, c.lane_count.ensures, c.if-lane_count-lane.true)))

pub gather-requires : goal.gather-requires
gather-requires c = (ask_accepts c.args.image.now (sym c.in_default.is ∙ c.ask.ensures), (refl, refl))
