use mathlib.Core.Path.{refl, sym, subst, ◌∙◌}
use Rattle.plan.specs.declared.Answer.{Answer}
use Rattle.questions.proofs.Verdict.{ask_accepts, ask_refuses, ask_numbers}
use Rattle.writing.specs.AllTables.{BuiltAll}
use Rattle.writing.proofs.AllTables.{all_refused}
use Rattle.storing.proofs.build_all.Goals as goal

pub returns-in-Err : goal.returns-in-Err
returns-in-Err c =
    let s = c.args.image.now in let b = c.args.bytes.now in let x = c.in-Err.refusal in let e = sym c.in-Err.is ∙ c.ask.ensures in
    subst (λ (r : Answer). BuiltAll s b r b) (ask_refuses s x e) (all_refused s b (ask_numbers s x e))

pub gather-requires : goal.gather-requires
gather-requires c = (ask_accepts c.args.image.now (sym c.in_default.is ∙ c.ask.ensures), (refl, refl))
