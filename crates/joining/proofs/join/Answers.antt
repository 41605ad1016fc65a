use mathlib.Core.Path.{refl, sym, ◌∙◌}
use native.Mathlib.Omega.{arith}
use Rattle.questions.proofs.Verdict.{ask_accepts}
use Rattle.joining.proofs.Joining.{shared_low, gives_first, gives_second, gives_35, gives_36, gives_37, gives_image, written_within}
use Rattle.joining.proofs.join.Goals as goal

pub returns-in-Err : goal.returns-in-Err
returns-in-Err c = let a = c.args in let both = gives_first a.first.now a.second.now a.shared a.joined.now c.in-Err.own (sym c.in-Err.is ∙ c.ask.ensures) _ c.refused.ensures in record { value = both.0; joined_after = both.1 }

pub returns-in-Err-ask : goal.returns-in-Err-ask
returns-in-Err-ask c = let a = c.args in let both = gives_second a.first.now a.second.now a.shared a.joined.now c.in-Err-ask.other (ask_accepts a.first.now (sym c.in_default.is ∙ c.ask.ensures)) (sym c.in-Err-ask.is ∙ c.ask-2.ensures) _ c.refused-in-Err-ask.ensures in record { value = both.0; joined_after = both.1 }

pub plans_agree-requires : goal.plans_agree-requires
plans_agree-requires c = let a = c.args in record { first = ask_accepts a.first.now (sym c.in_default.is ∙ c.ask.ensures); second = ask_accepts a.second.now (sym c.in_default-ask.is ∙ c.ask-2.ensures) }

pub returns-then-not-plans_agree : goal.returns-then-not-plans_agree
returns-then-not-plans_agree c = let a = c.args in let both = gives_35 a.first.now a.second.now a.shared a.joined.now (record { first = ask_accepts a.first.now (sym c.in_default.is ∙ c.ask.ensures); second = ask_accepts a.second.now (sym c.in_default-ask.is ∙ c.ask-2.ensures) }) _ (sym c.plans_agree.ensures ∙ c.if-not-plans_agree.true) c.refused_by.ensures in record { value = both.0; joined_after = both.1 }

pub tasks_shared-requires : goal.tasks_shared-requires
tasks_shared-requires c = let a = c.args in record { first = ask_accepts a.first.now (sym c.in_default.is ∙ c.ask.ensures); second = ask_accepts a.second.now (sym c.in_default-ask.is ∙ c.ask-2.ensures) }

pub returns-then-not-tasks_shared : goal.returns-then-not-tasks_shared
returns-then-not-tasks_shared c = let a = c.args in let both = gives_36 a.first.now a.second.now a.shared a.joined.now (record { first = ask_accepts a.first.now (sym c.in_default.is ∙ c.ask.ensures); second = ask_accepts a.second.now (sym c.in_default-ask.is ∙ c.ask-2.ensures) }) _ (sym c.plans_agree.ensures ∙ c.if-not-plans_agree.false) (sym c.tasks_shared.ensures ∙ c.if-not-tasks_shared.true) c.refused_by-then-not-tasks_shared.ensures in record { value = both.0; joined_after = both.1 }

pub write-requires : goal.write-requires
write-requires c = let a = c.args in (record { first = ask_accepts a.first.now (sym c.in_default.is ∙ c.ask.ensures); second = ask_accepts a.second.now (sym c.in_default-ask.is ∙ c.ask-2.ensures) }, shared_low _ _ _ (sym c.tasks_shared.ensures ∙ c.if-not-tasks_shared.false))

pub returns-in_default-write : goal.returns-in_default-write
returns-in_default-write c = let a = c.args in let both = gives_37 a.first.now a.second.now a.shared a.joined.now (record { first = ask_accepts a.first.now (sym c.in_default.is ∙ c.ask.ensures); second = ask_accepts a.second.now (sym c.in_default-ask.is ∙ c.ask-2.ensures) }) _ (sym c.plans_agree.ensures ∙ c.if-not-plans_agree.false) (sym c.tasks_shared.ensures ∙ c.if-not-tasks_shared.false) _ c.in_default-write.ensures c.refused_by-in_default-write.ensures in record { value = both.0; joined_after = both.1 }

pub slice_bounds-image-end : goal.slice_bounds-image-end
slice_bounds-image-end c = let a = c.args in let q = written_within a.first.now a.second.now a.shared a.joined.now c.in-Some.length _ c.in-Some.ensures in omega arith

pub returns : goal.returns
returns c = let a = c.args in let both = gives_image a.first.now a.second.now a.shared a.joined.now (record { first = ask_accepts a.first.now (sym c.in_default.is ∙ c.ask.ensures); second = ask_accepts a.second.now (sym c.in_default-ask.is ∙ c.ask-2.ensures) }) _ (sym c.plans_agree.ensures ∙ c.if-not-plans_agree.false) (sym c.tasks_shared.ensures ∙ c.if-not-tasks_shared.false) c.in-Some.length _ c.in-Some.ensures _ c.check.ensures refl in record { value = both.0; joined_after = both.1 }
