use Rattle.std.proofs.Common.{rules, refl}
use Rattle.plan.specs.Questions.{chain_questions, chain_tasks, chain_path, chain_in_time}
use Rattle.plan.specs.Held.{Passed}
use Rattle.plan.proofs.Asking.{passed_none}
use Rattle.asking.proofs.Verdicts.{AskedTo, stopped, all_told}
use Rattle.chains.proofs.Asked.{tasks, path, in_time}
use Rattle.chains.proofs.ask.Goals as goal

pub returns-in_err-each_row : goal.returns-in_err-each_row
returns-in_err-each_row c =
    let s = c.args.image.now in
    let tasks_told : AskedTo (chain_questions s) 1 c.each_row.result = tasks s _ (passed_none (chain_questions s)) (c.each_row.ensures (chain_tasks s) (λ j b k h q. search rules)) in
    stopped (chain_questions s) 1 _ _ c.in_err-each_row.field-0.0 tasks_told c.in_err-each_row.was (search rules)

pub each_row-requires-2-clause-may_ask : goal.each_row-requires-2-clause-may_ask
each_row-requires-2-clause-may_ask c = λ i l r.
    let s = c.args.image.now in
    let tasks_told : AskedTo (chain_questions s) 1 c.each_row.result = tasks s _ (passed_none (chain_questions s)) (c.each_row.ensures (chain_tasks s) (λ j b k h q. search rules)) in
    let passed : Passed (chain_questions s) 1 = tasks_told.passed c.in_ok-each_row.was in
    search rules

pub returns-in_err-each_row-2 : goal.returns-in_err-each_row-2
returns-in_err-each_row-2 c =
    let s = c.args.image.now in
    let tasks_told : AskedTo (chain_questions s) 1 c.each_row.result = tasks s _ (passed_none (chain_questions s)) (c.each_row.ensures (chain_tasks s) (λ j b k h q. search rules)) in
    let path_told : AskedTo (chain_questions s) 2 c.each_row-2.result = path s _ (tasks_told.passed c.in_ok-each_row.was) (c.each_row-2.ensures (chain_path s) (λ j b k h q. search rules)) in
    stopped (chain_questions s) 2 _ _ c.in_err-each_row-2.field-0.0 path_told c.in_err-each_row-2.was (search rules)

pub each_row-requires-3-clause-may_ask : goal.each_row-requires-3-clause-may_ask
each_row-requires-3-clause-may_ask c = λ i l r.
    let s = c.args.image.now in
    let tasks_told : AskedTo (chain_questions s) 1 c.each_row.result = tasks s _ (passed_none (chain_questions s)) (c.each_row.ensures (chain_tasks s) (λ j b k h q. search rules)) in
    let path_told : AskedTo (chain_questions s) 2 c.each_row-2.result = path s _ (tasks_told.passed c.in_ok-each_row.was) (c.each_row-2.ensures (chain_path s) (λ j b k h q. search rules)) in
    let passed : Passed (chain_questions s) 2 = path_told.passed c.in_ok-each_row-2.was in
    search rules

pub returns : goal.returns
unfolding chain_questions
returns c =
    let s = c.args.image.now in
    let tasks_told : AskedTo (chain_questions s) 1 c.each_row.result = tasks s _ (passed_none (chain_questions s)) (c.each_row.ensures (chain_tasks s) (λ j b k h q. search rules)) in
    let path_told : AskedTo (chain_questions s) 2 c.each_row-2.result = path s _ (tasks_told.passed c.in_ok-each_row.was) (c.each_row-2.ensures (chain_path s) (λ j b k h q. search rules)) in
    let in_time_told : AskedTo (chain_questions s) 3 c.each_row-3.result = in_time s _ (path_told.passed c.in_ok-each_row-2.was) (c.each_row-3.ensures (chain_in_time s) (λ j b k h q. search rules)) in
    all_told (chain_questions s) 3 _ refl in_time_told
