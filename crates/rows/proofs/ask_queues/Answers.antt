use Rattle.std.proofs.Common.{rules, refl, arith}
use Rattle.plan.specs.declared.Table.TheVariants.{Streams}
use Rattle.plan.specs.Questions.{queue_questions, question_at, each, queue_fits}
use Rattle.plan.proofs.Asking.{passed_none}
use Rattle.asking.proofs.Verdicts.{asks, all_told}
use Rattle.rows.proofs.ask_queues.Goals as goal

pub returns : goal.returns
unfolding queue_questions question_at each
returns c =
    let s = c.args.image.now in
    let qs = queue_questions s in
    all_told qs 1 _ refl (asks qs 0 (record { number = 40; table = Streams }) _ (record { number = refl; table = refl }) (omega arith) (passed_none qs)
    (c.each_row.ensures (queue_fits s) (λ j b k h q. search rules)))
