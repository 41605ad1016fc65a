use mathlib.Core.Path.{ap, ◌∙◌}
use lib.ListN.{length}
use Rattle.plan.specs.Boundary.{answer_number}
use Rattle.joins.specs.declared.Joined.{Joined}
use Rattle.joins.specs.Joins.{join_number}
use Rattle.reaperdecade.proofs.Answers.{join_small}
use Rattle.reaperdecade.proofs.rd_join.Goals as goal

pub packed-requires : goal.packed-requires
packed-requires c =
    let a = c.args in
    rw (ap (λ (x : Joined). x.answer) c.join-result.ensures.value) (join_small a.first.now a.second.now a.shared (length a.joined.now))

pub returns : goal.returns
unfolding join_number
returns c =
    let e = c.join-result.ensures in
    record {
      value = c.packed.ensures ∙ ap answer_number (ap (λ (x : Joined). x.answer) e.value);
      joined_after = e.joined_after;
      length_after = ap (λ (x : Joined). x.length) e.value;
    }
