use Rattle.std.proofs.Common.{rules, ap, ◌∙◌, ◌<◌, eqb, arith}
use Rattle.plan.specs.declared.Shape.{Shape}
use Rattle.plan.specs.Image.{shape, field}
use Rattle.pairs.proofs.Rows.{inside}
use Rattle.agreeing.proofs.Agreeing.{words_agree}
use Rattle.agreeing.proofs.row_agrees.Goals as goal

pub all-requires : goal.all-requires
all-requires c = λ i l r. let p = c.requires in let g = ap (λ (x : Shape). x.width) c.shape_of-width.ensures in let k : i < (shape c.args.table).width = omega arith in let m = inside _ p.0.first in let n = inside _ p.0.second in search rules

pub returns : goal.returns
returns c =
    let a = c.args in
    let g = ap (λ (x : Shape). x.width) c.shape_of-width.ensures in
    c.all.ensures (λ j. eqb (field a.first.now a.table a.row j) (field a.second.now a.table a.row j)) (λ i b l r q. search rules)
    ∙ words_agree a.first.now a.second.now a.table a.row c.shape_of-width.result.width g
