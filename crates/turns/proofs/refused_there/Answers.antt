use Rattle.std.proofs.Common.{rules, sym, ◌∙◌}
use Rattle.plan.specs.Boundary.{words_of}
use Rattle.turns.proofs.Turning.{refused_at, fits_at, still_whole, all_fit}
use Rattle.turns.proofs.refused_there.Goals as goal

pub loop-bytes-init : goal.loop-bytes-init
loop-bytes-init c = let k = c.requires in search rules

pub number_there-number-requires : goal.number_there-number-requires
number_there-number-requires c = c.in-Some.ensures.steps.1.1 ∙ c.loop-bytes.invariant.0

pub returns-then-number-ne0 : goal.returns-then-number-ne0
returns-then-number-ne0 c =
    let s = c.in-Some.ensures.steps.1 in
    let l = c.loop-bytes in
    let e = c.number_there-number.ensures in
    e ∙ refused_at (words_of c.args.words.now) l.at _ _ _ s.0 (s.1 ∙ l.invariant.0) (λ z. c.if-number-ne0.true (e ∙ z)) ∙ sym l.invariant.2

pub loop-bytes-preserved : goal.loop-bytes-preserved
loop-bytes-preserved c =
    let s = c.in-Some.ensures.steps in
    let l = c.loop-bytes in
    let w = words_of c.args.words.now in
    let n = s.1.1 ∙ l.invariant.0 in (
      s.0 ∙ l.invariant.0,
      still_whole w l.at _ _ _ s.1.0 n l.invariant.1,
      rw c.table_after-at.ensures (l.invariant.2 ∙ fits_at w l.at _ _ _ s.1.0 n (sym c.number_there-number.ensures ∙ c.if-number-ne0.false)),
    )

pub returns : goal.returns
returns c = let l = c.loop-bytes in let s = c.in-None.ensures.steps in all_fit (words_of c.args.words.now) l.at _ l.invariant.1 (rw l.invariant.0 at s.1.0) ∙ sym l.invariant.2
