use mathlib.Core.Path.{refl, sym, ap, ◌∙◌}
use native.Mathlib.Omega.{arith}
use Rattle.plan.specs.declared.Answer.{Answer}
use Rattle.arrivals.specs.declared.Arrival.{Arrival}
use Rattle.arrivals.proofs.Answers.{found, given}
use Rattle.arriving.proofs.Lending.{by_value, too_short, stored_both}
use Rattle.arriving.proofs.store.Goals as goal

pub returns-in-Err : goal.returns-in-Err
returns-in-Err c =
    let a = c.args in let q = c.in-Err.ensures in
    let r = by_value a.image.now a.frame a.bytes.now (λ z. q.1 (sym (ap (λ (x : Answer). x.number) q.0) ∙ z)) in
    (sym (r.0 ∙ q.0), sym r.1)

pub returns-then-bytes-lt2 : goal.returns-then-bytes-lt2
returns-then-bytes-lt2 c =
    let a = c.args in let s = a.image.now in let p = c.in_default.ensures in
    let r = too_short s a.frame a.bytes.now (found s a.frame p.0 p.1) (omega (arith, c.if-bytes-lt2.true)) in
    (c.refused.ensures ∙ sym r.0, sym r.1)

pub ticks_of-found-requires : goal.ticks_of-found-requires
ticks_of-found-requires c = c.in_default.ensures

pub returns : goal.returns
returns c =
    let a = c.args in let s = a.image.now in let p = c.in_default.ensures in
    let e = c.ticks_of-found.ensures ∙ given s a.frame p.0 p.1 in
    let r = stored_both s a.frame a.bytes.now (found s a.frame p.0 p.1) (omega (arith, c.if-bytes-lt2.false)) in
    (ap (λ (x : Arrival). x.answer) e ∙ sym r.0, c.put_word-2.ensures ∙ rw (c.put_word.ensures, e, r.1) refl)
