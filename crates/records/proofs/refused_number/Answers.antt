use Rattle.std.proofs.Common.{rules, ◌≡◌, length, ◌++◌, min, sym, ◌∙◌}
use Rattle.records.proofs.Records.{refused_at, fits_at, all_fit}
use Rattle.records.proofs.refused_number.Goals as goal

pub loop-bytes-init : goal.loop-bytes-init
loop-bytes-init c = search rules

pub returns-then-number-ne0 : goal.returns-then-number-ne0
returns-then-number-ne0 c =
    let x = c.in-Some.bytes.now in
    let rest = c.next.new.self.rest.now in
    let s = c.in-Some.ensures.steps in
    let l = c.loop-bytes.invariant in
    let size : length x ≡ min 28 (length (x ++ rest)) = rw (← s.1.0, ← l.0) s.1.1 in
    let e = c.number_at-number.ensures in
    e ∙ refused_at x rest size c.args.words.now _ s.1.0 s.1.2 (λ z. c.if-number-ne0.true (e ∙ z)) ∙ sym l.1

pub loop-bytes-preserved : goal.loop-bytes-preserved
loop-bytes-preserved c =
    let x = c.in-Some.bytes.now in
    let rest = c.next.new.self.rest.now in
    let s = c.in-Some.ensures.steps in
    let l = c.loop-bytes.invariant in
    let size : length x ≡ min 28 (length (x ++ rest)) = rw (← s.1.0, ← l.0) s.1.1 in
    (s.0 ∙ l.0, l.1 ∙ fits_at x rest size c.args.words.now _ s.1.0 s.1.2 (sym c.number_at-number.ensures ∙ c.if-number-ne0.false))

pub returns : goal.returns
returns c = all_fit c.args.words.now _ c.in-None.ensures.steps.1.0 ∙ sym c.loop-bytes.invariant.1
