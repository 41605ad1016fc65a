use Prim.Native.Nat.{ℕ, suc, ◌+◌, ◌≤◌}
use mathlib.Core.Path.{◌≡◌, refl, sym, ap, ◌∙◌}
use native.Mathlib.Omega.{arith}
use lib.ListN.{length, drop}
use Rattle.texts.specs.Characters.{lines_from}
use Rattle.wording.proofs.Texts.{from_zero, one_line_fewer, same_lines, none_left}
use Rattle.wording.proofs.line_start.Goals as goal
use Rattle.wording.proofs.line_start.Goals.{then-text-at-eq10, else-text-at-eq10}

pub returns-then-left-eq0 : goal.returns-then-left-eq0
returns-then-left-eq0 c = let l = c.loop-at in let text = c.args.text.now in (omega arith, sym (from_zero (drop l.at text)) ∙ ap (λ (k : ℕ). lines_from k (drop l.at text)) (sym c.if-left-eq0.true) ∙ l.invariant)

pub loop-at-preserved : goal.loop-at-preserved
loop-at-preserved c =
    let l = c.loop-at in let text = c.args.text.now in
    let k = c.loop-at-test.true in let some : 1 ≤ l.left = omega (arith, c.if-left-eq0.false) in
    let e : l.at + 1 ≡ suc l.at = omega arith in
    let same : (m : ℕ) → c.if-text-at-eq10.left ≡ m → lines_from c.if-text-at-eq10.left (drop (l.at + 1) text) ≡ lines_from m (drop (suc l.at) text) = λ m q. rw (q, e) refl in
    elim c.if-text-at-eq10.branch [
      | then-text-at-eq10 w ↦ same _ w.left-is ∙ one_line_fewer text l.at k l.left some w.if-text-at-eq10.true ∙ l.invariant
      | else-text-at-eq10 w ↦ same _ w.left-is ∙ same_lines text l.at k l.left some w.if-text-at-eq10.false ∙ l.invariant
    ]

pub returns : goal.returns
returns c =
    let l = c.loop-at in let text = c.args.text.now in let e : length text ≡ l.at = omega arith in
    (omega arith, sym (none_left text (length text) refl l.left) ∙ ap (λ (k : ℕ). lines_from l.left (drop k text)) e ∙ l.invariant)
