use Prim.Native.Nat.{◌<◌}
use Rattle.std.proofs.Common.{Err, rules}
use mathlib.Core.Path.{◌≡◌, sym, ◌∙◌}
use native.Mathlib.Omega.{arith}
use Rattle.plan.specs.declared.Table.TheVariants.{Links}
use Rattle.plan.specs.Image.{rows}
use Rattle.plan.proofs.Sounds.{accepted_sound}
use Rattle.questions.proofs.Verdict.{ask_accepts}
use Rattle.gating.proofs.Answers.{list_told, list_no_link, list_short, list_done}
use Rattle.gating.proofs.list_gates.Goals as goal

pub returns-in_err-ask : goal.returns-in_err-ask
returns-in_err-ask c = let a = c.args in let e : c.from_residual.result ≡ Err c.in_err-ask.field-0.0 = search rules in rw e (list_told a.image.now a.link a.lent c.in_err-ask.field-0.0 (sym c.in_err-ask.was ∙ c.ask.ensures))

pub rows_of-requires : goal.rows_of-requires
rows_of-requires c = let s = c.args.image.now in (accepted_sound s (ask_accepts s (sym c.in_ok-ask.was ∙ c.ask.ensures))).inside.trailer

pub returns-then-rows_of-link : goal.returns-then-rows_of-link
returns-then-rows_of-link c = let a = c.args in let s = a.image.now in let g = c.rows_of.ensures in rw c.refused.ensures (list_no_link s a.link a.lent (ask_accepts s (sym c.in_ok-ask.was ∙ c.ask.ensures)) (let t = c.if-rows_of-link.true in omega arith))

pub find-count-requires : goal.find-count-requires
find-count-requires c = let s = c.args.image.now in (ask_accepts s (sym c.in_ok-ask.was ∙ c.ask.ensures), c.requires)

pub returns-then-lent-count : goal.returns-then-lent-count
returns-then-lent-count c = let a = c.args in let s = a.image.now in let g = c.rows_of.ensures in let f = c.find-count in let m : a.link < rows s Links = let t = c.if-rows_of-link.false in omega arith in rw c.refused-then-lent-count.ensures (list_short s a.link a.lent (ask_accepts s (sym c.in_ok-ask.was ∙ c.ask.ensures)) m (let t = c.if-lent-count.true in omega (arith, f.ensures.0)))

pub returns : goal.returns
returns c = let a = c.args in let s = a.image.now in let g = c.rows_of.ensures in let f = c.find-count in let m : a.link < rows s Links = let t = c.if-rows_of-link.false in omega arith in list_done s a.link a.lent (ask_accepts s (sym c.in_ok-ask.was ∙ c.ask.ensures)) m a.list.now f.new.list f.result f.ensures.0 (let t = c.if-lent-count.false in omega (arith, f.ensures.0)) f.ensures.1
