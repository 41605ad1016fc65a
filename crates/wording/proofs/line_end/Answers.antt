use Rattle.std.proofs.Common.{rules, tests, arith, eqb, length, drop, length-drop, ◌-◌, ◌∙◌}
use lib.Seq.{take_all}
use Rattle.std.proofs.lemmas.Iterator.{YieldsList-from_slice}
use Rattle.std.proofs.lemmas.Iterator.Search.{position_from_yields_List}
use Rattle.wording.proofs.Texts.{Newline, ends_there, ends_last}
use Rattle.wording.proofs.line_end.Goals as goal

pub returns-in-Some : goal.returns-in-Some
returns-in-Some c =
    let text = c.args.text.now in let from = c.args.from in
    let whole = c.iter.ensures.rest ∙ take_all (length text - from) (drop from text) (omega (arith, length-drop from text)) in
    let n : Newline text from c.requires c.position.result = position_from_yields_List (λ b. eqb b 10) _ _ c.position.result c.position.ensures.ran (YieldsList-from_slice (drop from text) whole) (λ x b q k. search (rules, tests)) in
    ends_there text from c.requires c.position.result c.in-Some.length n c.in-Some.is

pub returns-in-None : goal.returns-in-None
returns-in-None c =
    let text = c.args.text.now in let from = c.args.from in
    let whole = c.iter.ensures.rest ∙ take_all (length text - from) (drop from text) (omega (arith, length-drop from text)) in
    let n : Newline text from c.requires c.position.result = position_from_yields_List (λ b. eqb b 10) _ _ c.position.result c.position.ensures.ran (YieldsList-from_slice (drop from text) whole) (λ x b q k. search (rules, tests)) in
    ends_last text from c.requires c.position.result n c.in-None.is
