use mathlib.Core.Path.{sym, ◌∙◌}
use native.Mathlib.Omega.{arith}
use Rattle.writing.proofs.Storing.{stored_one}
use Rattle.modeblock.specs.Blocks.{plans_of}
use Rattle.modeblock.proofs.Blocks.{held_place}
use Rattle.modeblock.proofs.Answers.{request_refused, request_other, request_43, request_44, request_done}
use Rattle.modeblock.proofs.request.Goals as goal

pub returns-then-block-ne-BLOCK : goal.returns-then-block-ne-BLOCK
returns-then-block-ne-BLOCK c = let a = c.args in let v = a.block.now in request_refused v a.place 27 (request_other v a.place c.if-block-ne-BLOCK.true) (λ z. absurd (omega arith))

pub returns-then-not-is_held : goal.returns-then-not-is_held
returns-then-not-is_held c = let a = c.args in let v = a.block.now in request_refused v a.place 43 (request_43 v a.place c.if-block-ne-BLOCK.false (sym c.is_held.ensures ∙ c.if-not-is_held.true)) (λ z. absurd (omega arith))

pub runs_like-requires : goal.runs_like-requires
runs_like-requires c = let a = c.args in let v = a.block.now in (c.if-block-ne-BLOCK.false, held_place (plans_of v) a.place (sym c.is_held.ensures ∙ c.if-not-is_held.false))

pub returns-then-not-runs_like : goal.returns-then-not-runs_like
returns-then-not-runs_like c = let a = c.args in let v = a.block.now in request_refused v a.place 44 (request_44 v a.place c.if-block-ne-BLOCK.false (sym c.is_held.ensures ∙ c.if-not-is_held.false) (sym c.runs_like.ensures ∙ c.if-not-runs_like.true)) (λ z. absurd (omega arith))

pub returns : goal.returns
returns c = let a = c.args in let v = a.block.now in let d = request_done v a.place c.if-block-ne-BLOCK.false (sym c.is_held.ensures ∙ c.if-not-is_held.false) (sym c.runs_like.ensures ∙ c.if-not-runs_like.false) in (d.0, c.put_word.ensures ∙ stored_one v 4 a.place ∙ d.1)
