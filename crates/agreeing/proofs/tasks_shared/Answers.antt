use mathlib.Core.Logic.{inl, inr}
use native.Mathlib.Omega.{arith}
use Rattle.pairs.proofs.Rows.{inside}
use Rattle.agreeing.proofs.Agreeing.{shared_no, shared_yes}
use Rattle.agreeing.proofs.tasks_shared.Goals as goal

pub rows_of-requires : goal.rows_of-requires
rows_of-requires c = (inside _ c.requires.first).trailer

pub returns-then-rows_of-shared : goal.returns-then-rows_of-shared
returns-then-rows_of-shared c = let a = c.args in shared_no a.first.now a.second.now a.shared (inl (omega (arith, c.if-rows_of-shared.true, c.rows_of.ensures)))

pub rows_of-requires-2 : goal.rows_of-requires-2
rows_of-requires-2 c = (inside _ c.requires.second).trailer

pub returns-then-rows_of-shared-2 : goal.returns-then-rows_of-shared-2
returns-then-rows_of-shared-2 c = let a = c.args in shared_no a.first.now a.second.now a.shared (inr (omega (arith, c.if-rows_of-shared-2.true, c.rows_of-2.ensures)))

pub rows_agree-requires : goal.rows_agree-requires
rows_agree-requires c = let p = c.requires in (p, (omega (arith, c.if-rows_of-shared.false, c.rows_of.ensures), omega (arith, c.if-rows_of-shared-2.false, c.rows_of-2.ensures)))

pub returns : goal.returns
returns c = let a = c.args in shared_yes a.first.now a.second.now a.shared c.rows_agree.result (omega (arith, c.if-rows_of-shared.false, c.rows_of.ensures)) (omega (arith, c.if-rows_of-shared-2.false, c.rows_of-2.ensures)) c.rows_agree.ensures
