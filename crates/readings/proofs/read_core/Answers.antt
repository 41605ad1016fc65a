use mathlib.Core.Path.{sym, ◌∙◌}
use native.Mathlib.Omega.{arith}
use Rattle.draftwords.proofs.Headed.{head_parts}
use Rattle.readings.proofs.Readings.{headed_of, core_33, core_5, core_0}
use Rattle.readings.proofs.read_core.Goals as goal

pub returns-then-not-is_draft : goal.returns-then-not-is_draft
returns-then-not-is_draft c = let a = c.args in core_33 a.words.now a.core (sym c.is_draft.ensures ∙ c.if-not-is_draft.true)

pub core_count-requires : goal.core_count-requires
core_count-requires c = (headed_of c.args.words.now (sym c.is_draft.ensures ∙ c.if-not-is_draft.false)).room

pub returns-then-core_count-core : goal.returns-then-core_count-core
returns-then-core_count-core c = let a = c.args in core_5 a.words.now a.core (sym c.is_draft.ensures ∙ c.if-not-is_draft.false) (omega (arith, c.core_count.ensures, c.if-core_count-core.true))

pub core_total-requires : goal.core_total-requires
core_total-requires c = let a = c.args in let h = headed_of a.words.now (sym c.is_draft.ensures ∙ c.if-not-is_draft.false) in (h.room, omega (arith, (head_parts _ h).3, c.core_count.ensures, c.if-core_count-core.false))

pub returns : goal.returns
returns c = let a = c.args in rw c.core_total.ensures (core_0 a.words.now a.core (sym c.is_draft.ensures ∙ c.if-not-is_draft.false) (omega (arith, c.core_count.ensures, c.if-core_count-core.false)))
