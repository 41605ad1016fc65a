use Rattle.std.proofs.Common.{sym, refl, ◌∙◌, eq-eqb, ne_eqb}
use Rattle.timer.specs.Registers.{write_number}
use Rattle.timer.proofs.write_number.Goals as goal

pub returns-then-not-is_register : goal.returns-then-not-is_register
unfolding write_number
returns-then-not-is_register c = rw (sym c.is_register.ensures ∙ c.if-not-is_register.true) refl

pub returns-then-address-eq-COUNT : goal.returns-then-address-eq-COUNT
unfolding write_number
returns-then-address-eq-COUNT c = rw (sym c.is_register.ensures ∙ c.if-not-is_register.false, eq-eqb _ 0 c.if-address-eq-COUNT.true) refl

pub returns : goal.returns
unfolding write_number
returns c = rw (sym c.is_register.ensures ∙ c.if-not-is_register.false, ne_eqb _ 0 c.if-address-eq-COUNT.false) refl
