use Rattle.std.proofs.Common.{sym, refl, ◌∙◌}
use Rattle.timer.specs.Registers.{read_number}
use Rattle.timer.proofs.read_number.Goals as goal

pub returns-then-is_register : goal.returns-then-is_register
unfolding read_number
returns-then-is_register c = rw (sym c.is_register.ensures ∙ c.if-is_register.true) refl

pub returns : goal.returns
unfolding read_number
returns c = rw (sym c.is_register.ensures ∙ c.if-is_register.false) refl
