use Rattle.std.proofs.Common.{refl}
use Rattle.timer.specs.Registers.{written}
use Rattle.timer.proofs.Accesses.{written_none}
use Rattle.timer.proofs.write_value.Goals as goal

pub returns-then-address-eq-COMPARE : goal.returns-then-address-eq-COMPARE
unfolding written
returns-then-address-eq-COMPARE c = rw c.if-address-eq-COMPARE.true refl

pub returns-then-address-eq-STATUS : goal.returns-then-address-eq-STATUS
unfolding written
returns-then-address-eq-STATUS c = rw (c.if-address-eq-STATUS.true, c.is_set-set.ensures) refl

pub returns-then-address-eq-ENABLE : goal.returns-then-address-eq-ENABLE
unfolding written
returns-then-address-eq-ENABLE c = rw (c.if-address-eq-ENABLE.true, c.is_set-set.ensures) refl

pub returns : goal.returns
returns c = written_none _ _ _ c.if-address-eq-COMPARE.false c.if-address-eq-STATUS.false c.if-address-eq-ENABLE.false
