use Rattle.std.proofs.Common.{refl}
use Rattle.timer.specs.Registers.{read_value}
use Rattle.timer.proofs.Accesses.{read_none}
use Rattle.timer.proofs.read_value.Goals as goal

pub returns-then-address-eq-COUNT : goal.returns-then-address-eq-COUNT
unfolding read_value
returns-then-address-eq-COUNT c = rw c.if-address-eq-COUNT.true refl

pub returns-then-address-eq-COMPARE : goal.returns-then-address-eq-COMPARE
unfolding read_value
returns-then-address-eq-COMPARE c = rw c.if-address-eq-COMPARE.true refl

pub returns-then-address-eq-STATUS : goal.returns-then-address-eq-STATUS
unfolding read_value
returns-then-address-eq-STATUS c = rw c.if-address-eq-STATUS.true c.bit_word.ensures

pub returns-then-address-eq-ENABLE : goal.returns-then-address-eq-ENABLE
unfolding read_value
returns-then-address-eq-ENABLE c = rw c.if-address-eq-ENABLE.true c.bit_word-then-address-eq-ENABLE.ensures

pub returns : goal.returns
returns c = read_none _ _ c.if-address-eq-COUNT.false c.if-address-eq-COMPARE.false c.if-address-eq-STATUS.false c.if-address-eq-ENABLE.false
