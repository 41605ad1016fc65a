-- Accesses at an address that is no register.
use Rattle.std.proofs.Common.{◌≡◌, ℕ, ◌≢◌, refl, ap, ne_eqb}
use Rattle.timer.specs.declared.Timer.{Timer}
use Rattle.timer.specs.Registers.{is_register, write_number, read_value, written}

pub read_none : (t : Timer) (a : ℕ) → a ≢ 0 → a ≢ 4 → a ≢ 8 → a ≢ 12 → 0 ≡ read_value t a
unfolding read_value
read_none t a e f g h = rw (ne_eqb a 0 e, ne_eqb a 4 f, ne_eqb a 8 g, ne_eqb a 12 h) refl

-- a write to count, or where no register is, leaves the timer as it was
pub written_none : (t : Timer) (a x : ℕ) → a ≢ 4 → a ≢ 8 → a ≢ 12 → t ≡ written t a x
unfolding written
written_none t a x f g h = rw (ne_eqb a 4 f, ne_eqb a 8 g, ne_eqb a 12 h) refl

-- so does every refused write
pub refused_none : (t : Timer) (a x : ℕ) → write_number a ≢ 0 → t ≡ written t a x
unfolding write_number is_register
refused_none t a x h = written_none t a x (λ e. h (ap write_number e)) (λ e. h (ap write_number e)) (λ e. h (ap write_number e))
