-- A product of two words, and a word more, fit 64 bits.
use Prim.Native.Nat.{ℕ, ◌+◌, ◌*◌, ◌^◌, ◌≤◌, ◌<◌}
use native.Mathlib.Nat.{mul-le-mul_right}
use native.Mathlib.Omega.{arith}

pub product_fits : {a b c : ℕ} → a < 2 ^ 32 → b < 2 ^ 32 → c < 2 ^ 32 → a * b + c < 2 ^ 64
product_fits {a} {b} {c} ha hb hc =
    let la : a ≤ 4294967295 = omega arith in
    let lb : b ≤ 4294967295 = omega arith in
    let h : a * b ≤ 4294967295 * b = mul-le-mul_right b la in
    omega arith
