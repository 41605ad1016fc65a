-- Sums over the numbers below one: of two rows, of ones, by rows and by columns.
use Prim.Native.Nat.{ℕ, zero, suc, ◌+◌, ◌≤◌, ◌<◌}
use mathlib.Core.Path.{◌≡◌, refl, sym, ap, ◌∙◌}
use native.Mathlib.Omega.{arith}
use Rattle.plan.specs.Search.{sum}

pub sum_next : (f : ℕ → ℕ) (n : ℕ) → sum (suc n) f ≡ sum n f + f n
unfolding sum
sum_next f n = refl

pub sum_zero : (f : ℕ → ℕ) → sum 0 f ≡ 0
unfolding sum
sum_zero f = refl

pub sum_le : (f g : ℕ → ℕ) (n : ℕ) → ((i : ℕ) → i < n → f i ≤ g i) → sum n f ≤ sum n g
sum_le f g zero h = omega (arith, sum_zero f, sum_zero g)
sum_le f g (suc n) h = let k = sum_le f g n (λ i l. h i (omega arith)) in omega (arith, sum_next f n, sum_next g n, h n (omega arith))

pub sum_ones : (n : ℕ) → sum n (λ _. 1) ≡ n
sum_ones zero = sum_zero (λ _. 1)
sum_ones (suc n) = let k = sum_ones n in omega (arith, sum_next (λ _. 1) n)

pub sum_add : (f g : ℕ → ℕ) (n : ℕ) → sum n (λ i. f i + g i) ≡ sum n f + sum n g
sum_add f g zero = omega (arith, sum_zero f, sum_zero g, sum_zero (λ i. f i + g i))
sum_add f g (suc n) = let k = sum_add f g n in omega (arith, sum_next f n, sum_next g n, sum_next (λ i. f i + g i) n)

pub sum_zeros : (n : ℕ) → sum n (λ _. 0) ≡ 0
sum_zeros zero = sum_zero (λ _. 0)
sum_zeros (suc n) = let k = sum_zeros n in omega (arith, sum_next (λ _. 0) n)

pub sum_cong : (f g : ℕ → ℕ) (n : ℕ) → ((i : ℕ) → f i ≡ g i) → sum n f ≡ sum n g
sum_cong f g zero h = sum_zero f ∙ sym (sum_zero g)
sum_cong f g (suc n) h = let k = sum_cong f g n h in omega (arith, sum_next f n, sum_next g n, h n)

-- a table of numbers sums to the same by rows and by columns
pub swapped : (h : ℕ → ℕ → ℕ) (m n : ℕ) → sum m (λ v. sum n (h v)) ≡ sum n (λ i. sum m (λ v. h v i))
swapped h zero n = sum_zero (λ v. sum n (h v)) ∙ sym (sum_cong _ (λ _. 0) n (λ i. sum_zero (λ v. h v i)) ∙ sum_zeros n)
swapped h (suc m) n =
    sum_next (λ v. sum n (h v)) m
    ∙ ap (λ (x : ℕ). x + sum n (h m)) (swapped h m n)
    ∙ sym (sum_cong _ _ n (λ i. sum_next (λ v. h v i) m) ∙ sum_add (λ i. sum m (λ v. h v i)) (h m) n)
