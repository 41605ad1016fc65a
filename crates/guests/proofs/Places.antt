-- Two rising rows of numbers that have the same numbers have them in the same places.
use Prim.Native.Nat.{ℕ, zero, suc, ◌≤◌, ◌<◌}
use mathlib.Core.Path.{◌≡◌, ap, sym}
use native.Mathlib.Omega.{arith}
use native.Mathlib.Decide.{dec_lt}

abbrev pub Rises : ℕ → (ℕ → ℕ) → Type 0
Rises n a = (q r : ℕ) → q < r → r < n → a q < a r

-- each number of the one is a number of the other
abbrev pub Among : ℕ → (ℕ → ℕ) → ℕ → (ℕ → ℕ) → Type 0
Among m a n b = (w : ℕ) → w < m → (x : ℕ) × (x < n) × (b x ≡ a w)

module _ (m n : ℕ) (a b : ℕ → ℕ) (rise : Rises m a) (rise' : Rises n b) where
  -- a number is no further to the front there
  above : Among m a n b → (w x : ℕ) → w < m → x < n → b x ≡ a w → w ≤ x
  above there zero x l k e = omega arith
  above there (suc w) x l k e =
      let y = there w (omega arith) in
      go y.0 (above there w y.0 (omega arith) y.1 y.2) y.1 y.2 (dec_lt y.0 x) (dec_lt x y.0)
    where
      go : (y : ℕ) → w ≤ y → y < n → b y ≡ a w → Dec (y < x) → Dec (x < y) → suc w ≤ x
      go y i j d (yes c) g = omega arith
      go y i j d (no c) (yes g) = absurd (omega (arith, rise w (suc w) (omega arith) l, rise' x y g j))
      go y i j d (no c) (no g) = let z : y ≡ x = omega arith in absurd (omega (arith, rise w (suc w) (omega arith) l, ap b z))

module _ (m n : ℕ) (a b : ℕ → ℕ) (rise : Rises m a) (rise' : Rises n b) (there : Among m a n b) (back : Among n b m a) where
  pub same_place : (w x : ℕ) → w < m → x < n → b x ≡ a w → x ≡ w
  same_place w x l k e =
      let i = above m n a b rise rise' there w x l k e in
      let j = above n m b a rise' rise back x w k l (sym e) in
      omega arith
