-- Rows in order (question 32): windows, pieces and frames rise by start; and a frame lasts.
use Prim.Native.Nat.{ℕ, zero, suc, ◌-◌, ◌≤◌, ◌<◌}
use mathlib.Core.Path.{◌≡◌}
use mathlib.Core.Logic.{◌⊎◌, inl, inr}
use mathlib.Core.List.{List}
use native.Mathlib.Nat.{eq-or-lt_of_le, le-div_iff_mul-le}
use native.Mathlib.Numerals.{unary_clauses}
use native.Mathlib.Omega.{arith}
use Rattle.plan.specs.declared.Table.TheVariants.{Windows, Pieces, Links, Streams, Frames}
use Rattle.plan.specs.Image.{rows, window, piece, frame}
use Rattle.plan.specs.Questions.{order_words, send_ticks, frame_end}
use Rattle.plan.specs.Held.{Sound}

-- of words that rise the first does not fall
pub first_rises : {Rest : Type 0} (a b : ℕ) → (a < b) ⊎ ((a ≡ b) × Rest) → a ≤ b
first_rises a b (inl l) = omega arith
first_rises a b (inr p) = omega (arith, p.0)

-- what does not fall from any row to the next does not fall from a row to any later one
module _ (start : ℕ → ℕ) (n : ℕ) (up : (r : ℕ) → r < n → 1 ≤ r → start (r - 1) ≤ start r) where
  pub rising : (r q : ℕ) → q ≤ r → r < n → start q ≤ start r
  rising zero q l m = let e : q ≡ 0 = omega arith in rw e (omega arith)
  rising (suc r) q l m = go (eq-or-lt_of_le l) (λ k. rising r q k (omega arith))
    where
      go : (q ≡ suc r) ⊎ (q < suc r) → (q ≤ r → start q ≤ start r) → start q ≤ start (suc r)
      go (inl e) k = rw e (omega arith)
      go (inr e) k = let u : start r ≤ start (suc r) = simp unary_clauses at up (suc r) m (omega arith) in omega (arith, k (omega arith))

module _ (s : List ℕ) (h : Sound s) where
  pub windows_rise : (q r : ℕ) → q ≤ r → r < rows s Windows → (window s q).start ≤ (window s r).start
  unfolding order_words
  windows_rise q r l m = rising (λ w. (window s w).start) (rows s Windows) (λ i b c. first_rises _ _ (h.order Windows i b c)) r q l m

  pub pieces_rise : (q r : ℕ) → q ≤ r → r < rows s Pieces → (piece s q).start ≤ (piece s r).start
  unfolding order_words
  pieces_rise q r l m = rising (λ i. (piece s i).start) (rows s Pieces) (λ i b c. first_rises _ _ (h.order Pieces i b c)) r q l m

  pub frames_rise : (q r : ℕ) → q ≤ r → r < rows s Frames → (frame s q).start ≤ (frame s r).start
  unfolding order_words
  frames_rise q r l m = rising (λ f. (frame s f).start) (rows s Frames) (λ i b c. first_rises _ _ (h.order Frames i b c)) r q l m

  -- a frame takes a tick at least
  pub frames_last : (f : ℕ) → f < rows s Frames → (frame s f).start < frame_end s f
  unfolding frame_end send_ticks
  frames_last f l =
      let k = h.ranges Links _ (h.names Frames f l).1 in
      let d : 1 ≤ send_ticks s f = (le-div_iff_mul-le k.4).1 (omega (arith, k.4, (h.ranges Streams _ (h.names Frames f l).0).4)) in
      omega arith
