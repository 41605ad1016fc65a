-- Numbers and states as bytes: eight bytes are two words, and a state's words stored.
use Prim.Native.Nat.{ℕ, ◌+◌, ◌*◌, ◌/◌, ◌%◌, ◌^◌}
use mathlib.Core.Path.{◌≡◌, refl, sym, ◌∙◌}
use mathlib.Core.List.{List, ◌++◌}
use native.Mathlib.Omega.{arith}
use lib.ListN.{length, length-append}
use lib.Seq.{sets}
use Rattle.plan.specs.Boundary.{bytes_of, state_bytes}
use Rattle.plan.specs.declared.LaneState.{LaneState}
use Rattle.words.proofs.Bytes.{bytes_length, grow, covers}

-- ---- a number's bytes

digit : (x r k : ℕ) → x ≡ r + 256 * k → (r % 256 ≡ x % 256) × (x / 256 ≡ r / 256 + k)
digit x r k e = (omega arith, omega arith)

-- eight bytes are two words
two_words : (x : ℕ) → bytes_of 8 x ≡ bytes_of 4 (x % 2 ^ 32) ++ bytes_of 4 (x / 2 ^ 32)
unfolding bytes_of
two_words x =
    let r : ℕ = x % 2 ^ 32 in
    let q : ℕ = x / 2 ^ 32 in
    let a = digit x r (16777216 * q) (omega arith) in
    let b = digit (x / 256) (r / 256) (65536 * q) (omega (arith, a.1)) in
    let c = digit (x / 256 / 256) (r / 256 / 256) (256 * q) (omega (arith, b.1)) in
    let d = digit (x / 256 / 256 / 256) (r / 256 / 256 / 256) q (omega (arith, c.1)) in
    let e : x / 2 ^ 32 ≡ x / 256 / 256 / 256 / 256 = omega arith in
    rw (a.0, b.0, c.0, d.0, e) refl

-- ---- a state's bytes

module _ (st : LaneState) where
  pub state_length : length (state_bytes st) ≡ 28
  unfolding state_bytes bytes_of
  state_length = refl

  -- seven words stored one by one
  pub state_stored :
      (l : List ℕ)
      → length l ≡ 28
      → sets
      (sets
      (sets
      (sets
      (sets (sets (sets l 0 (bytes_of 4 (st.cycle % 2 ^ 32))) 4 (bytes_of 4 (st.cycle / 2 ^ 32))) 8 (bytes_of 4 st.tick))
      12
      (bytes_of 4 st.entry))
      16
      (bytes_of 4 st.first))
      20
      (bytes_of 4 st.kind))
      24
      (bytes_of 4 st.row)
      ≡ state_bytes st
  unfolding state_bytes
  state_stored l e =
      let a : List ℕ = bytes_of 4 (st.cycle % 2 ^ 32) in
      let b : List ℕ = a ++ bytes_of 4 (st.cycle / 2 ^ 32) in
      let c : List ℕ = b ++ bytes_of 4 st.tick in
      let d : List ℕ = c ++ bytes_of 4 st.entry in
      let f : List ℕ = d ++ bytes_of 4 st.first in
      let g : List ℕ = f ++ bytes_of 4 st.kind in
      let h : List ℕ = g ++ bytes_of 4 st.row in
      let n : length h ≡ 28 = simp (length-append, bytes_length) in
      sym
      (grow l g _ _ 24 (simp (length-append, bytes_length))
      (grow l f _ _ 20 (simp (length-append, bytes_length))
      (grow l d _ _ 16 (simp (length-append, bytes_length))
      (grow l c _ _ 12 (simp (length-append, bytes_length))
      (grow l b _ _ 8 (simp (length-append, bytes_length)) (grow l a _ _ 4 (simp bytes_length) refl))))))
      ∙ covers l h (omega arith)
      ∙ (rw (two_words st.cycle) refl)
