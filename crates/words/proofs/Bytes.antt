-- A number's bytes: how many, and stored one after another.
use Prim.Native.Nat.{ℕ, zero, suc, ◌+◌, ◌*◌, ◌/◌, ◌%◌, ◌<◌}
use mathlib.Core.Path.{◌≡◌, refl, sym, ap, ◌∙◌}
use mathlib.Core.List.{List, ◌∷◌, ◌++◌, [], flat_map, append_assoc, append-nil}
use native.Mathlib.Nat.{add-zero}
use native.Mathlib.Omega.{arith}
use lib.ListN.{length, set, length-append, drop_of_length-le}
use lib.Seq.{sets, sets-eq, set_comm}
use Rattle.plan.specs.Boundary.{bytes_of}

-- ---- a number's bytes, and those of a row of words

pub bytes_length : (n x : ℕ) → length (bytes_of n x) ≡ n
unfolding bytes_of
bytes_length zero x = refl
bytes_length (suc n) x = ap suc (bytes_length n (x / 256))

pub row_length : (ws : List ℕ) → length (flat_map (bytes_of 4) ws) ≡ 4 * length ws
unfolding flat_map
row_length [] = refl
row_length (w ∷ ws) = length-append (bytes_of 4 w) (flat_map (bytes_of 4) ws) ∙ omega (arith, bytes_length 4 w, row_length ws)

pub row_append : (vs ws : List ℕ) → flat_map (bytes_of 4) (vs ++ ws) ≡ flat_map (bytes_of 4) vs ++ flat_map (bytes_of 4) ws
unfolding flat_map
row_append [] ws = refl
row_append (v ∷ vs) ws =
    ap (λ (b : List ℕ). bytes_of 4 v ++ b) (row_append vs ws) ∙ sym (append_assoc (bytes_of 4 v) (flat_map (bytes_of 4) vs) (flat_map (bytes_of 4) ws))

-- ---- stores

-- four bytes stored one by one
pub word_stored :
    (l : List ℕ) (i x : ℕ)
    → set (set (set (set l i (x % 256)) (i + 1) (x / 256 % 256)) (i + 2) (x / 65536 % 256)) (i + 3) (x / 16777216 % 256) ≡ sets l i (bytes_of 4 x)
unfolding bytes_of
word_stored l i x =
    let a : i + 1 ≡ suc i = omega arith in
    let b : i + 2 ≡ suc (suc i) = omega arith in
    let c : i + 3 ≡ suc (suc (suc i)) = omega arith in
    let d : x / 65536 ≡ x / 256 / 256 = omega arith in
    let e : x / 16777216 ≡ x / 256 / 256 / 256 = omega arith in
    rw (a, b, c, d, e) refl

-- further bytes after some
pub sets_append : (vs ws l : List ℕ) (i : ℕ) → sets l i (vs ++ ws) ≡ sets (sets l i vs) (i + length vs) ws
sets_append [] ws l i = rw (add-zero i) refl
sets_append (v ∷ vs) ws l i =
    let e : suc i + length vs ≡ i + suc (length vs) = omega arith in
    sets_append vs ws (set l i v) (suc i) ∙ ap (λ (k : ℕ). sets (sets (set l i v) (suc i) vs) k ws) e

-- further bytes before some
set_before : (ws l : List ℕ) (i k v : ℕ) → i < k → set (sets l k ws) i v ≡ sets (set l i v) k ws
set_before [] l i k v h = refl
set_before (w ∷ ws) l i k v h =
    set_before ws (set l k w) i (suc k) v (omega arith) ∙ ap (λ (m : List ℕ). sets m (suc k) ws) (set_comm l k i w v (λ e. absurd (omega arith)))

pub sets_before : (vs ws l : List ℕ) (i : ℕ) → sets (sets l (i + length vs) ws) i vs ≡ sets l i (vs ++ ws)
sets_before [] ws l i = rw (add-zero i) refl
sets_before (v ∷ vs) ws l i =
    let e : i + suc (length vs) ≡ suc i + length vs = omega arith in
    ap (λ (m : List ℕ). sets m (suc i) vs) (set_before ws l i (i + suc (length vs)) v (omega arith) ∙ ap (λ (k : ℕ). sets (set l i v) k ws) e)
    ∙ sets_before vs ws (set l i v) (suc i)

-- bytes stored from the first on: further ones after them, and as many as there are
module _ (l : List ℕ) where
  pub grow : (p v m : List ℕ) (n : ℕ) → length p ≡ n → sets l 0 p ≡ m → sets l 0 (p ++ v) ≡ sets m n v
  grow p v m n e h =
      let k : 0 + length p ≡ n = omega arith in
      sets_append p v l 0 ∙ ap (λ (j : ℕ). sets (sets l 0 p) j v) k ∙ ap (λ (z : List ℕ). sets z n v) h

  pub covers : (vs : List ℕ) → length l ≡ length vs → sets l 0 vs ≡ vs
  covers vs e = sets-eq vs l 0 (omega arith) ∙ ap (λ (z : List ℕ). vs ++ z) (drop_of_length-le l {i = 0 + length vs} (omega arith)) ∙ append-nil vs
