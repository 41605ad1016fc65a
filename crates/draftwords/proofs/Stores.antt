-- Words stored one by one, as the lists that the definitions store.
use Prim.Native.Nat.{ℕ, suc, ◌+◌}
use mathlib.Core.Path.{◌≡◌, refl}
use mathlib.Core.List.{List, ◌∷◌, []}
use native.Mathlib.Omega.{arith}
use lib.ListN.{set}
use lib.Seq.{sets}
use Rattle.plan.specs.declared.Piece.{Piece}
use Rattle.drafts.specs.Edits.{piece_words}

pub four_words : (w : List ℕ) (i : ℕ) (x : Piece)
    → set (set (set (set w i x.task) (i + 1) x.job) (i + 2) x.start) (i + 3) x.length ≡ sets w i (piece_words x)
unfolding piece_words
four_words w i x =
    let one : i + 1 ≡ suc i = omega arith in let two : i + 2 ≡ suc (suc i) = omega arith in let three : i + 3 ≡ suc (suc (suc i)) = omega arith in
    rw (one, two, three) refl

pub two_words : (w : List ℕ) (i j a b : ℕ) → j ≡ suc i → set (set w i a) j b ≡ sets w i (a ∷ b ∷ [])
two_words w i j a b e = rw e refl

pub three_words : (w : List ℕ) (i j k a b c : ℕ) → j ≡ suc i → k ≡ suc (suc i) → set (set (set w i a) j b) k c ≡ sets w i (a ∷ b ∷ c ∷ [])
three_words w i j k a b c e f = rw (e, f) refl
