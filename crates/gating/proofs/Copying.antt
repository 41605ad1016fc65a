-- Words copied one after another: a turn of the loop.
use Prim.Native.Nat.{ℕ, ◌+◌, ◌*◌, ◌<◌, ◌≤◌}
use mathlib.Core.Path.{◌≡◌, sym, ap, ◌∙◌}
use mathlib.Core.List.{List, ◌∷◌, ◌++◌, []}
use native.Mathlib.Omega.{arith}
use native.Mathlib.Numerals.{add-one}
use lib.ListN.{length, get_or, take, drop}
use borrow.Rule.Slice.PartMut.{put_mid}
use lib.Seq.{sets, sets-eq, take-suc, length-take-le}
use Rattle.plan.specs.Boundary.{bytes_of}
use Rattle.writing.specs.Stored.{stored}
use Rattle.writing.proofs.Storing.{stored_one, stored_after}

module _ (list : List ℕ) (i : ℕ) (l : i < length list) where
  one_more : take i list ++ get_or list i 0 ∷ [] ≡ take (i + 1) list
  one_more = sym (ap (λ (n : ℕ). take n list) (add-one i) ∙ take-suc list i 0 l)

  pub store_turn : (before bytes : List ℕ) → bytes ≡ stored before 0 (take i list)
      → sets bytes (4 * i) (bytes_of 4 (get_or list i 0)) ≡ stored before 0 (take (i + 1) list)
  store_turn before bytes e =
      stored_one bytes (4 * i) (get_or list i 0)
      ∙ ap (λ (b : List ℕ). stored b (4 * i) (get_or list i 0 ∷ [])) e
      ∙ stored_after before 0 (4 * i) (take i list) (get_or list i 0 ∷ []) (omega (arith, length-take-le i list (omega arith)))
      ∙ ap (stored before 0) one_more

-- words copied into the front
pub copied : (words vs : List ℕ) (many : ℕ) → length vs ≡ many → many ≤ length words → put_mid 0 many words vs ≡ sets words 0 vs
copied words vs many e k =
    let z : 0 + length vs ≡ many = omega arith in
    sym (sets-eq vs words 0 (omega arith) ∙ ap (λ (n : ℕ). take 0 words ++ (vs ++ drop n words)) z)
