-- What a search knows of the rows behind it, where its test tells what p says.
use Rattle.std.proofs.Common.{ℕ, zero, suc, refl, ◌<◌, ◌≤◌, ◌≡◌, Bool, true, false, Some, None, arith}
use mathlib.Core.Path.{sym}
use Rattle.plan.specs.Search.{first_no, all, any}
use Rattle.plan.proofs.Searching.{stops, none_iff, yes_all, all_stops, any_turn, any_stops}
use Rattle.searching.specs.Searching.{Reached, Tells}

module _ (post : ℕ → Bool → Type 0) (on : Bool) (n : ℕ) (p : ℕ → Bool) (t : Tells post on n p) where
  pub before : (i : ℕ) → i ≤ n → Reached post on i → (j : ℕ) → j < i → p j ≡ on
  before i l r j k = sym (t j on (omega arith) (λ h m. r h (omega arith)) (r j k))

  pub here : (i : ℕ) (b : Bool) → i < n → Reached post on i → post i b → p i ≡ b
  here i b l r q = sym (t i b l r q)

module _ (post : ℕ → Bool → Type 0) (n : ℕ) (p : ℕ → Bool) where
  pub found : Tells post true n p → (i : ℕ) → i < n → Reached post true i → post i false → Some i ≡ first_no n p
  found t i l r q =
      sym (stops p n i ((none_iff p i).1 (before post true n p t i (omega arith) r)) l (here post true n p t i false l r q))

  pub none_found : Tells post true n p → (i : ℕ) → n ≤ i → Reached post true i → None ≡ first_no n p
  none_found t i l r = sym ((none_iff p n).1 (before post true n p t n (omega arith) (λ j k. r j (omega arith))))

  pub not_all : Tells post true n p → (i : ℕ) → i < n → Reached post true i → post i false → false ≡ all n p
  not_all t i l r q = sym (all_stops p n i l (here post true n p t i false l r q))

  pub all_told : Tells post true n p → (i : ℕ) → n ≤ i → Reached post true i → true ≡ all n p
  all_told t i l r = sym (yes_all p n (before post true n p t n (omega arith) (λ j k. r j (omega arith))))

  pub some_told : Tells post false n p → (i : ℕ) → i < n → Reached post false i → post i true → true ≡ any n p
  some_told t i l r q = sym (any_stops p n i l (here post false n p t i true l r q))

  pub none_told : Tells post false n p → (i : ℕ) → n ≤ i → Reached post false i → false ≡ any n p
  unfolding any
  none_told t i l r = sym (go n (before post false n p t n (omega arith) (λ j k. r j (omega arith))))
    where
      go : (m : ℕ) → ((j : ℕ) → j < m → p j ≡ false) → any m p ≡ false
      go zero h = refl
      go (suc m) h = any_turn p m (go m (λ j k. h j (omega arith))) (h m (omega arith))
