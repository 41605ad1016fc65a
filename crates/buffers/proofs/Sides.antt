-- What a side tells of two holds, and what is left when a walk along two rows' holds ends.
use Prim.Native.Nat.{ℕ, ◌≤◌, ◌<◌}
use mathlib.Core.Path.{◌≡◌, refl, sym, ◌∙◌, subst}
use mathlib.Core.Bool.{Bool, true, false, not, ◌&&◌, cond, true≢false}
use mathlib.Core.List.{List}
use mathlib.Core.Logic.{◌⊎◌, inl, inr}
use Rattle.plan.proofs.Searching.{and_true}
use lib.Dec.{ltb, leb}
use borrow.Author.Tests.{leb-true, leb-false, ltb-true, ltb-false}
use Rattle.plan.specs.Image.{buffer}
use Rattle.plan.specs.Search.{Interval, overlap, all}
use Rattle.plan.specs.Questions.{jobs, hold}
use Rattle.buffers.specs.declared.Side.{Side}
use Rattle.buffers.specs.declared.Side.TheVariants.{Overlap, FirstOver, SecondOver}
use Rattle.buffers.specs.Holds.{hold_of, side_of, holds_apart}
use Rattle.buffers.proofs.Merging.{other_side}

-- by the two tests
side : Bool → Bool → Side
side o l = cond o Overlap (cond l FirstOver SecondOver)

module _ (s : List ℕ) (q r j k : ℕ) where
  abbrev a : Interval
  a = hold s q j

  abbrev b : Interval
  b = hold s r k

  tests : side_of (hold_of s q j) (hold_of s r k) ≡ side (overlap a b) (leb a.to b.from)
  unfolding side_of hold_of overlap side
  tests = refl

  over : (o l : Bool) → side o l ≡ Overlap → o ≡ true
  unfolding side
  over true l e = refl
  over false true e = cc
  over false false e = cc

  first_over : (o l : Bool) → side o l ≡ FirstOver → l ≡ true
  unfolding side
  first_over true l e = cc
  first_over false true e = refl
  first_over false false e = cc

  second_over : (o l : Bool) → side o l ≡ SecondOver → (o ≡ false) × (l ≡ false)
  unfolding side
  second_over true l e = absurd (let z : Overlap ≡ SecondOver = e in cc)
  second_over false true e = absurd (let z : FirstOver ≡ SecondOver = e in cc)
  second_over false false e = (refl, refl)

  pub holds_overlap : side_of (hold_of s q j) (hold_of s r k) ≡ Overlap → overlap a b ≡ true
  holds_overlap e = over (overlap a b) (leb a.to b.from) (sym tests ∙ e)

  pub first_is_over : side_of (hold_of s q j) (hold_of s r k) ≡ FirstOver → a.to ≤ b.from
  first_is_over e = leb-true _ _ (first_over (overlap a b) (leb a.to b.from) (sym tests ∙ e))

  pub second_is_over : side_of (hold_of s q j) (hold_of s r k) ≡ SecondOver → b.to ≤ a.from
  second_is_over e =
      let w = second_over (overlap a b) (leb a.to b.from) (sym tests ∙ e) in
      other_side a b w.0 (leb-false a.to b.from w.1)

-- the jobs as the code counted them
pub counted : (s : List ℕ) (q r m n : ℕ) (b : Bool) → m ≡ jobs s (buffer s q).writer → n ≡ jobs s (buffer s r).writer
    → all m (λ j. all n (λ k. not (overlap (hold s q j) (hold s r k)))) ≡ b → holds_apart s q r ≡ b
unfolding holds_apart
counted s q r m n b e f h =
    subst (λ (x : ℕ). all x (λ j. all (jobs s (buffer s r).writer) (λ k. not (overlap (hold s q j) (hold s r k)))) ≡ b) e
    (subst (λ (y : ℕ). all m (λ j. all y (λ k. not (overlap (hold s q j) (hold s r k)))) ≡ b) f h)

-- the walk goes on while both rows have holds left, and ends when one has none
pub both_left : (a b c d : ℕ) → ltb a b && ltb c d ≡ true → (a < b) × (c < d)
both_left a b c d e = let w = and_true (ltb a b) (ltb c d) e in (ltb-true a b w.0, ltb-true c d w.1)

pub none_left : (a b c d : ℕ) → ltb a b && ltb c d ≡ false → (b ≤ a) ⊎ (d ≤ c)
none_left a b c d e = go (ltb a b) (ltb c d) refl refl e
  where
    go : (p q : Bool) → ltb a b ≡ p → ltb c d ≡ q → ltb a b && ltb c d ≡ false → (b ≤ a) ⊎ (d ≤ c)
    go false q x y z = inl (ltb-false a b x)
    go true false x y z = inr (ltb-false c d y)
    go true true x y z = absurd (true≢false (sym (rw (x, y) refl) ∙ z))
