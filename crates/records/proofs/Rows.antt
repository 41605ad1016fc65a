-- A row of records of 28 bytes, each written in its turn: what is left once those before byte i are. A record is written by its own bytes and
-- by a number that is carried on from one to the next, as the word at which the next table begins.
use Prim.Native.Nat.{ℕ, suc, ◌+◌, ◌/◌, ◌≤◌, ◌<◌}
use mathlib.Core.Path.{◌≡◌, refl, sym, ap, subst, ◌∙◌}
use mathlib.Core.List.{List, ◌∷◌, ◌++◌, [], append-nil, append_assoc}
use native.Mathlib.Omega.{arith}
use lib.ListN.{length, take, drop, length-append, length-drop, drop_of_length-le}
use borrow.Rule.Slice.PartMut.{put_mid}
use lib.Seq.{drop-drop, take_all, take_at, drop_at, length-take-le}
use Rattle.plan.specs.Boundary.{first_records, records_of}

-- ---- the first record and the rest

pub records_cons : (b : List ℕ) → 0 < length b → records_of b ≡ take 28 b ∷ records_of (drop 28 b)
unfolding records_of first_records
records_cons b l =
    let e : (length b + 27) / 28 ≡ suc ((length (drop 28 b) + 27) / 28) = rw (length-drop 28 b) (omega arith) in
    ap (λ (n : ℕ). first_records n b) e

pub records_nil : records_of [] ≡ []
unfolding records_of first_records
records_nil = refl

-- ---- records written in turn

module _ (put : ℕ → List ℕ → List ℕ) (next : ℕ → ℕ) where
  unfoldable pub writes : ℕ → List (List ℕ) → List ℕ
  writes at [] = []
  writes at (r ∷ rs) = put at r ++ writes (next at) rs

  -- those before byte i are written, and the number carried on is `at`
  pub record Wrote (b : List ℕ) (first i at : ℕ) (now : List ℕ) : Type 0 where
    pub inside : i ≤ length b
    pub size : length now ≡ length b
    pub rest : drop i now ≡ drop i b
    pub done : take i now ++ writes at (records_of (drop i b)) ≡ writes first (records_of b)

  pub writes_cons : (at : ℕ) (b : List ℕ) → 0 < length b → writes at (records_of b) ≡ put at (take 28 b) ++ writes (next at) (records_of (drop 28 b))
  unfolding writes
  writes_cons at b l = ap (writes at) (records_cons b l)

  pub writes_nil : (at : ℕ) (b : List ℕ) → b ≡ [] → writes at (records_of b) ≡ []
  unfolding writes
  writes_nil at b e = rw (e, records_nil) refl

  module _ (b : List ℕ) (first : ℕ) where
    pub wrote_none : Wrote b first 0 first b
    wrote_none = record { inside = omega arith; size = refl; rest = refl; done = refl }

    module _ (i at : ℕ) (now : List ℕ) (m : Wrote b first i at now) where
      -- the next record is lent, and comes back written
      pub wrote_part : (k : ℕ) (r : List ℕ) → k ≡ 28 → i + 28 ≤ length b → length r ≡ 28 → r ≡ put at (take 28 (drop i b))
          → Wrote b first (i + 28) (next at) (put_mid i k now r)
      wrote_part k r e h n q =
          subst
          (λ (x : List ℕ). Wrote b first (i + 28) (next at) x)
          (append_assoc (take i now) r (drop (i + 28) now) ∙ (rw (← drop-drop 28 i now, e) refl))
          more
        where
          l : 0 < length (drop i b)
          l = rw (length-drop i b) (omega arith)

          p : List ℕ
          p = take i now ++ r

          j : length p ≡ i + 28
          j = length-append (take i now) r ∙ omega (arith, length-take-le i now (omega (arith, m.size)))

          more : Wrote b first (i + 28) (next at) (take i now ++ r ++ drop (i + 28) now)
          more =
              let z = m.size in
              record {
                inside = h;
                size = length-append p (drop (i + 28) now) ∙ omega (arith, j, length-drop (i + 28) now);
                rest = drop_at p (drop (i + 28) now) (i + 28) j ∙ sym (drop-drop 28 i now) ∙ ap (drop 28) m.rest ∙ drop-drop 28 i b;
                done =
                    ap (λ (x : List ℕ). x ++ writes (next at) (records_of (drop (i + 28) b))) (take_at p (drop (i + 28) now) (i + 28) j)
                    ∙ append_assoc (take i now) r (writes (next at) (records_of (drop (i + 28) b)))
                    ∙ ap (λ (x : List ℕ). take i now ++ x)
                    (ap (λ (x : List ℕ). x ++ writes (next at) (records_of (drop (i + 28) b))) q
                    ∙ ap (λ (x : List ℕ). put at (take 28 (drop i b)) ++ writes (next at) (records_of x)) (sym (drop-drop 28 i b))
                    ∙ sym (writes_cons at (drop i b) l))
                    ∙ m.done;
              }

      pub wrote_all : length b ≤ i → now ≡ writes first (records_of b)
      wrote_all l =
          sym
          (sym m.done ∙ ap (λ (x : List ℕ). take i now ++ x) (writes_nil at (drop i b) (drop_of_length-le b {i = i} l))
          ∙ append-nil (take i now) ∙ take_all i now (omega (arith, m.size)))
