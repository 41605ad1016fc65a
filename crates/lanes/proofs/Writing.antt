-- Words written one after another, and the table that they make.
use Prim.Native.Nat.{ℕ, suc, ◌+◌, ◌*◌, ◌≤◌}
use mathlib.Core.Path.{◌≡◌, refl, sym, ap, ◌∙◌}
use mathlib.Core.Bool.{true, false}
use mathlib.Core.List.{List, ◌∷◌, ◌++◌, []}
use native.Mathlib.Nat.{add-zero, zero-add}
use native.Mathlib.Omega.{arith}
use lib.ListN.{length, drop, set, length-append, length-set}
use lib.Seq.{sets, sets-eq, length-sets}
use Rattle.plan.specs.Image.{cycle_ticks}
use Rattle.plan.specs.Dispatch.{begins, entries, entry_count}
use Rattle.plan.proofs.Tables.{entries_length, count_mono}
use Rattle.lanes.specs.declared.Walk.{Walk}
use Rattle.lanes.specs.Walks.{StepFrom}
use Rattle.lanes.specs.Words.{put_at}
use Rattle.lanes.proofs.Walking.{entries_yes, entries_no}

-- stored one after another
pub put_sets : (words xs : List ℕ) (i : ℕ) → i + length xs ≤ length words → put_at words i xs ≡ sets words i xs
unfolding put_at
put_sets words xs i h = sym (sets-eq xs words i h)

sets_more : (words xs ys : List ℕ) (i : ℕ) → sets (sets words i xs) (i + length xs) ys ≡ sets words i (xs ++ ys)
sets_more words [] ys i = rw add-zero refl
sets_more words (x ∷ xs) ys i =
    let e : i + suc (length xs) ≡ suc i + length xs = omega arith in
    ap (λ (k : ℕ). sets (sets (set words i x) (suc i) xs) k ys) e ∙ sets_more (set words i x) xs ys (suc i)

pub put_length : (words xs : List ℕ) (i : ℕ) → i + length xs ≤ length words → length (put_at words i xs) ≡ length words
put_length words xs i h = ap length (put_sets words xs i h) ∙ length-sets words i xs

-- and further words after them
pub put_more : (words xs ys : List ℕ) (i : ℕ) → i + (length xs + length ys) ≤ length words
    → put_at (put_at words i xs) (i + length xs) ys ≡ put_at words i (xs ++ ys)
put_more words xs ys i h =
    let l = put_length words xs i (omega arith) in
    let m : i + length (xs ++ ys) ≤ length words = rw length-append h in
    put_sets (put_at words i xs) ys (i + length xs) (omega arith)
    ∙ ap (λ (u : List ℕ). sets u (i + length xs) ys) (put_sets words xs i (omega arith))
    ∙ sets_more words xs ys i ∙ sym (put_sets words (xs ++ ys) i m)

-- two words in front of those from 2 on
pub put_head : (words xs : List ℕ) (a b : ℕ) → 2 + length xs ≤ length words
    → put_at (set (set words 0 a) 1 b) 2 xs ≡ (a ∷ b ∷ xs) ++ drop (length (a ∷ b ∷ xs)) words
unfolding put_at
put_head words xs a b h =
    put_sets (set (set words 0 a) 1 b) xs 2 (rw (length-set, length-set) h) ∙ sets-eq (a ∷ b ∷ xs) words 0 (omega arith)
    ∙ ap (λ (k : ℕ). (a ∷ b ∷ xs) ++ drop k words) (zero-add (length (a ∷ b ∷ xs)))

-- ---- a lane's entries, written up to a tick

module _ (s : List ℕ) (lane : ℕ) (words : List ℕ) where
  pub record Written (t : ℕ) (after : List ℕ) (at : ℕ) : Type 0 where
    pub next : at ≡ 2 + length (entries s lane t)
    pub holds : after ≡ put_at words 2 (entries s lane t)

  pub written_none : 2 ≤ length words → Written 0 words 2
  unfolding entries
  written_none h = record { next = refl; holds = sym (put_sets words [] 2 h) }

  module _ (fits : 2 + 3 * entry_count s lane ≤ length words) where
    inside : (t : ℕ) → t ≤ cycle_ticks s → 2 + length (entries s lane t) ≤ length words
    unfolding entry_count
    inside t l = omega (arith, entries_length s lane t, count_mono (begins s lane) t (cycle_ticks s) l)

    pub written_length : {t at : ℕ} {after : List ℕ} → t ≤ cycle_ticks s → Written t after at → length after ≡ length words
    written_length {t} l h = ap length h.holds ∙ put_length words (entries s lane t) 2 (inside t l)

    module _ {t at : ℕ} {after : List ℕ} (w : Walk) (g : StepFrom s lane t w) (h : Written t after at) where
      -- there is room for an entry
      pub room : w.begins ≡ true → at + 3 ≤ length words
      room e =
          let q = ap length (entries_yes s lane w g e) ∙ length-append (entries s lane t) (w.from ∷ w.kind ∷ w.row ∷ []) in
          omega (arith, q, inside w.until g.reached.within, h.next)

      pub written_entry : w.begins ≡ true → Written w.until (put_at after at (w.from ∷ w.kind ∷ w.row ∷ [])) (at + 3)
      written_entry e =
          let x = w.from ∷ w.kind ∷ w.row ∷ [] in let y = entries s lane t in let p = entries_yes s lane w g e in
          let q = ap length p ∙ length-append y x in
          record {
            next = omega (arith, q, h.next);
            holds = rw (h.holds, h.next, p) (put_more words y x 2 (omega (arith, q, inside w.until g.reached.within)));
          }

    pub written_same : {t at : ℕ} {after : List ℕ} (w : Walk) → StepFrom s lane t w → Written t after at → w.begins ≡ false → Written w.until after at
    written_same w g h e =
        let p = entries_no s lane w g e in record { next = h.next ∙ ap (λ (u : List ℕ). 2 + length u) (sym p); holds = h.holds ∙ ap (put_at words 2) (sym p) }
