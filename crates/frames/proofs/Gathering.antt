-- A frame taken in: what is kept of its place is brought up to date, and nothing else changes.
use Prim.Native.Nat.{ℕ, zero, suc, ◌+◌, ◌*◌, ◌≤◌, ◌<◌, min}
use mathlib.Core.Path.{◌≡◌, refl, sym, ap, ◌∙◌, subst}
use mathlib.Core.Logic.{◌⊎◌, inl, inr}
use mathlib.Core.List.{List}
use native.Mathlib.Nat.{not-suc-le-zero, eq-or-lt_of_le, le_of_suc-le-suc}
use native.Mathlib.Omega.{arith}
use lib.Dec.{eqb}
use lib.ListN.{length, get_or, set, length-set, replicate, length-replicate, get_or-replicate}
use Rattle.plan.specs.declared.Table.TheVariants.{Streams, Frames}
use Rattle.plan.specs.Image.{rows, stream, most_streams, most_frames}
use Rattle.plan.specs.Search.{sum, count}
use Rattle.plan.specs.Held.{Sound}
use Rattle.plan.proofs.Searching.{sum_turn, count_most}
use Rattle.tallies.specs.Tallies.{tally, Kept}
use Rattle.tallies.proofs.Tallying.{kept_apart, kept_as, kept_at, kept_none, kept_on, tally_none, tally_at, tally_other, tally_next, tally_skip, tally_sum}
use Rattle.frames.proofs.Placing.{frames_most, streams_most}
use Rattle.frames.specs.Index.{span, place, frame_place, begins, many_at, last_at, Taken, taken_at, counts_at, lasts_at, frame_words}

-- the first n streams have their places, and no frame is taken in yet
pub record Begun (s index : List ℕ) (n : ℕ) : Type 0 where
  pub size : length index ≡ frame_words
  pub starts : Kept index 0 n (begins s)
  pub counts : Kept index counts_at most_frames (λ _. 0)
  pub lasts : Kept index lasts_at most_frames (λ _. 0)

-- ---- the streams' places

module _ (s : List ℕ) where
  fresh_words : (base n : ℕ) → base + n ≤ frame_words → Kept (replicate frame_words 0) base n (λ _. 0)
  fresh_words base n l = record { room = rw length-replicate l; each = λ p m. get_or-replicate frame_words (base + p) 0 0 (omega arith) }

  pub begun_none : Begun s (replicate frame_words 0) 0
  begun_none =
      record {
        size = let z : ℕ = 0 in length-replicate frame_words z;
        starts = kept_none (replicate frame_words 0) 0 (begins s) (omega arith);
        counts = fresh_words counts_at most_frames (omega arith);
        lasts = fresh_words lasts_at most_frames (omega arith);
      }

  -- one stream more
  pub begun_more : (index : List ℕ) (n x : ℕ) → n < most_streams → x ≡ begins s n → Begun s index n → Begun s (set index n x) (n + 1)
  begun_more index n x l e h =
      record {
        size = simp length-set h.size;
        starts = kept_on index n (begins s) h.starts (omega (arith, h.size)) x e;
        counts = kept_apart index counts_at most_frames (λ _. 0) h.counts n x (inl l);
        lasts = kept_apart index lasts_at most_frames (λ _. 0) h.lasts n x (inl (omega arith));
      }

  pub begins_none : 0 ≡ begins s 0
  unfolding begins sum
  begins_none = refl

  pub begins_more : (n x : ℕ) → x ≡ begins s n → min most_frames (x + span s n) ≡ begins s (n + 1)
  unfolding begins
  begins_more n x e = let t = sum_turn (span s) n in omega arith

  pub begins_most : (m : ℕ) → begins s m ≤ most_frames
  unfolding begins
  begins_most m = omega arith

  -- a place from the word that is kept
  pub word_most : (index : List ℕ) (n m : ℕ) → Kept index 0 n (begins s) → m < n → get_or index m 0 ≤ most_frames
  word_most index n m h l = omega (arith, kept_at index n (begins s) h m l, begins_most m)

  pub word_place : (index : List ℕ) (n m k h : ℕ) → Kept index 0 n (begins s) → m < n
      → min most_frames (get_or index m 0 + (k * (stream s m).hops + h)) ≡ min most_frames (place s m k h)
  unfolding begins place
  word_place index n m k h d l = omega (arith, kept_at index n (begins s) d m l)

  -- all streams, and no frame yet
  pub taken_none : (index : List ℕ) → Begun s index (rows s Streams) → Taken s index 0
  unfolding many_at last_at
  taken_none index h =
      record {
        size = h.size;
        starts = h.starts;
        counts = kept_as index counts_at most_frames (λ _. 0) h.counts _ (λ q m. tally_none ◌+◌ 0 (frame_place s) (λ _. 1) q);
        lasts = kept_as index lasts_at most_frames (λ _. 0) h.lasts _ (λ q m. tally_none (λ _ f. f) 0 (frame_place s) (λ f. f) q);
      }

  -- ---- a frame

  pub many_most : (n p : ℕ) → many_at s n p ≤ n
  unfolding many_at count
  many_most n p = rw (tally_sum (frame_place s) (λ _. 1) p (λ i. eqb (frame_place s i) p) n (λ i l. refl)) (count_most (λ i. eqb (frame_place s i) p) n)

  module _ (index : List ℕ) (n : ℕ) (sound : Sound s) (h : Taken s index n) where
    -- a count has room for one more
    pub few_there : (p : ℕ) → n < rows s Frames → p < most_frames → get_or index (counts_at + p) 0 ≤ most_frames
    few_there p l m = omega (arith, h.counts.each p m, many_most n p, frames_most s sound)

    pub taken_in : frame_place s n < most_frames → Taken s (taken_at index (frame_place s n) n) (n + 1)
    unfolding taken_at many_at last_at
    taken_in l =
        let at = frame_place s n in
        let x = get_or index (counts_at + at) 0 + 1 in
        let inner = set index (counts_at + at) x in
        let far = streams_most s sound in
        record {
          size = simp length-set h.size;
          starts =
              kept_apart inner 0 (rows s Streams) (begins s)
              (kept_apart index 0 (rows s Streams) (begins s) h.starts (counts_at + at) x (inr (omega arith)))
              (lasts_at + at) n (inr (omega arith));
          counts =
              kept_apart inner counts_at most_frames (tally ◌+◌ 0 (frame_place s) (λ _. 1) (n + 1))
              (tally_next ◌+◌ 0 (frame_place s) (λ _. 1) index counts_at most_frames n h.counts x l refl)
              (lasts_at + at) n (inr (omega arith));
          lasts =
              tally_next (λ _ f. f) 0 (frame_place s) (λ f. f) inner lasts_at most_frames n
              (kept_apart index lasts_at most_frames (tally (λ _ f. f) 0 (frame_place s) (λ f. f) n) h.lasts (counts_at + at) x (inl (omega arith)))
              n l refl;
        }

    pub taken_past : most_frames ≤ frame_place s n → Taken s index (n + 1)
    unfolding many_at last_at
    taken_past l =
        record {
          size = h.size;
          starts = h.starts;
          counts = tally_skip ◌+◌ 0 (frame_place s) (λ _. 1) index counts_at most_frames n h.counts l;
          lasts = tally_skip (λ _ f. f) 0 (frame_place s) (λ f. f) index lasts_at most_frames n h.lasts l;
        }

-- a place that is kept is kept as it is
pub capped_is : (p x : ℕ) → p ≡ min most_frames x → p < most_frames → p ≡ x
capped_is p x e l = omega arith

pub capped_past : (p x : ℕ) → p ≡ min most_frames x → (p < most_frames → ⊥) → most_frames ≤ x
capped_past p x e l = omega arith

-- the last row at a place is the only one where there is one
pub last_one : (place : ℕ → ℕ) (p n f : ℕ) → f < n → place f ≡ p → ((g : ℕ) → g < n → place g ≡ p → g ≡ f) → tally (λ _ g. g) 0 place (λ g. g) n p ≡ f
last_one place p zero f l e o = absurd (not-suc-le-zero l)
last_one place p (suc n) f l e o = go (eq-or-lt_of_le (le_of_suc-le-suc l)) (λ k. last_one place p n f k e (λ g m d. o g (omega arith) d))
  where
    go : (f ≡ n) ⊎ (f < n) → (f < n → tally (λ _ g. g) 0 place (λ g. g) n p ≡ f) → tally (λ _ g. g) 0 place (λ g. g) (suc n) p ≡ f
    go (inl q) k =
        subst (λ (x : ℕ). tally (λ _ g. g) 0 place (λ g. g) (suc n) x ≡ f) (ap place (sym q) ∙ e) (tally_at (λ _ g. g) 0 place (λ g. g) n ∙ sym q)
    go (inr q) k = tally_other (λ _ g. g) 0 place (λ g. g) n p (λ d. let z = o n (omega arith) (sym d) in omega arith) ∙ k q
