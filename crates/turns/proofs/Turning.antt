-- A row of records in turn, each at its own table: started, tried and moved.
use Prim.Native.Nat.{ℕ, zero, suc, ◌+◌, ◌/◌, ◌%◌, ◌≤◌, ◌<◌}
use mathlib.Core.Path.{◌≡◌, refl, sym, ap, ◌∙◌}
use mathlib.Core.Logic.{◌≢◌}
use mathlib.Core.Bool.{Bool, true, false, cond}
use mathlib.Core.List.{List, ◌∷◌, ◌++◌, [], map, flat_map}
use native.Mathlib.Omega.{arith}
use lib.Dec.{eqb}
use lib.ListN.{length, take, drop, length-take, length-drop, length-append, drop_of_length-le}
use borrow.Author.Tests.{eq-eqb, ne_eqb, eqb-true}
use borrow.Rule.Slice.PartMut.{put_mid}
use lib.Seq.{drop-drop, take_at, drop_at}
use Rattle.plan.specs.declared.LaneState.{LaneState}
use Rattle.plan.specs.Dispatch.{start_state, starts_at, step, refusal, step_all}
use Rattle.plan.specs.Boundary.{state_of, state_bytes, first_records, records_of}
use Rattle.modes.specs.Modes.{table_after, table_from, placed, at_table}
use Rattle.turns.specs.Turns.{states_of}
use Rattle.modes.proofs.Tabled.{from_second}
use Rattle.states.proofs.Bytes.{state_length}
use Rattle.records.proofs.Rows.{records_cons, records_nil, writes, Wrote, wrote_none, wrote_part, wrote_all}

-- ---- the states of a row

pub states_cons : (b : List ℕ) → 0 < length b → states_of b ≡ state_of (take 28 b) ∷ states_of (drop 28 b)
unfolding states_of
states_cons b l = ap (map state_of) (records_cons b l)

pub states_nil : (b : List ℕ) → length b ≤ 0 → states_of b ≡ []
unfolding states_of
states_nil b l = let e : b ≡ [] = drop_of_length-le b {i = 0} l in rw (e, records_nil) refl

-- ---- started

starts_cong : (f g : ℕ → ℕ) (c n : ℕ) → ((l : ℕ) → f l ≡ g l) → starts_at f c n ≡ starts_at g c n
unfolding starts_at
starts_cong f g c zero h = refl
starts_cong f g c (suc n) h = rw (starts_cong f g c n h, h n) refl

starts_cons : (f : ℕ → ℕ) (c n : ℕ) → starts_at f c (suc n) ≡ start_state c (f 0) ∷ starts_at (λ l. f (suc l)) c n
unfolding starts_at
starts_cons f c zero = refl
starts_cons f c (suc n) = ap (λ (x : List LaneState). x ++ start_state c (f (suc n)) ∷ []) (starts_cons f c n)

abbrev pub starts : ℕ → ℕ → List ℕ → List ℕ
starts c at r = state_bytes (start_state c at)

starts_records : (words : List ℕ) (c at n : ℕ) (b : List ℕ)
    → writes (starts c) (table_after words) at (first_records n b) ≡ flat_map state_bytes (starts_at (table_from words at) c n)
unfolding writes first_records starts_at flat_map table_from
starts_records words c at zero b = refl
starts_records words c at (suc n) b =
    let e : starts_at (table_from words (table_after words at)) c n ≡ starts_at (λ l. table_from words at (suc l)) c n = starts_cong _ _ c n (from_second words at) in
    ap (λ (x : List ℕ). state_bytes (start_state c at) ++ x) (starts_records words c (table_after words at) n (drop 28 b) ∙ ap (flat_map state_bytes) e)
    ∙ sym (ap (flat_map state_bytes) (starts_cons (table_from words at) c n))

-- what is started once all records are
pub started_all : (words : List ℕ) (c at : ℕ) (b : List ℕ) → length b % 28 ≡ 0
    → writes (starts c) (table_after words) at (records_of b) ≡ flat_map state_bytes (starts_at (table_from words at) c (length b / 28))
unfolding records_of
started_all words c at b e =
    let n : (length b + 27) / 28 ≡ length b / 28 = omega arith in
    ap (λ (k : ℕ). writes (starts c) (table_after words) at (first_records k b)) n ∙ starts_records words c at (length b / 28) b

-- ---- tried

module _ (words : List ℕ) where
  abbrev pub lowest : ℕ → List ℕ → ℕ
  lowest at b = refusal words (placed words at (states_of b))

  abbrev pub there : ℕ → List ℕ → LaneState
  there at r = (step words (at_table at (state_of r))).state

  abbrev pub numbered : ℕ → List ℕ → ℕ
  numbered at r = (step words (at_table at (state_of r))).number

  lowest_next : (at : ℕ) (b : List ℕ) → 0 < length b
      → lowest at b ≡ cond (eqb (numbered at (take 28 b)) 0) (lowest (table_after words at) (drop 28 b)) (numbered at (take 28 b))
  unfolding placed refusal
  lowest_next at b l = rw (states_cons b l) refl

  lowest_nil : (at : ℕ) (b : List ℕ) → length b ≤ 0 → lowest at b ≡ 0
  unfolding placed refusal
  lowest_nil at b l = rw (states_nil b l) refl

  -- x is the next record of b, and the rest come after it
  module _ (at : ℕ) (b x rest : List ℕ) (split : b ≡ x ++ rest) (whole : length x ≡ 28) where
    first : take 28 b ≡ x
    first = rw split (take_at x rest 28 whole)

    some : 0 < length b
    some = rw split (omega (arith, length-append x rest))

    pub refused_at : numbered at x ≢ 0 → numbered at x ≡ lowest at b
    refused_at h = sym (lowest_next at b some ∙ (rw (first, ne_eqb (numbered at x) 0 h) refl))

    pub fits_at : numbered at x ≡ 0 → lowest at b ≡ lowest (table_after words at) rest
    fits_at h =
        let d : drop 28 b ≡ rest = rw split (drop_at x rest 28 whole) in
        lowest_next at b some ∙ (rw (first, eq-eqb (numbered at x) 0 h, d) refl)

    pub still_whole : length b % 28 ≡ 0 → length rest % 28 ≡ 0
    still_whole h = let n : length b ≡ length x + length rest = rw split (length-append x rest) in omega arith

  pub all_fit : (at : ℕ) (b : List ℕ) → length b % 28 ≡ 0 → length b < 28 → 0 ≡ lowest at b
  all_fit at b e l = sym (lowest_nil at b (omega arith))

  first_fits : (at : ℕ) (b : List ℕ) → 0 < length b → lowest at b ≡ 0 → (numbered at (take 28 b) ≡ 0) × (lowest (table_after words at) (drop 28 b) ≡ 0)
  first_fits at b l h = go (eqb (numbered at (take 28 b)) 0) refl (sym (lowest_next at b l) ∙ h)
    where
      go : (t : Bool) → eqb (numbered at (take 28 b)) 0 ≡ t → cond t (lowest (table_after words at) (drop 28 b)) (numbered at (take 28 b)) ≡ 0
          → (numbered at (take 28 b) ≡ 0) × (lowest (table_after words at) (drop 28 b) ≡ 0)
      go true e k = (eqb-true (numbered at (take 28 b)) 0 e, k)
      go false e k = absurd (let z = sym e ∙ eq-eqb (numbered at (take 28 b)) 0 k in let y : ◌≡◌ {A = ℕ} 0 1 = cc in omega arith)

  -- ---- moved

  abbrev pub puts : ℕ → List ℕ → List ℕ
  puts at r = state_bytes (there at r)

  pub record Turned (b : List ℕ) (first i at : ℕ) (now : List ℕ) : Type 0 where
    pub wrote : Wrote puts (table_after words) b first i at now
    pub fit : lowest at (drop i b) ≡ 0
    pub whole : i % 28 ≡ 0

  module _ (b : List ℕ) (first : ℕ) where
    pub turned_none : lowest first b ≡ 0 → Turned b first 0 first b
    turned_none h = record { wrote = wrote_none puts (table_after words) b first; fit = h; whole = refl }

    module _ (i at : ℕ) (now : List ℕ) (m : Turned b first i at now) where
      pub here_fits : i + 28 ≤ length b → (length (take 28 (drop i now)) ≡ 28) × (numbered at (take 28 (drop i now)) ≡ 0)
      here_fits l = (
        omega (arith, length-take 28 (drop i now), length-drop i now, m.wrote.size),
        rw m.wrote.rest (first_fits at (drop i b) (rw (length-drop i b) (omega arith)) m.fit).0,
      )

      pub turned_part : (k : ℕ) (r : List ℕ) → k ≡ 28 → r ≡ puts at (take k (drop i now)) → i + 28 ≤ length b
          → Turned b first (i + 28) (table_after words at) (put_mid i k now r)
      turned_part k r e q l =
          let q' : r ≡ puts at (take 28 (drop i now)) = q ∙ ap (λ (x : ℕ). puts at (take x (drop i now))) e in
          record {
            wrote = wrote_part puts (table_after words) b first i at now m.wrote k r e l (ap length q' ∙ state_length (there at (take 28 (drop i now))))
                (q' ∙ ap (λ (x : List ℕ). puts at (take 28 x)) m.wrote.rest);
            fit = ap (lowest (table_after words at)) (sym (drop-drop 28 i b)) ∙ (first_fits at (drop i b) (rw (length-drop i b) (omega arith)) m.fit).1;
            whole = let z = m.whole in omega arith;
          }

  moves_records : (at : ℕ) (rs : List (List ℕ))
      → writes puts (table_after words) at rs ≡ flat_map state_bytes (map (λ st. (step words st).state) (placed words at (map state_of rs)))
  unfolding writes placed flat_map
  moves_records at [] = refl
  moves_records at (r ∷ rs) = ap (λ (x : List ℕ). puts at r ++ x) (moves_records (table_after words at) rs)

  pub moved_all : (b : List ℕ) (first i at : ℕ) (now : List ℕ) → Turned b first i at now → lowest first b ≡ 0 → length b ≤ i
      → now ≡ flat_map state_bytes (step_all words (placed words first (states_of b)))
  unfolding step_all states_of
  moved_all b first i at now m h l =
      wrote_all puts (table_after words) b first i at now m.wrote l ∙ moves_records first (records_of b)
      ∙ (rw (eq-eqb (refusal words (placed words first (map state_of (records_of b)))) 0 h) refl)
