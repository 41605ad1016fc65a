-- A row of bytes as records of 28: the first one and the rest; what is known once no record before byte i is refused; and the
-- bytes of which the records before byte i are moved.
use Prim.Native.Nat.{ℕ, zero, suc, ◌+◌, ◌*◌, ◌/◌, ◌≤◌, ◌<◌}
use mathlib.Core.Path.{◌≡◌, refl, sym, ap, ◌∙◌}
use mathlib.Core.Logic.{◌≢◌}
use mathlib.Core.Bool.{Bool, true, false, cond}
use mathlib.Core.List.{List, ◌∷◌, ◌++◌, [], flat_map, append-nil}
use native.Mathlib.Omega.{arith}
use lib.Dec.{eqb}
use borrow.Author.Tests.{eq-eqb, ne_eqb, eqb-true}
use lib.ListN.{length, take, drop, length-take, length-drop, length-append, drop_of_length-le}
use Rattle.std.specs.Prelude.{min}
use borrow.Rule.Slice.PartMut.{put_mid}
use lib.Seq.{drop-drop, take-add, take_all, take_at, drop_at}
use Rattle.plan.specs.Dispatch.{step, start_state}
use Rattle.plan.specs.Boundary.{words_of, state_of, state_bytes, start_number, start_bytes, step_number, step_bytes, first_records, records_of, refused_number, step_all_number, step_all_bytes}
use Rattle.states.proofs.Bytes.{state_length}
use Rattle.records.proofs.Rows.{records_cons, records_nil, writes, Wrote, wrote_none, wrote_part, wrote_all}

-- ---- one record

module _ (cycle word : ℕ) (b : List ℕ) where
  pub not_started : length b ≢ 28 → (27 ≡ start_number b) × (b ≡ start_bytes cycle word b)
  unfolding start_number start_bytes
  not_started n = let e = ne_eqb (length b) 28 n in (rw e refl, rw e refl)

  pub started : length b ≡ 28 → (0 ≡ start_number b) × (state_bytes (start_state cycle word) ≡ start_bytes cycle word b)
  unfolding start_number start_bytes
  started n = let e = eq-eqb (length b) 28 n in (rw e refl, rw e refl)

module _ (ws b : List ℕ) where
  pub other_length : length b ≢ 28 → (27 ≡ step_number ws b) × (b ≡ step_bytes ws b)
  unfolding step_number step_bytes
  other_length n = let e = ne_eqb (length b) 28 n in (rw e refl, rw e refl)

  pub refused_stays : step_number ws b ≢ 0 → b ≡ step_bytes ws b
  unfolding step_bytes
  refused_stays h = rw (ne_eqb (step_number ws b) 0 h) refl

  pub whole_number : length b ≡ 28 → (step (words_of ws) (state_of b)).number ≡ step_number ws b
  unfolding step_number
  whole_number n = rw (eq-eqb (length b) 28 n) refl

  pub moved_bytes : step_number ws b ≡ 0 → state_bytes (step (words_of ws) (state_of b)).state ≡ step_bytes ws b
  unfolding step_bytes
  moved_bytes h = rw (eq-eqb (step_number ws b) 0 h) refl

  -- a record that is not refused is whole, and stays so
  pub whole : step_number ws b ≡ 0 → length b ≡ 28
  unfolding step_number
  whole h = go (eqb (length b) 28) refl h
    where
      go : (t : Bool) → eqb (length b) 28 ≡ t → cond t (step (words_of ws) (state_of b)).number 27 ≡ 0 → length b ≡ 28
      go true e k = eqb-true (length b) 28 e
      go false e k = absurd (omega arith)

  pub moved_length : step_number ws b ≡ 0 → length (step_bytes ws b) ≡ 28
  moved_length h = sym (ap length (moved_bytes h)) ∙ state_length (step (words_of ws) (state_of b)).state

-- ---- the records of a row

-- the records, one after the other, are all bytes
records_join : (n : ℕ) (b : List ℕ) → flat_map (λ (r : List ℕ). r) (first_records n b) ≡ take (28 * n) b
unfolding first_records flat_map
records_join zero b = refl
records_join (suc n) b =
    let e : 28 + 28 * n ≡ 28 * suc n = omega arith in
    ap (λ (x : List ℕ). take 28 b ++ x) (records_join n (drop 28 b)) ∙ sym (take-add 28 (28 * n) b) ∙ ap (λ (k : ℕ). take k b) e

pub records_whole : (b : List ℕ) → flat_map (λ (r : List ℕ). r) (records_of b) ≡ b
unfolding records_of
records_whole b = records_join ((length b + 27) / 28) b ∙ take_all (28 * ((length b + 27) / 28)) b (omega arith)

-- ---- the number of a row of records

module _ (ws b : List ℕ) where
  next : 0 < length b → step_all_number ws b ≡ cond (eqb (step_number ws (take 28 b)) 0) (step_all_number ws (drop 28 b)) (step_number ws (take 28 b))
  unfolding step_all_number refused_number
  next l = ap (refused_number ws) (records_cons b l)

  none_left : length b ≤ 0 → step_all_number ws b ≡ 0
  unfolding step_all_number refused_number
  none_left l = let e : b ≡ [] = drop_of_length-le b {i = 0} l in rw (e, records_nil) refl

  -- where no record is refused, the first one is not, and none of the rest
  pub first_fits : 0 < length b → step_all_number ws b ≡ 0 → (step_number ws (take 28 b) ≡ 0) × (step_all_number ws (drop 28 b) ≡ 0)
  first_fits l h = go (eqb (step_number ws (take 28 b)) 0) refl (sym (next l) ∙ h)
    where
      go : (t : Bool) → eqb (step_number ws (take 28 b)) 0 ≡ t → cond t (step_all_number ws (drop 28 b)) (step_number ws (take 28 b)) ≡ 0
          → (step_number ws (take 28 b) ≡ 0) × (step_all_number ws (drop 28 b) ≡ 0)
      go true e k = (eqb-true (step_number ws (take 28 b)) 0 e, k)
      go false e k = absurd (let z = sym e ∙ eq-eqb (step_number ws (take 28 b)) 0 k in let y : ◌≡◌ {A = ℕ} 0 1 = cc in omega arith)

-- ---- the records before those of b are tried, and none is refused; b is the next one, x, and the rest

-- 28 bytes come off the front, or all that are left
module _ (x rest : List ℕ) (size : length x ≡ min 28 (length (x ++ rest))) where
  cut : take 28 (x ++ rest) ≡ x
  cut = go rest size
    where
      go : (r : List ℕ) → length x ≡ min 28 (length (x ++ r)) → take 28 (x ++ r) ≡ x
      go [] e = rw append-nil (take_all 28 x (omega (arith, e)))
      go (y ∷ r) e = take_at x (y ∷ r) 28 (omega (arith, e, length-append x (y ∷ r)))

  module _ (ws b : List ℕ) (split : b ≡ x ++ rest) (some : 0 < length b) where
    first : take 28 b ≡ x
    first = rw split cut

    pub refused_at : step_number ws x ≢ 0 → step_number ws x ≡ step_all_number ws b
    refused_at h = sym (next ws b some ∙ (rw (first, ne_eqb (step_number ws x) 0 h) refl))

    pub fits_at : step_number ws x ≡ 0 → step_all_number ws b ≡ step_all_number ws rest
    fits_at h =
        let d : drop 28 b ≡ rest = rw split (drop_at x rest 28 (whole ws x h)) in
        next ws b some ∙ (rw (first, eq-eqb (step_number ws x) 0 h, d) refl)

pub all_fit : (ws b : List ℕ) → length b ≡ 0 → 0 ≡ step_all_number ws b
all_fit ws b e = sym (none_left ws b (omega arith))

-- ---- the records before byte i are moved

abbrev pub moves : List ℕ → ℕ → List ℕ → List ℕ
moves ws at r = step_bytes ws r

abbrev pub same : ℕ → ℕ
same at = at

moves_all : (ws : List ℕ) (at : ℕ) (rs : List (List ℕ)) → writes (moves ws) same at rs ≡ flat_map (step_bytes ws) rs
unfolding writes flat_map
moves_all ws at [] = refl
moves_all ws at (r ∷ rs) = ap (λ (x : List ℕ). step_bytes ws r ++ x) (moves_all ws at rs)

pub record Moved (ws b : List ℕ) (i : ℕ) (now : List ℕ) : Type 0 where
  pub wrote : Wrote (moves ws) same b 0 i 0 now
  pub fit : step_all_number ws (drop i b) ≡ 0

module _ (ws b : List ℕ) where
  pub moved_none : step_all_number ws b ≡ 0 → Moved ws b 0 b
  moved_none h = record { wrote = wrote_none (moves ws) same b 0; fit = h }

  module _ (i : ℕ) (now : List ℕ) (m : Moved ws b i now) where
    -- the record at byte i is whole, and is not refused
    pub here_fits :
        i < length b → (i + 28 ≤ length b) × (length (take 28 (drop i now)) ≡ 28) × (step_number ws (take 28 (drop i now)) ≡ 0)
    here_fits l =
        let k : 0 < length (drop i b) = rw (length-drop i b) (omega arith) in
        let h : step_number ws (take 28 (drop i now)) ≡ 0 = rw m.wrote.rest (first_fits ws (drop i b) k m.fit).0 in
        let n = whole ws (take 28 (drop i now)) h in
        (omega (arith, length-take 28 (drop i now), length-drop i now, m.wrote.size), n, h)

    -- the part of k bytes from byte i on is lent, and comes back moved
    pub moved_part : (k : ℕ) (r : List ℕ) → k ≡ 28 → r ≡ step_bytes ws (take k (drop i now)) → i < length b → Moved ws b (i + 28) (put_mid i k now r)
    moved_part k r e q l =
        let h = here_fits l in
        let k' : 0 < length (drop i b) = rw (length-drop i b) (omega arith) in
        let q' : r ≡ step_bytes ws (take 28 (drop i now)) = q ∙ ap (λ (x : ℕ). step_bytes ws (take x (drop i now))) e in
        record {
          wrote = wrote_part (moves ws) same b 0 i 0 now m.wrote k r e h.0 (ap length q' ∙ moved_length ws (take 28 (drop i now)) h.2)
              (q' ∙ ap (λ (x : List ℕ). step_bytes ws (take 28 x)) m.wrote.rest);
          fit = ap (step_all_number ws) (sym (drop-drop 28 i b)) ∙ (first_fits ws (drop i b) k' m.fit).1;
        }

    pub moved_all : step_all_number ws b ≡ 0 → length b ≤ i → now ≡ step_all_bytes ws b
    unfolding step_all_bytes
    moved_all h l =
        wrote_all (moves ws) same b 0 i 0 now m.wrote l ∙ moves_all ws 0 (records_of b) ∙ (rw (eq-eqb (step_all_number ws b) 0 h) refl)

pub refused_all : (ws b : List ℕ) → step_all_number ws b ≢ 0 → b ≡ step_all_bytes ws b
unfolding step_all_bytes
refused_all ws b h = rw (ne_eqb (step_all_number ws b) 0 h) refl
