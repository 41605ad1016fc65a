-- A stretch more in the list: where it is the first, where the octet stays, and where a gate is written.
use Prim.Native.Nat.{ℕ, ◌+◌, ◌-◌, ◌*◌, ◌<◌}
use mathlib.Core.Path.{◌≡◌, refl, sym, ap, ◌∙◌}
use mathlib.Core.Logic.{◌≢◌}
use mathlib.Core.List.{List, ◌∷◌, ◌++◌, []}
use native.Mathlib.Omega.{arith}
use lib.ListN.{length, length-append}
use lib.Seq.{sets, length-sets}
use Rattle.gates.specs.Gates.{Gate, gate, pairs}
use Rattle.gates.proofs.Matching.{pairs_length, pairs_append}
use Rattle.gates.proofs.Walking.{goes_first, goes_on, goes_off}
use Rattle.words.proofs.Bytes.{sets_append}
use Rattle.opening.specs.declared.Listing.{Listing}
use Rattle.opening.specs.Listings.{Room, GoneOn}

module _ (list : List ℕ) (at : Listing) (octet until : ℕ) (room : Room list at) (more : at.until < until) where
  -- before tick 0 there is nothing to keep
  pub gone_first : at.until ≡ 0 → GoneOn list at octet until list (record { count = 0; octet = octet; since = 0; until = until })
  unfolding pairs
  gone_first z =
      record {
        holds = λ s l lent w st h.
            record {
              found = [];
              many = refl;
              words = h.words ∙ ap (λ (gs : List Gate). sets lent 1 (pairs gs)) (h.goes.none z);
              goes = goes_first s l until octet (omega arith) w (λ x a b. st x (omega arith) b);
            };
        reached = refl;
        few = omega arith;
        first = λ _. refl;
        begun = omega arith;
        long = refl;
      }

  module _ (some : at.until ≢ 0) where
    pub gone_same : at.octet ≡ octet → GoneOn list at octet until list (record { count = at.count; octet = octet; since = at.since; until = until })
    gone_same e =
        let b = room.begun in
        record {
          holds = λ s l lent w st h.
              record { found = h.found; many = h.many; words = h.words; goes = goes_on s l h.goes until octet (omega (arith, some)) more w st (sym e) };
          reached = refl;
          few = omega arith;
          first = λ z. absurd (some z);
          begun = omega arith;
          long = refl;
        }

    -- the gate so far is written after those before it
    pub gone_other : at.octet ≢ octet
        → GoneOn list at octet until (sets list (1 + 2 * at.count) (at.octet ∷ (at.until - at.since) ∷ []))
        (record { count = at.count + 1; octet = octet; since = at.until; until = until })
    unfolding pairs gate
    gone_other d =
        record {
          holds = λ s l lent w st h.
              let k : 1 + length (pairs h.found) ≡ 1 + 2 * at.count = omega (arith, pairs_length h.found, h.many) in
              record {
                found = h.found ++ gate at.octet (at.until - at.since) ∷ [];
                many = rw length-append (omega (arith, h.many));
                words =
                    ap (λ (ws : List ℕ). sets ws (1 + 2 * at.count) (at.octet ∷ (at.until - at.since) ∷ [])) h.words
                    ∙ ap (λ (i : ℕ). sets (sets lent 1 (pairs h.found)) i (at.octet ∷ (at.until - at.since) ∷ [])) (sym k)
                    ∙ sym (sets_append (pairs h.found) (at.octet ∷ (at.until - at.since) ∷ []) lent 1)
                    ∙ ap (sets lent 1) (sym (pairs_append h.found (gate at.octet (at.until - at.since) ∷ [])));
                goes = goes_off s l h.goes until octet (omega (arith, some)) more w st (λ e. d (sym e));
              };
          reached = refl;
          few = omega arith;
          first = λ z. absurd (some z);
          begun = omega arith;
          long = length-sets list (1 + 2 * at.count) (at.octet ∷ (at.until - at.since) ∷ []);
        }
