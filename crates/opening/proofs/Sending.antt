-- A frame of the link taken in: no gate up to its start, then its own up to its end; and a turn of the loop over all frames.
use Prim.Native.Nat.{ℕ, ◌+◌, ◌-◌, ◌*◌, ◌^◌, ◌≤◌, ◌<◌}
use mathlib.Core.Path.{◌≡◌, refl, sym, ap, ◌∙◌, subst}
use mathlib.Core.Logic.{◌≢◌}
use mathlib.Core.List.{List, ◌∷◌, ◌++◌, []}
use native.Mathlib.Omega.{arith}
use native.Mathlib.Decide.{dec_lt}
use lib.ListN.{length, set, length-append}
use lib.Seq.{sets}
use Rattle.plan.specs.declared.Table.TheVariants.{Frames}
use Rattle.plan.specs.Image.{rows, shape, frame, cycle_ticks, most_frames}
use Rattle.plan.specs.Questions.{answer_of, accepted, frame_end, queue_of}
use Rattle.plan.proofs.Sounds.{accepted_sound}
use Rattle.gates.specs.Gates.{Gate, gate, pairs, gates, gate_words}
use Rattle.gates.specs.Walks.{Stretch, Goes, Past}
use Rattle.gates.proofs.Matching.{pairs_length, pairs_append}
use Rattle.gates.proofs.Walking.{past_none, past_skip, past_send, waits, lasts, ends_in, idle_before, sends, idle_after, goes_end}
use Rattle.words.proofs.Bytes.{sets_append, sets_before}
use Rattle.opening.specs.declared.Listing.{Listing}
use Rattle.opening.specs.Listings.{list_words, Room, Holds, GoneOn, Sent, Walked}

-- there is room again after a stretch, where there was for two gates
pub room_after : (list : List ℕ) (at : Listing) (o u : ℕ) (after : List ℕ) (r : Listing) → Room list at → at.until ≤ u → at.count < 2 * most_frames
    → GoneOn list at o u after r → Room after r
room_after list at o u after r room up spare g =
    record {
      words = g.long ∙ room.words;
      more = omega (arith, g.few);
      begun = g.begun;
      none = λ z. g.first (omega (arith, g.reached));
    }

module _ (s : List ℕ) (e : answer_of s ≡ accepted) where
  pub frames_most : rows s Frames ≤ most_frames
  unfolding shape
  frames_most = (accepted_sound s e).inside.counts Frames

  module _ (f : ℕ) (row : f < rows s Frames) (list : List ℕ) (at : Listing) (past : Past s (frame s f).link f at.until) (room : Room list at) (spare : at.count < 2 * most_frames) where
    pub starts_later : at.until ≤ (frame s f).start
    starts_later = waits s e (frame s f).link past row refl

    pub ends_within : frame_end s f ≤ cycle_ticks s
    ends_within = ends_in s e (frame s f).link past row refl

    module _ (idled : List ℕ) (idle : Listing) (i : GoneOn list at 0 (frame s f).start idled idle) where
      pub room_idle : Room idled idle
      room_idle = room_after list at 0 (frame s f).start idled idle room starts_later spare i

      pub ends_later : idle.until < frame_end s f
      ends_later = omega (arith, i.reached, lasts s e (frame s f).link past row refl)

      pub sent : (after : List ℕ) (r : Listing) → GoneOn idled idle (2 ^ queue_of s f) (frame_end s f) after r → Sent s f list at after r
      sent after r g =
          let l = (frame s f).link in
          record {
            holds = λ lent h.
                g.holds s l lent ends_within
                (subst (λ (t : ℕ). Stretch s l t (frame_end s f) (2 ^ queue_of s f)) (sym i.reached) (sends s e l past row refl))
                (i.holds s l lent (omega (arith, ends_within, lasts s e l past row refl)) (idle_before s e l past row refl) h);
            reached = g.reached;
            few = omega (arith, i.few, g.few);
            first = λ z. omega (arith, i.first z, g.few);
            begun = g.begun;
            long = g.long ∙ i.long;
          }

  -- ---- the loop

  module _ (l : ℕ) (lent : List ℕ) where
    pub walked_none : Walked s l lent 0 lent (record { count = 0; octet = 0; since = 0; until = 0 })
    unfolding pairs
    walked_none =
        record {
          holds =
              record {
                found = [];
                many = refl;
                words = refl;
                goes = record { within = omega arith; begun = omega arith; none = λ _. refl; goes = λ z. absurd (omega arith) };
              };
          past = past_none s e l;
          few = λ z. absurd (omega arith);
          long = refl;
        }

    module _ (n : ℕ) (list : List ℕ) (at : Listing) (w : Walked s l lent n list at) where
      count_none : at.until ≡ 0 → at.count ≡ 0
      count_none z = sym w.holds.many ∙ ap length (w.holds.goes.none z)

      -- two gates more have room
      pub spare : n ≤ rows s Frames → at.count < 2 * most_frames
      spare m = go (dec_lt 0 at.until)
        where
          go : Dec (0 < at.until) → at.count < 2 * most_frames
          go (yes z) = omega (arith, w.few z, frames_most)
          go (no z) = omega (arith, count_none (omega arith))

      pub room : n ≤ rows s Frames → length lent ≡ list_words → Room list at
      room m words = record { words = w.long ∙ words; more = omega (arith, spare m); begun = w.holds.goes.begun; none = count_none }

      pub walked_skip : (frame s n).link ≢ l → Walked s l lent (n + 1) list at
      walked_skip d = record { holds = w.holds; past = past_skip s e l w.past d; few = λ z. omega (arith, w.few z); long = w.long }

      module _ (row : n < rows s Frames) (q : (frame s n).link ≡ l) where
        pub past_here : Past s (frame s n).link n at.until
        past_here = subst (λ (k : ℕ). Past s k n at.until) (sym q) w.past

        pub walked_send : (after : List ℕ) (r : Listing) → Sent s n list at after r → Walked s l lent (n + 1) after r
        walked_send after r g =
            record {
              holds = subst (λ (k : ℕ). Holds s k lent after r) q (g.holds lent (subst (λ (k : ℕ). Holds s k lent list at) (sym q) w.holds));
              past = subst (λ (t : ℕ). Past s l (n + 1) t) (sym g.reached) (past_send s e l w.past row q);
              few = λ _. go (dec_lt 0 at.until);
              long = g.long ∙ w.long;
            }
          where
            go : Dec (0 < at.until) → r.count + 1 ≤ 2 * (n + 1)
            go (yes z) = omega (arith, w.few z, g.few)
            go (no z) = omega (arith, g.first (omega arith))

    -- ---- the cycle's end, and the whole list

    module _ (words : length lent ≡ list_words) (list : List ℕ) (at : Listing) (w : Walked s l lent (rows s Frames) list at) (after : List ℕ) (last : Listing)
        (g : GoneOn list at 0 (cycle_ticks s) after last) where
      pub last_count : last.count ≤ 2 * most_frames
      last_count = omega (arith, g.few, spare (rows s Frames) list at w (omega arith))

      pub last_room : 1 + 2 * last.count + 2 ≤ length after
      last_room = omega (arith, last_count, g.long, w.long)

      held : Holds s l lent after last
      held = g.holds s l lent (omega arith) (idle_after s e l w.past) w.holds

      abbrev end_gate : Gate
      end_gate = gate last.octet (cycle_ticks s - last.since)

      all_found : gates s l ≡ held.found ++ end_gate ∷ []
      all_found = goes_end s l (subst (λ (t : ℕ). Goes s l held.found last.octet last.since t) g.reached held.goes) (accepted_sound s e).cycle

      pub count_all : last.count + 1 ≡ length (gates s l)
      count_all = rw (all_found, length-append) (omega (arith, held.many))

      pub list_all : set (sets after (1 + 2 * last.count) (last.octet ∷ (cycle_ticks s - last.since) ∷ [])) 0 (last.count + 1) ≡ sets lent 0 (gate_words s l)
      unfolding gate_words pairs gate
      list_all =
          let k : 1 + length (pairs held.found) ≡ 1 + 2 * last.count = omega (arith, pairs_length held.found, held.many) in
          ap (λ (ws : List ℕ). set ws 0 (last.count + 1))
          (ap (λ (ws : List ℕ). sets ws (1 + 2 * last.count) (pairs (end_gate ∷ []))) held.words
          ∙ ap (λ (i : ℕ). sets (sets lent 1 (pairs held.found)) i (pairs (end_gate ∷ []))) (sym k)
          ∙ sym (sets_append (pairs held.found) (pairs (end_gate ∷ [])) lent 1)
          ∙ ap (sets lent 1) (sym (pairs_append held.found (end_gate ∷ []))))
          ∙ sets_before ((last.count + 1) ∷ []) (pairs (held.found ++ end_gate ∷ [])) lent 0
          ∙ ap (sets lent 0) (ap (λ (m : ℕ). m ∷ pairs (held.found ++ end_gate ∷ [])) count_all ∙ ap (λ (gs : List Gate). length (gates s l) ∷ pairs gs) (sym all_found))
