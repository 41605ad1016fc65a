-- A load tool's calls are a run: loaded bytes meet the premises of demand 3, so what it says of runs holds of them.
use Prim.Native.Nat.{ℕ, zero, suc, ◌+◌, ◌-◌, ◌*◌, ◌^◌, ◌≤◌, ◌<◌, min}
use mathlib.Core.Path.{◌≡◌, refl, sym, ap, subst, ◌∙◌}
use mathlib.Core.List.{List, ◌∷◌, ◌++◌, [], flat_map, append-nil, append_assoc}
use native.Mathlib.Omega.{arith}
use lib.ListN.{length, get_or, take, drop, replicate, length-take, length-drop, take-append-drop}
use lib.Seq.{take_all, take-add, take-append_seam}
use Rattle.plan.specs.Questions.{answer_of, accepted}
use Rattle.plan.specs.Dispatch.{lanes, table_of, start_state, starts_at}
use Rattle.plan.specs.Boundary.{bytes_of, words_of, state_of, state_bytes, answer_number, check_number}
use Rattle.plan.specs.Runs.{Call, all_lanes, one_lane, gives, after, record_shows, Named, Ready}
use Rattle.plan.specs.declared.Answer.{Answer}
use Rattle.plan.specs.declared.LaneState.{LaneState}
use Rattle.plan.proofs.Demand.{demand_3}
use Rattle.plan.proofs.Starts.{starts_many, start_at}
use Rattle.words.proofs.Bytes.{row_length}
use Rattle.words.proofs.Words.{Fit, words_row, words_drop}
use Rattle.writing.proofs.Tables.{table_length}
use Rattle.writing.proofs.Fitting.{table_fits}
use Rattle.loading.specs.Loaded.{Loaded, shown_bytes, row_bytes, gives_bytes, after_bytes, Demand3ThroughC}
use Rattle.loading.proofs.States.{InWidth, AllInWidth, round_trip}
use Rattle.loading.proofs.Runs.{AllAmong, words_of_holds, width_at, append_row, record_at, shown_at_holds, calls_long, calls_of_bytes, calls_kept}

-- ---- words that bytes stand for

-- a table's bytes from byte 4 w on are the table from word w on
words_held : (ws t : List ℕ) (w : ℕ) → take (4 * length t) (drop (4 * w) ws) ≡ flat_map (bytes_of 4) t → 1 ≤ length t → Fit t → take (length t) (drop w (words_of ws)) ≡ t
words_held ws t w held l n =
    let room : min (4 * length t) (length ws - 4 * w) ≡ 4 * length t = rw (← length-drop (4 * w) ws, ← length-take) (ap length held ∙ row_length t) in
    let rest : List ℕ = drop (4 * length t) (drop (4 * w) ws) in
    let e : drop (4 * w) ws ≡ flat_map (bytes_of 4) t ++ rest = sym (take-append-drop (4 * length t) (drop (4 * w) ws)) ∙ ap (λ (b : List ℕ). b ++ rest) held in
    ap (take (length t)) (sym (words_drop w ws (omega (arith, room))) ∙ ap words_of e ∙ words_row t rest n)
    ∙ take-append_seam t (words_of rest)

-- ---- states that bytes stand for

abbrev none : LaneState
none = start_state 0 0

start_width : (c word : ℕ) → c < 2 ^ 64 → word < 2 ^ 32 → InWidth (start_state c word)
unfolding start_state
start_width c word hc hw = record { cycle = hc; tick = omega arith; entry = omega arith; first = hw; kind = omega arith; row = omega arith }

width_more : (sts : List LaneState) (st : LaneState) → AllInWidth sts → InWidth st → AllInWidth (sts ++ st ∷ [])
width_more [] st w k = (k, tt)
width_more (x ∷ sts) st w k = (w.0, width_more sts st w.1 k)

pub one_row : (sts : List LaneState) (st : LaneState) → row_bytes (sts ++ st ∷ []) ≡ row_bytes sts ++ state_bytes st
unfolding flat_map
one_row sts st = append_row sts (st ∷ []) ∙ ap (λ (b : List ℕ). row_bytes sts ++ b) (append-nil (state_bytes st))

module _ (first : ℕ → ℕ) (c : ℕ) where
  pub starts_width : c < 2 ^ 64 → (n : ℕ) → ((l : ℕ) → l < n → first l < 2 ^ 32) → AllInWidth (starts_at first c n)
  unfolding starts_at
  starts_width hc zero h = tt
  starts_width hc (suc n) h =
      width_more (starts_at first c n) (start_state c (first n)) (starts_width hc n (λ l k. h l (omega arith))) (start_width c (first n) hc (h n (omega arith)))

  -- the first n records
  starts_row : (row : List ℕ) (n : ℕ) → ((l : ℕ) → l < n → take 28 (drop (28 * l) row) ≡ state_bytes (start_state c (first l)))
      → take (28 * n) row ≡ row_bytes (starts_at first c n)
  unfolding starts_at flat_map
  starts_row row zero h = refl
  starts_row row (suc n) h =
      let e : 28 * suc n ≡ 28 * n + 28 = omega arith in
      ap (λ (k : ℕ). take k row) e ∙ take-add (28 * n) 28 row
      ∙ ap (λ (b : List ℕ). b ++ take 28 (drop (28 * n) row)) (starts_row row n (λ l k. h l (omega arith)))
      ∙ ap (λ (b : List ℕ). row_bytes (starts_at first c n) ++ b) (h n (omega arith))
      ∙ sym (one_row (starts_at first c n) (start_state c (first n)))

-- ---- calls

among_all : (s : List ℕ) (n : ℕ) → n ≡ lanes s → (calls : List Call) → Named s calls → AllAmong n calls
among_all s n e [] h = tt
among_all s n e (all_lanes ∷ cs) h = (tt, among_all s n e cs h)
among_all s n e (one_lane l ∷ cs) h = (omega (arith, h.0), among_all s n e cs h.1)

among_left : (n : ℕ) (a b : List Call) → AllAmong n (a ++ b) → AllAmong n a
among_left n [] b h = tt
among_left n (c ∷ a) b h = (h.0, among_left n a b h.1)

among_right : (n : ℕ) (a b : List Call) → AllAmong n (a ++ b) → AllAmong n b
among_right n [] b h = h
among_right n (c ∷ a) b h = among_right n a b h.1

pub zero_accepted : (a : Answer) → answer_number a ≡ 0 → a ≡ accepted
unfolding answer_number
zero_accepted a e =
    let n : a.number ≡ 0 = omega arith in
    let t : a.table ≡ 0 = omega arith in
    let r : a.row ≡ 0 = omega arith in
    λ i. record { number = n i; table = t i; row = r i }

module _ (s ws row : List ℕ) (c : ℕ) (first : ℕ → ℕ) (g : Loaded s ws row c first) where
  pub plan : answer_of s ≡ accepted
  unfolding check_number
  plan = zero_accepted (answer_of s) g.plan

  abbrev states : List LaneState
  states = starts_at first c (lanes s)

  pub ready : Ready s (words_of ws) states c
  ready =
      record {
        plan = plan;
        in_calendar = g.in_calendar;
        records = starts_many first c (lanes s);
        starts = λ l h. (
          first l,
          start_at first c (lanes s) l none h,
          words_held ws (table_of s l) (first l) (g.built l h) (omega (arith, table_length s l)) (table_fits s plan l),
        );
      }

  is_row : row ≡ row_bytes states
  is_row = sym (take_all (28 * lanes s) row (omega (arith, g.records))) ∙ starts_row first c row (lanes s) g.started

  module _ (calls : List Call) (h : Named s calls) where
    among : AllAmong (length states) calls
    among = among_all s (length states) (starts_many first c (lanes s)) calls h

    width : AllInWidth states
    width = starts_width first c g.in_calendar (lanes s) g.narrow

    pub rows_are : (earlier later : List Call) → calls ≡ earlier ++ later → after_bytes ws row earlier ≡ row_bytes (after (words_of ws) states earlier)
    rows_are earlier later q =
        let k = subst (λ (x : List Call). AllAmong (length states) x) q among in
        ap (λ (b : List ℕ). after_bytes ws b earlier) is_row ∙ (calls_of_bytes ws g.bytes earlier states all_lanes width (among_left _ earlier later k) tt).0

    -- a lane's record, read, is the lane's state
    pub record_is : (earlier later : List Call) → calls ≡ earlier ++ later → (l : ℕ) → l < lanes s
        → state_of (take 28 (drop (28 * l) (after_bytes ws row earlier))) ≡ get_or (after (words_of ws) states earlier) l none
    record_is earlier later q l k =
        let m = subst (λ (x : List Call). AllAmong (length states) x) q among in
        let n : l < length (after (words_of ws) states earlier) = omega (arith, calls_long ws earlier states, starts_many first c (lanes s)) in
        let w = calls_kept ws g.bytes earlier states width (among_left _ earlier later m) in
        ap (λ (b : List ℕ). state_of (take 28 (drop (28 * l) b))) (rows_are earlier later q)
        ∙ ap state_of (record_at (after (words_of ws) states earlier) l n)
        ∙ round_trip (get_or (after (words_of ws) states earlier) l none) (width_at (words_of ws) (words_of_holds ws g.bytes) (after (words_of ws) states earlier) l w n)

    pub numbers_are : (earlier : List Call) (call : Call) (later : List Call) → calls ≡ earlier ++ call ∷ later
        → gives_bytes ws (after_bytes ws row earlier) call ≡ gives (words_of ws) (after (words_of ws) states earlier) call
    numbers_are earlier call later q =
        let k = subst (λ (x : List Call). AllAmong (length states) x) q among in
        ap (λ (b : List ℕ). gives_bytes ws (after_bytes ws b earlier) call) is_row
        ∙ (calls_of_bytes ws g.bytes earlier states call width (among_left _ earlier (call ∷ later) k) (among_right _ earlier (call ∷ later) k).0).1

    pub shown_are : (earlier : List Call) (call : Call) (later : List Call) → calls ≡ earlier ++ call ∷ later → (l : ℕ) → l < lanes s
        → take 8 (drop (28 * l + 20) (after_bytes ws row (earlier ++ call ∷ []))) ≡ shown_bytes (record_shows (words_of ws) (after (words_of ws) states (earlier ++ call ∷ [])) l)
    unfolding record_shows
    shown_are earlier call later q l k =
        let to : List Call = earlier ++ call ∷ [] in
        let n = calls_long ws to states in
        ap (λ (b : List ℕ). take 8 (drop (28 * l + 20) b)) (rows_are to later (q ∙ sym (append_assoc earlier (call ∷ []) later)))
        ∙ shown_at_holds (after (words_of ws) states to) l (omega (arith, starts_many first c (lanes s)))

-- rd_build, rd_start, rd_step and rd_step_all, as the load tool calls them, are a run of which demand 3 holds
pub demand_3_through_c : Demand3ThroughC
demand_3_through_c s ws row c first g ahead near delay bounds calls h =
    let r = demand_3 s (words_of ws) (starts_at first c (lanes s)) c (ready s ws row c first g) ahead near delay bounds calls h in
    record {
      holds = r;
      rows = rows_are s ws row c first g calls h;
      number = λ earlier call later q. numbers_are s ws row c first g calls h earlier call later q ∙ r.number earlier call later q;
      number_all = λ i later q. numbers_are s ws row c first g calls h (replicate i all_lanes) all_lanes later q ∙ r.number_all i later q;
      shown = λ earlier call later q z l k p.
          shown_are s ws row c first g calls h earlier call later q l k
          ∙ ap shown_bytes (r.left earlier call later q (sym (numbers_are s ws row c first g calls h earlier call later q) ∙ z) l k p);
    }
