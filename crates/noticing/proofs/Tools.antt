-- Two load tools: the bytes of a lane's record hold what the plan has at the tick that they held before, so what is said of plans is said of them.
use Prim.Native.Nat.{ℕ, ◌*◌, ◌%◌, ◌≤◌, ◌<◌}
use mathlib.Core.Path.{◌≡◌, refl, sym, ap, ◌∙◌, subst}
use mathlib.Core.Bool.{false}
use mathlib.Core.List.{List, ◌∷◌, ◌++◌, [], append-nil}
use native.Mathlib.Omega.{arith}
use lib.ListN.{take, drop}
use Rattle.plan.specs.declared.LaneState.{LaneState}
use Rattle.plan.specs.declared.Table.TheVariants.{Cores}
use Rattle.plan.specs.Image.{rows, cycle_ticks}
use Rattle.plan.specs.Dispatch.{show, lanes, shown_at, starts_at}
use Rattle.plan.specs.Boundary.{words_of, bytes_of, state_of}
use Rattle.plan.specs.Runs.{Call, gives, after, record_shows, Ready, moved_by}
use Rattle.plan.proofs.Showing.{core_lane}
use Rattle.plan.proofs.RunLists.{named_split, run_left, run_tick}
use Rattle.loading.specs.Loaded.{shown_bytes}
use Rattle.loading.proofs.Loads.{ready, record_is, numbers_are, shown_are}
use Rattle.loading.proofs.Stepping.{pos_of}
use Rattle.guests.specs.Guests.{Sight, nothing, in_window, in_job, sight_of, sight, hides}
use Rattle.guests.specs.Claim.{Alike, SameBut}
use Rattle.guests.proofs.Unnoticed.{guests_unnoticed}
use Rattle.noticing.specs.Noticing.{Tool, left, tick, sees, shown, UnnoticedThroughC}
use Rattle.noticing.proofs.Seen.{shows_window, shows_job, shows_idle, is_taken, through}

-- ---- one load tool

module _ (s : List ℕ) (l : ℕ) (h : l < lanes s) (a : Tool s l) where
  abbrev calls : List Call
  calls = a.earlier ++ a.last ∷ []

  abbrev states : List LaneState
  states = starts_at a.first a.cycle (lanes s)

  pos : 1 ≤ cycle_ticks s
  pos = pos_of s a.words a.row a.cycle a.first a.loaded

  begun : Ready s (words_of a.words) states a.cycle
  begun = ready s a.words a.row a.cycle a.first a.loaded

  abbrev moves : ℕ
  moves = moved_by s (words_of a.words) states a.cycle a.earlier l

  -- the record's tick is that of the lane's next move
  pub tool_tick : tick a ≡ moves % cycle_ticks s
  tool_tick =
      ap (λ (st : LaneState). st.tick) (record_is s a.words a.row a.cycle a.first a.loaded calls a.named a.earlier (a.last ∷ []) refl l h)
      ∙ run_tick s (words_of a.words) a.cycle pos states begun a.earlier (named_split s a.earlier a.last [] a.named).0 l h

  call_gave : gives (words_of a.words) (after (words_of a.words) states a.earlier) a.last ≡ 0
  call_gave = sym (numbers_are s a.words a.row a.cycle a.first a.loaded calls a.named a.earlier a.last [] refl) ∙ a.gave

  -- what is left of the lane is what the plan has at the tick that it held before
  left_shows : record_shows (words_of a.words) (after (words_of a.words) states calls) l ≡ shown_at s l (tick a)
  left_shows =
      run_left s (words_of a.words) a.cycle pos states begun calls a.named a.earlier a.last [] refl call_gave l h a.stepped
      ∙ ap (shown_at s l) (sym tool_tick)

  -- so its record shows, and bytes 20 to 27 of it are
  pub tool_shows : let st = state_of (take 28 (drop (28 * l) (left a))) in show st.kind st.row ≡ shown_at s l (tick a)
  unfolding record_shows
  tool_shows =
      ap (λ (st : LaneState). show st.kind st.row) (record_is s a.words a.row a.cycle a.first a.loaded calls a.named calls [] (sym (append-nil calls)) l h)
      ∙ left_shows

  pub tool_bytes : shown a ≡ shown_bytes (shown_at s l (tick a))
  tool_bytes =
      shown_are s a.words a.row a.cycle a.first a.loaded calls a.named a.earlier a.last [] refl l h
      ∙ ap shown_bytes left_shows

-- ---- two

as_seen : {v : ℕ} {g g' h h' : Sight} → SameBut v g h → g ≡ g' → h ≡ h' → SameBut v g' h'
as_seen {v} {g} {g'} {h} {h'} a p q = subst (λ (x : Sight). SameBut v g' x) q (subst (λ (x : Sight). SameBut v x h) p a)

module _ (s t : List ℕ) (v : ℕ) (h : Alike s t v) (l : ℕ) (k : l < rows s Cores) (a : Tool s l) (b : Tool t l) (e : tick a ≡ tick b) where
  lane : l < lanes s
  unfolding lanes
  lane = omega arith

  lane' : l < lanes t
  unfolding lanes
  lane' = omega (arith, (h.there.cores l k).0)

  seen_a : sight s l (tick a) ≡ sees a
  unfolding sight
  seen_a = ap (sight_of s) (sym (tool_shows s l lane a))

  seen_b : sight t l (tick b) ≡ sees b
  unfolding sight
  seen_b = ap (sight_of t) (sym (tool_shows t l lane' b))

  same : SameBut v (sees a) (sees b)
  same = as_seen ((guests_unnoticed s t v h).at_ticks l (tick a)) seen_a (ap (sight t l) e ∙ seen_b)

  -- what is seen of the one beside VCPU v, and does not only say that this has the core, both show
  both : (x : Sight) → hides v (sees a) ≡ x → is_taken x ≡ false → (sight s l (tick a) ≡ x) × (sight t l (tick b) ≡ x)
  both x d n = (seen_a ∙ through v (sees a) x d n, seen_b ∙ through v (sees b) x (sym same.beside ∙ d) n)

  same_bytes : shown_at s l (tick a) ≡ shown_at t l (tick b) → shown a ≡ shown b
  same_bytes d = tool_bytes s l lane a ∙ ap shown_bytes d ∙ sym (tool_bytes t l lane' b)

  idle_bytes : sees a ≡ nothing → shown a ≡ shown b
  unfolding sight is_taken hides
  idle_bytes d =
      let w = both nothing (ap (hides v) d) refl in
      let p = core_lane s {l = l} (tick a) k in
      let q = core_lane t {l = l} (tick b) (h.there.cores l k).0 in
      same_bytes (p ∙ shows_idle s l (tick a) (ap (sight_of s) (sym p) ∙ w.0) ∙ sym (q ∙ shows_idle t l (tick b) (ap (sight_of t) (sym q) ∙ w.1)))

  window_bytes : (n u w : ℕ) → hides v (sees a) ≡ in_window n u w → shown a ≡ shown b
  unfolding sight is_taken
  window_bytes n u w d = let z = both (in_window n u w) d refl in same_bytes (shows_window s _ z.0 ∙ sym (shows_window t _ z.1))

  kind_bytes : (n u m j : ℕ) → hides v (sees a) ≡ in_job n u m j → take 4 (shown a) ≡ take 4 (shown b)
  unfolding sight is_taken bytes_of
  kind_bytes n u m j d =
      let z = both (in_job n u m j) d refl in
      ap (take 4) (tool_bytes s l lane a) ∙ ap (bytes_of 4) (shows_job s _ z.0 ∙ sym (shows_job t _ z.1)) ∙ sym (ap (take 4) (tool_bytes t l lane' b))

pub unnoticed_through_c : UnnoticedThroughC
unnoticed_through_c s t v h l k a b e =
    record { same = same s t v h l k a b e; idle = idle_bytes s t v h l k a b e; windows = window_bytes s t v h l k a b e; jobs = kind_bytes s t v h l k a b e }
