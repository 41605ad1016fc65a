-- What a caller can rely on: when the library gives a frame's arrivals and what else it gives, what every run of the plan shows of them, and what a C
-- caller has. Proved in proofs/Claims.antt; the last, which needs laws of words in bytes, in crates/arriving/proofs/Lending.antt.
use Rattle.std.specs.Prelude.{ℕ, ◌+◌, ◌*◌, ◌≤◌, ◌<◌, ◌≡◌, ◌↔◌, ◌≢◌, List, ◌∷◌, length, get_or, drop}
use Rattle.plan.specs.declared.Table.TheVariants.{Frames}
use Rattle.plan.specs.Image.{rows, cycle_ticks, precision, link, frame}
use Rattle.plan.specs.Questions.{answer_of, accepted, frame_end}
use Rattle.plan.specs.Dispatch.{Shown}
use Rattle.plan.specs.Runs as Run
use Rattle.plan.specs.Runs.{InBounds, Kept}
use Rattle.plan.specs.Boundary.{answer_number, words_of}
use Rattle.arrivals.specs.Arrivals.{arrival_answer, arrivals_of, arrival_number, arrival_bytes}

-- An image that is not accepted gives its own answer, a row that does not exist 5, table 8 and that row, both with 0 and 0. A frame of an accepted plan
-- gives its end plus its link's lowest delay, and its end plus its link's delay; both lie in the cycle, and with P added too: the frame is
-- across before the cycle ends, by any node's clock.
pub record Answered (s : List ℕ) (f : ℕ) : Type 0 where
  pub not_accepted : answer_of s ≢ accepted → arrivals_of s f ≡ record { answer = answer_of s; earliest = 0; latest = 0 }
  pub no_frame : answer_of s ≡ accepted → rows s Frames ≤ f → arrivals_of s f ≡ record { answer = record { number = 5; table = 8; row = f }; earliest = 0; latest = 0 }
  pub given : answer_of s ≡ accepted → f < rows s Frames
      → let l = link s (frame s f).link in arrivals_of s f ≡ record { answer = accepted; earliest = frame_end s f + l.lowest; latest = frame_end s f + l.delay }
  pub in_order_holds : (arrivals_of s f).earliest ≤ (arrivals_of s f).latest
  pub in_cycle_holds : answer_of s ≡ accepted → f < rows s Frames → (arrivals_of s f).latest + precision s < cycle_ticks s

abbrev pub AllAnswered : Type 0
AllAnswered = (s : List ℕ) (f : ℕ) → Answered s f

-- frame f, sent in cycle y of a run and crossing in so many ticks, arrives at this tick by its sending node's clock: no sooner than the earliest and
-- no later than the latest, counted from the cycle's start; with the lowest delay at the one, with the highest at the other
pub record Arrives (s : List ℕ) (y f delay tick : ℕ) : Type 0 where
  pub no_sooner : y * cycle_ticks s + (arrivals_of s f).earliest ≤ tick
  pub no_later : tick ≤ y * cycle_ticks s + (arrivals_of s f).latest
  pub at_lowest : delay ≡ (link s (frame s f).link).lowest → tick ≡ y * cycle_ticks s + (arrivals_of s f).earliest
  pub at_highest : delay ≡ (link s (frame s f).link).delay → tick ≡ y * cycle_ticks s + (arrivals_of s f).latest

-- In every run of an accepted plan, as demand 3 has it (Runs.antt; in the bytes of a C caller too, by crates/loading): each frame of a completed cycle has
-- been sent, and each that has been sent arrives so.
pub record RunArrives (s : List ℕ) (c : ℕ) (ahead : ℕ → ℕ) (shows : ℕ → List Shown) (delay : ℕ → ℕ → ℕ) (n : ℕ) : Type 0 where
  pub sent : (y f : ℕ) → (y + 1) * cycle_ticks s ≤ n → f < rows s Frames → (e : ℕ) × Run.Sent s c ahead shows y f e
  pub arrives : (y f e : ℕ) → f < rows s Frames → Run.Sent s c ahead shows y f e
      → Arrives s y f (delay f y) (Run.arrival s c ahead shows delay y f e).tick

abbrev pub RunsArrive : Type 0
RunsArrive =
    (s : List ℕ) (c : ℕ) (ahead : ℕ → ℕ) (shows : ℕ → List Shown) (delay : ℕ → ℕ → ℕ) (n : ℕ)
    → answer_of s ≡ accepted → InBounds s delay → Kept s c ahead shows delay n → RunArrives s c ahead shows delay n

-- In lent bytes, of which `arrival_number` is the number that a C caller gets: 0 exactly where the ticks are given and two words are lent; else the answer of
-- before, or 26. After 0 the bytes, read as words, hold the ticks and then what they held, and no byte past the eighth has changed, not even in a part
-- of a word; after any other number no byte has.
pub record Lends (s : List ℕ) (f : ℕ) (b : List ℕ) : Type 0 where
  pub given : arrival_number s f b ≡ 0 ↔ ((arrival_answer s f ≡ accepted) × (2 ≤ length (words_of b)))
  pub as_by_value : arrival_answer s f ≢ accepted → arrival_number s f b ≡ answer_number (arrival_answer s f)
  pub too_few : arrival_answer s f ≡ accepted → length (words_of b) < 2 → arrival_number s f b ≡ 26
  pub words : arrival_number s f b ≡ 0 → words_of (arrival_bytes s f b) ≡ (arrivals_of s f).earliest ∷ (arrivals_of s f).latest ∷ drop 2 (words_of b)
  pub many : length (arrival_bytes s f b) ≡ length b
  pub later : (i : ℕ) → 8 ≤ i → get_or (arrival_bytes s f b) i 0 ≡ get_or b i 0
  pub refused : arrival_number s f b ≢ 0 → arrival_bytes s f b ≡ b

abbrev pub AllLent : Type 0
AllLent = (s : List ℕ) (f : ℕ) (b : List ℕ) → Lends s f b
