-- When a frame arrives, by its sending node's clock (paper 02, request 7): what the library gives for a frame row of an image.
use Rattle.std.specs.Prelude.{ℕ, ◌+◌, Bool, cond, length, drop, leb, ltb, eqb}
use mathlib.Core.List.{List, ◌∷◌, ◌++◌, [], flat_map}
use Rattle.plan.specs.declared.Answer.{Answer}
use Rattle.plan.specs.declared.Table.TheVariants.{Frames}
use Rattle.plan.specs.Image.{rows, shape, link, frame}
use Rattle.plan.specs.Questions.{answer_of, accepted, frame_end}
use Rattle.plan.specs.Boundary.{answer_number, words_of, bytes_of}
use Rattle.arrivals.specs.declared.Arrival.{Arrival}

-- an answer, or, where it is an acceptance, a refusal if a test says no
unfoldable pub then_ask : Answer → Bool → Answer → Answer
then_ask a ok refused = cond (eqb a.number 0) (cond ok accepted refused) a

-- a refusal comes with 0 and 0
abbrev pub refusal : Answer → Arrival
refusal a = record { answer = a; earliest = 0; latest = 0 }

module _ (s : List ℕ) (f : ℕ) where
  -- the earliest tick, by the link's lowest delay, and the latest, by its delay
  unfoldable pub earliest : ℕ
  earliest = frame_end s f + (link s (frame s f).link).lowest

  unfoldable pub latest : ℕ
  latest = frame_end s f + (link s (frame s f).link).delay

  -- the image's own answer if it is not accepted; then 5, of the row asked for
  unfoldable pub arrival_answer : Answer
  arrival_answer = then_ask (answer_of s) (ltb f (rows s Frames)) (record { number = 5; table = (shape Frames).number; row = f })

  unfoldable pub arrivals_of : Arrival
  arrivals_of = cond (eqb arrival_answer.number 0) (record { answer = arrival_answer; earliest = earliest; latest = latest }) (refusal arrival_answer)

  -- into lent bytes, as two words, the earliest tick and the latest: the same questions, then 26, are there two words? Later bytes stay as they
  -- were, and all of them after a refusal.
  unfoldable pub lent_answer : List ℕ → Answer
  lent_answer b = then_ask arrival_answer (leb 2 (length (words_of b))) (record { number = 26; table = 0; row = 0 })

  unfoldable pub arrival_number : List ℕ → ℕ
  arrival_number b = answer_number (lent_answer b)

  unfoldable pub arrival_bytes : List ℕ → List ℕ
  arrival_bytes b = cond (eqb (lent_answer b).number 0) (flat_map (bytes_of 4) (earliest ∷ latest ∷ []) ++ drop 8 b) b

-- All of the above, for a proof by computation: `unfolding arriving` opens it.
unfoldable pub arriving : Unit {0}
unfolding then_ask earliest latest arrival_answer arrivals_of lent_answer arrival_number arrival_bytes
arriving = tt
