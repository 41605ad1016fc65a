-- Cases of arrivals, by computation: of cases B and D by delays, frame and lent bytes.
use Rattle.std.specs.Prelude.{ℕ, ◌≡◌, refl, replicate}
use mathlib.Core.List.{List, ◌∷◌, map, [], flat_map}
use Rattle.plan.specs.Questions.{asking}
use Rattle.plan.specs.Boundary.{answer_number, words_of, first_words, bytes_of}
use Rattle.plan.specs.Cases.{bytes, case_b, case_d, cable}
use Rattle.arrivals.specs.declared.Arrival.{Arrival}
use Rattle.arrivals.specs.Arrivals.{arrivals_of, arrival_number, arrival_bytes, arriving}

-- number, table and row, then the earliest and the latest tick
given : ℕ → ℕ → ℕ → ℕ → ℕ → Arrival
given n t r x y = record { answer = record { number = n; table = t; row = r }; earliest = x; latest = y }

-- an image, a frame row and its arrivals
data Case : Type 0 where
  arrive : List ℕ → ℕ → Arrival → Case

cases : List Case
cases =
    arrive case_b 0 (given 0 0 0 8 9)
    ∷ arrive (cable 1 1) 0 (given 0 0 0 9 9)  -- the lowest is the highest
    ∷ arrive case_d 0 (given 0 0 0 8 9)
    ∷ arrive case_d 1 (given 0 0 0 13 14)  -- by its own link
    ∷ arrive case_b 1 (given 5 8 1 0 0)  -- no such frame
    ∷ arrive case_b 4294967295 (given 5 8 4294967295 0 0)
    ∷ arrive (cable 1 2) 7 (given 6 6 0 0 0)  -- the image's own answer first
    ∷ []

arrived : Case → Case
arrived (arrive s f a) = arrive s f (arrivals_of (bytes s) f)

all_arrived : map arrived cases ≡ cases
unfolding asking arriving bytes case_b case_d cable given cases arrived
all_arrived = refl

-- an image, a frame row and so many lent bytes, each 7; the number, and the bytes afterwards
data Lent : Type 0 where
  lend : List ℕ → ℕ → ℕ → ℕ → List ℕ → Lent

lendings : List Lent
lendings =
    lend case_b 0 8 0 (8 ∷ 0 ∷ 0 ∷ 0 ∷ 9 ∷ 0 ∷ 0 ∷ 0 ∷ [])
    ∷ lend case_d 1 9 0 (13 ∷ 0 ∷ 0 ∷ 0 ∷ 14 ∷ 0 ∷ 0 ∷ 0 ∷ 7 ∷ [])  -- later bytes stay
    ∷ lend case_d 1 7 26 (replicate 7 7)  -- a part of a word does not count
    ∷ lend case_b 1 0 4295491589 []  -- 5 8 1: 26 is asked last
    ∷ lend case_b 1 8 4295491589 (replicate 8 7)
    ∷ lend (cable 1 2) 0 8 393222 (replicate 8 7)  -- 6 6 0
    ∷ []

lent : Lent → Lent
lent (lend s f n x b) = lend s f n (arrival_number (bytes s) f (replicate n 7)) (arrival_bytes (bytes s) f (replicate n 7))

all_lendings : map lent lendings ≡ lendings
unfolding asking arriving answer_number words_of first_words bytes_of flat_map bytes case_b case_d cable lendings lent
all_lendings = refl
