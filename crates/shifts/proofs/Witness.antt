-- That the claims are not empty: a list with every kind of call, refused ones and the largest numbers among them, and what the claims say there.
use Prim.Native.Nat.{ℕ, zero, suc, ◌-◌, ◌<◌, ◌^◌}
use mathlib.Core.Path.{◌≡◌, refl}
use mathlib.Core.List.{List, ◌∷◌, ◌++◌, [], flat_map}
use native.Mathlib.Omega.{arith}
use lib.ListN.{get_or, take, drop, replicate}
use Rattle.plan.specs.Boundary.{first_words, words_of, bytes_of, state_of, state_bytes, first_records, records_of}
use Rattle.plan.specs.Cases.{bytes, case_a, case_b}
use Rattle.plan.specs.Dispatch.{shown_at}
use Rattle.loading.specs.Loaded.{shown_bytes}
use Rattle.writing.specs.Stored.{stored}
use Rattle.modes.specs.Cases.{later_a}
use Rattle.modes.specs.Claim.{telling}
use Rattle.turns.specs.Turns.{states_of}
use Rattle.modeblock.specs.Blocks.{blocks}
use Rattle.shifts.specs.Through.{Lent, Lending, hold, start, request, step, AllInC, gives_lent, leaves_lent, StandsFor, begun, lent, now, lending}
use Rattle.shifts.proofs.Through.{modes_through_c, shown_through_c}

-- any bytes
abbrev filled : ℕ → List ℕ
filled n = replicate n 255

filled_bytes : (n i : ℕ) → get_or (filled n) i 0 < 256
filled_bytes zero i = omega arith
filled_bytes (suc n) zero = omega arith
filled_bytes (suc n) (suc i) = filled_bytes n i

-- A at place 0, the other at place 3, in 32 words, of which their tables take 31. A is started in cycle 5, the other requested after a tick; 12 ticks are shown.
calls : List Lending
calls =
    hold (bytes case_a) 0 ∷ hold (bytes later_a) 3 ∷ hold (bytes case_a) (2 ^ 32 - 1) ∷ start 0 (2 ^ 64 - 1) (filled 28) ∷ start 0 5 (filled 28) ∷ step
    ∷ start 0 5 (filled 29) ∷ start (2 ^ 32 - 1) 5 [] ∷ request (2 ^ 32 - 1) ∷ request 3 ∷ replicate 11 step

abbrev y : Lent
y = lent (filled 172) (filled 128) calls

steps_in_c : (n : ℕ) → AllInC (replicate n step)
steps_in_c zero = tt
steps_in_c (suc n) = (tt, steps_in_c n)

in_c : AllInC calls
unfolding calls
in_c = (omega arith, (omega arith, (omega arith, ((omega arith, omega arith), ((omega arith, omega arith), (tt, later))))))
  where
    later : AllInC (start 0 5 (filled 29) ∷ start (2 ^ 32 - 1) 5 [] ∷ request (2 ^ 32 - 1) ∷ request 3 ∷ replicate 11 step)
    later = ((omega arith, omega arith), ((omega arith, omega arith), (omega arith, (omega arith, steps_in_c 11))))

stands : StandsFor y (now (filled 172) (filled 128) calls)
stands = (modes_through_c (filled 172) (filled 128) calls refl (filled_bytes 128) in_c).0

-- all that is computed with
unfoldable opened : Unit {0}
unfolding lending blocks telling stored flat_map first_words words_of bytes_of state_of state_bytes first_records records_of states_of bytes case_a case_b later_a calls
opened = tt

-- the numbers that they give, and the next step's
numbers : Lent → List Lending → List ℕ
numbers y [] = []
numbers y (call ∷ cs) = gives_lent y call ∷ numbers (leaves_lent y call) cs

gave : numbers (begun (filled 172) (filled 128)) (calls ++ step ∷ []) ≡ 0 ∷ 0 ∷ 43 ∷ 0 ∷ 0 ∷ 0 ∷ 27 ∷ 43 ∷ 43 ∷ replicate 13 0
unfolding opened numbers
gave = refl

next_gives : gives_lent y step ≡ 0
unfolding opened
next_gives = refl

-- it shows tick 2 of the second cycle: what the other plan has there, by the claim; kind 2, where A has kind 3
shows : take 8 (drop 20 (leaves_lent y step).states) ≡ shown_bytes (shown_at (bytes later_a) 0 2)
unfolding opened
shows = shown_through_c (filled 172) (filled 128) calls refl (filled_bytes 128) in_c next_gives 0 (omega arith)

its_bytes : take 8 (drop 20 (leaves_lent y step).states) ≡ 2 ∷ 0 ∷ 0 ∷ 0 ∷ 0 ∷ 0 ∷ 0 ∷ 0 ∷ []
unfolding opened
its_bytes = refl

-- ---- three lanes

-- B, and 6 ticks of it
lanes_b : List Lending
lanes_b = hold (bytes case_b) 7 ∷ start 7 5 (filled 84) ∷ replicate 6 step

abbrev z : Lent
z = lent (filled 172) (filled 200) lanes_b

lanes_b_in_c : AllInC lanes_b
unfolding lanes_b
lanes_b_in_c = (omega arith, ((omega arith, omega arith), steps_in_c 6))

lanes_b_gives : gives_lent z step ≡ 0
unfolding opened lanes_b
lanes_b_gives = refl

-- at tick 6 the link's frame
link_shows : take 8 (drop 76 (leaves_lent z step).states) ≡ 5 ∷ 0 ∷ 0 ∷ 0 ∷ 0 ∷ 0 ∷ 0 ∷ 0 ∷ []
unfolding opened lanes_b
link_shows = shown_through_c (filled 172) (filled 200) lanes_b refl (filled_bytes 200) lanes_b_in_c lanes_b_gives 2 (omega arith)
