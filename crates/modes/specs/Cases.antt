-- Cases of changing modes (paper 02, request 14): one table, proved by one computation.
use Rattle.std.specs.Prelude.{ℕ, zero, suc, ◌-◌, ◌^◌, ◌≡◌, refl, List, ◌∷◌, ◌++◌, map, [], set, replicate}
use Rattle.plan.specs.Cases.{bytes, case_a}
use Rattle.modes.specs.Modes.{Shift, Call, hold_plan, start_plan, request_plan, step_lanes, gives, leaves, fresh, changing}
use Rattle.modes.specs.Claim.{blank, seen, tick_shows, telling}

-- A with its piece at 3; with a job that there is not (10 5 0)
unfoldable pub later_a : List ℕ
later_a = set case_a 14 3

unfoldable wrong_a : List ℕ
wrong_a = set case_a 13 1

-- the numbers that calls give
numbers : Shift → List Call → List ℕ
numbers x [] = []
numbers x (call ∷ cs) = gives x call ∷ numbers (leaves x call) cs

-- calls, the numbers they give, the place of the plan in each tick since the last start, and the kinds shown
data Change : Type 0 where
  changes : List Call → List ℕ → List ℕ → List ℕ → Change

-- words for the tables of A, 14, of the other, 17, and of A again, and one word less than for a third of A
unfoldable pub before : Shift
before = fresh (replicate 58 0) []

again : ℕ → List Call
again zero = []
again (suc n) = step_lanes ∷ again n

zeros : ℕ → List ℕ
zeros n = replicate n 0

-- A at place 0, the other at place 3
unfoldable pub both : List Call
both = hold_plan (bytes case_a) 0 ∷ hold_plan (bytes later_a) 3 ∷ []

change_cases : List Change
change_cases =
    -- no plan runs: 43 before 44; no plan is held there; a row of two records; 27 before any start
    changes (both ++ request_plan 1 ∷ request_plan 0 ∷ start_plan 1 5 1 ∷ start_plan 8 5 1 ∷ start_plan 0 5 2 ∷ step_lanes ∷ [])
    (0 ∷ 0 ∷ 43 ∷ 44 ∷ 43 ∷ 43 ∷ 27 ∷ 27 ∷ []) [] []
    -- taken at the next tick 0; a refused request leaves it standing, a refused start too
    ∷ changes (both ++ start_plan 0 5 1 ∷ again 4 ++ request_plan 3 ∷ request_plan 1 ∷ start_plan 0 5 2 ∷ again 8)
    (zeros 8 ++ 43 ∷ 27 ∷ zeros 8)
    (0 ∷ 0 ∷ 0 ∷ 0 ∷ 0 ∷ 0 ∷ 0 ∷ 0 ∷ 0 ∷ 0 ∷ 3 ∷ 3 ∷ [])
    (1 ∷ 1 ∷ 3 ∷ 4 ∷ 4 ∷ 4 ∷ 2 ∷ 2 ∷ 2 ∷ 2 ∷ 1 ∷ 1 ∷ [])
    -- tick 0 is next: taken at once
    ∷ changes (both ++ start_plan 0 5 1 ∷ request_plan 3 ∷ again 4) (zeros 8) (3 ∷ 3 ∷ 3 ∷ 3 ∷ []) (1 ∷ 1 ∷ 2 ∷ 3 ∷ [])
    -- a later request replaces it, also one for the plan that runs
    ∷ changes (both ++ start_plan 0 5 1 ∷ step_lanes ∷ request_plan 3 ∷ request_plan 0 ∷ again 10) (zeros 16)
    (zeros 11) (1 ∷ 1 ∷ 3 ∷ 4 ∷ 4 ∷ 4 ∷ 2 ∷ 2 ∷ 2 ∷ 2 ∷ 1 ∷ [])
    -- a start drops it
    ∷ changes (both ++ start_plan 0 5 1 ∷ step_lanes ∷ request_plan 3 ∷ start_plan 0 7 1 ∷ step_lanes ∷ []) (zeros 7) (0 ∷ []) (1 ∷ [])
    -- made later in the calendar's last cycle it is never taken
    ∷ changes (both ++ start_plan 0 (2 ^ 64 - 1) 1 ∷ step_lanes ∷ request_plan 3 ∷ again 9) (zeros 13 ++ 28 ∷ [])
    (zeros 9) (1 ∷ 1 ∷ 3 ∷ 4 ∷ 4 ∷ 4 ∷ 2 ∷ 2 ∷ 2 ∷ [])
    -- the image's own number before 43, 43 before 26; a plan held anew, here at its own place, ends the run; the fourth has not words enough
    ∷ changes (both ++ start_plan 0 5 1 ∷ step_lanes ∷ hold_plan (bytes wrong_a) 8 ∷ hold_plan (bytes case_a) 8 ∷ step_lanes
    ∷ hold_plan (bytes case_a) 3 ∷ step_lanes ∷ request_plan 0 ∷ hold_plan (bytes case_a) 8 ∷ hold_plan (bytes case_a) 0 ∷ start_plan 3 5 1 ∷ again 3)
    (0 ∷ 0 ∷ 0 ∷ 0 ∷ 10 ∷ 43 ∷ 0 ∷ 0 ∷ 27 ∷ 44 ∷ 43 ∷ 26 ∷ 0 ∷ 0 ∷ 0 ∷ 0 ∷ []) (3 ∷ 3 ∷ 3 ∷ []) (1 ∷ 1 ∷ 3 ∷ [])
    ∷ []

happened : Change → Change
happened (changes cs ns ps ks) =
    let g = seen before blank cs in
    changes cs (numbers before cs) (map (λ t. t.place) g.ticks) (map (λ t. (tick_shows 0 t).kind) g.ticks)

all_changed : map happened change_cases ≡ change_cases
unfolding telling changing bytes case_a later_a wrong_a numbers before both again zeros change_cases happened
all_changed = refl
