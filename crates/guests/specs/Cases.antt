-- A guest that is changed (paper 02, request 11): two plans, what each tick shows of their VCPUs, and plans that differ in more, by computation.
use Rattle.std.specs.Prelude.{ℕ, zero, suc, ◌+◌, ◌*◌, ◌/◌, ◌≡◌, refl, List, ◌∷◌, ◌++◌, [], map, length}
use Rattle.plan.specs.declared.Answer.{Answer}
use Rattle.plan.specs.Questions.{answer_of, accepted}
use Rattle.plan.specs.Dispatch.{dispatch}
use Rattle.plan.specs.Cases.{bytes, case_b}
use Rattle.guests.specs.Guests.{Sight, nothing, in_window, in_job, taken, sight, of_guest, hides, by_kind, seeing}

-- 24 ticks, P = 1, without messages: cores, VCPUs, tasks, windows and pieces
unfoldable guests : List ℕ → List ℕ → List ℕ → List ℕ → List ℕ → List ℕ
guests cores vcpus tasks windows pieces =
    let v = 4 * length cores in let t = v + 4 * length vcpus in let w = t + 4 * length tasks in let p = w + 4 * length windows in let e = p + 4 * length pieces in
    cores ++ vcpus ++ tasks ++ windows ++ pieces
    ++ 24 ∷ 1 ∷ 0 ∷ length cores / 3 ∷ v ∷ length vcpus ∷ t ∷ length tasks / 5 ∷ w ∷ length windows / 3 ∷ p ∷ length pieces / 4
    ∷ e ∷ 0 ∷ e ∷ 0 ∷ e ∷ 0 ∷ e ∷ 0 ∷ e ∷ 0 ∷ e ∷ []

-- two cores; both VCPUs are on the first
unfoldable cores : List ℕ
cores = 0 ∷ 1 ∷ 2 ∷ 0 ∷ 1 ∷ 2 ∷ []

unfoldable vcpus : List ℕ
vcpus = 0 ∷ 0 ∷ []

-- VCPU 0's task has two jobs, VCPU 1's one
unfoldable tasks : List ℕ
tasks = 0 ∷ 3 ∷ 12 ∷ 2 ∷ 12 ∷ 1 ∷ 3 ∷ 24 ∷ 3 ∷ 24 ∷ []

-- the last two are VCPU 0's, and adjoin
unfoldable windows : List ℕ
windows = 0 ∷ 0 ∷ 6 ∷ 1 ∷ 6 ∷ 8 ∷ 0 ∷ 14 ∷ 5 ∷ 0 ∷ 19 ∷ 2 ∷ []

unfoldable pieces : List ℕ
pieces = 0 ∷ 0 ∷ 2 ∷ 3 ∷ 1 ∷ 0 ∷ 8 ∷ 4 ∷ 0 ∷ 1 ∷ 16 ∷ 3 ∷ []

unfoldable pub before : List ℕ
unfolding guests cores vcpus tasks windows pieces
before = guests cores vcpus tasks windows pieces

-- VCPU 1's task has another budget, and VCPU 1 a second task, which works first; there are a buffer between the two, a chain over it, and a link. VCPU 0's last piece
-- stands in row 3, not 2.
unfoldable pub changed : List ℕ
changed =
    0 ∷ 1 ∷ 2 ∷ 0 ∷ 1 ∷ 2  -- cores
    ∷ 0 ∷ 0  -- VCPUs
    ∷ 0 ∷ 3 ∷ 12 ∷ 2 ∷ 12 ∷ 1 ∷ 3 ∷ 24 ∷ 1 ∷ 24 ∷ 1 ∷ 3 ∷ 24 ∷ 3 ∷ 24  -- tasks
    ∷ 0 ∷ 0 ∷ 6 ∷ 1 ∷ 6 ∷ 8 ∷ 0 ∷ 14 ∷ 5 ∷ 0 ∷ 19 ∷ 2  -- windows
    ∷ 0 ∷ 0 ∷ 2 ∷ 3 ∷ 2 ∷ 0 ∷ 8 ∷ 4 ∷ 1 ∷ 0 ∷ 12 ∷ 2 ∷ 0 ∷ 1 ∷ 16 ∷ 3  -- pieces
    ∷ 0 ∷ 1 ∷ 1 ∷ 352 ∷ 0  -- link
    ∷ 0 ∷ 2 ∷ 1  -- buffer
    ∷ 2 ∷ 1 ∷ 0  -- chain
    ∷ 24 ∷ 1  -- H, P
    ∷ 0 ∷ 2 ∷ 24 ∷ 2 ∷ 32 ∷ 3 ∷ 92 ∷ 4 ∷ 140 ∷ 4  -- offsets and counts
    ∷ 204 ∷ 1 ∷ 224 ∷ 0 ∷ 224 ∷ 0 ∷ 224 ∷ 1 ∷ 236 ∷ 1
    ∷ 248 ∷ []  -- the last word

-- All of the above, for a proof by computation: `unfolding cases` opens it.
unfoldable pub cases : Unit {0}
unfolding dispatch bytes guests cores vcpus tasks windows pieces before changed
cases = tt

both_accepted : (answer_of (bytes before) ≡ accepted) × (answer_of (bytes changed) ≡ accepted)
unfolding cases
both_accepted = (refl, refl)

-- ---- tick by tick

unfoldable ticks : ℕ → List ℕ
ticks zero = []
ticks (suc n) = ticks n ++ n ∷ []

unfoldable twice : Sight → List Sight
twice g = g ∷ g ∷ []

unfoldable thrice : Sight → List Sight
thrice g = g ∷ g ∷ g ∷ []

-- ticks 0 to 5 are VCPU 0's, 6 and 7 VCPU 1's switch; 14 to 20 are VCPU 0's, 21 to 23 nobody's
unfoldable early : List Sight
early = twice (in_window 1 0 0) ++ in_job 3 0 0 0 ∷ in_job 4 0 0 0 ∷ in_job 4 0 0 0 ∷ in_window 2 0 0 ∷ []

unfoldable switch : List Sight
switch = twice (in_window 1 1 1)

unfoldable late : List Sight
late = twice (in_window 1 0 2) ++ in_job 3 0 0 1 ∷ in_job 4 0 0 1 ∷ in_job 4 0 0 1 ∷ twice (in_window 2 0 3) ++ thrice nothing

before_seen : map (sight (bytes before) 0) (ticks 24) ≡ early ++ switch ++ in_job 3 1 1 0 ∷ thrice (in_job 4 1 1 0) ++ twice (in_window 2 1 1) ++ late
unfolding cases seeing ticks twice thrice early switch late
before_seen = refl

changed_seen : map (sight (bytes changed) 0) (ticks 24) ≡ early ++ switch ++ in_job 3 1 2 0 ∷ thrice (in_job 4 1 2 0) ++ in_job 3 1 1 0 ∷ in_job 4 1 1 0 ∷ late
unfolding cases seeing ticks twice thrice early switch late
changed_seen = refl

-- what VCPU 0 shows, and what VCPU 1 does
of_vcpu_0 : map (λ x. of_guest 0 (sight (bytes changed) 0 x)) (ticks 24) ≡ early ++ twice nothing ++ thrice nothing ++ thrice nothing ++ late
unfolding cases seeing ticks twice thrice early late
of_vcpu_0 = refl

of_vcpu_1 : map (λ x. of_guest 1 (sight (bytes before) 0 x)) (ticks 15) ≡ thrice nothing ++ thrice nothing ++ switch ++ in_job 3 1 1 0 ∷ thrice (in_job 4 1 1 0) ++ twice (in_window 2 1 1) ++ nothing ∷ []
unfolding cases seeing ticks twice thrice switch
of_vcpu_1 = refl

-- what is seen by those who do not look into VCPU 1, in either plan
vcpu_1_hidden : (map (λ x. hides 1 (sight (bytes before) 0 x)) (ticks 24) ≡ early ++ switch ++ thrice (taken 1) ++ thrice (taken 1) ++ late)
    × (map (λ x. hides 1 (sight (bytes changed) 0 x)) (ticks 24) ≡ early ++ switch ++ thrice (taken 1) ++ thrice (taken 1) ++ late)
unfolding cases seeing ticks twice thrice early switch late
vcpu_1_hidden = (refl, refl)

-- windows without their rows
by_kind_holds : map (λ x. by_kind (sight (bytes before) 0 x)) (7 ∷ 9 ∷ 15 ∷ 17 ∷ 20 ∷ 21 ∷ []) ≡ in_window 1 1 0 ∷ in_job 4 1 1 0 ∷ in_window 1 0 0 ∷ in_job 4 0 0 1 ∷ in_window 2 0 0 ∷ nothing ∷ []
unfolding cases seeing
by_kind_holds = refl

-- case B's frame, on the lane of its link, is no VCPU's
frame_seen : map (sight (bytes case_b) 2) (5 ∷ 6 ∷ 8 ∷ []) ≡ thrice nothing
unfolding dispatch bytes case_b seeing thrice
frame_seen = refl

-- ---- what the premises are for

-- An accepted plan that is not alike the first, and a tick at which those who do not look into VCPU 1 see something else: `was` in the first, `is` in this one.
pub record Break : Type 0 where
  pub plan : List ℕ
  pub tick : ℕ
  pub was : Sight
  pub is : Sight

unfoldable broken : Break → Answer × Break
broken b =
    let x = b.tick in
    (answer_of (bytes b.plan), record { plan = b.plan; tick = x; was = hides 1 (sight (bytes before) 0 x); is = hides 1 (sight (bytes b.plan) 0 x) })

-- d cannot be seen to differ alone: by 13 tasks or pieces of that core differ with it, if it has any. A node does not show in a tick (`moment`).
unfoldable breaks : List Break
breaks =
    -- a core: the VCPU switch takes one tick
    record { plan = guests (0 ∷ 1 ∷ 1 ∷ 0 ∷ 1 ∷ 2 ∷ []) vcpus tasks windows pieces; tick = 1; was = in_window 1 0 0; is = in_window 2 0 0 }
    -- a VCPU: VCPU 0 is on core 1
    ∷ record { plan = guests cores (1 ∷ 0 ∷ []) tasks windows pieces; tick = 3; was = in_job 4 0 0 0; is = nothing }
    -- windows: VCPU 1's ends a tick sooner; it is two, and VCPU 0's stand in other rows
    ∷ record { plan = guests cores vcpus tasks (0 ∷ 0 ∷ 6 ∷ 1 ∷ 6 ∷ 7 ∷ 0 ∷ 14 ∷ 5 ∷ 0 ∷ 19 ∷ 2 ∷ []) pieces; tick = 13; was = taken 1; is = nothing }
    ∷ record {
      plan = guests cores vcpus tasks (0 ∷ 0 ∷ 6 ∷ 1 ∷ 6 ∷ 7 ∷ 1 ∷ 13 ∷ 1 ∷ 0 ∷ 14 ∷ 5 ∷ 0 ∷ 19 ∷ 2 ∷ []) pieces;
      tick = 14;
      was = in_window 1 0 2;
      is = in_window 1 0 3;
    }
    -- tasks: VCPU 0's is number 1, and its pieces name it so
    ∷ record {
      plan = guests cores vcpus (1 ∷ 3 ∷ 24 ∷ 3 ∷ 24 ∷ 0 ∷ 3 ∷ 12 ∷ 2 ∷ 12 ∷ []) windows (1 ∷ 0 ∷ 2 ∷ 3 ∷ 0 ∷ 0 ∷ 8 ∷ 4 ∷ 1 ∷ 1 ∷ 16 ∷ 3 ∷ []);
      tick = 3;
      was = in_job 4 0 0 0;
      is = in_job 4 0 1 0;
    }
    -- pieces: VCPU 0's first is a tick later; it is two
    ∷ record { plan = guests cores vcpus tasks windows (0 ∷ 0 ∷ 3 ∷ 3 ∷ 1 ∷ 0 ∷ 8 ∷ 4 ∷ 0 ∷ 1 ∷ 16 ∷ 3 ∷ []); tick = 2; was = in_job 3 0 0 0; is = in_window 2 0 0 }
    ∷ record {
      plan = guests cores vcpus tasks windows (0 ∷ 0 ∷ 2 ∷ 2 ∷ 0 ∷ 0 ∷ 4 ∷ 2 ∷ 1 ∷ 0 ∷ 8 ∷ 4 ∷ 0 ∷ 1 ∷ 16 ∷ 3 ∷ []);
      tick = 4;
      was = in_job 4 0 0 0;
      is = in_job 3 0 0 0;
    }
    ∷ []

all_broken : map broken breaks ≡ map (λ b. (accepted, b)) breaks
unfolding cases seeing broken breaks
all_broken = refl
