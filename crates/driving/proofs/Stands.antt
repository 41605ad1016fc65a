-- A plan that is loaded and stepped by the timer: `TimerDrives`, `RoundsDrive` (specs/Driven.antt).
use Prim.Native.Nat.{ℕ, zero, suc, ◌+◌, ◌-◌, ◌*◌, ◌/◌, ◌<◌, ◌^◌}
use mathlib.Core.Path.{◌≡◌, refl, ap, ◌∙◌}
use mathlib.Core.List.{List}
use native.Mathlib.Omega.{arith}
use lib.ListN.{take, drop, replicate}
use Rattle.plan.specs.Image.{cycle_ticks}
use Rattle.plan.specs.Boundary.{state_of}
use Rattle.plan.specs.Runs.{all_lanes}
use Rattle.loading.specs.Loaded.{Loaded, gives_bytes, after_bytes}
use Rattle.loading.proofs.Stepping.{tick_all, cycle_all, gives_all, shown_all}
use Rattle.timer.specs.Driving.{Loop, begin, after, rounds, total}
use Rattle.timer.proofs.Turning.{none_lost, keeps_up}
use Rattle.driving.specs.Driven.{Tool, begin_c, after_c, rounds_c, Stand, TimerDrives, RoundsDrive}
use Rattle.driving.proofs.Turns.{given, Is, is_loop, is_round}

module _ (s ws row : List ℕ) (c : ℕ) (first : ℕ → ℕ) (g : Loaded s ws row c first) where
  -- up to the calendar's end every call gives 0
  all_gave : (n : ℕ) → c * cycle_ticks s + n < 2 ^ 64 * cycle_ticks s → given ws n row ≡ replicate n 0
  unfolding given gives_bytes
  all_gave zero k = refl
  all_gave (suc n) k = rw (gives_all s ws row c first g n (omega arith), all_gave n (omega arith)) refl

  -- a tool that has made n calls
  stand : (n : ℕ) (d : Tool) → d.row ≡ after_bytes ws row (replicate n all_lanes) → d.numbers ≡ given ws n row → c * cycle_ticks s + n < 2 ^ 64 * cycle_ticks s → Stand s c n d
  stand n d e f k =
      record {
        gave = f ∙ all_gave n k;
        cycle = λ l h. ap (λ (r : List ℕ). (state_of (take 28 (drop (28 * l) r))).cycle) e ∙ cycle_all s ws row c first g n k l h;
        tick = λ l h. ap (λ (r : List ℕ). (state_of (take 28 (drop (28 * l) r))).tick) e ∙ tick_all s ws row c first g n k l h;
        shown = λ i l q h.
            ap (λ (r : List ℕ). take 8 (drop (28 * l + 20) r)) (e ∙ ap (λ (m : ℕ). after_bytes ws row (replicate m all_lanes)) q)
            ∙ shown_all s ws row c first g i (omega arith) l h;
      }

-- a tool that a loop has stepped n times
stand_loop : (s ws row : List ℕ) (c : ℕ) (first : ℕ → ℕ) → Loaded s ws row c first → (l : Loop) (d : Tool) → Is ws row l d → (n : ℕ) → l.steps ≡ n
    → c * cycle_ticks s + n < 2 ^ 64 * cycle_ticks s → Stand s c n d
stand_loop s ws row c first g l d i n e k =
    stand s ws row c first g n d (i.records ∙ ap (λ (x : ℕ). after_bytes ws row (replicate x all_lanes)) e) (i.numbers ∙ ap (λ (x : ℕ). given ws x row) e) k

pub timer_drives : TimerDrives
timer_drives s ws row c first g every b h m block z es t k =
    let l = after every (begin every b) es in
    stand_loop s ws row c first g l (after_c ws every (begin_c ws every b block row) es) (is_loop ws row every b h m block z es t) ((l.brought - b) / every)
    (none_lost every b h m es t).exact k

pub rounds_drive : RoundsDrive
rounds_drive s ws row c first g every b h m block z ns l k =
    stand_loop s ws row c first g (rounds every (begin every b) ns) (rounds_c ws every (begin_c ws every b block row) ns) (is_round ws row every b h m block z ns l) (total ns / every)
    (keeps_up every b h m ns l).0.steps k
