-- The claims of specs/Claim.antt.
use Prim.Native.Nat.{ℕ, zero, suc, ◌+◌, ◌*◌, ◌≤◌, ◌<◌}
use mathlib.Core.Path.{◌≡◌, refl}
use mathlib.Core.List.{List}
use native.Mathlib.Omega.{arith}
use Rattle.plan.specs.declared.Table.TheVariants.{Frames}
use Rattle.plan.specs.Image.{rows, cycle_ticks}
use Rattle.plan.specs.Questions.{frame_end}
use Rattle.plan.proofs.Numbers.{accepted_of}
use Rattle.plan.proofs.Facts.{facts}
use Rattle.plan.proofs.Messages.{frame_end_le}
use Rattle.arrivals.specs.Arrivals.{earliest, latest, arrival_answer, arrivals_of}
use Rattle.arrivals.specs.Claim.{AllAnswered, RunsArrive}
use Rattle.arrivals.proofs.Answers as Answer

-- ---- when they are given

in_order_holds : (s : List ℕ) (f : ℕ) → (arrivals_of s f).earliest ≤ (arrivals_of s f).latest
in_order_holds s f = go (arrival_answer s f).number refl
  where
    go : (n : ℕ) → (arrival_answer s f).number ≡ n → (arrivals_of s f).earliest ≤ (arrivals_of s f).latest
    go zero z = let p = Answer.zero_frame s f z in rw (Answer.given s f p.0 p.1) (Answer.in_cycle_holds s f p.0 p.1).0
    go (suc n) z = rw (Answer.refused s f (arrival_answer s f) refl (λ q. absurd (omega arith))) (omega arith)

pub all_answered : AllAnswered
unfolding earliest latest
all_answered s f =
    record {
      not_accepted = λ h. Answer.by_check s f (λ z. h (accepted_of s z));
      no_frame = Answer.no_frame s f;
      given = Answer.given s f;
      in_order_holds = in_order_holds s f;
      in_cycle_holds = λ e h. rw (Answer.given s f e h) (Answer.in_cycle_holds s f e h).1;
    }

-- ---- what runs show

pub runs_arrive : RunsArrive
unfolding earliest latest
runs_arrive s c ahead shows delay n plan bounds kept =
    record {
      sent = λ y f l h. let p = in_time_holds y f l h in (y * cycle_ticks s + frame_end s f, (kept.sent y f (y * cycle_ticks s + frame_end s f) h).1 (refl, p));
      arrives = λ y f e h r.
          let q = ((kept.sent y f e h).0 r).0 in
          let b = bounds f y h in
          let g = Answer.given s f plan h in
          record {
            no_sooner = rw g (omega (arith, q, b.0));
            no_later = rw g (omega (arith, q, b.1));
            at_lowest = λ z. rw g (omega (arith, q, z));
            at_highest = λ z. rw g (omega (arith, q, z));
          };
    }
  where
    in_time_holds : (y f : ℕ) → (y + 1) * cycle_ticks s ≤ n → f < rows s Frames → y * cycle_ticks s + frame_end s f ≤ n
    in_time_holds y f l h = omega (arith, frame_end_le s (facts s plan) f h)
