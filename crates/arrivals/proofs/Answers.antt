-- What each question leaves to be given: refused by the check, by 5, or given.
use Prim.Native.Nat.{ℕ, ◌+◌, ◌≤◌, ◌<◌}
use mathlib.Core.Path.{◌≡◌, refl, sym, ◌∙◌}
use mathlib.Core.Logic.{◌≢◌}
use mathlib.Core.Bool.{Bool, true, false, cond, true≢false}
use mathlib.Core.List.{List}
use native.Mathlib.Omega.{arith}
use lib.Dec.{eqb}
use borrow.Author.Tests.{eqb-true, eq-eqb, ne_eqb, ltb-true, lt-ltb, le-ltb}
use Rattle.plan.specs.declared.Answer.{Answer}
use Rattle.plan.specs.declared.Table.TheVariants.{Links, Frames}
use Rattle.plan.specs.Image.{rows, shape, cycle_ticks, precision}
use Rattle.plan.specs.Questions.{answer_of, accepted, frame_end, across}
use Rattle.plan.proofs.Numbers.{accepted_of}
use Rattle.plan.proofs.Facts.{facts}
use Rattle.plan.proofs.Sounds.{accepted_sound}
use Rattle.plan.proofs.Messages.{across_lt}
use Rattle.arrivals.specs.Arrivals.{then_ask, refusal, earliest, latest, arrival_answer, arrivals_of}

-- a refusal stands, whatever is asked next
pub then_refused : (a refused : Answer) (ok : Bool) → a.number ≢ 0 → then_ask a ok refused ≡ a
unfolding then_ask
then_refused a refused ok h = rw (ne_eqb a.number 0 h) refl

-- 0 comes of an acceptance and a yes
pub then_zero : (a refused : Answer) (ok : Bool) → refused.number ≢ 0 → (then_ask a ok refused).number ≡ 0 → (a.number ≡ 0) × (ok ≡ true)
unfolding then_ask
then_zero a refused ok h z = go (eqb a.number 0) ok refl z
  where
    go : (b c : Bool) → eqb a.number 0 ≡ b → (cond b (cond c accepted refused) a).number ≡ 0 → (a.number ≡ 0) × (c ≡ true)
    go true true p q = (eqb-true _ _ p, refl)
    go true false p q = absurd (h q)
    go false c p q = absurd (true≢false (sym (eq-eqb a.number 0 q) ∙ p))

module _ (s : List ℕ) (f : ℕ) where
  pub refused : (a : Answer) → arrival_answer s f ≡ a → a.number ≢ 0 → arrivals_of s f ≡ refusal a
  unfolding arrivals_of
  refused a e h = rw (e, ne_eqb a.number 0 h) refl

  pub by_check : (answer_of s).number ≢ 0 → arrivals_of s f ≡ refusal (answer_of s)
  unfolding arrival_answer
  by_check h = refused (answer_of s) (then_refused (answer_of s) _ _ h) h

  module _ (e : answer_of s ≡ accepted) where
    -- 5: there is no such frame
    pub no_frame : rows s Frames ≤ f → arrivals_of s f ≡ refusal (record { number = 5; table = 8; row = f })
    unfolding arrival_answer then_ask shape
    no_frame h = refused (record { number = 5; table = 8; row = f }) (rw (e, le-ltb f (rows s Frames) h) refl) (λ z. absurd (omega arith))

    module _ (h : f < rows s Frames) where
      pub found : arrival_answer s f ≡ accepted
      unfolding arrival_answer then_ask
      found = rw (e, lt-ltb f (rows s Frames) h) refl

      pub given : arrivals_of s f ≡ record { answer = accepted; earliest = earliest s f; latest = latest s f }
      unfolding arrivals_of
      given = rw found refl

      -- both ticks lie in the cycle, so they fit a word, and the frame's end does
      pub in_cycle_holds : (earliest s f ≤ latest s f) × (latest s f + precision s < cycle_ticks s)
      unfolding earliest latest across
      in_cycle_holds = let g = facts s e in let l = g.ranges Links _ (g.names Frames f h).1 in (omega (arith, l.6), across_lt s g f h)

      pub ticks_fit : (frame_end s f < 1000000) × (earliest s f < 1000000) × (latest s f < 1000000)
      unfolding latest
      ticks_fit = let a = in_cycle_holds in let b = (accepted_sound s e).cycle_most in (omega (arith, a.1), omega (arith, a), omega (arith, a.1))

  -- the answer that comes with the ticks
  pub answer_is : (arrivals_of s f).answer ≡ arrival_answer s f
  unfolding arrivals_of
  answer_is = go (eqb (arrival_answer s f).number 0)
    where
      go : (b : Bool) → (cond b (record { answer = arrival_answer s f; earliest = earliest s f; latest = latest s f }) (refusal (arrival_answer s f))).answer ≡ arrival_answer s f
      go true = refl
      go false = refl

  -- 0 is an acceptance, of a frame of an accepted plan
  pub zero_frame : (arrival_answer s f).number ≡ 0 → (answer_of s ≡ accepted) × (f < rows s Frames)
  unfolding arrival_answer
  zero_frame z = let p = then_zero (answer_of s) _ _ (λ q. absurd (omega arith)) z in (accepted_of s p.0, ltb-true f (rows s Frames) p.1)

  pub zero_accepts : (arrival_answer s f).number ≡ 0 → arrival_answer s f ≡ accepted
  zero_accepts z = let p = zero_frame z in found p.0 p.1

  pub both : (arrival_answer s f).number ≡ 0 → ((arrivals_of s f).earliest ≡ earliest s f) × ((arrivals_of s f).latest ≡ latest s f)
  unfolding arrivals_of
  both z = rw z (refl, refl)
