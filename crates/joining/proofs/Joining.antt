-- What a join gives, by where its questions stop.
use Rattle.std.proofs.Common.{Some, None, Err}
use Prim.Native.Nat.{ℕ, ◌-◌, ◌≤◌}
use mathlib.Core.Path.{◌≡◌, refl, sym, ap, ◌∙◌}
use mathlib.Core.Bool.{Bool, true, false}
use mathlib.Core.List.{List}
use native.Mathlib.Omega.{arith}
use lib.ListN.{length, take, drop, length-append}
use lib.Seq.{take_at}
use Rattle.plan.specs.declared.Answer.{Answer}
use Rattle.plan.specs.declared.Table.TheVariants.{Tasks}
use Rattle.plan.specs.Image.{rows}
use Rattle.plan.specs.Questions.{questions, answer_of, accepted}
use Rattle.asking.specs.Asking.{verdict}
use Rattle.questions.proofs.Verdict.{ask_refuses, ask_numbers}
use Rattle.joins.specs.declared.Joined.{Joined}
use Rattle.joins.specs.Joins.{plans_agree, tasks_shared, join_fits, joinable, join_answer, join_length, join_bytes, joined_image}
use Rattle.joins.proofs.Asked.{leading_says}
use Rattle.joins.proofs.Telling.{joins_tell}
use Rattle.pairs.specs.Pairs.{Ready}
use Rattle.composing.specs.Composing.{Written}
use Rattle.composing.proofs.Fitting.{written_yes, written_no}

-- an image that asking gives a no to is not accepted
refuses : (i : List ℕ) (x : Answer) → Err x ≡ verdict (questions i) → answer_of i ≡ accepted → ⊥
refuses i x e q = ask_numbers i x e (ap (λ (a : Answer). a.number) q)

pub shared_low : (a b : List ℕ) (s : ℕ) → tasks_shared a b s ≡ true → s ≤ rows b Tasks
shared_low a b s e = (leading_says a b s e).second

module _ (a b : List ℕ) (s : ℕ) (lent : List ℕ) where
  -- what the definitions give
  abbrev pub Gives : Joined → List ℕ → Type 0
  Gives r after = (r ≡ record { answer = join_answer a b s (length lent); length = join_length a b s (length lent) }) × (after ≡ join_bytes a b s lent)

  -- a refusal before anything is written
  refusal : (x : Answer) → (join_answer a b s (length lent) ≡ x) × (joinable a b s (length lent) ≡ false) → (r : Joined) → r ≡ record { answer = x; length = 0 } → Gives r lent
  refusal x h r e = let u = (joins_tell a b s lent).unchanged h.1 in (e ∙ sym (rw (h.0, u.0) refl), sym u.1)

  pub gives_first : (x : Answer) → Err x ≡ verdict (questions a) → (r : Joined) → r ≡ record { answer = x; length = 0 } → Gives r lent
  gives_first x e r q = let t = (joins_tell a b s lent).of_first (refuses a x e) in refusal x (t.0 ∙ ask_refuses a x e, t.1) r q

  pub gives_second : (x : Answer) → answer_of a ≡ accepted → Err x ≡ verdict (questions b) → (r : Joined) → r ≡ record { answer = x; length = 0 } → Gives r lent
  gives_second x ea e r q = let t = (joins_tell a b s lent).of_second ea (refuses b x e) in refusal x (t.0 ∙ ask_refuses b x e, t.1) r q

  module _ (ready : Ready a b) (r : Joined) where
    pub gives_35 : plans_agree a b ≡ false → r ≡ record { answer = record { number = 35; table = 0; row = 0 }; length = 0 } → Gives r lent
    gives_35 e q = refusal _ ((joins_tell a b s lent).by_35 ready.first ready.second e) r q

    module _ (agree : plans_agree a b ≡ true) where
      pub gives_36 : tasks_shared a b s ≡ false → r ≡ record { answer = record { number = 36; table = 0; row = 0 }; length = 0 } → Gives r lent
      gives_36 e q = refusal _ ((joins_tell a b s lent).by_36 ready.first ready.second agree e) r q

      module _ (share : tasks_shared a b s ≡ true) where
        pub gives_37 : (after : List ℕ) → Written a b s lent None after → r ≡ record { answer = record { number = 37; table = 0; row = 0 }; length = 0 } → Gives r after
        gives_37 after w q = go (join_fits a b s (length lent)) refl
          where
            go : (c : Bool) → join_fits a b s (length lent) ≡ c → Gives r after
            go true f = absurd (let z = (written_yes a b s lent None after w f).0 in cc)
            go false f =
                let g = refusal _ ((joins_tell a b s lent).by_37 ready.first ready.second agree share f) r q in
                (g.0, (written_no a b s lent None after w f).1 ∙ g.1)

        -- an image is written, and checked
        pub gives_image : (n : ℕ) (after : List ℕ) → Written a b s lent (Some n) after → (x : Answer) → x ≡ answer_of (take (n - 0) after) → r ≡ record { answer = x; length = n } → Gives r after
        gives_image n after w x e q = go (join_fits a b s (length lent)) refl
          where
            go : (c : Bool) → join_fits a b s (length lent) ≡ c → Gives r after
            go false f = absurd (let z = (written_no a b s lent (Some n) after w f).0 in cc)
            go true f =
                let yes = (joins_tell a b s lent).goes_on ready.first ready.second agree share f in
                let t = joins_tell a b s lent in
                let v = t.written yes in
                let z = written_yes a b s lent (Some n) after w f in
                let k : n ≡ length (joined_image a b s) = let y = z.0 in cc in
                let front : take (n - 0) after ≡ joined_image a b s =
                ap (take (n - 0)) z.1 ∙ take_at (joined_image a b s) (drop (length (joined_image a b s)) lent) (n - 0) (omega (arith, k)) in
                (q ∙ sym (rw (t.of_result yes, v.0) (rw (e, front, k) refl)), z.1 ∙ sym v.1)

  pub written_within : (n : ℕ) (after : List ℕ) → Written a b s lent (Some n) after → n ≤ length after
  written_within n after w = go (join_fits a b s (length lent)) refl
    where
      go : (c : Bool) → join_fits a b s (length lent) ≡ c → n ≤ length after
      go false f = absurd (let z = (written_no a b s lent (Some n) after w f).0 in cc)
      go true f =
          let z = written_yes a b s lent (Some n) after w f in
          let k : n ≡ length (joined_image a b s) = let y = z.0 in cc in
          omega (arith, k, ap length z.1 ∙ length-append (joined_image a b s) (drop (length (joined_image a b s)) lent))
