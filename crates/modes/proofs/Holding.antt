-- Places and their plans: an image held lies in the words with its tables, behind those held before, and these stay.
use Prim.Native.Nat.{ℕ, zero, suc, ◌+◌, ◌^◌, ◌≤◌, ◌<◌}
use mathlib.Core.Path.{◌≡◌, refl, sym, ap, ◌∙◌, subst}
use mathlib.Core.Logic.{◌≢◌}
use mathlib.Core.Bool.{Bool, true, false, ◌&&◌, true≢false}
use mathlib.Core.List.{List, ◌∷◌, ◌++◌, [], append_assoc}
use native.Mathlib.Omega.{arith}
use native.Mathlib.Decide.{ℕ_discrete}
use lib.ListN.{length, get_or, take, drop, set, replicate, length-append, take-append-drop, length-drop, length-set, length-replicate}
use lib.Seq.{length-take-le, take-append_seam, take-append-le, drop-append-le, drop_at, get_or-set_same, get_or-set_other}
use lib.Dec.{ltb}
use borrow.Author.Tests.{eq-eqb, ne_eqb, ltb-true, leb-true, lt-ltb, le-leb}
use Rattle.plan.specs.declared.Answer.{Answer}
use Rattle.plan.specs.Search.{first_no}
use Rattle.plan.specs.Questions.{answer_to, answer_of, accepted, whole, questions, question_at}
use Rattle.plan.specs.Dispatch.{lanes}
use Rattle.plan.proofs.Searching.{and_true}
use Rattle.plan.proofs.Asking.{passed_of, passed_row, then_asked, stopped_first}
use Rattle.plan.proofs.Numbers.{real, accepted_of}
use Rattle.plan.proofs.Facts.{facts}
use Rattle.writing.specs.AllTables.{all_tables}
use Rattle.modes.specs.declared.HeldPlan.{HeldPlan}
use Rattle.modes.specs.Modes.{places, held_of, no_plan, is_plan, plan, held, table_at, Shift, hold_plan, fresh, suffice, words_end, hold_answer, gives}
use Rattle.modes.specs.Claim.{Images, images_by, NoneHeld, AllHeld}
use Rattle.modes.proofs.Tabled.{table_there}

-- ---- at first

pub same_everywhere : (n p : ℕ) (h : HeldPlan) → get_or (replicate n h) p h ≡ h
same_everywhere zero p h = refl
same_everywhere (suc n) zero h = refl
same_everywhere (suc n) (suc p) h = same_everywhere n p h

no_cores : (b : Bool) (h : HeldPlan) → h ≡ no_plan → b && is_plan h ≡ false
unfolding no_plan is_plan
no_cores true h e = rw e refl
no_cores false h e = refl

pub none_held : NoneHeld
unfolding held plan fresh
none_held words row p = no_cores (ltb p places) (get_or (replicate places no_plan) p no_plan) (same_everywhere places p no_plan)

-- ---- what a hold that gives 0 has asked

two_yes : (i j : ℕ) (a b : Bool) → 1 ≤ i → 1 ≤ j → (answer_to (whole i a ∷ whole j b ∷ [])).number ≡ 0 → (a ≡ true) × (b ≡ true)
unfolding whole question_at
two_yes i j a b p q e =
    let qs = whole i a ∷ whole j b ∷ [] in
    let w = passed_of qs (p, (q, tt)) e in
    (passed_row qs 2 w 0 (omega arith) 0 (omega arith), passed_row qs 2 w 1 (omega arith) 0 (omega arith))

pub record HoldAsks (x : Shift) (image : List ℕ) (p : ℕ) : Type 0 where
  pub accepts : answer_of image ≡ accepted
  pub place : p < places
  pub fits : words_end x image p ≤ length x.words
  pub low : words_end x image p < 2 ^ 32

pub hold_asks : (x : Shift) (image : List ℕ) (p : ℕ) → gives x (hold_plan image p) ≡ 0 → HoldAsks x image p
unfolding gives hold_answer answer_of suffice
hold_asks x image p e = go (ℕ_discrete (answer_to (questions image)).number 0)
  where
    go : Dec ((answer_to (questions image)).number ≡ 0) → HoldAsks x image p
    go (yes z) =
        let a = two_yes 43 26 _ _ (omega arith) (omega arith) (sym (ap (λ (r : Answer). r.number) (then_asked (questions image) _ (real image) z)) ∙ e) in
        let b = and_true _ _ a.1 in
        record { accepts = unfold answer_of in (accepted_of image z); place = ltb-true _ _ a.0; fits = leb-true _ _ b.0; low = ltb-true _ _ b.1 }
    go (no z) = absurd (z (sym (ap (λ (r : Answer). r.number) (stopped_first (questions image) _ z)) ∙ e))

-- and an image of which all this holds is held
pub hold_gives : (x : Shift) (image : List ℕ) (p : ℕ) → HoldAsks x image p → gives x (hold_plan image p) ≡ 0
unfolding gives hold_answer answer_of suffice
hold_gives x image p a =
    ap (λ (r : Answer). r.number) (then_asked (questions image) _ (real image) (ap (λ (r : Answer). r.number) a.accepts))
    ∙ both_yes _ _ (lt-ltb p places a.place) (rw (le-leb _ _ a.fits, lt-ltb _ _ a.low) refl)
  where
    both_yes : (b c : Bool) → b ≡ true → c ≡ true → (answer_to (whole 43 b ∷ whole 26 c ∷ [])).number ≡ 0
    both_yes b c e f = unfold answer_to whole first_no in (rw (e, f) refl)

-- ---- where the tables lie

-- what lies in the front of a list
in_front : (a b : List ℕ) (f k : ℕ) → f + k ≤ length a → take k (drop f (a ++ b)) ≡ take k (drop f a)
in_front a b f k h =
    ap (take k) (drop-append-le f a b (omega arith)) ∙ take-append-le k (drop f a) b (rw (length-drop f a) (omega arith))

-- a new list with the same front
front_stays : (ws b : List ℕ) (u f k : ℕ) → u ≤ length ws → f + k ≤ u → take k (drop f (take u ws ++ b)) ≡ take k (drop f ws)
front_stays ws b u f k h l =
    let e : f + k ≤ length (take u ws) = rw (length-take-le u ws h) l in
    in_front (take u ws) b f k e ∙ sym (in_front (take u ws) (drop u ws) f k e) ∙ ap (λ (t : List ℕ). take k (drop f t)) (take-append-drop u ws)

-- place p's image is accepted and what is kept is the image's; its tables lie in the words that are used
pub record Laid (images : Images) (plans : List HeldPlan) (used : ℕ) (words : List ℕ) (p : ℕ) : Type 0 where
  pub accepts : answer_of (images p) ≡ accepted
  pub kept : plan plans p ≡ held_of (images p) (plan plans p).first
  pub tables : take (length (all_tables (images p))) (drop (plan plans p).first words) ≡ all_tables (images p)
  pub below : (plan plans p).first + length (all_tables (images p)) ≤ used

pub record Sound (images : Images) (plans : List HeldPlan) (used : ℕ) (words : List ℕ) : Type 0 where
  pub eight : length plans ≡ places
  pub fits : used ≤ length words
  pub low : used < 2 ^ 32
  pub laid : (p : ℕ) → held plans p ≡ true → Laid images plans used words p

-- so each table is found
pub sound_holds : {images : Images} {plans : List HeldPlan} {used : ℕ} {words : List ℕ} → Sound images plans used words → AllHeld images plans words
unfolding table_at all_tables
sound_holds {images} {plans} {used} {words} s p e =
    let h = s.laid p e in
    record {
      accepts = h.accepts;
      kept = h.kept;
      tables = table_there (images p) words (plan plans p).first (lanes (images p)) h.tables (omega (arith, h.below, s.low));
    }

-- and its end is not past the words
pub end_inside : {images : Images} {plans : List HeldPlan} {used : ℕ} {words : List ℕ} → Sound images plans used words → (p : ℕ) → held plans p ≡ true
    → (plan plans p).end ≤ length words
unfolding held_of
end_inside {images} {plans} {used} {words} s p e =
    let h = s.laid p e in
    let q : (plan plans p).end ≡ (plan plans p).first + length (all_tables (images p)) = ap (λ (k : HeldPlan). k.end) h.kept in
    omega (arith, h.below, s.fits)

pub sound_first : (images : Images) (words : List ℕ) → Sound images (replicate places no_plan) 0 words
unfolding fresh
sound_first images words =
    record {
      eight = length-replicate places no_plan;
      fits = omega arith;
      low = omega arith;
      laid = λ p e. absurd (true≢false (sym e ∙ none_held words [] p));
    }

-- ---- a plan held anew

module _ (plans : List HeldPlan) (p : ℕ) (h : HeldPlan) (eight : length plans ≡ places) (place : p < places) where
  pub plan_here : plan (set plans p h) p ≡ h
  unfolding plan
  plan_here = get_or-set_same plans p h no_plan (omega arith)

  pub plan_other : (q : ℕ) → q ≢ p → plan (set plans p h) q ≡ plan plans q
  unfolding plan
  plan_other q d = get_or-set_other plans p q h no_plan d

  held_other : (q : ℕ) → q ≢ p → held (set plans p h) q ≡ held plans q
  unfolding held
  held_other q d = rw (plan_other q d) refl

  pub held_here : 1 ≤ h.cores → held (set plans p h) p ≡ true
  unfolding held is_plan
  held_here c = rw (plan_here, lt-ltb p places place, lt-ltb 0 h.cores c) refl

module _ (images : Images) (x : Shift) (s : Sound images x.plans x.used x.words) (image : List ℕ) (p : ℕ) (asks : HoldAsks x image p) where
  abbrev end : ℕ
  end = words_end x image p

  abbrev plans' : List HeldPlan
  plans' = set x.plans p (held_of image x.used)

  abbrev words' : List ℕ
  words' = take x.used x.words ++ all_tables image ++ drop end x.words

  abbrev images' : Images
  images' = images_by images (hold_plan image p)

  image_here : images' p ≡ image
  unfolding images_by
  image_here = rw (eq-eqb p p refl) refl

  image_other : (q : ℕ) → q ≢ p → images' q ≡ images q
  unfolding images_by
  image_other q d = rw (ne_eqb q p d) refl

  words_are : words' ≡ take x.used x.words ++ (all_tables image ++ drop end x.words)
  words_are = append_assoc (take x.used x.words) (all_tables image) (drop end x.words)

  front_long : length (take x.used x.words) ≡ x.used
  front_long = length-take-le x.used x.words s.fits

  laid_here : Laid images' plans' end words' p
  unfolding held_of words_end
  laid_here =
      let e = plan_here x.plans p (held_of image x.used) s.eight asks.place in
      record {
        accepts = rw image_here asks.accepts;
        kept = rw (image_here, e) refl;
        tables = rw (image_here, e, words_are) (ap (take (length (all_tables image))) (drop_at (take x.used x.words) _ x.used front_long) ∙ take-append_seam (all_tables image) _);
        below = rw (image_here, e) (omega arith);
      }

  laid_other : (q : ℕ) → q ≢ p → Laid images x.plans x.used x.words q → Laid images' plans' end words' q
  unfolding words_end
  laid_other q d h =
      let e = plan_other x.plans p (held_of image x.used) s.eight asks.place q d in
      record {
        accepts = rw (image_other q d) h.accepts;
        kept = rw (image_other q d, e) h.kept;
        tables = rw (image_other q d, e, words_are) (front_stays x.words _ x.used (plan x.plans q).first _ s.fits h.below ∙ h.tables);
        below = rw (image_other q d, e) (omega (arith, h.below));
      }

  pub hold_sound : Sound images' plans' end words'
  hold_sound =
      record {
        eight = length-set x.plans p (held_of image x.used) ∙ s.eight;
        fits = rw (words_are, length-append, length-append, front_long) (unfold words_end in (omega arith));
        low = asks.low;
        laid = λ q y. each q y (ℕ_discrete q p);
      }
    where
      each : (q : ℕ) → held plans' q ≡ true → Dec (q ≡ p) → Laid images' plans' end words' q
      each q y (yes e) = subst (Laid images' plans' end words') (sym e) laid_here
      each q y (no d) = laid_other q d (s.laid q (sym (held_other x.plans p (held_of image x.used) s.eight asks.place q d) ∙ y))

  pub hold_held : held plans' p ≡ true
  hold_held = held_here x.plans p (held_of image x.used) s.eight asks.place (unfold held_of in (facts image asks.accepts).core)
