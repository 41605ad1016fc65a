-- What making leaves: a draft whose head and pieces are the image's.
use Prim.Native.Nat.{ℕ, ◌+◌, ◌≤◌, ◌<◌}
use mathlib.Core.Path.{◌≡◌, refl, ◌∙◌, subst}
use mathlib.Core.Logic.{◌⊎◌, inl, inr}
use mathlib.Core.Bool.{true}
use mathlib.Core.List.{List, ◌∷◌, ◌++◌, []}
use native.Mathlib.Nat.{zero-add}
use native.Mathlib.Decide.{dec_lt}
use native.Mathlib.Omega.{arith}
use lib.ListN.{length, get_or, take}
use lib.Seq.{sets, length-sets, get_or-take}
use lib.Dec.{leb}
use borrow.Author.Tests.{leb-true, ltb-true, lt-ltb, le-ltb}
use Rattle.plan.specs.declared.Piece.{Piece}
use Rattle.plan.specs.declared.Table.TheVariants.{Cores, Vcpus, Tasks, Pieces}
use Rattle.plan.specs.Search.{first_no}
use Rattle.std.specs.Prelude.{None}
use Rattle.plan.specs.Image.{cycle_ticks, rows, core, task, piece, shape}
use Rattle.plan.specs.Questions.{Question, whole, each, question_at, image_questions, row_questions, piece_questions, core_of, jobs, release, due, switch_ticks, piece_end}
use Rattle.plan.specs.Held.{Sound, Passed}
use Rattle.plan.specs.Reading.{PieceFits}
use Rattle.plan.proofs.Tests.{r_and₄, r_and₅, r_lt, r_le, r_eq}
use Rattle.plan.proofs.Asking.{Real, passed_of, passed_all}
use Rattle.plan.proofs.Answers.{accepted_holds}
use Rattle.plan.proofs.Meanings.{image_agree, row_agree}
use Rattle.plan.proofs.Numbers.{real_image, real_rows}
use Rattle.plan.proofs.Sounds.{sound, Rows}
use Rattle.plan.proofs.Passing.{pieces_fit}
use Rattle.drafts.specs.Drafts.{draft_words, places, core_at, task_at, place_at, draft_cycle, draft_cores, draft_tasks, core_switch, task_core, task_period, task_deadline, task_jobs, piece_at}
use Rattle.drafts.specs.Drafts.{is_free, has_task, fits_job, task_in_range}
use Rattle.drafts.specs.Edits.{store_rows, number_of, piece_words, no_piece, made_piece, copied, make_number}
use Rattle.drafts.specs.Claim.{meets_five, meets_ten}
use Rattle.drafts.proofs.Storing.{sets_at, sets_other, length_rows, rows_other, rows_at}
use Rattle.drafts.proofs.Heads.{Formed, Fits, r_head}
use Rattle.drafts.proofs.Asking.{both_zero, asked_zero}

-- ---- what an image shows that passes 1 to 10 and 32

pub real_append : (ps qs : List Question) → Real ps → Real qs → Real (ps ++ qs)
real_append [] qs g h = h
real_append (p ∷ ps) qs g h = (g.0, real_append ps qs g.1 h)

pub real_four : (s : List ℕ) → Real (take 4 (piece_questions s))
unfolding piece_questions each
real_four s = omega arith

four_passed : (s : List ℕ) → Passed (take 4 (piece_questions s)) (length (take 4 (piece_questions s))) → Passed (piece_questions s) 4
unfolding piece_questions question_at
four_passed s h j l = subst (λ (q : Question). first_no q.many q.ok ≡ None) (get_or-take 4 (piece_questions s) j (whole 0 true) l) (h j l)

pub record Shown (s w : List ℕ) : Type 0 where
  pub sound : Sound s
  pub fit : Rows s Pieces (PieceFits s)
  pub room : draft_words ≤ length w

pub shown : (s w : List ℕ) → make_number s w ≡ 0 → Shown s w
unfolding make_number number_of
shown s w e =
    let im = image_questions s in let rq = row_questions s in let four = take 4 (piece_questions s) in let last = whole 34 (leb draft_words (length w)) ∷ [] in
    let ir = real_append im rq (real_image s) (real_rows s) in
    let a = both_zero (im ++ rq ++ four) last (real_append (im ++ rq) four ir (real_four s)) e in
    let b = both_zero (im ++ rq) four ir a.0 in
    let c = both_zero im rq (real_image s) b.0 in
    let h = accepted_holds im _ (image_agree s) (passed_all im (passed_of im (real_image s) c.0)) in
    let r = accepted_holds rq _ (row_agree s) (passed_all rq (passed_of rq (real_rows s) c.1)) in
    record {
      sound = sound s h r;
      fit = pieces_fit s 4 (four_passed s (passed_of four (real_four s) b.1)) (omega arith);
      room = leb-true _ _ (asked_zero 34 (leb draft_words (length w)) [] (omega arith) a.1).0;
    }

-- 5 and 10 of a piece by itself are those of its row
pub row_fits : (s : List ℕ) (i : ℕ) → PieceFits s i → meets_ten s (piece s i) ≡ true
unfolding meets_ten piece_end
row_fits s i h = (r_and₄ (r_lt _ _) (r_lt _ _) (r_le _ _) (r_le _ _)).1 h

pub row_task : (s : List ℕ) → Sound s → (i : ℕ) → i < rows s Pieces → meets_five s (piece s i) ≡ true
unfolding meets_five
row_task s g i l = lt-ltb _ _ (g.names Pieces i l)

-- ---- the image's head in the words

pub record HeadOf (s v : List ℕ) : Type 0 where
  pub cycle : draft_cycle v ≡ cycle_ticks s
  pub cores : draft_cores v ≡ rows s Cores
  pub tasks : draft_tasks v ≡ rows s Tasks
  pub switch : (c : ℕ) → c < rows s Cores → core_switch v c ≡ (core s c).d
  pub core_of_holds : (t : ℕ) → t < rows s Tasks → task_core v t ≡ core_of s t
  pub period : (t : ℕ) → t < rows s Tasks → task_period v t ≡ (task s t).period
  pub deadline : (t : ℕ) → t < rows s Tasks → task_deadline v t ≡ (task s t).deadline

module _ (s w : List ℕ) (g : Shown s w) where
  few_cores : rows s Cores ≤ 32
  unfolding shape
  few_cores = g.sound.inside.counts Cores

  few_tasks : rows s Tasks ≤ 256
  unfolding shape
  few_tasks = g.sound.inside.counts Tasks

  abbrev counted : List ℕ
  counted = sets w 0 (cycle_ticks s ∷ rows s Cores ∷ rows s Tasks ∷ [])

  abbrev core_row : ℕ → List ℕ
  core_row c = (core s c).d ∷ []

  abbrev task_row : ℕ → List ℕ
  task_row t = core_of s t ∷ (task s t).period ∷ (task s t).deadline ∷ []

  abbrev place_row : ℕ → List ℕ
  place_row p = piece_words (made_piece s p)

  abbrev cored : List ℕ
  cored = store_rows core_at core_row (rows s Cores) counted

  abbrev tasked : List ℕ
  tasked = store_rows task_at task_row (rows s Tasks) cored

  long_cored : length cored ≡ length w
  long_cored = length_rows core_at core_row (rows s Cores) counted ∙ length-sets w 0 (cycle_ticks s ∷ rows s Cores ∷ rows s Tasks ∷ [])

  long_tasked : length tasked ≡ length w
  long_tasked = length_rows task_at task_row (rows s Tasks) cored ∙ long_cored

  pub long_copied : length (copied s w) ≡ length w
  unfolding copied
  long_copied = length_rows place_at place_row places tasked ∙ long_tasked

  -- a word past the draft
  pub copied_later : (j : ℕ) → draft_words ≤ j → get_or (copied s w) j 0 ≡ get_or w j 0
  unfolding copied place_at task_at core_at draft_words places piece_words
  copied_later j l =
      rows_other place_at place_row places tasked j (λ p m k b e. omega arith)
      ∙ rows_other task_at task_row (rows s Tasks) cored j (λ t m k b e. omega (arith, few_tasks))
      ∙ rows_other core_at core_row (rows s Cores) counted j (λ c m k b e. omega (arith, few_cores))
      ∙ sets_other (cycle_ticks s ∷ rows s Cores ∷ rows s Tasks ∷ []) w 0 j (λ m b e. omega arith)

  -- words before the places, the tasks, the cores
  before_places : (j : ℕ) → j < 835 → get_or (copied s w) j 0 ≡ get_or tasked j 0
  unfolding copied place_at
  before_places j l = rows_other place_at place_row places tasked j (λ p m k b e. omega arith)

  before_tasks : (j : ℕ) → j < 67 → get_or (copied s w) j 0 ≡ get_or cored j 0
  unfolding task_at
  before_tasks j l = before_places j (omega arith) ∙ rows_other task_at task_row (rows s Tasks) cored j (λ t m k b e. omega arith)

  before_cores : (j : ℕ) → j < 3 → get_or (copied s w) j 0 ≡ get_or (cycle_ticks s ∷ rows s Cores ∷ rows s Tasks ∷ []) j 0
  unfolding core_at draft_words
  before_cores j l =
      before_tasks j (omega arith) ∙ rows_other core_at core_row (rows s Cores) counted j (λ t m k b e. omega arith)
      ∙ subst (λ (i : ℕ). get_or counted i 0 ≡ get_or (cycle_ticks s ∷ rows s Cores ∷ rows s Tasks ∷ []) j 0) (zero-add j)
      (sets_at (cycle_ticks s ∷ rows s Cores ∷ rows s Tasks ∷ []) w 0 j l (omega (arith, g.room)))

  core_word : (c : ℕ) → c < rows s Cores → get_or (copied s w) (core_at c) 0 ≡ (core s c).d
  unfolding core_at draft_words
  core_word c l =
      let z : core_at c + 0 ≡ core_at c = omega arith in
      before_tasks (core_at c) (omega (arith, few_cores))
      ∙ subst (λ (j : ℕ). get_or cored j 0 ≡ (core s c).d) z
      (rows_at core_at core_row (rows s Cores) counted (λ r q k. omega arith)
      (λ r k. omega (arith, few_cores, length-sets w 0 (cycle_ticks s ∷ rows s Cores ∷ rows s Tasks ∷ []), g.room)) c 0 l (omega arith))

  task_word : (t m : ℕ) → t < rows s Tasks → m < 3 → get_or (copied s w) (task_at t + m) 0 ≡ get_or (task_row t) m 0
  unfolding task_at draft_words
  task_word t m l b =
      before_places (task_at t + m) (omega (arith, few_tasks))
      ∙ rows_at task_at task_row (rows s Tasks) cored (λ r q k. omega arith) (λ r k. omega (arith, few_tasks, long_cored, g.room)) t m l b

  place_word : (p m : ℕ) → p < places → m < 4 → get_or (copied s w) (place_at p + m) 0 ≡ get_or (place_row p) m 0
  unfolding copied place_at draft_words places piece_words
  place_word p m l b = rows_at place_at place_row places tasked (λ r q k. omega arith) (λ r k. omega (arith, long_tasked, g.room)) p m l b

  pub copied_piece : (p : ℕ) → p < places → piece_at (copied s w) p ≡ made_piece s p
  unfolding piece_at piece_words
  copied_piece p l =
      let z : place_at p + 0 ≡ place_at p = omega arith in
      rw (subst (λ (j : ℕ). get_or (copied s w) j 0 ≡ (made_piece s p).task) z (place_word p 0 l (omega arith)), place_word p 1 l (omega arith), place_word p 2 l (omega arith), place_word p 3 l (omega arith)) refl

  pub copied_head : HeadOf s (copied s w)
  unfolding draft_cycle draft_cores draft_tasks core_switch task_core task_period task_deadline
  copied_head =
      record {
        cycle = before_cores 0 (omega arith);
        cores = before_cores 1 (omega arith);
        tasks = before_cores 2 (omega arith);
        switch = core_word;
        core_of_holds = λ t l. let z : task_at t + 0 ≡ task_at t = omega arith in subst (λ (j : ℕ). get_or (copied s w) j 0 ≡ core_of s t) z (task_word t 0 l (omega arith));
        period = λ t l. task_word t 1 l (omega arith);
        deadline = λ t l. task_word t 2 l (omega arith);
      }

-- ---- 5 and 10 by the words and by the image

module _ (s v : List ℕ) (h : HeadOf s v) where
  pub five_of : (x : Piece) → has_task v x ≡ meets_five s x
  unfolding has_task meets_five
  five_of x = rw h.tasks refl

  pub jobs_of : (t : ℕ) → t < rows s Tasks → task_jobs v t ≡ jobs s t
  unfolding task_jobs jobs
  jobs_of t l = rw (h.cycle, h.period t l) refl

  -- a task's core exists: question 5
  core_there : Sound s → (t : ℕ) → t < rows s Tasks → core_of s t < rows s Cores
  unfolding core_of
  core_there g t l = g.names Vcpus (task s t).vcpu (g.names Tasks t l)

  pub ten_of : Sound s → (x : Piece) → meets_five s x ≡ true → fits_job v x ≡ meets_ten s x
  unfolding fits_job meets_ten meets_five release due switch_ticks
  ten_of g x e =
      let l : x.task < rows s Tasks = ltb-true _ _ e in
      rw (jobs_of x.task l, h.core_of_holds x.task l, h.switch (core_of s x.task) (core_there g x.task l), h.period x.task l, h.deadline x.task l) refl

-- ---- making leaves a draft

module _ (s w : List ℕ) (g : Shown s w) where
  copied_fits : (p : ℕ) → p < places → (is_free (copied s w) p ≡ true) ⊎ Fits (copied s w) p
  unfolding is_free made_piece no_piece
  copied_fits p l = go (dec_lt p (rows s Pieces))
    where
      go : Dec (p < rows s Pieces) → (is_free (copied s w) p ≡ true) ⊎ Fits (copied s w) p
      go (no d) = inl (rw (copied_piece s w g p l, le-ltb p (rows s Pieces) (omega arith)) refl)
      go (yes d) =
          let m : meets_five s (piece s p) ≡ true = row_task s g.sound p d in
          inr
          (rw (copied_piece s w g p l, lt-ltb p (rows s Pieces) d) (
            five_of s (copied s w) (copied_head s w g) (piece s p) ∙ m,
            ten_of s (copied s w) (copied_head s w g) g.sound (piece s p) m ∙ row_fits s p (g.fit p d),
          ))

  copied_task : (t : ℕ) → t < draft_tasks (copied s w) → task_in_range (copied s w) t ≡ true
  unfolding task_in_range
  copied_task t l =
      let h = copied_head s w g in let m : t < rows s Tasks = subst (λ (n : ℕ). t < n) h.tasks l in let r = g.sound.ranges Tasks t m in
      let due : 1 ≤ (task s t).deadline = omega (arith, r.2, r.3) in
      rw (h.cycle, h.cores, h.core_of_holds t m, h.period t m, h.deadline t m)
      ((r_and₅ (r_lt _ _) (r_le _ _) (r_eq _ _) (r_le _ _) (r_le _ _)).1
      (core_there s (copied s w) h g.sound t m, r.0, r.1, due, r.4))

  pub copied_formed : Formed (copied s w)
  copied_formed =
      let h = copied_head s w g in let d = g.sound in
      record {
        room = omega (arith, g.room, long_copied s w g);
        head = (r_head (copied s w)).1 (rw (h.cycle, h.cores, h.tasks) (d.cycle, d.cycle_most, d.core, few_cores s w g, few_tasks s w g));
        tasks = copied_task;
        switches = λ c l. let m : c < rows s Cores = subst (λ (n : ℕ). c < n) h.cores l in rw (h.switch c m) (d.ranges Cores c m).1;
        pieces = copied_fits;
      }
