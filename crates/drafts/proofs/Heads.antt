-- What 33 says of words, as statements; and words whose head, which 5 and 10 are asked by, is the same.
use Prim.Native.Nat.{ℕ, zero, suc, ◌+◌, ◌*◌, ◌≤◌, ◌<◌}
use mathlib.Core.Path.{◌≡◌, refl, sym, ◌∙◌, subst}
use mathlib.Core.Logic.{◌↔◌, ◌≢◌, ◌⊎◌, inl, inr}
use mathlib.Core.Bool.{Bool, true, false, cond, true≢false}
use mathlib.Core.List.{List}
use native.Mathlib.Omega.{arith}
use lib.ListN.{length, get_or}
use lib.Dec.{eqb}
use borrow.Author.Tests.{ltb-true, eqb-true}
use Rattle.plan.specs.declared.Piece.{Piece}
use Rattle.plan.specs.Search.{sum}
use Rattle.plan.proofs.Tests.{Reads, r_le, r_lt, r_eq, r_and, r_and₄, r_and₅, r_or, r_all}
use Rattle.plan.proofs.Counting.{count_cong}
use Rattle.drafts.specs.Drafts.{draft_words, places, core_at, task_at, place_at, draft_cycle, draft_cores, draft_tasks, core_switch, core_total}
use Rattle.drafts.specs.Drafts.{task_core, task_period, task_deadline, task_jobs, piece_at, rank_at, total_at, is_free, has_task, fits_job, job_sum, core_sum, rank}
use Rattle.drafts.specs.Drafts.{head_in_range, task_in_range, core_true, place_true, is_draft}

-- ---- 33

r_same : (b : Bool) → Reads b (b ≡ true)
r_same b = (λ h. h, λ h. h)

module _ (w : List ℕ) where
  abbrev pub Fits : ℕ → Type 0
  Fits p = (has_task w (piece_at w p) ≡ true) × (fits_job w (piece_at w p) ≡ true)

  abbrev pub TruePlace : ℕ → Type 0
  TruePlace p =
      (has_task w (piece_at w p) ≡ true) × (fits_job w (piece_at w p) ≡ true)
      × (rank_at w p ≡ rank w (piece_at w p).task (piece_at w p).job) × (total_at w p ≡ job_sum w (piece_at w p).task (piece_at w p).job)

  abbrev pub TrueCore : ℕ → Type 0
  TrueCore c = (core_switch w c ≤ 1000) × (core_total w c ≡ core_sum w c)

  pub r_place : (p : ℕ) → Reads (place_true w p) ((is_free w p ≡ true) ⊎ TruePlace p)
  unfolding place_true
  r_place p = r_or (r_same _) (r_and₄ (r_same _) (r_same _) (r_eq _ _) (r_eq _ _))

  r_core : (c : ℕ) → Reads (core_true w c) (TrueCore c)
  unfolding core_true
  r_core c = r_and (r_le _ _) (r_eq _ _)

  -- 10
  pub r_fits : (x : Piece) → Reads (fits_job w x)
      ((x.job < task_jobs w x.task) × (core_switch w (task_core w x.task) < x.length) × (x.job * task_period w x.task ≤ x.start)
      × (x.start + x.length ≤ x.job * task_period w x.task + task_deadline w x.task))
  unfolding fits_job
  r_fits x = r_and₄ (r_lt _ _) (r_lt _ _) (r_le _ _) (r_le _ _)

  pub r_head : Reads (head_in_range w) ((1 ≤ draft_cycle w) × (draft_cycle w ≤ 1000000) × (1 ≤ draft_cores w) × (draft_cores w ≤ 32) × (draft_tasks w ≤ 256))
  unfolding head_in_range
  r_head = r_and₅ (r_le _ _) (r_le _ _) (r_le _ _) (r_le _ _) (r_le _ _)

  pub r_draft : Reads (is_draft w)
      ((draft_words ≤ length w) × (head_in_range w ≡ true) × ((t : ℕ) → t < draft_tasks w → task_in_range w t ≡ true)
      × ((c : ℕ) → c < draft_cores w → TrueCore c) × ((p : ℕ) → p < places → (is_free w p ≡ true) ⊎ TruePlace p))
  unfolding is_draft
  r_draft = r_and₅ (r_le _ _) (r_same _) (r_all _ (λ t. r_same _)) (r_all _ r_core) (r_all _ r_place)

  -- a draft but for its totals
  pub record Formed : Type 0 where
    pub room : draft_words ≤ length w
    pub head : head_in_range w ≡ true
    pub tasks : (t : ℕ) → t < draft_tasks w → task_in_range w t ≡ true
    pub switches : (c : ℕ) → c < draft_cores w → core_switch w c ≤ 1000
    pub pieces : (p : ℕ) → p < places → (is_free w p ≡ true) ⊎ Fits p

  pub formed_of : is_draft w ≡ true → Formed
  formed_of h =
      let d = r_draft.0 h in
      record { room = d.0; head = d.1; tasks = d.2; switches = λ c l. (d.3 c l).0; pieces = λ p l. go p (d.4 p l) }
    where
      go : (p : ℕ) → (is_free w p ≡ true) ⊎ TruePlace p → (is_free w p ≡ true) ⊎ Fits p
      go p (inl e) = inl e
      go p (inr e) = inr (e.0, e.1)

  -- a place that holds a piece
  pub held_fits : Formed → (p : ℕ) → p < places → is_free w p ≡ false → Fits p
  held_fits f p l e = go (f.pieces p l)
    where
      go : (is_free w p ≡ true) ⊎ Fits p → Fits p
      go (inl d) = absurd (true≢false (sym d ∙ e))
      go (inr d) = d

  -- a task's core is one of at most 32
  pub few_tasks : Formed → draft_tasks w ≤ 256
  few_tasks f = (r_head.0 f.head).4

  pub few_cores : Formed → draft_cores w ≤ 32
  few_cores f = (r_head.0 f.head).3

  pub core_exists : Formed → (t : ℕ) → t < draft_tasks w → task_core w t < draft_cores w
  unfolding task_in_range
  core_exists f t l = ((r_and₅ (r_lt _ _) (r_same _) (r_same _) (r_same _) (r_same _)).0 (f.tasks t l)).0

  pub task_exists : (p : ℕ) → Fits p → (piece_at w p).task < draft_tasks w
  unfolding has_task
  task_exists p h = ltb-true _ _ h.0

  pub free_length : (p : ℕ) → is_free w p ≡ true → (piece_at w p).length ≡ 0
  unfolding is_free
  free_length p h = eqb-true _ _ h

  -- a place of a draft that holds a piece
  pub true_place : is_draft w ≡ true → (p : ℕ) → p < places → is_free w p ≡ false → TruePlace p
  true_place d p l e = go ((r_draft.0 d).4 p l)
    where
      go : (is_free w p ≡ true) ⊎ TruePlace p → TruePlace p
      go (inl z) = absurd (true≢false (sym z ∙ e))
      go (inr z) = z

-- ---- the same head

pub record SameHead (w v : List ℕ) : Type 0 where
  pub room : (draft_words ≤ length w) ↔ (draft_words ≤ length v)
  pub cycle : draft_cycle v ≡ draft_cycle w
  pub cores : draft_cores v ≡ draft_cores w
  pub tasks : draft_tasks v ≡ draft_tasks w
  pub switch : (c : ℕ) → c < 32 → core_switch v c ≡ core_switch w c
  pub core : (t : ℕ) → t < 256 → task_core v t ≡ task_core w t
  pub period : (t : ℕ) → t < 256 → task_period v t ≡ task_period w t
  pub deadline : (t : ℕ) → t < 256 → task_deadline v t ≡ task_deadline w t

-- words as many
pub same_length : (w v : List ℕ) → length v ≡ length w → (draft_words ≤ length w) ↔ (draft_words ≤ length v)
same_length w v e = (λ l. rw e l, λ l. rw (← e) l)

-- where no word before the places differs but cores' totals
pub same_head : (w v : List ℕ) → (draft_words ≤ length w) ↔ (draft_words ≤ length v) → ((j : ℕ) → j < 835 → ((c : ℕ) → c < 32 → j ≢ 4 + 2 * c) → get_or v j 0 ≡ get_or w j 0) → SameHead w v
unfolding draft_cycle draft_cores draft_tasks core_switch task_core task_period task_deadline core_at task_at
same_head w v e h =
    record {
      room = e;
      cycle = h 0 (omega arith) (λ c l. omega arith);
      cores = h 1 (omega arith) (λ c l. omega arith);
      tasks = h 2 (omega arith) (λ c l. omega arith);
      switch = λ c l. h (3 + 2 * c) (omega arith) (λ b m. omega arith);
      core = λ t l. h (67 + 3 * t) (omega arith) (λ b m. omega arith);
      period = λ t l. h (67 + 3 * t + 1) (omega arith) (λ b m. omega arith);
      deadline = λ t l. h (67 + 3 * t + 2) (omega arith) (λ b m. omega arith);
    }

module _ (w v : List ℕ) (h : SameHead w v) where
  pub same_task : (x : Piece) → has_task v x ≡ has_task w x
  unfolding has_task
  same_task x = rw h.tasks refl

  pub same_fit : Formed w → (x : Piece) → has_task w x ≡ true → fits_job v x ≡ fits_job w x
  unfolding fits_job task_jobs has_task
  same_fit f x e =
      let l : x.task < draft_tasks w = ltb-true _ _ e in
      let t = few_tasks w f in let m = few_cores w f in let k = core_exists w f x.task l in
      rw (h.cycle, h.period x.task (omega arith), h.deadline x.task (omega arith), h.core x.task (omega arith), h.switch (task_core w x.task) (omega arith)) refl

  pub same_range : head_in_range w ≡ true → head_in_range v ≡ true
  unfolding head_in_range
  same_range e = rw (h.cycle, h.cores, h.tasks) e

  pub same_tasks : Formed w → (t : ℕ) → t < draft_tasks v → task_in_range v t ≡ true
  unfolding task_in_range
  same_tasks f t l =
      let m : t < draft_tasks w = subst (λ (n : ℕ). t < n) h.tasks l in let k = few_tasks w f in
      rw (h.cycle, h.cores, h.period t (omega arith), h.deadline t (omega arith), h.core t (omega arith)) (f.tasks t m)

  pub same_switches : Formed w → (c : ℕ) → c < draft_cores v → core_switch v c ≤ 1000
  same_switches f c l =
      let m : c < draft_cores w = subst (λ (n : ℕ). c < n) h.cores l in let k = few_cores w f in
      rw (h.switch c (omega arith)) (f.switches c m)

-- ---- the same pieces

pub same_piece : (w v : List ℕ) (q : ℕ) → get_or v (place_at q) 0 ≡ get_or w (place_at q) 0 → get_or v (place_at q + 1) 0 ≡ get_or w (place_at q + 1) 0
    → get_or v (place_at q + 2) 0 ≡ get_or w (place_at q + 2) 0 → get_or v (place_at q + 3) 0 ≡ get_or w (place_at q + 3) 0 → piece_at v q ≡ piece_at w q
unfolding piece_at
same_piece w v q a b c d = rw (a, b, c, d) refl

-- nothing, whether it is taken or not
pub cond_none : (b : Bool) (n : ℕ) → n ≡ 0 → cond b n 0 ≡ 0
cond_none true n e = e
cond_none false n e = refl

pub sum_same : (f g : ℕ → ℕ) (n : ℕ) → ((i : ℕ) → i < n → f i ≡ g i) → sum n f ≡ sum n g
unfolding sum
sum_same f g zero h = refl
sum_same f g (suc n) h = rw (sum_same f g n (λ i l. h i (omega arith)), h n (omega arith)) refl

module _ (w v : List ℕ) (h : (q : ℕ) → q < places → piece_at v q ≡ piece_at w q) where
  pub same_free : (q : ℕ) → q < places → is_free v q ≡ is_free w q
  unfolding is_free
  same_free q l = rw (h q l) refl

  pub same_job_sum : (t k : ℕ) → job_sum v t k ≡ job_sum w t k
  unfolding job_sum
  same_job_sum t k = sum_same _ _ places (λ q l. rw (h q l) refl)

  pub same_rank : (t k : ℕ) → rank v t k ≡ rank w t k
  unfolding rank
  same_rank t k = count_cong _ _ places (λ q l. rw (h q l, same_free q l) refl)

  pub same_core_sum : SameHead w v → Formed w → (c : ℕ) → core_sum v c ≡ core_sum w c
  unfolding core_sum
  same_core_sum g f c = sum_same _ _ places (λ q l. rw (h q l) (go q (f.pieces q l)))
    where
      go : (q : ℕ) → (is_free w q ≡ true) ⊎ Fits w q
          → cond (eqb (task_core v (piece_at w q).task) c) (piece_at w q).length 0 ≡ cond (eqb (task_core w (piece_at w q).task) c) (piece_at w q).length 0
      go q (inl e) = cond_none (eqb (task_core v (piece_at w q).task) c) _ (free_length w q e) ∙ sym (cond_none (eqb (task_core w (piece_at w q).task) c) _ (free_length w q e))
      go q (inr e) = let a = task_exists w q e in let b = few_tasks w f in rw (g.core (piece_at w q).task (omega arith)) refl
