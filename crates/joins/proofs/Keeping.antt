-- In an accepted result every task of either plan works in the same ticks as in its own plan, and nothing else works.
use Prim.Native.Nat.{ℕ, ◌+◌, ◌-◌, ◌<◌}
use mathlib.Core.Path.{◌≡◌, refl, sym, ap, ◌∙◌, subst}
use mathlib.Core.Logic.{◌⊎◌, inl, inr}
use mathlib.Core.Bool.{true}
use mathlib.Core.List.{List, []}
use native.Mathlib.Omega.{arith}
use native.Mathlib.Decide.{dec_lt}
use lib.ListN.{length, get_or}
use Rattle.plan.specs.declared.Table.{Table}
use Rattle.plan.specs.declared.Table.TheVariants.{Cores, Vcpus, Tasks, Pieces}
use Rattle.plan.specs.Image.{tables, shape, cycle_ticks, rows, field, core, vcpu, piece, task}
use Rattle.plan.specs.Questions.{answer_of, accepted, core_of, switch_ticks}
use Rattle.plan.specs.Dispatch.{shown_at}
use Rattle.plan.proofs.Facts.{Facts, facts}
use Rattle.plan.proofs.Jobs.{of_job_holds, work_in}
use Rattle.joins.specs.Joins
use Rattle.joins.specs.Joins.{row_by, row_words, rows_of, rows_fit, names_task, names_stream}
use Rattle.joins.specs.Claim.{adds, AreBytes, works_at, JoinKeeps}
use Rattle.joins.proofs.Lists.{row_word, rows_long, rows_at, word_of, Has}
use Rattle.joins.proofs.Standing.{first_stands, second_stands}
use Rattle.joins.proofs.Embeds.{Embeds, same_work}
use Rattle.joins.proofs.Reading.{cycle_j, rows_j, field_j}
use Rattle.joins.proofs.Asked.{Agree, Agreeing, Leading, agreeing_says, leading_says, asked_all}
use Rattle.joins.proofs.Naming.{tasks_long, first_task, second_task, high_task}

module _ (a b : List ℕ) (s : ℕ) (ba : AreBytes a) (bb : AreBytes b) (ea : answer_of a ≡ accepted) (eb : answer_of b ≡ accepted)
    (fit : rows_fit (Joins.joined_rows a b s) tables ≡ true) where
  abbrev rs : Table → List (List ℕ)
  rs = Joins.joined_rows a b s

  abbrev j : List ℕ
  j = Joins.joined_image a b s

  rows_are : (t : Table) → rows j t ≡ length (rs t)
  rows_are t = rows_j a b s ba bb ea eb fit t

  field_are : (t : Table) (r k : ℕ) (x : List ℕ) → r < length (rs t) → get_or (rs t) r [] ≡ x → k < (shape t).width → field j t r k ≡ get_or x k 0
  field_are t r k x l e h = field_j a b s ba bb ea eb fit t r k x l e h

  -- ---- a plan whose rows stand in the joined tables lies in the joined plan: its tasks as f says, the words of its pieces as g says

  module _ (i : List ℕ) (ei : answer_of i ≡ accepted) (f : ℕ → ℕ) (g : ℕ → ℕ → ℕ) (cycle : cycle_ticks i ≡ cycle_ticks a)
      (words : (w : ℕ) → (g 0 w ≡ f w) × (g 1 w ≡ w) × (g 2 w ≡ w) × (g 3 w ≡ w))
      (cores : (r : ℕ) → r < rows i Cores → (r < length (rs Cores)) × (get_or (rs Cores) r [] ≡ row_words i Cores r))
      (vcpus : (r : ℕ) → r < rows i Vcpus → (r < length (rs Vcpus)) × (get_or (rs Vcpus) r [] ≡ row_words i Vcpus r))
      (tasks : (r : ℕ) → r < rows i Tasks → (f r < length (rs Tasks)) × (get_or (rs Tasks) (f r) [] ≡ row_words i Tasks r))
      (pieces : (r : ℕ) → r < rows i Pieces → Has (rs Pieces) (row_by i Pieces g r)) where
    fi : Facts i
    fi = facts i ei

    core_field : (r k : ℕ) → r < rows i Cores → k < (shape Cores).width → field i Cores r k ≡ field j Cores r k
    core_field r k l h = let c = cores r l in sym (field_are Cores r k (row_words i Cores r) c.0 c.1 h ∙ word_of i Cores r k h)

    vcpu_field : (r k : ℕ) → r < rows i Vcpus → k < (shape Vcpus).width → field i Vcpus r k ≡ field j Vcpus r k
    vcpu_field r k l h = let c = vcpus r l in sym (field_are Vcpus r k (row_words i Vcpus r) c.0 c.1 h ∙ word_of i Vcpus r k h)

    task_field : (r k : ℕ) → r < rows i Tasks → k < (shape Tasks).width → field i Tasks r k ≡ field j Tasks (f r) k
    task_field r k l h = let c = tasks r l in sym (field_are Tasks (f r) k (row_words i Tasks r) c.0 c.1 h ∙ word_of i Tasks r k h)

    core_same : (t : ℕ) → t < rows i Tasks → core_of i t ≡ core_of j (f t)
    unfolding core_of task vcpu shape
    core_same t l =
        vcpu_field (field i Tasks t 0) 0 (fi.names Tasks t l) (omega arith)
        ∙ ap (λ (v : ℕ). field j Vcpus v 0) (task_field t 0 l (omega arith))

    core_lt : (t : ℕ) → t < rows i Tasks → core_of i t < rows i Cores
    unfolding core_of task vcpu
    core_lt t l = fi.names Vcpus (field i Tasks t 0) (fi.names Tasks t l)

    switch_same : (t : ℕ) → t < rows i Tasks → switch_ticks i t ≡ switch_ticks j (f t)
    unfolding switch_ticks core shape
    switch_same t l = core_field (core_of i t) 1 (core_lt t l) (omega arith) ∙ ap (λ (c : ℕ). field j Cores c 1) (core_same t l)

    piece_same : (p : ℕ) → p < rows i Pieces → (q : ℕ) × (q < rows j Pieces) × ((piece j q).task ≡ f (piece i p).task)
        × ((piece j q).job ≡ (piece i p).job) × ((piece j q).start ≡ (piece i p).start) × ((piece j q).length ≡ (piece i p).length)
    unfolding piece shape
    piece_same p l =
        let h = pieces p l in
        let word : (k : ℕ) → k < 4 → field j Pieces h.row k ≡ g k (field i Pieces p k) =
        λ k m. field_are Pieces h.row k (row_by i Pieces g p) h.exists h.words m ∙ row_word i Pieces g p k m in (
          h.row,
          subst (λ (n : ℕ). h.row < n) (sym (rows_are Pieces)) h.exists,
          word 0 (omega arith) ∙ (words (field i Pieces p 0)).0,
          word 1 (omega arith) ∙ (words (field i Pieces p 1)).1,
          word 2 (omega arith) ∙ (words (field i Pieces p 2)).2,
          word 3 (omega arith) ∙ (words (field i Pieces p 3)).3,
        )

    embeds : Embeds i j f
    unfolding task shape
    embeds =
        record {
          ticks = cycle ∙ sym (cycle_j a b s ba bb ea eb fit);
          tasks = λ t l. subst (λ (n : ℕ). f t < n) (sym (rows_are Tasks)) (tasks t l).0;
          core = core_same;
          switch = switch_same;
          period = λ t l. task_field t 2 l (omega arith);
          budget = λ t l. task_field t 3 l (omega arith);
          pieces = piece_same;
        }

  -- ---- the first plan

  own_row : (t : Table) (r : ℕ) → rs t ≡ rows_of a t → r < rows a t → (r < length (rs t)) × (get_or (rs t) r [] ≡ row_words a t r)
  own_row t r e l = rw e (rw (rows_long a t) l, rows_at a t r l)

  first_embeds : Embeds a j (λ t. t)
  first_embeds =
      embeds a ea (λ t. t) (λ k w. w) refl (λ w. (refl, refl, refl, refl))
      (λ r l. own_row Cores r (unfold Joins.joined_rows in refl) l) (λ r l. own_row Vcpus r (unfold Joins.joined_rows in refl) l)
      (first_task a b s) (λ r l. unfold row_words in (first_stands a b s Pieces r l))

  -- ---- the second plan

  shared_row : (t : Table) (r : ℕ) → rs t ≡ rows_of a t → Agree a b s t → r < rows b t → (r < length (rs t)) × (get_or (rs t) r [] ≡ row_words b t r)
  shared_row t r e q l = let o = own_row t r e (rw q.0 l) in (o.0, o.1 ∙ q.1 r l)

  piece_words : (w : ℕ) → (Joins.renumber a b s Pieces 0 w ≡ Joins.task_at a b s w) × (Joins.renumber a b s Pieces 1 w ≡ w)
      × (Joins.renumber a b s Pieces 2 w ≡ w) × (Joins.renumber a b s Pieces 3 w ≡ w)
  unfolding Joins.renumber Joins.with_tasks names_task names_stream
  piece_words w = (refl, refl, refl, refl)

  module _ (g : Agreeing a b s) (h : Leading a b s) where
    second_embeds : Embeds b j (Joins.task_at a b s)
    unfolding adds shape
    second_embeds =
        embeds b eb (Joins.task_at a b s) (Joins.renumber a b s Pieces) (sym g.cycle) piece_words
        (λ r l. shared_row Cores r (unfold Joins.joined_rows in refl) g.cores l) (λ r l. shared_row Vcpus r (unfold Joins.joined_rows in refl) g.vcpus l)
        (second_task a b s h) (λ r l. second_stands a b s Pieces r refl l)

    -- ---- both, and nothing else

    module _ (ej : answer_of j ≡ accepted) where
      fj : Facts j
      fj = facts j ej

      first_works : (l x t k : ℕ) → x < cycle_ticks a → t < rows a Tasks → works_at j l x t k ≡ works_at a l x t k
      first_works l x t k m n = same_work a j (facts a ea) fj (λ t. t) first_embeds t k n l x m

      second_works : (l x t k : ℕ) → x < cycle_ticks a → t < rows b Tasks → works_at j l x (Joins.task_at a b s t) k ≡ works_at b l x t k
      second_works l x t k m n = same_work b j (facts b eb) fj (Joins.task_at a b s) second_embeds t k n l x (subst (λ (n : ℕ). x < n) g.cycle m)

      -- a task that works is one of the joined tasks
      works_named : (l x t k : ℕ) → works_at j l x t k ≡ true → t < rows a Tasks + (rows b Tasks - s)
      unfolding works_at
      works_named l x t k e =
          let w = work_in j fj t k x l e in
          let q = (shown_at j l x).row in
          let n : (piece j q).task < rows j Tasks = fj.names Pieces q w.0 in
          omega (arith, n, (of_job_holds j t k q w.1.mine).0, rows_are Tasks, tasks_long a b s)

      works_of : (l x t k : ℕ) → x < cycle_ticks a → works_at j l x t k ≡ true
          → ((t < rows a Tasks) × (works_at a l x t k ≡ true)) ⊎ ((u : ℕ) × (u < rows b Tasks) × (Joins.task_at a b s u ≡ t) × (works_at b l x u k ≡ true))
      works_of l x t k m e = go (dec_lt t (rows a Tasks))
        where
          go : Dec (t < rows a Tasks)
              → ((t < rows a Tasks) × (works_at a l x t k ≡ true)) ⊎ ((u : ℕ) × (u < rows b Tasks) × (Joins.task_at a b s u ≡ t) × (works_at b l x u k ≡ true))
          go (yes n) = inl (n, sym (first_works l x t k m n) ∙ e)
          go (no n) =
              let u = s + (t - rows a Tasks) in
              let low : u < rows b Tasks = omega (arith, works_named l x t k e) in
              let new : Joins.task_at a b s u ≡ t = high_task a b s u (omega arith) ∙ omega arith in
              inr (u, low, new, sym (second_works l x u k m low) ∙ ap (λ (v : ℕ). works_at j l x v k) new ∙ e)

pub join_keeps : JoinKeeps
join_keeps a b s lent ba bb e =
    let p = asked_all a b s lent e in let q = p.0 in
    let g = agreeing_says a b s q.agreeing in let h = leading_says a b s q.leading in
    record {
      cycles = (sym g.cycle, cycle_j a b s ba bb q.first q.second q.fitting);
      of_first = first_works a b s ba bb q.first q.second q.fitting g h p.1;
      of_second = second_works a b s ba bb q.first q.second q.fitting g h p.1;
      nothing_else = works_of a b s ba bb q.first q.second q.fitting g h p.1;
    }
