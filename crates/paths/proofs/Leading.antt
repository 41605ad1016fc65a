-- A task leads on where a message that it sends has a reader that does.
use Prim.Native.Nat.{ℕ, ◌+◌, ◌-◌, ◌*◌, ◌%◌, ◌≤◌, ◌<◌}
use mathlib.Core.Path.{◌≡◌, refl, sym, subst, ◌∙◌}
use mathlib.Core.Logic.{◌⊎◌, inl, inr, ◌≢◌}
use mathlib.Core.Bool.{Bool, true, false, cond, true≢false}
use mathlib.Core.List.{List}
use native.Mathlib.Nat.{le-div_iff_mul-le, mod-eq_of_lt}
use native.Mathlib.Omega.{arith}
use native.Mathlib.Decide.{dec_lt}
use lib.ListN.{length, get_or, set, replicate, length-set, get_or-replicate, get_or-eq_default}
use lib.Seq.{get_or-set_other}
use lib.Dec.{ltb, eqb}
use borrow.Author.Tests.{lt-ltb, le-ltb, eq-eqb, ne_eqb, eqb-true}
use Rattle.plan.specs.declared.Table.TheVariants.{Tasks, Pieces, Streams, Buffers, Chains}
use Rattle.plan.specs.Image.{rows, task, stream, buffer, chain, cycle_ticks, most_tasks}
use Rattle.plan.specs.Search.{any, leads}
use Rattle.plan.specs.Questions.{joins, jobs, first_start, piece_questions, stream_questions, buffer_questions, chain_questions, question_at, each, chain_tasks, chain_path}
use Rattle.plan.specs.Reading as R
use Rattle.plan.specs.Held.{Sound, Passed}
use Rattle.plan.proofs.Tests.{row_any}
use Rattle.plan.proofs.Searching.{and_true, none_iff}
use Rattle.plan.proofs.Meanings as Mean
use Rattle.plan.proofs.Paths as Path
use Rattle.plan.proofs.Facts.{Facts, facts_of}
use Rattle.plan.proofs.Sounds.{first_of}
use Rattle.plan.proofs.Answers.{accepted_holds}
use Rattle.plan.proofs.Asking.{passed_all}
use Rattle.plan.proofs.Messages.{joined_start, leads_jobs}
use Rattle.tallies.proofs.Tallying.{smallest_top}
use Rattle.paths.specs.Walks.{BeforeChains, messages, sender_of, reader_of, leads_to, sent_on, Marked}

-- what 1 to 24 and 41 have shown, by name
pub asked_facts : (s : List ℕ) → BeforeChains s → Facts s
unfolding piece_questions stream_questions buffer_questions
asked_facts s h =
    facts_of s h.sound
    (accepted_holds (piece_questions s) (R.piece_meanings s) (Mean.piece_agree s) (passed_all (piece_questions s) h.pieces))
    (first_of 8 (R.stream_meanings s) (accepted_holds (stream_questions s) (R.stream_meanings s) (Mean.stream_agree s) (passed_all (stream_questions s) h.streams)))
    (accepted_holds (buffer_questions s) (R.buffer_meanings s) (Mean.buffer_agree s) (passed_all (buffer_questions s) h.buffers))

module _ (s : List ℕ) where
  -- a message is a stream's or a buffer's
  by : (m : ℕ) → m < messages s → R.Joins s (sender_of s m) (reader_of s m)
  unfolding messages sender_of reader_of
  by m l = go (dec_lt m (rows s Streams))
    where
      go : Dec (m < rows s Streams)
          → R.Joins s (cond (ltb m (rows s Streams)) (stream s m).sender (buffer s (m - rows s Streams)).writer)
          (cond (ltb m (rows s Streams)) (stream s m).receiver (buffer s (m - rows s Streams)).reader)
      go (yes h) = rw (lt-ltb m (rows s Streams) h) (inl (m, h, (refl, refl)))
      go (no h) = rw (le-ltb m (rows s Streams) (omega arith)) (inr (m - rows s Streams, omega arith, (refl, refl)))

  -- and each message has a number
  number : (a t : ℕ) → R.Joins s a t → (m : ℕ) × (m < messages s) × ((sender_of s m ≡ a) × (reader_of s m ≡ t))
  unfolding messages sender_of reader_of
  number a t (inl w) = (w.0, omega (arith, w.1), rw (lt-ltb w.0 (rows s Streams) w.1) w.2)
  number a t (inr w) =
      let m : ℕ = rows s Streams + w.0 in
      let e : m - rows s Streams ≡ w.0 = omega arith in
      (m, omega (arith, w.1), rw (le-ltb m (rows s Streams) (omega arith), e) w.2)

  module _ (h : Sound s) where
    pub reader_below : (m : ℕ) → m < messages s → reader_of s m < rows s Tasks
    unfolding messages reader_of
    reader_below m l = go (dec_lt m (rows s Streams))
      where
        go : Dec (m < rows s Streams) → cond (ltb m (rows s Streams)) (stream s m).receiver (buffer s (m - rows s Streams)).reader < rows s Tasks
        go (yes k) = rw (lt-ltb m (rows s Streams) k) (h.names Streams m k).1
        go (no k) = rw (le-ltb m (rows s Streams) (omega arith)) (h.names Buffers (m - rows s Streams) (omega arith)).1

    -- one that leads on
    pub leads_some : (a b m : ℕ) → m < messages s → sender_of s m ≡ a → leads_to s (reader_of s m) b ≡ true → leads_to s a b ≡ true
    unfolding leads_to
    leads_some a b m l e q =
        let j : joins s a (reader_of s m) ≡ true = (Mean.joins s a (reader_of s m)).1 (subst (λ (u : ℕ). R.Joins s u (reader_of s m)) e (by m l)) in
        Path.enough (rows s Tasks) (joins s) b a (Path.by_step (rows s Tasks) (joins s) b (rows s Tasks) a (reader_of s m) (reader_below m l) j q)

  -- none that does
  pub leads_none : (a b : ℕ) → a ≢ b → any (messages s) (sent_on s a b) ≡ false → leads_to s a b ≡ false
  unfolding leads_to sent_on
  leads_none a b n e = go (leads (rows s Tasks) (joins s) (rows s Tasks) a b) refl
    where
      on : (a ≡ b) ⊎ ((t : ℕ) × (t < rows s Tasks) × (joins s a t ≡ true) × (leads (rows s Tasks) (joins s) (rows s Tasks) t b ≡ true)) → ⊥
      on (inl q) = n q
      on (inr w) =
          let m = number a w.0 ((Mean.joins s a w.0).0 w.2) in
          let p : sent_on s a b m.0 ≡ true = rw (m.2.0, m.2.1, eq-eqb a a refl) w.3 in
          true≢false (sym (row_any (sent_on s a b) (messages s) m.0 m.1 p) ∙ e)

      go : (v : Bool) → leads (rows s Tasks) (joins s) (rows s Tasks) a b ≡ v → leads (rows s Tasks) (joins s) (rows s Tasks) a b ≡ false
      go true q = absurd (on (Path.on (rows s Tasks) (joins s) b (rows s Tasks) a (Path.more (rows s Tasks) (joins s) b (rows s Tasks) a q)))
      go false q = q

  pub leads_there : (a b : ℕ) → a ≡ b → leads_to s a b ≡ true
  unfolding leads_to
  leads_there a b e = Path.there (rows s Tasks) (joins s) b (rows s Tasks) a e

  -- marks
  pub none_marked : (b : ℕ) (marks : List ℕ) → length marks ≡ most_tasks → ((t : ℕ) → get_or marks t 0 ≡ 0) → Marked s b marks
  none_marked b marks e h = record { size = e; dead = λ t l n. absurd (n (h t)) }

  pub one_marked : (b : ℕ) (marks : List ℕ) (a : ℕ) → a < most_tasks → Marked s b marks → leads_to s a b ≡ false → Marked s b (set marks a 1)
  one_marked b marks a l h e = record { size = length-set marks a 1 ∙ h.size; dead = λ t k n. go t k n (dec_lt t a) (dec_lt a t) }
    where
      go : (t : ℕ) → t < rows s Tasks → get_or (set marks a 1) t 0 ≢ 0 → Dec (t < a) → Dec (a < t) → leads_to s t b ≡ false
      go t k n (yes x) y = h.dead t k (λ z. n (get_or-set_other marks a t 1 0 (λ q. absurd (omega arith)) ∙ z))
      go t k n (no x) (yes y) = h.dead t k (λ z. n (get_or-set_other marks a t 1 0 (λ q. absurd (omega arith)) ∙ z))
      go t k n (no x) (no y) = let q : t ≡ a = omega arith in rw q e

  pub not_sent : (a b m : ℕ) → sender_of s m ≢ a → sent_on s a b m ≡ false
  unfolding sent_on
  not_sent a b m n = rw (ne_eqb (sender_of s m) a n) refl

  pub sent : (a b m : ℕ) → sender_of s m ≡ a → sent_on s a b m ≡ leads_to s (reader_of s m) b
  unfolding sent_on
  sent a b m e = rw (eq-eqb (sender_of s m) a e) refl

  pub sent_some : Sound s → (a b m : ℕ) → m < messages s → sent_on s a b m ≡ true → leads_to s a b ≡ true
  unfolding sent_on
  sent_some h a b m l e = let p = and_true (eqb (sender_of s m) a) (leads_to s (reader_of s m) b) e in leads_some h a b m l (eqb-true (sender_of s m) a p.0) p.1

  some_job : Facts s → (t : ℕ) → t < rows s Tasks → 1 ≤ jobs s t
  unfolding jobs
  some_job f t h = let r = f.ranges Tasks t h in (le-div_iff_mul-le r.0).1 (omega (arith, at_most (dec_lt (cycle_ticks s) (task s t).period) r.1))
    where
      at_most : Dec (cycle_ticks s < (task s t).period) → cycle_ticks s % (task s t).period ≡ 0 → (task s t).period ≤ cycle_ticks s
      at_most (yes k) e = absurd (omega (arith, sym (mod-eq_of_lt k) ∙ e, f.cycle))
      at_most (no k) e = omega arith

  start_most : (t : ℕ) → first_start s t 0 ≤ cycle_ticks s
  unfolding first_start
  start_most t = smallest_top (cycle_ticks s) _ (rows s Pieces)

  -- a reader starts later, so that less of the cycle is left
  pub later_reader : Facts s → (m : ℕ) → m < messages s → sender_of s m < rows s Tasks
      → 2 * (cycle_ticks s - first_start s (reader_of s m) 0) + 1 < 2 * (cycle_ticks s - first_start s (sender_of s m) 0)
  later_reader f m l h =
      let k : 1 ≤ jobs s (sender_of s m) = some_job f (sender_of s m) h in
      omega (arith, joined_start s f (sender_of s m) (reader_of s m) 0 (by m l) k, start_most (reader_of s m))

  pub fresh : (b : ℕ) → Marked s b (replicate most_tasks 0)
  fresh b = none_marked b (replicate most_tasks 0) refl zero_at
    where
      zero_at : (t : ℕ) → ◌≡◌ {A = ℕ} (get_or (replicate most_tasks 0) t 0) 0
      zero_at t = go (dec_lt t most_tasks)
        where
          go : Dec (t < most_tasks) → ◌≡◌ {A = ℕ} (get_or (replicate most_tasks 0) t 0) 0
          go (yes l) = get_or-replicate most_tasks t 0 0 l
          go (no l) = get_or-eq_default (replicate most_tasks 0) 0 {n = t} (omega arith)

  -- 29 and 30 have passed
  pub tasks_of : Passed (chain_questions s) 1 → (x : ℕ) → x < rows s Chains → R.ChainTasks s x
  unfolding chain_questions question_at each
  tasks_of h x l = (Mean.chain_tasks_holds s x).0 ((none_iff (chain_tasks s) (rows s Chains)).0 (h 0 (omega arith)) x l)

  pub path_of : Passed (chain_questions s) 2 → (x : ℕ) → x < rows s Chains → R.ChainPath s x
  unfolding chain_questions question_at each
  path_of h x l = (Mean.chain_path_holds s x).0 ((none_iff (chain_path s) (rows s Chains)).0 (h 1 (omega arith)) x l)

  pub passed_one : Passed (chain_questions s) 2 → Passed (chain_questions s) 1
  passed_one h j l = h j (omega arith)

  pub last_job : BeforeChains s → Passed (chain_questions s) 2 → (x k : ℕ) → x < rows s Chains → k < jobs s (chain s x).first → k < jobs s (chain s x).last
  last_job a h x k l j = subst (λ (u : ℕ). k < u) (leads_jobs s (asked_facts s a) (path_of h x l)) j
