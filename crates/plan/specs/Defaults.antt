-- What an E or a chain limit of 0 comes to (paper 02, request 8): what a planner can count on. Proved in proofs/Defaults.antt.
use Rattle.std.specs.Prelude.{ℕ, ◌+◌, ◌-◌, ◌≤◌, ◌<◌, ◌≡◌, ◌↔◌, List}
use Rattle.plan.specs.declared.Table.TheVariants.{Pieces, Streams, Chains}
use Rattle.plan.specs.Image.{rows, precision, task, stream, chain}
use Rattle.plan.specs.Questions.{accepted, answer_of, jobs, release, due, limit, chain_limit, first_start, last_end}
use Rattle.plan.specs.Reading.{PieceFits, InTime, ChainInTime}

-- the ticks between the release of job k of task a and its start, and those between the end of job k of task b and its due tick, together
abbrev pub slack : List ℕ → ℕ → ℕ → ℕ → ℕ
slack s a b k = (first_start s a k - release s a k) + (due s b k - last_end s b k)

pub record Default (s : List ℕ) : Type 0 where
  -- In every row 0 is the deadline of the task that ends, and any other word stands for itself.
  pub stream_0 : (m : ℕ) → (stream s m).latency ≡ 0 → limit s m ≡ (task s (stream s m).receiver).deadline
  pub stream_other : (m : ℕ) → 1 ≤ (stream s m).latency → limit s m ≡ (stream s m).latency
  pub chain_0 : (x : ℕ) → (chain s x).limit ≡ 0 → chain_limit s x ≡ (task s (chain s x).last).deadline
  pub chain_other : (x : ℕ) → 1 ≤ (chain s x).limit → chain_limit s x ≡ (chain s x).limit
  -- In an accepted plan it is no more than the period, which it stood for before. Since no other question changed, no plan is accepted that was refused then:
  -- that follows from these two, and is not stated itself, as the former meaning is not defined here.
  pub stream_stricter : answer_of s ≡ accepted → (m : ℕ) → m < rows s Streams → (stream s m).latency ≡ 0 → limit s m ≤ (task s (stream s m).sender).period
  pub chain_stricter : answer_of s ≡ accepted → (x : ℕ) → x < rows s Chains → (chain s x).limit ≡ 0 → chain_limit s x ≤ (task s (chain s x).first).period
  -- Where 10 says yes of all pieces, and sender and receiver, or first and last task, have one period, 21 and 31 say yes of a 0 exactly where P is at most
  -- the slack of each job; so always where all clocks agree.
  pub stream_in_time : ((i : ℕ) → i < rows s Pieces → PieceFits s i) → (m k : ℕ) → let a = (stream s m).sender in let b = (stream s m).receiver in
      (task s a).period ≡ (task s b).period → k < jobs s a → (stream s m).latency ≡ 0 → InTime s m k ↔ precision s ≤ slack s a b k
  pub chain_in_time_holds : ((i : ℕ) → i < rows s Pieces → PieceFits s i) → (x : ℕ) → let a = (chain s x).first in let b = (chain s x).last in
      (task s a).period ≡ (task s b).period → (chain s x).limit ≡ 0 → ChainInTime s x ↔ ((k : ℕ) → k < jobs s a → precision s ≤ slack s a b k)

abbrev pub AllDefaults : Type 0
AllDefaults = (s : List ℕ) → Default s
