-- What an E or a chain limit of 0 comes to.
use Prim.Native.Nat.{ℕ, ◌+◌, ◌*◌, ◌≤◌, ◌<◌}
use mathlib.Core.Path.{◌≡◌, refl, ap}
use mathlib.Core.Logic.{◌↔◌}
use mathlib.Core.List.{List}
use native.Mathlib.Omega.{arith}
use borrow.Author.Tests.{ne_eqb}
use Rattle.plan.specs.declared.Table.TheVariants.{Tasks, Pieces, Streams}
use Rattle.plan.specs.Image.{rows, precision, task, stream, chain}
use Rattle.plan.specs.Questions.{accepted, answer_of, jobs, release, due, or_deadline, limit, chain_limit, first_start, last_end}
use Rattle.plan.specs.Reading.{PieceFits}
use Rattle.plan.specs.Defaults.{slack, AllDefaults}
use Rattle.plan.proofs.Facts.{facts, chain_facts}
use Rattle.plan.proofs.Spans.{first_released, last_due}
use Rattle.plan.proofs.Messages.{leads_period}

module _ (s : List ℕ) where
  of_0 : (word t : ℕ) → word ≡ 0 → or_deadline s word t ≡ (task s t).deadline
  unfolding or_deadline
  of_0 word t z = rw z refl

  of_other : (word t : ℕ) → 1 ≤ word → or_deadline s word t ≡ word
  unfolding or_deadline
  of_other word t h = rw (ne_eqb word 0 (λ e. absurd (omega (arith, e, h)))) refl

  -- in an accepted plan a task's deadline is at most its period
  deadline_le : answer_of s ≡ accepted → (word t : ℕ) → t < rows s Tasks → word ≡ 0 → or_deadline s word t ≤ (task s t).period
  deadline_le e word t h z = omega (arith, of_0 word t z, ((facts s e).ranges Tasks t h).4)

  by_slack : ((i : ℕ) → i < rows s Pieces → PieceFits s i) → (a b k word : ℕ) → (task s a).period ≡ (task s b).period → k < jobs s a → word ≡ 0
      → last_end s b k + precision s ≤ or_deadline s word b + first_start s a k ↔ precision s ≤ slack s a b k
  unfolding release due
  by_slack fits a b k word e h z =
      let d = of_0 word b z in let l = first_released s fits a k h in let u = last_due s fits b k in let q = ap (λ (T : ℕ). k * T) e in
      (λ g. omega (arith, d, l, u, q, g), λ g. omega (arith, d, l, u, q, g))

pub all_defaults : AllDefaults
unfolding limit chain_limit
all_defaults s =
    record {
      stream_0 = λ m z. of_0 s (stream s m).latency (stream s m).receiver z;
      stream_other = λ m h. of_other s (stream s m).latency (stream s m).receiver h;
      chain_0 = λ x z. of_0 s (chain s x).limit (chain s x).last z;
      chain_other = λ x h. of_other s (chain s x).limit (chain s x).last h;
      stream_stricter = λ e m h z.
          let f = facts s e in rw (f.stream_ends m h).0 (deadline_le s e (stream s m).latency (stream s m).receiver (f.names Streams m h).1 z);
      chain_stricter = λ e x h z.
          let g = chain_facts s e in
          rw (leads_period s (facts s e) (g.chain_path x h)) (deadline_le s e (chain s x).limit (chain s x).last (g.chain_tasks x h).1 z);
      stream_in_time = λ fits m k e h z. by_slack s fits (stream s m).sender (stream s m).receiver k (stream s m).latency e h z;
      chain_in_time_holds = λ fits x e z.
          let a = (chain s x).first in let b = (chain s x).last in let word = (chain s x).limit in
          (λ g k h. (by_slack s fits a b k word e h z).0 (g k h), λ g k h. (by_slack s fits a b k word e h z).1 (g k h));
    }
