-- A link's gate list found, for so many lent words: the count, and the list in words of our own; or a refusal.
use Rattle.std.specs.Prelude.{ℕ, ◌≤◌, ◌≡◌, ◌≢◌, List, Result, Ok, Err, length}
use Rattle.std.proofs.lemmas.List.Edits.{sets}
use Rattle.plan.specs.declared.Answer.{Answer}
use Rattle.plan.specs.Questions.{accepted}
use Rattle.gates.specs.Gates.{gates, gate_words, gate_answer}
use Rattle.opening.specs.Listings.{list_words}

pub record Found (s : List ℕ) (l lent : ℕ) (before : List ℕ) (n : ℕ) (after : List ℕ) : Type 0 where
  pub answer : (words : List ℕ) → length words ≡ lent → accepted ≡ gate_answer s l words
  pub count : n ≡ length (gates s l)
  pub list : after ≡ sets before 0 (gate_words s l)
  pub fits : length (gate_words s l) ≤ lent
  pub most : length (gate_words s l) ≤ list_words

pub record Refused (s : List ℕ) (l lent : ℕ) (x : Answer) : Type 0 where
  pub answer : (words : List ℕ) → length words ≡ lent → x ≡ gate_answer s l words
  pub some : x.number ≢ 0

abbrev pub Listed : List ℕ → ℕ → ℕ → List ℕ → Result ℕ Answer → List ℕ → Type 0
Listed s l lent before r after = elim r [ Ok n ↦ Found s l lent before n after | Err x ↦ Refused s l lent x ]
