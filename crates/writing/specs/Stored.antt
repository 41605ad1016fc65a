-- Words stored into lent bytes, and what table building leaves there.
use Rattle.std.specs.Prelude.{ℕ, ◌≡◌}
use mathlib.Core.List.{List, flat_map}
use Rattle.std.proofs.lemmas.List.Edits.{sets}
use Rattle.plan.specs.declared.Answer.{Answer}
use Rattle.plan.specs.Dispatch.{build_answer, built}
use Rattle.plan.specs.Boundary.{words_of, bytes_of, build_bytes}

-- words from byte i on, four bytes each, the other bytes as they were
unfoldable pub stored : List ℕ → ℕ → List ℕ → List ℕ
stored b i ws = sets b i (flat_map (bytes_of 4) ws)

-- the answer of table building, and the bytes afterwards
pub record Built (image : List ℕ) (lane : ℕ) (b : List ℕ) (r : Answer) (after : List ℕ) : Type 0 where
  pub answer : r ≡ build_answer image lane (words_of b)
  pub left : after ≡ build_bytes image lane b

-- read as words, the bytes afterwards are the words that table building over words leaves; proved in proofs/Reading.antt
abbrev pub BuiltBytes : Type 0
BuiltBytes = (image : List ℕ) (lane : ℕ) (b : List ℕ) → words_of (build_bytes image lane b) ≡ built image lane (words_of b)
