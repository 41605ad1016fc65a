-- Words written into lent words, and what table building leaves there.
use Rattle.std.specs.Prelude.{ℕ, ◌+◌, ◌≡◌, List, ◌++◌, length, take, drop}
use Rattle.plan.specs.declared.Answer.{Answer}
use Rattle.plan.specs.Dispatch.{build_answer, built}

-- xs from word i on, the other words as they were
unfoldable pub put_at : List ℕ → ℕ → List ℕ → List ℕ
put_at words i xs = take i words ++ xs ++ drop (i + length xs) words

-- the answer of table building, and the words afterwards
pub record Filled (s : List ℕ) (lane : ℕ) (words : List ℕ) (r : Answer) (after : List ℕ) : Type 0 where
  pub answer : r ≡ build_answer s lane words
  pub left : after ≡ built s lane words
