-- What this crate's own functions give, in the words of the definitions.
use Rattle.std.specs.Prelude.{ℕ, Bool, not, ◌&&◌, cond, List, leb, ltb}
use Rattle.plan.specs.Image.{buffer}
use Rattle.plan.specs.Search.{all, overlap}
use Rattle.plan.specs.Questions.{jobs, first_start, last_end, hold}
use Rattle.buffers.specs.declared.Hold.{Hold}
use Rattle.buffers.specs.declared.Side.{Side}
use Rattle.buffers.specs.declared.Side.TheVariants.{Overlap, FirstOver, SecondOver}

-- 23, of one job
unfoldable pub waits : List ℕ → ℕ → ℕ → Bool
waits s b k = leb (last_end s (buffer s b).writer k) (first_start s (buffer s b).reader k)

-- 24: a hold, as code has it
unfoldable pub hold_of : List ℕ → ℕ → ℕ → Hold
hold_of s b k = record { from = (hold s b k).from; to = (hold s b k).to }

-- 24: whether two holds overlap; else which one is over when the other begins
unfoldable pub side_of : Hold → Hold → Side
side_of a b = cond (ltb a.from b.to && ltb b.from a.to) Overlap (cond (leb a.to b.from) FirstOver SecondOver)

-- 24: no hold of row q overlaps one of row r
unfoldable pub holds_apart : List ℕ → ℕ → ℕ → Bool
holds_apart s q r =
    all (jobs s (buffer s q).writer) (λ j. all (jobs s (buffer s r).writer) (λ k. not (overlap (hold s q j) (hold s r k))))
