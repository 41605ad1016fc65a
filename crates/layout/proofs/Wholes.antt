-- What question 1 shows for those after it.
use Rattle.std.proofs.Common.{◌≡◌, ◌≤◌, ℕ, List, length, true}
use lib.Dec.{leb}
use borrow.Author.Tests.{leb-true}
use Rattle.plan.specs.Image.{tables, trailer_bytes, most_bytes}
use Rattle.plan.proofs.Searching.{and_true}
use Rattle.layout.specs.Tests.{length_fits}

pub long_enough : (s : List ℕ) → length_fits s ≡ true → trailer_bytes ≤ length s
unfolding length_fits
long_enough s h = leb-true _ _ (and_true (leb trailer_bytes (length s)) (leb (length s) (most_bytes tables)) h).0
