-- Text put into lent bytes, as the functions that print hand it on.
use Rattle.std.specs.Prelude.{ℕ, ◌+◌, ◌≤◌, ◌≡◌, List, length}
use Rattle.std.proofs.lemmas.List.Edits.{sets}

-- a text put from byte `at` on, as far as the bytes reach: the place after it, at most so many bytes further, and the bytes afterwards
pub record Put (b : List ℕ) (at : ℕ) (text : List ℕ) (most place : ℕ) (after : List ℕ) : Type 0 where
  pub reached : place ≡ at + length text
  pub few : place ≤ at + most
  pub holds : after ≡ sets b at text
