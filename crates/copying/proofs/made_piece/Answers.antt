use Prim.Native.Nat.{ℕ, ◌<◌, ◌≤◌}
use mathlib.Core.Path.{refl, subst}
use borrow.Author.Tests.{lt-ltb, le-ltb}
use Rattle.drafts.specs.Edits.{made_piece, no_piece}
use Rattle.copying.proofs.made_piece.Goals as goal

pub returns-then-place-rows_of : goal.returns-then-place-rows_of
unfolding made_piece
returns-then-place-rows_of c = let r = c.rows_of in rw (lt-ltb _ _ (subst (λ (n : ℕ). c.args.place < n) r.ensures c.if-place-rows_of.true)) c.piece_at.ensures

pub returns : goal.returns
unfolding made_piece no_piece
returns c = let r = c.rows_of in rw (le-ltb _ _ (subst (λ (n : ℕ). n ≤ c.args.place) r.ensures c.if-place-rows_of.false)) refl
