use mathlib.Core.Path.{refl}
use native.Mathlib.Omega.{arith}
use borrow.Author.Tests.{le-ltb, lt-ltb}
use Rattle.drafts.specs.Drafts.{places}
use Rattle.edits.proofs.is_open.Goals as goal

pub returns-then-place-ge-PLACES : goal.returns-then-place-ge-PLACES
unfolding places
returns-then-place-ge-PLACES c = rw (le-ltb c.args.place 2048 c.if-place-ge-PLACES.true) refl

pub is_free-requires : goal.is_free-requires
unfolding places
is_free-requires c = (c.requires, omega arith)

pub returns : goal.returns
unfolding places
returns c = rw (lt-ltb c.args.place 2048 c.if-place-ge-PLACES.false) c.is_free.ensures
