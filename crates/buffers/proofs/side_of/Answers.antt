use borrow.Author.Tests.{le-leb, lt-leb}
use mathlib.Core.Bool.{true, ◌&&◌}
use mathlib.Core.Path.{◌≡◌, refl}
use lib.Dec.{ltb}
use Rattle.buffers.specs.Holds.{side_of}
use Rattle.buffers.proofs.side_of.Goals as goal

pub returns-then-a-b : goal.returns-then-a-b
unfolding side_of
returns-then-a-b c = let x = c.args in let e : ltb x.a.from x.b.to && ltb x.b.from x.a.to ≡ true = c.if-a-b.true in rw e refl

pub returns-then-a-b-2 : goal.returns-then-a-b-2
unfolding side_of
returns-then-a-b-2 c = rw (c.if-a-b.false, le-leb _ _ c.if-a-b-2.true) refl

pub returns-else-a-b-2 : goal.returns-else-a-b-2
unfolding side_of
returns-else-a-b-2 c = rw (c.if-a-b.false, lt-leb _ _ c.if-a-b-2.false) refl
