use Prim.Native.Nat.{◌≤◌, ◌<◌}
use mathlib.Core.Path.{refl}
use native.Mathlib.Omega.{arith}
use borrow.Author.Tests.{lt-ltb, le-ltb}
use Rattle.plan.specs.declared.Table.TheVariants.{Streams}
use Rattle.plan.specs.Image.{rows}
use Rattle.paths.specs.Walks.{messages, reader_of}
use Rattle.paths.proofs.reader_of.Goals as goal

-- src/lib.rt:44:9
pub buffer_at-requires-clause-row_bound : goal.buffer_at-requires-clause-row_bound
unfolding messages
buffer_at-requires-clause-row_bound c = let e = c.rows_of-streams.ensures in omega (arith, c.requires.1, c.if-message-streams.false)

-- src/lib.rt:36:1
pub returns-then-message-streams : goal.returns-then-message-streams
unfolding reader_of
returns-then-message-streams c = let a = c.args in let s = a.image.now in let h : a.message < rows s Streams = rw (← c.rows_of-streams.ensures) c.if-message-streams.true in rw (c.stream_at.ensures, lt-ltb a.message (rows s Streams) h) refl

-- src/lib.rt:36:1
pub returns-else-message-streams : goal.returns-else-message-streams
unfolding reader_of
returns-else-message-streams c = let a = c.args in let s = a.image.now in let h : rows s Streams ≤ a.message = omega (arith, c.rows_of-streams.ensures, c.if-message-streams.false) in rw (c.buffer_at.ensures, le-ltb a.message (rows s Streams) h, c.rows_of-streams.ensures) refl
