use Prim.Native.Nat.{◌<◌}
use mathlib.Core.Path.{refl, subst}
use native.Mathlib.Omega.{arith}
use Rattle.plan.specs.declared.Table.{Table}
use Rattle.plan.specs.declared.Table.TheVariants.{Cores, Vcpus, Tasks, Windows, Pieces, Links, Streams, Frames, Buffers, Chains}
use Rattle.plan.specs.Image.{rows}
use Rattle.plan.specs.Search.{rises}
use Rattle.plan.specs.Questions.{order_words, in_order}
use Rattle.order.proofs.Order.{order_asked}
use Rattle.order.proofs.row_rises.Goals as goal

-- src/lib.rt:71:9
pub returns-then-row-eq0 : goal.returns-then-row-eq0
unfolding in_order
returns-then-row-eq0 c = rw c.if-row-eq0.true refl

-- src/lib.rt:77:27
pub window_rises-requires : goal.window_rises-requires
window_rises-requires c = let p = c.requires in let a = c.args in let n = c.if-row-eq0.false in (p.0, (omega arith, subst (λ (t : Table). a.row < rows a.image.now t) c.in-Windows.is p.1))

-- src/lib.rt:78:26
pub piece_rises-requires : goal.piece_rises-requires
piece_rises-requires c = let p = c.requires in let a = c.args in let n = c.if-row-eq0.false in (p.0, (omega arith, subst (λ (t : Table). a.row < rows a.image.now t) c.in-Pieces.is p.1))

-- src/lib.rt:81:26
pub frame_rises-requires : goal.frame_rises-requires
frame_rises-requires c = let p = c.requires in let a = c.args in let n = c.if-row-eq0.false in (p.0, (omega arith, subst (λ (t : Table). a.row < rows a.image.now t) c.in-Frames.is p.1))

-- src/lib.rt:66:1
pub returns-in-Cores : goal.returns-in-Cores
unfolding order_words rises
returns-in-Cores c = let a = c.args in rw (c.in-Cores.is, order_asked a.image.now a.row c.if-row-eq0.false Cores) refl

-- src/lib.rt:66:1
pub returns-in-Vcpus : goal.returns-in-Vcpus
unfolding order_words rises
returns-in-Vcpus c = let a = c.args in rw (c.in-Vcpus.is, order_asked a.image.now a.row c.if-row-eq0.false Vcpus) refl

-- src/lib.rt:66:1
pub returns-in-Tasks : goal.returns-in-Tasks
unfolding order_words rises
returns-in-Tasks c = let a = c.args in rw (c.in-Tasks.is, order_asked a.image.now a.row c.if-row-eq0.false Tasks) refl

-- src/lib.rt:66:1
pub returns-in-Windows : goal.returns-in-Windows
returns-in-Windows c = let a = c.args in rw (c.in-Windows.is, order_asked a.image.now a.row c.if-row-eq0.false Windows) c.window_rises.ensures

-- src/lib.rt:66:1
pub returns-in-Pieces : goal.returns-in-Pieces
returns-in-Pieces c = let a = c.args in rw (c.in-Pieces.is, order_asked a.image.now a.row c.if-row-eq0.false Pieces) c.piece_rises.ensures

-- src/lib.rt:66:1
pub returns-in-Links : goal.returns-in-Links
unfolding order_words rises
returns-in-Links c = let a = c.args in rw (c.in-Links.is, order_asked a.image.now a.row c.if-row-eq0.false Links) refl

-- src/lib.rt:66:1
pub returns-in-Streams : goal.returns-in-Streams
unfolding order_words rises
returns-in-Streams c = let a = c.args in rw (c.in-Streams.is, order_asked a.image.now a.row c.if-row-eq0.false Streams) refl

-- src/lib.rt:66:1
pub returns-in-Frames : goal.returns-in-Frames
returns-in-Frames c = let a = c.args in rw (c.in-Frames.is, order_asked a.image.now a.row c.if-row-eq0.false Frames) c.frame_rises.ensures

-- src/lib.rt:66:1
pub returns-in-Buffers : goal.returns-in-Buffers
unfolding order_words rises
returns-in-Buffers c = let a = c.args in rw (c.in-Buffers.is, order_asked a.image.now a.row c.if-row-eq0.false Buffers) refl

-- src/lib.rt:66:1
pub returns-in-Chains : goal.returns-in-Chains
unfolding order_words rises
returns-in-Chains c = let a = c.args in rw (c.in-Chains.is, order_asked a.image.now a.row c.if-row-eq0.false Chains) refl
