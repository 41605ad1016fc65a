use Prim.Native.Nat.{◌<◌}
use mathlib.Core.Path.{sym, ap, subst, ◌∙◌}
use Rattle.plan.specs.declared.Table.{Table}
use Rattle.plan.specs.Image.{rows}
use Rattle.plan.specs.Questions.{in_range}
use Rattle.ranges.proofs.row_range.Goals as goal

-- src/lib.rt:87:25
pub core_range-requires : goal.core_range-requires
core_range-requires c = let p = c.requires in let a = c.args in (p.0, subst (λ (t : Table). a.row < rows a.image.now t) c.in-Cores.is p.1)

-- src/lib.rt:89:25
pub task_range-requires : goal.task_range-requires
task_range-requires c = let p = c.requires in let a = c.args in (p.0, subst (λ (t : Table). a.row < rows a.image.now t) c.in-Tasks.is p.1)

-- src/lib.rt:92:25
pub link_range-requires : goal.link_range-requires
link_range-requires c = let p = c.requires in let a = c.args in (p.0, subst (λ (t : Table). a.row < rows a.image.now t) c.in-Links.is p.1)

-- src/lib.rt:93:27
pub stream_range-requires : goal.stream_range-requires
stream_range-requires c = let p = c.requires in let a = c.args in (p.0, subst (λ (t : Table). a.row < rows a.image.now t) c.in-Streams.is p.1)

-- src/lib.rt:95:27
pub buffer_range-requires : goal.buffer_range-requires
buffer_range-requires c = let p = c.requires in let a = c.args in (p.0, subst (λ (t : Table). a.row < rows a.image.now t) c.in-Buffers.is p.1)

-- src/lib.rt:82:1
pub returns-in-Cores : goal.returns-in-Cores
unfolding in_range
returns-in-Cores c = let a = c.args in c.core_range.ensures ∙ sym (ap (λ (t : Table). in_range a.image.now t a.row) c.in-Cores.is)

-- src/lib.rt:82:1
pub returns-in-Vcpus : goal.returns-in-Vcpus
unfolding in_range
returns-in-Vcpus c = let a = c.args in sym (ap (λ (t : Table). in_range a.image.now t a.row) c.in-Vcpus.is)

-- src/lib.rt:82:1
pub returns-in-Tasks : goal.returns-in-Tasks
unfolding in_range
returns-in-Tasks c = let a = c.args in c.task_range.ensures ∙ sym (ap (λ (t : Table). in_range a.image.now t a.row) c.in-Tasks.is)

-- src/lib.rt:82:1
pub returns-in-Windows : goal.returns-in-Windows
unfolding in_range
returns-in-Windows c = let a = c.args in sym (ap (λ (t : Table). in_range a.image.now t a.row) c.in-Windows.is)

-- src/lib.rt:82:1
pub returns-in-Pieces : goal.returns-in-Pieces
unfolding in_range
returns-in-Pieces c = let a = c.args in sym (ap (λ (t : Table). in_range a.image.now t a.row) c.in-Pieces.is)

-- src/lib.rt:82:1
pub returns-in-Links : goal.returns-in-Links
unfolding in_range
returns-in-Links c = let a = c.args in c.link_range.ensures ∙ sym (ap (λ (t : Table). in_range a.image.now t a.row) c.in-Links.is)

-- src/lib.rt:82:1
pub returns-in-Streams : goal.returns-in-Streams
unfolding in_range
returns-in-Streams c = let a = c.args in c.stream_range.ensures ∙ sym (ap (λ (t : Table). in_range a.image.now t a.row) c.in-Streams.is)

-- src/lib.rt:82:1
pub returns-in-Frames : goal.returns-in-Frames
unfolding in_range
returns-in-Frames c = let a = c.args in sym (ap (λ (t : Table). in_range a.image.now t a.row) c.in-Frames.is)

-- src/lib.rt:82:1
pub returns-in-Buffers : goal.returns-in-Buffers
unfolding in_range
returns-in-Buffers c = let a = c.args in c.buffer_range.ensures ∙ sym (ap (λ (t : Table). in_range a.image.now t a.row) c.in-Buffers.is)

-- src/lib.rt:82:1
pub returns-in-Chains : goal.returns-in-Chains
unfolding in_range
returns-in-Chains c = let a = c.args in sym (ap (λ (t : Table). in_range a.image.now t a.row) c.in-Chains.is)
