use Prim.Native.Nat.{◌<◌}
use mathlib.Core.Path.{refl, sym, ap, subst, ◌∙◌}
use Rattle.plan.specs.declared.Table.{Table}
use Rattle.plan.specs.Image.{rows}
use Rattle.plan.specs.Questions.{names}
use Rattle.names.proofs.row_names.Goals as goal

-- src/lib.rt:54:25
pub vcpu_at-requires : goal.vcpu_at-requires
vcpu_at-requires c = let p = c.requires in let a = c.args in record { in_image = p.0; row_bound = subst (λ (t : Table). a.row < rows a.image.now t) c.in-Vcpus.is p.1 }

-- src/lib.rt:54:52
pub rows_of-requires : goal.rows_of-requires
rows_of-requires c = c.requires.0.trailer

-- src/lib.rt:55:25
pub task_at-requires : goal.task_at-requires
task_at-requires c = let p = c.requires in let a = c.args in record { in_image = p.0; row_bound = subst (λ (t : Table). a.row < rows a.image.now t) c.in-Tasks.is p.1 }

-- src/lib.rt:55:52
pub rows_of-requires-in-Tasks : goal.rows_of-requires-in-Tasks
rows_of-requires-in-Tasks c = c.requires.0.trailer

-- src/lib.rt:56:27
pub window_at-requires : goal.window_at-requires
window_at-requires c = let p = c.requires in let a = c.args in record { in_image = p.0; row_bound = subst (λ (t : Table). a.row < rows a.image.now t) c.in-Windows.is p.1 }

-- src/lib.rt:56:56
pub rows_of-requires-in-Windows : goal.rows_of-requires-in-Windows
rows_of-requires-in-Windows c = c.requires.0.trailer

-- src/lib.rt:57:26
pub piece_at-requires : goal.piece_at-requires
piece_at-requires c = let p = c.requires in let a = c.args in record { in_image = p.0; row_bound = subst (λ (t : Table). a.row < rows a.image.now t) c.in-Pieces.is p.1 }

-- src/lib.rt:57:54
pub rows_of-requires-in-Pieces : goal.rows_of-requires-in-Pieces
rows_of-requires-in-Pieces c = c.requires.0.trailer

-- src/lib.rt:59:27
pub stream_names-requires : goal.stream_names-requires
stream_names-requires c = let p = c.requires in let a = c.args in (p.0, subst (λ (t : Table). a.row < rows a.image.now t) c.in-Streams.is p.1)

-- src/lib.rt:60:26
pub frame_names-requires : goal.frame_names-requires
frame_names-requires c = let p = c.requires in let a = c.args in (p.0, subst (λ (t : Table). a.row < rows a.image.now t) c.in-Frames.is p.1)

-- src/lib.rt:61:27
pub buffer_names-requires : goal.buffer_names-requires
buffer_names-requires c = let p = c.requires in let a = c.args in (p.0, subst (λ (t : Table). a.row < rows a.image.now t) c.in-Buffers.is p.1)

-- src/lib.rt:48:1
pub returns-in-Cores : goal.returns-in-Cores
unfolding names
returns-in-Cores c = let a = c.args in sym (ap (λ (t : Table). names a.image.now t a.row) c.in-Cores.is)

-- src/lib.rt:48:1
pub returns-in-Vcpus : goal.returns-in-Vcpus
unfolding names
returns-in-Vcpus c = rw (c.in-Vcpus.is, c.vcpu_at.ensures, c.rows_of.ensures) refl

-- src/lib.rt:48:1
pub returns-in-Tasks : goal.returns-in-Tasks
unfolding names
returns-in-Tasks c = rw (c.in-Tasks.is, c.task_at.ensures, c.rows_of-in-Tasks.ensures) refl

-- src/lib.rt:48:1
pub returns-in-Windows : goal.returns-in-Windows
unfolding names
returns-in-Windows c = rw (c.in-Windows.is, c.window_at.ensures, c.rows_of-in-Windows.ensures) refl

-- src/lib.rt:48:1
pub returns-in-Pieces : goal.returns-in-Pieces
unfolding names
returns-in-Pieces c = rw (c.in-Pieces.is, c.piece_at.ensures, c.rows_of-in-Pieces.ensures) refl

-- src/lib.rt:48:1
pub returns-in-Links : goal.returns-in-Links
unfolding names
returns-in-Links c = let a = c.args in sym (ap (λ (t : Table). names a.image.now t a.row) c.in-Links.is)

-- src/lib.rt:48:1
pub returns-in-Streams : goal.returns-in-Streams
unfolding names
returns-in-Streams c = let a = c.args in c.stream_names.ensures ∙ sym (ap (λ (t : Table). names a.image.now t a.row) c.in-Streams.is)

-- src/lib.rt:48:1
pub returns-in-Frames : goal.returns-in-Frames
unfolding names
returns-in-Frames c = let a = c.args in c.frame_names.ensures ∙ sym (ap (λ (t : Table). names a.image.now t a.row) c.in-Frames.is)

-- src/lib.rt:48:1
pub returns-in-Buffers : goal.returns-in-Buffers
unfolding names
returns-in-Buffers c = let a = c.args in c.buffer_names.ensures ∙ sym (ap (λ (t : Table). names a.image.now t a.row) c.in-Buffers.is)

-- src/lib.rt:48:1
pub returns-in-Chains : goal.returns-in-Chains
unfolding names
returns-in-Chains c = let a = c.args in sym (ap (λ (t : Table). names a.image.now t a.row) c.in-Chains.is)
