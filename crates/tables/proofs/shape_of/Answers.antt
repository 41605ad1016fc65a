use mathlib.Core.Path.{sym, ap}
use Rattle.plan.specs.Image.{shape}
use Rattle.tables.proofs.shape_of.Goals as goal

-- src/lib.rt:162:1
pub returns-in-Cores : goal.returns-in-Cores
unfolding shape
returns-in-Cores c = sym (ap shape c.in-Cores.is)

-- src/lib.rt:162:1
pub returns-in-Vcpus : goal.returns-in-Vcpus
unfolding shape
returns-in-Vcpus c = sym (ap shape c.in-Vcpus.is)

-- src/lib.rt:162:1
pub returns-in-Tasks : goal.returns-in-Tasks
unfolding shape
returns-in-Tasks c = sym (ap shape c.in-Tasks.is)

-- src/lib.rt:162:1
pub returns-in-Windows : goal.returns-in-Windows
unfolding shape
returns-in-Windows c = sym (ap shape c.in-Windows.is)

-- src/lib.rt:162:1
pub returns-in-Pieces : goal.returns-in-Pieces
unfolding shape
returns-in-Pieces c = sym (ap shape c.in-Pieces.is)

-- src/lib.rt:162:1
pub returns-in-Links : goal.returns-in-Links
unfolding shape
returns-in-Links c = sym (ap shape c.in-Links.is)

-- src/lib.rt:162:1
pub returns-in-Streams : goal.returns-in-Streams
unfolding shape
returns-in-Streams c = sym (ap shape c.in-Streams.is)

-- src/lib.rt:162:1
pub returns-in-Frames : goal.returns-in-Frames
unfolding shape
returns-in-Frames c = sym (ap shape c.in-Frames.is)

-- src/lib.rt:162:1
pub returns-in-Buffers : goal.returns-in-Buffers
unfolding shape
returns-in-Buffers c = sym (ap shape c.in-Buffers.is)

-- src/lib.rt:162:1
pub returns-in-Chains : goal.returns-in-Chains
unfolding shape
returns-in-Chains c = sym (ap shape c.in-Chains.is)
