use mathlib.Core.Path.{◌∙◌}
use native.Mathlib.Omega.{arith}
use lib.ListN.{get_or}
use Rattle.frames.proofs.Placing.{place_fits}
use Rattle.frames.proofs.Gathering.{word_most, word_place}
use Rattle.frames.proofs.place_of.Goals as goal

-- src/lib.rt:62:18
pub overflow_mul-offset : goal.overflow_mul-offset
overflow_mul-offset c = let a = c.args in let p = c.requires in let s = a.image.now in let w = word_most s a.index.now _ a.stream p.kept p.sound.1 in let f = place_fits s p.sound.0 a.stream p.sound.1 _ c.stream_at-hops.ensures (get_or a.index.now a.stream 0) a.job a.hop w (omega arith) (omega arith) in omega arith

-- src/lib.rt:62:18
pub overflow_add-offset : goal.overflow_add-offset
overflow_add-offset c = let a = c.args in let p = c.requires in let s = a.image.now in let w = word_most s a.index.now _ a.stream p.kept p.sound.1 in let f = place_fits s p.sound.0 a.stream p.sound.1 _ c.stream_at-hops.ensures (get_or a.index.now a.stream 0) a.job a.hop w (omega arith) (omega arith) in omega arith

-- src/lib.rt:63:12
pub overflow_add-index : goal.overflow_add-index
overflow_add-index c = let a = c.args in let p = c.requires in let s = a.image.now in let w = word_most s a.index.now _ a.stream p.kept p.sound.1 in let f = place_fits s p.sound.0 a.stream p.sound.1 _ c.stream_at-hops.ensures (get_or a.index.now a.stream 0) a.job a.hop w (omega arith) (omega arith) in omega arith

-- src/lib.rt:56:1
pub returns : goal.returns
returns c = let a = c.args in let p = c.requires in let s = a.image.now in c.capped.ensures ∙ (rw c.stream_at-hops.ensures (word_place s a.index.now _ a.stream a.job a.hop p.kept p.sound.1))
