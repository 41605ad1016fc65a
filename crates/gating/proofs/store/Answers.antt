use Prim.Native.Nat.{◌/◌}
use mathlib.Core.Path.{refl, ◌∙◌}
use native.Mathlib.Omega.{arith}
use lib.ListN.{length}
use Rattle.gating.proofs.Answers.{bytes_answer, bytes_kept, bytes_room, bytes_done, many_is, take_is}
use Rattle.gating.proofs.store.Goals as goal

pub returns-in-Err : goal.returns-in-Err
returns-in-Err c = let a = c.args in bytes_kept a.image.now a.link (length a.bytes.now / 4) c.in-Err.no c.in-Err.ensures a.bytes.now refl

pub overflow_cast-count : goal.overflow_cast-count
overflow_cast-count c = let a = c.args in let s = a.image.now in let h = c.in-Ok.ensures in let m = many_is s a.link (length a.bytes.now / 4) _ c.in-Ok.count c.list_gates.new.list h in omega (arith, h.most)

pub overflow_mul-count : goal.overflow_mul-count
overflow_mul-count c = let a = c.args in let s = a.image.now in let h = c.in-Ok.ensures in let m = many_is s a.link (length a.bytes.now / 4) _ c.in-Ok.count c.list_gates.new.list h in omega (arith, h.most)

pub overflow_add-count : goal.overflow_add-count
overflow_add-count c = let a = c.args in let s = a.image.now in let h = c.in-Ok.ensures in let m = many_is s a.link (length a.bytes.now / 4) _ c.in-Ok.count c.list_gates.new.list h in omega (arith, h.most)

pub copy_bytes-requires : goal.copy_bytes-requires
copy_bytes-requires c = let a = c.args in let s = a.image.now in let h = c.in-Ok.ensures in let m = many_is s a.link (length a.bytes.now / 4) _ c.in-Ok.count c.list_gates.new.list h in (omega (arith, h.most, c.list_gates.auto.list), omega (arith, bytes_room s a.link (length a.bytes.now / 4) _ c.in-Ok.count c.list_gates.new.list h a.bytes.now refl))

pub returns-in-Ok : goal.returns-in-Ok
returns-in-Ok c = let a = c.args in let s = a.image.now in let h = c.in-Ok.ensures in (c.accepted.ensures ∙ bytes_answer s a.link (length a.bytes.now / 4) _ c.in-Ok.count c.list_gates.new.list h a.bytes.now refl, rw (c.copy_bytes.ensures, take_is s a.link (length a.bytes.now / 4) _ c.in-Ok.count c.list_gates.new.list h refl) (bytes_done s a.link (length a.bytes.now / 4) _ c.in-Ok.count c.list_gates.new.list h a.bytes.now refl))
