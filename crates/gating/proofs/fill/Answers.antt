use mathlib.Core.Path.{refl, ◌∙◌}
use native.Mathlib.Omega.{arith}
use lib.ListN.{length}
use Rattle.gating.proofs.Answers.{words_kept, words_done, many_is, take_is}
use Rattle.gating.proofs.fill.Goals as goal

pub returns-in-Err : goal.returns-in-Err
returns-in-Err c = let a = c.args in let h = c.in-Err.ensures in (h.answer a.words.now refl, words_kept a.image.now a.link (length a.words.now) c.in-Err.no h a.words.now refl)

pub overflow_cast-count : goal.overflow_cast-count
overflow_cast-count c = let a = c.args in let s = a.image.now in let h = c.in-Ok.ensures in let m = many_is s a.link (length a.words.now) _ c.in-Ok.count c.list_gates.new.list h in omega (arith, h.most)

pub overflow_mul-count : goal.overflow_mul-count
overflow_mul-count c = let a = c.args in let s = a.image.now in let h = c.in-Ok.ensures in let m = many_is s a.link (length a.words.now) _ c.in-Ok.count c.list_gates.new.list h in omega (arith, h.most)

pub overflow_add-count : goal.overflow_add-count
overflow_add-count c = let a = c.args in let s = a.image.now in let h = c.in-Ok.ensures in let m = many_is s a.link (length a.words.now) _ c.in-Ok.count c.list_gates.new.list h in omega (arith, h.most)

pub copy-requires : goal.copy-requires
copy-requires c = let a = c.args in let s = a.image.now in let h = c.in-Ok.ensures in let m = many_is s a.link (length a.words.now) _ c.in-Ok.count c.list_gates.new.list h in (omega (arith, h.most, c.list_gates.auto.list), omega (arith, h.fits))

pub returns-in-Ok : goal.returns-in-Ok
returns-in-Ok c = let a = c.args in let s = a.image.now in let h = c.in-Ok.ensures in (c.accepted.ensures ∙ h.answer a.words.now refl, rw (c.copy.ensures, take_is s a.link (length a.words.now) _ c.in-Ok.count c.list_gates.new.list h refl) (words_done s a.link (length a.words.now) _ c.in-Ok.count c.list_gates.new.list h a.words.now refl))
