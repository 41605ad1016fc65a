use mathlib.Core.Path.{refl, ap, ◌∙◌}
use native.Mathlib.Omega.{arith}
use Rattle.plan.specs.declared.Piece.{Piece}
use Rattle.plan.specs.declared.Table.TheVariants.{Pieces}
use Rattle.plan.specs.Questions.{switch_ticks, piece_end}
use Rattle.stretches.specs.Stretches.{piece_stretch}
use Rattle.stretches.proofs.Small.{piece_small, work_small}
use Rattle.plan.proofs.Sounds.{accepted_sound}
use Rattle.stretches.proofs.piece_stretch.Goals as goal

pub piece_at-p-requires : goal.piece_at-p-requires
piece_at-p-requires c = let p = c.requires in record { in_image = (accepted_sound _ p.0).inside; row_bound = p.1 }

pub switch_ticks-requires : goal.switch_ticks-requires
switch_ticks-requires c = let p = c.requires in let h = accepted_sound _ p.0 in (h, rw c.piece_at-p.ensures (h.names Pieces _ p.1))

pub overflow_add-result : goal.overflow_add-result
overflow_add-result c = let f = c.piece_at-p in let p = c.requires in let a = c.args in let s = a.image.now in let x = ap (λ (q : Piece). q.start) f.ensures in let y = c.switch_ticks.ensures ∙ ap (λ (q : Piece). switch_ticks s q.task) f.ensures in omega (arith, x, y, work_small s p.0 a.piece p.1)

pub overflow_add-result-2 : goal.overflow_add-result-2
overflow_add-result-2 c = let f = c.piece_at-p in let p = c.requires in let a = c.args in let s = a.image.now in let x = ap (λ (q : Piece). q.start) f.ensures in let y = ap (λ (q : Piece). q.length) f.ensures in omega (arith, x, y, piece_small s p.0 a.piece p.1)

pub returns : goal.returns
unfolding piece_stretch piece_end
returns c = rw (c.switch_ticks.ensures, c.piece_at-p.ensures) refl
