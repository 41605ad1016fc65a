use Prim.Native.Nat.{◌*◌, ◌-◌}
use mathlib.Core.Path.{◌≡◌, refl}
use native.Mathlib.Omega.{arith}
use Rattle.plan.specs.Image.{shape, rows, table_end, part}
use Rattle.tables.proofs.part_of.Goals as goal

-- src/lib.rt:400:5
pub slice_bounds-result-count : goal.slice_bounds-result-count
unfolding table_end
slice_bounds-result-count c = let e = c.offset_of-from.ensures in let g = c.end_of-end.ensures in omega arith

-- src/lib.rt:400:5
pub slice_bounds-result-start : goal.slice_bounds-result-start
unfolding table_end
slice_bounds-result-start c = let e = c.offset_of-from.ensures in let g = c.end_of-end.ensures in omega arith

-- src/lib.rt:400:5
pub slice_bounds-result-end : goal.slice_bounds-result-end
slice_bounds-result-end c = let g = c.end_of-end.ensures in let k = c.requires.ends c.args.table in omega arith

-- src/lib.rt:394:1
pub returns : goal.returns
unfolding table_end part
returns c = let s = c.args.image.now in let t = c.args.table in let e = c.offset_of-from.ensures in let g = c.end_of-end.ensures in let k : c.end_of-end.result - c.offset_of-from.result ≡ 4 * ((shape t).width * rows s t) = omega arith in rw (k, e) refl
