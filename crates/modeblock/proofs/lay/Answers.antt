use Prim.Native.Nat.{ℕ, ◌+◌, ◌-◌, ◌*◌, ◌/◌, ◌≤◌}
use Rattle.std.proofs.Common.{Some}
use mathlib.Core.Path.{refl, ap, ◌∙◌}
use native.Mathlib.Omega.{arith}
use lib.ListN.{length}
use borrow.Rule.Slice.PartMut.{put_mid}
use Rattle.writing.specs.AllTables.{all_tables}
use Rattle.modeblock.proofs.Blocks.{all_small, too_few, too_far, room, stored_part}
use Rattle.modeblock.proofs.lay.Goals as goal

pub overflow_add-end : goal.overflow_add-end
overflow_add-end c = omega (arith, c.words_of_all.ensures, all_small c.args.image.now c.requires)

pub returns-then-all-end : goal.returns-then-all-end
returns-then-all-end c =
    let e = too_few c.args.image.now c.args.used c.args.words.now (omega (arith, c.words_of_all.ensures, c.if-all-end.true)) in
    record { value = rw e refl; words_after = rw e refl }

pub returns-then-end-ge4294967296 : goal.returns-then-end-ge4294967296
returns-then-end-ge4294967296 c =
    let e = too_far c.args.image.now c.args.used c.args.words.now (omega (arith, c.words_of_all.ensures, c.if-end-ge4294967296.true)) in
    record { value = rw e refl; words_after = rw e refl }

pub returns : goal.returns
returns c =
    let e = c.words_of_all.ensures in let v = c.args.words.now in let u = c.args.used in let i = c.args.image.now in
    let h : u + length (all_tables i) ≤ length v / 4 = omega (arith, c.if-all-end.false) in
    let k = room i u v h (omega (arith, c.if-end-ge4294967296.false)) in
    record {
      value = rw k (ap (λ (x : ℕ). Some (u + x)) e);
      words_after = rw k (ap (put_mid (4 * u) (length v - 4 * u) v) c.write_all.ensures ∙ stored_part v (4 * u) (length v - 4 * u) (all_tables i) refl (omega arith));
    }
