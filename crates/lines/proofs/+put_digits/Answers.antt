use Rattle.lines.proofs.Numbers.{low_put, high_put}
use Rattle.lines.proofs.+put_digits.Goals as goal

-- src/lib.rt:24:9
pub returns-then-n-lt10 : goal.returns-then-n-lt10
returns-then-n-lt10 t c = let a = c.args in low_put a.out.now a.at a.n c.if-n-lt10.true _ c.put.ensures

-- src/lib.rt:18:1
pub returns : goal.returns
returns t c = let a = c.args in high_put a.out.now a.at a.n c.if-n-lt10.false c.ranges.n.fits c.put_digits-place.ensures _ c.put-2.ensures
