use Rattle.lanes.proofs.Walking.{started}
use mathlib.Core.Path.{refl}
use Rattle.lanes.proofs.start.Goals as goal

pub returns : goal.returns
returns c = let a = c.args in (refl, started a.image.now a.lane _ refl c.idle_stretch-stretch.ensures c.first_cursors-cursors.ensures)
