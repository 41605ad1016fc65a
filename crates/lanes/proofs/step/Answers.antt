use Rattle.lanes.proofs.Walking.{steps}
use Rattle.lanes.proofs.step.Goals as goal

pub returns : goal.returns
returns c = let a = c.args in steps a.image.now a.lane a.walk _ _ c.requires.1.0 c.go_on-view.ensures c.segment_at-next.ensures
