use Rattle.stretches.proofs.Stretches.{core_shows, link_shows}
use Rattle.plan.proofs.Facts.{facts}
use Rattle.plan.proofs.Sounds.{accepted_sound}
use native.Mathlib.Omega.{arith}
use Rattle.stretches.proofs.view_at.Goals as goal

pub rows_of-cores-requires : goal.rows_of-cores-requires
rows_of-cores-requires c = (accepted_sound _ c.requires.0.passed).inside.trailer

pub core_view-requires : goal.core_view-requires
core_view-requires c = let p = c.requires in record { gathered = (p.0, p.1.0); cursor = p.1.1.core (rw (← c.rows_of-cores.ensures) c.if-lane-cores.true) }

pub link_view-requires : goal.link_view-requires
link_view-requires c = let p = c.requires in let e = c.rows_of-cores.ensures in record { image_value = (p.0.passed, (p.0.indexed, p.1.0)); cursor = rw e (p.1.1.link (rw (← e) c.if-lane-cores.false)) }

pub returns-else-lane-cores : goal.returns-else-lane-cores
returns-else-lane-cores c = let a = c.args in let s = a.image.now in let g = c.link_view.ensures in let e = c.rows_of-cores.ensures in record { shows = link_shows s (facts s c.requires.0.passed) a.lane a.tick _ (rw (← e) c.if-lane-cores.false) (rw (← e) g.shows); keeps = record { core = λ b. absurd (omega (arith, e, c.if-lane-cores.false)); link = λ b. rw (← e) g.cursor_2 } }

pub returns-then-lane-cores : goal.returns-then-lane-cores
returns-then-lane-cores c = let a = c.args in let s = a.image.now in let g = c.core_view.ensures in let e = c.rows_of-cores.ensures in record { shows = core_shows s (facts s c.requires.0.passed) a.lane a.tick _ (rw (← e) c.if-lane-cores.true) g.shows; keeps = record { core = λ b. g.cursor_2; link = λ b. absurd (omega (arith, e, c.if-lane-cores.true)) } }
