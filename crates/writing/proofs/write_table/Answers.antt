use mathlib.Core.Path.{refl}
use Rattle.plan.proofs.Sounds.{accepted_sound}
use Rattle.writing.proofs.Tables.{table_stored}
use Rattle.writing.proofs.write_table.Goals as goal

pub cycle_ticks-requires : goal.cycle_ticks-requires
cycle_ticks-requires c = (accepted_sound _ c.requires.gathered.0.passed).inside.trailer

pub returns : goal.returns
returns c = let a = c.args in let e = c.write_entries-count.ensures in (e.0, rw (c.put_word-2.ensures, c.put_word.ensures, e.1) (table_stored a.image.now a.lane a.bytes.now a.at _ _ _ refl c.cycle_ticks.ensures e.0))
