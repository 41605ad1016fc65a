use Rattle.opening.proofs.Going.{gone_first, gone_same, gone_other}
use Rattle.opening.proofs.go_on.Goals as goal

-- src/lib.rt:57:9
pub returns-then-at-eq0 : goal.returns-then-at-eq0
returns-then-at-eq0 c = let a = c.args in let p = c.requires in gone_first a.list.now a.at a.octet a.until p.0 p.1 c.if-at-eq0.true

-- src/lib.rt:65:9
pub returns-then-at-octet : goal.returns-then-at-octet
returns-then-at-octet c = let a = c.args in let p = c.requires in gone_same a.list.now a.at a.octet a.until p.0 p.1 c.if-at-eq0.false c.if-at-octet.true

-- src/lib.rt:52:1
pub returns : goal.returns
returns c = let a = c.args in let p = c.requires in rw c.put.ensures (gone_other a.list.now a.at a.octet a.until p.0 p.1 c.if-at-eq0.false c.if-at-octet.false)
