use mathlib.Core.Path.{refl}
use Rattle.texts.specs.Wording.{kinds, named}
use Rattle.wording.proofs.is_named.Goals as goal

pub returns : goal.returns
unfolding kinds named
returns c = refl
