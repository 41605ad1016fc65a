use Rattle.counting.proofs.Counting.{turn_ready}
use Prim.Native.Nat.{ℕ, ◌+◌}
use mathlib.Core.Path.{◌≡◌, refl, ap, ◌∙◌}
use mathlib.Core.List.{List}
use native.Mathlib.Numerals.{add-one}
use native.Mathlib.Omega.{arith}
use lib.Seq.{sets}
use Rattle.drafts.specs.Drafts.{places, place_at}
use Rattle.drafts.specs.Edits.{store_rows}
use Rattle.counting.specs.Counting.{counted}
use Rattle.counting.proofs.Counting.{counted_to, counted_next}
use Rattle.counting.proofs.count_all.Goals as goal

pub loop-place-init : goal.loop-place-init
unfolding store_rows
loop-place-init c = refl

pub count_at-requires : goal.count_at-requires
unfolding places
count_at-requires c = let a = c.args in let p = c.requires in let l = c.loop-place in let both = turn_ready a.more a.piece a.words.now l.words l.place l.invariant p.0 (omega arith) p.1 in record { draft_words_in_bounds = both.0; countable = both.1 }

pub loop-place-preserved : goal.loop-place-preserved
loop-place-preserved c = let a = c.args in let l = c.loop-place in rw add-one (c.count_at.ensures ∙ ap (λ (v : List ℕ). sets v (place_at l.place + 4) (counted a.more a.piece v l.place)) l.invariant ∙ counted_next a.more a.piece a.words.now l.place)

pub returns : goal.returns
unfolding places
returns c = let a = c.args in let l = c.loop-place in let e : l.place ≡ 2048 = omega (arith, c.loop-place-test.false) in l.invariant ∙ ap (counted_to a.more a.piece a.words.now) e
