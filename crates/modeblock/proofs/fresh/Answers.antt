use mathlib.Core.Path.{refl, ap, ◌∙◌}
use mathlib.Core.List.{List, ◌∷◌, []}
use Prim.Native.Nat.{ℕ}
use lib.ListN.{replicate}
use Rattle.modes.specs.Modes.{places}
use Rattle.writing.specs.Stored.{stored}
use Rattle.modeblock.specs.Blocks.{modes_fresh_number, modes_fresh_block}
use Rattle.modeblock.proofs.Blocks.{fresh_filled}
use Rattle.modeblock.proofs.Answers.{block_no, block_yes}
use Rattle.modeblock.proofs.fresh.Goals as goal

pub returns-then-block-ne-BLOCK : goal.returns-then-block-ne-BLOCK
unfolding modes_fresh_number modes_fresh_block
returns-then-block-ne-BLOCK c = let a = c.args in rw (block_no a.block.now c.if-block-ne-BLOCK.true) (refl, refl)

pub returns : goal.returns
unfolding modes_fresh_number modes_fresh_block
returns c =
    let z = c.if-block-ne-BLOCK.false in
    let zeros = c.fill.ensures.after (λ y e. e) ∙ ap (λ (n : ℕ). replicate n 0) z in
    rw (block_yes c.args.block.now z) (refl, c.put_places.ensures ∙ ap (λ (b : List ℕ). stored b 0 (places ∷ places ∷ [])) zeros ∙ fresh_filled)
