use Prim.Native.Nat.{◌+◌}
use mathlib.Core.Path.{sym, ◌∙◌}
use native.Mathlib.Omega.{arith}
use Rattle.plan.specs.Boundary.{words_of}
use Rattle.moves.proofs.Reading.{looked_up, entry_at}
use Rattle.words.proofs.Words.{words_length, words_at}
use Rattle.records.proofs.Entries.{entry_inside, entry_bytes}
use Rattle.records.proofs.look_up.Goals as goal

pub word-ticks-requires : goal.word-ticks-requires
word-ticks-requires c = let w = c.args.words.now in omega (arith, entry_bytes w c.args.state c.requires)

pub word-entries-requires : goal.word-entries-requires
word-entries-requires c = let w = c.args.words.now in omega (arith, entry_bytes w c.args.state c.requires)

pub word-begin-requires : goal.word-begin-requires
word-begin-requires c = let w = c.args.words.now in omega (arith, entry_bytes w c.args.state c.requires)

pub word-kind-requires : goal.word-kind-requires
word-kind-requires c = let w = c.args.words.now in omega (arith, entry_bytes w c.args.state c.requires)

pub word-row-requires : goal.word-row-requires
word-row-requires c = let w = c.args.words.now in omega (arith, entry_bytes w c.args.state c.requires)

pub returns : goal.returns
returns c =
    let w = c.args.words.now in
    let st = c.args.state in
    let h = entry_inside (words_of w) st c.requires in
    let n = words_length w in
    let e1 = c.word-ticks.ensures ∙ sym (words_at w st.first (omega (arith, h, n))) in
    let e2 = c.word-entries.ensures ∙ sym (words_at w (st.first + 1) (omega (arith, h, n))) in
    let e3 = c.word-begin.ensures ∙ sym (words_at w (entry_at (words_of w) st) (omega (arith, h, n))) in
    let e4 = c.word-kind.ensures ∙ sym (words_at w (entry_at (words_of w) st + 1) (omega (arith, h, n))) in
    let e5 = c.word-row.ensures ∙ sym (words_at w (entry_at (words_of w) st + 2) (omega (arith, h, n))) in
    rw (c.word_at-next.ensures, e5, e4, e3, e2, e1, ← n) (looked_up (words_of w) st)
