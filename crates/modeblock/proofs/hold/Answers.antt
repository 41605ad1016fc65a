use Prim.Native.Nat.{ℕ, ◌+◌, ◌*◌, ◌<◌}
use Rattle.std.proofs.Common.{Some, None}
use mathlib.Core.Path.{sym, ap, ◌∙◌}
use mathlib.Core.Bool.{cond}
use native.Mathlib.Omega.{arith}
use lib.ListN.{length}
use Rattle.plan.specs.declared.Answer.{Answer}
use Rattle.questions.proofs.Verdict.{ask_accepts, ask_refuses}
use Rattle.writing.specs.Stored.{stored}
use Rattle.writing.specs.AllTables.{all_tables}
use Rattle.modes.specs.Modes.{places, held_of}
use Rattle.modeblock.specs.Blocks.{used_of}
use Rattle.modeblock.proofs.Blocks.{suffices, hold_stored}
use Rattle.modeblock.proofs.Answers.{used_is, asked_no, hold_refused, hold_other, hold_image, hold_43, hold_26, hold_room, hold_done}
use Rattle.modeblock.proofs.hold.Goals as goal

pub returns-then-block-ne-BLOCK : goal.returns-then-block-ne-BLOCK
returns-then-block-ne-BLOCK c = let a = c.args in let v = a.block.now in let i = a.image.now in let p = a.place in let w = a.words.now in let both = hold_refused v i p w _ (c.refused.ensures ∙ hold_other v i p w c.if-block-ne-BLOCK.true) (λ z. absurd (omega (arith, ap (λ (x : Answer). x.number) c.refused.ensures, z))) in record { value = both.0; words_after = both.1.0; block_after = both.1.1 }

pub returns-in-Err : goal.returns-in-Err
returns-in-Err c = let a = c.args in let v = a.block.now in let i = a.image.now in let p = a.place in let w = a.words.now in let x = c.in-Err.no in let e = sym c.in-Err.is ∙ c.ask.ensures in let n = asked_no i x e in let y = ask_refuses i x e in let both = hold_refused v i p w _ (sym y ∙ hold_image v i p w c.if-block-ne-BLOCK.false (λ z. n (sym (ap (λ (b : Answer). b.number) y) ∙ z))) n in record { value = both.0; words_after = both.1.0; block_after = both.1.1 }

pub returns-then-place-ge-PLACES : goal.returns-then-place-ge-PLACES
returns-then-place-ge-PLACES c = let a = c.args in let v = a.block.now in let i = a.image.now in let p = a.place in let w = a.words.now in let both = hold_refused v i p w _ (c.refused-then-place-ge-PLACES.ensures ∙ hold_43 v i p w c.if-block-ne-BLOCK.false (ask_accepts i (sym c.in_default.is ∙ c.ask.ensures)) c.if-place-ge-PLACES.true) (λ z. absurd (omega (arith, ap (λ (x : Answer). x.number) c.refused-then-place-ge-PLACES.ensures, z))) in record { value = both.0; words_after = both.1.0; block_after = both.1.1 }

pub lay-requires : goal.lay-requires
lay-requires c = ask_accepts c.args.image.now (sym c.in_default.is ∙ c.ask.ensures)

pub returns-in_default-lay : goal.returns-in_default-lay
returns-in_default-lay c = let a = c.args in let v = a.block.now in let i = a.image.now in let p = a.place in let w = a.words.now in let q = c.word-used.ensures ∙ sym (used_is v) in let e = sym (ap (λ (u : ℕ). cond (suffices i u w) (Some (u + length (all_tables i))) None) q) ∙ sym c.lay.ensures.value ∙ c.in_default-lay.is in let f = c.lay.ensures.words_after ∙ ap (λ (u : ℕ). cond (suffices i u w) (stored w (4 * u) (all_tables i)) w) q in let n = c.if-block-ne-BLOCK.false in let s = ask_accepts i (sym c.in_default.is ∙ c.ask.ensures) in let l : p < places = omega (arith, c.if-place-ge-PLACES.false) in let k = hold_26 v i p w n s l e in let r = hold_refused v i p w _ (c.refused-in_default-lay.ensures ∙ k.0) (λ z. absurd (omega (arith, ap (λ (x : Answer). x.number) c.refused-in_default-lay.ensures, z))) in record { value = r.0; words_after = f ∙ (rw k.1 r.1.0); block_after = r.1.1 }

pub held_of-requires : goal.held_of-requires
held_of-requires c = let a = c.args in let v = a.block.now in let i = a.image.now in let p = a.place in let w = a.words.now in let q = c.word-used.ensures ∙ sym (used_is v) in let e = sym (ap (λ (u : ℕ). cond (suffices i u w) (Some (u + length (all_tables i))) None) q) ∙ sym c.lay.ensures.value ∙ c.in-Some.is in let s = ask_accepts i (sym c.in_default.is ∙ c.ask.ensures) in let l : p < places = omega (arith, c.if-place-ge-PLACES.false) in (s, (hold_room v i p w c.if-block-ne-BLOCK.false s l c.in-Some.end e).0 ∙ ap (λ (u : ℕ). u + length (all_tables i)) (sym q))

pub returns : goal.returns
returns c = let a = c.args in let v = a.block.now in let i = a.image.now in let p = a.place in let w = a.words.now in let q = c.word-used.ensures ∙ sym (used_is v) in let e = sym (ap (λ (u : ℕ). cond (suffices i u w) (Some (u + length (all_tables i))) None) q) ∙ sym c.lay.ensures.value ∙ c.in-Some.is in let f = c.lay.ensures.words_after ∙ ap (λ (u : ℕ). cond (suffices i u w) (stored w (4 * u) (all_tables i)) w) q in let n = c.if-block-ne-BLOCK.false in let s = ask_accepts i (sym c.in_default.is ∙ c.ask.ensures) in let l : p < places = omega (arith, c.if-place-ge-PLACES.false) in let k = hold_room v i p w n s l c.in-Some.end e in let d = hold_done v i p w n s l k.1 in record { value = c.accepted.ensures ∙ d.0; words_after = f ∙ (rw k.1 d.1.0); block_after = rw (c.put_plan.ensures, c.put_word.ensures, c.put_places.ensures, c.held_of.ensures, k.0, q) (hold_stored v (used_of v + length (all_tables i)) (12 + 20 * p) (held_of i (used_of v)) ∙ d.1.1) }
