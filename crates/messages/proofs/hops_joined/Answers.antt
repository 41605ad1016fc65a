use Prim.Native.Nat.{ℕ}
use mathlib.Core.Path.{◌≡◌, refl, sym, ap, subst, ◌∙◌}
use mathlib.Core.Bool.{true}
use native.Mathlib.Omega.{arith}
use native.Mathlib.Numerals.{add-one}
use borrow.Author.Tests.{eq-eqb, ne_eqb}
use Rattle.plan.specs.declared.Stream.{Stream}
use Rattle.plan.specs.declared.Link.{Link}
use Rattle.plan.specs.declared.Table.TheVariants.{Streams, Frames}
use Rattle.plan.specs.Image.{stream}
use Rattle.plan.specs.Search.{all}
use Rattle.plan.proofs.Searching.{all_turn}
use Rattle.plan.specs.Questions.{node_of, reached}
use Rattle.messages.proofs.Framing.{leaves, hop_link, goes_on, breaks_off, arrives}
use Rattle.frames.proofs.Reading.{frame_exists}
use Rattle.messages.proofs.hops_joined.Goals as goal

pub node_of-node-requires : goal.node_of-node-requires
node_of-node-requires c = let p = c.requires in (p.0.sound, rw c.stream_at-m.ensures (p.0.sound.names Streams c.args.stream p.1.1.row).0)

pub loop-hop-init : goal.loop-hop-init
unfolding all reached
loop-hop-init c = (c.node_of-node.ensures ∙ ap (λ (x : Stream). node_of c.args.image.now x.sender) c.stream_at-m.ensures, refl)

pub frame_at-requires-clause-row_bound : goal.frame_at-requires-clause-row_bound
frame_at-requires-clause-row_bound c = let a = c.args in let p = c.requires in let g = ap (λ (x : Stream). x.hops) c.stream_at-m.ensures in let h = c.loop-hop.hop in rw c.frame_of-frame.ensures (frame_exists a.image.now p.0 a.stream a.job h p.1.1 (omega arith))

pub link_at-link-requires-clause-row_bound : goal.link_at-link-requires-clause-row_bound
link_at-link-requires-clause-row_bound c = let a = c.args in let p = c.requires in let g = ap (λ (x : Stream). x.hops) c.stream_at-m.ensures in let h = c.loop-hop.hop in rw (c.frame_at.ensures, c.frame_of-frame.ensures) (p.0.sound.names Frames _ (frame_exists a.image.now p.0 a.stream a.job h p.1.1 (omega arith))).1

pub returns-then-link-node : goal.returns-then-link-node
returns-then-link-node c = let a = c.args in let s = a.image.now in let l = c.loop-hop in let m = c.stream_at-m in let g = ap (λ (x : Stream). x.hops) m.ensures in let r = c.frame_of-frame in let f = c.frame_at in let k = c.link_at-link in let e = hop_link s a.stream a.job l.hop r.result f.result k.result r.ensures f.ensures k.ensures in let d = ap (λ (x : Link). x.from) e in breaks_off s a.stream a.job l.hop (omega arith) (ne_eqb _ _ (λ z. c.if-link-node.true (d ∙ z ∙ sym l.invariant.0)))

pub loop-hop-preserved : goal.loop-hop-preserved
loop-hop-preserved c = let a = c.args in let s = a.image.now in let l = c.loop-hop in let m = c.stream_at-m in let g = ap (λ (x : Stream). x.hops) m.ensures in let r = c.frame_of-frame in let f = c.frame_at in let k = c.link_at-link in let e = hop_link s a.stream a.job l.hop r.result f.result k.result r.ensures f.ensures k.ensures in let d = ap (λ (x : Link). x.from) e in (goes_on s a.stream a.job l.hop k.result e, rw (add-one l.hop) (all_turn (leaves s a.stream a.job) l.hop l.invariant.1 (eq-eqb _ _ (sym d ∙ c.if-link-node.false ∙ l.invariant.0))))

pub node_of-requires : goal.node_of-requires
node_of-requires c = let p = c.requires in (p.0.sound, rw c.stream_at-m.ensures (p.0.sound.names Streams c.args.stream p.1.1.row).1)

pub returns : goal.returns
returns c = let a = c.args in let s = a.image.now in let l = c.loop-hop in let m = c.stream_at-m in let g = ap (λ (x : Stream). x.hops) m.ensures in let e : l.hop ≡ (stream s a.stream).hops = omega arith in arrives s a.stream a.job l.node c.node_of.result (l.invariant.0 ∙ ap (reached s a.stream a.job) e) (c.node_of.ensures ∙ ap (λ (x : Stream). node_of s x.receiver) m.ensures) (subst (λ (n : ℕ). all n (leaves s a.stream a.job) ≡ true) e l.invariant.1)
