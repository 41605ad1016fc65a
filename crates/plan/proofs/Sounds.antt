-- What questions 1 to 6 and 32 show: the image is sound (specs/Held). An accepted plan's is.
use Prim.Native.Nat.{ℕ, zero, suc, ◌≤◌, ◌<◌}
use mathlib.Core.Path.{◌≡◌}
use mathlib.Core.List.{List, ◌∷◌, ◌++◌, []}
use native.Mathlib.Omega.{arith}
use lib.ListN.{length, take}
use Rattle.plan.specs.declared.Table.{Table}
use Rattle.plan.specs.declared.Table.TheVariants.{Cores, Vcpus, Tasks, Windows, Pieces, Links, Streams, Frames, Buffers, Chains}
use Rattle.plan.specs.Image.{tables, shape, rows, offset, table_end, trailer_at}
use Rattle.plan.specs.Questions.{answer_of, accepted}
use Rattle.plan.specs.Reading.{Meaning, AllHold, Holds, meanings, image_meanings, row_meanings, queue_meanings, plan_meanings, whole, each, each_table, Laid, Names, InOrder, InRange}
use Rattle.plan.specs.Held.{InImage, Sound}
use Rattle.plan.proofs.Meanings.{accepted_means}

pub left : (ps qs : List Meaning) → AllHold (ps ++ qs) → AllHold ps
left [] qs h = tt
left (p ∷ ps) qs h = (h.0, left ps qs h.1)

pub right : (ps qs : List Meaning) → AllHold (ps ++ qs) → AllHold qs
right [] qs h = h
right (p ∷ ps) qs h = right ps qs h.1

pub first_of : (n : ℕ) (ms : List Meaning) → AllHold ms → AllHold (take n ms)
first_of zero ms h = tt
first_of (suc n) [] h = tt
first_of (suc n) (m ∷ ms) h = (h.0, first_of n ms h.1)

module _ (s : List ℕ) where
  abbrev pub Rows : Table → (ℕ → Type 0) → Type 0
  Rows t Y = (r : ℕ) → r < rows s t → Y r

  pub table_rows : (q : ℕ) (Y : Table → ℕ → Type 0) → AllHold (each_table s q tables Y) → (t : Table) → Rows t (Y t)
  unfolding each_table tables each
  table_rows q Y h Cores = h.0
  table_rows q Y h Vcpus = h.1.0
  table_rows q Y h Tasks = h.1.1.0
  table_rows q Y h Windows = h.1.1.1.0
  table_rows q Y h Pieces = h.1.1.1.1.0
  table_rows q Y h Links = h.1.1.1.1.1.0
  table_rows q Y h Streams = h.1.1.1.1.1.1.0
  table_rows q Y h Frames = h.1.1.1.1.1.1.1.0
  table_rows q Y h Buffers = h.1.1.1.1.1.1.1.1.0
  table_rows q Y h Chains = h.1.1.1.1.1.1.1.1.1.0

  -- each table's rows are in bounds, and it ends where the trailer begins, or before
  abbrev Fit : Table → Type 0
  Fit t = (rows s t ≤ (shape t).most) × (table_end s t ≤ trailer_at s)

  abbrev AllFit : List Table → Type 0
  AllFit [] = Unit {0}
  AllFit (t ∷ ts) = Fit t × AllFit ts

  begins_low : (t : Table) → offset s t ≤ table_end s t
  unfolding table_end
  begins_low t = omega arith

  fitted : (from : ℕ) (ts : List Table) → Laid s from ts → (from ≤ trailer_at s) × AllFit ts
  fitted from [] h = (omega arith, tt)
  fitted from (t ∷ ts) h =
      let r = fitted (table_end s t) ts h.2 in
      (omega (arith, begins_low t, h.1, r.0), ((h.0, r.0), r.1))

  table_fit : AllFit tables → (t : Table) → Fit t
  unfolding tables
  table_fit h Cores = h.0
  table_fit h Vcpus = h.1.0
  table_fit h Tasks = h.1.1.0
  table_fit h Windows = h.1.1.1.0
  table_fit h Pieces = h.1.1.1.1.0
  table_fit h Links = h.1.1.1.1.1.0
  table_fit h Streams = h.1.1.1.1.1.1.0
  table_fit h Frames = h.1.1.1.1.1.1.1.0
  table_fit h Buffers = h.1.1.1.1.1.1.1.1.0
  table_fit h Chains = h.1.1.1.1.1.1.1.1.1.0

  trailer_low : trailer_at s ≤ length s
  unfolding trailer_at
  trailer_low = omega arith

  pub in_image : AllHold (image_meanings s) → InImage s
  unfolding image_meanings whole
  in_image h =
      let l = h.1.1.0 0 (omega arith) in
      let f = table_fit (fitted 0 tables l.1).1 in
      record {
        trailer = (h.0 0 (omega arith)).0;
        counts = λ t. (f t).0;
        ends = λ t. let e = f t in let d = trailer_low in omega (arith, e.1);
      }

  pub sound : AllHold (image_meanings s) → AllHold (row_meanings s) → Sound s
  unfolding image_meanings row_meanings whole
  sound h r =
      let m5 = each_table s 5 tables (Names s) in let m32 = each_table s 32 tables (InOrder s) in let m6 = each_table s 6 tables (InRange s) in
      let n = left (m5 ++ m32) m6 r in let c = h.1.1.1.0 0 (omega arith) in
      record {
        inside = in_image h;
        core = (h.1.1.0 0 (omega arith)).0;
        cycle = c.0;
        cycle_most = c.1;
        clocks = c.2;
        names = table_rows 5 (Names s) (left m5 m32 n);
        order = table_rows 32 (InOrder s) (right m5 m32 n);
        ranges = table_rows 6 (InRange s) (right (m5 ++ m32) m6 r);
      }

  pub accepted_sound : answer_of s ≡ accepted → Sound s
  unfolding Holds meanings
  accepted_sound e =
      let im = image_meanings s in let m = row_meanings s in let q = queue_meanings s in
      let h = left (im ++ m) q (left (im ++ m ++ q) (plan_meanings s) ((accepted_means s).0 e)) in
      sound (left im m h) (right im m h)
