-- What a state's tests say of its numbers.
use Prim.Native.Nat.{◌+◌, ◌-◌, ◌^◌, ◌<◌}
use mathlib.Core.Path.{◌≡◌, refl, sym, ◌∙◌}
use mathlib.Core.Logic.{◌≢◌}
use mathlib.Core.Bool.{Bool, true, false, ◌&&◌, ◌||◌, true≢false}
use lib.Dec.{ltb, leb}
use borrow.Author.Tests.{ltb-true, eq-eqb}
use Rattle.plan.specs.declared.LaneState.{LaneState}
use Rattle.plan.proofs.Searching.{and_true}
use Rattle.moves.specs.declared.Lookup.{Lookup}
use Rattle.moves.specs.Lookups.{fits_table, ends_cycle, ends_calendar}

middle : (a b c d e : Bool) → a && b && c && d && e ≡ true → (b ≡ true) × (c ≡ true)
middle a b c d e h =
    let k = and_true (a && b) c (and_true (a && b && c) d (and_true (a && b && c && d) e h).0).0 in
    ((and_true a b k.0).1, k.1)

module _ (l : Lookup) (st : LaneState) where
  -- a state that fits its table is at an entry of it, and at a tick of the cycle
  pub fitting : fits_table l st ≡ true → (st.entry < l.entries) × (st.tick < l.ticks)
  unfolding fits_table
  fitting h =
      let k = middle l.inside (ltb st.entry l.entries) (ltb st.tick l.ticks) (leb l.begin st.tick) (leb l.entries (st.entry + 1) || ltb st.tick l.next) h in
      (ltb-true st.entry l.entries k.0, ltb-true st.tick l.ticks k.1)

  -- at the end of a cycle before the last one
  pub not_last : ends_calendar l st ≡ false → ends_cycle l st ≡ true → st.cycle ≢ 2 ^ 64 - 1
  unfolding ends_calendar
  not_last h e q = true≢false (sym (rw (e, eq-eqb st.cycle (2 ^ 64 - 1) q) refl) ∙ h)
