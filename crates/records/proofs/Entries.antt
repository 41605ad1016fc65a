-- What a state's entry allows: where it is missing, a step is refused with 27; where it is there, its words can be read. And what a
-- step's tests decide.
use Prim.Native.Nat.{ℕ, ◌+◌, ◌*◌, ◌≤◌}
use mathlib.Core.Path.{◌≡◌, refl, sym, ap, ◌∙◌}
use mathlib.Core.Bool.{Bool, true, false}
use mathlib.Core.List.{List}
use native.Mathlib.Omega.{arith}
use lib.ListN.{length}
use lib.Dec.{ltb, leb}
use borrow.Author.Tests.{ltb-true, leb-true}
use Rattle.plan.specs.Dispatch.{table_entries, fits, step}
use Rattle.plan.specs.Boundary.{words_of}
use Rattle.plan.specs.declared.LaneState.{LaneState}
use Rattle.plan.specs.declared.Stepped.{Stepped}
use Rattle.plan.proofs.Searching.{and_true}
use Rattle.moves.specs.declared.Lookup.{Lookup}
use Rattle.moves.specs.Lookups.{lookup, fits_table, ends_calendar, state_after, decided}
use Rattle.moves.proofs.Reading.{step_read}
use Rattle.words.proofs.Words.{words_length}
use Rattle.records.specs.Entries.{has_entry}

module _ (words : List ℕ) (st : LaneState) where
  pub no_entry : has_entry words st ≡ false → (step words st).number ≡ 27
  unfolding has_entry fits step
  no_entry h = rw h refl

  pub has_entry_holds : (step words st).number ≡ 0 → has_entry words st ≡ true
  has_entry_holds h = go (has_entry words st) refl
    where
      go : (t : Bool) → has_entry words st ≡ t → t ≡ true
      go true e = refl
      go false e = absurd (let k = no_entry e in omega arith)

  -- the table's two words and the entry's three
  pub entry_inside : has_entry words st ≡ true → st.first + 5 + 3 * st.entry ≤ length words
  unfolding has_entry
  entry_inside h =
      let k = and_true (leb (st.first + 2 + 3 * table_entries words st) (length words)) (ltb st.entry (table_entries words st)) h in
      omega (arith, leb-true (st.first + 2 + 3 * table_entries words st) (length words) k.0, ltb-true st.entry (table_entries words st) k.1)

-- the same, in bytes
pub entry_bytes : (b : List ℕ) (st : LaneState) → has_entry (words_of b) st ≡ true → 4 * (st.first + 5 + 3 * st.entry) ≤ length b
entry_bytes b st h = omega (arith, entry_inside (words_of b) st h, words_length b)

module _ (l : Lookup) (st : LaneState) where
  pub decided_27 : fits_table l st ≡ false → 27 ≡ (decided l st).number
  unfolding decided
  decided_27 f = rw f refl

  pub decided_28 : fits_table l st ≡ true → ends_calendar l st ≡ true → 28 ≡ (decided l st).number
  unfolding decided
  decided_28 f e = rw (f, e) refl

  pub decided_0 : fits_table l st ≡ true → ends_calendar l st ≡ false → 0 ≡ (decided l st).number
  unfolding decided
  decided_0 f e = rw (f, e) refl

  pub decided_state : fits_table l st ≡ true → ends_calendar l st ≡ false → (decided l st).state ≡ state_after l st
  unfolding decided
  decided_state f e = rw (f, e) refl

  pub deciding : (decided l st).number ≡ 0 → (fits_table l st ≡ true) × (ends_calendar l st ≡ false)
  deciding h = go (fits_table l st) refl (ends_calendar l st) refl
    where
      go : (t : Bool) → fits_table l st ≡ t → (u : Bool) → ends_calendar l st ≡ u → (t ≡ true) × (u ≡ false)
      go true f false e = (refl, refl)
      go true f true e = absurd (let k = decided_28 f e in omega arith)
      go false f u e = absurd (let k = decided_27 f in omega arith)

-- a step, where its numbers are looked up
module _ (words : List ℕ) (st : LaneState) (l : Lookup) (found : l ≡ lookup words st) where
  decision : decided l st ≡ step words st
  decision = ap (λ (x : Lookup). decided x st) found ∙ step_read words st

  pub number_said : (decided l st).number ≡ (step words st).number
  number_said = ap (λ (x : Stepped). x.number) decision

  pub fits_said : (step words st).number ≡ 0 → (fits_table l st ≡ true) × (ends_calendar l st ≡ false)
  fits_said h = deciding l st (number_said ∙ h)

  pub state_said : (step words st).number ≡ 0 → state_after l st ≡ (step words st).state
  state_said h = let k = fits_said h in sym (decided_state l st k.0 k.1) ∙ ap (λ (x : Stepped). x.state) decision
