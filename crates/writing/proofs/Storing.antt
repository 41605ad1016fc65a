-- Words stored into lent bytes, one after another; a lane's entries stored up to a tick.
use Prim.Native.Nat.{ℕ, ◌+◌, ◌*◌, ◌≤◌}
use mathlib.Core.Path.{◌≡◌, refl, sym, ap, ◌∙◌}
use mathlib.Core.Bool.{true, false}
use mathlib.Core.List.{List, ◌∷◌, ◌++◌, [], flat_map, append-nil}
use native.Mathlib.Nat.{zero-add}
use native.Mathlib.Omega.{arith}
use lib.ListN.{length, drop}
use lib.Seq.{sets, sets-eq, length-sets}
use Rattle.plan.specs.Image.{cycle_ticks}
use Rattle.plan.specs.Search.{count}
use Rattle.plan.specs.Dispatch.{begins, entries, entry_count}
use Rattle.plan.specs.Boundary.{bytes_of}
use Rattle.plan.proofs.Tables.{entries_length, count_mono}
use Rattle.plan.proofs.Tests.{no_count}
use Rattle.lanes.specs.declared.Walk.{Walk}
use Rattle.lanes.specs.Walks.{StepFrom}
use Rattle.lanes.proofs.Walking.{entries_yes, entries_no, count_yes, count_no}
use Rattle.writing.specs.Stored.{stored}
use Rattle.words.proofs.Bytes.{row_length, row_append, sets_append, sets_before}

pub stored_length : (b : List ℕ) (i : ℕ) (ws : List ℕ) → length (stored b i ws) ≡ length b
unfolding stored
stored_length b i ws = length-sets b i (flat_map (bytes_of 4) ws)

-- one word
pub stored_one : (b : List ℕ) (i x : ℕ) → sets b i (bytes_of 4 x) ≡ stored b i (x ∷ [])
unfolding stored flat_map
stored_one b i x = ap (sets b i) (sym (append-nil (bytes_of 4 x)))

-- further words after some, at the byte after the last
pub stored_after : (b : List ℕ) (i j : ℕ) (vs ws : List ℕ) → j ≡ i + 4 * length vs → stored (stored b i vs) j ws ≡ stored b i (vs ++ ws)
unfolding stored
stored_after b i j vs ws e =
    let f = flat_map (bytes_of 4) vs in let g = flat_map (bytes_of 4) ws in let k : j ≡ i + length f = omega (arith, e, row_length vs) in
    ap (λ (n : ℕ). sets (sets b i f) n g) k ∙ sym (sets_append f g b i) ∙ ap (sets b i) (sym (row_append vs ws))

-- further words before some
pub stored_before : (b : List ℕ) (i j : ℕ) (vs ws : List ℕ) → j ≡ i + 4 * length vs → stored (stored b j ws) i vs ≡ stored b i (vs ++ ws)
unfolding stored
stored_before b i j vs ws e =
    let f = flat_map (bytes_of 4) vs in let g = flat_map (bytes_of 4) ws in let k : j ≡ i + length f = omega (arith, e, row_length vs) in
    ap (λ (n : ℕ). sets (sets b n g) i f) k ∙ sets_before f g b i ∙ ap (sets b i) (sym (row_append vs ws))

-- words from byte 0 on
pub stored_front : (b ws : List ℕ) → 4 * length ws ≤ length b → stored b 0 ws ≡ flat_map (bytes_of 4) ws ++ drop (4 * length ws) b
unfolding stored
stored_front b ws h =
    let n = row_length ws in
    sets-eq (flat_map (bytes_of 4) ws) b 0 (omega (arith, n))
    ∙ ap (λ (k : ℕ). flat_map (bytes_of 4) ws ++ drop k b) (zero-add (length (flat_map (bytes_of 4) ws)) ∙ n)

-- ---- a lane's entries, stored up to a tick

module _ (s : List ℕ) (lane : ℕ) (b : List ℕ) (at : ℕ) where
  pub record Written (t : ℕ) (after : List ℕ) (many : ℕ) : Type 0 where
    pub counted : many ≡ count t (begins s lane)
    pub holds : after ≡ stored b at (entries s lane t)

  pub written_none : Written 0 b 0
  unfolding entries stored flat_map
  written_none = record { counted = sym (no_count (begins s lane)); holds = refl }

  pub written_length : {t many : ℕ} {after : List ℕ} → Written t after many → length after ≡ length b
  written_length {t} h = ap length h.holds ∙ stored_length b at (entries s lane t)

  module _ {t many : ℕ} {after : List ℕ} (w : Walk) (g : StepFrom s lane t w) (h : Written t after many) where
    -- there is room for an entry
    pub room : w.begins ≡ true → many + 1 ≤ entry_count s lane
    unfolding entry_count
    room e = omega (arith, h.counted, count_yes s lane w g e, count_mono (begins s lane) w.until (cycle_ticks s) g.reached.within)

    pub written_entry : w.begins ≡ true → Written w.until (stored after (at + 12 * many) (w.from ∷ w.kind ∷ w.row ∷ [])) (many + 1)
    written_entry e =
        record {
          counted = omega (arith, h.counted, count_yes s lane w g e);
          holds = rw (h.holds, entries_yes s lane w g e) (stored_after b at (at + 12 * many) (entries s lane t) (w.from ∷ w.kind ∷ w.row ∷ []) (omega (arith, h.counted, entries_length s lane t)));
        }

    pub written_same : w.begins ≡ false → Written w.until after many
    written_same e =
        record { counted = h.counted ∙ sym (count_no s lane w g e); holds = h.holds ∙ ap (stored b at) (sym (entries_no s lane w g e)) }
