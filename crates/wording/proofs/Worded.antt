-- Lines in words, put part by part.
use Prim.Native.Nat.{ℕ, ◌-◌, ◌^◌, ◌≤◌, ◌<◌}
use Prim.Native.String.{[] as none}
use mathlib.Core.Path.{◌≡◌, sym, ap, ◌∙◌}
use mathlib.Core.Bool.{true}
use mathlib.Core.List.{List, ◌++◌}
use native.Mathlib.Omega.{arith}
use lib.ListN.{length, drop}
use lib.Seq.{take_all}
use Rattle.plan.specs.declared.Answer.{Answer}
use Rattle.texts.specs.Characters.{ascii, lines_of, line_at}
use Rattle.texts.specs.Wording.{phrases, unknown, phrase, kinds, named, kind, line_of, line_length, line_bytes}
use Rattle.texts.proofs.Listed.{listed_line}
use Rattle.texts.proofs.Fitting.{phrases_printable, phrase_known, phrase_unknown, unknown_short, kinds_printable, kind_name, kind_short, named_bounds, line_enough, line_too_long}
use Rattle.lines.specs.Putting.{Put}
use Rattle.lines.proofs.Storing.{sets_front, put_within}

-- ---- phrases and kinds, as lines of a text

module _ (b : List ℕ) (at : ℕ) {m r : ℕ} {after : List ℕ} where
  pub phrase_put : (n : ℕ) → n < length phrases → Put b at (line_at n (lines_of phrases)) m r after → Put b at (phrase n) 51 r after
  phrase_put n l h =
      let e : line_at n (lines_of phrases) ≡ phrase n = unfold phrase in listed_line phrases n 0 unknown phrases_printable l in
      put_within b at e (omega (arith, phrase_known n l)) h

  pub unknown_put : (n : ℕ) → length phrases ≤ n → Put b at (ascii unknown) m r after → Put b at (phrase n) 51 r after
  unknown_put n l h = let e = phrase_unknown n l in put_within b at (sym e) (omega (arith, ap length e, unknown_short.0)) h

  pub name_put : (t : ℕ) → t < 2 ^ 32 → named t ≡ true → Put b at (line_at (t - 1) (lines_of kinds)) m r after → Put b at (kind t) 21 r after
  name_put t l e h = put_within b at (listed_line kinds (t - 1) 0 none kinds_printable (named_bounds t e).1 ∙ sym (kind_name t e)) (kind_short t l) h

-- ---- a line into lent bytes

module _ (a : Answer) (lent : List ℕ) where
  pub too_few : length lent < length (line_of a) → (0 ≡ line_length a lent) × (lent ≡ line_bytes a lent)
  too_few l = let h = line_too_long a lent l in (sym h.0, sym h.1)

  pub enough : {m r : ℕ} {after : List ℕ} → length (line_of a) ≤ length lent → Put lent 0 (line_of a) m r after → (length (line_of a) ≡ line_length a lent) × (after ≡ line_bytes a lent)
  enough l h =
      let e = line_enough a lent l in
      (sym e.0, h.holds ∙ sets_front (line_of a) lent ∙ ap (λ (t : List ℕ). t ++ drop (length (line_of a)) lent) (take_all (length lent) (line_of a) l) ∙ sym e.1)
