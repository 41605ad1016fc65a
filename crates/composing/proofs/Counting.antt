-- Rows counted table by table.
use Rattle.std.proofs.Common.{Some, None}
use Prim.Native.Nat.{ℕ, suc, ◌+◌, ◌*◌, ◌≤◌, ◌<◌}
use mathlib.Core.Path.{◌≡◌, refl, sym, ap, ◌∙◌, subst}
use mathlib.Core.Bool.{Bool, true, false, ◌&&◌, true≢false}
use mathlib.Core.List.{List, ◌∷◌, ◌++◌, [], flat_map}
use native.Mathlib.Omega.{arith}
use native.Mathlib.Decide.{dec_lt}
use lib.Dec.{leb}
use lib.ListN.{length, get_or, set, take, drop, length-append, length-set}
use lib.Seq.{split_at}
use borrow.Author.Tests.{le-leb, lt-leb}
use Rattle.plan.specs.declared.Table.{Table}
use Rattle.plan.specs.declared.Table.TheVariants.{Cores}
use Rattle.plan.specs.declared.Shape.{Shape}
use Rattle.plan.specs.Image.{shape, tables, trailer_bytes}
use Rattle.joins.specs.Joins.{table_words, rows_fit}
use Rattle.joins.proofs.Laying.{trailer_is}
use Rattle.tables.specs.Tables.{table_count, table_at}
use Rattle.tables.proofs.Shapes.{row_words}
use Rattle.tallies.specs.Tallies.{Kept}
use Rattle.tallies.proofs.Tallying.{kept_none, kept_on, kept_at}
use Rattle.picking.proofs.Picks.{most_low}
use Rattle.composing.specs.Composing.{Tallied, Counted}
use Rattle.composing.proofs.Writing.{fit_append, table_next, all_tables, words_to, words_first, words_next, words_all}

and_no : (c : Bool) → c && false ≡ false
and_no true = refl
and_no false = refl

module _ (rs : Table → List (List ℕ)) where
  pub record Counting (counts : List ℕ) (bytes i : ℕ) : Type 0 where
    pub size : length counts ≡ table_count
    pub kept : Kept counts 0 i (λ k. length (rs (table_at k)))
    pub are : bytes ≡ 92 + 4 * length (words_to rs i)
    pub fit : rows_fit rs (take i tables) ≡ true
    pub low : bytes ≤ 92 + i * 65536

  pub count_none : (counts : List ℕ) → length counts ≡ table_count → Counting counts 92 0
  unfolding rows_fit
  count_none counts e =
      record {
        size = e;
        kept = kept_none counts 0 (λ k. length (rs (table_at k))) (omega arith);
        are = ap (λ (ws : List ℕ). 92 + 4 * length ws) (sym (words_first rs));
        fit = refl;
        low = omega arith;
      }

  one_fits : (t : Table) → rows_fit rs (t ∷ []) ≡ leb (length (rs t)) (shape t).most
  unfolding rows_fit
  one_fits t = go (leb (length (rs t)) (shape t).most)
    where
      go : (c : Bool) → c && true ≡ c
      go true = refl
      go false = refl

  fit_next : (i : ℕ) → i < table_count → rows_fit rs (take i tables) ≡ true → length (rs (table_at i)) ≤ (shape (table_at i)).most → rows_fit rs (take (i + 1) tables) ≡ true
  fit_next i l h k =
      ap (rows_fit rs) (table_next i l) ∙ fit_append rs (take i tables) (table_at i ∷ []) ∙ rw (h, one_fits (table_at i), le-leb (length (rs (table_at i))) (shape (table_at i)).most k) refl

  -- a table of which the row count is too high
  fit_no : (i : ℕ) → i < table_count → (shape (table_at i)).most < length (rs (table_at i)) → rows_fit rs tables ≡ false
  fit_no i l k = ap (rows_fit rs) split ∙ fit_append rs (take i tables) (table_at i ∷ drop (suc i) tables) ∙ rw (here) (and_no (rows_fit rs (take i tables)))
    where
      split : tables ≡ take i tables ++ table_at i ∷ drop (suc i) tables
      split = unfold table_at tables in (split_at tables i Cores l)

      here : rows_fit rs (table_at i ∷ drop (suc i) tables) ≡ false
      here = unfold rows_fit in (rw (lt-leb (length (rs (table_at i))) (shape (table_at i)).most k) refl)

  count_turn : (counts : List ℕ) (bytes i n w : ℕ) → Counting counts bytes i → i < table_count → n ≡ length (rs (table_at i)) → w ≡ (shape (table_at i)).width → n ≤ (shape (table_at i)).most
      → length (flat_map (λ x. x) (rs (table_at i))) ≡ (shape (table_at i)).width * n → Counting (set counts i n) (bytes + 4 * (w * n)) (i + 1)
  count_turn counts bytes i n w h l e d k f =
      let g : w * n ≡ (shape (table_at i)).width * n = ap (λ (v : ℕ). v * n) d in
      record {
        size = length-set counts i n ∙ h.size;
        kept = kept_on counts i (λ k. length (rs (table_at k))) h.kept (omega (arith, h.size)) n e;
        are = omega (arith, h.are, ap length (words_next rs i l) ∙ length-append (words_to rs i) (flat_map (λ x. x) (rs (table_at i))), f);
        fit = fit_next i l h.fit (omega arith);
        low = omega (arith, h.low, row_words (table_at i) n, most_low (table_at i));
      }

  -- the same of a table and a shape that stand for the i-th table's
  module _ (t : Table) (i n : ℕ) (sh : Shape) (e : t ≡ table_at i) (d : sh ≡ shape t) where
    pub turn_small : n ≤ sh.most → 4 * (sh.width * n) ≤ 65536
    turn_small k =
        let g : sh.width * n ≡ (shape t).width * n = ap (λ (v : Shape). v.width * n) d in
        omega (arith, row_words t n, most_low t, ap (λ (v : Shape). v.most) d)

    pub turn_on : (counts : List ℕ) (bytes : ℕ) → Counting counts bytes i → i < table_count → n ≡ length (rs t) → n ≤ sh.most
        → length (flat_map (λ x. x) (rs t)) ≡ (shape t).width * n → Counting (set counts i n) (bytes + 4 * (sh.width * n)) (i + 1)
    turn_on counts bytes h l q k f =
        count_turn counts bytes i n sh.width h l (q ∙ ap (λ (u : Table). length (rs u)) e) (ap (λ (v : Shape). v.width) d ∙ ap (λ (u : Table). (shape u).width) e)
        (omega (arith, ap (λ (v : Shape). v.most) d ∙ ap (λ (u : Table). (shape u).most) e))
        (subst (λ (u : Table). length (flat_map (λ x. x) (rs u)) ≡ (shape u).width * n) e f)

    pub turn_no : (counts : List ℕ) → i < table_count → n ≡ length (rs t) → sh.most < n → Counted rs counts None
    turn_no counts l q k =
        record {
          fits = λ z. absurd (true≢false (sym z ∙ fit_no i l (omega (arith, q ∙ ap (λ (u : Table). length (rs u)) e, ap (λ (v : Shape). v.most) d ∙ ap (λ (u : Table). (shape u).most) e))));
          exceeds = λ _. refl;
        }

  pub count_done : (counts : List ℕ) (bytes i : ℕ) → Counting counts bytes i → i ≡ table_count → Counted rs counts (Some bytes)
  count_done counts bytes i h e =
      record {
        fits = λ _. (let q : bytes ≡ trailer_bytes + 4 * length (table_words rs tables) = omega (arith, trailer_is, h.are, ap (λ (k : ℕ). length (words_to rs k)) e ∙ ap length (words_all rs)) in ap (λ (k : ℕ). Some k) q, subst (λ (k : ℕ). Kept counts 0 k (λ k. length (rs (table_at k)))) e h.kept);
        exceeds = λ q. absurd (true≢false (sym h.fit ∙ ap (λ (k : ℕ). rows_fit rs (take k tables)) e ∙ ap (rows_fit rs) all_tables ∙ q));
      }

  -- counts in bounds are small
  pub counts_small : (counts : List ℕ) → Tallied rs counts → rows_fit rs tables ≡ true → (i : ℕ) → i < table_count → get_or counts i 0 ≤ 2048
  counts_small counts h e i l = let k = kept_at counts table_count (λ k. length (rs (table_at k))) h i l in go (dec_lt (shape (table_at i)).most (length (rs (table_at i))))
    where
      go : Dec ((shape (table_at i)).most < length (rs (table_at i))) → get_or counts i 0 ≤ 2048
      go (yes q) = absurd (true≢false (sym e ∙ fit_no i l q))
      go (no q) = omega (arith, kept_at counts table_count (λ k. length (rs (table_at k))) h i l, most_low (table_at i))
