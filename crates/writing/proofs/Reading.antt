-- Tables in bytes, read as words: they are those that table building leaves in words, and each lane's is where the lengths say.
use Prim.Native.Nat.{ℕ, zero, suc, ◌+◌, ◌*◌, ◌≤◌, ◌<◌}
use mathlib.Core.Path.{◌≡◌, refl, ap, ◌∙◌}
use mathlib.Core.Logic.{◌≢◌}
use mathlib.Core.List.{List, ◌++◌}
use native.Mathlib.Omega.{arith}
use native.Mathlib.Decide.{dec_lt}
use lib.ListN.{length, take, drop}
use borrow.Author.Tests.{eq-eqb, ne_eqb}
use Rattle.plan.specs.declared.Answer.{Answer}
use Rattle.plan.specs.Questions.{answer_of, accepted}
use Rattle.plan.specs.Dispatch.{lanes, table_of, tables_below, first_word, entry_count, build_answer, built}
use Rattle.plan.specs.Boundary.{words_of, build_bytes}
use Rattle.plan.proofs.Numbers.{accepted_of}
use Rattle.plan.proofs.Starts.{below_lies, starts_many, start_at}
use Rattle.lanes.proofs.Building.{built_accepted, build_no_lane, build_short}
use Rattle.writing.specs.Stored.{BuiltBytes}
use Rattle.writing.specs.AllTables.{all_tables, all_answer, all_bytes, AllLie, AllReady}
use Rattle.words.proofs.Words.{words_length, words_row, words_drop}
use Rattle.writing.proofs.Tables.{table_length}
use Rattle.writing.proofs.AllTables.{all_refused}
use Rattle.writing.proofs.Fitting.{table_fits, below_fits}

-- ---- one lane's table

-- the words suffice where a build gives 0
pub built_fits : (s : List ℕ) (lane : ℕ) (words : List ℕ) → (build_answer s lane words).number ≡ 0 → length (table_of s lane) ≤ length words
built_fits s lane words e = go (dec_lt lane (lanes s)) (dec_lt (length words) (2 + 3 * entry_count s lane))
  where
    a : answer_of s ≡ accepted
    a = built_accepted s lane words e

    go : Dec (lane < lanes s) → Dec (length words < 2 + 3 * entry_count s lane) → length (table_of s lane) ≤ length words
    go (yes l) (yes h) = absurd (omega (arith, ap (λ (r : Answer). r.number) (build_short s lane words a l h).answer ∙ e))
    go (yes l) (no h) = omega (arith, table_length s lane)
    go (no l) d = absurd (omega (arith, ap (λ (r : Answer). r.number) (build_no_lane s lane words a (omega arith)).answer ∙ e))

pub built_bytes : BuiltBytes
unfolding build_bytes built
built_bytes s lane b = go (build_answer s lane (words_of b)).number refl
  where
    go : (n : ℕ) → (build_answer s lane (words_of b)).number ≡ n → words_of (build_bytes s lane b) ≡ built s lane (words_of b)
    go zero e =
        let t = table_of s lane in
        rw (eq-eqb (build_answer s lane (words_of b)).number 0 e)
        (words_row t (drop (4 * length t) b) (table_fits s (built_accepted s lane (words_of b) e) lane)
        ∙ ap (λ (x : List ℕ). t ++ x) (words_drop (length t) b (omega (arith, built_fits s lane (words_of b) e, words_length b))))
    go (suc n) e = rw (ne_eqb (build_answer s lane (words_of b)).number 0 (λ z. absurd (omega arith))) refl

-- ---- the tables of all lanes

-- only an accepted plan is built
pub all_accepted : (s b : List ℕ) → (all_answer s b).number ≡ 0 → answer_of s ≡ accepted
all_accepted s b e = go (answer_of s).number refl
  where
    go : (n : ℕ) → (answer_of s).number ≡ n → answer_of s ≡ accepted
    go zero q = accepted_of s q
    go (suc n) q =
        let h : (answer_of s).number ≢ 0 = λ z. absurd (omega arith) in
        absurd (h (ap (λ (a : Answer). a.number) (all_refused s b h).answer ∙ e))

pub all_lie : AllLie
unfolding all_bytes all_tables
all_lie s b lane e l =
    let r : List ℕ = drop (4 * length (tables_below s (lanes s))) b in
    let f : words_of (all_bytes s b) ≡ tables_below s (lanes s) ++ words_of r =
    rw (eq-eqb (all_answer s b).number 0 e) (words_row (tables_below s (lanes s)) r (below_fits s (all_accepted s b e) (lanes s))) in
    ap (λ (x : List ℕ). take (length (table_of s lane)) (drop (first_word s lane) x)) f ∙ below_lies s lane (lanes s) (words_of r) l

pub all_ready : AllReady
all_ready s b c h e =
    record {
      plan = all_accepted s b e;
      in_calendar = h;
      records = starts_many (first_word s) c (lanes s);
      starts = λ l k. (first_word s l, start_at (first_word s) c (lanes s) l _ k, all_lie s b l e k);
    }
