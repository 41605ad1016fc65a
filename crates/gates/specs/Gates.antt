-- Gate lists for the switches (paper 02, request 13): for each link, gate octets and intervals that match the link's dispatch table.
use Rattle.std.specs.Prelude.{ℕ, zero, suc, ◌+◌, ◌-◌, ◌*◌, ◌^◌, true, false, cond, length, drop, ltb, leb, eqb}
use mathlib.Core.List.{List, ◌∷◌, ◌++◌, [], flat_map}
use Rattle.plan.specs.declared.Answer.{Answer}
use Rattle.plan.specs.declared.Table.TheVariants.{Cores, Links}
use Rattle.plan.specs.Image.{cycle_ticks, rows}
use Rattle.plan.specs.Questions.{queue_of, whole, questions, answer_to}
use Rattle.plan.specs.Dispatch.{Shown, shown_at, dispatch}
use Rattle.plan.specs.Boundary.{answer_number, words_of, bytes_of}

-- gates that stay as they are for an interval of ticks: bit q of the octet, bit 0 lowest, opens queue q
pub record Gate : Type 0 where
  pub octet : ℕ
  pub interval : ℕ

unfoldable pub gate : ℕ → ℕ → Gate
gate o k = record { octet = o; interval = k }

-- as words: octet and interval of each
unfoldable pub pairs : List Gate → List ℕ
pairs [] = []
pairs (g ∷ gs) = g.octet ∷ g.interval ∷ pairs gs

module _ (s : List ℕ) where
  -- open is the queue of the frame being sent, and no other
  unfoldable pub octet_of : Shown → ℕ
  octet_of sh = cond (eqb sh.kind 5) (2 ^ queue_of s sh.row) 0

  -- the octet of link l at tick t, by its lane
  unfoldable pub octet_at : ℕ → ℕ → ℕ
  octet_at l t = octet_of (shown_at s (rows s Cores + l) t)

  -- the gates of k ticks with octet o, then of n ticks from tick t on: equal neighbours are one
  unfoldable pub gates_from : ℕ → ℕ → ℕ → ℕ → ℕ → List Gate
  gates_from l o k t zero = gate o k ∷ []
  gates_from l o k t (suc n) =
      elim (eqb (octet_at l t) o) [ true ↦ gates_from l o (k + 1) (t + 1) n | false ↦ gate o k ∷ gates_from l (octet_at l t) 1 (t + 1) n ]

  unfoldable pub gates : ℕ → List Gate
  gates l = gates_from l (octet_at l 0) 1 1 (cycle_ticks s - 1)

  -- the words of a gate list: how many gates, then their pairs
  unfoldable pub gate_words : ℕ → List ℕ
  gate_words l = length (gates l) ∷ pairs (gates l)

  -- ---- into lent words: the answer, and the words afterwards

  unfoldable pub gate_answer : ℕ → List ℕ → Answer
  gate_answer l words =
      answer_to (questions s ++ whole 25 (ltb l (rows s Links)) ∷ whole 42 (leb (1 + 2 * length (gates l)) (length words)) ∷ [])

  unfoldable pub gated : ℕ → List ℕ → List ℕ
  gated l words = cond (eqb (gate_answer l words).number 0) (gate_words l ++ drop (length (gate_words l)) words) words

  -- ---- into lent bytes, four to a word: the number, and the bytes afterwards

  unfoldable pub gate_number : ℕ → List ℕ → ℕ
  gate_number l b = answer_number (gate_answer l (words_of b))

  unfoldable pub gate_bytes : ℕ → List ℕ → List ℕ
  gate_bytes l b = cond (eqb (gate_answer l (words_of b)).number 0) (flat_map (bytes_of 4) (gate_words l) ++ drop (4 * length (gate_words l)) b) b

-- All of the above, for a proof by computation: `unfolding gating` opens it.
unfoldable pub gating : Unit {0}
unfolding dispatch gate pairs octet_of octet_at gates_from gates gate_words gate_answer gated gate_number gate_bytes
gating = tt
