-- The pieces of a draft gathered for question 33: by the ranks that stand with them, and by cores.
use Rattle.std.specs.Prelude.{Option, Some, None, ℕ, zero, suc, ◌+◌, ◌*◌, ◌^◌, ◌≡◌, Bool, ◌&&◌, ◌||◌, cond, List, length, get_or, set, ltb, leb, eqb}
use Rattle.plan.specs.declared.Piece.{Piece}
use Rattle.totals.specs.declared.Climb.{Climb}
use Rattle.tallies.specs.Tallies.{tally, Kept}
use Rattle.drafts.specs.Drafts.{places, is_of, task_core, core_switch, core_total, piece_at, rank_at, total_at, is_free}

-- where a piece is gathered: at its rank, at its core; past them where its place is free
unfoldable pub rank_slot : List ℕ → ℕ → ℕ
rank_slot w p = cond (is_free w p) places (rank_at w p)

unfoldable pub core_slot : List ℕ → ℕ → ℕ
core_slot w p = cond (is_free w p) 32 (task_core w (piece_at w p).task)

module _ (w : List ℕ) (n : ℕ) where
  -- of the places below n: how many pieces have a rank, their length, and the highest place of them; a core's piece ticks
  unfoldable pub count_of : ℕ → ℕ
  count_of = tally ◌+◌ 0 (rank_slot w) (λ _. 1) n

  unfoldable pub length_of : ℕ → ℕ
  length_of = tally ◌+◌ 0 (rank_slot w) (λ p. (piece_at w p).length) n

  unfoldable pub last_of : ℕ → ℕ
  last_of = tally (λ _ p. p) 0 (rank_slot w) (λ p. p) n

  unfoldable pub ticks_of : ℕ → ℕ
  ticks_of = tally ◌+◌ 0 (core_slot w) (λ p. (piece_at w p).length) n

-- what the lent words then hold: 2,048 counts, 2,048 lengths, 2,048 places
pub record Gathered (w g : List ℕ) (n : ℕ) : Type 0 where
  pub room : length g ≡ 6144
  pub counts : Kept g 0 2048 (count_of w n)
  pub lengths : Kept g 2048 2048 (length_of w n)
  pub lasts : Kept g 4096 2048 (last_of w n)

-- a piece of a rank taken in
unfoldable pub taken_at : List ℕ → ℕ → ℕ → ℕ → List ℕ
taken_at g r l p = set (set (set g r (get_or g r 0 + 1)) (2048 + r) (get_or g (2048 + r) 0 + l)) (4096 + r) p

-- a place is free, or there is a word for its rank, the last piece of that rank is of the same job, and the total is the rank's length
unfoldable pub place_seen : List ℕ → ℕ → Bool
place_seen w p =
    let x = piece_at w p in let r = rank_at w p in let y = piece_at w (last_of w places r) in
    is_free w p || (ltb r places && is_of y.task y.job x && eqb (total_at w p) (length_of w places r))

-- a job in one number, so that lower jobs have lower numbers
unfoldable pub job_key : Piece → ℕ
job_key x = 2 ^ 32 * x.task + x.job

module _ (w : List ℕ) where
  -- a rank taken in: where it has pieces, as many pieces are of lower ranks as it says, and its job is above the one before
  unfoldable pub climb_at : ℕ → Climb → Option Climb
  climb_at r c =
      let m = last_of w places r in let next : Climb = record { seen = c.seen + count_of w places r; last = m } in
      cond (eqb (count_of w places r) 0) (Some c)
      (cond (eqb c.seen r && (eqb r 0 || ltb (job_key (piece_at w c.last)) (job_key (piece_at w m)))) (Some next) None)

  -- the ranks below n, where each is as it must be
  unfoldable pub climbed : ℕ → Option Climb
  climbed zero = Some (record { seen = 0; last = 0 })
  climbed (suc n) = elim (climbed n) [ Some c ↦ climb_at n c | None ↦ None ]

-- what 32 lent words hold: each core's piece ticks
pub record CoreSums (w g : List ℕ) (n : ℕ) : Type 0 where
  pub room : length g ≡ 32
  pub ticks : Kept g 0 32 (ticks_of w n)

-- a core's switch ticks are in range, and its total is what is gathered for it
unfoldable pub core_seen : List ℕ → ℕ → Bool
core_seen w c = leb (core_switch w c) 1000 && eqb (core_total w c) (ticks_of w places c)
