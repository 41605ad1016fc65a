use mathlib.Core.Path.{◌≡◌}
use mathlib.Core.Bool.{not, ◌&&◌}
use Rattle.plan.specs.Search.{count}
use Rattle.drafts.specs.Drafts.{is_below, piece_at, is_free}
use Rattle.counting.proofs.rank_of.Given as goal

abbrev pub invariant-loop-place : goal.invariant-loop-place
invariant-loop-place l = l.rank ≡ count l.place (λ q. not (is_free l.words q) && is_below l.piece.task l.piece.job (piece_at l.words q))
