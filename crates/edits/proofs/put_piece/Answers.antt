use Prim.Native.Nat.{ℕ}
use mathlib.Core.Path.{ap, ◌∙◌}
use mathlib.Core.List.{List}
use native.Mathlib.Omega.{arith}
use lib.Seq.{sets}
use Rattle.drafts.specs.Drafts.{place_at}
use Rattle.drafts.specs.Edits.{piece_words}
use Rattle.edits.proofs.Adding.{add_room, add_countable, own_fits, counted_room, stored_room, core_ready, is_placed, ends_put}
use Rattle.edits.proofs.put_piece.Goals as goal

pub task_core-core-requires : goal.task_core-core-requires
task_core-core-requires c = let a = c.args in let r = add_room a.words.now a.place a.piece c.requires in (r.0, r.2)

pub rank_of-rank-requires : goal.rank_of-rank-requires
rank_of-rank-requires c = let a = c.args in (add_room a.words.now a.place a.piece c.requires).0

pub stored_total-requires : goal.stored_total-requires
stored_total-requires c = let a = c.args in (add_room a.words.now a.place a.piece c.requires).0

pub overflow_add-total : goal.overflow_add-total
overflow_add-total c = let a = c.args in let h = own_fits a.words.now a.place a.piece c.requires in omega (arith, c.stored_total.ensures)

pub count_all-requires : goal.count_all-requires
count_all-requires c = let a = c.args in let e = c.requires in ((add_room a.words.now a.place a.piece e).0, add_countable a.words.now a.place a.piece e)

pub store_place-requires : goal.store_place-requires
store_place-requires c = let a = c.args in let e = c.requires in (counted_room a.words.now a.place a.piece e _ c.count_all.ensures, (add_room a.words.now a.place a.piece e).1)

pub store_sums-requires : goal.store_sums-requires
store_sums-requires c = let a = c.args in let e = c.requires in (stored_room a.words.now a.place a.piece e _ (c.store_place.ensures ∙ ap (λ (v : List ℕ). sets v (place_at a.place) (piece_words a.piece)) c.count_all.ensures), (add_room a.words.now a.place a.piece e).1)

pub count_core-requires : goal.count_core-requires
count_core-requires c = let a = c.args in let e1 = c.count_all.ensures in let e2 = c.store_place.ensures ∙ ap (λ (v : List ℕ). sets v (place_at a.place) (piece_words a.piece)) e1 in let e3 = is_placed a.words.now a.place a.piece c.requires _ _ _ _ e2 c.rank_of-rank.ensures c.stored_total.ensures c.store_sums.ensures in let both = core_ready a.words.now a.place a.piece c.requires _ _ e3 c.task_core-core.ensures in record { draft_words_in_bounds = both.0; ticks_bound = both.1 }

pub returns : goal.returns
returns c = let a = c.args in let e1 = c.count_all.ensures in let e2 = c.store_place.ensures ∙ ap (λ (v : List ℕ). sets v (place_at a.place) (piece_words a.piece)) e1 in let e3 = is_placed a.words.now a.place a.piece c.requires _ _ _ _ e2 c.rank_of-rank.ensures c.stored_total.ensures c.store_sums.ensures in ends_put a.words.now a.place a.piece c.requires _ _ _ e3 c.task_core-core.ensures c.count_core.ensures
