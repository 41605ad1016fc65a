use Rattle.edits.proofs.Removing.{remove_room, emptied_ready, is_counted, less_ready, ends_freed}
use Rattle.edits.proofs.take_piece.Goals as goal

pub piece_at-piece-requires : goal.piece_at-piece-requires
piece_at-piece-requires c = let a = c.args in let r = remove_room a.words.now a.place c.requires in (r.0, r.1)

pub task_core-core-requires : goal.task_core-core-requires
task_core-core-requires c = let a = c.args in let r = remove_room a.words.now a.place c.requires in (r.0, rw c.piece_at-piece.ensures r.2)

pub clear_place-requires : goal.clear_place-requires
clear_place-requires c = let a = c.args in let r = remove_room a.words.now a.place c.requires in (r.0, r.1)

pub count_all-requires : goal.count_all-requires
count_all-requires c = let a = c.args in emptied_ready a.words.now a.place c.requires _ _ c.piece_at-piece.ensures c.clear_place.ensures

pub count_core-requires : goal.count_core-requires
count_core-requires c = let a = c.args in let e = c.requires in let k = c.piece_at-piece.ensures in let both = less_ready a.words.now a.place e _ _ _ k (is_counted a.words.now a.place e _ _ _ k c.clear_place.ensures c.count_all.ensures) c.task_core-core.ensures in record { draft_words_in_bounds = both.0; ticks_bound = both.1 }

pub returns : goal.returns
returns c = let a = c.args in let e = c.requires in let k = c.piece_at-piece.ensures in ends_freed a.words.now a.place e _ _ _ _ k (is_counted a.words.now a.place e _ _ _ k c.clear_place.ensures c.count_all.ensures) c.task_core-core.ensures c.count_core.ensures
