-- How long the dispatch tables of an accepted plan are at most (proved in proofs/Bounds.antt), and the text of any image.
use Rattle.std.specs.Prelude.{ℕ, ◌≤◌, ◌≡◌, List, length}
use Rattle.plan.specs.Search.{sum}
use Rattle.plan.specs.Questions.{answer_of, accepted}
use Rattle.plan.specs.Dispatch.{lanes, entry_count, table_of}
use Rattle.writing.specs.AllTables.{all_tables}
use Rattle.texts.specs.Printed.{printed}

-- a lane has at most 1 + 3×2,048 + 3×1,024 entries, in 2 + 3×9,217 words: one begins at tick 0, and where a piece or a window begins,
-- turns from its switch to the rest, or ends
abbrev pub LaneFits : Type 0
LaneFits = (image : List ℕ) → answer_of image ≡ accepted → (lane : ℕ) → (entry_count image lane ≤ 9217) × (length (table_of image lane) ≤ 27653)

-- all lanes together have at most one for each of 96 lanes, three for each of 2,048 pieces and 1,024 windows and two for each of 512 frames,
-- in 2×96 + 3×10,336 words
abbrev pub TablesFit : Type 0
TablesFit = (image : List ℕ) → answer_of image ≡ accepted → (sum (lanes image) (entry_count image) ≤ 10336) × (length (all_tables image) ≤ 31200)

-- a line of an entry has at most 17 bytes, so the text has at most 6 + 68 + 17×10,336 bytes; proved in proofs/Texts.antt
abbrev pub TextFits : Type 0
TextFits = (image : List ℕ) → length (printed image) ≤ 175786
