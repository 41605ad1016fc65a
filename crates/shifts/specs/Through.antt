-- Changing modes through C (paper 02, request 14), from rd_modes_fresh on: lists of rd_modes_hold, rd_modes_start, rd_modes_request and
-- rd_modes_step, each over the bytes that the last one left. They are calls of modes, so all that is claimed of those holds of them.
use Rattle.std.specs.Prelude.{ℕ, ◌+◌, ◌*◌, ◌/◌, ◌%◌, ◌^◌, ◌≤◌, ◌<◌, ◌≡◌, cond, length, take, drop, eqb}
use mathlib.Core.List.{List, ◌∷◌, [], map, flat_map}
use Rattle.plan.specs.Image.{cycle_ticks}
use Rattle.plan.specs.Questions.{answer_of, accepted}
use Rattle.plan.specs.Dispatch.{lanes, shown_at}
use Rattle.plan.specs.Boundary.{words_of, bytes_of}
use Rattle.loading.specs.Loaded.{AreBytes, row_bytes, shown_bytes}
use Rattle.modes.specs.Modes as Modes
use Rattle.modes.specs.Modes.{places, Shift, Call, fresh, gives, after}
use Rattle.modes.specs.Claim.{blank, seen, images_after}
use Rattle.modeblock.specs.Blocks.{held_words, modes_fresh_block, modes_hold_answer, modes_hold_words, modes_hold_block, modes_start_number, modes_start_states, modes_start_block, modes_request_number, modes_request_block, modes_step_number, modes_step_states, modes_step_block}

-- the three buffers: the block, the words, and the row of states that the last start lent
pub record Lent : Type 0 where
  pub block : List ℕ
  pub words : List ℕ
  pub states : List ℕ

-- a call through C; a start is lent a row of any bytes
pub data Lending : Type 0 where
  hold : List ℕ → ℕ → Lending
  start : ℕ → ℕ → List ℕ → Lending
  request : ℕ → Lending
  step : Lending

-- how many records a row has, 28 bytes each; one with a part of a record has none, and no plan has no lane
unfoldable pub records_in : List ℕ → ℕ
records_in row = cond (eqb (length row % 28) 0) (length row / 28) 0

unfoldable pub call_of : Lending → Call
call_of (hold image p) = Modes.hold_plan image p
call_of (start p c row) = Modes.start_plan p c (records_in row)
call_of (request p) = Modes.request_plan p
call_of step = Modes.step_lanes

-- numbers of the widths that they have in C
abbrev pub InC : Lending → Type 0
InC (hold image p) = p < 2 ^ 32
InC (start p c row) = (p < 2 ^ 32) × (c < 2 ^ 64)
InC (request p) = p < 2 ^ 32
InC step = Unit {0}

abbrev pub AllInC : List Lending → Type 0
AllInC [] = Unit {0}
AllInC (call ∷ cs) = InC call × AllInC cs

unfoldable pub gives_lent : Lent → Lending → ℕ
gives_lent y (hold image p) = (modes_hold_answer y.block image p y.words).number
gives_lent y (start p c row) = modes_start_number y.block p c y.words row
gives_lent y (request p) = modes_request_number y.block p
gives_lent y step = modes_step_number y.block y.words y.states

-- where a start is refused, the row that was lent before is still the one to step
unfoldable pub leaves_lent : Lent → Lending → Lent
leaves_lent y (hold image p) =
    record { block = modes_hold_block y.block image p y.words; words = modes_hold_words y.block image p y.words; states = y.states }
leaves_lent y (start p c row) =
    record {
      block = modes_start_block y.block p c y.words row;
      words = y.words;
      states = cond (eqb (gives_lent y (start p c row)) 0) (modes_start_states y.block p c y.words row) y.states;
    }
leaves_lent y (request p) = record { block = modes_request_block y.block p; words = y.words; states = y.states }
leaves_lent y step =
    record { block = modes_step_block y.block y.words y.states; words = y.words; states = modes_step_states y.block y.words y.states }

unfoldable pub after_lent : Lent → List Lending → Lent
after_lent y [] = y
after_lent y (call ∷ cs) = after_lent (leaves_lent y call) cs

-- the bytes of a block
unfoldable pub block_of : Shift → List ℕ
block_of x = flat_map (bytes_of 4) (x.mode.running ∷ x.mode.wanted ∷ x.used ∷ flat_map held_words x.plans)

-- bytes that stand for a shift
pub record StandsFor (y : Lent) (x : Shift) : Type 0 where
  pub block : y.block ≡ block_of x
  pub words : words_of y.words ≡ x.words
  pub states : y.states ≡ row_bytes x.mode.row

-- any block of the right length is made fresh, over any bytes of words; no row was lent yet
unfoldable pub begun : List ℕ → List ℕ → Lent
begun b words = record { block = modes_fresh_block b; words = words; states = [] }

module _ (b words : List ℕ) (calls : List Lending) where
  abbrev pub lent : Lent
  lent = after_lent (begun b words) calls

  abbrev pub now : Shift
  now = after (fresh (words_of words) []) (map call_of calls)

  -- after every list of calls through C the bytes stand for what the calls leave, and the next call gives what it gives; a hold its whole
  -- answer
  abbrev pub ModesThroughC : Type 0
  ModesThroughC =
      length b ≡ 172 → AreBytes words → AllInC calls
      → StandsFor lent now × ((call : Lending) → InC call → gives_lent lent call ≡ gives now (call_of call))
      × ((image : List ℕ) (p : ℕ) → modes_hold_answer lent.block image p lent.words ≡ Modes.hold_answer now image p)

  -- so a step that gives 0 leaves in bytes 20 to 27 of each record the kind and row that the running plan has at the tick shown
  abbrev pub ShownThroughC : Type 0
  ShownThroughC =
      length b ≡ 172 → AreBytes words → AllInC calls → gives_lent lent step ≡ 0
      → let x = after now (Modes.step_lanes ∷ []) in
      let g = seen (fresh (words_of words) []) blank (map call_of calls) in
      let s = images_after (fresh (words_of words) []) (λ _. []) (map call_of calls) x.mode.running in
      (l : ℕ) → l < lanes s
      → take 8 (drop (28 * l + 20) (leaves_lent lent step).states) ≡ shown_bytes (shown_at s l (length g.ticks % cycle_ticks s))

-- 31,200 words for each plan that is held suffice (RD_ALL_LANES_WORDS of the header)
abbrev pub RoomToHold : Type 0
RoomToHold =
    (x : Shift) (image : List ℕ) (p : ℕ) → answer_of image ≡ accepted → p < places → x.used + 31200 ≤ length x.words → length x.words < 2 ^ 32
    → (gives x (Modes.hold_plan image p) ≡ 0) × ((Modes.holding x image p).used ≤ x.used + 31200)

-- All of the above, for a proof by computation: `unfolding lending` opens it.
unfoldable pub lending : Unit {0}
unfolding records_in call_of gives_lent leaves_lent after_lent block_of begun
lending = tt
