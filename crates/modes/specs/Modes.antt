-- Changing modes at a cycle's end (paper 02, request 14): plans held at places with their tables, starts, requests, and steps of all lanes
-- together.
use Rattle.std.specs.Prelude.{ℕ, zero, suc, ◌+◌, ◌*◌, ◌%◌, ◌^◌, Bool, ◌&&◌, cond, List, ◌∷◌, ◌++◌, [], length, get_or, take, drop, set, replicate, ltb, leb, eqb}
use Rattle.plan.specs.declared.Table.TheVariants.{Cores, Links}
use Rattle.plan.specs.declared.Answer.{Answer}
use Rattle.plan.specs.declared.LaneState.{LaneState}
use Rattle.plan.specs.Image.{cycle_ticks, rows}
use Rattle.plan.specs.Questions.{answer_to, whole, questions}
use Rattle.plan.specs.Dispatch.{start_state, starts_at, refusal, step_all, dispatch}
use Rattle.writing.specs.AllTables.{all_tables}
use Rattle.modes.specs.declared.HeldPlan.{HeldPlan}

-- ---- plans at places

-- places are 0 to 7; this number stands for none
abbrev pub places : ℕ
places = 8

-- what is kept of an image whose lanes' tables lie one after another from a word on
unfoldable pub held_of : List ℕ → ℕ → HeldPlan
held_of image word =
    record {
      ticks = cycle_ticks image;
      cores = rows image Cores;
      links = rows image Links;
      first = word;
      end = word + length (all_tables image);
    }

-- a place that holds no plan; every plan has a core
unfoldable pub no_plan : HeldPlan
no_plan = record { ticks = 0; cores = 0; links = 0; first = 0; end = 0 }

unfoldable pub is_plan : HeldPlan → Bool
is_plan h = ltb 0 h.cores

-- 44: the same H, core count and link count
unfoldable pub alike : HeldPlan → HeldPlan → Bool
alike h k = eqb h.ticks k.ticks && eqb h.cores k.cores && eqb h.links k.links

-- core lanes and link lanes
unfoldable pub lane_count : HeldPlan → ℕ
lane_count h = h.cores + h.links

module _ (plans : List HeldPlan) where
  -- what place p holds
  unfoldable pub plan : ℕ → HeldPlan
  plan p = get_or plans p no_plan

  -- 43
  unfoldable pub held : ℕ → Bool
  held p = ltb p places && is_plan (plan p)

-- a record at the table that begins at another word; all else stays
unfoldable pub at_table : ℕ → LaneState → LaneState
at_table word st = record { cycle = st.cycle; tick = st.tick; entry = st.entry; first = word; kind = st.kind; row = st.row }

module _ (words : List ℕ) where
  -- the word after the table that begins at a word, as a 32-bit number; the word at which lane l's table begins, where tables lie one
  -- after another from a word on
  unfoldable pub table_after : ℕ → ℕ
  table_after word = (word + 2 + 3 * get_or words (word + 1) 0) % 2 ^ 32

  unfoldable pub table_from : ℕ → ℕ → ℕ
  table_from word zero = word
  table_from word (suc l) = table_after (table_from word l)

  -- records, each at its own one of these tables
  unfoldable pub placed : ℕ → List LaneState → List LaneState
  placed word [] = []
  placed word (st ∷ sts) = at_table word st ∷ placed (table_after word) sts

  -- 26: the words up to an end are all there, and told by 32 bits, as a record tells them
  unfoldable pub suffice : ℕ → Bool
  suffice end = leb end (length words) && ltb end (2 ^ 32)

-- ---- what calls read and write

-- the place of the plan that runs, that of the request not yet taken, and a record for each lane
pub record Mode : Type 0 where
  pub running : ℕ
  pub wanted : ℕ
  pub row : List LaneState

-- no plan runs, none is requested
unfoldable pub idle : List LaneState → Mode
idle row = record { running = places; wanted = places; row = row }

-- what each place holds, how many words the tables take so far, and the words
pub record Shift : Type 0 where
  pub plans : List HeldPlan
  pub used : ℕ
  pub words : List ℕ
  pub mode : Mode

-- a call: holding an image at a place; a start of a place's plan in a cycle, over a row of so many records; a request; a step of all lanes
pub data Call : Type 0 where
  hold_plan : List ℕ → ℕ → Call
  start_plan : ℕ → ℕ → ℕ → Call
  request_plan : ℕ → Call
  step_lanes : Call

-- at first no place holds a plan
unfoldable pub fresh : List ℕ → List LaneState → Shift
fresh words row = record { plans = replicate places no_plan; used = 0; words = words; mode = idle row }

-- ---- holding a plan at a place

module _ (x : Shift) (image : List ℕ) (p : ℕ) where
  -- its tables lie behind those of the plans held so far, up to this word
  unfoldable pub words_end : ℕ
  words_end = x.used + length (all_tables image)

  -- the image's own questions, 43 whether there is such a place, and 26 whether the words that are left suffice
  unfoldable pub hold_answer : Answer
  hold_answer = answer_to (questions image ++ whole 43 (ltb p places) ∷ whole 26 (suffice x.words words_end) ∷ [])

  -- a plan held anew ends the run
  unfoldable pub holding : Shift
  holding =
      record {
        plans = set x.plans p (held_of image x.used);
        used = words_end;
        words = take x.used x.words ++ all_tables image ++ drop words_end x.words;
        mode = idle x.mode.row;
      }

-- ---- starts, requests and steps, over plans at places and the words with their tables

module _ (plans : List HeldPlan) (words : List ℕ) where
  -- where the table of a lane of place p's plan begins
  unfoldable pub table_at : ℕ → ℕ → ℕ
  table_at p l = table_from words (plan plans p).first l

  -- A start: 43, then 27 where the row has not one record for each lane or the tables are not in the words. It drops a request not yet
  -- taken.
  unfoldable pub start_number : ℕ → ℕ → ℕ
  start_number p records =
      cond (held plans p) (cond (eqb records (lane_count (plan plans p)) && leb (plan plans p).end (length words)) 0 27) 43

  unfoldable pub started : ℕ → ℕ → Mode
  started p c = record { running = p; wanted = places; row = starts_at (table_at p) c (lane_count (plan plans p)) }

  -- a request: 43, then 44, which no plan meets while none runs
  unfoldable pub request_number : Mode → ℕ → ℕ
  request_number m p = cond (held plans p) (cond (held plans m.running && alike (plan plans m.running) (plan plans p)) 0 44) 43

  unfoldable pub requested : Mode → ℕ → Mode
  requested m p = record { running = m.running; wanted = p; row = m.row }

  -- a plan is requested, and tick 0 is next
  unfoldable pub due : Mode → Bool
  due m = ltb m.wanted places && eqb (get_or m.row 0 (start_state 0 0)).tick 0

  -- a request that is due is taken on all lanes: each record is at its own table of that plan
  unfoldable pub taken : Mode → Mode
  taken m = cond (due m) (record { running = m.wanted; wanted = places; row = placed words (plan plans m.wanted).first m.row }) m

  -- A step of all lanes: 27 where no plan runs or the row has not one record for each lane, else what a step of all records gives. A
  -- refused step takes no request.
  unfoldable pub step_number : Mode → ℕ
  step_number m =
      cond (held plans m.running && eqb (length m.row) (lane_count (plan plans m.running))) (refusal words (taken m).row) 27

  unfoldable pub stepped : Mode → Mode
  stepped m = record { running = (taken m).running; wanted = (taken m).wanted; row = step_all words (taken m).row }

-- ---- what a call gives, and what it leaves

unfoldable pub gives : Shift → Call → ℕ
gives x (hold_plan image p) = (hold_answer x image p).number
gives x (start_plan p c records) = start_number x.plans x.words p records
gives x (request_plan p) = request_number x.plans x.words x.mode p
gives x step_lanes = step_number x.plans x.words x.mode

unfoldable pub in_mode : Shift → Mode → Shift
in_mode x m = record { plans = x.plans; used = x.used; words = x.words; mode = m }

-- where it gives 0
unfoldable pub moved : Shift → Call → Shift
moved x (hold_plan image p) = holding x image p
moved x (start_plan p c records) = in_mode x (started x.plans x.words p c)
moved x (request_plan p) = in_mode x (requested x.plans x.words x.mode p)
moved x step_lanes = in_mode x (stepped x.plans x.words x.mode)

-- a refused call changes nothing, so an earlier request stands
unfoldable pub leaves : Shift → Call → Shift
leaves x call = cond (eqb (gives x call) 0) (moved x call) x

unfoldable pub after : Shift → List Call → Shift
after x [] = x
after x (call ∷ cs) = after (leaves x call) cs

-- All of the above, for a proof by computation: `unfolding changing` opens it.
unfoldable pub changing : Unit {0}
unfolding dispatch all_tables held_of no_plan is_plan alike lane_count plan held at_table table_after table_from placed suffice idle fresh words_end hold_answer holding table_at start_number
    started request_number requested due taken step_number stepped gives in_mode moved leaves after
changing = tt
