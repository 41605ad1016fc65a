-- The line in words (paper 02, request 9): an answer as a line of printable ASCII, without its newline. It says what is wrong, then where.
use Rattle.std.specs.Prelude.{ℕ, ◌-◌, ◌^◌, ◌≤◌, ◌<◌, ◌≡◌, List, ◌∷◌, ◌++◌, [], Bool, ◌&&◌, cond, length, get_or, take, drop, ltb, leb}
use Prim.Native.String.{String, [] as none}
use Rattle.plan.specs.declared.Answer.{Answer}
use Rattle.texts.specs.Characters.{decimal, ascii, characters}

-- what each number says, from 0 on (papers 01 and 02)
unfoldable pub phrases : List String
phrases =
    "accepted, every question is answered yes"  -- 0
    ∷ "the image's length is out of bounds"
    ∷ "the last word does not point to the trailer"
    ∷ "row counts, offsets and trailer do not fit"
    ∷ "the cycle H or the precision P is out of range"
    ∷ "a row number names no existing row"  -- 5
    ∷ "a value is out of range"
    ∷ "a window is too short, or ends after H"
    ∷ "two windows on one core overlap"
    ∷ "a task's mask does not allow its VCPU's core"
    ∷ "no such job, or a piece too short, early or late"  -- 10
    ∷ "not in one window of its VCPU after the switch"
    ∷ "two pieces on one core overlap"
    ∷ "a job's pieces do not sum to budget and switches"
    ∷ "periods differ, or both tasks are on one node"
    ∷ "no such job or hop, or not in its job's period"  -- 15
    ∷ "a job's hop has no frame, or several"
    ∷ "the hops do not lead from sender to receiver"
    ∷ "may start before the previous hop has arrived"
    ∷ "two frames on one link overlap"
    ∷ "sent before the sender ends, or may be read early"  -- 20
    ∷ "may take longer than its latency"
    ∷ "periods differ, or the tasks are not on one node"
    ∷ "a reader job starts before the writer job ends"
    ∷ "two holds of one buffer overlap"
    ∷ "there is no such lane or link"  -- 25
    ∷ "too few words are lent"
    ∷ "a state does not fit its bytes or its words"
    ∷ "the calendar is over"
    ∷ "one of its tasks does not exist, or both are one"
    ∷ "no path joins its tasks"  -- 30
    ∷ "a job may take longer than the limit"
    ∷ "a row is out of order, below the one before it"
    ∷ "no draft with true totals, or no such piece"
    ∷ "no such free place, or too few words are lent"
    ∷ "H, P, cores, VCPUs, windows or links differ"  -- 35
    ∷ "the shared tasks differ, or are not in both plans"
    ∷ "too many rows, or too few bytes are lent"
    ∷ "no register has this address"
    ∷ "the count is read only"
    ∷ "the queue is out of range"  -- 40
    ∷ "two frames stay in one queue of a link at once"
    ∷ "too few words are lent for the gate list"
    ∷ "no plan is held at that place"
    ∷ "H, core or link count is not the running plan's"
    ∷ []

-- and any other number
unfoldable pub unknown : String
unknown = "no question has this number"

unfoldable pub phrase : ℕ → List ℕ
phrase n = ascii (get_or phrases n unknown)

-- the rows' kinds, from table 1 on
unfoldable pub kinds : List String
kinds = "core" ∷ "VCPU" ∷ "task" ∷ "window" ∷ "piece" ∷ "link" ∷ "stream" ∷ "frame" ∷ "buffer" ∷ "chain" ∷ []

unfoldable pub named : ℕ → Bool
named t = ltb 0 t && leb t (length kinds)

-- a kind by name, "piece"; a table number without a name stands in decimal, "table 0, row"
unfoldable pub kind : ℕ → List ℕ
kind t = cond (named t) (ascii (get_or kinds (t - 1) none)) (ascii "table " ++ (decimal t ++ ascii ", row"))

-- "piece 7", "table 0, row 0"
unfoldable pub place : ℕ → ℕ → List ℕ
place t r = kind t ++ (ascii " " ++ decimal r)

-- "two pieces on one core overlap (answer 12, piece 7)", "accepted, every question is answered yes (answer 0, table 0, row 0)"
unfoldable pub line_of : Answer → List ℕ
line_of a = phrase a.number ++ (ascii " (answer " ++ (decimal a.number ++ (ascii ", " ++ (place a.table a.row ++ ascii ")"))))

-- ---- into lent bytes, for C: the line's length, or 0 where the bytes are fewer; later bytes stay as they were, and all where it is 0

unfoldable pub line_length : Answer → List ℕ → ℕ
line_length a lent = cond (leb (length (line_of a)) (length lent)) (length (line_of a)) 0

unfoldable pub line_bytes : Answer → List ℕ → List ℕ
line_bytes a lent = cond (leb (length (line_of a)) (length lent)) (line_of a ++ drop (length (line_of a)) lent) lent

-- ---- what is said of lines, proved in proofs/Fitting.antt and Differing.antt

-- so many bytes suffice for every line; with a newline it has at most 96
abbrev pub line_most : ℕ
line_most = 95

pub record LineFits (line : List ℕ) : Type 0 where
  pub some : 1 ≤ length line
  pub short : length line ≤ line_most
  pub printable : (i : ℕ) → i < length line → (32 ≤ get_or line i 0) × (get_or line i 0 ≤ 126)

-- any three 32-bit words are an answer
pub record ThreeWords (a : Answer) : Type 0 where
  pub number : a.number < 2 ^ 32
  pub table : a.table < 2 ^ 32
  pub row : a.row < 2 ^ 32

abbrev pub LinesFit : Type 0
LinesFit = (a : Answer) → ThreeWords a → LineFits (line_of a)

-- two different answers never give equal lines
abbrev pub LinesDiffer : Type 0
LinesDiffer = (a b : Answer) → line_of a ≡ line_of b → a ≡ b

-- nor do two numbers that have a phrase give equal phrases
abbrev pub PhrasesDiffer : Type 0
PhrasesDiffer = (m n : ℕ) → m < length phrases → n < length phrases → phrase m ≡ phrase n → m ≡ n

-- no refusal's line begins as the line of an accepted plan does
abbrev pub OnlyZeroAccepts : Type 0
OnlyZeroAccepts = (a : Answer) → take 8 (line_of a) ≡ ascii "accepted" → a.number ≡ 0

-- a caller knows by the length what the bytes hold: the line and then what they held before, or all that they held before; 0 is no line's length
pub record LineLent (a : Answer) (lent : List ℕ) : Type 0 where
  pub line : 1 ≤ line_length a lent → (line_length a lent ≡ length (line_of a)) × (line_bytes a lent ≡ line_of a ++ drop (length (line_of a)) lent)
  pub kept : line_length a lent ≡ 0 → (length lent < length (line_of a)) × (line_bytes a lent ≡ lent)
  pub room : ThreeWords a → line_most ≤ length lent → 1 ≤ line_length a lent

abbrev pub LinesLent : Type 0
LinesLent = (a : Answer) (lent : List ℕ) → LineLent a lent

-- All of the above, for a proof by computation: `unfolding wording` opens it.
unfoldable pub wording : Unit {0}
unfolding characters phrases unknown phrase kinds named kind place line_of line_length line_bytes
wording = tt
