-- What holds of drafts (paper 02, request 6): after any list of edits, and of any words.
use Rattle.std.specs.Prelude.{ℕ, ◌+◌, ◌<◌, ◌≤◌, ◌≡◌, ◌≢◌, Bool, true, false, ◌&&◌, ◌||◌, cond, List, ◌∷◌, ◌++◌, [], length, get_or, take, ltb, leb, eqb}
use Rattle.std.proofs.lemmas.List.Edits.{sets}
use Rattle.plan.specs.declared.Piece.{Piece}
use Rattle.plan.specs.declared.Table.TheVariants.{Cores, Tasks, Pieces}
use Rattle.plan.specs.Search.{sum}
use Rattle.plan.specs.Image.{rows, piece}
use Rattle.plan.specs.Questions.{whole, answer_of, names, piece_fits, piece_questions, jobs, release, due, core_of, switch_ticks}
use Rattle.drafts.specs.Drafts.{draft_words, places, job_sum, core_sum, is_draft}
use Rattle.drafts.specs.Edits.{number_of, leaves, gives, piece_of, piece_words, make_number, make_words, made_piece, no_piece, add_number, add_words, remove_number, remove_words, move_number, move_words}
use Rattle.drafts.specs.Edits.{place_number, place_leaves, job_number, job_value, core_number, core_value}

-- a piece added at a place, the piece of a place removed, or moved to another start
pub data Edit : Type 0 where
  adds : ℕ → Piece → Edit
  removes : ℕ → Edit
  moves : ℕ → ℕ → Edit

-- the number that an edit gives, and the words afterwards
unfoldable pub edit_number : List ℕ → Edit → ℕ
edit_number w (adds p x) = add_number w p x
edit_number w (removes p) = remove_number w p
edit_number w (moves p start) = move_number w p start

unfoldable pub edited : List ℕ → Edit → List ℕ
edited w (adds p x) = add_words w p x
edited w (removes p) = remove_words w p
edited w (moves p start) = move_words w p start

unfoldable pub after_edits : List ℕ → List Edit → List ℕ
after_edits w [] = w
after_edits w (e ∷ es) = after_edits (edited w e) es

-- ---- the same without words: by the image's rows and the piece at each place, of length 0 where there is none

-- 5 and 10 of one piece by itself
unfoldable pub meets_five : List ℕ → Piece → Bool
meets_five s x = ltb x.task (rows s Tasks)

unfoldable pub meets_ten : List ℕ → Piece → Bool
meets_ten s x =
    let t = x.task in let k = x.job in
    ltb k (jobs s t) && ltb (switch_ticks s t) x.length && leb (release s t k) x.start && leb (x.start + x.length) (due s t k)

-- is there a piece at a place?
unfoldable pub is_held : (ℕ → Piece) → ℕ → Bool
is_held at p = ltb p places && ltb 0 (at p).length

-- the number that an edit has to give
unfoldable pub asked_of : List ℕ → (ℕ → Piece) → Edit → ℕ
asked_of s at (adds p x) =
    number_of (whole 5 (meets_five s x) ∷ whole 10 (meets_ten s x) ∷ whole 34 (ltb p places && eqb (at p).length 0) ∷ [])
asked_of s at (removes p) = number_of (whole 33 (is_held at p) ∷ [])
asked_of s at (moves p start) =
    number_of (whole 33 (is_held at p) ∷ whole 10 (meets_ten s (piece_of (at p).task (at p).job start (at p).length)) ∷ [])

-- the piece at each place after an edit: one that is refused changes none
unfoldable pub held_after : List ℕ → (ℕ → Piece) → Edit → ℕ → Piece
held_after s at (adds p x) q = cond (eqb (asked_of s at (adds p x)) 0 && eqb q p) x (at q)
held_after s at (removes p) q = cond (eqb (asked_of s at (removes p)) 0 && eqb q p) no_piece (at q)
held_after s at (moves p start) q =
    cond (eqb (asked_of s at (moves p start)) 0 && eqb q p) (piece_of (at q).task (at q).job start (at q).length) (at q)

-- as last made, added or moved
unfoldable pub held_after_all : List ℕ → (ℕ → Piece) → List Edit → ℕ → Piece
held_after_all s at [] = at
held_after_all s at (e ∷ es) = held_after_all s (held_after s at e) es

-- The words are a draft of image s with the pieces `at`: every call gives what the image's rows and these pieces say, refused calls too.
pub record DraftOf (s w : List ℕ) (at : ℕ → Piece) : Type 0 where
  pub draft : is_draft w ≡ true
  pub edit : (e : Edit) → edit_number w e ≡ asked_of s at e
  pub place : (p : ℕ) (lent : List ℕ) → (place_number w p lent ≡ number_of (whole 33 (is_held at p) ∷ whole 34 (leb 4 (length lent)) ∷ []))
      × (place_leaves w p lent ≡ leaves (place_number w p lent) (sets lent 0 (piece_words (at p))) lent)
  pub job : (t k : ℕ) → (job_number w t k ≡ number_of (whole 5 (ltb t (rows s Tasks)) ∷ whole 10 (ltb k (jobs s t)) ∷ []))
      × (job_value w t k ≡ gives (job_number w t k) (sum places (λ p. cond (eqb (at p).task t && eqb (at p).job k) (at p).length 0)))
  pub core : (c : ℕ) → (core_number w c ≡ number_of (whole 5 (ltb c (rows s Cores)) ∷ []))
      × (core_value w c ≡ gives (core_number w c) (sum places (λ p. cond (eqb (core_of s (at p).task) c) (at p).length 0)))

-- a draft made from an image stays one of that image, whatever edits follow, refused ones among them
abbrev pub TotalsKept : Type 0
TotalsKept =
    (s w : List ℕ) (es : List Edit) → make_number s w ≡ 0
    → DraftOf s (after_edits (make_words s w) es) (held_after_all s (made_piece s) es)

-- Making asks the check's questions 1 to 10 and 32, in the check's order, and of an image that passes them 34: where the check gives one of
-- these numbers so does making, and whatever else the check gives is not asked. 40, which the check asks between 6 and 7, is not asked either: of an
-- image that it refuses, making asks 7 to 10, then 34.
unfoldable pub is_early : ℕ → Bool
is_early n = (leb 1 n && leb n 10) || eqb n 32

abbrev pub MakeAsks : Type 0
MakeAsks =
    (s w : List ℕ) → (answer_of s).number ≢ 40
    → make_number s w ≡ cond (is_early (answer_of s).number) (answer_of s).number (cond (leb draft_words (length w)) 0 34)

abbrev pub MakePasses40 : Type 0
MakePasses40 =
    (s w : List ℕ) → (answer_of s).number ≡ 40
    → make_number s w ≡ number_of (take 4 (piece_questions s) ++ whole 34 (leb draft_words (length w)) ∷ [])

-- every row of the image has a place, and 5 and 10 of a piece by itself are those of its row
abbrev pub RowsArePlaces : Type 0
RowsArePlaces = (s w : List ℕ) → make_number s w ≡ 0 → rows s Pieces ≤ places

abbrev pub SameQuestions : Type 0
SameQuestions = (s : List ℕ) (i : ℕ) → (meets_five s (piece s i) ≡ names s Pieces i) × (meets_ten s (piece s i) ≡ piece_fits s i)

-- ---- any words, whoever wrote them

-- words past the first 32,768 stay as they were, and so does the number of words: through making, and through any edits
abbrev pub SameLater : List ℕ → List ℕ → Type 0
SameLater w v = (length v ≡ length w) × ((j : ℕ) → draft_words ≤ j → get_or v j 0 ≡ get_or w j 0)

abbrev pub LaterKept : Type 0
LaterKept = (w : List ℕ) → ((s : List ℕ) → SameLater w (make_words s w)) × ((es : List Edit) → SameLater w (after_edits w es))

-- a draft by 33 has true totals, and stays a draft
abbrev pub TrueTotals : Type 0
TrueTotals =
    (w : List ℕ) → is_draft w ≡ true
    → ((t k : ℕ) → job_number w t k ≡ 0 → job_value w t k ≡ job_sum w t k) × ((c : ℕ) → core_number w c ≡ 0 → core_value w c ≡ core_sum w c)
    × ((e : Edit) → is_draft (edited w e) ≡ true)

-- a total fits a word
abbrev pub TotalsFit : Type 0
TotalsFit = (w : List ℕ) → is_draft w ≡ true → ((t k : ℕ) → job_sum w t k ≤ 2048000000) × ((c : ℕ) → core_sum w c ≤ 2048000000)

-- of words that are no draft, and of fewer than 32,768, every call gives 33
abbrev pub NoDraft : Type 0
NoDraft =
    (w : List ℕ) → is_draft w ≡ false
    → ((e : Edit) → edit_number w e ≡ 33) × ((p : ℕ) (lent : List ℕ) → place_number w p lent ≡ 33) × ((t k : ℕ) → job_number w t k ≡ 33) × ((c : ℕ) → core_number w c ≡ 33)

abbrev pub TooFew : Type 0
TooFew = (w : List ℕ) → length w < draft_words → is_draft w ≡ false

-- a refused call changes no word, and a refused reading gives 0
abbrev pub RefusedKeeps : Type 0
RefusedKeeps =
    (w : List ℕ) → ((s : List ℕ) → 0 < make_number s w → make_words s w ≡ w) × ((e : Edit) → 0 < edit_number w e → edited w e ≡ w)
    × ((p : ℕ) (lent : List ℕ) → 0 < place_number w p lent → place_leaves w p lent ≡ lent) × ((t k : ℕ) → 0 < job_number w t k → job_value w t k ≡ 0)
    × ((c : ℕ) → 0 < core_number w c → core_value w c ≡ 0)

-- Words past the first 32,768 say nothing: words that agree below are alike to every call, whatever follows and however many they are.
abbrev pub Alike : List ℕ → List ℕ → Type 0
Alike w v = (draft_words ≤ length w) × (draft_words ≤ length v) × ((j : ℕ) → j < draft_words → get_or v j 0 ≡ get_or w j 0)

abbrev pub FirstWords : Type 0
FirstWords =
    (w v : List ℕ) → Alike w v
    → (is_draft v ≡ is_draft w) × ((e : Edit) → (edit_number v e ≡ edit_number w e) × Alike (edited w e) (edited v e))
    × ((p : ℕ) (lent : List ℕ) → (place_number v p lent ≡ place_number w p lent) × (place_leaves v p lent ≡ place_leaves w p lent))
    × ((t k : ℕ) → (job_number v t k ≡ job_number w t k) × (job_value v t k ≡ job_value w t k))
    × ((c : ℕ) → (core_number v c ≡ core_number w c) × (core_value v c ≡ core_value w c))
