-- A list as far as it is found, in lent words: the gates found so far from word 1 on, the other words as they were.
use Rattle.std.specs.Prelude.{ℕ, ◌+◌, ◌*◌, ◌≤◌, ◌<◌, ◌≡◌, List, length}
use Rattle.std.proofs.lemmas.List.Edits.{sets}
use Rattle.plan.specs.Image.{cycle_ticks, frame, most_frames}
use Rattle.plan.specs.Questions.{frame_end}
use Rattle.gates.specs.Gates.{Gate, pairs}
use Rattle.gates.specs.Walks.{Stretch, Goes, Past}
use Rattle.opening.specs.declared.Listing.{Listing}

-- the count, and two words for each gate; two gates for each frame, and one more
abbrev pub list_words : ℕ
list_words = 1 + 2 * (2 * most_frames + 1)

-- there is room for a gate more
pub record Room (list : List ℕ) (at : Listing) : Type 0 where
  pub words : length list ≡ list_words
  pub more : at.count < 2 * most_frames + 1
  pub begun : at.since ≤ at.until
  pub none : at.until ≡ 0 → at.count ≡ 0

-- the words hold the gates of link l up to a tick
pub record Holds (s : List ℕ) (l : ℕ) (lent list : List ℕ) (at : Listing) : Type 0 where
  pub found : List Gate
  pub many : length found ≡ at.count
  pub words : list ≡ sets lent 1 (pairs found)
  pub goes : Goes s l found at.octet at.since at.until

-- gone on with an octet to a tick: the words hold the gates of any link that has this octet up to there, and whose gates they held before
pub record GoneOn (list : List ℕ) (at : Listing) (octet until : ℕ) (after : List ℕ) (r : Listing) : Type 0 where
  pub holds : (s : List ℕ) (l : ℕ) (lent : List ℕ) → until ≤ cycle_ticks s → Stretch s l at.until until octet → Holds s l lent list at → Holds s l lent after r
  pub reached : r.until ≡ until
  pub few : r.count ≤ at.count + 1
  pub first : at.until ≡ 0 → r.count ≡ 0
  pub begun : r.since ≤ r.until
  pub long : length after ≡ length list

-- a frame of link l is taken in
pub record Sent (s : List ℕ) (f : ℕ) (list : List ℕ) (at : Listing) (after : List ℕ) (r : Listing) : Type 0 where
  pub holds : (lent : List ℕ) → Holds s (frame s f).link lent list at → Holds s (frame s f).link lent after r
  pub reached : r.until ≡ frame_end s f
  pub few : r.count ≤ at.count + 2
  pub first : at.until ≡ 0 → r.count ≤ 1
  pub begun : r.since ≤ r.until
  pub long : length after ≡ length list

-- the link's frames among the first n are
pub record Walked (s : List ℕ) (l : ℕ) (lent : List ℕ) (n : ℕ) (list : List ℕ) (at : Listing) : Type 0 where
  pub holds : Holds s l lent list at
  pub past : Past s l n at.until
  pub few : 1 ≤ at.until → at.count + 1 ≤ 2 * n
  pub long : length list ≡ length lent

-- of some lent words they are; and of any of which they were, so they are of a frame more
pub record Walking (s : List ℕ) (l n : ℕ) (list : List ℕ) (at : Listing) : Type 0 where
  pub lent : List ℕ
  pub words : length lent ≡ list_words
  pub walked : Walked s l lent n list at

pub record TakenIn (s : List ℕ) (l f : ℕ) (list : List ℕ) (at : Listing) (after : List ℕ) (r : Listing) : Type 0 where
  pub walked : (lent : List ℕ) → length lent ≡ list_words → Walked s l lent f list at → Walked s l lent (f + 1) after r
  pub long : length after ≡ length list
