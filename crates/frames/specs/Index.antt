-- Frames by place: each hop of each stream's job has a place of its own, hop after hop, job after job, in the streams' order. Where
-- every place has a frame there are no more places than frames, so places past the most frames are not kept.
-- The index: word m is the place of stream m's job 0 at hop 0, at most the most frames; then, for each place that is kept, the number of
-- frames there, and then the row of the last of them.
use Rattle.std.specs.Prelude.{ℕ, ◌+◌, ◌*◌, ◌<◌, min, ◌≡◌, Bool, ◌&&◌, List, ltb, eqb, length, get_or, set}
use Rattle.plan.specs.declared.Table.TheVariants.{Streams, Frames}
use Rattle.plan.specs.Image.{rows, stream, frame, most_streams, most_frames}
use Rattle.plan.specs.Search.{all, sum, count}
use Rattle.plan.specs.Questions.{jobs, of_hop, stream_questions}
use Rattle.plan.specs.Held.{Sound, Passed}
use Rattle.tallies.specs.Tallies.{tally, Kept}

-- where the counts and the rows begin, and how many words there are
abbrev pub counts_at : ℕ
counts_at = most_streams

abbrev pub lasts_at : ℕ
lasts_at = counts_at + most_frames

abbrev pub frame_words : ℕ
frame_words = lasts_at + most_frames

-- how many places a stream has
unfoldable pub span : List ℕ → ℕ → ℕ
span s m = jobs s (stream s m).sender * (stream s m).hops

-- the place of stream m's job k at hop h
unfoldable pub place : List ℕ → ℕ → ℕ → ℕ → ℕ
place s m k h = sum m (span s) + (k * (stream s m).hops + h)

-- the place of a frame
unfoldable pub frame_place : List ℕ → ℕ → ℕ
frame_place s f = place s (frame s f).stream (frame s f).job (frame s f).hop

-- the place of a stream's first hop, as it is kept
unfoldable pub begins : List ℕ → ℕ → ℕ
begins s m = min most_frames (sum m (span s))

-- of the first n frames: how many are at a place, and the last that is
unfoldable pub many_at : List ℕ → ℕ → ℕ → ℕ
many_at s n = tally ◌+◌ 0 (frame_place s) (λ _. 1) n

unfoldable pub last_at : List ℕ → ℕ → ℕ → ℕ
last_at s n = tally (λ _ f. f) 0 (frame_place s) (λ f. f) n

-- the streams have their places, and the first n frames are taken in
pub record Taken (s index : List ℕ) (n : ℕ) : Type 0 where
  pub size : length index ≡ frame_words
  pub starts : Kept index 0 (rows s Streams) (begins s)
  pub counts : Kept index counts_at most_frames (many_at s n)
  pub lasts : Kept index lasts_at most_frames (last_at s n)

-- all are
abbrev pub Indexed : List ℕ → List ℕ → Type 0
Indexed s index = Taken s index (rows s Frames)

-- a frame is taken in at place p
unfoldable pub taken_at : List ℕ → ℕ → ℕ → List ℕ
taken_at index p f = set (set index (counts_at + p) (get_or index (counts_at + p) 0 + 1)) (lasts_at + p) f

-- k is a job of stream m
pub record JobOf (s : List ℕ) (m k : ℕ) : Type 0 where
  pub row : m < rows s Streams
  pub job : k < jobs s (stream s m).sender

-- 16, asked of the index: a hop whose place is not kept has no frame left for it
unfoldable pub once_at : List ℕ → ℕ → ℕ → ℕ → Bool
once_at s m k h = ltb (place s m k h) most_frames && eqb (count (rows s Frames) (of_hop s m k h)) 1

unfoldable pub once_each : List ℕ → ℕ → ℕ → Bool
once_each s m k = all (stream s m).hops (once_at s m k)

-- 1 to 6, 32 and 14 to 16 are passed: each hop of each stream's job has its one frame
pub record Framed (s : List ℕ) : Type 0 where
  pub sound : Sound s
  pub passed : Passed (stream_questions s) 3
