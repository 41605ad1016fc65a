-- What 17 asks of a job hop by hop, and what questions 14 to 16 give where they are passed.
use Prim.Native.Nat.{ℕ, ◌+◌, ◌*◌, ◌/◌, ◌^◌, ◌<◌, ◌≤◌}
use mathlib.Core.Path.{◌≡◌, refl, ap, subst, ◌∙◌}
use mathlib.Core.Bool.{Bool, true, false}
use mathlib.Core.List.{List}
use native.Mathlib.Nat.{mul-le-mul_right}
use native.Mathlib.Numerals.{add-one}
use native.Mathlib.Omega.{arith}
use lib.Dec.{eqb}
use Rattle.plan.specs.declared.Frame.{Frame}
use Rattle.plan.specs.declared.Link.{Link}
use Rattle.plan.specs.declared.Table.TheVariants.{Frames}
use Rattle.plan.specs.Image.{cycle_ticks, rows, stream, frame, link}
use Rattle.plan.specs.Search.{all}
use Rattle.plan.specs.Questions.{node_of, jobs, frame_of, reached, joined}
use Rattle.plan.proofs.Searching.{all_stops}
use Rattle.plan.proofs.Passing.{streams_end, frames_fit}
use Rattle.frames.specs.Index.{Framed, JobOf}

-- 17: does a hop leave the node that the message has reached
abbrev pub leaves : List ℕ → ℕ → ℕ → ℕ → Bool
leaves s m k h = eqb (link s (frame s (frame_of s m k h)).link).from (reached s m k h)

module _ (s : List ℕ) (m k : ℕ) where
  -- a hop's link, as it is read
  pub hop_link : (h r : ℕ) (f : Frame) (l : Link) → r ≡ frame_of s m k h → f ≡ frame s r → l ≡ link s f.link → l ≡ link s (frame s (frame_of s m k h)).link
  hop_link h r f l a b d = d ∙ ap (λ (x : Frame). link s x.link) (b ∙ ap (frame s) a)

  pub goes_on : (h : ℕ) (l : Link) → l ≡ link s (frame s (frame_of s m k h)).link → l.to ≡ reached s m k (h + 1)
  unfolding reached
  goes_on h l e = rw (add-one h, e) refl

  pub breaks_off : (h : ℕ) → h < (stream s m).hops → leaves s m k h ≡ false → false ≡ joined s m k
  unfolding joined
  breaks_off h l e = rw (all_stops (leaves s m k) (stream s m).hops h l e) refl

  pub arrives : (n r : ℕ) → n ≡ reached s m k (stream s m).hops → r ≡ node_of s (stream s m).receiver → all (stream s m).hops (leaves s m k) ≡ true
      → eqb n r ≡ joined s m k
  unfolding joined
  arrives n r a b e = rw (a, b, e) refl

module _ (s : List ℕ) (p : Framed s) where
  -- equal periods: the receiver has the sender's jobs
  pub receiver_job : (m k : ℕ) → JobOf s m k → k < jobs s (stream s m).receiver
  unfolding jobs
  receiver_job m k j = subst (λ (x : ℕ). k < cycle_ticks s / x) (streams_end s 3 p.passed (omega arith) m j.row).0 j.job

  -- a frame's job is one of its stream's, and its hop one of its hops
  pub job_of : (f : ℕ) → f < rows s Frames → JobOf s (frame s f).stream (frame s f).job
  job_of f l = record { row = (p.sound.names Frames f l).0; job = (frames_fit s 3 p.passed (omega arith) f l).0 }

  pub hop_of : (f : ℕ) → f < rows s Frames → (frame s f).hop < (stream s (frame s f).stream).hops
  hop_of f l = (frames_fit s 3 p.passed (omega arith) f l).1

-- the start and the end of a job's period fit 64 bits
pub product_below : {a b : ℕ} → a ≤ 2 ^ 32 → b < 2 ^ 32 → a * b < 2 ^ 64
product_below {a} {b} ha hb =
    let la : a ≤ 4294967296 = omega arith in
    let h : a * b ≤ 4294967296 * b = mul-le-mul_right b la in
    omega arith
