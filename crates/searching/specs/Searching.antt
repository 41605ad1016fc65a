-- What a search asks of a test, and what it may take its answers for. A test is known by `pre`, which rows it may be asked of, and `post`,
-- which answers it may give of a row; `on` is the answer at which the search goes on to the next row.
use Rattle.std.specs.Prelude.{ℕ, ◌<◌, ◌≡◌, Bool}

-- have all rows before i let the search go on
abbrev pub Reached : (ℕ → Bool → Type 0) → Bool → ℕ → Type 0
Reached post on i = (j : ℕ) → j < i → post j on

-- each row below n that the search comes to may be asked
abbrev pub MayAsk : (ℕ → Type 0) → (ℕ → Bool → Type 0) → Bool → ℕ → Type 0
MayAsk pre post on n = (i : ℕ) → i < n → Reached post on i → pre i

-- of each row below n that the search comes to, the test tells what p says
abbrev pub Tells : (ℕ → Bool → Type 0) → Bool → ℕ → (ℕ → Bool) → Type 0
Tells post on n p = (i : ℕ) (b : Bool) → i < n → Reached post on i → post i b → b ≡ p i
