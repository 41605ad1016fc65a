-- The words of a row of bytes: how many, and each; words read back from their bytes.
use Prim.Native.Nat.{ℕ, zero, suc, ◌+◌, ◌-◌, ◌*◌, ◌/◌, ◌%◌, ◌^◌, ◌≤◌, ◌<◌}
use mathlib.Core.Path.{◌≡◌, refl, sym, ap, ◌∙◌}
use mathlib.Core.Logic.{◌⊎◌, inl, inr}
use mathlib.Core.List.{List, ◌∷◌, ◌++◌, [], flat_map, append_assoc}
use native.Mathlib.Nat.{zero-add, not-suc-le-zero, eq-or-lt_of_le, le_of_suc-le-suc}
use native.Mathlib.Omega.{arith}
use lib.ListN.{length, get_or, drop, length-append, length-drop, get_or-append}
use lib.Seq.{get_or-append-add, get_or-drop, drop-drop, drop_at}
use Rattle.plan.specs.Image.{word_at}
use Rattle.plan.specs.Boundary.{first_words, words_of, bytes_of}
use Rattle.words.proofs.Bytes.{bytes_length, row_length}

module _ (b : List ℕ) where
  first_length : (n : ℕ) → length (first_words b n) ≡ n
  unfolding first_words
  first_length zero = refl
  first_length (suc n) = length-append (first_words b n) (word_at b (4 * n) ∷ []) ∙ omega (arith, first_length n)

  first_at : (n i : ℕ) → i < n → get_or (first_words b n) i 0 ≡ word_at b (4 * i)
  unfolding first_words
  first_at zero i l = absurd (not-suc-le-zero l)
  first_at (suc n) i l = go (eq-or-lt_of_le (le_of_suc-le-suc l)) (first_at n i)
    where
      go : (i ≡ n) ⊎ (i < n) → (i < n → get_or (first_words b n) i 0 ≡ word_at b (4 * i)) → get_or (first_words b n ++ word_at b (4 * n) ∷ []) i 0 ≡ word_at b (4 * i)
      go (inl e) k =
          let q : i ≡ length (first_words b n) + 0 = omega (arith, first_length n) in
          ap (λ (x : ℕ). get_or (first_words b n ++ word_at b (4 * n) ∷ []) x 0) q ∙ get_or-append-add (first_words b n) (word_at b (4 * n) ∷ []) 0 0 ∙ ap (λ (x : ℕ). word_at b (4 * x)) (sym e)
      go (inr h) k = get_or-append (first_words b n) (word_at b (4 * n) ∷ []) 0 i (omega (arith, first_length n)) ∙ k h

  pub words_length : length (words_of b) ≡ length b / 4
  unfolding words_of
  words_length = first_length (length b / 4)

  pub words_at : (i : ℕ) → i < length b / 4 → get_or (words_of b) i 0 ≡ word_at b (4 * i)
  unfolding words_of
  words_at = first_at (length b / 4)

-- ---- words of words' bytes

-- the first word, then those from byte 4 on
word_later : (b : List ℕ) (n : ℕ) → word_at b (4 * suc n) ≡ word_at (drop 4 b) (4 * n)
unfolding word_at
word_later b n =
    let e : 4 * suc n ≡ 4 + 4 * n = omega arith in
    let f : 4 + 4 * n + 1 ≡ 4 + (4 * n + 1) = omega arith in
    let g : 4 + 4 * n + 2 ≡ 4 + (4 * n + 2) = omega arith in
    let h : 4 + 4 * n + 3 ≡ 4 + (4 * n + 3) = omega arith in
    rw (e, f, g, h, get_or-drop 4 b (4 * n) 0, get_or-drop 4 b (4 * n + 1) 0, get_or-drop 4 b (4 * n + 2) 0, get_or-drop 4 b (4 * n + 3) 0) refl

first_cons : (b : List ℕ) (n : ℕ) → first_words b (suc n) ≡ word_at b 0 ∷ first_words (drop 4 b) n
unfolding first_words
first_cons b zero = refl
first_cons b (suc n) =
    ap (λ (l : List ℕ). l ++ word_at b (4 * suc n) ∷ []) (first_cons b n) ∙ ap (λ (w : ℕ). word_at b 0 ∷ (first_words (drop 4 b) n ++ w ∷ [])) (word_later b n)

-- words from a word on
first_drop : (k n : ℕ) (b : List ℕ) → first_words (drop (4 * k) b) n ≡ drop k (first_words b (k + n))
first_drop zero n b = ap (first_words b) (sym (zero-add n))
first_drop (suc k) n b =
    let e : 4 * suc k ≡ 4 + 4 * k = omega arith in let f : suc k + n ≡ suc (k + n) = omega arith in
    ap (λ (j : ℕ). first_words (drop j b) n) e ∙ ap (λ (l : List ℕ). first_words l n) (sym (drop-drop (4 * k) 4 b)) ∙ first_drop k n (drop 4 b)
    ∙ sym (ap (drop (suc k)) (ap (first_words b) f ∙ first_cons b (k + n)))

pub words_drop : (k : ℕ) (b : List ℕ) → k ≤ length b / 4 → words_of (drop (4 * k) b) ≡ drop k (words_of b)
unfolding words_of
words_drop k b h =
    let e : length (drop (4 * k) b) ≡ length b - 4 * k = length-drop (4 * k) b in
    let f : k + length (drop (4 * k) b) / 4 ≡ length b / 4 = omega arith in
    first_drop k (length (drop (4 * k) b) / 4) b ∙ ap (λ (n : ℕ). drop k (first_words b n)) f

-- words that fit 32 bits
abbrev pub Fit : List ℕ → Type 0
Fit [] = Unit {0}
Fit (w ∷ ws) = (w < 2 ^ 32) × Fit ws

pub fit_append : (vs ws : List ℕ) → Fit vs → Fit ws → Fit (vs ++ ws)
fit_append [] ws g h = h
fit_append (v ∷ vs) ws g h = (g.0, fit_append vs ws g.1 h)

-- four bytes of a number, read as a word
abbrev pub low : ℕ → ℕ
low x = x % 256 + 256 * (x / 256 % 256) + 65536 * (x / 256 / 256 % 256) + 16777216 * (x / 256 / 256 / 256 % 256)

pub low_word : (x : ℕ) → x < 2 ^ 32 → low x ≡ x
low_word x h = omega arith

-- words that fit are what their bytes hold
one_word : (w : ℕ) (l : List ℕ) → w < 2 ^ 32 → word_at (bytes_of 4 w ++ l) 0 ≡ w
unfolding word_at bytes_of
one_word w l h = low_word w h

first_row : (ws rest : List ℕ) (n : ℕ) → Fit ws → first_words (flat_map (bytes_of 4) ws ++ rest) (length ws + n) ≡ ws ++ first_words rest n
unfolding flat_map
first_row [] rest n h = ap (first_words rest) (zero-add n)
first_row (w ∷ ws) rest n h =
    let r : List ℕ = flat_map (bytes_of 4) ws ++ rest in
    let e : suc (length ws) + n ≡ suc (length ws + n) = omega arith in
    ap (λ (l : List ℕ). first_words l (suc (length ws) + n)) (append_assoc (bytes_of 4 w) (flat_map (bytes_of 4) ws) rest)
    ∙ ap (first_words (bytes_of 4 w ++ r)) e ∙ first_cons (bytes_of 4 w ++ r) (length ws + n)
    ∙ ap (λ (x : ℕ). x ∷ first_words (drop 4 (bytes_of 4 w ++ r)) (length ws + n)) (one_word w r h.0)
    ∙ ap (λ (l : List ℕ). w ∷ first_words l (length ws + n)) (drop_at (bytes_of 4 w) r 4 (bytes_length 4 w))
    ∙ ap (λ (l : List ℕ). w ∷ l) (first_row ws rest n h.1)

pub words_row : (ws rest : List ℕ) → Fit ws → words_of (flat_map (bytes_of 4) ws ++ rest) ≡ ws ++ words_of rest
unfolding words_of
words_row ws rest h =
    let e = length-append (flat_map (bytes_of 4) ws) rest in
    let f : length (flat_map (bytes_of 4) ws ++ rest) / 4 ≡ length ws + length rest / 4 = omega (arith, row_length ws) in
    ap (first_words (flat_map (bytes_of 4) ws ++ rest)) f ∙ first_row ws rest (length rest / 4) h
