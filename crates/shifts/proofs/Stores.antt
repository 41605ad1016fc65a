-- Words stored into bytes: in among the bytes of words, and into bytes that are read as words.
use Prim.Native.Nat.{ℕ, ◌+◌, ◌*◌, ◌/◌, ◌≤◌, ◌<◌}
use mathlib.Core.Path.{◌≡◌, refl, sym, ap, ◌∙◌}
use mathlib.Core.List.{List, ◌++◌, [], flat_map, append-nil, append_assoc}
use native.Mathlib.Omega.{arith}
use lib.ListN.{length, get_or, take, drop, length-append, take-append-drop}
use lib.Seq.{length-take-le, take_at, drop_at, get_or-take, ext_get_or}
use Rattle.plan.specs.Image.{word_at}
use Rattle.plan.specs.Boundary.{first_words, words_of, bytes_of}
use Rattle.words.proofs.Bytes.{row_length, row_append}
use Rattle.words.proofs.Words.{Fit, words_length, words_at, words_drop, words_row}
use Rattle.writing.specs.Stored.{stored}
use Rattle.writing.proofs.Storing.{stored_length}
use Rattle.modeblock.proofs.Blocks.{stored_parts}

abbrev row : List ℕ → List ℕ
row ws = flat_map (bytes_of 4) ws

-- ---- the bytes of words

pub row_words : (ws : List ℕ) → Fit ws → words_of (row ws) ≡ ws
unfolding words_of first_words
row_words ws h = ap words_of (sym (append-nil (row ws))) ∙ words_row ws [] h ∙ append-nil ws

pub row_word : (ws : List ℕ) → Fit ws → (i : ℕ) → i < length ws → word_at (row ws) (4 * i) ≡ get_or ws i 0
row_word ws h i l = sym (words_at (row ws) i (omega (arith, row_length ws))) ∙ ap (λ (v : List ℕ). get_or v i 0) (row_words ws h)

-- words stored in place of as many others
module _ (xs ys ws zs : List ℕ) where
  three : (vs : List ℕ) → row (xs ++ vs ++ zs) ≡ row xs ++ row vs ++ row zs
  three vs = row_append (xs ++ vs) zs ∙ ap (λ (b : List ℕ). b ++ row zs) (row_append xs vs)

  pub stored_among : (at : ℕ) → at ≡ 4 * length xs → length ws ≡ length ys → stored (row (xs ++ ys ++ zs)) at ws ≡ row (xs ++ ws ++ zs)
  stored_among at e n =
      let x : List ℕ = row (xs ++ ys ++ zs) in
      let j : ℕ = at + 4 * length ws in
      let k : length (row xs ++ row ys) ≡ j = length-append (row xs) (row ys) ∙ omega (arith, row_length xs, row_length ys) in
      let room : j ≤ length x = rw (three ys, length-append (row xs ++ row ys) (row zs)) (omega (arith, k)) in
      let t : take at x ≡ row xs = ap (take at) (three ys ∙ append_assoc (row xs) (row ys) (row zs)) ∙ take_at (row xs) (row ys ++ row zs) at (row_length xs ∙ sym e) in
      let d : drop j x ≡ row zs = ap (drop j) (three ys) ∙ drop_at (row xs ++ row ys) (row zs) j k in
      stored_parts x at ws room ∙ ap (λ (l : List ℕ). l ++ row ws ++ drop j x) t ∙ ap (λ (l : List ℕ). row xs ++ row ws ++ l) d ∙ sym (three ws)

-- ---- bytes that are read as words

-- the first words are those of the first bytes
module _ (b c : List ℕ) (u : ℕ) (e : take (4 * u) b ≡ take (4 * u) c) where
  byte : (j : ℕ) → j < 4 * u → get_or b j 0 ≡ get_or c j 0
  byte j l = sym (get_or-take (4 * u) b j 0 l) ∙ ap (λ (v : List ℕ). get_or v j 0) e ∙ get_or-take (4 * u) c j 0 l

  word : (i : ℕ) → i < u → word_at b (4 * i) ≡ word_at c (4 * i)
  unfolding word_at
  word i l =
      rw (byte (4 * i) (omega arith), byte (4 * i + 1) (omega arith), byte (4 * i + 2) (omega arith), byte (4 * i + 3) (omega arith)) refl

  front_words : u ≤ length b / 4 → u ≤ length c / 4 → take u (words_of b) ≡ take u (words_of c)
  front_words h k =
      let m = length-take-le u (words_of b) (omega (arith, words_length b)) in
      let n = length-take-le u (words_of c) (omega (arith, words_length c)) in
      ext_get_or 0 (take u (words_of b)) (take u (words_of c)) (m ∙ sym n)
      (λ i l. get_or-take u (words_of b) i 0 (omega arith) ∙ words_at b i (omega arith) ∙ word i (omega arith) ∙ sym (words_at c i (omega arith))
      ∙ sym (get_or-take u (words_of c) i 0 (omega arith)))

pub words_stored : (b : List ℕ) (u : ℕ) (ws : List ℕ) → Fit ws → u + length ws ≤ length (words_of b)
    → words_of (stored b (4 * u) ws) ≡ take u (words_of b) ++ ws ++ drop (u + length ws) (words_of b)
words_stored b u ws f h =
    let n = words_length b in
    let m = stored_length b (4 * u) ws in
    let c : List ℕ = stored b (4 * u) ws in
    let r : List ℕ = drop (4 * (u + length ws)) b in
    let k : 4 * u + 4 * length ws ≡ 4 * (u + length ws) = omega arith in
    let q : length (take (4 * u) b) ≡ 4 * u = length-take-le (4 * u) b (omega arith) in
    let parts : c ≡ take (4 * u) b ++ (row ws ++ r) =
    stored_parts b (4 * u) ws (omega arith) ∙ ap (λ (i : ℕ). take (4 * u) b ++ row ws ++ drop i b) k ∙ append_assoc (take (4 * u) b) (row ws) r in
    let front : take u (words_of c) ≡ take u (words_of b) =
    front_words c b u (ap (take (4 * u)) parts ∙ take_at (take (4 * u) b) (row ws ++ r) (4 * u) q) (omega arith) (omega arith) in
    let rest : drop u (words_of c) ≡ ws ++ drop (u + length ws) (words_of b) =
    sym (words_drop u c (omega arith)) ∙ ap words_of (ap (drop (4 * u)) parts ∙ drop_at (take (4 * u) b) (row ws ++ r) (4 * u) q)
    ∙ words_row ws r f ∙ ap (λ (l : List ℕ). ws ++ l) (words_drop (u + length ws) b (omega arith)) in
    sym (take-append-drop u (words_of c)) ∙ ap (λ (l : List ℕ). l ++ drop u (words_of c)) front ∙ ap (λ (l : List ℕ). take u (words_of b) ++ l) rest
    ∙ sym (append_assoc (take u (words_of b)) ws (drop (u + length ws) (words_of b)))
