-- A table's part of the image: its length, and its words, which are the fields of its rows.
use Prim.Native.Nat.{ℕ, suc, ◌+◌, ◌*◌, ◌≤◌, ◌<◌}
use mathlib.Core.Path.{◌≡◌, refl, ap, ◌∙◌}
use mathlib.Core.List.{List}
use native.Mathlib.Nat.{mul-le-mul_left, mul-suc}
use native.Mathlib.Omega.{arith}
use lib.ListN.{length, get_or, take, drop, length-drop}
use lib.Seq.{get_or-take, get_or-drop, length-take-le}
use Rattle.plan.specs.declared.Table.{Table}
use Rattle.plan.specs.Image.{word_at, shape, offset, rows, table_end, part, field}
use Rattle.plan.specs.Held.{InImage}

-- row r's word j ends where the rows do, or before
pub field_inside : (w n r j : ℕ) → r < n → j < w → 4 * (w * r + j) + 4 ≤ 4 * (w * n)
field_inside w n r j h k = let l : suc r ≤ n = omega arith in omega (arith, mul-le-mul_left w l, mul-suc w r)

module _ (l : List ℕ) (a n i : ℕ) (h : i + 4 ≤ n) where
  byte : (j : ℕ) → j < 4 → get_or (take n (drop a l)) (i + j) 0 ≡ get_or l (a + (i + j)) 0
  byte j k = get_or-take n (drop a l) (i + j) 0 (omega arith) ∙ get_or-drop a l (i + j) 0

  moved : (j : ℕ) → j < 4 → get_or (take n (drop a l)) (i + j) 0 ≡ get_or l (a + i + j) 0
  moved j k = byte j k ∙ ap (λ (x : ℕ). get_or l x 0) (omega arith)

  first_byte : get_or (take n (drop a l)) i 0 ≡ get_or l (a + i) 0
  first_byte = get_or-take n (drop a l) i 0 (omega arith) ∙ get_or-drop a l i 0

  -- a word of a part, of any bytes
  pub part_word : word_at (take n (drop a l)) i ≡ word_at l (a + i)
  unfolding word_at
  part_word = rw (first_byte, moved 1 (omega arith), moved 2 (omega arith), moved 3 (omega arith)) refl

module _ (s : List ℕ) (t : Table) (h : InImage s) where
  pub part_length : length (part s t) ≡ 4 * ((shape t).width * rows s t)
  unfolding part table_end
  part_length = length-take-le _ _ (let e = h.ends t in rw length-drop (omega arith))

  pub field_word : (r j : ℕ) → r < rows s t → j < (shape t).width → word_at (part s t) (4 * ((shape t).width * r + j)) ≡ field s t r j
  unfolding part field
  field_word r j k l = part_word s (offset s t) _ _ (field_inside (shape t).width (rows s t) r j k l)
