-- How long the files of a trial are at most.
use Rattle.std.proofs.Common.{◌≡◌, zero, suc, ◌+◌, ◌*◌, ◌^◌, ◌≤◌, ◌<◌, ℕ, ℤ, pos, unsigned_abs}
use Rattle.std.proofs.Common.{List, ◌++◌, length, decimal, codes, arith, length-append, refl}
use Rattle.std.proofs.lemmas.Fmt.{length-decimal-le}
use Rattle.std.proofs.lemmas.Nat.{mul-le}
use Rattle.decimals.specs.Written.{spelling_of}
use Rattle.commands.specs.declared.trial.objects.Place.{Place}
use Rattle.commands.specs.TrialFiles.{coordinate, place_text, straight_text, cell_text, corner}
use Rattle.commands.specs.TrialFiles.{middle, level, upright, cell, each, levels, head, between}
use Rattle.commands.specs.TrialFiles.{ending, levels, uprights, cells, transfer_text}

-- what is written of a value is short
abbrev pub Short : Type 0
Short = (value : ℤ) (scale : ℕ) → unsigned_abs value < 10 ^ 18 → scale ≤ 9
    → length (spelling_of value scale) ≤ 20

-- so many texts of at most so many bytes
pub each_short : (n b : ℕ) (text : ℕ → List ℕ) → ((i : ℕ) → i < n → length (text i) ≤ b)
    → length (each n text) ≤ n * b
each_short zero b text h = omega arith
each_short (suc n) b text h =
    let k = each_short n b text (λ i l. h i (omega (arith, l))) in
    omega (arith, k, h n (omega arith), length-append (each n text) (text n))

number_short : (n : ℕ) → n < 10 ^ 18 → length (decimal n) ≤ 18
number_short n h = length-decimal-le 18 n (omega arith) h (omega (arith, h))

coordinate_short : Short → (x : ℕ) → x ≤ 10000 → length (coordinate x) ≤ 20
coordinate_short s x h = s (pos (1000 * x)) 3 (omega (arith, h)) (omega arith)

-- both coordinates of a place are of the grid
abbrev IsNear : Place → Type 0
IsNear p = (p.x ≤ 10000) × (p.y ≤ 10000)

three : (a b c : List ℕ) → length (a ++ b ++ c) ≡ length a + length b + length c
three a b c = simp length-append refl

five : (a b c d e : List ℕ)
    → length (a ++ b ++ c ++ d ++ e) ≡ length a + length b + length c + length d + length e
five a b c d e = simp length-append refl

six : (a b c d e f : List ℕ)
    → length (a ++ b ++ c ++ d ++ e ++ f)
    ≡ length a + length b + length c + length d + length e + length f
six a b c d e f = simp length-append refl

seven : (a b c d e f g : List ℕ)
    → length (a ++ b ++ c ++ d ++ e ++ f ++ g)
    ≡ length a + length b + length c + length d + length e + length f + length g
seven a b c d e f g = simp length-append refl

place_short : Short → (p : Place) → IsNear p → length (place_text p) ≤ 41
place_short s p h =
    omega (
      arith,
      coordinate_short s p.x h.0,
      coordinate_short s p.y h.1,
      three (coordinate p.x) (codes " ") (coordinate p.y),
    )

straight_short : Short → (n : ℕ) (p q : Place) → n < 10 ^ 18 → IsNear p → IsNear q
    → length (straight_text n p q) ≤ 125
straight_short s n p q h k l =
    omega (
      arith,
      number_short n h,
      place_short s p k,
      place_short s q l,
      seven (codes "OBJE ") (decimal n) (codes "\nSTPT ") (place_text p) (codes "\nLIPT ")
          (place_text q) (codes "\nELIN\n"),
    )

cell_short : Short → (n : ℕ) (p : Place) → n < 10 ^ 18 → IsNear p → length (cell_text n p) ≤ 66
cell_short s n p h k =
    omega (
      arith,
      number_short n h,
      place_short s p k,
      five (codes "OBJE ") (decimal n) (codes " ") (place_text p) (codes "\n"),
    )

-- The parts of the transfer.

level_short : Short → (n j i : ℕ) → n ≤ 500 → j ≤ n → i < n → length (level n j i) ≤ 125
level_short s n j i h k l =
    straight_short s (j * n + i + 1) (corner i j) (corner (i + 1) j)
    (omega (arith, mul-le j n 500 500 (omega arith) h))
    (omega arith, omega arith) (omega arith, omega arith)

upright_short : Short → (n i j : ℕ) → n ≤ 500 → i ≤ n → j < n → length (upright n i j) ≤ 125
upright_short s n i j h k l =
    straight_short s (n * (n + 1) + i * n + j + 1) (corner i j) (corner i (j + 1))
    (omega (arith, mul-le n (n + 1) 500 501 h (omega arith), mul-le i n 500 500 (omega arith) h))
    (omega arith, omega arith) (omega arith, omega arith)

cells_short : Short → (n j i : ℕ) → n ≤ 500 → j < n → i < n → length (cell n j i) ≤ 66
cells_short s n j i h k l =
    cell_short s (j * n + i + 1) (middle i j) (omega (arith, mul-le j n 500 500 (omega arith) h))
    (omega arith, omega arith)

-- a square of texts
square_short : (m n b : ℕ) (text : ℕ → ℕ → List ℕ) → m ≤ 501 → n ≤ 500
    → ((j i : ℕ) → j < m → i < n → length (text j i) ≤ b)
    → length (each m (λ j. each n (text j))) ≤ 501 * (500 * b)
square_short m n b text k h f =
    let rows = each_short m (n * b) (λ j. each n (text j))
    (λ j l. each_short n b (text j) (λ i e. f j i l e)) in
    omega (arith, rows, mul-le m (n * b) 501 (500 * b) k (mul-le n b 500 b h (omega arith)))

pub transfer_short : Short → (n : ℕ) → n ≤ 500 → length (transfer_text n) ≤ 268435456
transfer_short s n h =
    let a = square_short (n + 1) n 125 (level n) (omega arith) h
    (λ j i k l. level_short s n j i h (omega arith) l) in
    let b = square_short (n + 1) n 125 (upright n) (omega arith) h
    (λ i j k l. upright_short s n i j h (omega arith) l) in
    let d = square_short n n 66 (cell n) (omega arith) h (λ j i k l. cells_short s n j i h k l) in
    omega (
      arith,
      a,
      b,
      d,
      six head (levels n) (uprights n) between (cells n) ending,
    )
