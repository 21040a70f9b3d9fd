-- How far the pairs of one box, and of all boxes before one, are met.
use Rattle.std.proofs.Common.{◌≡◌, ◌⊎◌, inl, inr, ℕ, zero, suc, ◌+◌, ◌<◌, ◌≤◌, Bool, List, [], ◌∷◌}
use Rattle.std.proofs.Common.{length, get_or, pos, Option, arith, refl, ap, sym, ◌∙◌, subst}
use Rattle.std.specs.List.{All, Contains}
use Rattle.near_pairs.specs.Boxes.{reach_of, mark_of}
use Rattle.near_pairs.specs.Columns.{AreLevel, BeginsWithin}
use Rattle.near_pairs.specs.LeastPairs.{IsFound, IsPassed, AreMet}
use Rattle.near_pairs.specs.declared.column.Item.{Item}
use Rattle.near_pairs.specs.declared.pairs.NearPair.{NearPair}
use Rattle.near_pairs.specs.declared.reaches.Reach.{Reach}
use Rattle.near_pairs.proofs.Best.{met_kept}
use Rattle.near_pairs.proofs.Tests.{last_or_before}

abbrev pub no_item : Item
no_item = record { low_x = pos 0; low_y = pos 0; high_y = pos 0; number = 0 }

pub one_default : (xs : List Item) (i : ℕ) (d e : Item) → i < length xs
    → get_or xs i d ≡ get_or xs i e
one_default [] i d e l = absurd (omega arith)
one_default (x ∷ xs) zero d e l = refl
one_default (x ∷ xs) (suc i) d e l = one_default xs i d e (omega (arith, l))

pub known_at : (boxes : List Reach) (column items : List Item) (k : ℕ)
    → All (λ item. item.number < length boxes) column
    → ((item : Item) → Contains items item → Contains column item) → k < length items
    → (get_or items k no_item).number < length boxes
known_at boxes column items k known from l =
    let x = get_or items k no_item in
    let (m, lm, e) = from x (k, l, one_default items k x no_item l) in
    subst (λ (y : Item). y.number < length boxes) e (known m x lm)

-- ---- one box
-- The pairs of the box and the first k items that are level with it are met.
pub record IsRowTo (sought : ℕ → ℕ → Type 0) (boxes : List Reach) (number : ℕ) (items : List Item)
    (start : Option NearPair) (k : ℕ) (best : Option NearPair) : Type 0 where
  pub found : IsFound sought (length boxes) best
  pub kept : (i j : ℕ) → IsPassed sought start i j → IsPassed sought best i j
  pub seen : (m : ℕ) (d : Item) → m < k → AreLevel (reach_of boxes number) (get_or items m d)
      → AreMet sought best number (get_or items m d).number

pub row_start : (sought : ℕ → ℕ → Type 0) (boxes : List Reach) (number : ℕ) (items : List Item)
    (start : Option NearPair)
    → IsFound sought (length boxes) start → IsRowTo sought boxes number items start 0 start
row_start sought boxes number items start f =
    record { found = f; kept = λ i j h. h; seen = λ m d l a. absurd (omega (arith, l)) }

module _ (sought : ℕ → ℕ → Type 0) (boxes : List Reach) (number : ℕ) (items : List Item)
    (start : Option NearPair) (k : ℕ) (best : Option NearPair)
    (h : IsRowTo sought boxes number items start k best) where
  pub row_more : (next : Option NearPair) (item : Item) → k < length items
      → ((d : Item) → get_or items k d ≡ item) → IsFound sought (length boxes) next
      → ((i j : ℕ) → IsPassed sought best i j → IsPassed sought next i j)
      → (AreLevel (reach_of boxes number) item → AreMet sought next number item.number)
      → IsRowTo sought boxes number items start (k + 1) next
  row_more next item l at f kept met = record {
    found = f;
    kept = λ i j p. kept i j (h.kept i j p);
    seen = λ m d lm level. by m d level (last_or_before m k lm);
  }
    where
      by : (m : ℕ) (d : Item) → AreLevel (reach_of boxes number) (get_or items m d)
          → (m < k) ⊎ (m ≡ k) → AreMet sought next number (get_or items m d).number
      by m d level (inl q) =
          met_kept sought best next number (get_or items m d).number kept (h.seen m d q level)
      by m d level (inr q) =
          let e : get_or items m d ≡ item = ap (λ (i : ℕ). get_or items i d) q ∙ at d in
          subst (λ (x : Item). AreMet sought next number x.number) (sym e)
          (met (subst (AreLevel (reach_of boxes number)) e level))

  pub row_end : length items ≤ k → (item : Item) → Contains items item
      → AreLevel (reach_of boxes number) item → AreMet sought best number item.number
  row_end l item (m, lm, e) level =
      subst (λ (x : Item). AreMet sought best number x.number) e
      (h.seen m item (omega (arith, l, lm))
      (subst (AreLevel (reach_of boxes number)) (sym e) level))

-- ---- all boxes
-- The pairs of a box with that mark before k and an item that begins within it are met.
pub record IsPassTo (sought : ℕ → ℕ → Type 0) (boxes : List Reach) (marked : List Bool)
    (mark : Bool) (column : List Item) (start : Option NearPair) (k : ℕ)
    (best : Option NearPair) : Type 0 where
  pub found : IsFound sought (length boxes) best
  pub kept : (i j : ℕ) → IsPassed sought start i j → IsPassed sought best i j
  pub seen : (i : ℕ) (item : Item) → i < k → mark_of marked i ≡ mark → Contains column item
      → BeginsWithin (reach_of boxes i) item → AreLevel (reach_of boxes i) item
      → AreMet sought best i item.number

pub pass_start : (sought : ℕ → ℕ → Type 0) (boxes : List Reach) (marked : List Bool) (mark : Bool)
    (column : List Item) (start : Option NearPair)
    → IsFound sought (length boxes) start
    → IsPassTo sought boxes marked mark column start 0 start
pass_start sought boxes marked mark column start f =
    record { found = f; kept = λ i j h. h; seen = λ i item l. absurd (omega (arith, l)) }

module _ (sought : ℕ → ℕ → Type 0) (boxes : List Reach) (marked : List Bool) (mark : Bool)
    (column : List Item) (start : Option NearPair) (k : ℕ) (best : Option NearPair)
    (h : IsPassTo sought boxes marked mark column start k best) where
  pub pass_over : (mark_of marked k ≡ mark → ⊥)
      → IsPassTo sought boxes marked mark column start (k + 1) best
  pass_over f = record {
    found = h.found;
    kept = h.kept;
    seen = λ i item l t c b level. by i item t c b level (last_or_before i k l);
  }
    where
      by : (i : ℕ) (item : Item) → mark_of marked i ≡ mark → Contains column item
          → BeginsWithin (reach_of boxes i) item → AreLevel (reach_of boxes i) item
          → (i < k) ⊎ (i ≡ k) → AreMet sought best i item.number
      by i item t c b level (inl l) = h.seen i item l t c b level
      by i item t c b level (inr e) = absurd (f (subst (λ (j : ℕ). mark_of marked j ≡ mark) e t))

  pub pass_more : (next : Option NearPair) → IsFound sought (length boxes) next
      → ((i j : ℕ) → IsPassed sought best i j → IsPassed sought next i j)
      → ((item : Item) → Contains column item → BeginsWithin (reach_of boxes k) item
      → AreLevel (reach_of boxes k) item → AreMet sought next k item.number)
      → IsPassTo sought boxes marked mark column start (k + 1) next
  pass_more next f kept met = record {
    found = f;
    kept = λ i j p. kept i j (h.kept i j p);
    seen = λ i item l t c b level. by i item t c b level (last_or_before i k l);
  }
    where
      by : (i : ℕ) (item : Item) → mark_of marked i ≡ mark → Contains column item
          → BeginsWithin (reach_of boxes i) item → AreLevel (reach_of boxes i) item
          → (i < k) ⊎ (i ≡ k) → AreMet sought next i item.number
      by i item t c b level (inl l) =
          met_kept sought best next i item.number kept (h.seen i item l t c b level)
      by i item t c b level (inr e) =
          subst (λ (j : ℕ). AreMet sought next j item.number) (sym e)
          (met item c (subst (λ (j : ℕ). BeginsWithin (reach_of boxes j) item) e b)
          (subst (λ (j : ℕ). AreLevel (reach_of boxes j) item) e level))

  pub pass_end : length boxes ≤ k → (i : ℕ) (item : Item) → i < length boxes
      → mark_of marked i ≡ mark → Contains column item → BeginsWithin (reach_of boxes i) item
      → AreLevel (reach_of boxes i) item
      → AreMet sought best i item.number
  pass_end l i item m = h.seen i item (omega (arith, l, m))
