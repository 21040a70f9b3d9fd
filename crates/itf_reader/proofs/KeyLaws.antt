-- Names of a layout that are found by binary search.
use Rattle.std.proofs.Common.{◌≡◌, ◌<◌, ◌≤◌, ◌+◌, ◌^◌, ℕ, zero, suc, Bool, true, false, cond}
use Rattle.std.proofs.Common.{nat_eq, List, [], ◌∷◌, ◌++◌, length, map, get_or, Option, Some, None}
use Rattle.std.proofs.Common.{refl, sym, ap, ◌∙◌, arith, if◌then◌else◌}
use Rattle.std.specs.Prelude.{◌&&◌, slice_get}
use Rattle.std.specs.Int.{w64, to_be_bytes, from_be_bytes, bytes_high_first, byte_at}
use Rattle.std.specs.Cmp.Lexicographic.{pointwise}
use Rattle.std.specs.List.{position_from}
use Rattle.std.proofs.lemmas.Bool.{eqb-true, eqb-false}
use Rattle.std.proofs.lemmas.Nat.{from_be_bytes-to_be_bytes_8}
use Rattle.std.proofs.lemmas.Slice.Eq.{bytes_eq-Decides}
use Rattle.ports.specs.SortedKeys.{is_key}
use Rattle.table_layout.specs.Layouts.{Table as LayoutTable}
use Rattle.itf_reader.specs.Forms.{Table, topic_named, table_named}
use Rattle.itf_reader.specs.Layouts.{wanted_of}
use Rattle.itf_reader.specs.TableKeys.{lines_found, entry_at, table_key, table_keys, AreSmall}
use Rattle.itf_reader.specs.TableKeys.{name_keys}

-- ---- topics
pub topic_first : (n : ℕ) (name : List ℕ) (ts : List (List ℕ))
    → position_from (is_key name) n (name_keys ts) ≡ topic_named n (name ∷ []) ts
topic_first n name [] = refl
topic_first n name (t ∷ ts) =
    ap (λ (o : Option ℕ). if pointwise nat_eq name t then Some n else o)
    (topic_first (n + 1) name ts)

-- ---- keys of tables
and_assoc : (a b c : Bool) → (a && (b && c)) ≡ ((a && b) && c)
and_assoc true b c = refl
and_assoc false b c = refl

front_same : (k t n : ℕ) (a b : List ℕ)
    → pointwise nat_eq (bytes_high_first k t ++ a) (bytes_high_first k n ++ b)
    ≡ (pointwise nat_eq (bytes_high_first k t) (bytes_high_first k n) && pointwise nat_eq a b)
front_same zero t n a b = refl
front_same (suc k) t n a b =
    ap (λ (c : Bool). nat_eq (byte_at k t) (byte_at k n) && c) (front_same k t n a b)
    ∙ and_assoc (nat_eq (byte_at k t) (byte_at k n))
    (pointwise nat_eq (bytes_high_first k t) (bytes_high_first k n)) (pointwise nat_eq a b)

same_number : (t n : ℕ) → t < 2 ^ 64 → n < 2 ^ 64 → to_be_bytes w64 t ≡ to_be_bytes w64 n → t ≡ n
same_number t n a b e = sym (from_be_bytes-to_be_bytes_8 t a)
    ∙ (ap (from_be_bytes w64) e ∙ from_be_bytes-to_be_bytes_8 n b)

not_true : (b : Bool) → (b ≡ true → ⊥) → b ≡ false
not_true true h = absurd (h refl)
not_true false h = refl

numbers_same : (t n : ℕ) → t < 2 ^ 64 → n < 2 ^ 64
    → pointwise nat_eq (to_be_bytes w64 t) (to_be_bytes w64 n) ≡ nat_eq n t
numbers_same t n a b =
    elim (nat_eq n t) as (λ c. nat_eq n t ≡ c
    → pointwise nat_eq (to_be_bytes w64 t) (to_be_bytes w64 n) ≡ c) [
      | true ↦ λ e. (bytes_eq-Decides (to_be_bytes w64 t) (to_be_bytes w64 n)).1
          (ap (to_be_bytes w64) (sym (eqb-true n t e)))
      | false ↦ λ e. not_true _
          (λ p. eqb-false n t e
          (sym (same_number t n a b ((bytes_eq-Decides (to_be_bytes w64 t) (to_be_bytes w64 n)).0 p))))
    ] refl

keys_same : (t n : ℕ) (a b : List ℕ) → t < 2 ^ 64 → n < 2 ^ 64
    → pointwise nat_eq (table_key t a) (table_key n b) ≡ (nat_eq n t && pointwise nat_eq a b)
keys_same t n a b h k = front_same 8 t n a b
    ∙ ap (λ (c : Bool). c && pointwise nat_eq a b) (numbers_same t n h k)

found_if : (c : Bool) (n : ℕ) (all : List LayoutTable) (t : LayoutTable) (p : Option ℕ)
    (rest : Option (ℕ × Table))
    → slice_get all n ≡ Some t → entry_at all p ≡ lines_found rest
    → entry_at all (cond c (Some n) p) ≡ lines_found (if c then Some (n, wanted_of t) else rest)
found_if true n all t p rest e h = ap (λ (o : Option LayoutTable). entry_in n o) e
  where
    entry_in : ℕ → Option LayoutTable → Option (ℕ × ℕ)
    entry_in n None = None
    entry_in n (Some t) = Some (n, length t.lines)
found_if false n all t p rest e h = h

entry_from : (n topic : ℕ) (name : List ℕ) (all ts : List LayoutTable) → topic < 2 ^ 64
    → AreSmall ts → ((i : ℕ) → slice_get all (n + i) ≡ slice_get ts i)
    → entry_at all (position_from (is_key (table_key topic name)) n (name_keys (table_keys ts)))
    ≡ lines_found (table_named n topic (name ∷ []) (map wanted_of ts))
entry_from n topic name all [] h s g = refl
entry_from n topic name all (t ∷ ts) h s g =
    let rest = position_from (is_key (table_key topic name)) (n + 1) (name_keys (table_keys ts)) in
    ap (λ (c : Bool). entry_at all (cond c (Some n) rest))
    (keys_same topic t.topic name t.name h (s 0))
    ∙ found_if (nat_eq t.topic topic && pointwise nat_eq name t.name) n all t rest
    (table_named (n + 1) topic (name ∷ []) (map wanted_of ts)) (ap (slice_get all) (plus_zero n)
    ∙ g 0)
    (entry_from (n + 1) topic name all ts h (λ i. s (suc i)) (λ i. ap (slice_get all) (plus_one n i)
    ∙ g (suc i)))
  where
    plus_zero : (n : ℕ) → n ≡ n + 0
    plus_zero n = omega arith

    plus_one : (n i : ℕ) → (n + 1) + i ≡ n + suc i
    plus_one n i = omega arith

-- the table that a topic and a name give
pub entry_named : (topic : ℕ) (name key : List ℕ) (ts : List LayoutTable) (keys : List (List ℕ))
    → topic < 2 ^ 64 → AreSmall ts → keys ≡ table_keys ts → key ≡ table_key topic name
    → entry_at ts (position_from (is_key key) 0 (name_keys keys))
    ≡ lines_found (table_named 0 topic (name ∷ []) (map wanted_of ts))
entry_named topic name key ts keys h s e k =
    ap (λ (x : List (List ℕ)). entry_at ts (position_from (is_key key) 0 (name_keys x))) e
    ∙ (ap (λ (x : List ℕ). entry_at ts (position_from (is_key x) 0 (name_keys (table_keys ts)))) k
    ∙ entry_from 0 topic name ts ts h s (λ i. ap (slice_get ts) (zero_plus i)))
  where
    zero_plus : (i : ℕ) → 0 + i ≡ i
    zero_plus i = omega arith

-- exactly one field
pub only : (fields : List (List ℕ)) (field : List ℕ) → 1 ≤ length fields → length fields < 2
    → field ≡ get_or fields 0 field → fields ≡ field ∷ []
only [] field h k e = absurd (omega (arith, h))
only (f ∷ []) field h k e = ap (λ (x : List ℕ). x ∷ []) (sym e)
only (f ∷ g ∷ fields) field h k e = absurd (omega (arith, k))
