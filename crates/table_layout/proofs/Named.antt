-- Each table of a layout is found by its name in its topic, where names are different.
use Rattle.std.proofs.Common.{◌≡◌, ◌<◌, ◌≤◌, ◌+◌, ℕ, zero, suc, List, [], ◌∷◌, ◌++◌, length, Bool}
use Rattle.std.proofs.Common.{true, false, cond, Some, refl, ◌∙◌, ap, arith, nat_eq, count_by}
use Rattle.std.specs.Prelude.{slice_get, ◌&&◌, ◌==◌}
use Rattle.std.specs.List.{All, flat_map, position_from}
use Rattle.std.specs.Cmp.Lexicographic.{pointwise}
use Rattle.std.proofs.lemmas.Bool.{eqb-true, eq-eqb}
use Rattle.std.proofs.lemmas.Slice.Eq.{bytes_eq-Decides}
use Rattle.std.proofs.lemmas.List.Sums.{sum_by-cons, sum_by-append}
use Rattle.std.proofs.lemmas.List.Elements.{All-head, All-tail}
use Rattle.resolver.specs.Resolved.{Attribute, an_attribute, Value, Polyline, Surface, Area, a_part}
use Rattle.resolver.specs.Resolved.{ModelTable, Topic, ResolvedModel}
use Rattle.resolver.specs.Sound.{listed}
use Rattle.table_layout.specs.Attributes.{columns_of}
use Rattle.table_layout.specs.Finding.{is_named}
use Rattle.table_layout.specs.Layouts.{Table}
use Rattle.table_layout.specs.Names.{times, AreDifferent, helper_names, names_taken}
use Rattle.table_layout.specs.Names.{topic_names_taken, HasOwnNames, IsFoundByName}
use Rattle.table_layout.specs.Tables.{Owner, area_table, area_tables, surface_table, main_table}
use Rattle.table_layout.specs.Tables.{with_helpers, areas_in, surfaces_in, numbers_from}
use Rattle.table_layout.specs.Tables.{tables_beside, topic_tables, tables_from, layout_of}
use Rattle.table_layout.specs.Tables.{topic_names_of}

-- ---- counting
-- 1 for what passes
abbrev once : Bool → ℕ
once b = cond b 1 0

count-cons : {X : Type 0} (p : X → Bool) (x : X) (xs : List X)
    → count_by p (x ∷ xs) ≡ once (p x) + count_by p xs
count-cons p x xs = sum_by-cons (λ x. once (p x)) x xs

count-append : {X : Type 0} (p : X → Bool) (xs ys : List X)
    → count_by p (xs ++ ys) ≡ count_by p xs + count_by p ys
count-append p xs ys = sum_by-append (λ x. once (p x)) xs ys

counted : {X : Type 0} (p : X → Bool) (xs : List X) (i : ℕ) (x : X) → slice_get xs i ≡ Some x
    → p x ≡ true → 1 ≤ count_by p xs
counted p [] i x e h = absurd (cc)
counted {X} p (y ∷ ys) zero x e h =
    let same : y ≡ x = cc in
    let one : once (p y) ≡ 1 = rw (ap p same ∙ h) refl in
    omega (arith, one, count-cons p y ys)
counted p (y ∷ ys) (suc i) x e h = omega (arith, count-cons p y ys, counted p ys i x e h)

-- what passes once is found at its place
pub found_once : {X : Type 0} (p : X → Bool) (xs : List X) (i from : ℕ) (x : X)
    → slice_get xs i ≡ Some x → p x ≡ true → count_by p xs ≤ 1
    → position_from p from xs ≡ Some (from + i)
found_once p [] i from x e h few = absurd (cc)
found_once {X} p (y ∷ ys) zero from x e h few =
    let same : y ≡ x = cc in
    let plain : from ≡ from + 0 = omega arith in
    rw (ap p same ∙ h) (ap (λ (n : ℕ). Some n) plain)
found_once {X} p (y ∷ ys) (suc i) from x e h few =
    go (found_once p ys i (from + 1) x e h) (p y) refl
  where
    step : (from + 1) + i ≡ from + suc i
    step = omega arith

    go : (count_by p ys ≤ 1 → position_from p (from + 1) ys ≡ Some ((from + 1) + i)) → (t : Bool)
        → p y ≡ t → cond t (Some from) (position_from p (from + 1) ys) ≡ Some (from + suc i)
    go f true q =
        let one : once (p y) ≡ 1 = rw q refl in
        absurd (omega (arith, one, few, count-cons p y ys, counted p ys i x e h))
    go f false q = f (omega (arith, few, count-cons p y ys)) ∙ ap (λ (n : ℕ). Some n) step

itself : (name : List ℕ) → pointwise nat_eq name name ≡ true
itself name = (bytes_eq-Decides name name).1 refl

-- ---- the tables of a topic, by the names that they take
-- a name, in this topic
abbrev in_topic : ℕ → ℕ → List ℕ → List ℕ → Bool
in_topic k n name x = (k == n) && pointwise nat_eq x name

helpers : (n : ℕ) (name : List ℕ) (w : Owner) (c : ℕ) (own : List Attribute)
    → count_by (is_named n name) (area_tables w c own)
    + count_by (is_named n name) (flat_map (surface_table w) own)
    ≡ count_by (in_topic w.topic n name) (flat_map (helper_names w.name) own)
helpers n name w c [] = refl
helpers n name w c (a ∷ as_) =
    omega (
      arith,
      count-append (is_named n name) (area_table w c a)
          (area_tables w (c + length (columns_of [] a)) as_),
      count-append (is_named n name) (surface_table w a) (flat_map (surface_table w) as_),
      count-append (in_topic w.topic n name) (helper_names w.name a)
          (flat_map (helper_names w.name) as_),
      one a,
      helpers n name w (c + length (columns_of [] a)) as_,
    )
  where
    one : (a : Attribute)
        → count_by (is_named n name) (area_table w c a)
        + count_by (is_named n name) (surface_table w a)
        ≡ count_by (in_topic w.topic n name) (helper_names w.name a)
    one (an_attribute m o (Value f)) = refl
    one (an_attribute m o (Polyline l)) = refl
    one (an_attribute m o (Area l (a_part own lists))) = omega arith
    one (an_attribute m o (Surface l (a_part own lists))) = omega arith

with_helpers_named : (n : ℕ) (name : List ℕ) (w : Owner) (t : ModelTable) → w.name ≡ t.name
    → count_by (is_named n name) (with_helpers w (listed t.attributes) t.idents)
    ≡ count_by (in_topic w.topic n name) (names_taken t)
with_helpers_named n name w t e =
    let own = listed t.attributes in
    let P = is_named n name in
    let Q = in_topic w.topic n name in
    let h : count_by Q (flat_map (helper_names w.name) own)
    ≡ count_by Q (flat_map (helper_names t.name) own) =
    ap (λ (x : List ℕ). count_by Q (flat_map (helper_names x) own)) e in
    let m : once (P (main_table w own t.idents))
    ≡ once (Q t.name) = ap (λ (x : List ℕ). once (Q x)) e in
    omega (
      arith,
      count-append P (area_tables w 0 own)
          (main_table w own t.idents ∷ flat_map (surface_table w) own),
      count-cons P (main_table w own t.idents) (flat_map (surface_table w) own),
      count-cons Q t.name (flat_map (helper_names t.name) own),
      helpers n name w 0 own,
      h,
      m,
    )

topic_named : (n : ℕ) (name : List ℕ) (k : ℕ) (mains : List ℕ) (first : ℕ) (ts : List ModelTable)
    → count_by (is_named n name) (tables_beside k mains (numbers_from first ts) ts)
    ≡ count_by (in_topic k n name) (flat_map names_taken ts)
topic_named n name k mains first [] = refl
topic_named n name k mains first (t ∷ ts) =
    let w : Owner = record {
      topic = k;
      mains = mains;
      main = first + areas_in (listed t.attributes);
      name = t.name;
    } in
    let next : ℕ = first + areas_in (listed t.attributes) + 1 + surfaces_in (listed t.attributes) in
    let rest : List Table = tables_beside k mains (numbers_from next ts) ts in
    omega (
      arith,
      count-append (is_named n name)
          (with_helpers w (listed t.attributes) t.idents) rest,
      count-append (in_topic k n name) (names_taken t) (flat_map names_taken ts),
      with_helpers_named n name w t refl,
      topic_named n name k mains next ts,
    )

-- ---- all topics
in_no_other : (k n : ℕ) (name : List ℕ) (xs : List (List ℕ)) → nat_eq k n ≡ false
    → count_by (in_topic k n name) xs ≡ 0
in_no_other k n name [] h = refl
in_no_other k n name (x ∷ xs) h =
    let none : once (in_topic k n name x) ≡ 0 = rw h refl in
    omega (arith, none, count-cons (in_topic k n name) x xs, in_no_other k n name xs h)

in_its_own : (k n : ℕ) (name : List ℕ) (xs : List (List ℕ)) → nat_eq k n ≡ true
    → count_by (in_topic k n name) xs ≡ times name xs
in_its_own k n name [] h = refl
in_its_own k n name (x ∷ xs) h =
    let same : once (in_topic k n name x) ≡ once (pointwise nat_eq x name) = rw h refl in
    omega (
      arith,
      same,
      count-cons (in_topic k n name) x xs,
      count-cons (λ n. pointwise nat_eq n name) x xs,
      in_its_own k n name xs h,
    )

further_on : (n : ℕ) (name : List ℕ) (k first : ℕ) (ts : List Topic) → n < k
    → count_by (is_named n name) (tables_from k first ts) ≡ 0
further_on n name k first [] h = refl
further_on n name k first (t ∷ ts) h =
    let one = topic_tables k first t.tables in
    let a = topic_named n name k (numbers_from first t.tables) first t.tables in
    let b = in_no_other k n name (topic_names_taken t) (other (nat_eq k n) refl) in
    omega (
      arith,
      count-append (is_named n name) one (tables_from (k + 1) (first + length one) ts),
      a,
      b,
      further_on n name (k + 1) (first + length one) ts (omega (arith, h)),
    )
  where
    other : (b : Bool) → nat_eq k n ≡ b → b ≡ false
    other false e = refl
    other true e = absurd (omega (arith, h, eqb-true k n e))

one_topic : (n : ℕ) (name : List ℕ) (k first : ℕ) (t : Topic) (rest : List Table)
    → AreDifferent (topic_names_taken t) → (n < k + 1 → count_by (is_named n name) rest ≡ 0)
    → count_by (is_named n name) rest ≤ 1
    → count_by (is_named n name) (topic_tables k first t.tables ++ rest) ≤ 1
one_topic n name k first t rest few none more = go (nat_eq k n) refl
  where
    both : count_by (is_named n name) (topic_tables k first t.tables ++ rest)
        ≡ count_by (is_named n name) (topic_tables k first t.tables)
        + count_by (is_named n name) rest
    both = count-append (is_named n name) (topic_tables k first t.tables) rest

    named : count_by (is_named n name) (topic_tables k first t.tables)
        ≡ count_by (in_topic k n name) (topic_names_taken t)
    named = topic_named n name k (numbers_from first t.tables) first t.tables

    go : (b : Bool) → nat_eq k n ≡ b
        → count_by (is_named n name) (topic_tables k first t.tables ++ rest) ≤ 1
    go true e =
        let q = eqb-true k n e in
        let z = none (omega (arith, q)) in
        let d = few name in
        omega (arith, both, named, in_its_own k n name (topic_names_taken t) e, d, z)
    go false e = omega (arith, both, named, in_no_other k n name (topic_names_taken t) e, more)

all_named : (n : ℕ) (name : List ℕ) (k first : ℕ) (ts : List Topic)
    → All (λ t. AreDifferent (topic_names_taken t)) ts
    → count_by (is_named n name) (tables_from k first ts) ≤ 1
all_named n name k first [] all = omega arith
all_named n name k first (t ∷ ts) all =
    let next = first + length (topic_tables k first t.tables) in
    one_topic n name k first t (tables_from (k + 1) next ts)
    (All-head (λ t. AreDifferent (topic_names_taken t)) t ts all)
    (further_on n name (k + 1) next ts)
    (all_named n name (k + 1) next ts (All-tail (λ t. AreDifferent (topic_names_taken t)) t ts all))

-- ---- the whole
pub found_by_name : (m : ResolvedModel) → HasOwnNames m → IsFoundByName (layout_of m)
found_by_name m h = record {
  tables = λ i t e. found_once (is_named t.topic t.name) (tables_from 0 0 m.topics) i 0 t e
      (its_own t) (all_named t.topic t.name 0 0 m.topics h.tables)
      ∙ ap (λ (n : ℕ). Some n) (plain i);
  topics = λ i name e. found_once (λ n. pointwise nat_eq n name)
      (topic_names_of m.topics) i 0 name e (itself name) (h.topics name)
      ∙ ap (λ (n : ℕ). Some n) (plain i);
}
  where
    plain : (n : ℕ) → 0 + n ≡ n
    plain n = omega arith

    its_own : (t : Table) → is_named t.topic t.name t ≡ true
    its_own t = rw (eq-eqb t.topic t.topic refl, itself t.name) refl
