-- How many tables there are, and that they are few.
use Rattle.std.proofs.Common.{◌≡◌, ◌≤◌, ◌+◌, ℕ, List, [], ◌∷◌, length, refl, arith, length-append}
use Rattle.std.specs.List.{All, sum_by, flat_map}
use Rattle.std.proofs.lemmas.List.Sums.{sum_by-cons}
use Rattle.std.proofs.lemmas.List.Elements.{All-nil, All-cons, All-head, All-tail, All-weaker}
use Rattle.resolver.specs.Resolved.{Attribute, an_attribute, Value, Polyline, Surface, Area, a_part}
use Rattle.resolver.specs.Resolved.{ModelTable, Topic}
use Rattle.resolver.specs.Sound.{listed, table_name_count, topic_name_count, IsSoundAttribute}
use Rattle.resolver.specs.Sound.{IsSoundTable, IsSoundTopic}
use Rattle.table_layout.specs.Attributes.{columns_of}
use Rattle.table_layout.specs.Tables.{Owner, area_count, surface_count, areas_in, surfaces_in}
use Rattle.table_layout.specs.Tables.{tables_in, numbers_from, area_table, area_tables}
use Rattle.table_layout.specs.Tables.{surface_table, main_table, with_helpers, tables_beside}
use Rattle.table_layout.specs.Tables.{topic_tables}
use Rattle.table_layout.specs.Few.{HasFew, AreFew, IsSmallTable, IsSmallTopic, numbers_in}

-- ---- how many tables stand for an attribute, a table, a topic
length-area : (w : Owner) (c : ℕ) (a : Attribute) → length (area_table w c a) ≡ area_count a
length-area w c (an_attribute n o (Area l (a_part own lists))) = refl
length-area w c (an_attribute n o (Value f)) = refl
length-area w c (an_attribute n o (Polyline l)) = refl
length-area w c (an_attribute n o (Surface l p)) = refl

length-surface : (w : Owner) (a : Attribute) → length (surface_table w a) ≡ surface_count a
length-surface w (an_attribute n o (Surface l (a_part own lists))) = refl
length-surface w (an_attribute n o (Value f)) = refl
length-surface w (an_attribute n o (Polyline l)) = refl
length-surface w (an_attribute n o (Area l p)) = refl

pub length-areas : (w : Owner) (c : ℕ) (own : List Attribute)
    → length (area_tables w c own) ≡ areas_in own
length-areas w c [] = refl
length-areas w c (a ∷ as_) =
    omega (
      arith,
      length-append (area_table w c a)
          (area_tables w (c + length (columns_of [] a)) as_),
      length-area w c a,
      length-areas w (c + length (columns_of [] a)) as_,
    )

pub length-surfaces : (w : Owner) (own : List Attribute)
    → length (flat_map (surface_table w) own) ≡ surfaces_in own
length-surfaces w [] = refl
length-surfaces w (a ∷ as_) =
    omega (
      arith,
      length-append (surface_table w a) (flat_map (surface_table w) as_),
      length-surface w a,
      length-surfaces w as_,
    )

pub length-with_helpers : (w : Owner) (own : List Attribute) (lists : List (List ℕ))
    → length (with_helpers w own lists) ≡ areas_in own + 1 + surfaces_in own
length-with_helpers w own lists =
    omega (
      arith,
      length-append (area_tables w 0 own)
          (main_table w own lists ∷ flat_map (surface_table w) own),
      length-areas w 0 own,
      length-surfaces w own,
    )

pub length-beside : (n : ℕ) (mains : List ℕ) (first : ℕ) (ts : List ModelTable)
    → length (tables_beside n mains (numbers_from first ts) ts) ≡ tables_in ts
length-beside n mains first [] = refl
length-beside n mains first (t ∷ ts) =
    let w : Owner = record {
      topic = n;
      mains = mains;
      main = first + areas_in (listed t.attributes);
      name = t.name;
    } in
    let next : ℕ = first + areas_in (listed t.attributes) + 1 + surfaces_in (listed t.attributes) in
    omega (
      arith,
      length-append (with_helpers w (listed t.attributes) t.idents)
          (tables_beside n mains (numbers_from next ts) ts),
      length-with_helpers w (listed t.attributes) t.idents,
      length-beside n mains next ts,
    )

pub length-topic : (n first : ℕ) (ts : List ModelTable)
    → length (topic_tables n first ts) ≡ tables_in ts
length-topic n first ts = length-beside n (numbers_from first ts) first ts

-- ---- no more tables than names
helper_count : (a : Attribute) → area_count a + surface_count a ≤ 1
helper_count (an_attribute n o (Surface l p)) = omega arith
helper_count (an_attribute n o (Value f)) = omega arith
helper_count (an_attribute n o (Polyline l)) = omega arith
helper_count (an_attribute n o (Area l p)) = omega arith

helpers_few : (own : List Attribute) → areas_in own + surfaces_in own ≤ length own
helpers_few [] = omega arith
helpers_few (a ∷ as_) = omega (arith, helper_count a, helpers_few as_)

tables_few : (ts : List ModelTable) → tables_in ts ≤ sum_by table_name_count ts
tables_few [] = omega arith
tables_few (t ∷ ts) =
    omega (
      arith,
      sum_by-cons table_name_count t ts,
      helpers_few (listed t.attributes),
      tables_few ts,
    )

pub numbers_few : (ts : List Topic) → numbers_in ts ≤ sum_by topic_name_count ts
numbers_few [] = omega arith
numbers_few (t ∷ ts) =
    omega (arith, sum_by-cons topic_name_count t ts, tables_few t.tables, numbers_few ts)

-- ---- what is sound is small
small_attribute : (k : ℕ) (a : Attribute) → IsSoundAttribute k a → HasFew a
small_attribute k (an_attribute n o (Value f)) h = tt
small_attribute k (an_attribute n o (Polyline l)) h = tt
small_attribute k (an_attribute n o (Surface l (a_part own lists))) h = h.few
small_attribute k (an_attribute n o (Area l (a_part own lists))) h = h.1.few

small_tables : (k : ℕ) (ts : List ModelTable) → sum_by table_name_count ts ≤ 4194304
    → All (IsSoundTable k) ts → All IsSmallTable ts
small_tables k [] few h = All-nil IsSmallTable
small_tables k (t ∷ ts) few h =
    let cons = sum_by-cons table_name_count t ts in
    let sound = All-head (IsSoundTable k) t ts h in
    let small : AreFew (listed t.attributes) = record {
      few = omega arith;
      lines = All-weaker (IsSoundAttribute k) HasFew (small_attribute k)
          (listed t.attributes) sound.attributes;
    } in
    All-cons IsSmallTable t ts small
    (small_tables k ts (omega arith) (All-tail (IsSoundTable k) t ts h))

pub small_topics : (ts : List Topic) → sum_by topic_name_count ts ≤ 4194304 → All IsSoundTopic ts
    → All IsSmallTopic ts
small_topics [] few h = All-nil IsSmallTopic
small_topics (t ∷ ts) few h =
    let cons = sum_by-cons topic_name_count t ts in
    All-cons IsSmallTopic t ts
    (small_tables (length t.tables) t.tables (omega arith) (All-head IsSoundTopic t ts h))
    (small_topics ts (omega arith) (All-tail IsSoundTopic t ts h))
