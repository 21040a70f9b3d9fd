-- The names of the layout of a sound model have the form of names, and so have those of an area.
use Rattle.std.proofs.Common.{◌≡◌, ◌+◌, ℕ, List, [], ◌∷◌, Option, Some, length, unwrap_or, ◌∙◌, sym}
use Rattle.std.proofs.Common.{ap, subst}
use Rattle.std.specs.Prelude.{slice_get, option_and_then}
use Rattle.std.specs.List.{All, flat_map}
use Rattle.std.specs.Option.{option_map}
use Rattle.std.proofs.lemmas.List.Elements.{All-nil, All-cons, All-head, All-tail, All-append}
use Rattle.std.proofs.lemmas.List.Elements.{All-map}
use Rattle.std.proofs.lemmas.Option.{get_or_from_slice_get, slice_get_within}
use Rattle.ili_lexer.specs.Forms.{IsName}
use Rattle.resolver.specs.Resolved.{LineForm, Attribute, an_attribute, Value, Polyline, Surface}
use Rattle.resolver.specs.Resolved.{Area, a_part, ModelTable, Topic}
use Rattle.resolver.specs.Sound as sound
use Rattle.resolver.specs.Sound.{listed, IsNamedAttribute, IsNamedTopic}
use Rattle.table_layout.specs.Layouts.{Main, Column, Table, AreaOf, Layout}
use Rattle.table_layout.specs.Attributes.{columns_of, lines_of}
use Rattle.table_layout.specs.Tables.{Owner, area_table, area_tables, surface_table, main_table}
use Rattle.table_layout.specs.Tables.{with_helpers, tables_beside, topic_tables, tables_from}
use Rattle.table_layout.specs.Tables.{column_at, column_name, topic_names_of}
use Rattle.table_layout.specs.Valid.{IsRole, IsAreaTable, IsTable, IsArea, IsNamedTable}
use Rattle.table_layout.specs.Valid.{IsNamedArea, IsValid}

-- ---- columns and lines
abbrev HasColumnName : Column → Type 0
HasColumnName c = IsName c.name

abbrev HasLineName : LineForm → Type 0
HasLineName l = IsName l.name

column_named : (mains : List ℕ) (a : Attribute) → IsNamedAttribute a
    → All HasColumnName (columns_of mains a)
column_named mains (an_attribute n o (Value f)) h =
    All-cons HasColumnName _ [] h (All-nil HasColumnName)
column_named mains (an_attribute n o (Area l p)) h =
    All-cons HasColumnName _ [] h.0 (All-nil HasColumnName)
column_named mains (an_attribute n o (Polyline l)) h = All-nil HasColumnName
column_named mains (an_attribute n o (Surface l p)) h = All-nil HasColumnName

columns_named : (mains : List ℕ) (own : List Attribute) → All IsNamedAttribute own
    → All HasColumnName (flat_map (columns_of mains) own)
columns_named mains [] h = All-nil HasColumnName
columns_named mains (a ∷ as_) h =
    All-append HasColumnName (columns_of mains a) (flat_map (columns_of mains) as_)
    (column_named mains a (All-head IsNamedAttribute a as_ h))
    (columns_named mains as_ (All-tail IsNamedAttribute a as_ h))

line_named : (a : Attribute) → IsNamedAttribute a → All HasLineName (lines_of a)
line_named (an_attribute n o (Polyline l)) h = All-cons HasLineName l [] h.1 (All-nil HasLineName)
line_named (an_attribute n o (Value f)) h = All-nil HasLineName
line_named (an_attribute n o (Area l p)) h = All-nil HasLineName
line_named (an_attribute n o (Surface l p)) h = All-nil HasLineName

lines_named : (own : List Attribute) → All IsNamedAttribute own
    → All HasLineName (flat_map lines_of own)
lines_named [] h = All-nil HasLineName
lines_named (a ∷ as_) h =
    All-append HasLineName (lines_of a) (flat_map lines_of as_)
    (line_named a (All-head IsNamedAttribute a as_ h))
    (lines_named as_ (All-tail IsNamedAttribute a as_ h))

-- ---- tables
-- a declared table has names
abbrev pub Declared : Table → Type 0
Declared t = t.role ≡ Main → IsNamedTable t

area_is_none : (w : Owner) (c : ℕ) (a : Attribute) → All Declared (area_table w c a)
area_is_none w c (an_attribute n o (Area l (a_part own lists))) =
    All-cons Declared _ [] (λ e. absurd (cc)) (All-nil Declared)
area_is_none w c (an_attribute n o (Value f)) = All-nil Declared
area_is_none w c (an_attribute n o (Polyline l)) = All-nil Declared
area_is_none w c (an_attribute n o (Surface l p)) = All-nil Declared

areas_are_none : (w : Owner) (c : ℕ) (own : List Attribute) → All Declared (area_tables w c own)
areas_are_none w c [] = All-nil Declared
areas_are_none w c (a ∷ as_) =
    let next : ℕ = c + length (columns_of [] a) in
    All-append Declared (area_table w c a) (area_tables w next as_) (area_is_none w c a)
    (areas_are_none w next as_)

surface_is_none : (w : Owner) (a : Attribute) → All Declared (surface_table w a)
surface_is_none w (an_attribute n o (Surface l (a_part own lists))) =
    All-cons Declared _ [] (λ e. absurd (cc)) (All-nil Declared)
surface_is_none w (an_attribute n o (Value f)) = All-nil Declared
surface_is_none w (an_attribute n o (Polyline l)) = All-nil Declared
surface_is_none w (an_attribute n o (Area l p)) = All-nil Declared

surfaces_are_none : (w : Owner) (own : List Attribute)
    → All Declared (flat_map (surface_table w) own)
surfaces_are_none w [] = All-nil Declared
surfaces_are_none w (a ∷ as_) =
    All-append Declared (surface_table w a) (flat_map (surface_table w) as_) (surface_is_none w a)
    (surfaces_are_none w as_)

with_helpers_named : (w : Owner) (own : List Attribute) (lists : List (List ℕ)) → IsName w.name
    → All IsNamedAttribute own → All Declared (with_helpers w own lists)
with_helpers_named w own lists n h =
    let t : Table = main_table w own lists in
    let named : IsNamedTable t = record {
      name = n;
      columns = columns_named w.mains own h;
      lines = lines_named own h;
    } in
    All-append Declared (area_tables w 0 own) (t ∷ flat_map (surface_table w) own)
    (areas_are_none w 0 own)
    (All-cons Declared t (flat_map (surface_table w) own) (λ _. named) (surfaces_are_none w own))

beside_named : (topic : ℕ) (mains ms : List ℕ) (ts : List ModelTable) → All sound.IsNamedTable ts
    → All Declared (tables_beside topic mains ms ts)
beside_named topic mains [] ts h = All-nil Declared
beside_named topic mains (m ∷ ms) [] h = All-nil Declared
beside_named topic mains (m ∷ ms) (t ∷ ts) h =
    let w : Owner = record { topic = topic; mains = mains; main = m; name = t.name } in
    let named : sound.IsNamedTable t = All-head sound.IsNamedTable t ts h in
    All-append Declared (with_helpers w (listed t.attributes) t.idents)
    (tables_beside topic mains ms ts)
    (with_helpers_named w (listed t.attributes) t.idents named.name named.attributes)
    (beside_named topic mains ms ts (All-tail sound.IsNamedTable t ts h))

pub tables_named : (topic first : ℕ) (ts : List Topic) → All IsNamedTopic ts
    → All Declared (tables_from topic first ts)
tables_named topic first [] h = All-nil Declared
tables_named topic first (t ∷ ts) h =
    let one : List Table = topic_tables topic first t.tables in
    let rest : List Table = tables_from (topic + 1) (first + length one) ts in
    All-append Declared one rest
    (beside_named topic _ _ t.tables (All-head IsNamedTopic t ts h).tables)
    (tables_named (topic + 1) (first + length one) ts (All-tail IsNamedTopic t ts h))

pub topics_named : (ts : List Topic) → All IsNamedTopic ts → All IsName (topic_names_of ts)
topics_named ts h = All-map IsName (λ (t : Topic). t.name) ts (λ i t lt. (h i t lt).name)

-- ---- areas
at_place : {X : Type 0} (P : X → Type 0) (xs : List X) (i : ℕ) (x : X) → All P xs
    → slice_get xs i ≡ Some x → P x
at_place P xs i x h e =
    subst P (get_or_from_slice_get xs i x x e) (h i x (slice_get_within xs i x e))

column_there : (tables : List Table) (main place : ℕ) (t : Table) (c : Column)
    → slice_get tables main ≡ Some t → slice_get t.columns place ≡ Some c
    → column_name tables main place ≡ c.name
column_there tables main place t c e f =
    let there : column_at tables main place
    ≡ Some c = ap
    (λ (o : Option Table). option_and_then (λ (t : Table). slice_get t.columns place) o) e
    ∙ f in
    ap (λ (o : Option Column). unwrap_or (option_map (λ (c : Column). c.name) o) []) there

pub area_named : (l : Layout) (k : ℕ) (a : AreaOf) → IsValid l → slice_get l.areas k ≡ Some a
    → IsNamedArea l a
area_named l k a v e =
    let IsPlaced : Table → Type 0 = IsTable (length l.topics) l.tables in
    let area : IsArea l.tables a = at_place (IsArea l.tables) l.areas k a v.areas e in
    let helper : IsPlaced area.helper = at_place IsPlaced l.tables a.lines area.helper v.tables
    area.lines in
    let lines : IsAreaTable l.tables area.helper a.main a.column = subst
    (IsRole l.tables area.helper) area.role helper.role in
    let owner : IsPlaced lines.owner = at_place IsPlaced l.tables a.main lines.owner v.tables
    lines.main in
    let named : IsNamedTable lines.owner = at_place Declared l.tables a.main lines.owner
    v.names.tables lines.main lines.is_main in
    let point : IsName lines.point.name = at_place HasColumnName lines.owner.columns a.column
    lines.point named.columns lines.column in
    record {
      table = lines.owner;
      main = lines.main;
      topic_name = v.names.topics lines.owner.topic [] owner.topic;
      table_name = named.name;
      name = subst IsName
          (sym (area.name
          ∙ column_there l.tables a.main a.column lines.owner lines.point lines.main lines.column))
          point;
    }
