-- The tables of a transfer, in order, and its areas.
use Rattle.std.specs.Prelude.{ℕ, ◌+◌, List, [], ◌∷◌, ◌++◌, length, map, false, Option}
use Rattle.std.specs.Prelude.{option_and_then, slice_get, unwrap_or}
use Rattle.std.specs.Option.{option_map}
use Rattle.std.specs.List.{flat_map}
use Rattle.resolver.specs.Resolved.{Reference, LineForm, Attribute, an_attribute, Value, Polyline}
use Rattle.resolver.specs.Resolved.{Surface, Area, LinePart, a_part, ModelTable, Topic}
use Rattle.resolver.specs.Resolved.{ResolvedModel}
use Rattle.resolver.specs.Rules.{helper_name}
use Rattle.resolver.specs.Sound.{listed}
use Rattle.table_layout.specs.Layouts.{Role, Main, AreaLines, SurfaceLines, Column, Table, AreaOf}
use Rattle.table_layout.specs.Layouts.{Layout}
use Rattle.table_layout.specs.Attributes.{columns_of, lines_of, idents_of}

-- a declared table: the number of its topic, the numbers of the topic's main tables in the whole
-- list, its own number there, and its name
pub record Owner : Type 0 where
  pub topic : ℕ
  pub mains : List ℕ
  pub main : ℕ
  pub name : List ℕ

-- ---- whether an attribute has a helper table, before or after its table
-- 1 for an AREA attribute, 0 for any other
abbrev pub area_count : Attribute → ℕ
area_count (an_attribute n o (Area l p)) = 1
area_count (an_attribute n o (Value f)) = 0
area_count (an_attribute n o (Polyline l)) = 0
area_count (an_attribute n o (Surface l p)) = 0

-- 1 for a SURFACE attribute, 0 for any other
abbrev pub surface_count : Attribute → ℕ
surface_count (an_attribute n o (Surface l p)) = 1
surface_count (an_attribute n o (Value f)) = 0
surface_count (an_attribute n o (Polyline l)) = 0
surface_count (an_attribute n o (Area l p)) = 0

-- ---- helper tables
-- the one line of a helper table, which has the name of the attribute and may not be missing
abbrev pub boundary : List ℕ → LineForm → List LineForm
boundary n l = record l { name = n; optional = false } ∷ []

-- the table of the lines of an attribute of that name: these columns, and then those that the
-- lines have of their own
abbrev pub helper_table : Owner → Role → List Column → List ℕ → LineForm → LinePart → Table
helper_table w role first n l (a_part own lists) =
    record {
      topic = w.topic;
      name = helper_name w.name n;
      role = role;
      columns = first ++ flat_map (columns_of w.mains) (listed own);
      lines = boundary n l;
      idents = idents_of (length first) (listed own) lists;
    }

-- an AREA attribute, which is this column of its table, has a table without further columns
abbrev pub area_table : Owner → ℕ → Attribute → List Table
area_table w column (an_attribute n o (Area l p)) =
    helper_table w (AreaLines w.main column) [] n l p ∷ []
area_table w column (an_attribute n o (Value f)) = []
area_table w column (an_attribute n o (Polyline l)) = []
area_table w column (an_attribute n o (Surface l p)) = []

-- the tables of all AREA attributes, with so many columns before them
abbrev pub area_tables : Owner → ℕ → List Attribute → List Table
area_tables w column [] = []
area_tables w column (a ∷ as_) =
    area_table w column a ++ area_tables w (column + length (columns_of [] a)) as_

-- a mandatory reference to the main table, by its name
abbrev pub owner_column : Owner → Column
owner_column w = record { name = w.name; optional = false; form = Reference w.main }

-- a SURFACE attribute has a table that begins with that reference
abbrev pub surface_table : Owner → Attribute → List Table
surface_table w (an_attribute n o (Surface l p)) =
    helper_table w (SurfaceLines w.main) (owner_column w ∷ []) n l p ∷ []
surface_table w (an_attribute n o (Value f)) = []
surface_table w (an_attribute n o (Polyline l)) = []
surface_table w (an_attribute n o (Area l p)) = []

-- ---- declared tables
-- the table that is declared, with its columns and its polylines
abbrev pub main_table : Owner → List Attribute → List (List ℕ) → Table
main_table w own lists =
    record {
      topic = w.topic;
      name = w.name;
      role = Main;
      columns = flat_map (columns_of w.mains) own;
      lines = flat_map lines_of own;
      idents = idents_of 0 own lists;
    }

-- one helper table for each AREA attribute, the table itself, one for each SURFACE attribute
abbrev pub with_helpers : Owner → List Attribute → List (List ℕ) → List Table
with_helpers w own lists =
    area_tables w 0 own ++ main_table w own lists ∷ flat_map (surface_table w) own

-- ---- how many tables stand for a declared table
-- how many AREA attributes there are
abbrev pub areas_in : List Attribute → ℕ
areas_in [] = 0
areas_in (a ∷ as_) = area_count a + areas_in as_

-- how many SURFACE attributes there are
abbrev pub surfaces_in : List Attribute → ℕ
surfaces_in [] = 0
surfaces_in (a ∷ as_) = surface_count a + surfaces_in as_

-- how many tables stand for the declared tables of a topic
abbrev pub tables_in : List ModelTable → ℕ
tables_in [] = 0
tables_in (t ∷ ts) =
    areas_in (listed t.attributes) + 1 + surfaces_in (listed t.attributes) + tables_in ts

-- the numbers of the declared tables, where the first of all tables of the topic has this number
abbrev pub numbers_from : ℕ → List ModelTable → List ℕ
numbers_from first [] = []
numbers_from first (t ∷ ts) =
    (first + areas_in (listed t.attributes))
    ∷ numbers_from
    (first + areas_in (listed t.attributes) + 1 + surfaces_in (listed t.attributes)) ts

-- the tables of declared tables, each beside its number
abbrev pub tables_beside : ℕ → List ℕ → List ℕ → List ModelTable → List Table
tables_beside topic mains [] ts = []
tables_beside topic mains (m ∷ ms) [] = []
tables_beside topic mains (m ∷ ms) (t ∷ ts) =
    with_helpers (record { topic = topic; mains = mains; main = m; name = t.name })
    (listed t.attributes) t.idents
    ++ tables_beside topic mains ms ts

-- the tables of a topic, the first of which has this number
abbrev pub topic_tables : ℕ → ℕ → List ModelTable → List Table
topic_tables topic first ts = tables_beside topic (numbers_from first ts) (numbers_from first ts) ts

-- the tables of all topics from the one with this number on, the first table with this number
abbrev pub tables_from : ℕ → ℕ → List Topic → List Table
tables_from topic first [] = []
tables_from topic first (t ∷ ts) =
    topic_tables topic first t.tables
    ++ tables_from (topic + 1) (first + length (topic_tables topic first t.tables)) ts

-- ---- areas
-- a column by the numbers of its table and its own
abbrev pub column_at : List Table → ℕ → ℕ → Option Column
column_at tables main column =
    option_and_then (λ (t : Table). slice_get t.columns column) (slice_get tables main)

-- the name of a column, which is that of its attribute
abbrev pub column_name : List Table → ℕ → ℕ → List ℕ
column_name tables main column =
    unwrap_or (option_map (λ (c : Column). c.name) (column_at tables main column)) []

-- a helper table of an AREA, with its number, is one area
abbrev pub area_of : List Table → ℕ → Role → List AreaOf
area_of tables number (AreaLines main column) =
    record { lines = number; main = main; column = column; name = column_name tables main column }
    ∷ []
area_of tables number Main = []
area_of tables number (SurfaceLines main) = []

-- the areas of the tables from the one with this number on, in their order
abbrev pub areas_from : List Table → ℕ → List Table → List AreaOf
areas_from tables number [] = []
areas_from tables number (t ∷ ts) =
    area_of tables number t.role ++ areas_from tables (number + 1) ts

-- ---- the whole
-- the names of topics
abbrev pub topic_names_of : List Topic → List (List ℕ)
topic_names_of ts = map (λ (t : Topic). t.name) ts

-- the layout of what a model stands for
abbrev pub layout_of : ResolvedModel → Layout
layout_of m =
    let tables = tables_from 0 0 m.topics in record {
      model = m.name;
      codes = m.codes;
      topics = topic_names_of m.topics;
      tables = tables;
      areas = areas_from tables 0 tables;
    }
