-- What an area is called: the names of its topic, of its main table and of its attribute.
use Rattle.std.specs.Prelude.{ℕ, List, [], Option, Some, None, slice_get, slice_index_or}
use Rattle.certificate.specs.Spelling.{IsName}
use Rattle.table_layout.specs.Layouts.{Table, AreaOf, Layout}

-- the name of a table's topic, empty where there is no such table
abbrev pub topic_at : Layout → Option Table → List ℕ
topic_at l (Some t) = slice_index_or l.topics t.topic []
topic_at l None = []

-- the name of a table, empty where there is none
abbrev pub name_at : Option Table → List ℕ
name_at (Some t) = t.name
name_at None = []

-- the name of the topic of an AREA
abbrev pub topic_name : Layout → AreaOf → List ℕ
topic_name l a = topic_at l (slice_get l.tables a.main)

-- the name of the main table of an AREA
abbrev pub table_name : Layout → AreaOf → List ℕ
table_name l a = name_at (slice_get l.tables a.main)

-- they are such as the title line of a certificate can hold
pub record HasTitle (l : Layout) (a : AreaOf) : Type 0 where
  pub topic : IsName (topic_name l a)
  pub table : IsName (table_name l a)
  pub attribute : IsName a.name
