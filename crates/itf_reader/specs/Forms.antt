-- What a transfer text is read by, and what it holds.
use Rattle.std.specs.Prelude.{ℕ, ◌+◌, ◌-◌, Bool, true, false, List, [], ◌∷◌, ◌++◌, length}
use Rattle.std.specs.Prelude.{replicate, Option, Some, None, if◌then◌else◌, nat_eq, ◌&&◌}
use Rattle.itf_lines.specs.Words.{same}

-- a table that may come: the number of its topic, its name, and the number of its lines
pub record Table : Type 0 where
  pub topic : ℕ
  pub name : List ℕ
  pub lines : ℕ

-- the name of the model, those of its topics, and the tables of all topics
pub record Form : Type 0 where
  pub model : List ℕ
  pub topics : List (List ℕ)
  pub tables : List Table

-- how a vertex is joined to the one before it
pub data Kind : Type 0 where
  Start Straight OnArc : Kind

-- a vertex of a line: its line of the transfer, how it is joined to the one before it, and its
-- fields
pub record Vertex : Type 0 where
  pub line : ℕ
  pub kind : Kind
  pub fields : List (List ℕ)

-- the vertex with these parts
abbrev pub vertex : Kind → ℕ → List (List ℕ) → Vertex
vertex kind line fields = record { line = line; kind = kind; fields = fields }

-- an object: the number and the fields of its line, and its strokes, of which one without vertices
-- is undefined
pub record Row : Type 0 where
  pub line : ℕ
  pub fields : List (List ℕ)
  pub strokes : List (List Vertex)

-- a table of a text: its number among all tables, and its rows
pub record TableRows : Type 0 where
  pub table : ℕ
  pub rows : List Row

-- a topic of a text: its number, and its tables in the order of the text
pub record TopicRows : Type 0 where
  pub topic : ℕ
  pub tables : List TableRows

-- there is exactly one field, and it is that name
abbrev pub names : List (List ℕ) → List ℕ → Bool
names [] name = false
names (field ∷ []) name = same field name
names (field ∷ next ∷ fields) name = false

-- the table of a topic that the fields name, with its number, the first of these tables having that
-- one
abbrev pub table_named : ℕ → ℕ → List (List ℕ) → List Table → Option (ℕ × Table)
table_named number topic fields [] = None
table_named number topic fields (table ∷ tables) =
    if nat_eq table.topic topic && names fields table.name
    then Some (number, table)
    else table_named (number + 1) topic fields tables

-- the number of the topic that the fields name, the first of these topics having that one
abbrev pub topic_named : ℕ → List (List ℕ) → List (List ℕ) → Option ℕ
topic_named number fields [] = None
topic_named number fields (name ∷ topics) =
    if names fields name then Some number else topic_named (number + 1) fields topics

-- one of these tables has that number
abbrev pub has_table : ℕ → List TableRows → Bool
has_table number [] = false
has_table number (earlier ∷ tables) =
    if nat_eq earlier.table number then true else has_table number tables

-- one of these topics has that number
abbrev pub has_topic : ℕ → List TopicRows → Bool
has_topic number [] = false
has_topic number (earlier ∷ topics) =
    if nat_eq earlier.topic number then true else has_topic number topics

-- as many strokes as the table has lines: the missing ones at the end are undefined
abbrev pub fill_strokes : ℕ → List (List Vertex) → List (List Vertex)
fill_strokes lines strokes = strokes ++ replicate (lines - length strokes) []

-- the rows of the table of that number among these; none where it is not among them
abbrev pub rows_in : ℕ → List TableRows → List Row
rows_in number [] = []
rows_in number (earlier ∷ tables) =
    if nat_eq earlier.table number then earlier.rows else rows_in number tables

-- the tables of all topics
abbrev pub tables_of : List TopicRows → List TableRows
tables_of [] = []
tables_of (topic ∷ topics) = topic.tables ++ tables_of topics

-- the rows of each table, the first of these tables having that number
abbrev pub rows_from : ℕ → List Table → List TableRows → List (List Row)
rows_from number [] earlier = []
rows_from number (table ∷ tables) earlier =
    rows_in number earlier ∷ rows_from (number + 1) tables earlier

-- what a text holds: the rows of each table, in the order of the form
abbrev pub rows_by_form : Form → List TopicRows → List (List Row)
rows_by_form form topics = rows_from 0 form.tables (tables_of topics)
