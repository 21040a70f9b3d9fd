-- A machine that takes the lines of a transfer text one by one.
use Rattle.std.specs.Prelude.{ℕ, Bool, true, false, List, [], ◌∷◌, ◌++◌, length, Option, Some, None}
use Rattle.std.specs.Prelude.{Result, Ok, Err, if◌then◌else◌, nat_lt}
use Rattle.itf_lines.specs.declared.word.LineWord.{LineWord}
use Rattle.itf_lines.specs.declared.word.LineWord.TheVariants.{Scnt, Slashes, Mtid, Modl, Motr}
use Rattle.itf_lines.specs.declared.word.LineWord.TheVariants.{Topi, Tabl, Obje, Stpt, Lipt, Arcp}
use Rattle.itf_lines.specs.declared.word.LineWord.TheVariants.{Elin, Etab, Etop, Emod, Ende}
use Rattle.itf_lines.specs.LogicalLines.{LogicalLine}
use Rattle.itf_reader.specs.Forms.{Table, Form, Start, Straight, OnArc, Vertex, vertex, Row}
use Rattle.itf_reader.specs.Forms.{TableRows, TopicRows, names, table_named, topic_named, has_table}
use Rattle.itf_reader.specs.Forms.{has_topic, fill_strokes}

-- why a line may not follow those before it
pub data Code : Type 0 where
  Word AsMotr Name Twice : Code

-- an open topic: the topics before it, its number, and its tables so far
pub record InTopic : Type 0 where
  pub earlier : List TopicRows
  pub number : ℕ
  pub tables : List TableRows

-- an open table
pub record InTable : Type 0 where
  pub inside : InTopic
  pub number : ℕ
  pub lines : ℕ
  pub rows : List Row

-- an open object
pub record InRow : Type 0 where
  pub inside : InTable
  pub line : ℕ
  pub fields : List (List ℕ)
  pub strokes : List (List Vertex)

-- what may come next: the state is named by what is open, or by what was read last
pub data State : Type 0 where
  start free title model : State
  topics : List TopicRows → State
  tables : InTopic → State
  objects : InTable → State
  strokes : InRow → State
  vertices : InRow → List Vertex → State
  arc : InRow → List Vertex → State
  last : List TopicRows → State
  done : List TopicRows → State

abbrev pub with_table : InTopic → TableRows → InTopic
with_table t rows =
    record { earlier = t.earlier; number = t.number; tables = t.tables ++ rows ∷ [] }

abbrev pub with_row : InTable → Row → InTable
with_row t row =
    record { inside = t.inside; number = t.number; lines = t.lines; rows = t.rows ++ row ∷ [] }

abbrev pub with_stroke : InRow → List Vertex → InRow
with_stroke r stroke =
    record {
      inside = r.inside;
      line = r.line;
      fields = r.fields;
      strokes = r.strokes ++ stroke ∷ [];
    }

-- the topics, with the open one
abbrev pub closed_topic : InTopic → List TopicRows
closed_topic t = t.earlier ++ record { topic = t.number; tables = t.tables } ∷ []

-- the topic, with the open table
abbrev pub closed_table : InTable → InTopic
closed_table t = with_table t.inside (record { table = t.number; rows = t.rows })

-- the table, with the open object
abbrev pub closed_row : InRow → InTable
closed_row r =
    with_row r.inside (record {
      line = r.line;
      fields = r.fields;
      strokes = fill_strokes r.inside.lines r.strokes;
    })

abbrev pub opened_row : InTable → ℕ → List (List ℕ) → InRow
opened_row t n fs = record { inside = t; line = n; fields = fs; strokes = [] }

abbrev pub opened_table : InTopic → ℕ → Table → Result State Code
opened_table t i table =
    if has_table i t.tables
    then Err Twice
    else Ok (objects (record { inside = t; number = i; lines = table.lines; rows = [] }))

abbrev pub named_table : InTopic → Option (ℕ × Table) → Result State Code
named_table t None = Err Name
named_table t (Some found) = opened_table t found.0 found.1

abbrev pub opened_topic : List TopicRows → ℕ → Result State Code
opened_topic earlier i =
    if has_topic i earlier
    then Err Twice
    else Ok (tables (record { earlier = earlier; number = i; tables = [] }))

abbrev pub named_topic : List TopicRows → Option ℕ → Result State Code
named_topic earlier None = Err Name
named_topic earlier (Some i) = opened_topic earlier i

-- the code of a word that may not come next, before ENDE
abbrev pub refusal : LineWord → Code
refusal Motr = AsMotr
refusal word = Word

-- the table of the object has a line for one more stroke
abbrev pub has_room : InRow → Bool
has_room r = nat_lt (length r.strokes) r.inside.lines

-- a stroke begins, where there is room
abbrev pub more_of : InRow → State → Result State Code
more_of r next = if has_room r then Ok next else Err Word

-- what a line of that word, number and fields does
abbrev pub by_word : Form → State → LineWord → ℕ → List (List ℕ) → Result State Code
by_word f start Scnt n fs = Ok free
by_word f free Slashes n fs = Ok title
by_word f free word n fs = Ok free
by_word f title Mtid n fs = Ok model
by_word f model Modl n fs = if names fs f.model then Ok (topics []) else Err Name
by_word f (topics earlier) Topi n fs = named_topic earlier (topic_named 0 fs f.topics)
by_word f (topics earlier) Emod n fs = Ok (last earlier)
by_word f (tables t) Tabl n fs = named_table t (table_named 0 t.number fs f.tables)
by_word f (tables t) Etop n fs = Ok (topics (closed_topic t))
by_word f (objects t) Obje n fs = Ok (strokes (opened_row t n fs))
by_word f (objects t) Etab n fs = Ok (tables (closed_table t))
by_word f (strokes r) Obje n fs = Ok (strokes (opened_row (closed_row r) n fs))
by_word f (strokes r) Etab n fs = Ok (tables (closed_table (closed_row r)))
by_word f (strokes r) Stpt n fs = more_of r (vertices r (vertex Start n fs ∷ []))
by_word f (strokes r) Elin n fs = more_of r (strokes (with_stroke r []))
by_word f (vertices r vs) Lipt n fs = Ok (vertices r (vs ++ vertex Straight n fs ∷ []))
by_word f (vertices r vs) Arcp n fs = Ok (arc r (vs ++ vertex OnArc n fs ∷ []))
by_word f (vertices r vs) Elin n fs = Ok (strokes (with_stroke r vs))
by_word f (arc r vs) Lipt n fs = Ok (vertices r (vs ++ vertex Straight n fs ∷ []))
by_word f (last earlier) Ende n fs = Ok (done earlier)
by_word f (done earlier) word n fs = Err Word
by_word f state word n fs = Err (refusal word)

abbrev pub step : Form → State → LogicalLine → Result State Code
step f s l = by_word f s l.word l.number l.fields

abbrev pub then_run : (State → Result State Code) → Result State Code → Result State Code
then_run rest (Ok s) = rest s
then_run rest (Err c) = Err c

-- the state after some lines, or the code of the first that the machine does not take
abbrev pub run : Form → State → List LogicalLine → Result State Code
run f s [] = Ok s
run f s (l ∷ ls) = then_run (λ t. run f t ls) (step f s l)

-- after ENDE
abbrev pub has_ended : State → Bool
has_ended (done earlier) = true
has_ended state = false
