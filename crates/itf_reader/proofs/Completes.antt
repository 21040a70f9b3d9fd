-- What completes a state of the machine to a text.
use Rattle.std.proofs.Common.{◌≡◌, ◌≤◌, ◌-◌, ℕ, true, List, [], ◌∷◌, ◌++◌, length}
use Rattle.itf_lines.specs.declared.word.LineWord.TheVariants.{Scnt, Slashes, Mtid, Modl, Lipt}
use Rattle.itf_lines.specs.declared.word.LineWord.TheVariants.{Elin, Etab, Etop, Emod, Ende}
use Rattle.itf_lines.specs.LogicalLines.{LogicalLine}
use Rattle.itf_reader.specs.Forms.{Form, Straight, Vertex, vertex, Row, TableRows, TopicRows, names}
use Rattle.itf_reader.specs.TransferText.{line, IsVertices, IsStrokes, IsObjects, IsTables}
use Rattle.itf_reader.specs.TransferText.{IsTopics, AreFree}
use Rattle.itf_reader.specs.Machine.{InTopic, InTable, InRow, State, start, free, title, model}
use Rattle.itf_reader.specs.Machine.{topics, tables, objects, strokes, vertices, arc, last, done}
use Rattle.itf_reader.specs.Machine.{with_table, with_stroke, closed_row}

-- the object with these strokes too
abbrev pub and_strokes : InRow → List (List Vertex) → InRow
and_strokes r ss = record {
  inside = r.inside;
  line = r.line;
  fields = r.fields;
  strokes = r.strokes ++ ss;
}

-- the topics, with the open one and these tables too
abbrev pub and_tables : InTopic → List TableRows → List TopicRows
and_tables t ts = t.earlier ++ (record { topic = t.number; tables = t.tables ++ ts } ∷ [])

-- the topic, with the open table and these rows too
abbrev pub and_rows : InTable → List Row → InTopic
and_rows t rows = with_table t.inside (record { table = t.number; rows = t.rows ++ rows })

-- the lines that lead from a state to the end of a text, and the topics that it holds
pub data Completes (f : Form) : State → List TopicRows → List LogicalLine → Type 0 where
  at_done : (ts : List TopicRows) → Completes f (done ts) ts []
  at_last : (ts : List TopicRows) (n : ℕ) (fs : List (List ℕ))
      → Completes f (last ts) ts (line Ende n fs ∷ [])
  at_topics : (earlier ts all : List TopicRows) (n m : ℕ) (fs gs : List (List ℕ))
      (w : List LogicalLine)
      → IsTopics f earlier ts w (line Emod n fs ∷ line Ende m gs ∷ []) → all ≡ earlier ++ ts
      → Completes f (topics earlier) all w
  at_tables : (t : InTopic) (ts : List TableRows) (all : List TopicRows) (n : ℕ)
      (fs : List (List ℕ)) (w u : List LogicalLine)
      → IsTables f t.number t.tables ts w (line Etop n fs ∷ u)
      → Completes f (topics (and_tables t ts)) all u → Completes f (tables t) all w
  at_objects : (t : InTable) (rows : List Row) (all : List TopicRows) (n : ℕ) (fs : List (List ℕ))
      (w u : List LogicalLine)
      → IsObjects t.lines rows w (line Etab n fs ∷ u) → Completes f (tables (and_rows t rows)) all u
      → Completes f (objects t) all w
  at_strokes : (r : InRow) (ss : List (List Vertex)) (all : List TopicRows) (w u : List LogicalLine)
      → IsStrokes ss w u → length ss ≤ r.inside.lines - length r.strokes
      → Completes f (objects (closed_row (and_strokes r ss))) all u
      → Completes f (strokes r) all w
  at_vertices : (r : InRow) (vs acc : List Vertex) (all : List TopicRows) (n : ℕ)
      (fs : List (List ℕ)) (w u : List LogicalLine)
      → IsVertices vs w (line Elin n fs ∷ u)
      → Completes f (strokes (with_stroke r (acc ++ vs))) all u
      → Completes f (vertices r acc) all w
  at_arc : (r : InRow) (acc vs : List Vertex) (all : List TopicRows) (n m : ℕ)
      (fs gs : List (List ℕ)) (w u : List LogicalLine)
      → IsVertices vs w (line Elin m gs ∷ u)
      → Completes f (strokes (with_stroke r (acc ++ (vertex Straight n fs ∷ vs)))) all u
      → Completes f (arc r acc) all (line Lipt n fs ∷ w)
  at_model : (all : List TopicRows) (n : ℕ) (fs : List (List ℕ)) (w : List LogicalLine)
      → names fs f.model ≡ true → Completes f (topics []) all w
      → Completes f model all (line Modl n fs ∷ w)
  at_title : (all : List TopicRows) (n : ℕ) (fs : List (List ℕ)) (w : List LogicalLine)
      → Completes f model all w → Completes f title all (line Mtid n fs ∷ w)
  at_free : (all : List TopicRows) (n : ℕ) (fs : List (List ℕ)) (w u : List LogicalLine)
      → AreFree w (line Slashes n fs ∷ u) → Completes f title all u → Completes f free all w
  at_start : (all : List TopicRows) (n : ℕ) (fs : List (List ℕ)) (w : List LogicalLine)
      → Completes f free all w → Completes f start all (line Scnt n fs ∷ w)
