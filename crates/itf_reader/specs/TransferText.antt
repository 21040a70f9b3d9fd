-- The form of a transfer text, as a relation by cases on its logical lines.
use Rattle.std.specs.Prelude.{◌≡◌, ◌≤◌, ℕ, Bool, true, false, List, [], ◌∷◌, ◌++◌, length, Some}
use Rattle.itf_lines.specs.declared.word.LineWord.{LineWord}
use Rattle.itf_lines.specs.declared.word.LineWord.TheVariants.{Scnt, Slashes, Mtid, Modl, Topi}
use Rattle.itf_lines.specs.declared.word.LineWord.TheVariants.{Tabl, Obje, Stpt, Lipt, Arcp, Elin}
use Rattle.itf_lines.specs.declared.word.LineWord.TheVariants.{Etab, Etop, Emod, Ende}
use Rattle.itf_lines.specs.LogicalLines.{LogicalLine}
use Rattle.itf_reader.specs.Forms.{Table, Form, Start, Straight, OnArc, Vertex, vertex, Row}
use Rattle.itf_reader.specs.Forms.{TableRows, TopicRows, names, table_named, topic_named, has_table}
use Rattle.itf_reader.specs.Forms.{has_topic, fill_strokes, rows_by_form}

-- a line with that word
abbrev pub line : LineWord → ℕ → List (List ℕ) → LogicalLine
line word number fields = record { number = number; word = word; fields = fields }

-- In each relation the first list of lines begins with what is related, and the second one is left
-- after it.

-- { LIPT | ARCP, LIPT }
pub data IsVertices : List Vertex → List LogicalLine → List LogicalLine → Type 0 where
  no_vertex : (r : List LogicalLine) → IsVertices [] r r
  straight_vertex : (n : ℕ) (fs : List (List ℕ)) (vs : List Vertex) (w r : List LogicalLine)
      → IsVertices vs w r → IsVertices (vertex Straight n fs ∷ vs) (line Lipt n fs ∷ w) r
  arc_vertex : (n m : ℕ) (fs gs : List (List ℕ)) (vs : List Vertex) (w r : List LogicalLine)
      → IsVertices vs w r
      → IsVertices (vertex OnArc n fs ∷ vertex Straight m gs ∷ vs)
      (line Arcp n fs ∷ line Lipt m gs ∷ w) r

-- ELIN | STPT { LIPT | ARCP, LIPT } ELIN
pub data IsStroke : List Vertex → List LogicalLine → List LogicalLine → Type 0 where
  undefined_stroke : (n : ℕ) (fs : List (List ℕ)) (r : List LogicalLine)
      → IsStroke [] (line Elin n fs ∷ r) r
  defined_stroke : (n m : ℕ) (fs gs : List (List ℕ)) (vs : List Vertex) (w r : List LogicalLine)
      → IsVertices vs w (line Elin m gs ∷ r)
      → IsStroke (vertex Start n fs ∷ vs) (line Stpt n fs ∷ w) r

-- { Stroke }
pub data IsStrokes : List (List Vertex) → List LogicalLine → List LogicalLine → Type 0 where
  no_stroke : (r : List LogicalLine) → IsStrokes [] r r
  more_strokes : (s : List Vertex) (ss : List (List Vertex)) (w u r : List LogicalLine)
      → IsStroke s w u → IsStrokes ss u r → IsStrokes (s ∷ ss) w r

-- { OBJE { Stroke } }, each with at most as many strokes as its table has lines
pub data IsObjects (lines : ℕ) : List Row → List LogicalLine → List LogicalLine → Type 0 where
  no_object : (r : List LogicalLine) → IsObjects lines [] r r
  more_objects : (n : ℕ) (fs : List (List ℕ)) (ss : List (List Vertex)) (rows : List Row)
      (w u r : List LogicalLine)
      → IsStrokes ss w u → length ss ≤ lines → IsObjects lines rows u r
      → IsObjects lines (record { line = n; fields = fs; strokes = fill_strokes lines ss } ∷ rows)
      (line Obje n fs ∷ w) r

-- { TABL name { Object } ETAB }, after the earlier tables; none comes twice
pub data IsTables (form : Form) (topic : ℕ) : List TableRows → List TableRows → List LogicalLine
    → List LogicalLine → Type 0 where
  no_table : (earlier : List TableRows) (r : List LogicalLine) → IsTables form topic earlier [] r r
  more_tables : (earlier : List TableRows) (n m i : ℕ) (fs gs : List (List ℕ)) (t : Table)
      (rows : List Row) (ts : List TableRows) (w u r : List LogicalLine)
      → table_named 0 topic fs form.tables ≡ Some (i, t) → has_table i earlier ≡ false
      → IsObjects t.lines rows w (line Etab m gs ∷ u)
      → IsTables form topic (earlier ++ record { table = i; rows = rows } ∷ []) ts u r
      → IsTables form topic earlier (record { table = i; rows = rows } ∷ ts) (line Tabl n fs ∷ w) r

-- { TOPI name { Table } ETOP }, after the earlier topics; none comes twice
pub data IsTopics (form : Form) : List TopicRows → List TopicRows → List LogicalLine
    → List LogicalLine → Type 0 where
  no_topic : (earlier : List TopicRows) (r : List LogicalLine) → IsTopics form earlier [] r r
  more_topics : (earlier : List TopicRows) (n m i : ℕ) (fs gs : List (List ℕ))
      (tables : List TableRows) (ts : List TopicRows) (w u r : List LogicalLine)
      → topic_named 0 fs form.topics ≡ Some i → has_topic i earlier ≡ false
      → IsTables form i [] tables w (line Etop m gs ∷ u)
      → IsTopics form (earlier ++ record { topic = i; tables = tables } ∷ []) ts u r
      → IsTopics form earlier (record { topic = i; tables = tables } ∷ ts) (line Topi n fs ∷ w) r

-- any word but that of the line of four slashes
abbrev pub is_free : LineWord → Bool
is_free Slashes = false
is_free word = true

-- free lines
pub data AreFree : List LogicalLine → List LogicalLine → Type 0 where
  no_free : (r : List LogicalLine) → AreFree r r
  more_free : (l : LogicalLine) (w r : List LogicalLine) → is_free l.word ≡ true → AreFree w r
      → AreFree (l ∷ w) r

-- SCNT, free lines, the line of four slashes, MTID, MODL name, topics, EMOD, ENDE
pub data IsText (form : Form) : List TopicRows → List LogicalLine → Type 0 where
  text : (n m i j k e : ℕ) (fs gs hs is js ks : List (List ℕ)) (ts : List TopicRows)
      (w u : List LogicalLine)
      → AreFree w (line Slashes m gs ∷ line Mtid i hs ∷ line Modl j is ∷ u)
      → names is form.model ≡ true
      → IsTopics form [] ts u (line Emod k js ∷ line Ende e ks ∷ [])
      → IsText form ts (line Scnt n fs ∷ w)

-- the lines are the text of that transfer: the rows of each table, in the order of the form
abbrev pub TransferText : Form → List LogicalLine → List (List Row) → Type 0
TransferText form lines transfer =
    (ts : List TopicRows) × IsText form ts lines × (transfer ≡ rows_by_form form ts)

-- what some text begins with
abbrev pub Begins : Form → List LogicalLine → Type 0
Begins form lines =
    (more : List LogicalLine) × (ts : List TopicRows) × IsText form ts (lines ++ more)

-- the lines before it begin a text, and with this one they begin none
abbrev pub IsFaultAt : Form → List LogicalLine → LogicalLine → Type 0
IsFaultAt form front l = Begins form front × (Begins form (front ++ l ∷ []) → ⊥)
