-- What is spelt drives the machine to its value.
use Rattle.std.proofs.Common.{◌≡◌, ◌≤◌, ◌<◌, ◌+◌, ℕ, Bool, true, false, List, [], ◌∷◌, ◌++◌, length}
use Rattle.std.proofs.Common.{Some, Result, Ok, Err, refl, ap, sym, subst, ◌∙◌, arith}
use Rattle.std.proofs.Common.{if◌then◌else◌, nat_lt}
use Rattle.std.proofs.lemmas.List.{append_assoc, append-nil, length-append}
use Rattle.itf_lines.specs.declared.word.LineWord.{LineWord}
use Rattle.itf_lines.specs.declared.word.LineWord.TheVariants.{Slashes, Mtid, Modl, Topi, Tabl}
use Rattle.itf_lines.specs.declared.word.LineWord.TheVariants.{Elin, Etab, Etop, Emod, Ende}
use Rattle.itf_lines.specs.LogicalLines.{LogicalLine}
use Rattle.itf_reader.specs.Forms.{Table, Form, Start, Straight, OnArc, Vertex, vertex, Row}
use Rattle.itf_reader.specs.Forms.{TableRows, TopicRows, table_named, topic_named, has_table}
use Rattle.itf_reader.specs.Forms.{has_topic, fill_strokes}
use Rattle.itf_reader.specs.TransferText.{line, IsVertices, no_vertex, straight_vertex, arc_vertex}
use Rattle.itf_reader.specs.TransferText.{IsStroke, undefined_stroke, defined_stroke, IsStrokes}
use Rattle.itf_reader.specs.TransferText.{no_stroke, more_strokes, IsObjects, no_object}
use Rattle.itf_reader.specs.TransferText.{more_objects, IsTables, no_table, more_tables, IsTopics}
use Rattle.itf_reader.specs.TransferText.{no_topic, more_topics, AreFree, no_free, more_free}
use Rattle.itf_reader.specs.TransferText.{is_free, IsText, text}
use Rattle.itf_reader.specs.Machine.{InTopic, InTable, InRow, State, start, free, topics, tables}
use Rattle.itf_reader.specs.Machine.{objects, strokes, vertices, done, with_stroke, closed_row}
use Rattle.itf_reader.specs.Machine.{opened_row, named_table, named_topic, more_of, Code, Name}
use Rattle.itf_reader.specs.Machine.{Twice, by_word, step, then_run, run}

vertices_drive : (f : Form) (r : InRow) (acc vs : List Vertex) (w v : List LogicalLine)
    → IsVertices vs w v → run f (vertices r acc) w ≡ run f (vertices r (acc ++ vs)) v
vertices_drive f r acc _ _ _ (no_vertex v) =
    ap (λ (a : List Vertex). run f (vertices r a) v) (sym (append-nil acc))
vertices_drive f r acc _ _ _ (straight_vertex n fs vs w v h) =
    vertices_drive f r (acc ++ (vertex Straight n fs ∷ [])) vs w v h
    ∙ ap (λ (a : List Vertex). run f (vertices r a) v)
    (append_assoc acc (vertex Straight n fs ∷ []) vs)
vertices_drive f r acc _ _ _ (arc_vertex n m fs gs vs w v h) =
    vertices_drive f r ((acc ++ (vertex OnArc n fs ∷ [])) ++ (vertex Straight m gs ∷ [])) vs w v h
    ∙ ap (λ (a : List Vertex). run f (vertices r a) v)
    (append_assoc (acc ++ (vertex OnArc n fs ∷ [])) (vertex Straight m gs ∷ []) vs
    ∙ append_assoc acc (vertex OnArc n fs ∷ []) (vertex Straight m gs ∷ vs))

room : (r : InRow) (s : State) → length r.strokes < r.inside.lines → more_of r s ≡ Ok s
room r s h = let e : nat_lt (length r.strokes) r.inside.lines ≡ true = search arith in rw e refl

stroke_drive : (f : Form) (r : InRow) (s : List Vertex) (w v : List LogicalLine)
    → length r.strokes < r.inside.lines → IsStroke s w v
    → run f (strokes r) w ≡ run f (strokes (with_stroke r s)) v
stroke_drive f r _ _ _ h (undefined_stroke n fs v) =
    ap (then_run (λ t. run f t v)) (room r (strokes (with_stroke r [])) h)
stroke_drive f r _ _ _ h (defined_stroke n m fs gs vs w v k) =
    ap (then_run (λ t. run f t w)) (room r (vertices r (vertex Start n fs ∷ [])) h)
    ∙ vertices_drive f r (vertex Start n fs ∷ []) vs w (line Elin m gs ∷ v) k

abbrev with_strokes : InRow → List (List Vertex) → InRow
with_strokes r ss = record {
  inside = r.inside;
  line = r.line;
  fields = r.fields;
  strokes = r.strokes ++ ss;
}

strokes_drive : (f : Form) (r : InRow) (ss : List (List Vertex)) (w v : List LogicalLine)
    → length r.strokes + length ss ≤ r.inside.lines → IsStrokes ss w v
    → run f (strokes r) w ≡ run f (strokes (with_strokes r ss)) v
strokes_drive f r _ _ _ h (no_stroke v) =
    ap (λ (a : List (List Vertex)). run f
    (strokes (record { inside = r.inside; line = r.line; fields = r.fields; strokes = a })) v)
    (sym (append-nil r.strokes))
strokes_drive f r _ _ _ h (more_strokes s ss w u v k i) =
    let l : length (r.strokes ++ (s ∷ []))
    ≡ length r.strokes + 1 = length-append r.strokes (s ∷ []) in
    stroke_drive f r s w u (omega arith) k
    ∙ (strokes_drive f (with_stroke r s) ss u v (omega (arith, l)) i
    ∙ ap (λ (a : List (List Vertex)). run f
    (strokes (record { inside = r.inside; line = r.line; fields = r.fields; strokes = a })) v)
    (append_assoc r.strokes (s ∷ []) ss))

abbrev in_rows : InTopic → ℕ → ℕ → List Row → InTable
in_rows inside number lines rows = record {
  inside = inside;
  number = number;
  lines = lines;
  rows = rows;
}

-- after the strokes of an object stands the next object, or the end of the table
row_ends : (f : Form) (r : InRow) (lines m : ℕ) (gs : List (List ℕ)) (rows : List Row)
    (w v u : List LogicalLine)
    → IsObjects lines rows w v → v ≡ line Etab m gs ∷ u
    → run f (strokes r) w ≡ run f (objects (closed_row r)) w
row_ends f r lines m gs _ _ _ u (no_object v) e =
    subst (λ (x : List LogicalLine). run f (strokes r) x ≡ run f (objects (closed_row r)) x)
    (sym e) refl
row_ends f r lines m gs _ _ _ u (more_objects n fs ss rows w x v k l h) e = refl

objects_drive : (f : Form) (o : InTopic) (i lines : ℕ) (acc : List Row) (m : ℕ) (gs : List (List ℕ))
    (rows : List Row) (w v u : List LogicalLine)
    → IsObjects lines rows w v → v ≡ line Etab m gs ∷ u
    → run f (objects (in_rows o i lines acc)) w
    ≡ run f (objects (in_rows o i lines (acc ++ rows))) v
objects_drive f o i lines acc m gs _ _ _ u (no_object v) e =
    ap (λ (a : List Row). run f (objects (in_rows o i lines a)) v) (sym (append-nil acc))
objects_drive f o i lines acc m gs _ _ _ u (more_objects n fs ss rows w x v k l h) e =
    let first : Row = record { line = n; fields = fs; strokes = fill_strokes lines ss } in
    strokes_drive f (opened_row (in_rows o i lines acc) n fs) ss w x (omega (arith, l)) k
    ∙ (row_ends f (with_strokes (opened_row (in_rows o i lines acc) n fs) ss) lines m gs rows x v u
    h e
    ∙ (objects_drive f o i lines (acc ++ (first ∷ [])) m gs rows x v u h e
    ∙ ap (λ (a : List Row). run f (objects (in_rows o i lines a)) v)
    (append_assoc acc (first ∷ []) rows)))

abbrev in_topic : List TopicRows → ℕ → List TableRows → State
in_topic earlier i ts = tables (record { earlier = earlier; number = i; tables = ts })

abbrev in_table : List TopicRows → ℕ → List TableRows → ℕ → Table → List Row → State
in_table earlier i ts j table rows =
    objects (record {
      inside = record { earlier = earlier; number = i; tables = ts };
      number = j;
      lines = table.lines;
      rows = rows;
    })

table_opens : (f : Form) (earlier : List TopicRows) (i : ℕ) (ts : List TableRows) (n j : ℕ)
    (fs : List (List ℕ)) (table : Table)
    → table_named 0 i fs f.tables ≡ Some (j, table) → has_table j ts ≡ false
    → step f (in_topic earlier i ts) (line Tabl n fs) ≡ Ok (in_table earlier i ts j table [])
table_opens f earlier i ts n j fs table e h =
    ap (named_table (record { earlier = earlier; number = i; tables = ts })) e
    ∙ ap (λ (b : Bool). if b then Err Twice else Ok (in_table earlier i ts j table [])) h

tables_drive : (f : Form) (earlier : List TopicRows) (i : ℕ) (acc ts : List TableRows)
    (w v : List LogicalLine)
    → IsTables f i acc ts w v
    → run f (in_topic earlier i acc) w ≡ run f (in_topic earlier i (acc ++ ts)) v
tables_drive f earlier i _ _ _ _ (no_table acc v) =
    ap (λ (a : List TableRows). run f (in_topic earlier i a) v) (sym (append-nil acc))
tables_drive f earlier i _ _ _ _ (more_tables acc n m j fs gs table rows ts w u v e c h k) =
    let o : InTopic = record { earlier = earlier; number = i; tables = acc } in
    ap (then_run (λ s. run f s w)) (table_opens f earlier i acc n j fs table e c)
    ∙ (objects_drive f o j table.lines [] m gs rows w (line Etab m gs ∷ u) u h refl
    ∙ (tables_drive f earlier i (acc ++ (record { table = j; rows = rows } ∷ [])) ts u v k
    ∙ ap (λ (a : List TableRows). run f (in_topic earlier i a) v)
    (append_assoc acc (record { table = j; rows = rows } ∷ []) ts)))

topic_opens : (f : Form) (earlier : List TopicRows) (n i : ℕ) (fs : List (List ℕ))
    → topic_named 0 fs f.topics ≡ Some i → has_topic i earlier ≡ false
    → step f (topics earlier) (line Topi n fs) ≡ Ok (in_topic earlier i [])
topic_opens f earlier n i fs e h = ap (named_topic earlier) e
    ∙ ap (λ (b : Bool). if b then Err Twice else Ok (in_topic earlier i [])) h

topics_drive : (f : Form) (acc ts : List TopicRows) (w v : List LogicalLine) → IsTopics f acc ts w v
    → run f (topics acc) w ≡ run f (topics (acc ++ ts)) v
topics_drive f _ _ _ _ (no_topic acc v) =
    ap (λ (a : List TopicRows). run f (topics a) v) (sym (append-nil acc))
topics_drive f _ _ _ _ (more_topics acc n m i fs gs tabs ts w u v e c h k) =
    ap (then_run (λ s. run f s w)) (topic_opens f acc n i fs e c)
    ∙ (tables_drive f acc i [] tabs w (line Etop m gs ∷ u) h
    ∙ (topics_drive f (acc ++ (record { topic = i; tables = tabs } ∷ [])) ts u v k
    ∙ ap (λ (a : List TopicRows). run f (topics a) v)
    (append_assoc acc (record { topic = i; tables = tabs } ∷ []) ts)))

free_step : (f : Form) (word : LineWord) (n : ℕ) (fs : List (List ℕ)) → is_free word ≡ true
    → by_word f free word n fs ≡ Ok free
free_step f Slashes n fs h = absurd cc
free_step f word n fs h = refl

free_drive : (f : Form) (w v : List LogicalLine) → AreFree w v → run f free w ≡ run f free v
free_drive f _ _ (no_free v) = refl
free_drive f _ _ (more_free l w v e h) =
    ap (then_run (λ s. run f s w)) (free_step f l.word l.number l.fields e) ∙ free_drive f w v h

-- a whole text
pub text_drive : (f : Form) (ts : List TopicRows) (ls : List LogicalLine) → IsText f ts ls
    → run f start ls ≡ Ok (done ts)
text_drive f _ _ (text n m i j k e fs gs hs is js ks ts w u free_lines named h) =
    free_drive f w (line Slashes m gs ∷ line Mtid i hs ∷ line Modl j is ∷ u) free_lines
    ∙ (ap (λ (b : Bool). then_run (λ s. run f s u) (if b then Ok (topics []) else Err Name)) named
    ∙ topics_drive f [] ts u (line Emod k js ∷ line Ende e ks ∷ []) h)

abbrev came_in : List TopicRows → Result State Code → List TopicRows
came_in none (Ok (done ts)) = ts
came_in none other = none

-- at most one transfer
pub one_text : (f : Form) (ls : List LogicalLine) (ts us : List TopicRows) → IsText f ts ls
    → IsText f us ls → ts ≡ us
one_text f ls ts us h k = ap (came_in []) (sym (text_drive f ts ls h) ∙ text_drive f us ls k)
