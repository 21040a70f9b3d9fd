-- A line that the machine takes, before what completes the state after it.
use Rattle.std.proofs.Common.{◌≡◌, ◌<◌, ◌+◌, ℕ, Bool, true, false, List, [], ◌∷◌, ◌++◌, length}
use Rattle.std.proofs.Common.{Option, Some, None, Result, Ok, Err, refl, ap, sym, subst, ◌∙◌, arith}
use Rattle.std.proofs.Common.{if◌then◌else◌, nat_lt}
use Rattle.std.proofs.lemmas.List.{append_assoc, append-nil, length-append}
use Rattle.itf_lines.specs.declared.word.LineWord.{LineWord}
use Rattle.itf_lines.specs.declared.word.LineWord.TheVariants.{Scnt, Slashes, Mtid, Modl, Topi}
use Rattle.itf_lines.specs.declared.word.LineWord.TheVariants.{Tabl, Obje, Stpt, Lipt, Arcp, Elin}
use Rattle.itf_lines.specs.declared.word.LineWord.TheVariants.{Etab, Etop, Emod, Ende}
use Rattle.itf_lines.specs.LogicalLines.{LogicalLine}
use Rattle.itf_reader.specs.Forms.{Table, Form, Start, Straight, OnArc, Vertex, vertex, Row}
use Rattle.itf_reader.specs.Forms.{TableRows, TopicRows, names, table_named, topic_named, has_table}
use Rattle.itf_reader.specs.Forms.{has_topic, fill_strokes}
use Rattle.itf_reader.specs.TransferText.{line, no_vertex, straight_vertex, arc_vertex, IsStroke}
use Rattle.itf_reader.specs.TransferText.{undefined_stroke, defined_stroke, no_stroke, more_strokes}
use Rattle.itf_reader.specs.TransferText.{no_object, more_objects, no_table, more_tables, no_topic}
use Rattle.itf_reader.specs.TransferText.{more_topics, no_free, more_free, is_free}
use Rattle.itf_reader.specs.Machine.{InTopic, InTable, InRow, State, start, free, title, model}
use Rattle.itf_reader.specs.Machine.{topics, tables, objects, strokes, vertices, arc, last, done}
use Rattle.itf_reader.specs.Machine.{with_table, with_stroke, closed_topic, closed_table}
use Rattle.itf_reader.specs.Machine.{closed_row, opened_row, opened_table, named_table}
use Rattle.itf_reader.specs.Machine.{opened_topic, named_topic, more_of, Code, Name, Twice, Word}
use Rattle.itf_reader.specs.Machine.{by_word}
use Rattle.itf_reader.proofs.Completes.{Completes, at_done, at_last, at_topics, at_tables}
use Rattle.itf_reader.proofs.Completes.{at_objects, at_strokes, at_vertices, at_arc, at_model}
use Rattle.itf_reader.proofs.Completes.{at_title, at_free, at_start}

abbrev Back : Form → State → LogicalLine → State → List TopicRows → List LogicalLine → Type 0
Back f s l t all w = Completes f t all w → Completes f s all (l ∷ w)

abbrev state_in : State → Result State Code → State
state_in other (Ok s) = s
state_in other (Err c) = other

abbrev pub ok : State → Result State Code
ok s = Ok s

pub same_state : (s t : State) → ok s ≡ ok t → s ≡ t
same_state s t e = ap (state_in s) e

-- where a test lets a state through
let_through : (b : Bool) (c : Code) (s t : State) → (if b then Ok s else Err c) ≡ Ok t
    → (b ≡ true) × (s ≡ t)
let_through true c s t e = (refl, same_state s t e)
let_through false c s t e = absurd cc

kept_out : (b : Bool) (c : Code) (s t : State) → (if b then Err c else Ok s) ≡ Ok t
    → (b ≡ false) × (s ≡ t)
kept_out false c s t e = (refl, same_state s t e)
kept_out true c s t e = absurd cc

topics_topi : (f : Form) (earlier : List TopicRows) (n i : ℕ) (fs : List (List ℕ))
    (all : List TopicRows) (w : List LogicalLine)
    → topic_named 0 fs f.topics ≡ Some i → has_topic i earlier ≡ false
    → Back f (topics earlier) (line Topi n fs)
    (tables (record { earlier = earlier; number = i; tables = [] })) all w
topics_topi f earlier n i fs all w e c
    (at_tables _ ts _ m gs _ u h (at_topics _ us _ k j hs is _ g q)) =
    at_topics earlier (record { topic = i; tables = ts } ∷ us) all k j hs is (line Topi n fs ∷ w)
    (more_topics earlier n m i fs gs ts us w u (line Emod k hs ∷ line Ende j is ∷ []) e c h g)
    (q ∙ append_assoc earlier (record { topic = i; tables = ts } ∷ []) us)

topics_emod : (f : Form) (earlier all : List TopicRows) (n : ℕ) (fs : List (List ℕ))
    (w : List LogicalLine)
    → Back f (topics earlier) (line Emod n fs) (last earlier) all w
topics_emod f earlier all n fs _ (at_last _ m gs) =
    at_topics earlier [] earlier n m fs gs (line Emod n fs ∷ line Ende m gs ∷ [])
    (no_topic earlier (line Emod n fs ∷ line Ende m gs ∷ [])) (sym (append-nil earlier))

tables_tabl : (f : Form) (o : InTopic) (n i : ℕ) (fs : List (List ℕ)) (t : Table)
    (all : List TopicRows) (w : List LogicalLine)
    → table_named 0 o.number fs f.tables ≡ Some (i, t) → has_table i o.tables ≡ false
    → Back f (tables o) (line Tabl n fs)
    (objects (record { inside = o; number = i; lines = t.lines; rows = [] })) all w
tables_tabl f o n i fs t all w e c
    (at_objects _ rows _ m gs _ u h (at_tables _ ts _ k hs _ v g q)) =
    let first : TableRows = record { table = i; rows = rows } in
    at_tables o (first ∷ ts) all k hs (line Tabl n fs ∷ w) v
    (more_tables o.tables n m i fs gs t rows ts w u (line Etop k hs ∷ v) e c h g)
    (subst (λ (x : List TableRows). Completes f
    (topics (o.earlier ++ (record { topic = o.number; tables = x } ∷ []))) all v)
    (append_assoc o.tables (first ∷ []) ts) q)

tables_etop : (f : Form) (o : InTopic) (n : ℕ) (fs : List (List ℕ)) (all : List TopicRows)
    (w : List LogicalLine)
    → Back f (tables o) (line Etop n fs) (topics (closed_topic o)) all w
tables_etop f o n fs all w q =
    at_tables o [] all n fs (line Etop n fs ∷ w) w (no_table o.tables (line Etop n fs ∷ w))
    (subst (λ (x : List TableRows). Completes f
    (topics (o.earlier ++ (record { topic = o.number; tables = x } ∷ []))) all w)
    (sym (append-nil o.tables)) q)

objects_obje : (f : Form) (t : InTable) (n : ℕ) (fs : List (List ℕ)) (all : List TopicRows)
    (w : List LogicalLine)
    → Back f (objects t) (line Obje n fs) (strokes (opened_row t n fs)) all w
objects_obje f t n fs all w (at_strokes _ ss _ _ u h l (at_objects _ rows _ m gs _ v g q)) =
    let first : Row = record { line = n; fields = fs; strokes = fill_strokes t.lines ss } in
    at_objects t (first ∷ rows) all m gs (line Obje n fs ∷ w) v
    (more_objects n fs ss rows w u (line Etab m gs ∷ v) h (omega (arith, l)) g)
    (subst (λ (x : List Row). Completes f
    (tables (with_table t.inside (record { table = t.number; rows = x }))) all v)
    (append_assoc t.rows (first ∷ []) rows) q)

objects_etab : (f : Form) (t : InTable) (n : ℕ) (fs : List (List ℕ)) (all : List TopicRows)
    (w : List LogicalLine)
    → Back f (objects t) (line Etab n fs) (tables (closed_table t)) all w
objects_etab f t n fs all w q =
    at_objects t [] all n fs (line Etab n fs ∷ w) w (no_object (line Etab n fs ∷ w))
    (subst (λ (x : List Row). Completes f
    (tables (with_table t.inside (record { table = t.number; rows = x }))) all w)
    (sym (append-nil t.rows)) q)

-- no further stroke comes
row_closes : (f : Form) (r : InRow) (all : List TopicRows) (w : List LogicalLine)
    → Completes f (objects (closed_row r)) all w → Completes f (strokes r) all w
row_closes f r all w q =
    at_strokes r [] all w w (no_stroke w) (omega arith)
    (subst (λ (x : List (List Vertex)). Completes f
    (objects (closed_row (record {
      inside = r.inside;
      line = r.line;
      fields = r.fields;
      strokes = x;
    }))) all w) (sym (append-nil r.strokes)) q)

-- a stroke comes
stroke_comes : (f : Form) (r : InRow) (s : List Vertex) (all : List TopicRows)
    (w u : List LogicalLine)
    → length r.strokes < r.inside.lines → IsStroke s w u
    → Completes f (strokes (with_stroke r s)) all u → Completes f (strokes r) all w
stroke_comes f r s all w u l h (at_strokes _ ss _ _ v g k q) =
    let e : length (r.strokes ++ (s ∷ []))
    ≡ length r.strokes + 1 = length-append r.strokes (s ∷ []) in
    at_strokes r (s ∷ ss) all w v (more_strokes s ss w u v h g) (omega (arith, k, e))
    (subst (λ (x : List (List Vertex)). Completes f
    (objects (closed_row (record {
      inside = r.inside;
      line = r.line;
      fields = r.fields;
      strokes = x;
    }))) all v) (append_assoc r.strokes (s ∷ []) ss) q)

strokes_stpt : (f : Form) (r : InRow) (n : ℕ) (fs : List (List ℕ)) (all : List TopicRows)
    (w : List LogicalLine)
    → length r.strokes < r.inside.lines
    → Back f (strokes r) (line Stpt n fs) (vertices r (vertex Start n fs ∷ [])) all w
strokes_stpt f r n fs all w l (at_vertices _ vs _ _ m gs _ u h q) =
    stroke_comes f r (vertex Start n fs ∷ vs) all (line Stpt n fs ∷ w) u l
    (defined_stroke n m fs gs vs w u h) q

vertices_lipt : (f : Form) (r : InRow) (acc : List Vertex) (n : ℕ) (fs : List (List ℕ))
    (all : List TopicRows) (w : List LogicalLine)
    → Back f (vertices r acc) (line Lipt n fs)
    (vertices r (acc ++ (vertex Straight n fs ∷ []))) all w
vertices_lipt f r acc n fs all w (at_vertices _ vs _ _ m gs _ u h q) =
    at_vertices r (vertex Straight n fs ∷ vs) acc all m gs (line Lipt n fs ∷ w) u
    (straight_vertex n fs vs w (line Elin m gs ∷ u) h)
    (subst (λ (x : List Vertex). Completes f (strokes (with_stroke r x)) all u)
    (append_assoc acc (vertex Straight n fs ∷ []) vs) q)

vertices_elin : (f : Form) (r : InRow) (acc : List Vertex) (n : ℕ) (fs : List (List ℕ))
    (all : List TopicRows) (w : List LogicalLine)
    → Back f (vertices r acc) (line Elin n fs) (strokes (with_stroke r acc)) all w
vertices_elin f r acc n fs all w q =
    at_vertices r [] acc all n fs (line Elin n fs ∷ w) w (no_vertex (line Elin n fs ∷ w))
    (subst (λ (x : List Vertex). Completes f (strokes (with_stroke r x)) all w)
    (sym (append-nil acc)) q)

arc_lipt : (f : Form) (r : InRow) (acc : List Vertex) (n : ℕ) (fs : List (List ℕ))
    (all : List TopicRows) (w : List LogicalLine)
    → Back f (arc r acc) (line Lipt n fs) (vertices r (acc ++ (vertex Straight n fs ∷ []))) all w
arc_lipt f r acc n fs all w (at_vertices _ vs _ _ m gs _ u h q) =
    at_arc r acc vs all n m fs gs w u h
    (subst (λ (x : List Vertex). Completes f (strokes (with_stroke r x)) all u)
    (append_assoc acc (vertex Straight n fs ∷ []) vs) q)

vertices_arcp : (f : Form) (r : InRow) (acc : List Vertex) (n : ℕ) (fs : List (List ℕ))
    (all : List TopicRows) (w : List LogicalLine)
    → Back f (vertices r acc) (line Arcp n fs) (arc r (acc ++ (vertex OnArc n fs ∷ []))) all w
vertices_arcp f r acc n fs all _ (at_arc _ _ vs _ k m gs hs w u h q) =
    at_vertices r (vertex OnArc n fs ∷ vertex Straight k gs ∷ vs) acc all m hs
    (line Arcp n fs ∷ line Lipt k gs ∷ w) u (arc_vertex n k fs gs vs w (line Elin m hs ∷ u) h)
    (subst (λ (x : List Vertex). Completes f (strokes (with_stroke r x)) all u)
    (append_assoc acc (vertex OnArc n fs ∷ []) (vertex Straight k gs ∷ vs)) q)

free_slashes : (f : Form) (n : ℕ) (fs : List (List ℕ)) (all : List TopicRows) (w : List LogicalLine)
    → Back f free (line Slashes n fs) title all w
free_slashes f n fs all w q =
    at_free all n fs (line Slashes n fs ∷ w) w (no_free (line Slashes n fs ∷ w)) q

free_free : (f : Form) (l : LogicalLine) (all : List TopicRows) (w : List LogicalLine)
    → is_free l.word ≡ true → Back f free l free all w
free_free f l all w e (at_free _ n fs _ u h q) =
    at_free all n fs (l ∷ w) u (more_free l w (line Slashes n fs ∷ u) e h) q

last_ende : (f : Form) (earlier all : List TopicRows) (n : ℕ) (fs : List (List ℕ))
    (w : List LogicalLine)
    → Back f (last earlier) (line Ende n fs) (done earlier) all w
last_ende f earlier _ n fs _ (at_done _) = at_last earlier n fs

start_scnt : (f : Form) (n : ℕ) (fs : List (List ℕ)) (all : List TopicRows) (w : List LogicalLine)
    → Back f start (line Scnt n fs) free all w
start_scnt f n fs all w q = at_start all n fs w q

opened_topic_back : (f : Form) (earlier : List TopicRows) (n i : ℕ) (fs : List (List ℕ)) (s : State)
    (all : List TopicRows) (w : List LogicalLine)
    → topic_named 0 fs f.topics ≡ Some i → opened_topic earlier i ≡ Ok s
    → Back f (topics earlier) (line Topi n fs) s all w
opened_topic_back f earlier n i fs s all w e h q =
    let p = kept_out (has_topic i earlier) Twice
    (tables (record { earlier = earlier; number = i; tables = [] })) s h in
    topics_topi f earlier n i fs all w e p.0
    (subst (λ (x : State). Completes f x all w) (sym p.1) q)

named_topic_back : (f : Form) (earlier : List TopicRows) (n : ℕ) (fs : List (List ℕ))
    (found : Option ℕ) (s : State) (all : List TopicRows) (w : List LogicalLine)
    → topic_named 0 fs f.topics ≡ found → named_topic earlier found ≡ Ok s
    → Back f (topics earlier) (line Topi n fs) s all w
named_topic_back f earlier n fs None s all w e h q = absurd cc
named_topic_back f earlier n fs (Some i) s all w e h q =
    opened_topic_back f earlier n i fs s all w e h q

opened_table_back : (f : Form) (o : InTopic) (n i : ℕ) (fs : List (List ℕ)) (t : Table) (s : State)
    (all : List TopicRows) (w : List LogicalLine)
    → table_named 0 o.number fs f.tables ≡ Some (i, t) → opened_table o i t ≡ Ok s
    → Back f (tables o) (line Tabl n fs) s all w
opened_table_back f o n i fs t s all w e h q =
    let p = kept_out (has_table i o.tables) Twice
    (objects (record { inside = o; number = i; lines = t.lines; rows = [] })) s h in
    tables_tabl f o n i fs t all w e p.0 (subst (λ (x : State). Completes f x all w) (sym p.1) q)

named_table_back : (f : Form) (o : InTopic) (n : ℕ) (fs : List (List ℕ))
    (found : Option (ℕ × Table)) (s : State) (all : List TopicRows) (w : List LogicalLine)
    → table_named 0 o.number fs f.tables ≡ found → named_table o found ≡ Ok s
    → Back f (tables o) (line Tabl n fs) s all w
named_table_back f o n fs None s all w e h q = absurd cc
named_table_back f o n fs (Some found) s all w e h q =
    opened_table_back f o n found.0 fs found.1 s all w e h q

-- the state that the machine takes, where it takes the line
onto : (f : Form) (s t u : State) (l : LogicalLine) (all : List TopicRows) (w : List LogicalLine)
    → Back f s l t all w → ok t ≡ Ok u → Back f s l u all w
onto f s t u l all w b e q =
    b (subst (λ (x : State). Completes f x all w) (sym (same_state t u e)) q)

is_less : (m n : ℕ) → nat_lt m n ≡ true → m < n
is_less m n e = search arith

more_back : (f : Form) (r : InRow) (t s : State) (l : LogicalLine) (all : List TopicRows)
    (w : List LogicalLine)
    → (length r.strokes < r.inside.lines → Back f (strokes r) l t all w) → more_of r t ≡ Ok s
    → Back f (strokes r) l s all w
more_back f r t s l all w b h q =
    let p = let_through (nat_lt (length r.strokes) r.inside.lines) Word t s h in
    b (is_less (length r.strokes) r.inside.lines p.0)
    (subst (λ (x : State). Completes f x all w) (sym p.1) q)

model_modl : (f : Form) (n : ℕ) (fs : List (List ℕ)) (s : State) (all : List TopicRows)
    (w : List LogicalLine)
    → (if names fs f.model then Ok (topics []) else Err Name) ≡ ok s
    → Back f model (line Modl n fs) s all w
model_modl f n fs s all w h q =
    let p = let_through (names fs f.model) Name (topics []) s h in
    at_model all n fs w p.0 (subst (λ (x : State). Completes f x all w) (sym p.1) q)

-- what a line leads to, completed, completes the state before the line
pub back : (f : Form) (s t : State) (word : LineWord) (n : ℕ) (fs : List (List ℕ))
    (all : List TopicRows) (w : List LogicalLine)
    → by_word f s word n fs ≡ Ok t → Back f s (line word n fs) t all w
back f start t0 Scnt n fs all w h =
    onto f start free t0 (line Scnt n fs) all w (start_scnt f n fs all w) h
back f free t0 Slashes n fs all w h =
    onto f free title t0 (line Slashes n fs) all w (free_slashes f n fs all w) h
back f free t0 word n fs all w h =
    onto f free free t0 (line word n fs) all w (free_free f (line word n fs) all w refl) h
back f title t0 Mtid n fs all w h =
    onto f title model t0 (line Mtid n fs) all w (λ q. at_title all n fs w q) h
back f model t0 Modl n fs all w h = model_modl f n fs t0 all w h
back f (topics earlier) t0 Topi n fs all w h =
    named_topic_back f earlier n fs (topic_named 0 fs f.topics) t0 all w refl h
back f (topics earlier) t0 Emod n fs all w h =
    onto f (topics earlier) (last earlier) t0 (line Emod n fs) all w
    (topics_emod f earlier all n fs w) h
back f (tables o) t0 Tabl n fs all w h =
    named_table_back f o n fs (table_named 0 o.number fs f.tables) t0 all w refl h
back f (tables o) t0 Etop n fs all w h =
    onto f (tables o) (topics (closed_topic o)) t0 (line Etop n fs) all w
    (tables_etop f o n fs all w) h
back f (objects t) t0 Obje n fs all w h =
    onto f (objects t) (strokes (opened_row t n fs)) t0 (line Obje n fs) all w
    (objects_obje f t n fs all w) h
back f (objects t) t0 Etab n fs all w h =
    onto f (objects t) (tables (closed_table t)) t0 (line Etab n fs) all w
    (objects_etab f t n fs all w) h
back f (strokes r) t0 Obje n fs all w h =
    onto f (strokes r) (strokes (opened_row (closed_row r) n fs)) t0 (line Obje n fs) all w
    (λ q. row_closes f r all (line Obje n fs ∷ w) (objects_obje f (closed_row r) n fs all w q))
    h
back f (strokes r) t0 Etab n fs all w h =
    onto f (strokes r) (tables (closed_table (closed_row r))) t0 (line Etab n fs) all w
    (λ q. row_closes f r all (line Etab n fs ∷ w) (objects_etab f (closed_row r) n fs all w q))
    h
back f (strokes r) t0 Stpt n fs all w h =
    more_back f r (vertices r (vertex Start n fs ∷ [])) t0 (line Stpt n fs) all w
    (λ l. strokes_stpt f r n fs all w l) h
back f (strokes r) t0 Elin n fs all w h =
    more_back f r (strokes (with_stroke r [])) t0 (line Elin n fs) all w
    (λ l q. stroke_comes f r [] all (line Elin n fs ∷ w) w l (undefined_stroke n fs w) q) h
back f (vertices r acc) t0 Lipt n fs all w h =
    onto f (vertices r acc) (vertices r (acc ++ (vertex Straight n fs ∷ []))) t0
    (line Lipt n fs) all w (vertices_lipt f r acc n fs all w) h
back f (vertices r acc) t0 Arcp n fs all w h =
    onto f (vertices r acc) (arc r (acc ++ (vertex OnArc n fs ∷ []))) t0 (line Arcp n fs) all w
    (vertices_arcp f r acc n fs all w) h
back f (vertices r acc) t0 Elin n fs all w h =
    onto f (vertices r acc) (strokes (with_stroke r acc)) t0 (line Elin n fs) all w
    (vertices_elin f r acc n fs all w) h
back f (arc r acc) t0 Lipt n fs all w h =
    onto f (arc r acc) (vertices r (acc ++ (vertex Straight n fs ∷ []))) t0 (line Lipt n fs) all w
    (arc_lipt f r acc n fs all w) h
back f (last earlier) t0 Ende n fs all w h =
    onto f (last earlier) (done earlier) t0 (line Ende n fs) all w
    (last_ende f earlier all n fs w) h
back f s t0 word n fs all w h = absurd cc
