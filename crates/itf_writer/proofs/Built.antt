-- The canonical lines of a transfer are a text.
use Rattle.std.proofs.Common.{◌≡◌, ◌<◌, ◌+◌, ◌-◌, inl, inr, ℕ, Bool, true, false, List, [], ◌∷◌}
use Rattle.std.proofs.Common.{◌++◌, map, replicate, length, All, Some, refl, ap, sym, subst, ◌∙◌}
use Rattle.std.proofs.Common.{arith, if◌then◌else◌, nat_eq, append_assoc}
use Rattle.std.proofs.lemmas.Bool.{eqb-true, ne_eqb}
use Rattle.std.proofs.lemmas.List.{append-nil, length-map}
use Rattle.std.proofs.lemmas.List.Concat.{flat_map-cons}
use Rattle.std.proofs.lemmas.List.Elements.{All-head, All-tail}
use Rattle.std.proofs.lemmas.Slice.Eq.{bytes_eq-Decides}
use Rattle.std.specs.List.{flat_map}
use Rattle.itf_lines.specs.declared.word.LineWord.TheVariants.{Slashes, Mtid, Modl, Topi, Tabl}
use Rattle.itf_lines.specs.declared.word.LineWord.TheVariants.{Obje, Elin, Etab, Etop, Emod, Ende}
use Rattle.itf_lines.specs.LogicalLines.{LogicalLine}
use Rattle.itf_reader.specs.Forms.{Table, Form, Vertex, Row, TableRows, TopicRows, names}
use Rattle.itf_reader.specs.Forms.{table_named, has_table, has_topic, fill_strokes}
use Rattle.itf_reader.specs.TransferText.{line, IsVertices, no_vertex, straight_vertex, arc_vertex}
use Rattle.itf_reader.specs.TransferText.{IsStroke, undefined_stroke, defined_stroke, IsStrokes}
use Rattle.itf_reader.specs.TransferText.{no_stroke, more_strokes, IsObjects, no_object}
use Rattle.itf_reader.specs.TransferText.{more_objects, IsTables, no_table, more_tables, IsTopics}
use Rattle.itf_reader.specs.TransferText.{no_topic, more_topics, no_free, IsText, text}
use Rattle.itf_reader.specs.RowForms.{GoesOn, HasStrokeForm, IsCounted, HasForm, EachRow}
use Rattle.itf_reader.specs.RowForms as form
use Rattle.itf_writer.specs.Canonical.{stroke_lines, row_lines, table_lines, tables_lines, has_rows}
use Rattle.itf_writer.specs.Canonical.{topics_lines, canon_lines}
use Rattle.itf_writer.specs.Same.{bare_stroke, bare_rows}
use Rattle.itf_writer.proofs.Known.{Known, AllKnown, TopicRest, topic_rest_later, topic_known}
use Rattle.itf_writer.proofs.SpelledLines.{head_lines}

-- ---- one object
vertices_built : (vs : List Vertex) (r : List LogicalLine) → GoesOn vs
    → IsVertices (bare_stroke vs) (stroke_lines vs ++ r) (line Elin 0 [] ∷ r)
vertices_built _ r form.at_end = no_vertex (line Elin 0 [] ∷ r)
vertices_built _ r (form.by_straight n fs vs h) =
    straight_vertex 0 fs (bare_stroke vs) (stroke_lines vs ++ r) _ (vertices_built vs r h)
vertices_built _ r (form.by_arc n m fs gs vs h) =
    arc_vertex 0 0 fs gs (bare_stroke vs) (stroke_lines vs ++ r) _ (vertices_built vs r h)

stroke_built : (s : List Vertex) (r : List LogicalLine) → HasStrokeForm s
    → IsStroke (bare_stroke s) (stroke_lines s ++ r) r
stroke_built _ r form.undefined_stroke = undefined_stroke 0 [] r
stroke_built _ r (form.defined_stroke n fs vs h) =
    defined_stroke 0 0 fs [] (bare_stroke vs) (stroke_lines vs ++ r) r (vertices_built vs r h)

strokes_built : (ss : List (List Vertex)) (r : List LogicalLine) → All HasStrokeForm ss
    → IsStrokes (map bare_stroke ss) (flat_map stroke_lines ss ++ r) r
strokes_built [] r h = no_stroke r
strokes_built (s ∷ ss) r h =
    let e : stroke_lines s ++ (flat_map stroke_lines ss ++ r)
    ≡ flat_map stroke_lines (s ∷ ss) ++ r =
    sym (append_assoc (stroke_lines s) (flat_map stroke_lines ss) r)
    ∙ ap (λ (ls : List LogicalLine). ls ++ r) (sym (flat_map-cons stroke_lines s ss)) in
    subst (λ (w : List LogicalLine). IsStrokes (map bare_stroke (s ∷ ss)) w r) e
    (more_strokes (bare_stroke s) (map bare_stroke ss) _ (flat_map stroke_lines ss ++ r) r
    (stroke_built s (flat_map stroke_lines ss ++ r) (All-head HasStrokeForm s ss h))
    (strokes_built ss r (All-tail HasStrokeForm s ss h)))

none_missing : (lines : ℕ) (ss : List (List Vertex)) → length ss ≡ lines
    → fill_strokes lines (map bare_stroke ss) ≡ map bare_stroke ss
none_missing lines ss h =
    let l = length-map ss bare_stroke in
    let z : lines - length (map bare_stroke ss) ≡ 0 = omega (arith, l, h) in
    ap (λ (n : ℕ). map bare_stroke ss ++ replicate n []) z ∙ append-nil (map bare_stroke ss)

objects_built : (lines : ℕ) (rows : List Row) (r : List LogicalLine) → All (IsCounted lines) rows
    → All (HasForm lines) rows → IsObjects lines (bare_rows rows) (flat_map row_lines rows ++ r) r
objects_built lines [] r h k = no_object r
objects_built lines (row ∷ rows) r h k =
    let rest = flat_map row_lines rows ++ r in
    let counted = All-head (IsCounted lines) row rows h in
    let l = length-map row.strokes bare_stroke in
    let e : line Obje 0 row.fields ∷ (flat_map stroke_lines row.strokes ++ rest)
    ≡ flat_map row_lines (row ∷ rows) ++ r =
    sym (append_assoc (row_lines row) (flat_map row_lines rows) r)
    ∙ ap (λ (ls : List LogicalLine). ls ++ r) (sym (flat_map-cons row_lines row rows)) in
    subst (λ (w : List LogicalLine). IsObjects lines (bare_rows (row ∷ rows)) w r) e
    (subst (λ (ss : List (List Vertex)). IsObjects lines (record {
      line = 0;
      fields = row.fields;
      strokes = ss;
    } ∷ bare_rows rows) (line Obje 0 row.fields
    ∷ (flat_map stroke_lines row.strokes ++ rest)) r) (none_missing lines row.strokes counted)
    (more_objects 0 row.fields (map bare_stroke row.strokes) (bare_rows rows) _ rest r
    (strokes_built row.strokes rest (All-head (HasForm lines) row rows k))
    (omega (arith, l, counted))
    (objects_built lines rows r (All-tail (IsCounted lines) row rows h)
    (All-tail (HasForm lines) row rows k))))

-- ---- the tables of a topic
-- all of these tables have numbers below that
abbrev AreBelow : ℕ → List TableRows → Type 0
AreBelow n [] = Unit {0}
AreBelow n (c ∷ cs) = (c.table < n) × AreBelow n cs

below_more : (n : ℕ) (cs : List TableRows) → AreBelow n cs → AreBelow (n + 1) cs
below_more n [] h = tt
below_more n (c ∷ cs) h = let l = h.0 in (omega (arith, l), below_more n cs h.1)

below_with : (n : ℕ) (cs : List TableRows) (rows : List Row) → AreBelow n cs
    → AreBelow (n + 1) (cs ++ record { table = n; rows = rows } ∷ [])
below_with n [] rows h = (omega arith, tt)
below_with n (c ∷ cs) rows h = let l = h.0 in (omega (arith, l), below_with n cs rows h.1)

none_has : (n : ℕ) (cs : List TableRows) → AreBelow n cs → has_table n cs ≡ false
none_has n [] h = refl
none_has n (c ∷ cs) h =
    let l = h.0 in rw (ne_eqb c.table n (λ e. absurd (omega (arith, l, e)))) (none_has n cs h.1)

abbrev pub some_rows : ℕ → List Row → List TableRows
some_rows n [] = []
some_rows n (r ∷ rows) = record { table = n; rows = bare_rows (r ∷ rows) } ∷ []

-- the tables of a topic that have rows, the first of these tables having the number n
abbrev pub kept : ℕ → ℕ → List Table → List (List Row) → List TableRows
kept k n [] transfer = []
kept k n (t ∷ ts) [] = []
kept k n (t ∷ ts) (rows ∷ others) =
    (if nat_eq t.topic k then some_rows n rows else []) ++ kept k (n + 1) ts others

table_built : (f : Form) (k n : ℕ) (earlier : List TableRows) (t : Table) (rows : List Row)
    (cs : List TableRows) (ls r : List LogicalLine)
    → t.topic ≡ k → AreBelow n earlier → Known f n t rows
    → All (IsCounted t.lines) rows → All (HasForm t.lines) rows
    → ((before : List TableRows) → AreBelow (n + 1) before → IsTables f k before cs (ls ++ r) r)
    → IsTables f k earlier (some_rows n rows ++ cs) ((table_lines t.name rows ++ ls) ++ r) r
table_built f k n earlier t [] cs ls r e b known counted formed rest =
    rest earlier (below_more n earlier b)
table_built f k n earlier t (row ∷ rows) cs ls r e b known counted formed rest = elim known [
  | inl x ↦ absurd (not_none row rows x)
  | inr c ↦
      let objects = flat_map row_lines (row ∷ rows) in
      let after = line Etab 0 [] ∷ (ls ++ r) in
      let w : objects ++ after ≡ ((objects ++ line Etab 0 [] ∷ []) ++ ls)
      ++ r = sym (append_assoc objects (line Etab 0 [] ∷ ls) r)
      ∙ ap (λ (x : List LogicalLine). x ++ r)
      (sym (append_assoc objects (line Etab 0 [] ∷ []) ls)) in
      subst (λ (x : List LogicalLine). IsTables f k earlier (some_rows n (row ∷ rows) ++ cs)
      (line Tabl 0 (t.name ∷ []) ∷ x) r) w
      (more_tables earlier 0 0 n (t.name ∷ []) [] t (bare_rows (row ∷ rows)) cs (objects ++ after)
      (ls ++ r) r
      (subst (λ (i : ℕ). table_named 0 i (t.name ∷ []) f.tables ≡ Some (n, t)) e c.named)
      (none_has n earlier b)
      (objects_built t.lines (row ∷ rows) after counted formed)
      (rest (earlier ++ record { table = n; rows = bare_rows (row ∷ rows) } ∷ [])
      (below_with n earlier (bare_rows (row ∷ rows)) b)))
]
  where
    not_none : (r : Row) (rows : List Row) → r ∷ rows ≡ [] → ⊥
    not_none r rows e = absurd cc

tables_built : (f : Form) (k n : ℕ) (earlier : List TableRows) (ts : List Table)
    (transfer : List (List Row)) (r : List LogicalLine)
    → AreBelow n earlier → AllKnown f n ts transfer
    → EachRow IsCounted ts transfer → EachRow HasForm ts transfer
    → IsTables f k earlier (kept k n ts transfer) (tables_lines k ts transfer ++ r) r
tables_built f k n earlier [] transfer r b a c d = no_table earlier r
tables_built f k n earlier (t ∷ ts) [] r b a c d = absurd a
tables_built f k n earlier (t ∷ ts) (rows ∷ others) r b a c d =
    elim (nat_eq t.topic k) as (λ x. nat_eq t.topic k ≡ x
    → IsTables f k earlier ((if x then some_rows n rows else []) ++ kept k (n + 1) ts others)
    (((if x then table_lines t.name rows else []) ++ tables_lines k ts others) ++ r) r) [
      | true ↦ λ e. table_built f k n earlier t rows (kept k (n + 1) ts others)
          (tables_lines k ts others) r (eqb-true t.topic k e) b a.0 c.0 d.0
          (λ before h. tables_built f k (n + 1) before ts others r h a.1 c.1 d.1)
      | false ↦ λ e. tables_built f k (n + 1) earlier ts others r
          (below_more n earlier b) a.1 c.1 d.1
    ] refl

-- ---- the topics
abbrev TopicsBelow : ℕ → List TopicRows → Type 0
TopicsBelow n [] = Unit {0}
TopicsBelow n (c ∷ cs) = (c.topic < n) × TopicsBelow n cs

topics_more : (n : ℕ) (cs : List TopicRows) → TopicsBelow n cs → TopicsBelow (n + 1) cs
topics_more n [] h = tt
topics_more n (c ∷ cs) h = let l = h.0 in (omega (arith, l), topics_more n cs h.1)

topics_with : (n : ℕ) (cs : List TopicRows) (tables : List TableRows) → TopicsBelow n cs
    → TopicsBelow (n + 1) (cs ++ record { topic = n; tables = tables } ∷ [])
topics_with n [] tables h = (omega arith, tt)
topics_with n (c ∷ cs) tables h = let l = h.0 in (omega (arith, l), topics_with n cs tables h.1)

no_topic_has : (n : ℕ) (cs : List TopicRows) → TopicsBelow n cs → has_topic n cs ≡ false
no_topic_has n [] h = refl
no_topic_has n (c ∷ cs) h =
    let l = h.0 in rw (ne_eqb c.topic n (λ e. absurd (omega (arith, l, e)))) (no_topic_has n cs h.1)

abbrev pub some_topic : Bool → ℕ → List TableRows → List TopicRows
some_topic b k tables = if b then record { topic = k; tables = tables } ∷ [] else []

-- the topics that have rows
abbrev pub kept_topics : ℕ → List (List ℕ) → List Table → List (List Row) → List TopicRows
kept_topics k [] ts transfer = []
kept_topics k (name ∷ names) ts transfer =
    some_topic (has_rows k ts transfer) k (kept k 0 ts transfer)
    ++ kept_topics (k + 1) names ts transfer

topics_built : (f : Form) (k : ℕ) (earlier : List TopicRows) (ns : List (List ℕ))
    (transfer : List (List Row)) (r : List LogicalLine)
    → TopicsBelow k earlier → TopicRest f k ns → AllKnown f 0 f.tables transfer
    → EachRow IsCounted f.tables transfer → EachRow HasForm f.tables transfer
    → IsTopics f earlier (kept_topics k ns f.tables transfer)
    (topics_lines k ns f.tables transfer ++ r) r
topics_built f k earlier [] transfer r b h a c d = no_topic earlier r
topics_built f k earlier (name ∷ ns) transfer r b h a c d =
    let cs = kept k 0 f.tables transfer in
    let ls = tables_lines k f.tables transfer in
    let more = topics_lines (k + 1) ns f.tables transfer in
    elim (has_rows k f.tables transfer) as (λ x. has_rows k f.tables transfer ≡ x
    → IsTopics f earlier (some_topic x k cs ++ kept_topics (k + 1) ns f.tables transfer)
    (((if x then line Topi 0 (name ∷ []) ∷ (ls ++ line Etop 0 [] ∷ []) else []) ++ more) ++ r)
    r) [
      | true ↦ λ e.
          let known = topic_known f k name ns transfer h e a in
          let after = line Etop 0 [] ∷ (more ++ r) in
          let w : ls ++ after ≡ ((ls ++ line Etop 0 [] ∷ []) ++ more)
          ++ r = sym (append_assoc ls (line Etop 0 [] ∷ more) r)
          ∙ ap (λ (x : List LogicalLine). x ++ r)
          (sym (append_assoc ls (line Etop 0 [] ∷ []) more)) in
          subst (λ (x : List LogicalLine). IsTopics f earlier (record {
            topic = k;
            tables = cs;
          } ∷ kept_topics (k + 1) ns f.tables transfer)
          (line Topi 0 (name ∷ []) ∷ x) r) w
          (more_topics earlier 0 0 k (name ∷ []) [] cs (kept_topics (k + 1) ns f.tables transfer)
          (ls ++ after) (more ++ r) r known.0 (no_topic_has k earlier b)
          (tables_built f k 0 [] f.tables transfer after tt a c d)
          (topics_built f (k + 1) (earlier ++ record { topic = k; tables = cs } ∷ []) ns transfer r
          (topics_with k earlier cs b) (topic_rest_later f k name ns h) a c d))
      | false ↦ λ e. topics_built f (k + 1) earlier ns transfer r (topics_more k earlier b)
          (topic_rest_later f k name ns h) a c d
    ] refl

pub canon_built : (f : Form) (transfer : List (List Row)) → AllKnown f 0 f.tables transfer
    → EachRow IsCounted f.tables transfer → EachRow HasForm f.tables transfer
    → IsText f (kept_topics 0 f.topics f.tables transfer) (head_lines ++ canon_lines f transfer)
canon_built f transfer a c d =
    let u = topics_lines 0 f.topics f.tables transfer ++ line Emod 0 [] ∷ line Ende 0 [] ∷ [] in
    text 0 0 0 0 0 0 [] [] [] (f.model ∷ []) [] [] (kept_topics 0 f.topics f.tables transfer)
    (line Slashes 0 [] ∷ line Mtid 0 [] ∷ line Modl 0 (f.model ∷ []) ∷ u) u
    (no_free _) ((bytes_eq-Decides f.model f.model).1 refl)
    (topics_built f 0 [] f.topics transfer (line Emod 0 [] ∷ line Ende 0 [] ∷ []) tt
    (λ fs m l e. e) a c d)
