-- The lines of the rows of a table rise.
use Rattle.std.proofs.Common.{◌≡◌, ℕ, zero, suc, ◌+◌, ◌-◌, ◌<◌, Bool, true, false, List, [], ◌∷◌}
use Rattle.std.proofs.Common.{◌++◌, length, map, replicate, refl, sym, ap, ◌∙◌, subst, arith}
use Rattle.std.proofs.Common.{append_assoc, append-nil, if◌then◌else◌, nat_eq}
use Rattle.std.specs.List.{All, flat_map}
use Rattle.std.specs.List.Sorted.{IsStrictlyIncreasing}
use Rattle.std.proofs.lemmas.List.Elements.{All-nil, All-cons, All-head, All-tail, All-append}
use Rattle.std.proofs.lemmas.List.Elements.{All-weaker}
use Rattle.itf_lines.specs.LogicalLines.{LogicalLine}
use Rattle.itf_lines.specs.declared.word.LineWord.TheVariants.{Slashes, Mtid, Modl, Topi, Tabl}
use Rattle.itf_lines.specs.declared.word.LineWord.TheVariants.{Elin}
use Rattle.itf_lines.specs.declared.word.LineWord.TheVariants.{Etab, Etop, Emod, Ende, Scnt}
use Rattle.itf_lines.specs.Rising.{Rise}
use Rattle.itf_reader.specs.Forms.{Table, Form, Vertex, Row, TableRows, TopicRows, fill_strokes}
use Rattle.itf_reader.specs.Forms.{rows_in, rows_from, tables_of}
use Rattle.itf_reader.specs.RowLines.{vertex_lines, row_lines, table_lines, LinesRise}
use Rattle.itf_reader.specs.TransferText.{line, IsVertices, no_vertex, straight_vertex}
use Rattle.itf_reader.specs.TransferText.{arc_vertex, IsStroke, undefined_stroke, defined_stroke}
use Rattle.itf_reader.specs.TransferText.{IsStrokes, no_stroke, more_strokes, IsObjects}
use Rattle.itf_reader.specs.TransferText.{no_object, more_objects, IsTables, no_table, more_tables}
use Rattle.itf_reader.specs.TransferText.{IsTopics, no_topic, more_topics, AreFree, no_free}
use Rattle.itf_reader.specs.TransferText.{more_free, IsText, text, TransferText}
use Rattle.itf_reader.proofs.Among.{Among, none, skip, keep, nothing, among_behind, Rises}
use Rattle.itf_reader.proofs.Among.{among_rises, rises_increase}

-- the numbers of lines
abbrev numbers : List LogicalLine → List ℕ
numbers ls = map (λ l. l.number) ls

-- ---- what is read of some lines has their numbers, and then come some of those that are left
vertices_among : (vs : List Vertex) (w r : List LogicalLine) (ms : List ℕ) → IsVertices vs w r
    → Among ms (numbers r) → Among (vertex_lines vs ++ ms) (numbers w)
vertices_among _ _ _ ms (no_vertex r) h = h
vertices_among _ _ _ ms (straight_vertex n fs vs w r k) h =
    keep n (vertex_lines vs ++ ms) (numbers w) (vertices_among vs w r ms k h)
vertices_among _ _ _ ms (arc_vertex n m fs gs vs w r k) h =
    keep n (m ∷ (vertex_lines vs ++ ms)) (m ∷ numbers w)
    (keep m (vertex_lines vs ++ ms) (numbers w) (vertices_among vs w r ms k h))

stroke_among : (s : List Vertex) (w r : List LogicalLine) (ms : List ℕ) → IsStroke s w r
    → Among ms (numbers r) → Among (vertex_lines s ++ ms) (numbers w)
stroke_among _ _ _ ms (undefined_stroke n fs r) h = skip n ms (numbers r) h
stroke_among _ _ _ ms (defined_stroke n m fs gs vs w r k) h =
    keep n (vertex_lines vs ++ ms) (numbers w)
    (vertices_among vs w (line Elin m gs ∷ r) ms k (skip m ms (numbers r) h))

strokes_among : (ss : List (List Vertex)) (w r : List LogicalLine) (ms : List ℕ)
    → IsStrokes ss w r → Among ms (numbers r)
    → Among (flat_map vertex_lines ss ++ ms) (numbers w)
strokes_among _ _ _ ms (no_stroke r) h = h
strokes_among _ _ _ ms (more_strokes s ss w u r k l) h =
    subst (λ (ns : List ℕ). Among ns (numbers w))
    (sym (append_assoc (vertex_lines s) (flat_map vertex_lines ss) ms))
    (stroke_among s w u (flat_map vertex_lines ss ++ ms) k (strokes_among ss u r ms l h))

-- strokes that are left out have no line
unfilled : (n : ℕ) → flat_map vertex_lines (replicate n []) ≡ []
unfilled zero = refl
unfilled (suc n) = unfilled n

filled : (ss : List (List Vertex)) (n : ℕ)
    → flat_map vertex_lines (ss ++ replicate n []) ≡ flat_map vertex_lines ss
filled [] n = unfilled n
filled (s ∷ ss) n = ap (λ (ns : List ℕ). vertex_lines s ++ ns) (filled ss n)

objects_among : (lines : ℕ) (rows : List Row) (w r : List LogicalLine) (ms : List ℕ)
    → IsObjects lines rows w r → Among ms (numbers r) → Among (table_lines rows ++ ms) (numbers w)
objects_among lines _ _ _ ms (no_object r) h = h
objects_among lines _ _ _ ms (more_objects n fs ss rows w u r k l o) h =
    subst (λ (ns : List ℕ). Among ns (n ∷ numbers w))
    (ap (λ (ns : List ℕ). n ∷ (ns ++ (table_lines rows ++ ms)))
    (sym (filled ss (lines - length ss)))
    ∙ sym (append_assoc (n ∷ flat_map vertex_lines (fill_strokes lines ss)) (table_lines rows) ms))
    (keep n (flat_map vertex_lines ss ++ (table_lines rows ++ ms)) (numbers w)
    (strokes_among ss w u (table_lines rows ++ ms) k (objects_among lines rows u r ms o h)))

-- ---- the tables of a text
-- the lines of the rows of a table are some of these, in their order
abbrev IsAmong : List LogicalLine → TableRows → Type 0
IsAmong w c = Among (table_lines c.rows) (numbers w)

-- what is among the lines that are left is among all
abbrev Left : List LogicalLine → List LogicalLine → Type 0
Left w r = (ms : List ℕ) → Among ms (numbers r) → Among ms (numbers w)

lines_left : (w r : List LogicalLine) (ts : List TableRows) → Left w r → All (IsAmong r) ts
    → All (IsAmong w) ts
lines_left w r ts h a = All-weaker (IsAmong r) (IsAmong w) (λ c k. h (table_lines c.rows) k) ts a

abbrev Found : List TableRows → List LogicalLine → List LogicalLine → Type 0
Found ts w r = All (IsAmong w) ts × Left w r

tables_among : (f : Form) (topic : ℕ) (earlier ts : List TableRows) (w r : List LogicalLine)
    → IsTables f topic earlier ts w r → Found ts w r
tables_among f topic _ _ _ _ (no_table earlier r) = (All-nil (IsAmong r), λ ms k. k)
tables_among f topic _ _ _ _ (more_tables earlier n m i fs gs t rows ts w u r e c h k) =
    let rest = tables_among f topic (earlier ++ record { table = i; rows = rows } ∷ []) ts u r k in (
      All-cons (IsAmong (line Tabl n fs ∷ w)) (record { table = i; rows = rows }) ts own
          (lines_left (line Tabl n fs ∷ w) u ts behind rest.0),
      λ ms a. behind ms (rest.1 ms a),
    )
  where
    after : List LogicalLine
    after = line Etab m gs ∷ u

    own : Among (table_lines rows) (n ∷ numbers w)
    own =
        skip n (table_lines rows) (numbers w)
        (subst (λ (ms : List ℕ). Among ms (numbers w)) (append-nil (table_lines rows))
        (objects_among t.lines rows w after [] h (nothing (numbers after))))

    behind : Left (line Tabl n fs ∷ w) u
    behind ms a =
        skip n ms (numbers w)
        (among_behind (table_lines rows) ms (numbers w)
        (objects_among t.lines rows w after ms h (skip m ms (numbers u) a)))

topics_among : (f : Form) (earlier ts : List TopicRows) (w r : List LogicalLine)
    → IsTopics f earlier ts w r → Found (tables_of ts) w r
topics_among f _ _ _ _ (no_topic earlier r) = (All-nil (IsAmong r), λ ms k. k)
topics_among f _ _ _ _ (more_topics earlier n m i fs gs tables ts w u r e c h k) =
    let own = tables_among f i [] tables w (line Etop m gs ∷ u) h in
    let rest = topics_among f (earlier ++ record { topic = i; tables = tables } ∷ []) ts u r k in
    let all = line Topi n fs ∷ w in
    let behind : Left all u =
    λ ms a. skip n ms (numbers w) (own.1 ms (skip m ms (numbers u) a)) in (
      All-append (IsAmong all) tables (tables_of ts)
          (lines_left all w tables (λ ms a. skip n ms (numbers w) a) own.0)
          (lines_left all u (tables_of ts) behind rest.0),
      λ ms a. behind ms (rest.1 ms a),
    )

free_left : (w r : List LogicalLine) → AreFree w r → Left w r
free_left _ _ (no_free r) = λ ms k. k
free_left _ _ (more_free l w r e h) = λ ms k. skip l.number ms (numbers w) (free_left w r h ms k)

text_among : (f : Form) (ts : List TopicRows) (ls : List LogicalLine) → IsText f ts ls
    → All (IsAmong ls) (tables_of ts)
text_among f _ _ (text n m i j k e fs gs hs is js ks ts w u a b h) =
    let found = topics_among f [] ts u (line Emod k js ∷ line Ende e ks ∷ []) h in
    let head = line Slashes m gs ∷ line Mtid i hs ∷ line Modl j is ∷ u in
    lines_left (line Scnt n fs ∷ w) u (tables_of ts)
    (λ ms k. skip n ms (numbers w) (free_left w head a ms
    (skip m ms (i ∷ j ∷ numbers u) (skip i ms (j ∷ numbers u) (skip j ms (numbers u) k))))) found.0

-- ---- the rows of each table
rises : (low : ℕ) (ls : List LogicalLine) → Rise low ls → Rises low (numbers ls)
rises low [] h = tt
rises low (l ∷ ls) h = (h.0, rises l.number ls h.1)

-- the lines of rows rise
abbrev AreRising : List Row → Type 0
AreRising rows = IsStrictlyIncreasing (table_lines rows)

no_rows : AreRising []
no_rows k l = absurd (omega (arith, l))

rows_rise : (n : ℕ) (cs : List TableRows) → All (λ c. AreRising c.rows) cs
    → AreRising (rows_in n cs)
rows_rise n [] h = no_rows
rows_rise n (c ∷ cs) h =
    elim (nat_eq c.table n) as (λ b. AreRising (if b then c.rows else rows_in n cs)) [
      | true ↦ All-head (λ x. AreRising x.rows) c cs h
      | false ↦ rows_rise n cs (All-tail (λ x. AreRising x.rows) c cs h)
    ]

placed_rise : (n : ℕ) (ts : List Table) (cs : List TableRows) → All (λ c. AreRising c.rows) cs
    → LinesRise (rows_from n ts cs)
placed_rise n [] cs h = All-nil AreRising
placed_rise n (t ∷ ts) cs h =
    All-cons AreRising (rows_in n cs) (rows_from (n + 1) ts cs) (rows_rise n cs h)
    (placed_rise (n + 1) ts cs h)

pub lines_rise : (f : Form) (ls : List LogicalLine) (transfer : List (List Row))
    → TransferText f ls transfer → Rise 0 ls → LinesRise transfer
lines_rise f ls transfer h r =
    subst LinesRise (sym h.2) (placed_rise 0 f.tables (tables_of h.0)
    (All-weaker (IsAmong ls) (λ c. AreRising c.rows)
    (λ c k. rises_increase 0 (table_lines c.rows)
    (among_rises 0 (table_lines c.rows) (numbers ls) k (rises 0 ls r))) (tables_of h.0)
    (text_among f h.0 ls h.1)))
