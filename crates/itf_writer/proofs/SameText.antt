-- The canonical lines do not depend on the numbers of lines.
use Rattle.std.proofs.Common.{◌≡◌, ℕ, ◌+◌, Bool, true, ◌&&◌, List, [], ◌∷◌, ◌++◌, map, refl, ap}
use Rattle.std.proofs.Common.{sym, ◌∙◌, if◌then◌else◌, nat_eq}
use Rattle.std.proofs.lemmas.List.Concat.{flat_map-cons}
use Rattle.std.specs.Prelude.{codes}
use Rattle.std.specs.List.{flat_map}
use Rattle.itf_lines.specs.declared.word.LineWord.TheVariants.{Mtid, Modl, Topi, Tabl, Obje, Etab}
use Rattle.itf_lines.specs.declared.word.LineWord.TheVariants.{Etop, Emod, Ende}
use Rattle.itf_lines.specs.LogicalLines.{LogicalLine}
use Rattle.itf_reader.specs.Forms.{Table, Form, Vertex, Row}
use Rattle.itf_reader.specs.TransferText.{line}
use Rattle.itf_writer.specs.Canonical.{vertex_line, stroke_lines, row_lines, table_lines}
use Rattle.itf_writer.specs.Canonical.{tables_lines, is_some_row, has_rows, topic_lines}
use Rattle.itf_writer.specs.Canonical.{topics_lines, canon_lines, canon_text, line_text}
use Rattle.itf_writer.specs.Same.{bare_stroke, bare_row, bare_rows, bare, Same}

bare_stroke_lines : (vs : List Vertex) → stroke_lines (bare_stroke vs) ≡ stroke_lines vs
bare_stroke_lines [] = refl
bare_stroke_lines (v ∷ vs) =
    ap (λ (ls : List LogicalLine). vertex_line v ∷ ls) (bare_stroke_lines vs)

bare_strokes_lines : (ss : List (List Vertex))
    → flat_map stroke_lines (map bare_stroke ss) ≡ flat_map stroke_lines ss
bare_strokes_lines [] = refl
bare_strokes_lines (s ∷ ss) =
    flat_map-cons stroke_lines (bare_stroke s) (map bare_stroke ss)
    ∙ (ap (λ (ls : List LogicalLine). ls ++ flat_map stroke_lines (map bare_stroke ss))
    (bare_stroke_lines s)
    ∙ (ap (λ (ls : List LogicalLine). stroke_lines s ++ ls) (bare_strokes_lines ss)
    ∙ sym (flat_map-cons stroke_lines s ss)))

bare_row_lines : (r : Row) → row_lines (bare_row r) ≡ row_lines r
bare_row_lines r =
    ap (λ (ls : List LogicalLine). line Obje 0 r.fields ∷ ls) (bare_strokes_lines r.strokes)

bare_rows_lines : (rows : List Row) → flat_map row_lines (bare_rows rows) ≡ flat_map row_lines rows
bare_rows_lines [] = refl
bare_rows_lines (r ∷ rows) =
    flat_map-cons row_lines (bare_row r) (bare_rows rows)
    ∙ (ap (λ (ls : List LogicalLine). ls ++ flat_map row_lines (bare_rows rows)) (bare_row_lines r)
    ∙ (ap (λ (ls : List LogicalLine). row_lines r ++ ls) (bare_rows_lines rows)
    ∙ sym (flat_map-cons row_lines r rows)))

bare_table_lines : (name : List ℕ) (rows : List Row)
    → table_lines name (bare_rows rows) ≡ table_lines name rows
bare_table_lines name [] = refl
bare_table_lines name (r ∷ rows) =
    ap (λ (ls : List LogicalLine). line Tabl 0 (name ∷ []) ∷ (ls ++ line Etab 0 [] ∷ []))
    (bare_rows_lines (r ∷ rows))

bare_some : (rows : List Row) → is_some_row (bare_rows rows) ≡ is_some_row rows
bare_some [] = refl
bare_some (r ∷ rows) = refl

bare_has : (k : ℕ) (ts : List Table) (t : List (List Row))
    → has_rows k ts (bare t) ≡ has_rows k ts t
bare_has k [] t = refl
bare_has k (u ∷ ts) [] = refl
bare_has k (u ∷ ts) (rows ∷ t) =
    ap (λ (b : Bool). if nat_eq u.topic k && b then true else has_rows k ts (bare t))
    (bare_some rows)
    ∙ ap (λ (b : Bool). if nat_eq u.topic k && is_some_row rows then true else b) (bare_has k ts t)

bare_tables_lines : (k : ℕ) (ts : List Table) (t : List (List Row))
    → tables_lines k ts (bare t) ≡ tables_lines k ts t
bare_tables_lines k [] t = refl
bare_tables_lines k (u ∷ ts) [] = refl
bare_tables_lines k (u ∷ ts) (rows ∷ t) =
    ap (λ (ls : List LogicalLine). (if nat_eq u.topic k then ls else [])
    ++ tables_lines k ts (bare t)) (bare_table_lines u.name rows)
    ∙ ap (λ (ls : List LogicalLine). (if nat_eq u.topic k then table_lines u.name rows else [])
    ++ ls) (bare_tables_lines k ts t)

bare_topics_lines : (k : ℕ) (names : List (List ℕ)) (ts : List Table) (t : List (List Row))
    → topics_lines k names ts (bare t) ≡ topics_lines k names ts t
bare_topics_lines k [] ts t = refl
bare_topics_lines k (name ∷ names) ts t =
    ap (λ (b : Bool). (if b then line Topi 0 (name ∷ [])
    ∷ (tables_lines k ts (bare t) ++ line Etop 0 [] ∷ []) else [])
    ++ topics_lines (k + 1) names ts (bare t)) (bare_has k ts t)
    ∙ (ap (λ (ls : List LogicalLine). (if has_rows k ts t then line Topi 0 (name ∷ [])
    ∷ (ls ++ line Etop 0 [] ∷ []) else []) ++ topics_lines (k + 1) names ts (bare t))
    (bare_tables_lines k ts t)
    ∙ ap (λ (ls : List LogicalLine). topic_lines k name ts t ++ ls)
    (bare_topics_lines (k + 1) names ts t))

bare_lines : (f : Form) (t : List (List Row)) → canon_lines f (bare t) ≡ canon_lines f t
bare_lines f t =
    ap (λ (ls : List LogicalLine). line Mtid 0 [] ∷ line Modl 0 (f.model ∷ [])
    ∷ (ls ++ line Emod 0 [] ∷ line Ende 0 [] ∷ [])) (bare_topics_lines 0 f.topics f.tables t)

pub same_text : (code : ℕ) (f : Form) (a b : List (List Row)) → Same a b
    → canon_text code f a ≡ canon_text code f b
same_text code f a b h =
    ap (λ (ls : List LogicalLine). text_of code ls) (sym (bare_lines f a)
    ∙ (ap (canon_lines f) h ∙ bare_lines f b))
  where
    text_of : ℕ → List LogicalLine → List ℕ
    text_of code ls = codes "SCNT\n////\n" ++ flat_map (line_text code) ls
