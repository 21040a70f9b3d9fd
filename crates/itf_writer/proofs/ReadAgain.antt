-- The canonical text of a transfer that was read is read as the same transfer.
use Rattle.std.proofs.Common.{◌≡◌, ◌≤◌, ◌+◌, ◌==◌, ℕ, true, false, List, [], ◌∷◌, ◌++◌, map, refl}
use Rattle.std.proofs.Common.{ap, sym, ◌∙◌, arith, if◌then◌else◌, nat_eq}
use Rattle.std.proofs.lemmas.Bool.{ne_eqb}
use Rattle.itf_lines.specs.LogicalLines.{LogicalLines, logical}
use Rattle.itf_reader.specs.Forms.{Table, Form, Vertex, Row, TableRows, TopicRows, rows_in}
use Rattle.itf_reader.specs.Forms.{rows_from, tables_of, rows_by_form}
use Rattle.itf_reader.specs.Readings.{IsRead}
use Rattle.itf_reader.proofs.RowLaws.{rows_counted, rows_formed}
use Rattle.itf_writer.specs.Canonical.{canon_lines, canon_text}
use Rattle.itf_writer.specs.Same.{bare_vertex, bare_stroke, bare_row, bare_rows, bare, Same}
use Rattle.itf_writer.proofs.Words.{HaveWords}
use Rattle.itf_writer.proofs.CameByName.{text_placed}
use Rattle.itf_writer.proofs.Known.{tables_known}
use Rattle.itf_writer.proofs.Renumbered.{bare_table, bare_tables, bare_topics, renumbered}
use Rattle.itf_writer.proofs.SpelledLines.{IsCode, head_lines, text_gives}
use Rattle.itf_writer.proofs.CanonSpelt.{canon_spelt}
use Rattle.itf_writer.proofs.Built.{kept_topics, canon_built}
use Rattle.itf_writer.proofs.PlacedAgain.{placed_again}

-- ---- without numbers
map_append : (a b : List TableRows) → bare_tables (a ++ b) ≡ bare_tables a ++ bare_tables b
map_append [] b = refl
map_append (c ∷ a) b = ap (λ (l : List TableRows). bare_table c ∷ l) (map_append a b)

bare_rows_in : (n : ℕ) (cs : List TableRows) → bare_rows (rows_in n cs) ≡ rows_in n (bare_tables cs)
bare_rows_in n [] = refl
bare_rows_in n (c ∷ cs) =
    elim (nat_eq c.table n) as (λ b. bare_rows (if b then c.rows else rows_in n cs)
    ≡ (if b then bare_rows c.rows else rows_in n (bare_tables cs))) [
      | true ↦ refl
      | false ↦ bare_rows_in n cs
    ]

bare_from : (n : ℕ) (ts : List Table) (cs : List TableRows)
    → bare (rows_from n ts cs) ≡ rows_from n ts (bare_tables cs)
bare_from n [] cs = refl
bare_from n (t ∷ ts) cs =
    ap (λ (r : List Row). r ∷ bare (rows_from (n + 1) ts cs)) (bare_rows_in n cs)
    ∙ ap (λ (r : List (List Row)). rows_in n (bare_tables cs) ∷ r) (bare_from (n + 1) ts cs)

bare_tables_of : (ts : List TopicRows) → bare_tables (tables_of ts) ≡ tables_of (bare_topics ts)
bare_tables_of [] = refl
bare_tables_of (t ∷ ts) = map_append t.tables (tables_of ts)
    ∙ ap (λ (l : List TableRows). bare_tables t.tables ++ l) (bare_tables_of ts)

bare_by_form : (f : Form) (ts : List TopicRows)
    → bare (rows_by_form f ts) ≡ rows_by_form f (bare_topics ts)
bare_by_form f ts = bare_from 0 f.tables (tables_of ts)
    ∙ ap (rows_from 0 f.tables) (bare_tables_of ts)

twice_stroke : (s : List Vertex) → bare_stroke (bare_stroke s) ≡ bare_stroke s
twice_stroke [] = refl
twice_stroke (v ∷ vs) = ap (λ (l : List Vertex). bare_vertex v ∷ l) (twice_stroke vs)

twice_strokes : (ss : List (List Vertex))
    → map bare_stroke (map bare_stroke ss) ≡ map bare_stroke ss
twice_strokes [] = refl
twice_strokes (s ∷ ss) =
    ap (λ (x : List Vertex). x ∷ map bare_stroke (map bare_stroke ss)) (twice_stroke s)
    ∙ ap (λ (l : List (List Vertex)). bare_stroke s ∷ l) (twice_strokes ss)

twice_rows : (rows : List Row) → bare_rows (bare_rows rows) ≡ bare_rows rows
twice_rows [] = refl
twice_rows (r ∷ rows) =
    ap (λ (ss : List (List Vertex)). record {
      line = 0;
      fields = r.fields;
      strokes = ss;
    } ∷ bare_rows (bare_rows rows)) (twice_strokes r.strokes)
    ∙ ap (λ (l : List Row). bare_row r ∷ l) (twice_rows rows)

bare_twice : (t : List (List Row)) → bare (bare t) ≡ bare t
bare_twice [] = refl
bare_twice (rows ∷ t) = ap (λ (r : List Row). r ∷ bare (bare t)) (twice_rows rows)
    ∙ ap (λ (l : List (List Row)). bare_rows rows ∷ l) (bare_twice t)

-- ---- codes
other : (a b : ℕ) → (a ≡ b → ⊥) → (a == b) ≡ false
other a b h = ne_eqb a b h

pub code_of_model : (code : ℕ) → 33 ≤ code → (code ≡ 84 → ⊥) → IsCode code
code_of_model code h k = record {
  blank = rw (
    other code 32 (λ e. absurd (omega (arith, h, e))),
    other code 9 (λ e. absurd (omega (arith, h, e))),
  ) refl;
  lf = other code 10 (λ e. absurd (omega (arith, h, e)));
  cr = other code 13 (λ e. absurd (omega (arith, h, e)));
  cont = other 84 code (λ e. k (sym e));
}

-- ---- the text
pub read_again : (code : ℕ) (f : Form) (given : LogicalLines) (t : List (List Row)) → IsCode code
    → IsRead f given t → HaveWords given.lines
    → (u : List (List Row)) × IsRead f (logical code (canon_text code f t)) u × Same t u
read_again code f given t c h w =
    let placed = text_placed f given.lines t h.1 w in
    let known = tables_known f t placed.0 in
    let lines = logical code (canon_text code f t) in
    let gives = text_gives code (canon_lines f t) c (canon_spelt f t placed.1 known) in
    let built = canon_built f t known (rows_counted f given.lines t h.1)
    (rows_formed f given.lines t h.1) in
    let ts = kept_topics 0 f.topics f.tables t in
    let r = renumbered f ts (head_lines ++ canon_lines f t) lines.lines (sym gives.0) built in
    let same : bare (rows_by_form f r.0) ≡ bare t =
    bare_by_form f r.0
    ∙ (ap (rows_by_form f) r.2
    ∙ (sym (bare_by_form f ts) ∙ (ap bare (placed_again f t known) ∙ bare_twice t))) in
    (rows_by_form f r.0, (gives.1, (r.0, r.1, refl)), sym same)
