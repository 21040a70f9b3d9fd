-- References, column by column.
use Rattle.std.proofs.Common.{◌≡◌, ℕ, ◌+◌, ◌<◌, ◌≤◌, List, ◌++◌, length, take, drop, get_or, sym}
use Rattle.std.proofs.Common.{ap, ◌∙◌, arith, append_assoc, length-drop}
use Rattle.ili_grammar.specs.Syntax.{Codes}
use Rattle.resolver.specs.Values.{form_of}
use Rattle.table_layout.specs.declared.layouts.Column.{Column as CodeColumn}
use Rattle.table_layout.specs.Layouts.{Column}
use Rattle.table_layout.specs.Values.{column_view, columns_view}
use Rattle.field_values.specs.Fields.{width}
use Rattle.itf_reader.specs.RowFindings.{widths}
use Rattle.ident_refs.specs.KeyFindings.{referred_table}
use Rattle.ident_refs.specs.KeptRows.{Ref, column_refs, columns_refs}
use Rattle.ident_refs.proofs.Splits.{split}

-- the words of a column and of those after it
pub width_at : (i : ℕ) (columns : List CodeColumn) (c : CodeColumn) (n : ℕ) → i < length columns
    → c ≡ get_or columns i c
    → n ≡ widths (drop i (columns_view columns))
    → n ≡ width (form_of c.form) + widths (drop (i + 1) (columns_view columns))
width_at i columns c n lt at e = e ∙ ap widths (split column_view i columns c lt at).0

pub width_below : (i : ℕ) (columns : List CodeColumn) (c : CodeColumn) (n w : ℕ)
    → i < length columns → c ≡ get_or columns i c → w ≡ width (form_of c.form)
    → n ≡ widths (drop i (columns_view columns)) → w ≤ n
width_below i columns c n w lt at v e =
    let h = width_at i columns c n lt at e in omega (arith, h, v)

pub rest_counted : (i : ℕ) (columns : List CodeColumn) (c : CodeColumn) (words : List (List ℕ))
    (w : ℕ)
    → i < length columns → c ≡ get_or columns i c → w ≡ width (form_of c.form)
    → length words ≡ widths (drop i (columns_view columns))
    → length (drop w words) ≡ widths (drop (i + 1) (columns_view columns))
rest_counted i columns c words w lt at v e =
    let h = width_at i columns c (length words) lt at e in length-drop w words ∙ omega (arith, h, v)

-- the references of a column are added
pub columns_step : (codes : Codes) (line i : ℕ) (columns : List CodeColumn) (c : CodeColumn)
    (words own left : List (List ℕ)) (w : ℕ) (refs new start : List Ref)
    → i < length columns → c ≡ get_or columns i c → w ≡ width (form_of c.form) → own ≡ take w words
    → left ≡ drop w words
    → new ≡ refs ++ column_refs codes line (i + 1) (referred_table (form_of c.form)) own
    → refs ++ columns_refs codes line (i + 1) (drop i (columns_view columns)) words ≡ start
    → new ++ columns_refs codes line (i + 1 + 1) (drop (i + 1) (columns_view columns)) left ≡ start
columns_step codes line i columns c words own left w refs new start lt at v o l n inv =
    let s = split column_view i columns c lt at in
    let rest = columns_refs codes line (i + 1 + 1) (drop (i + 1) (columns_view columns)) in
    let first = column_refs codes line (i + 1) (referred_table (form_of c.form)) in
    ap (λ (fs : List Ref). fs ++ rest left) n ∙ append_assoc refs (first own) (rest left)
    ∙ ap (λ (ws : List (List ℕ)). refs ++ (first ws ++ rest left)) o
    ∙ ap (λ (ws : List (List ℕ)). refs ++ (first (take w words) ++ rest ws)) l
    ∙ ap (λ (u : ℕ). refs ++ (first (take u words) ++ rest (drop u words))) v
    ∙ ap (λ (cs : List Column). refs ++ columns_refs codes line (i + 1) cs words) (sym s.0) ∙ inv
