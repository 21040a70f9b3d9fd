-- Tables with their rows, one pair after the other.
use Rattle.std.proofs.Common.{◌≡◌, ◌⊎◌, inl, inr, ℕ, List, [], ◌∷◌, ◌++◌, refl, ◌∙◌, sym, ap, subst}
use Rattle.std.proofs.Common.{append-nil, append_assoc}
use Rattle.std.specs.List.{All}
use Rattle.std.proofs.lemmas.List.Elements.{All-head, All-tail}
use Rattle.ili_grammar.specs.Syntax.{Codes}
use Rattle.table_layout.specs.declared.layouts.Table.{Table}
use Rattle.table_layout.specs.Values.{table_view, tables_view}
use Rattle.itf_reader.specs.declared.transfer.Row.{Row}
use Rattle.itf_reader.specs.declared.transfer.TableRows.{TableRows}
use Rattle.itf_reader.specs.Few.{HasFew}
use Rattle.itf_reader.specs.Findings.{Finding}
use Rattle.itf_reader.specs.Views.{rows_of, tables_rows_of}
use Rattle.domain_rules.specs.ValueFindings.{table_findings, tables_findings}

-- nothing is left to be found
pub all_found : (found left all : List Finding) → left ≡ [] → found ++ left ≡ all → found ≡ all
all_found found left all e h = sym (append-nil found)
    ∙ (ap (λ (s : List Finding). found ++ s) (sym e) ∙ h)

pub tables_end : (codes : Codes) (ts : List Table) (transfer : List TableRows)
    → (ts ≡ []) ⊎ (transfer ≡ [])
    → tables_findings codes (tables_view ts) (tables_rows_of transfer) ≡ []
tables_end codes [] transfer h = refl
tables_end codes (t ∷ ts) [] h = refl
tables_end codes (t ∷ ts) (r ∷ transfer) (inl h) = cc
tables_end codes (t ∷ ts) (r ∷ transfer) (inr h) = cc

-- each table has few, the first one and those after it
pub first_few : (all : List Table) (t : Table) (ts : List Table) → all ≡ t ∷ ts
    → All HasFew (tables_view all) → HasFew (table_view t)
first_few all t ts e h =
    All-head HasFew (table_view t) (tables_view ts)
    (subst (λ (s : List Table). All HasFew (tables_view s)) e h)

pub others_few : (all : List Table) (t : Table) (ts : List Table) → all ≡ t ∷ ts
    → All HasFew (tables_view all) → All HasFew (tables_view ts)
others_few all t ts e h =
    All-tail HasFew (table_view t) (tables_view ts)
    (subst (λ (s : List Table). All HasFew (tables_view s)) e h)

-- the rows of the first table are judged
pub tables_step : (codes : Codes) (all : List Table) (t : Table) (ts : List Table)
    (whole : List TableRows) (r : TableRows) (transfer : List TableRows) (rows : List Row)
    (found more result : List Finding)
    → all ≡ t ∷ ts → whole ≡ r ∷ transfer → rows ≡ r.rows.items
    → more ≡ found ++ table_findings codes (table_view t) (rows_of rows)
    → found ++ tables_findings codes (tables_view all) (tables_rows_of whole) ≡ result
    → more ++ tables_findings codes (tables_view ts) (tables_rows_of transfer) ≡ result
tables_step codes all t ts whole r transfer rows found more result e f g h k =
    let same : tables_findings codes (tables_view all) (tables_rows_of whole)
    ≡ table_findings codes (table_view t) (rows_of rows)
    ++ tables_findings codes (tables_view ts) (tables_rows_of transfer) = rw (e, f, g) refl in
    rw (h, append_assoc, ← same) k
