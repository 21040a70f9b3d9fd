-- The findings of rows that come one after another.
use Rattle.std.proofs.Common.{◌≡◌, ℕ, zero, suc, ◌+◌, ◌<◌, ◌≤◌, Bool, true, false, cond, nat_eq}
use Rattle.std.proofs.Common.{List, [], ◌∷◌, ◌++◌, map, Option, Some, None, refl, sym, ap, ◌∙◌}
use Rattle.std.proofs.Common.{arith, append_assoc, append-nil}
use Rattle.std.specs.Prelude.{slice_get}
use Rattle.std.specs.List.{flat_map}
use Rattle.std.proofs.lemmas.Bool.{eqb-true, eqb-false}
use Rattle.ili_grammar.specs.Syntax.{Codes}
use Rattle.itf_lines.specs.LogicalLines.{LogicalLine}
use Rattle.table_layout.specs.Layouts.{Table, Layout}
use Rattle.itf_reader.specs.ClosedRows.{of_table, by_table, by_table_from, closed_rows}
use Rattle.itf_reader.specs.Findings.{Finding, in_order}
use Rattle.itf_reader.specs.Forms.{Row}
use Rattle.itf_reader.specs.Layouts.{form_of, wanted_of}
use Rattle.itf_reader.specs.RowFindings.{row_findings}
use Rattle.domain_rules.specs.FedFindings.{fed_from, fed_findings, no_findings, with_findings}
use Rattle.domain_rules.specs.FedFindings.{all_findings}
use Rattle.domain_rules.specs.ValueFindings.{table_findings, tables_findings, value_findings}

none_from : (codes : Codes) (n : ℕ) (ts : List Table) → fed_from codes n ts [] ≡ map no_findings ts
none_from codes n [] = refl
none_from codes n (t ∷ ts) = ap (λ (fs : List (List Finding)). [] ∷ fs) (none_from codes (n + 1) ts)

pub none_fed : (l : Layout) → fed_findings l [] ≡ map no_findings l.tables
none_fed l = none_from l.codes 0 l.tables

-- ---- one more row
same : (q n : ℕ) → q ≡ n → nat_eq q n ≡ true
same q n e = ap (λ (m : ℕ). nat_eq q m) (sym e) ∙ grind arith

apart : (q n : ℕ) → (q ≡ n → ⊥) → (b : Bool) → nat_eq q n ≡ b → b ≡ false
apart q n h true e = absurd (h (eqb-true q n e))
apart q n h false e = refl

of_own : (n : ℕ) (rows : List (ℕ × Row)) (q : ℕ) (r : Row) → q ≡ n
    → of_table n (rows ++ (q, r) ∷ []) ≡ of_table n rows ++ r ∷ []
of_own n [] q r e = ap (λ (b : Bool). cond b (r ∷ []) []) (same q n e)
of_own n (p ∷ rows) q r e =
    elim (nat_eq p.0 n) as
    (λ b. cond b (p.1 ∷ of_table n (rows ++ (q, r) ∷ [])) (of_table n (rows ++ (q, r) ∷ []))
    ≡ cond b (p.1 ∷ of_table n rows) (of_table n rows) ++ r ∷ [])
    [ true ↦ ap (λ (l : List Row). p.1 ∷ l) (of_own n rows q r e) | false ↦ of_own n rows q r e ]

of_other : (n : ℕ) (rows : List (ℕ × Row)) (q : ℕ) (r : Row) → (q ≡ n → ⊥)
    → of_table n (rows ++ (q, r) ∷ []) ≡ of_table n rows
of_other n [] q r h = ap (λ (b : Bool). cond b (r ∷ []) []) (apart q n h (nat_eq q n) refl)
of_other n (p ∷ rows) q r h =
    elim (nat_eq p.0 n) as
    (λ b. cond b (p.1 ∷ of_table n (rows ++ (q, r) ∷ [])) (of_table n (rows ++ (q, r) ∷ []))
    ≡ cond b (p.1 ∷ of_table n rows) (of_table n rows)) [
      | true ↦ ap (λ (l : List Row). p.1 ∷ l) (of_other n rows q r h)
      | false ↦ of_other n rows q r h
    ]

findings_more : (codes : Codes) (t : Table) (rows : List Row) (r : Row)
    → table_findings codes t (rows ++ r ∷ [])
    ≡ table_findings codes t rows ++ row_findings codes t r
findings_more codes t [] r = append-nil (row_findings codes t r)
findings_more codes t (x ∷ rows) r =
    ap (λ (fs : List Finding). row_findings codes t x ++ fs) (findings_more codes t rows r)
    ∙ sym (append_assoc (row_findings codes t x) (table_findings codes t rows)
    (row_findings codes t r))

behind : (codes : Codes) (n : ℕ) (ts : List Table) (rows : List (ℕ × Row)) (q : ℕ) (r : Row) → q < n
    → fed_from codes n ts (rows ++ (q, r) ∷ []) ≡ fed_from codes n ts rows
behind codes n [] rows q r lt = refl
behind codes n (t ∷ ts) rows q r lt =
    ap (λ (l : List Row). table_findings codes t l
    ∷ fed_from codes (n + 1) ts (rows ++ (q, r) ∷ []))
    (of_other n rows q r (λ e. absurd (omega (arith, e, lt))))
    ∙ ap (λ (fs : List (List Finding)). table_findings codes t (of_table n rows) ∷ fs)
    (behind codes (n + 1) ts rows q r (omega (arith, lt)))

row_from : (codes : Codes) (place n : ℕ) (ts : List Table) (rows : List (ℕ × Row)) (q : ℕ)
    (t : Table) (r : Row)
    → q ≡ n + place → slice_get ts place ≡ Some t
    → fed_from codes n ts (rows ++ (q, r) ∷ [])
    ≡ with_findings place (row_findings codes t r) (fed_from codes n ts rows)
row_from codes place n [] rows q t r e at = refl
row_from codes zero n (u ∷ ts) rows q t r e at =
    ap (λ (l : List Row). table_findings codes u l
    ∷ fed_from codes (n + 1) ts (rows ++ (q, r) ∷ [])) (of_own n rows q r (omega (arith, e)))
    ∙ ap (λ (fs : List Finding). fs ∷ fed_from codes (n + 1) ts (rows ++ (q, r) ∷ []))
    (findings_more codes u (of_table n rows) r)
    ∙ ap (λ (x : Table). (table_findings codes u (of_table n rows) ++ row_findings codes x r)
    ∷ fed_from codes (n + 1) ts (rows ++ (q, r) ∷ [])) (the_same u t at)
    ∙ ap (λ (fs : List (List Finding)).
    (table_findings codes u (of_table n rows) ++ row_findings codes t r) ∷ fs)
    (behind codes (n + 1) ts rows q r (omega (arith, e)))
  where
    the_same : (u t : Table) → Some u ≡ Some t → u ≡ t
    the_same u t e = cc
row_from codes (suc place) n (u ∷ ts) rows q t r e at =
    ap (λ (l : List Row). table_findings codes u l
    ∷ fed_from codes (n + 1) ts (rows ++ (q, r) ∷ []))
    (of_other n rows q r (λ h. absurd (omega (arith, e, h))))
    ∙ ap (λ (fs : List (List Finding)). table_findings codes u (of_table n rows) ∷ fs)
    (row_from codes place (n + 1) ts rows q t r (omega (arith, e)) at)

pub row_fed : (l : Layout) (rows : List (ℕ × Row)) (n : ℕ) (t : Table) (r : Row)
    → slice_get l.tables n ≡ Some t
    → fed_findings l (rows ++ (n, r) ∷ [])
    ≡ with_findings n (row_findings l.codes t r) (fed_findings l rows)
row_fed l rows n t r at = row_from l.codes n 0 l.tables rows n t r (omega arith) at

-- ---- all rows
all_from : (codes : Codes) (n : ℕ) (ts : List Table) (rows : List (ℕ × Row))
    → tables_findings codes ts (by_table_from n (map wanted_of ts) rows)
    ≡ all_findings (fed_from codes n ts rows)
all_from codes n [] rows = refl
all_from codes n (t ∷ ts) rows =
    ap (λ (fs : List Finding). table_findings codes t (of_table n rows) ++ fs)
    (all_from codes (n + 1) ts rows)

pub all_fed : (l : Layout) (lines : List LogicalLine) (transfer : List (List Row))
    → transfer ≡ by_table (form_of l) (closed_rows (form_of l) lines)
    → value_findings l transfer ≡ in_order
    (all_findings (fed_findings l (closed_rows (form_of l) lines)))
all_fed l lines transfer e =
    ap (λ (rows : List (List Row)). value_findings l rows) e
    ∙ ap in_order (all_from l.codes 0 l.tables (closed_rows (form_of l) lines))
