-- The rows that came by their tables, one row more.
use Rattle.std.proofs.Common.{◌≡◌, ℕ, zero, suc, ◌+◌, ◌<◌, Bool, true, false, cond, nat_eq}
use Rattle.std.proofs.Common.{List, [], ◌∷◌, ◌++◌, refl, sym, ap, ◌∙◌, arith}
use Rattle.std.proofs.lemmas.Bool.{eqb-true}
use Rattle.itf_reader.specs.ClosedRows.{of_table, by_table_from, by_table}
use Rattle.itf_reader.specs.Forms.{Form, Row}
use Rattle.itf_reader.specs.Forms as forms
use Rattle.itf_writer.specs.Feeds.{with_row_at}

-- ---- the rows of one table
of_own : (n : ℕ) (rows : List (ℕ × Row)) (q : ℕ) (r : Row) → q ≡ n
    → of_table n (rows ++ (q, r) ∷ []) ≡ of_table n rows ++ r ∷ []
of_own n [] q r e = ap (λ (b : Bool). cond b (r ∷ []) []) (same q n e)
  where
    same : (q n : ℕ) → q ≡ n → nat_eq q n ≡ true
    same q n e = ap (λ (m : ℕ). nat_eq q m) (sym e) ∙ grind arith
of_own n (p ∷ rows) q r e =
    elim (nat_eq p.0 n) as
    (λ b. cond b (p.1 ∷ of_table n (rows ++ (q, r) ∷ [])) (of_table n (rows ++ (q, r) ∷ []))
    ≡ cond b (p.1 ∷ of_table n rows) (of_table n rows) ++ r ∷ [])
    [ true ↦ ap (λ (l : List Row). p.1 ∷ l) (of_own n rows q r e) | false ↦ of_own n rows q r e ]

of_other : (n : ℕ) (rows : List (ℕ × Row)) (q : ℕ) (r : Row) → (q ≡ n → ⊥)
    → of_table n (rows ++ (q, r) ∷ []) ≡ of_table n rows
of_other n [] q r h = ap (λ (b : Bool). cond b (r ∷ []) []) (apart (nat_eq q n) refl)
  where
    apart : (b : Bool) → nat_eq q n ≡ b → b ≡ false
    apart true e = absurd (h (eqb-true q n e))
    apart false e = refl
of_other n (p ∷ rows) q r h =
    elim (nat_eq p.0 n) as
    (λ b. cond b (p.1 ∷ of_table n (rows ++ (q, r) ∷ [])) (of_table n (rows ++ (q, r) ∷ []))
    ≡ cond b (p.1 ∷ of_table n rows) (of_table n rows)) [
      | true ↦ ap (λ (l : List Row). p.1 ∷ l) (of_other n rows q r h)
      | false ↦ of_other n rows q r h
    ]

-- ---- the rows of all tables
behind : (n : ℕ) (ts : List forms.Table) (rows : List (ℕ × Row)) (q : ℕ) (r : Row) → q < n
    → by_table_from n ts (rows ++ (q, r) ∷ []) ≡ by_table_from n ts rows
behind n [] rows q r lt = refl
behind n (t ∷ ts) rows q r lt =
    ap (λ (l : List Row). l ∷ by_table_from (n + 1) ts (rows ++ (q, r) ∷ []))
    (of_other n rows q r (λ e. absurd (omega (arith, e, lt))))
    ∙ ap (λ (ls : List (List Row)). of_table n rows ∷ ls)
    (behind (n + 1) ts rows q r (omega (arith, lt)))

row_from : (place n : ℕ) (ts : List forms.Table) (rows : List (ℕ × Row)) (q : ℕ) (r : Row)
    → q ≡ n + place
    → by_table_from n ts (rows ++ (q, r) ∷ []) ≡ with_row_at place r (by_table_from n ts rows)
row_from place n [] rows q r e = refl
row_from zero n (t ∷ ts) rows q r e =
    ap (λ (l : List Row). l ∷ by_table_from (n + 1) ts (rows ++ (q, r) ∷ []))
    (of_own n rows q r (omega (arith, e)))
    ∙ ap (λ (ls : List (List Row)). (of_table n rows ++ r ∷ []) ∷ ls)
    (behind (n + 1) ts rows q r (omega (arith, e)))
row_from (suc place) n (t ∷ ts) rows q r e =
    ap (λ (l : List Row). l ∷ by_table_from (n + 1) ts (rows ++ (q, r) ∷ []))
    (of_other n rows q r (λ h. absurd (omega (arith, e, h))))
    ∙ ap (λ (ls : List (List Row)). of_table n rows ∷ ls)
    (row_from place (n + 1) ts rows q r (omega (arith, e)))

pub row_came : (f : Form) (n : ℕ) (rows : List (ℕ × Row)) (r : Row)
    → by_table f (rows ++ (n, r) ∷ []) ≡ with_row_at n r (by_table f rows)
row_came f n rows r = row_from n 0 f.tables rows n r (omega arith)
