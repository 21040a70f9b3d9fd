-- Rows that are added to what is kept, one by one.
use Rattle.std.proofs.Common.{◌≡◌, ℕ, zero, suc, ◌+◌, ◌<◌, ◌≤◌, List, [], ◌∷◌, length, map, drop}
use Rattle.std.proofs.Common.{get_or, set, refl, sym, ap, ◌∙◌, arith}
use Rattle.std.proofs.lemmas.List.{length-map}
use Rattle.itf_reader.specs.declared.transfer.Row.{Row as CodeRow}
use Rattle.itf_reader.specs.declared.transfer.TableRows.{TableRows as CodeTableRows}
use Rattle.itf_reader.specs.Forms.{Row}
use Rattle.itf_reader.specs.Views.{row_of, rows_of, table_rows_of, tables_rows_of}
use Rattle.ident_refs.specs.declared.table_keys.TableKeys.{TableKeys}
use Rattle.ident_refs.specs.FedRows.{row_at, fed_rows, fed_tables}
use Rattle.ident_refs.specs.KeptRows.{Kept, with_row}
use Rattle.ident_refs.specs.KeptViews.{kept_view, all_kept_view}
use Rattle.ident_refs.proofs.Splits.{split}

-- ---- rows of tables
pub row_set : (tables : List TableKeys) (place : ℕ) (d new : TableKeys) (r : Row)
    → place < length tables → kept_view new ≡ with_row r (kept_view (get_or tables place d))
    → all_kept_view (set tables place new) ≡ row_at place r (all_kept_view tables)
row_set [] place d new r lt n = absurd (omega (arith, lt))
row_set (y ∷ tables) zero d new r lt n = ap (λ (k : Kept). k ∷ all_kept_view tables) n
row_set (y ∷ tables) (suc place) d new r lt n =
    ap (λ (ks : List Kept). kept_view y ∷ ks) (row_set tables place d new r (omega (arith, lt)) n)

pub row_beyond : (tables : List TableKeys) (place : ℕ) (r : Row) → length tables ≤ place
    → all_kept_view tables ≡ row_at place r (all_kept_view tables)
row_beyond [] place r le = refl
row_beyond (y ∷ tables) zero r le = absurd (omega (arith, le))
row_beyond (y ∷ tables) (suc place) r le =
    ap (λ (ks : List Kept). kept_view y ∷ ks) (row_beyond tables place r (omega (arith, le)))

pub rows_step : (place i : ℕ) (rows : List CodeRow) (r : CodeRow) (ks new start : List Kept)
    → i < length rows → r ≡ get_or rows i r → new ≡ row_at place (row_of r) ks
    → fed_rows place (drop i (rows_of rows)) ks ≡ start
    → fed_rows place (drop (i + 1) (rows_of rows)) new ≡ start
rows_step place i rows r ks new start lt at n inv =
    ap (fed_rows place (drop (i + 1) (rows_of rows))) n
    ∙ ap (λ (l : List Row). fed_rows place l ks) (sym (split row_of i rows r lt at).0) ∙ inv

pub tables_step : (i : ℕ) (tables : List CodeTableRows) (t : CodeTableRows)
    (ks new start : List Kept)
    → i < length tables → t ≡ get_or tables i t → new ≡ fed_rows i (table_rows_of t) ks
    → fed_tables i (drop i (tables_rows_of tables)) ks ≡ start
    → fed_tables (i + 1) (drop (i + 1) (tables_rows_of tables)) new ≡ start
tables_step i tables t ks new start lt at n inv =
    ap (fed_tables (i + 1) (drop (i + 1) (tables_rows_of tables))) n
    ∙ ap (λ (l : List (List Row)). fed_tables i l ks) (sym (split table_rows_of i tables t lt at).0)
    ∙ inv

-- ---- what two lists have at one place
pub same_at : {X Y W Z : Type 0} (f : X → Z) (h : Y → W) (g : W → Z) (xs : List X) (ys : List Y)
    (i : ℕ) (x : X) (y : Y)
    → i < length ys → x ≡ get_or xs i x → y ≡ get_or ys i y
    → map f xs ≡ map g (map h ys) → f x ≡ g (h y)
same_at f h g [] [] i x y lt at at2 e = absurd (omega (arith, lt))
same_at f h g [] (b ∷ ys) i x y lt at at2 e = absurd cc
same_at f h g (a ∷ xs) [] i x y lt at at2 e = absurd cc
same_at f h g (a ∷ xs) (b ∷ ys) zero x y lt at at2 e =
    ap f at ∙ (let k : f a ≡ g (h b) = cc in k) ∙ sym (ap (λ z. g (h z)) at2)
same_at f h g (a ∷ xs) (b ∷ ys) (suc i) x y lt at at2 e =
    same_at f h g xs ys i x y (omega (arith, lt)) at at2
    (let k : map f xs ≡ map g (map h ys) = cc in k)

pub counted_too : {X Y W Z : Type 0} (f : X → Z) (h : Y → W) (g : W → Z) (xs : List X) (ys : List Y)
    (i : ℕ)
    → i < length ys → map f xs ≡ map g (map h ys) → i < length xs
counted_too f h g xs ys i lt e =
    let a = length-map xs f in let b = length-map (map h ys) g in let c = length-map ys h in
    let d = ap (λ l. length l) e in
    omega (arith, a, b, c, d, lt)
