-- The points that are kept of a column are those that its rows have there, by what links ask.
use Rattle.std.proofs.Common.{◌≡◌, ℕ, zero, suc, ◌+◌, Bool, true, false, ◌&&◌, ◌||◌, nat_eq, List}
use Rattle.std.proofs.Common.{[], ◌∷◌, ◌++◌, take, drop, Option, Some, None, Result, Ok, Err}
use Rattle.std.proofs.Common.{refl, sym, ap, ◌∙◌, subst, arith, if◌then◌else◌}
use Rattle.std.specs.Prelude.{◌-◌, ◌==◌, option_and_then, slice_get}
use Rattle.std.proofs.lemmas.Bool.Decides.{nat_tests}
use Rattle.std.specs.List.{flat_map, list_all, list_any}
use Rattle.std.specs.Option.{option_map, option_to_list}
use Rattle.std.proofs.lemmas.Bool.{eqb-true, eqb-false}
use Rattle.ili_grammar.specs.Syntax.{Codes}
use Rattle.resolver.specs.Resolved.{AreaPoint, Coord2, Form, Reference, Window}
use Rattle.table_layout.specs.Layouts.{Column, Table}
use Rattle.field_values.specs.declared.value.ValueFault.{ValueFault}
use Rattle.field_values.specs.declared.value.ValueFault.TheVariants.{Undefined as UndefinedFault}
use Rattle.field_values.specs.Fields.{is_undefined, value_fault, width}
use Rattle.field_values.specs.Readings.{Value, Numbers, Bytes, reading, value_of, column_reading}
use Rattle.itf_reader.specs.Forms.{Row}
use Rattle.itf_reader.specs.RowFindings.{is_counted}
use Rattle.itf_reader.specs.RowReadings.{Undefined, cell_by, cell_of, cells_of}
use Rattle.plane.specs.declared.kinds.Placed.{Placed}
use Rattle.plane.specs.declared.kinds.Point.{Point}
use Rattle.area_drawings.specs.KeptPoints.{cell_points, points_in_column, points_kept}
use Rattle.area_drawings.specs.KeptPoints.{row_points}
use Rattle.area_links.specs.Pairs.{Words, point_of, row_point, words_at}
use Rattle.delivery.specs.LinkRows.{is_point, is_reference, link_points}
use Rattle.delivery.specs.LinkRows.{point_columns}
use Rattle.delivery.proofs.JoinedPairs.{all_placed, lined}

-- ---- a column
-- the words of a later column
pub words_next : (b : Column) (cs : List Column) (k : ℕ) (words : List (List ℕ))
    → words_at (b ∷ cs) (suc k) words ≡ words_at cs k (drop (width b.form) words)
words_next b cs k words =
    ap (λ (x : Bool). if x then Some (record { column = b; words = take (width b.form) words })
    else words_at cs (suc k - 1) (drop (width b.form) words)) (later k)
    ∙ ap (λ (n : ℕ). words_at cs n (drop (width b.form) words))
    (let z : suc k - 1 ≡ k = omega arith in z)
  where
    later : (k : ℕ) → (suc k == 0) ≡ false
    later k = grind (arith, nat_tests)

abbrev at_line : ℕ → Option Point → List Placed
at_line line o = option_to_list (option_map (λ (p : Point). record { at = p; line = line }) o)

value_is : (line : ℕ) (r : Result Value ValueFault)
    → cell_points line (Some (cell_by r)) ≡ at_line line (point_of r)
value_is line (Err f) = refl
value_is line (Ok (Bytes w)) = refl
value_is line (Ok (Numbers [])) = refl
value_is line (Ok (Numbers (x ∷ []))) = refl
value_is line (Ok (Numbers (x ∷ y ∷ []))) = refl
value_is line (Ok (Numbers (x ∷ y ∷ z ∷ ns))) = refl

-- a form whose values are numbers
abbrev pub IsOnAxes : Form → Type 0
IsOnAxes form = value_of form [] ≡ Numbers []

module _ (codes : Codes) (line : ℕ) where
  no_words : (form : Form) → IsOnAxes form
      → [] ≡ at_line line (point_of (column_reading form codes []))
  no_words form e =
      by (value_fault form [])
      ∙ ap (λ (v : Value). at_line line (point_of (reading (value_fault form []) v))) (sym e)
    where
      by : (o : Option ValueFault) → [] ≡ at_line line (point_of (reading o (Numbers [])))
      by None = refl
      by (Some f) = refl

  of_undefined : (b : Bool) (o : Option ValueFault) (v : Value) → b ≡ true
      → [] ≡ at_line line (point_of (reading (if b then Some UndefinedFault else o) v))
  of_undefined true o v h = refl
  of_undefined false o v h = absurd (cc)

  either : (a b c : Bool) → (a && b) ≡ true → (a || c) ≡ true
  either true b c h = refl
  either false b c h = absurd (cc)

  undefined_words : (form : Form) (words : List (List ℕ)) → IsOnAxes form
      → list_all (is_undefined codes) words ≡ true
      → [] ≡ at_line line (point_of (column_reading form codes words))
  undefined_words form [] e h = no_words form e
  undefined_words form (w ∷ ws) e h =
      of_undefined (list_any (is_undefined codes) (w ∷ ws)) (value_fault form (w ∷ ws))
      (value_of form (w ∷ ws))
      (either (is_undefined codes w) (list_all (is_undefined codes) ws)
      (list_any (is_undefined codes) ws) h)

  point_of_cell : (c : Column) (words : List (List ℕ)) → IsOnAxes c.form
      → cell_points line (Some (cell_of codes c words))
      ≡ at_line line (point_of (column_reading c.form codes words))
  point_of_cell c words e = by c.optional (list_all (is_undefined codes) words) refl
    where
      by : (a b : Bool) → list_all (is_undefined codes) words ≡ b
          → cell_points line (Some (if a && b then Undefined
          else cell_by (column_reading c.form codes words)))
          ≡ at_line line (point_of (column_reading c.form codes words))
      by true true h = undefined_words c.form words e h
      by true false h = value_is line (column_reading c.form codes words)
      by false b h = value_is line (column_reading c.form codes words)

  abbrev read_words : Words → Option Point
  read_words w = point_of (column_reading w.column.form codes w.words)

  same : (b c : Column) → Some b ≡ Some c → c ≡ b
  same b c e = cc

  point_at_column : (cs : List Column) (k : ℕ) (c : Column) (words : List (List ℕ))
      → slice_get cs k ≡ Some c → IsOnAxes c.form
      → cell_points line (slice_get (cells_of codes cs words) k)
      ≡ at_line line (option_and_then read_words (words_at cs k words))
  point_at_column [] k c words g e = absurd (cc)
  point_at_column (b ∷ cs) zero c words g e =
      point_of_cell b (take (width b.form) words)
      (subst (λ (x : Column). IsOnAxes x.form) (same b c g) e)
  point_at_column (b ∷ cs) (suc k) c words g e =
      point_at_column cs k c (drop (width b.form) words) g e
      ∙ sym (ap (λ (o : Option Words). at_line line (option_and_then read_words o))
      (words_next b cs k words))

-- ---- a row
pub row_points_are : (codes : Codes) (t : Table) (k : ℕ) (c : Column)
    → slice_get t.columns k ≡ Some c → IsOnAxes c.form → (r : Row)
    → row_points codes t k r ≡ option_to_list (option_map (lined r) (row_point codes t k r))
row_points_are codes t k c g e r = by (is_counted t r)
  where
    by : (b : Bool)
        → cell_points r.line
        (slice_get (if b then cells_of codes t.columns (drop 1 r.fields) else []) k)
        ≡ at_line r.line (option_and_then (read_words codes r.line)
        (if b then words_at t.columns k (drop 1 r.fields) else None))
    by true = point_at_column codes r.line t.columns k c (drop 1 r.fields) g e
    by false = refl

flat_each : {X Y : Type 0} (f g : X → List Y) → ((x : X) → f x ≡ g x) → (xs : List X)
    → flat_map f xs ≡ flat_map g xs
flat_each f g h [] = refl
flat_each f g h (x ∷ xs) =
    ap (λ l. l ++ flat_map f xs) (h x) ∙ ap (λ l. g x ++ l) (flat_each f g h xs)

pub points_are : (codes : Codes) (t : Table) (k : ℕ) (c : Column)
    → slice_get t.columns k ≡ Some c → IsOnAxes c.form → (rows : List Row)
    → flat_map (row_points codes t k) rows ≡ all_placed (row_point codes t k) rows
points_are codes t k c g e rows =
    flat_each (row_points codes t k)
    (λ r. option_to_list (option_map (lined r) (row_point codes t k r)))
    (row_points_are codes t k c g e) rows

pub coordinate : (form : Form) (w : Window) → form ≡ Coord2 w → IsOnAxes form
coordinate form w e = subst IsOnAxes (sym e) refl

pub area_point : (form : Form) (w : Window) → form ≡ AreaPoint w → IsOnAxes form
area_point form w e = subst IsOnAxes (sym e) refl

-- ---- the columns that are asked
some_reference : (cs : List Column) (k : ℕ) (c : Column) (m : ℕ) → slice_get cs k ≡ Some c
    → c.form ≡ Reference m → list_any (λ (x : Column). is_reference x.form) cs ≡ true
some_reference [] k c m g e = absurd (cc)
some_reference (b ∷ cs) zero c m g e =
    ap (λ (x : Bool). x || list_any (λ (y : Column). is_reference y.form) cs)
    (ap (λ (x : Column). is_reference x.form) (own b c g) ∙ ap is_reference e)
  where
    own : (b c : Column) → Some b ≡ Some c → b ≡ c
    own b c e = cc
some_reference (b ∷ cs) (suc k) c m g e =
    ap (λ (x : Bool). is_reference b.form || x) (some_reference cs k c m g e)
    ∙ at_end (is_reference b.form)
  where
    at_end : (x : Bool) → (x || true) ≡ true
    at_end true = refl
    at_end false = refl

module _ (codes : Codes) (t : Table) (rows : List Row) where
  abbrev found : ℕ → List ℕ → List Placed
  found k numbers = points_in_column k (points_kept codes t numbers rows)

  abbrev own : ℕ → List Placed
  own k = flat_map (row_points codes t k) rows

  not_here : (n k : ℕ) (numbers : List ℕ) → (n ≡ k → ⊥) → found k (n ∷ numbers) ≡ found k numbers
  not_here n k numbers h = by (nat_eq n k) refl
    where
      by : (b : Bool) → nat_eq n k ≡ b → (if b then own n else found k numbers) ≡ found k numbers
      by true e = absurd (h (eqb-true n k e))
      by false e = refl

  here : (n k : ℕ) (numbers : List ℕ) → n ≡ k → found k (n ∷ numbers) ≡ own k
  here n k numbers h = by (nat_eq n k) refl
    where
      by : (b : Bool) → nat_eq n k ≡ b → (if b then own n else found k numbers) ≡ own k
      by true e = ap own h
      by false e = absurd (eqb-false n k e h)

  asked_at : (n i : ℕ) (cs : List Column) (c : Column) → slice_get cs i ≡ Some c
      → is_point c.form ≡ true → found (n + i) (point_columns n cs) ≡ own (n + i)
  asked_at n i [] c e a = absurd (cc)
  asked_at n zero (b ∷ cs) c e a =
      let z : n ≡ n + 0 = omega arith in
      ap (λ (x : Bool). found (n + 0) (if x then n ∷ point_columns (n + 1) cs
      else point_columns (n + 1) cs)) (ap (λ (x : Column). is_point x.form) (same_one b c e) ∙ a)
      ∙ here n (n + 0) (point_columns (n + 1) cs) z
    where
      same_one : (b c : Column) → Some b ≡ Some c → b ≡ c
      same_one b c e = cc
  asked_at n (suc i) (b ∷ cs) c e a =
      passed (is_point b.form)
      (subst (λ (m : ℕ). found m (point_columns (n + 1) cs) ≡ own m)
      (let s : n + 1 + i ≡ n + suc i = omega arith in s) (asked_at (n + 1) i cs c e a))
    where
      passed : (x : Bool) → found (n + suc i) (point_columns (n + 1) cs) ≡ own (n + suc i)
          → found (n + suc i) (if x then n ∷ point_columns (n + 1) cs
          else point_columns (n + 1) cs) ≡ own (n + suc i)
      passed true h =
          not_here n (n + suc i) (point_columns (n + 1) cs) (λ q. absurd (omega (arith, q))) ∙ h
      passed false h = h

  -- the points in a column that a rule names
  pub column_linked : (k : ℕ) (c : Column) (w : Window) (i m : ℕ) (d : Column)
      → slice_get t.columns k ≡ Some c → c.form ≡ Coord2 w → slice_get t.columns i ≡ Some d
      → d.form ≡ Reference m
      → points_in_column k (link_points codes t rows) ≡ all_placed (row_point codes t k) rows
  column_linked k c w i m d g e h f =
      ap (λ (b : Bool). found k (if b then point_columns 0 t.columns else []))
      (some_reference t.columns i d m h f)
      ∙ subst (λ (j : ℕ). found j (point_columns 0 t.columns) ≡ own j)
      (let z : 0 + k ≡ k = omega arith in z)
      (asked_at 0 k t.columns c g (ap is_point e))
      ∙ points_are codes t k c g (coordinate c.form w e) rows
