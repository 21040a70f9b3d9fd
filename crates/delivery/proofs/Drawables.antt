-- The forms of an area of a valid layout, and places of rows without findings.
use Rattle.std.proofs.Common.{◌≡◌, inl, inr, ℕ, zero, suc, ◌+◌, ◌<◌, Bool, true, false, ◌&&◌, ◌||◌}
use Rattle.std.proofs.Common.{List, [], ◌∷◌, ◌++◌, length, take, drop, map, get_or, Option, Some}
use Rattle.std.proofs.Common.{None, Ok, refl, sym, ap, ◌∙◌, subst}
use Rattle.std.specs.Prelude.{slice_get, slice_index_or, if◌then◌else◌}
use Rattle.std.specs.List.{All, list_any, list_all}
use Rattle.std.specs.Option.{option_map}
use Rattle.std.proofs.lemmas.List.{drop-drop}
use Rattle.std.proofs.lemmas.List.Elements.{All-nil, All-cons}
use Rattle.std.proofs.lemmas.Option.{slice_get_within, slice_get_read, slice_get-map}
use Rattle.std.proofs.lemmas.Option.{get_or_from_slice_get}
use Rattle.ili_grammar.specs.Syntax.{Codes}
use Rattle.resolver.specs.Resolved.{Form, AreaPoint, Window}
use Rattle.table_layout.specs.Layouts.{Column, Table, AreaOf, Layout}
use Rattle.table_layout.specs.Values.{area_view, areas_view}
use Rattle.table_layout.specs.declared.layouts.AreaOf as area
use Rattle.table_layout.specs.Valid.{IsValid, IsArea, IsAreaTable, IsTable, IsRole}
use Rattle.field_values.specs.declared.value.ValueFault.{ValueFault}
use Rattle.field_values.specs.declared.value.ValueFault.TheVariants.{Undefined}
use Rattle.field_values.specs.Fields.{is_undefined, field_fault, value_fault, width}
use Rattle.field_values.specs.Places.{Place, place_named}
use Rattle.field_values.specs.Readings.{Value, reading, value_of, column_reading}
use Rattle.itf_reader.specs.Forms.{Row}
use Rattle.itf_reader.specs.RowFindings.{widths}
use Rattle.domain_rules.specs.CleanPlaces as clean
use Rattle.domain_rules.specs.CleanPlaces.{HasPoint, HavePoints, HasPlaces, RowsHavePlaces}
use Rattle.domain_rules.specs.CleanPlaces.{HavePlaces}
use Rattle.plane.specs.Rule.Windows.{IsInside}
use Rattle.plane.specs.declared.kinds.Placed.{Placed}
use Rattle.plane.specs.declared.kinds.Point.{Point}
use Rattle.plane.specs.declared.window.Window2.{Window2}
use Rattle.itf_reader.specs.Findings.{is_before}
use Rattle.domain_rules.proofs.Places.{empty_both, unsorted, have_places}
use Rattle.domain_rules.specs.ValueFindings.{value_findings}
use Rattle.ident_refs.specs.KeyFindings.{key_findings}
use Rattle.delivery.specs.Judging.{IsClean}
use Rattle.area_drawings.specs.Drawings.{point_at, place_read, placed, points_at, first_word}
use Rattle.area_drawings.specs.Drawings.{words_at, lines_in, IsWindowOf}
use Rattle.area_drawings.specs.Drawable.{HasForms}
use Rattle.area_drawings.specs.KeptDrawings.{ArePointsIn}

-- ---- lists
pub all_at : {X : Type 0} (P : X → Type 0) (xs : List X) (i : ℕ) (x : X) → All P xs
    → slice_get xs i ≡ Some x → P x
all_at P xs i x h e = subst P (get_or_from_slice_get xs i x x e) (h i x (slice_get_within xs i x e))

pub drop_both : {X : Type 0} (n m : ℕ) (xs : List X) → drop (n + m) xs ≡ drop m (drop n xs)
drop_both n m xs = sym (drop-drop m n xs)

-- ---- the rows of a table
pub rows_at : (codes : Codes) (ts : List Table) (transfer : List (List Row)) (n : ℕ) (t : Table)
    → HavePlaces codes ts transfer → slice_get ts n ≡ Some t
    → RowsHavePlaces codes t (slice_index_or transfer n [])
rows_at codes [] transfer n t h e = absurd (cc)
rows_at codes (u ∷ ts) [] n t h e = tt
rows_at codes (u ∷ ts) (rows ∷ transfer) zero t h e =
    subst (λ (v : Table). RowsHavePlaces codes v rows) (same u t e) h.0
  where
    same : (u t : Table) → Some u ≡ Some t → u ≡ t
    same u t e = cc
rows_at codes (u ∷ ts) (rows ∷ transfer) (suc n) t h e = rows_at codes ts transfer n t h.1 e

pub all_rows : (codes : Codes) (t : Table) (rows : List Row) → RowsHavePlaces codes t rows
    → All (HasPlaces codes t) rows
all_rows codes t [] h = All-nil (HasPlaces codes t)
all_rows codes t (r ∷ rows) h = All-cons (HasPlaces codes t) r rows h.0 (all_rows codes t rows h.1)

-- ---- points
point_there : (codes : Codes) (cs : List Column) (k : ℕ) (c : Column) (words : List (List ℕ))
    → HavePoints codes cs words → slice_get cs k ≡ Some c
    → HasPoint codes c.optional c.form (take (width c.form) (drop (widths (take k cs)) words))
point_there codes [] k c words h e = absurd (cc)
point_there codes (b ∷ cs) zero c words h e =
    subst (λ (x : Column). HasPoint codes x.optional x.form (take (width x.form) words))
    (same b c e) h.0
  where
    same : (b c : Column) → Some b ≡ Some c → b ≡ c
    same b c e = cc
point_there codes (b ∷ cs) (suc k) c words h e =
    subst (λ (ws : List (List ℕ)). HasPoint codes c.optional c.form (take (width c.form) ws))
    (sym (drop_both (width b.form) (widths (take k cs)) words))
    (point_there codes cs k c (drop (width b.form) words) h.1 e)

pub in_window : (v : Window) (w : Window2) (p : Place) → IsWindowOf v w → clean.IsInside v p
    → IsInside w.low w.high (point_at p)
in_window v w p e h =
    subst (λ (q : Point). IsInside q w.high (point_at p)) (sym e.low)
    (subst (λ (q : Point). IsInside (record { x = v.x.low; y = v.y.low }) q (point_at p))
    (sym e.high)
    (record { left = h.west; right = h.east; bottom = h.south; top = h.north }))

-- what is said of no place, and of those of a value, is said of those that are read
read_as : (P : List Place → Type 0) (o : Option ValueFault) (v : Value) → P []
    → P (place_read (Ok v)) → P (place_read (reading o v))
read_as P None v h k = k
read_as P (Some f) v h k = h

abbrev are_in : Window2 → ℕ → List Place → Type 0
are_in w line ps = All (λ (p : Placed). IsInside w.low w.high p.at) (map (placed line) ps)

module _ (codes : Codes) (v : Window) (w : Window2) (line : ℕ) (e : IsWindowOf v w) where
  none_in : are_in w line []
  none_in = All-nil (λ (p : Placed). IsInside w.low w.high p.at)

  one_in : (p : Place) → clean.IsInside v p → are_in w line (p ∷ [])
  one_in p h =
      All-cons (λ (q : Placed). IsInside w.low w.high q.at) (placed line p) []
      (in_window v w p e h) none_in

  undefined_none : (optional : Bool) (x : List ℕ) (words : List (List ℕ))
      → (optional && list_all (is_undefined codes) (x ∷ words)) ≡ true
      → list_any (is_undefined codes) (x ∷ words) ≡ true
  undefined_none optional x words h =
      by optional (is_undefined codes x) (list_all (is_undefined codes) words)
      (list_any (is_undefined codes) words) h
    where
      by : (a b c d : Bool) → (a && (b && c)) ≡ true → (b || d) ≡ true
      by true true c d h = refl
      by true false c d h = absurd (cc)
      by false b c d h = absurd (cc)

  of_undefined : (b : Bool) (o : Option ValueFault) (value : Value) → b ≡ true
      → are_in w line (place_read (reading (if b then Some Undefined else o) value))
  of_undefined true o value h = none_in
  of_undefined false o value h = absurd (cc)

  inside : (optional : Bool) (words : List (List ℕ)) → HasPoint codes optional (AreaPoint v) words
      → are_in w line (place_read (column_reading (AreaPoint v) codes words))
  inside optional [] h =
      read_as (are_in w line) (field_fault (AreaPoint v) codes [])
      (value_of (AreaPoint v) []) none_in none_in
  inside optional (x ∷ []) h =
      read_as (are_in w line) (field_fault (AreaPoint v) codes (x ∷ []))
      (value_of (AreaPoint v) (x ∷ [])) none_in none_in
  inside optional (x ∷ y ∷ ws) (inl u) =
      of_undefined (list_any (is_undefined codes) (x ∷ y ∷ ws))
      (value_fault (AreaPoint v) (x ∷ y ∷ ws)) (value_of (AreaPoint v) (x ∷ y ∷ ws))
      (undefined_none optional x (y ∷ ws) u)
  inside optional (x ∷ y ∷ ws) (inr i) =
      read_as (are_in w line) (field_fault (AreaPoint v) codes (x ∷ y ∷ ws))
      (value_of (AreaPoint v) (x ∷ y ∷ ws)) none_in (one_in (place_named v (x ∷ y ∷ ws)) i)

pub point_in : (codes : Codes) (t : Table) (k : ℕ) (c : Column) (v : Window) (w : Window2)
    → slice_get t.columns k ≡ Some c → c.form ≡ AreaPoint v → IsWindowOf v w → (r : Row)
    → HasPlaces codes t r → ArePointsIn w (points_at codes (first_word t.columns k) c r)
point_in codes t k c v w e f i r h =
    moved (subst
    (λ (form : Form). HasPoint codes c.optional form
    (take (width c.form) (drop (widths (take k t.columns)) (drop 1 r.fields)))) f
    (point_there codes t.columns k c (drop 1 r.fields) h.points e))
  where
    words : List (List ℕ)
    words = take (width c.form) (drop (widths (take k t.columns)) (drop 1 r.fields))

    same_words : words ≡ words_at (first_word t.columns k) c r
    same_words =
        ap (λ (ws : List (List ℕ)). take (width c.form) ws)
        (sym (drop_both 1 (widths (take k t.columns)) r.fields))

    moved : HasPoint codes c.optional (AreaPoint v) words
        → are_in w r.line
        (place_read (column_reading c.form codes (words_at (first_word t.columns k) c r)))
    moved p =
        subst (λ (ws : List (List ℕ)). are_in w r.line
        (place_read (column_reading c.form codes ws))) same_words
        (subst (λ (form : Form). are_in w r.line (place_read (column_reading form codes words)))
        (sym f) (inside codes v w r.line i c.optional words p))

-- ---- an area of a valid layout
module _ (l : Layout) (a : AreaOf) (v : IsValid l) (h : IsArea l.tables a) where
  helper_table : IsTable (length l.topics) l.tables h.helper
  helper_table =
      all_at (IsTable (length l.topics) l.tables) l.tables a.lines h.helper v.tables h.lines

  pub area_table : IsAreaTable l.tables h.helper a.main a.column
  area_table = subst (IsRole l.tables h.helper) h.role helper_table.role

  abbrev pub forms : HasForms l a
  forms = record {
    line = area_table.line;
    lines = ap lines_in h.lines ∙ area_table.lines;
    narrow = area_table.narrow;
  }

-- ---- rows without findings
pub clean_rows : (l : Layout) (rows : List (List Row)) → IsClean l rows
    → HavePlaces l.codes l.tables rows
clean_rows l rows c =
    have_places l rows
    (empty_both (value_findings l rows) (key_findings l rows)
    (unsorted is_before (value_findings l rows ++ key_findings l rows) c)).0

-- ---- an area by its number
area_there : (as_ : List area.AreaOf) (k : ℕ) (x : area.AreaOf) → k < length as_
    → x ≡ get_or as_ k x → slice_get (areas_view as_) k ≡ Some (area_view x)
area_there as_ k x l e = slice_get-map area_view as_ k
    ∙ ap (option_map area_view) (slice_get_read as_ (length as_) k x refl l e)

module _ (l : Layout) (as_ : List area.AreaOf) (k : ℕ) (x : area.AreaOf) (w : k < length as_)
    (e : x ≡ get_or as_ k x) (q : l.areas ≡ areas_view as_) where
  pub there : slice_get l.areas k ≡ Some (area_view x)
  there = ap (λ (xs : List AreaOf). slice_get xs k) q ∙ area_there as_ k x w e

  pub area_is : IsValid l → IsArea l.tables (area_view x)
  area_is v = all_at (IsArea l.tables) l.areas k (area_view x) v.areas there
