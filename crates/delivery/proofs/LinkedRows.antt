-- A rule of a layout, and what is kept of the rows of its two tables.
use Rattle.std.proofs.Common.{◌≡◌, ℕ, zero, suc, ◌+◌, ◌<◌, ◌≤◌, List, [], ◌∷◌, ◌++◌, length, map}
use Rattle.std.proofs.Common.{get_or}
use Rattle.std.proofs.Common.{Option, Some, refl, sym, ap, ◌∙◌, arith}
use Rattle.std.specs.Prelude.{slice_get, slice_index_or}
use Rattle.std.specs.List.{flat_map}
use Rattle.std.specs.Option.{option_map, option_to_list}
use Rattle.std.proofs.lemmas.Option.{slice_get_within}
use Rattle.ili_grammar.specs.Syntax.{Codes}
use Rattle.resolver.specs.Resolved.{Reference}
use Rattle.table_layout.specs.Layouts.{AreaOf, Layout, Table}
use Rattle.table_layout.specs.Valid.{IsArea, IsAreaTable, IsTable, IsValid}
use Rattle.itf_reader.specs.Forms.{Row}
use Rattle.itf_reader.specs.Layouts.{wanted_of}
use Rattle.itf_reader.specs.RowForms.{EachRow, IsCounted}
use Rattle.itf_reader.specs.RowLines.{LinesRise}
use Rattle.ident_refs.specs.KeptRows.{row_line}
use Rattle.ident_refs.specs.NamedRows.{Named, rows_named}
use Rattle.plane.specs.declared.kinds.Placed.{Placed}
use Rattle.area_drawings.specs.KeptPoints.{PointColumn, points_in_column}
use Rattle.area_drawings.specs.KeptRows.{Kept, is_area_point, kept}
use Rattle.area_drawings.proofs.RowSteps.{column_asked}
use Rattle.area_links.specs.Pairs.{after, number_if}
use Rattle.area_links.specs.Pairs.{identification, object_numbers, object_of, pair_by}
use Rattle.area_links.specs.Pairs.{pairs_between}
use Rattle.area_links.specs.Pairs.{pairs_in, pairs_of, pairs_with, row_pairs, row_point, row_word}
use Rattle.area_links.specs.Rules.{Rule}
use Rattle.area_links.specs.declared.kinds.LinkPair.{LinkPair}
use Rattle.delivery.specs.KeptRows.{all_kept, of_tables}
use Rattle.delivery.specs.LinkJoins.{RiseFrom, joined, numbered, object_at}
use Rattle.delivery.specs.LinkRows.{IsGoodRule, all_link_points, link_points}
use Rattle.delivery.proofs.Drawables.{all_at, area_table}
use Rattle.delivery.proofs.JoinedPairs.{all_placed, joined_rows, numbered_rows}
use Rattle.delivery.proofs.JoinedPairs.{row_numbers, rows_rise}
use Rattle.delivery.proofs.LinkNames.{names_are, object_is, place_named}
use Rattle.delivery.proofs.LinkPoints.{area_point, column_linked, points_are}

-- ---- a value of a list
pub there : {K : Type 0} (f : Table → List Row → K) (ts : List Table) (transfer : List (List Row))
    (n : ℕ) (t : Table) → EachRow IsCounted (map wanted_of ts) transfer → slice_get ts n ≡ Some t
    → slice_get (of_tables f ts transfer) n ≡ Some (f t (slice_index_or transfer n []))
there f [] transfer n t h e = absurd (cc)
there f (u ∷ ts) [] n t h e = absurd h
there f (u ∷ ts) (rows ∷ transfer) zero t h e = ap (λ (v : Table). Some (f v rows)) (same u t e)
  where
    same : (u t : Table) → Some u ≡ Some t → u ≡ t
    same u t e = cc
there f (u ∷ ts) (rows ∷ transfer) (suc n) t h e = there f ts transfer n t h.1 e

pub mapped_within : {X K : Type 0} (view : X → K) (xs : List X) (n : ℕ) (k : K)
    → slice_get (map view xs) n ≡ Some k → n < length xs
mapped_within view [] n k e = absurd (cc)
mapped_within view (x ∷ xs) zero k e = omega arith
mapped_within view (x ∷ xs) (suc n) k e = let h = mapped_within view xs n k e in omega (arith, h)

pub mapped_is : {X K : Type 0} (view : X → K) (xs : List X) (n : ℕ) (k : K) (x : X)
    → slice_get (map view xs) n ≡ Some k → x ≡ get_or xs n x → view x ≡ k
mapped_is view [] n k x e h = absurd (cc)
mapped_is view (y ∷ xs) zero k x e h = ap view h ∙ same (view y) k e
  where
    same : {K : Type 0} (a b : K) → Some a ≡ Some b → a ≡ b
    same a b e = cc
mapped_is view (y ∷ xs) (suc n) k x e h = mapped_is view xs n k x e h

-- ---- the numbers of objects
pub numbers_of_rows : (codes : Codes) (t : Table) (column k : ℕ) (rows : List Row)
    → row_numbers (row_point codes t column) k rows ≡ object_numbers codes t column k rows
numbers_of_rows codes t column k [] = refl
numbers_of_rows codes t column k (r ∷ rows) =
    let o = row_point codes t column r in
    ap (λ (ns : List (Option ℕ)). number_if k o ∷ ns)
    (numbers_of_rows codes t column (after k o) rows)

-- ---- a rule
pub same_area : (a b : AreaOf) → Some a ≡ Some b → a ≡ b
same_area a b e = cc

-- a good rule, by its area wherever that comes from
abbrev pub with_area : (l : Layout) (r : Rule) → IsGoodRule l r → (b : AreaOf)
    → slice_get l.areas r.area ≡ Some b → IsGoodRule l r
with_area l r g b e = record {
  t = g.t;
  point = g.point;
  reference = g.reference;
  a = b;
  window = g.window;
  table_is = g.table_is;
  point_is = g.point_is;
  of_points = g.of_points;
  reference_is = g.reference_is;
  area_is = e;
  refers = g.refers ∙ ap (λ (x : AreaOf). Reference x.main) (same_area g.a b (sym g.area_is ∙ e));
}

module _ (l : Layout) (transfer : List (List Row)) (v : IsValid l) (r : Rule) (g : IsGoodRule l r)
    (counted : EachRow IsCounted (map wanted_of l.tables) transfer) (rise : LinesRise transfer)
  where
    pub is_area : IsArea l.tables g.a
    is_area = all_at (IsArea l.tables) l.areas r.area g.a v.areas g.area_is

    abbrev pub area : IsAreaTable l.tables is_area.helper g.a.main g.a.column
    area = area_table l g.a v is_area

    abbrev pub rows : List Row
    rows = slice_index_or transfer r.table []

    abbrev pub mains : List Row
    mains = slice_index_or transfer g.a.main []

    pub few_columns : r.reference + 1 ≤ 4294967295
    few_columns =
        let t = all_at (IsTable (length l.topics) l.tables) l.tables r.table g.t v.tables
        g.table_is in
        let f = t.few in
        let w = slice_get_within g.t.columns r.reference g.reference g.reference_is in
        omega (arith, f, w)

    -- what is kept of the two tables
    pub main_kept : slice_get (all_kept l.codes l.tables transfer) g.a.main
        ≡ Some (kept l.codes area.owner mains)
    main_kept = there (kept l.codes) l.tables transfer g.a.main area.owner counted area.main

    pub own_kept : slice_get (all_link_points l.codes l.tables transfer) r.table
        ≡ Some (link_points l.codes g.t rows)
    own_kept = there (link_points l.codes) l.tables transfer r.table g.t counted g.table_is

    main_points : points_in_column g.a.column (kept l.codes area.owner mains).points
        ≡ all_placed (row_point l.codes area.owner g.a.column) mains
    main_points =
        column_asked l.codes area.owner mains g.a.column area.point area.column
        (ap is_area_point area.form)
        ∙ points_are l.codes area.owner g.a.column area.point area.column
        (area_point area.point.form area.line.window area.form) mains

    own_points : points_in_column r.point (link_points l.codes g.t rows)
        ≡ all_placed (row_point l.codes g.t r.point) rows
    own_points =
        column_linked l.codes g.t rows r.point g.point g.window r.reference g.a.main g.reference
        g.point_is g.of_points g.reference_is g.refers

    pub lines_rise : RiseFrom 0 (map row_line mains)
    lines_rise = rows_rise transfer g.a.main rise

    -- by points, names and lines, wherever they come from
    module _ (k : Kept) (own_k : k ≡ kept l.codes area.owner mains) (points : List Placed)
        (p : points ≡ points_in_column g.a.column k.points) (lines : List ℕ)
        (q : lines ≡ map row_line mains) (numbers : List (Option ℕ))
        (n : numbers ≡ numbered 0 lines points) where
      numbers_are : numbers ≡ object_numbers l.codes area.owner g.a.column 0 mains
      numbers_are =
          n
          ∙ ap (λ (ls : List ℕ). numbered 0 ls points) q
          ∙ ap (numbered 0 (map row_line mains))
          (p ∙ ap (λ (x : Kept). points_in_column g.a.column x.points) own_k ∙ main_points)
          ∙ numbered_rows (row_point l.codes area.owner g.a.column) 0 0 mains
          (rows_rise transfer g.a.main rise)
          ∙ numbers_of_rows l.codes area.owner g.a.column 0 mains

      module _ (cs : List PointColumn) (own_cs : cs ≡ link_points l.codes g.t rows)
          (ps : List Placed) (o : ps ≡ points_in_column r.point cs) (ns : List Named)
          (m : ns ≡ rows_named l transfer r.table (r.reference + 1)) (ls : List ℕ)
          (w : ls ≡ map row_line rows) where
        abbrev refers : Row → Option (Option ℕ)
        refers =
            place_named l.codes transfer g.t r.reference g.reference g.a.main g.reference_is
            g.refers

        pair_is : (x : Row)
            → option_to_list (pair_by x.line (row_point l.codes g.t r.point x)
            (option_map (object_at numbers) (refers x)))
            ≡ option_to_list (pair_by x.line (row_point l.codes g.t r.point x)
            (option_map (object_of (map identification mains) numbers)
            (row_word l.codes g.t r.reference x)))
        pair_is x =
            ap (λ (o : Option (Option ℕ)). option_to_list
            (pair_by x.line (row_point l.codes g.t r.point x) o))
            (object_is numbers mains (row_word l.codes g.t r.reference x))

        pairs_each : (xs : List Row)
            → flat_map (λ x. option_to_list (pair_by x.line (row_point l.codes g.t r.point x)
            (option_map (object_at numbers) (refers x)))) xs
            ≡ row_pairs l.codes g.t r.point r.reference (map identification mains) numbers xs
        pairs_each [] = refl
        pairs_each (x ∷ xs) =
            ap (λ (ys : List LinkPair). ys ++ flat_map (λ z. option_to_list
            (pair_by z.line (row_point l.codes g.t r.point z)
            (option_map (object_at numbers) (refers z)))) xs) (pair_is x)
            ∙ ap (λ (ys : List LinkPair). option_to_list (pair_by x.line
            (row_point l.codes g.t r.point x)
            (option_map (object_of (map identification mains) numbers)
            (row_word l.codes g.t r.reference x))) ++ ys) (pairs_each xs)

        of_rule : pairs_of l transfer r
            ≡ pairs_between l.codes g.t r rows area.owner g.a.column mains
        of_rule =
            ap (pairs_in l transfer r) g.area_is
            ∙ ap (λ (o : Option Table). pairs_with l.codes o r rows (slice_get l.tables g.a.main)
            g.a.column mains) g.table_is
            ∙ ap (λ (o : Option Table). pairs_with l.codes (Some g.t) r rows o g.a.column mains)
            area.main

        pub pairs_are : joined numbers ls ps ns ≡ pairs_of l transfer r
        pairs_are =
            ap (λ (xs : List ℕ). joined numbers xs ps ns) w
            ∙ ap (λ (xs : List Placed). joined numbers (map row_line rows) xs ns)
            (o ∙ ap (points_in_column r.point) own_cs ∙ own_points)
            ∙ ap (joined numbers (map row_line rows)
            (all_placed (row_point l.codes g.t r.point) rows))
            (m ∙ names_are l transfer r.table g.t r.reference g.reference g.a.main counted
            g.table_is g.reference_is g.refers)
            ∙ joined_rows numbers (row_point l.codes g.t r.point) refers 0 rows
            (rows_rise transfer r.table rise)
            ∙ pairs_each rows
            ∙ ap (λ (xs : List (Option ℕ)). row_pairs l.codes g.t r.point r.reference
            (map identification mains) xs rows) numbers_are
            ∙ sym of_rule
