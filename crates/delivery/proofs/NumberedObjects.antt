-- The numbers of objects are those of the points of their area's drawing.
use Rattle.std.proofs.Common.{◌≡◌, ℕ, zero, suc, ◌+◌, List, [], ◌∷◌, ◌++◌, Option, Some, None, refl}
use Rattle.std.proofs.Common.{sym, ap, ◌∙◌, arith}
use Rattle.std.specs.Prelude.{slice_get, slice_index_or}
use Rattle.std.specs.List.{All}
use Rattle.std.specs.Option.{option_map, option_to_list}
use Rattle.table_layout.specs.Layouts.{AreaOf, Column, Layout, Table}
use Rattle.table_layout.specs.Valid.{IsArea, IsAreaTable, IsValid}
use Rattle.itf_reader.specs.Forms.{Row}
use Rattle.domain_rules.specs.CleanPlaces.{HasPlaces}
use Rattle.plane.specs.Rule.Plans.{Plan}
use Rattle.plane.specs.declared.kinds.Placed.{Placed}
use Rattle.plane.specs.declared.kinds.Point.{Point}
use Rattle.area_drawings.specs.Drawings.{IsDrawing, columns_in, first_word, points_by}
use Rattle.area_drawings.specs.Drawings.{points_in}
use Rattle.area_drawings.specs.KeptRows.{is_area_point}
use Rattle.area_drawings.proofs.RowSteps.{column_asked}
use Rattle.area_links.specs.Pairs.{after, number_if, object_numbers, row_point}
use Rattle.delivery.specs.Judging.{IsClean}
use Rattle.delivery.specs.LinkRows.{IsNumbered}
use Rattle.delivery.proofs.Drawables.{all_at, all_rows, area_table, clean_rows, rows_at}
use Rattle.delivery.proofs.JoinedPairs.{all_placed, lined, row_numbers}
use Rattle.delivery.proofs.KeptPlaces.{points_kept}
use Rattle.delivery.proofs.LinkPoints.{area_point, points_are}
use Rattle.delivery.proofs.LinkedRows.{numbers_of_rows}

-- ---- rows with a point are numbered as their points
module _ (p : Row → Option Point) where
  -- the row has a point, which is the one of that number, counted on from j
  record IsCountedOn (j : ℕ) (rows : List Row) (k : ℕ) (r : Row) : Type 0 where
    place : ℕ
    point : Point
    number : k ≡ j + place
    has : p r ≡ Some point
    at : slice_get (all_placed p rows) place ≡ Some (lined r point)

  counted_on : (j : ℕ) (rows : List Row) (i k : ℕ) (r : Row) → slice_get rows i ≡ Some r
      → slice_get (row_numbers p j rows) i ≡ Some (Some k) → IsCountedOn j rows k r
  counted_on j [] i k r e h = absurd (cc)
  counted_on j (x ∷ rows) zero k r e h = by (p x) refl h
    where
      same_row : (x r : Row) → Some x ≡ Some r → x ≡ r
      same_row x r e = cc

      number_is : (j k : ℕ) → Some (Some j) ≡ Some (Some k) → k ≡ j
      number_is j k e = cc

      by : (o : Option Point) → p x ≡ o → Some (number_if j o) ≡ Some (Some k)
          → IsCountedOn j (x ∷ rows) k r
      by None q h = absurd (cc)
      by (Some z) q h =
          record {
            place = 0;
            point = z;
            number = (let a = number_is j k h in omega (arith, a));
            has = ap p (sym (same_row x r e)) ∙ q;
            at = ap (λ (o : Option Point).
                slice_get (option_to_list (option_map (lined x) o) ++ all_placed p rows) 0) q
                ∙ ap (λ (y : Row). Some (lined y z)) (same_row x r e);
          }
  counted_on j (x ∷ rows) (suc i) k r e h =
      by (p x) refl (counted_on (after j (p x)) rows i k r e h)
    where
      by : (o : Option Point) → p x ≡ o → IsCountedOn (after j o) rows k r
          → IsCountedOn j (x ∷ rows) k r
      by None q c =
          record {
            place = c.place;
            point = c.point;
            number = c.number;
            has = c.has;
            at = ap (λ (o : Option Point). slice_get (option_to_list (option_map (lined x) o)
                ++ all_placed p rows) c.place) q ∙ c.at;
          }
      by (Some z) q c =
          record {
            place = suc c.place;
            point = c.point;
            number = (let a = c.number in omega (arith, a));
            has = c.has;
            at = ap (λ (o : Option Point). slice_get (option_to_list (option_map (lined x) o)
                ++ all_placed p rows) (suc c.place)) q ∙ c.at;
          }

-- ---- the points of a drawing
module _ (l : Layout) (rows : List (List Row)) (v : IsValid l) (c : IsClean l rows) (n : ℕ)
    (a : AreaOf) (g : slice_get l.areas n ≡ Some a) where
  is_area : IsArea l.tables a
  is_area = all_at (IsArea l.tables) l.areas n a v.areas g

  abbrev area : IsAreaTable l.tables is_area.helper a.main a.column
  area = area_table l a v is_area

  abbrev mains : List Row
  mains = slice_index_or rows a.main []

  right_places : All (HasPlaces l.codes area.owner) mains
  right_places =
      all_rows l.codes area.owner mains
      (rows_at l.codes l.tables rows a.main area.owner (clean_rows l rows c) area.main)

  drawn_points : (d : Plan) → IsDrawing l rows a d
      → d.points ≡ all_placed (row_point l.codes area.owner a.column) mains
  drawn_points d w =
      w.points
      ∙ ap (λ (cs : List Column). points_in l.codes cs a.column mains) (ap columns_in area.main)
      ∙ ap (λ (o : Option Column). points_by l.codes (first_word area.owner.columns a.column) o
      mains) area.column
      ∙ sym (points_kept l.codes area.owner a.column area.point area.line.window area.column
      area.form mains right_places)
      ∙ column_asked l.codes area.owner mains a.column area.point area.column
      (ap is_area_point area.form)
      ∙ points_are l.codes area.owner a.column area.point area.column
      (area_point area.point.form area.line.window area.form) mains

  same_table : (t u : Table) → Some t ≡ Some u → t ≡ u
  same_table t u e = cc

  pub numbers_are : (d : Plan) (t : Table) (i k : ℕ) (r : Row) → IsDrawing l rows a d
      → slice_get l.tables a.main ≡ Some t → slice_get mains i ≡ Some r
      → slice_get (object_numbers l.codes t a.column 0 mains) i ≡ Some (Some k)
      → IsNumbered l t a d r k
  numbers_are d t i k r w e h q =
      let own = same_table t area.owner (sym e ∙ area.main) in
      let s = counted_on (row_point l.codes t a.column) 0 mains i k r h
      (ap (λ (ns : List (Option ℕ)). slice_get ns i)
      (numbers_of_rows l.codes t a.column 0 mains) ∙ q) in
      record {
        point = s.point;
        has = s.has;
        at = ap (λ (ps : List Placed). slice_get ps k) (drawn_points d w)
            ∙ ap (λ (u : Table). slice_get (all_placed (row_point l.codes u a.column) mains) k)
            (sym own)
            ∙ ap (slice_get (all_placed (row_point l.codes t a.column) mains))
            (let b = s.number in let z : k ≡ s.place = omega (arith, b) in z)
            ∙ s.at;
      }
