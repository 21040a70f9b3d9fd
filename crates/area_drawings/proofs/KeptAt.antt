-- What is kept of a table, as an area is drawn from it.
use Rattle.std.proofs.Common.{◌≡◌, ℕ, zero, suc, ◌<◌, ◌≤◌, List, [], ◌∷◌, length, get_or, Some}
use Rattle.std.proofs.Common.{Bool, true, false, ◌+◌, drop, nat_eq, if◌then◌else◌, sym, ap, ◌∙◌}
use Rattle.std.proofs.Common.{subst, arith}
use Rattle.std.specs.Prelude.{slice_get}
use Rattle.std.proofs.lemmas.List.{length-map}
use Rattle.resolver.specs.Resolved.{LineForm}
use Rattle.table_layout.specs.Layouts.{AreaOf, Layout}
use Rattle.itf_reader.specs.StrokeFindings.{Seen}
use Rattle.itf_reader.specs.declared.rows.values.ReadVertex.{ReadVertex}
use Rattle.itf_reader.specs.RowReadings.{vertex_view, vertices_view}
use Rattle.plane.specs.Rule.Plans.{Plan}
use Rattle.plane.specs.declared.kinds.Placed.{Placed}
use Rattle.plane.specs.declared.window.Window2.{Window2}
use Rattle.area_drawings.specs.declared.kept_points.PointColumn.{PointColumn as CodeColumn}
use Rattle.area_drawings.specs.declared.table_places.TablePlaces.{TablePlaces}
use Rattle.area_drawings.specs.Drawable.{HasForms}
use Rattle.area_drawings.specs.Drawings.{IsWindowOf}
use Rattle.area_drawings.specs.KeptDrawings.{AreIn, AreDrawable, AreDrawn, IsDrawnFrom}
use Rattle.area_drawings.specs.KeptDrawings.{curves_there}
use Rattle.area_drawings.specs.KeptDrawings.{kept_curves, column_points, total}
use Rattle.area_drawings.specs.KeptPoints.{points_in_column}
use Rattle.area_drawings.specs.KeptRows.{Kept, counts_in, vertices_in}
use Rattle.area_drawings.specs.KeptViews.{kept_of, kept_in, columns_view}

-- ---- the table of that number
pub kept_within : (ts : List TablePlaces) (n : ℕ) (k : Kept) → slice_get (kept_in ts) n ≡ Some k
    → n < length ts
kept_within [] n k e = absurd (cc)
kept_within (t ∷ ts) zero k e = omega arith
kept_within (t ∷ ts) (suc n) k e = let h = kept_within ts n k e in omega (arith, h)

pub kept_is : (ts : List TablePlaces) (n : ℕ) (k : Kept) (t : TablePlaces)
    → slice_get (kept_in ts) n ≡ Some k → t ≡ get_or ts n t → k ≡ kept_of t
kept_is [] n k t e h = absurd (cc)
kept_is (u ∷ ts) zero k t e h = the_same (kept_of u) k e ∙ ap kept_of (sym h)
  where
    the_same : (a b : Kept) → Some a ≡ Some b → b ≡ a
    the_same a b e = cc
kept_is (u ∷ ts) (suc n) k t e h = kept_is ts n k t e h

-- ---- the column of that number
pub found_column : (cs : List CodeColumn) (i n : ℕ) (c : CodeColumn) → i < length cs
    → c ≡ get_or cs i c → nat_eq c.number n ≡ true
    → c.points.items ≡ points_in_column n (columns_view (drop i cs))
found_column [] i n c lt e h = absurd (omega (arith, lt))
found_column (d ∷ cs) zero n c lt e h =
    sym (ap (λ (x : CodeColumn). points_in_column n (columns_view (x ∷ cs))) (sym e)
    ∙ ap (λ (b : Bool). if b then c.points.items else points_in_column n (columns_view cs)) h)
found_column (d ∷ cs) (suc i) n c lt e h = found_column cs i n c (omega (arith, lt)) e h

pub next_column : (cs : List CodeColumn) (i n : ℕ) (c : CodeColumn) → i < length cs
    → c ≡ get_or cs i c → nat_eq c.number n ≡ false
    → points_in_column n (columns_view (drop (i + 1) cs))
    ≡ points_in_column n (columns_view (drop i cs))
next_column cs i n c lt e h =
    let s : i + 1 ≡ suc i = omega arith in
    ap (λ (m : ℕ). points_in_column n (columns_view (drop m cs))) s ∙ by cs i lt e
  where
    by : (cs : List CodeColumn) (i : ℕ) → i < length cs → c ≡ get_or cs i c
        → points_in_column n (columns_view (drop (suc i) cs))
        ≡ points_in_column n (columns_view (drop i cs))
    by [] i lt e = absurd (omega (arith, lt))
    by (d ∷ cs) zero lt e =
        sym (ap (λ (x : CodeColumn). points_in_column n (columns_view (x ∷ cs))) (sym e)
        ∙ ap (λ (b : Bool). if b then c.points.items else points_in_column n (columns_view cs)) h)
    by (d ∷ cs) (suc i) lt e = by cs i (omega (arith, lt)) e

-- ---- lines that are drawn
module _ (ns ms : List ℕ) (n : ns ≡ ms) (vs : List ReadVertex) (ws : List Seen)
    (v : vertices_view vs ≡ ws) where
  length_is : length vs ≡ length ws
  length_is = sym (length-map vs vertex_view) ∙ ap (λ (xs : List Seen). length xs) v

  pub counted_here : total ms ≤ length ws → total ns ≤ length vs
  counted_here h = let a = ap total n in let b = length_is in omega (arith, a, b, h)

  pub inside_here : (w : Window2) → AreIn w ws → AreIn w (vertices_view vs)
  inside_here w h = subst (AreIn w) (sym v) h

  pub few_here : (limit : ℕ) → length ws ≤ limit → length vs ≤ limit
  few_here limit h = let b = length_is in omega (arith, b, h)

  pub curves_here : kept_curves ns (vertices_view vs) ≡ kept_curves ms ws
  curves_here = ap (λ (xs : List ℕ). kept_curves xs (vertices_view vs)) n ∙ ap (kept_curves ms) v

-- ---- an area
pub one_line : (o : List LineForm) (a b : LineForm) → o ≡ a ∷ [] → o ≡ b ∷ [] → a ≡ b
one_line o a b e f = same a b (sym e ∙ f)
  where
    same : (a b : LineForm) → a ∷ [] ≡ b ∷ [] → a ≡ b
    same a b e = cc

pub points_here : (k m : Kept) → k ≡ m → (n : ℕ) (ps : List Placed)
    → ps ≡ points_in_column n m.points → ps ≡ points_in_column n k.points
points_here k m e n ps q = q ∙ ap (λ (x : Kept). points_in_column n x.points) (sym e)

pub drawable_here : (line own : LineForm) → own ≡ line → (k m : Kept) → k ≡ m
    → (ps qs : List Placed) → ps ≡ qs
    → AreDrawable line (counts_in k.lines) (vertices_in k.lines) qs
    → AreDrawable own (counts_in m.lines) (vertices_in m.lines) ps
drawable_here line own o k m e ps qs p h =
    subst (λ (x : LineForm). AreDrawable x (counts_in m.lines) (vertices_in m.lines) ps) (sym o)
    (subst (λ (x : Kept). AreDrawable line (counts_in x.lines) (vertices_in x.lines) ps) e
    (subst (AreDrawable line (counts_in k.lines) (vertices_in k.lines)) (sym p) h))

pub drawn_here : (l : Layout) (ks : List Kept) (a : AreaOf) (f : HasForms l a) (own : LineForm)
    → own ≡ f.line → (k m n : Kept) → k ≡ m → slice_get ks a.lines ≡ Some k
    → slice_get ks a.main ≡ Some n → (ps : List Placed) → ps ≡ points_in_column a.column n.points
    → (d : Plan) → AreDrawn own (counts_in m.lines) (vertices_in m.lines) ps d
    → IsDrawnFrom l ks a d
drawn_here l ks a f own o k m n e g h ps p d w = record {
  forms = f;
  window = subst (λ (x : LineForm). IsWindowOf x.window d.window) o w.window;
  curves =
      w.curves
      ∙ ap (λ (x : Kept). kept_curves (counts_in x.lines) (vertices_in x.lines)) (sym e)
      ∙ sym (ap curves_there g);
  points = w.placed ∙ p ∙ sym (ap (column_points a.column) h);
}
