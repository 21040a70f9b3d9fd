-- Whether vertices draw a curve.
use Rattle.std.proofs.Common.{◌≡◌, ◌⊎◌, inl, inr, ℕ, zero, suc, ◌+◌, ◌<◌, Bool, true, false}
use Rattle.std.proofs.Common.{Option, None, Some, ◌&&◌, ◌||◌, if◌then◌else◌, List, [], ◌∷◌, ◌++◌}
use Rattle.std.proofs.Common.{length, drop, get_or}
use Rattle.std.proofs.Common.{pos, ℤ, ◌-ℤ◌, ◌*ℤ◌, refl, sym, ap, ◌∙◌, subst, arith, append_assoc}
use Rattle.std.proofs.lemmas.Int.{ints}
use Rattle.std.proofs.lemmas.List.{at_drop_more}
use Rattle.std.specs.Borrow.{Bor}
use Rattle.std.specs.Option.{IfSome}
use Rattle.std.specs.List.{All}
use Rattle.std.proofs.lemmas.List.Elements.{All-head, All-tail}
use Rattle.field_values.specs.Places.{Place, is_same, is_same_place, are_collinear, place_view}
use Rattle.field_values.specs.declared.place.Place as code
use Rattle.itf_reader.specs.StrokeFindings.{Seen}
use Rattle.itf_reader.specs.RowReadings.{vertex_view, vertices_view}
use Rattle.itf_reader.specs.declared.rows.values.ReadVertex.{ReadVertex}
use Rattle.plane.proofs.Algebra.Ring.{at, minus, times, vars, ring_zero}
use Rattle.plane.specs.Rule.Plans.{straight}
use Rattle.plane.specs.declared.kinds.Curve.{Curve}
use Rattle.plane.specs.declared.window.Window2.{Window2}
use Rattle.area_drawings.specs.Drawable.{over_view, rest_curves}
use Rattle.area_drawings.specs.Drawings.{arc_over, curves_after, half_arcs, point_at}
use Rattle.area_drawings.specs.Drawings.{straight_between}
use Rattle.area_drawings.specs.declared.curves.Pen.{Pen}
use Rattle.area_drawings.specs.KeptDrawings.{AreIn, seen_curves}
use Rattle.area_drawings.specs.Strokes.{has_curve, strokes_curves, strokes_view, vertices_of}

-- ---- the same place
same_number : (a b : ℤ) → is_same a b ≡ true → a ≡ b
same_number a b e = grind (arith, ints, e)

both : (a b : Bool) → (a && b) ≡ true → (a ≡ true) × (b ≡ true)
both true b e = (refl, e)
both false b e = absurd (cc)

abbrev place : ℤ → ℤ → Place
place x y = record { x = x; y = y }

pub same_place : (p q : Place) → is_same_place p q ≡ true → p ≡ q
same_place p q e =
    let b = both (is_same p.x q.x) (is_same p.y q.y) e in
    ap (λ (n : ℤ). place n p.y) (same_number p.x q.x b.0)
    ∙ ap (place q.x) (same_number p.y q.y b.1)

zero_times : (x y : ℤ) → ((x -ℤ x) *ℤ y) ≡ pos 0
zero_times x y = ring_zero (times (minus (at 0) (at 0)) (at 1)) (vars (x ∷ y ∷ [])) refl

no_turn : (a b : ℤ) → a ≡ pos 0 → b ≡ pos 0 → is_same a b ≡ true
no_turn a b e f = grind (arith, ints, e, f)

-- a place twice and another lie on one straight
collinear_one : (s m e : Place) → is_same_place s m ≡ true → are_collinear s m e ≡ true
collinear_one s m e h =
    subst (λ (q : Place). are_collinear s q e ≡ true) (same_place s m h)
    (no_turn ((s.x -ℤ s.x) *ℤ (e.y -ℤ s.y)) ((s.y -ℤ s.y) *ℤ (e.x -ℤ s.x))
    (zero_times s.x (e.y -ℤ s.y)) (zero_times s.y (e.x -ℤ s.x)))

-- ---- curves before others
has_append : (xs ys : List Curve) → has_curve (xs ++ ys) ≡ (has_curve xs || has_curve ys)
has_append [] ys = refl
has_append (x ∷ xs) ys = refl

first_has : (xs ys : List Curve) → has_curve xs ≡ true → has_curve (xs ++ ys) ≡ true
first_has xs ys h = has_append xs ys ∙ ap (λ (b : Bool). b || has_curve ys) h

second_has : (xs ys : List Curve) → has_curve ys ≡ true → has_curve (xs ++ ys) ≡ true
second_has [] ys h = h
second_has (x ∷ xs) ys h = refl

-- ---- a straight
pub straight_one : (p q : Place) (line : ℕ) (rest : List Curve) → is_same_place p q ≡ true
    → straight_between p q line ++ rest ≡ rest
straight_one p q line rest e =
    ap (λ (b : Bool). (if b then [] else straight (point_at p) (point_at q) line ∷ []) ++ rest) e

has_straight : (p q : Place) (line : ℕ) → is_same_place p q ≡ false
    → has_curve (straight_between p q line) ≡ true
has_straight p q line e =
    ap (λ (b : Bool). has_curve (if b
    then [] else straight (point_at p) (point_at q) line ∷ [])) e

-- ---- an arc
pub arc_one : (s : Place) (m e : Seen) (rest : List Curve) → is_same_place s m.at ≡ true
    → is_same_place m.at e.at ≡ true → arc_over s m e ++ rest ≡ rest
arc_one s m e rest h k =
    let first = straight_between s m.at m.line in
    let second = straight_between m.at e.at e.line in
    ap (λ (b : Bool). (if b then first ++ second else half_arcs s m e) ++ rest)
    (collinear_one s m.at e.at h)
    ∙ append_assoc first second rest
    ∙ straight_one s m.at m.line (second ++ rest) h
    ∙ straight_one m.at e.at e.line rest k

pub arc_two : (s : Place) (m e : Seen) (rest : List Curve)
    → (is_same_place s m.at ≡ false) ⊎ (is_same_place m.at e.at ≡ false)
    → has_curve (arc_over s m e ++ rest) ≡ true
arc_two s m e rest h =
    elim (are_collinear s m.at e.at) as (λ b. has_curve ((if b
    then straight_between s m.at m.line ++ straight_between m.at e.at e.line
    else half_arcs s m e) ++ rest) ≡ true) [
      | true ↦ first_has (first ++ second) rest (some h)
      | false ↦ refl
    ]
  where
    first : List Curve
    first = straight_between s m.at m.line

    second : List Curve
    second = straight_between m.at e.at e.line

    some : (is_same_place s m.at ≡ false) ⊎ (is_same_place m.at e.at ≡ false)
        → has_curve (first ++ second) ≡ true
    some (inl k) = first_has first second (has_straight s m.at m.line k)
    some (inr k) = second_has first second (has_straight m.at e.at e.line k)

-- where the pen is at the end of an arc between one place
pub moved_over : (s : Place) (m v : ReadVertex) (vs : List Seen) (o : Option Pen)
    → IfSome o (λ (next : Pen). (is_same_place s (place_view m.at) ≡ true)
    × (is_same_place (place_view m.at) (place_view v.at) ≡ true)
    × (next.at ≡ v.at) × (next.over ≡ None))
    → IfSome o (λ (next : Pen). has_curve (curves_after s (Some (vertex_view m))
    (vertex_view v ∷ vs)) ≡ has_curve (rest_curves next vs))
moved_over s m v vs None h = h
moved_over s m v vs (Some next) h =
    ap has_curve (arc_one s (vertex_view m) (vertex_view v)
    (curves_after (place_view v.at) None vs) h.0 h.1)
    ∙ ap (λ (p : code.Place). has_curve (curves_after (place_view p) None vs)) (sym h.2)
    ∙ ap (λ (q : Option ReadVertex). has_curve (curves_after (place_view next.at)
    (over_view q) vs)) (sym h.3)

-- ---- the lines of an object
pub stroke_inside : (w : Window2) (ss : List (Bor (List ReadVertex))) (i : ℕ)
    (s : Bor (List ReadVertex)) → i < length ss → s ≡ get_or ss i s
    → All (AreIn w) (strokes_view ss) → AreIn w (vertices_view s.now)
stroke_inside w [] i s lt e h = absurd (omega (arith, lt))
stroke_inside w (t ∷ ss) zero s lt e h =
    subst (λ (x : Bor (List ReadVertex)). AreIn w (vertices_view x.now)) (sym e)
    (All-head (AreIn w) (vertices_view t.now) (strokes_view ss) h)
stroke_inside w (t ∷ ss) (suc i) s lt e h =
    stroke_inside w ss i s (omega (arith, lt)) e
    (All-tail (AreIn w) (vertices_view t.now) (strokes_view ss) h)
