use Rattle.std.proofs.Common.{◌≡◌, ◌<◌, ℕ, List, false, length, rules, slice_index, subst, sym}
use Rattle.std.proofs.Common.{true, ap, ◌∙◌}
use Rattle.plane.specs.declared.kinds.Curve.{Curve}
use Rattle.plane.specs.declared.kinds.CurveKind.TheVariants as kind
use Rattle.plane.specs.Rule.Plans.{plan}
use Rattle.tubes.specs.DrawnEdges.{AreAllStraight, nth_curve}
use Rattle.delivery.proofs.PolygonLemmas.{is_area, object_polygons}
use Rattle.delivery.proofs.polygon_answers.area_polygons.Goals as goal

pub returns-then-has_half_arc : goal.returns-then-has_half_arc
returns-then-has_half_arc c =
    let yes : c.has_half_arc.result ≡ true = search rules in
    let some = subst (λ (cs : List Curve). (i : ℕ) × (i < length cs)
    × ((nth_curve cs i).kind ≡ kind.HalfArc)) c.deref.ensures.value
    (c.has_half_arc.ensures.some yes) in
    (some.0, record { there = some.1; kind = some.2 })

pub faces_of_straights-requires-clause-straights : goal.faces_of_straights-requires-clause-straights
faces_of_straights-requires-clause-straights c =
    let no : c.has_half_arc.result ≡ false = search rules in
    subst AreAllStraight c.deref.ensures.value (c.has_half_arc.ensures.none no)

pub faces_of_straights-requires-clause-partition : goal.faces_of_straights-requires-clause-partition
faces_of_straights-requires-clause-partition c =
    (is_area (plan c.args.drawing.now)
    (faces_of_straights-requires-clause-straights c) c.requires.area).0

pub polygons_of-requires-clause-places : goal.polygons_of-requires-clause-places
polygons_of-requires-clause-places c =
    ap length c.deref-2.ensures.value ∙ c.in_ok-faced.ensures.vertices

pub polygons_of-requires-clause-known : goal.polygons_of-requires-clause-known
polygons_of-requires-clause-known c =
    let f = c.in_ok-faced.ensures in
    subst (λ (ps : List ℕ). (j : ℕ) → j < length ps → slice_index ps j < c.in_ok-faced.faced.faces)
    (sym c.deref-3.ensures.value)
    (λ j l. f.known j (subst (λ (n : ℕ). j < n) f.points l))

pub polygons_of-requires-clause-apart : goal.polygons_of-requires-clause-apart
polygons_of-requires-clause-apart c =
    let f = c.in_ok-faced.ensures in
    subst (λ (ps : List ℕ). (i j : ℕ) → i < length ps → j < length ps
    → slice_index ps i ≡ slice_index ps j → i ≡ j) (sym c.deref-3.ensures.value)
    (λ i j l m. f.apart i j (subst (λ (n : ℕ). i < n) f.points l)
    (subst (λ (n : ℕ). j < n) f.points m))

pub returns : goal.returns
returns c =
    let d = plan c.args.drawing.now in
    let no : c.has_half_arc.result ≡ false = search rules in
    let straights = subst AreAllStraight c.deref.ensures.value (c.has_half_arc.ensures.none no) in (
      straights,
      (c.in_ok-faced.ensures.steps, c.in_ok-faced.ensures.run),
      object_polygons d c.in_ok-faced.faced c.deref-2.result.now c.deref-3.result.now _
          (is_area d straights c.requires.area).1 c.in_ok-faced.ensures
          c.deref-2.ensures.value c.deref-3.ensures.value c.in_ok-polygons.ensures,
    )
