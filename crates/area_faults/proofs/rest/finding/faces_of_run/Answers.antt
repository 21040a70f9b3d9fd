use Rattle.std.proofs.Common.{◌≡◌, ℕ, ◌<◌, List, [], ◌∙◌, ap, arith, length, map, slice_index}
use Rattle.std.proofs.Common.{slice_index_or, subst, sym, take}
use Rattle.fault_lists.specs.declared.faces.DrawingFaces.{DrawingFaces}
use Rattle.half_edges.specs.HalfEdges.{size}
use Rattle.plane.specs.declared.kinds.Curve.{Curve}
use Rattle.plane.specs.declared.kinds.Edge.{Edge}
use Rattle.plane.specs.Rule.Plans.{plan}
use Rattle.plane.specs.Runs.Moves.{steps_from}
use Rattle.plane.specs.Runs.Steps.{Run}
use Rattle.point_location.specs.declared.places.Place.{Place}
use Rattle.point_location.specs.Places.{ArePlaces, no_place}
use Rattle.straight_predicates.specs.EdgeLists.{edge_of}
use Rattle.area_faults.specs.RestFaces.{AreCurveFacesTo, AreOpenTo, IsKnownPlace, half_edges}
use Rattle.area_faults.specs.RestFaces.{half_points, point_place}
use Rattle.area_faults.proofs.CallFacts.{edges_size, few_edges, known_places}
use Rattle.area_faults.proofs.FoundFaces.{has_all, numbered, sizes}
use Rattle.area_faults.proofs.PlacedFaces.{points_count}
use Rattle.area_faults.proofs.RestRings.{rest_rounds}
use Rattle.area_faults.proofs.rest.finding.faces_of_run.Goals as goal

pub places_of-requires : goal.places_of-requires
places_of-requires c =
    let d = plan c.args.drawing.now in
    let f = few_edges d c.args.out.now c.args.kept.now c.args.left.now c.requires.parted
    c.requires.mendable in
    let n = ap length c.requires.edges in
    record {
      left = c.requires.parted.left_are.known;
      edges = (c.args.kept.now, c.requires.parted.kept_are.known, c.requires.edges);
      few = omega (arith, f, n);
      run = c.requires.run;
      fit = c.requires.fit;
    }

pub labelled_run-requires : goal.labelled_run-requires
labelled_run-requires c =
    let d = plan c.args.drawing.now in
    let n = ap length c.requires.edges ∙ edges_size d c.args.kept.now in
    let f = c.requires.parted.kept_are.few in
    let g = c.requires.mendable.few in
    record {
      few = omega (arith, f, g);
      run = (
        edge_of c.args.edges.items,
        subst (λ (m : ℕ). Run m (edge_of c.args.edges.items) (steps_from [] c.args.swept.events))
            n c.requires.run,
      );
      fit = c.requires.fit;
      cells = c.requires.cells;
    }

pub open_faces-requires : goal.open_faces-requires
open_faces-requires c =
    let w = c.args.drawing.now in
    let d = plan w in
    let vs = c.args.swept.events in
    let l = c.in_ok-labelled.labelled in
    let places = c.in_ok-places.places.items in
    let run = subst (λ (es : List Edge). Run (length es) (edge_of es) (steps_from [] vs))
    c.requires.edges c.requires.run in
    let a = subst (λ (es : List Edge). ArePlaces es vs (half_points d c.args.left.now) places)
    c.requires.edges c.in_ok-places.ensures in
    let known = known_places d c.args.out.now c.args.kept.now c.args.left.now c.requires.parted
    c.requires.mendable vs run l c.in_ok-labelled.ensures
    (half_points d c.args.left.now) places a in
    let n = c.len-first.ensures ∙ w.points.ok.0 in
    let s = a.size in
    let p = points_count d c.args.left.now in
    let v = ap length c.deref.ensures.value in
    record {
      known = subst (λ (ps : List Place). (j : ℕ) → j < length ps
          → IsKnownPlace (size l.mesh) (slice_index_or ps j no_place))
          (sym c.deref.ensures.value) known;
      below = c.in_ok-labelled.ensures.below;
      some = c.in_ok-labelled.ensures.some;
      first = omega (arith, n, s, p, v);
    }

pub point_places-requires : goal.point_places-requires
point_places-requires c =
    let w = c.args.drawing.now in
    let d = plan w in
    let vs = c.args.swept.events in
    let l = c.in_ok-labelled.labelled in
    let places = c.in_ok-places.places.items in
    let run = subst (λ (es : List Edge). Run (length es) (edge_of es) (steps_from [] vs))
    c.requires.edges c.requires.run in
    let a = subst (λ (es : List Edge). ArePlaces es vs (half_points d c.args.left.now) places)
    c.requires.edges c.in_ok-places.ensures in
    let known = known_places d c.args.out.now c.args.kept.now c.args.left.now c.requires.parted
    c.requires.mendable vs run l c.in_ok-labelled.ensures
    (half_points d c.args.left.now) places a in
    let n = c.len-first.ensures ∙ w.points.ok.0 in
    let s = a.size in
    let p = points_count d c.args.left.now in
    let v = ap length c.deref-2.ensures.value in
    record {
      known = subst (λ (ps : List Place). (j : ℕ) → j < length ps
          → IsKnownPlace (size l.mesh) (slice_index_or ps j no_place))
          (sym c.deref-2.ensures.value) known;
      size = c.in_ok-labelled.ensures.size_is;
      count = omega (arith, n, s, p, v);
    }

pub curve_faces-requires : goal.curve_faces-requires
curve_faces-requires c =
    let f = c.requires.parted.kept_are.few in
    let g = c.requires.mendable.few in
    record {
      kept = subst (λ (cs : List Curve). (m : ℕ) → m < length c.args.kept.now
          → slice_index c.args.kept.now m < length cs)
          (sym c.deref-3.ensures.value) c.requires.parted.kept_are.known;
      rising = c.requires.parted.kept_are.rising;
      few = omega (arith, f, g);
      size = c.in_ok-labelled.ensures.size_is;
    }

pub next_sides-requires : goal.next_sides-requires
next_sides-requires c = record {
  kept = c.requires.parted.kept_are.known;
  rising = c.requires.parted.kept_are.rising;
  few = c.requires.mendable.few;
  size = c.in_ok-labelled.ensures.size_is;
}

pub returns : goal.returns
returns c =
    let w = c.args.drawing.now in
    let d = plan w in
    let vs = c.args.swept.events in
    let kept = c.args.kept.now in
    let left = c.args.left.now in
    let l = c.in_ok-labelled.labelled in
    let places = c.in_ok-places.places.items in
    let run = subst (λ (es : List Edge). Run (length es) (edge_of es) (steps_from [] vs))
    c.requires.edges c.requires.run in
    let a = subst (λ (es : List Edge). ArePlaces es vs (half_points d left) places) c.requires.edges
    c.in_ok-places.ensures in
    let n : c.len-first.result ≡ length d.points = c.len-first.ensures ∙ w.points.ok.0 in
    let f : DrawingFaces = record {
      «open» = c.in_ok-open_faces.field-0;
      points = c.in_ok-point_places.field-0;
      curves = c.in_ok-curve_faces.field-0;
      next = c.in_ok-next_sides.field-0;
    } in
    let opened = subst
    (λ (m : ℕ). AreOpenTo l.mesh.face l.count places m
    (length places) c.in_ok-open_faces.field-0.items) n
    (subst (λ (ps : List Place). AreOpenTo l.mesh.face l.count ps c.len-first.result
    (length ps) c.in_ok-open_faces.field-0.items) c.deref.ensures.value
    c.in_ok-open_faces.ensures) in
    let points : c.in_ok-point_places.field-0.items
    ≡ map (point_place l.mesh.face kept) (take (length d.points) places) =
    c.in_ok-point_places.ensures
    ∙ ap (λ (ps : List Place). map (point_place l.mesh.face kept) (take c.len-first.result ps))
    c.deref-2.ensures.value
    ∙ ap (λ (m : ℕ). map (point_place l.mesh.face kept) (take m places)) n in
    let curves = subst
    (λ (cs : List Curve). AreCurveFacesTo cs kept l.mesh.face
    (length kept) c.in_ok-curve_faces.field-0.items) c.deref-3.ensures.value
    c.in_ok-curve_faces.ensures in
    record {
      faces = has_all d c.args.out.now kept left c.requires.parted c.requires.mendable w.window.low
          w.window.high w.curves_drawn vs run l c.in_ok-labelled.ensures places a f opened points
          curves;
      numbered = numbered d c.args.out.now kept left c.requires.parted c.requires.mendable
          w.window.low w.window.high w.curves_drawn vs run l c.in_ok-labelled.ensures places a f
          opened points curves;
      sizes = sizes d c.args.out.now kept left c.requires.parted c.requires.mendable w.window.low
          w.window.high w.curves_drawn vs run l c.in_ok-labelled.ensures places a f opened points
          curves;
      rings = rest_rounds d c.args.out.now kept left c.requires.parted
          (λ i k. (w.curves_drawn i _ k).distinct) l.mesh c.in_ok-labelled.ensures.mesh_is
          c.in_ok-labelled.ensures.size_is (steps_from [] vs)
          (c.in_ok-labelled.ensures.begins (edge_of (half_edges d kept))
          (subst (λ (m : ℕ). Run m (edge_of (half_edges d kept)) (steps_from [] vs))
          (edges_size d kept) run))
          f curves c.in_ok-next_sides.ensures;
    }
