-- The run over the rest in half units, and the numbers of what is located in it.
use Rattle.std.proofs.Common.{◌≡◌, ℕ, ◌+◌, ◌<◌, Option, Some, None, List, [], ◌∷◌, length, map}
use Rattle.std.proofs.Common.{take, slice_index, slice_index_or, pos, arith, refl, sym, ◌∙◌, subst}
use Rattle.std.proofs.Common.{ap}
use Rattle.std.proofs.lemmas.List.{get_or-append-add, get_or-map, get_or_append_left, length-append}
use Rattle.std.proofs.lemmas.List.{length-map}
use Rattle.area_search.specs.Settled.Cases.{face_over}
use Rattle.area_search.proofs.SettledLemmas.ListPlaces.{before_has, label_before, over_or}
use Rattle.faces.specs.declared.labelled.Labelled.{Labelled}
use Rattle.half_edges.specs.HalfEdges.{size}
use Rattle.plane.specs.declared.kinds.Curve.{Curve}
use Rattle.plane.specs.declared.kinds.CurveKind.TheVariants as kind
use Rattle.plane.specs.declared.kinds.Edge.{Edge}
use Rattle.plane.specs.declared.kinds.Placed.{Placed}
use Rattle.plane.specs.declared.kinds.Point.{Point}
use Rattle.plane.specs.Faces.Cells.{position}
use Rattle.plane.specs.Faces.Classes.{IsFaces, face_of, numbers}
use Rattle.plane.specs.Faces.DrawnRuns.{IsRunOf, drawn}
use Rattle.plane.specs.Faces.Halves.{Half, edge_of as half_edge_of, half_of, number, over}
use Rattle.plane.specs.Faces.PlacedPoints.{IsLocated}
use Rattle.plane.specs.Faces.Replays.{list_after, replay}
use Rattle.plane.specs.Faces.RestRuns.{sum}
use Rattle.plane.specs.Rule.Doubled.{twice, twice_curve}
use Rattle.plane.specs.Rule.Plans.{Plan, curve, object}
use Rattle.plane.specs.Runs.Gaps.{edge_before}
use Rattle.plane.specs.Runs.Moves.{Move, live_from, steps_from}
use Rattle.plane.specs.Runs.Steps.{Run, Step}
use Rattle.plane.proofs.MoveLemmas.MadeSteps.{list_is}
use Rattle.plane.proofs.MoveLemmas.RunMoves.{run_known}
use Rattle.plane.proofs.Turning.FanNumbers.{below_number, number_below}
use Rattle.plane.proofs.Turning.Numbering.{number_half}
use Rattle.point_location.specs.Places.{IsCell}
use Rattle.straight_predicates.specs.EdgeLists.{edge_of, no_point}
use Rattle.tubes.specs.DrawnEdges.{edges_of, straight_edge}
use Rattle.tubes.proofs.EdgeLemmas.{drawn_edges}
use Rattle.area_faults.specs.RestFaces.{AreRunFaces, half_edges, half_plan, half_points, rest_plan}
use Rattle.area_faults.proofs.RestDrawings.{is_doubled}

-- ---- the lists of edges and points
maps_are : (d : Plan) (xs : List ℕ)
    → map (λ (i : ℕ). straight_edge (twice_curve (curve d i))) xs
    ≡ map straight_edge (map twice_curve (map (λ (i : ℕ). curve d i) xs))
maps_are d [] = refl
maps_are d (x ∷ xs) =
    ap (λ (es : List Edge). straight_edge (twice_curve (curve d x)) ∷ es) (maps_are d xs)

-- the edges are those of the rest in half units
pub edges_are : (d : Plan) (kept : List ℕ)
    → half_edges d kept ≡ edges_of (half_plan (rest_plan d kept))
edges_are d kept = maps_are d kept

pub object_point : (d : Plan) (left : List ℕ) (j : ℕ) → j < length d.points
    → slice_index_or (half_points d left) j no_point ≡ twice (object d j)
object_point d left j l =
    let n = length-map d.points (λ (p : Placed). twice p.at) in
    get_or_append_left (map (λ (p : Placed). twice p.at) d.points)
    (map (λ (i : ℕ). sum (curve d i)) left) no_point j (omega (arith, l, n))
    ∙ get_or-map (λ (p : Placed). twice p.at) d.points j _ no_point l

pub middle_point : (d : Plan) (left : List ℕ) (m : ℕ) → m < length left
    → slice_index_or (half_points d left) (length d.points + m) no_point
    ≡ sum (curve d (slice_index left m))
middle_point d left m l =
    let n = length-map d.points (λ (p : Placed). twice p.at) in
    ap (λ (k : ℕ). slice_index_or (half_points d left) (k + m) no_point) (sym n)
    ∙ get_or-append-add (map (λ (p : Placed). twice p.at) d.points)
    (map (λ (i : ℕ). sum (curve d i)) left) m no_point
    ∙ get_or-map (λ (i : ℕ). sum (curve d i)) left m 0 no_point l

pub points_count : (d : Plan) (left : List ℕ)
    → length (half_points d left) ≡ length d.points + length left
points_count d left =
    let a = length-append (map (λ (p : Placed). twice p.at) d.points)
    (map (λ (i : ℕ). sum (curve d i)) left) in
    let b = length-map d.points (λ (p : Placed). twice p.at) in
    let c = length-map left (λ (i : ℕ). sum (curve d i)) in
    omega (arith, a, b, c)

-- ---- the run
module _ (d : Plan) (kept : List ℕ) (straights : (k : ℕ) → k < length (rest_plan d kept).curves
    → (curve (rest_plan d kept) k).kind ≡ kind.Straight)
    (vs : List Move)
    (run : Run (length (half_edges d kept)) (edge_of (half_edges d kept))
    (steps_from [] vs)) where
  abbrev pub e : Plan
  e = half_plan (rest_plan d kept)

  abbrev pub E : ℕ → Edge
  E = edge_of (edges_of (half_plan (rest_plan d kept)))

  abbrev pub steps : List Step
  steps = steps_from [] vs

  pub curves_count : length (half_plan (rest_plan d kept)).curves ≡ length kept
  curves_count = (is_doubled (rest_plan d kept)).count ∙ length-map kept (λ (i : ℕ). curve d i)

  pub edges_count : length (half_edges d kept) ≡ length kept
  edges_count = length-map kept (λ (i : ℕ). straight_edge (twice_curve (curve d i)))

  pub half_straights : (k : ℕ) → k < length (half_plan (rest_plan d kept)).curves
      → (curve (half_plan (rest_plan d kept)) k).kind ≡ kind.Straight
  half_straights k l =
      let m : k < length (rest_plan d kept).curves =
      (let n = (is_doubled (rest_plan d kept)).count in omega (arith, l, n)) in
      ap (λ (c : Curve). c.kind) ((is_doubled (rest_plan d kept)).curves k m) ∙ straights k m

  same_edge : edge_of (half_edges d kept) ≡ edge_of (edges_of (half_plan (rest_plan d kept)))
  same_edge = ap (λ (es : List Edge). edge_of es) (edges_are d kept)

  pub is_run : IsRunOf (half_plan (rest_plan d kept))
      (edge_of (edges_of (half_plan (rest_plan d kept)))) (steps_from [] vs)
  is_run = record {
    edges = drawn_edges e half_straights;
    run = subst (λ (n : ℕ). Run n E steps) (edges_count ∙ sym curves_count)
        (subst (λ (F : ℕ → Edge). Run (length (half_edges d kept)) F steps) same_edge run);
  }

  -- a replay of the edges is one of the rest in half units
  same_replay : replay (pos 0) (length (half_edges d kept)) (edge_of (half_edges d kept))
      (steps_from [] vs) ≡ drawn (pos 0) (half_plan (rest_plan d kept))
      (edge_of (edges_of (half_plan (rest_plan d kept)))) (steps_from [] vs)
  same_replay =
      ap (λ (n : ℕ). replay (pos 0) n (edge_of (half_edges d kept)) steps) (edges_count
      ∙ sym curves_count)
      ∙ ap (λ (F : ℕ → Edge). replay (pos 0) (length e.curves) F steps) same_edge

  pub cell_edge : (v : Point) (p i : ℕ) (upper : Option ℕ)
      → IsCell (half_edges d kept) vs v p (Some i) upper → i < length kept
  cell_edge v p i upper c =
      let k = run_known (length (half_edges d kept))
      (edge_of (half_edges d kept)) vs c.events i run c.known
      (before_has (live_from [] (take c.events vs)) p i (sym c.lower_is)) in
      let n = edges_count in omega (arith, k, n)

  -- ---- its faces
  module _ (l : Labelled) (faces : AreRunFaces (length kept) vs l) where
    abbrev pub face : Half → ℕ
    face h = slice_index l.mesh.face (number h)

    pub faces_there : IsFaces
        (drawn (pos 0) (half_plan (rest_plan d kept))
        (edge_of (edges_of (half_plan (rest_plan d kept)))) (steps_from [] vs))
        (λ h. slice_index l.mesh.face (number h))
    faces_there =
        subst (λ (n : ℕ). IsFaces (replay (pos 0) n E steps) face) (sym curves_count)
        (faces.faces (pos 0) E (subst (λ (n : ℕ). Run n E steps) curves_count is_run.run))

    within : (h : Half) → half_edge_of h < length (half_plan (rest_plan d kept)).curves
        → number h < size l.mesh
    within h m =
        let n = number_below h (length e.curves) m in
        let s = faces.size_is in let c = curves_count in omega (arith, n, s, c)

    pub face_below : (h : Half) → half_edge_of h < length (half_plan (rest_plan d kept)).curves
        → slice_index l.mesh.face (number h) < l.count
    face_below h m = faces.below (number h) (within h m)

    pub face_used : (n : ℕ) → 0 < n → n < l.count
        → (h : Half) × (half_edge_of h < length (half_plan (rest_plan d kept)).curves)
        × (slice_index l.mesh.face (number h) ≡ n)
    face_used n p q =
        let (i, m, f) = faces.used n p q in
        let s = faces.size_is in
        let c = curves_count in
        let h = number_half i in (
          half_of i,
          below_number (half_of i) (length e.curves) (omega (arith, h, m, s, c)),
          ap (slice_index l.mesh.face) h ∙ f,
        )

    -- ---- cells
    over_is : (o : Option ℕ)
        → over_or (numbers (λ h. slice_index l.mesh.face (number h))) 0 o ≡ face_over l.mesh.face o
    over_is None = refl
    over_is (Some i) = refl

    pub cell_number : (v : Point) (p : ℕ) (lower upper : Option ℕ)
        (c : IsCell (half_edges d kept) vs v p lower upper)
        → IsLocated (drawn (pos 0) (half_plan (rest_plan d kept))
        (edge_of (edges_of (half_plan (rest_plan d kept)))) (steps_from [] vs)) v c.events p
        × (face_of (drawn (pos 0) (half_plan (rest_plan d kept))
        (edge_of (edges_of (half_plan (rest_plan d kept)))) (steps_from [] vs))
        (λ h. slice_index l.mesh.face (number h)) (position c.events p)
        ≡ face_over l.mesh.face lower)
    cell_number v p lower upper c =
        let at_v = subst (λ r. IsLocated r v c.events p) same_replay (c.located (pos 0)) in
        let list = list_is [] vs c.events c.known in (
          at_v,
          label_before (numbers face) 0 p (list_after [] steps c.events) at_v.index
              ∙ ap (λ (es : List ℕ). over_or (numbers face) 0 (edge_before es p)) list
              ∙ ap (over_or (numbers face) 0) (sym c.lower_is)
              ∙ over_is lower,
        )

    pub cell_below : (v : Point) (p : ℕ) (lower upper : Option ℕ)
        → IsCell (half_edges d kept) vs v p lower upper → face_over l.mesh.face lower < l.count
    cell_below v p None upper c = faces.some
    cell_below v p (Some i) upper c =
        let k = cell_edge v p i upper c in
        face_below (over i) (let n = curves_count in omega (arith, k, n))
