-- What the calls ask for: numbers by marks, edges that are not bad, and places whose edges are
-- known.
use Rattle.std.proofs.Common.{◌≡◌, Bool, true, false, ℕ, ◌<◌, ◌≤◌, Some, None, List, [], length}
use Rattle.std.proofs.Common.{slice_index_or, arith, ◌∙◌, subst, ap}
use Rattle.std.proofs.lemmas.List.{length-map}
use Rattle.area_search.specs.Unsettled.CurvePoints.{AreMarkedTo}
use Rattle.faces.specs.declared.labelled.Labelled.{Labelled}
use Rattle.half_edges.specs.HalfEdges.{size}
use Rattle.line_sweep.specs.Kinds.{AreBad}
use Rattle.near_pairs.specs.Boxes.{mark_of}
use Rattle.plane.specs.declared.kinds.CurveKind.TheVariants as kind
use Rattle.plane.specs.declared.kinds.Edge.{Edge}
use Rattle.plane.specs.declared.kinds.Point.{Point}
use Rattle.plane.specs.Rule.Plans.{Plan, curve}
use Rattle.plane.specs.Runs.Moves.{Move, steps_from}
use Rattle.plane.specs.Runs.Steps.{Run}
use Rattle.point_location.specs.declared.places.Place.{Place}
use Rattle.point_location.specs.declared.places.Place.TheVariants as place
use Rattle.point_location.specs.Places.{ArePlaces, IsPlaceOf, no_place}
use Rattle.straight_predicates.specs.EdgeLists.{edge_of, no_point}
use Rattle.tubes.specs.DrawnEdges.{edges_of, straight_edge}
use Rattle.plane.specs.Rule.Doubled.{twice_curve}
use Rattle.tubes.proofs.EdgeLemmas.{drawn_edges}
use Rattle.area_faults.specs.RestFaces.{AreMendable, AreParted, AreRunFaces, IsKnownPlace}
use Rattle.area_faults.specs.RestFaces.{half_edges, half_plan, rest_plan}
use Rattle.area_faults.proofs.PlacedFaces.{cell_edge, edges_are}
use Rattle.area_faults.proofs.RestDrawings.{is_doubled, none_bad, rest_straights}

-- the numbers by the marks
pub parted_by : (d : Plan) (marks : List Bool) (kept left : List ℕ) → length marks ≡ length d.curves
    → AreMarkedTo marks false (length marks) kept → AreMarkedTo marks true (length marks) left
    → AreParted d marks kept left
parted_by d marks kept left s a b = record {
  size = s;
  kept_are = subst (λ (n : ℕ). AreMarkedTo marks false n kept) s a;
  left_are = subst (λ (n : ℕ). AreMarkedTo marks true n left) s b;
}

pub edges_size : (d : Plan) (kept : List ℕ) → length (half_edges d kept) ≡ length kept
edges_size d kept = length-map kept (λ (i : ℕ). straight_edge (twice_curve (curve d i)))

module _ (d : Plan) (marks : List Bool) (kept left : List ℕ) (parted : AreParted d marks kept left)
    (mend : AreMendable d (mark_of marks)) where
  abbrev out : ℕ → Bool
  out i = mark_of marks i

  pub few_edges : length (half_edges d kept) ≤ 16000000
  few_edges =
      let a = edges_size d kept in
      let b = parted.kept_are.few in let c = mend.few in omega (arith, a, b, c)

  pub straights_stay : (k : ℕ) → k < length (rest_plan d kept).curves
      → (curve (rest_plan d kept) k).kind ≡ kind.Straight
  straights_stay =
      rest_straights d out kept parted.kept_are.known parted.kept_are.mark_is parted.kept_are.rising
      parted.kept_are.whole mend.straights

  half_kinds : (k : ℕ) → k < length (half_plan (rest_plan d kept)).curves
      → (curve (half_plan (rest_plan d kept)) k).kind ≡ kind.Straight
  half_kinds k l =
      let n = (is_doubled (rest_plan d kept)).count in
      let m : k < length (rest_plan d kept).curves = omega (arith, l, n) in
      ap (λ c. c.kind) ((is_doubled (rest_plan d kept)).curves k m) ∙ straights_stay k m

  -- no two edges of the curves that stay are bad
  pub never_bad : (edges : List Edge) → edges ≡ half_edges d kept → (a b : ℕ) → AreBad edges a b → ⊥
  never_bad edges same a b h =
      by (subst (λ (es : List Edge). AreBad es a b) (same ∙ edges_are d kept) h)
    where
      by : AreBad (edges_of (half_plan (rest_plan d kept))) a b → ⊥
      by k =
          let n = edges_size d kept in
          let s = ap length (edges_are d kept) in
          let x = k.first in
          let y = k.second in
          none_bad d out kept parted.kept_are.known parted.kept_are.mark_is parted.kept_are.rising
          parted.kept_are.whole mend.straights mend.pairs
          (edge_of (edges_of (half_plan (rest_plan d kept))))
          (drawn_edges (half_plan (rest_plan d kept)) half_kinds) a b (omega (arith, x, n, s))
          (omega (arith, y, n, s)) k.differ k.bad

  -- ---- places
  module _ (vs : List Move)
      (run : Run (length (half_edges d kept)) (edge_of (half_edges d kept)) (steps_from [] vs))
      (l : Labelled) (faces : AreRunFaces (length kept) vs l) where
    known_place : (v : Point) (s : Place) → IsPlaceOf (half_edges d kept) vs v s
        → IsKnownPlace (size l.mesh) s
    known_place v (place.Cell p None upper) c = tt
    known_place v (place.Cell p (Some i) upper) c =
        let k = cell_edge d kept straights_stay vs run v p i upper c in
        let s = faces.size_is in omega (arith, k, s)
    known_place v (place.OnEdge i) c =
        let k = c.known in
        let n = edges_size d kept in let s = faces.size_is in omega (arith, k, n, s)

    pub known_places : (points : List Point) (places : List Place)
        → ArePlaces (half_edges d kept) vs points places → (j : ℕ) → j < length places
        → IsKnownPlace (size l.mesh) (slice_index_or places j no_place)
    known_places points places a j k =
        known_place (slice_index_or points j no_point) (slice_index_or places j no_place)
        (a.each j (let s = a.size in omega (arith, k, s)))
