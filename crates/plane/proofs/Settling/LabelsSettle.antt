-- A certificate's labels settle a run: an end of an edge in a tube is a corner of it, and an inner
-- corner that were not over the chord
-- would put a place of a straight with the same ends into the tube.
use Rattle.std.proofs.Common.{◌≡◌, ℕ, ◌<◌, List, [], ◌∷◌, length, ℤ, pos, ◌<ℤ◌, ◌≤ℤ◌, ◌⊎◌, inl, inr}
use Rattle.std.proofs.Common.{sym, ◌∙◌, subst}
use Rattle.std.proofs.lemmas.Int.{by_lt_z}
use Rattle.plane.specs.declared.kinds.Point.{Point}
use Rattle.plane.specs.declared.kinds.CurveKind.{CurveKind}
use Rattle.plane.specs.declared.kinds.CurveKind.TheVariants as kind
use Rattle.plane.specs.Lists.{Has}
use Rattle.plane.specs.Forms.Vectors.{Vector, point, Edge}
use Rattle.plane.specs.Forms.Meets.{IsEnd}
use Rattle.plane.specs.Rule.HalfArcs.{power, bow}
use Rattle.plane.specs.Rule.Curves.{arc, IsOnKind}
use Rattle.plane.specs.Rule.Plans.{Plan, curve, IsHalfArc}
use Rattle.plane.specs.Rule.BadPairs.{IsEndOf, HaveSameEnds}
use Rattle.plane.specs.Runs.Steps.{Step, WeighedRun}
use Rattle.plane.specs.Faces.Replays.{Replay, replay}
use Rattle.plane.specs.Faces.Labels.{Labels}
use Rattle.plane.specs.Faces.Halves.{Half, edge_of}
use Rattle.plane.specs.Tubes.Bays.{Bay}
use Rattle.plane.specs.Tubes.Bays as one
use Rattle.plane.specs.Tubes.Windings.{Tile, InTile, InSomeTile, tiles, IsCornerOf}
use Rattle.plane.specs.CurveRuns.Extended.{Tubes, AreTubes}
use Rattle.plane.specs.CurveRuns.TubedRuns.{IsTubedRun, AreTubeLabels, half_within, tubes, MeetsArc}
use Rattle.plane.specs.CurveRuns.Levels.{AreWide, IsSettledRun}
use Rattle.plane.proofs.ListLemmas.Lists.{each_has}
use Rattle.plane.proofs.Linear.EdgePlaces.{place_point}
use Rattle.plane.proofs.Linear.Straights.{between_straight}
use Rattle.plane.proofs.FaceLemmas.Drawn.{on_edge}
use Rattle.plane.proofs.Windings.Whole.{IsWhole, swept_whole}
use Rattle.plane.proofs.Windings.Enters.{event_corner}
use Rattle.plane.proofs.Windings.TileCorners.{end_event}
use Rattle.plane.proofs.OneTube.ArcTubes.{tiles_in_tube}
use Rattle.plane.proofs.OneTube.TubeCorners.{tile_corner}
use Rattle.plane.proofs.OneTube.Chords.{low_corner_place, inner_no_end}
use Rattle.plane.proofs.TubedRuns.OwnedEdges.{straight_edge}
use Rattle.plane.proofs.TubedRuns.FacingHalves.{faces}
use Rattle.plane.proofs.TubedRuns.TubedEdges.{facing}
use Rattle.plane.proofs.TubedRuns.RunTubes.{are_tubes, tube_owner, tube_places}
use Rattle.plane.proofs.TubedRuns.TubedCurves.{tube_of}
use Rattle.plane.proofs.TubedRuns.TubedApart.{straight_arc}
use Rattle.plane.proofs.Covers.CurvePlaces.{no_kind}
use Rattle.plane.proofs.Settling.DrawnTubes.{same_ends}
use Rattle.plane.proofs.Settling.SettledRuns.{half_corner, corner_arrow}

in_bays : (a : Point) (bs : List Bay) (z : Vector) → InSomeTile (tiles a bs) z → one.InTube a bs z
in_bays a [] z h = absurd h.1
in_bays a (b ∷ bs) z h = tiles_in_tube a b bs z h

module _ (d : Plan) (bays : ℕ → List Bay) (m : ℕ) (E : ℕ → Edge) (steps : List Step)
    (is : IsTubedRun d bays m E steps) (wide : AreWide d bays)
    (w : ℤ) (swept : WeighedRun w m E steps) (lab : Labels) (within : ℕ → Half) (inside outside : ℕ
    → ℕ) (L : AreTubeLabels d bays (replay w m E steps) lab within inside outside) where
  abbrev r : Replay
  r = replay w m E steps

  abbrev T : Tubes
  T = tubes d bays within inside outside

  whole : IsWhole r
  whole = swept_whole w m E steps swept

  all : AreTubes r lab T (MeetsArc d)
  all = are_tubes w d bays m E steps lab within inside outside swept is L

  enter : (e : ℕ) → e < m → (p : Point) → IsEnd (E e) p → (i : ℕ) → i < length d.curves
      → (curve d i).kind ≡ kind.HalfArc → (t : Tile) → Has t (tiles (curve d i).from (bays i))
      → InTile t (point p) → IsCornerOf t p
  enter e k p x i there bent t n within_t =
      let h : IsHalfArc d i = record { there = there; kind = bent } in
      let c = tube_of w d bays m E steps lab within inside outside swept is L i there bent in
      let j = end_event r whole e p k x in
      let q = sym j.2 in
      let in_c = (tube_places w d bays m E steps lab within inside outside swept is L c.0 c.1
      (point (r.step j.0).at)).1
      (subst (λ (y : ℕ). one.InTube (curve d y).from (bays y) (point (r.step j.0).at)) (sym c.2)
      (in_bays (curve d i).from (bays i) (point (r.step j.0).at)
      (t, n, subst (λ (y : Point). InTile t (point y)) q within_t))) in
      let g = event_corner r whole lab L.matched (T.label c.0) (T.first c.0) (T.bay c.0)
      (T.bays c.0) (T.halves c.0) (all.tube c.0 c.1) j.0 j.1 in_c in
      let fits = (all.tube c.0 c.1).faced.fits g.0 g.1 in
      let own = tube_owner w d bays m E steps lab within inside outside swept is L c.0 c.1 g.0 g.1
      ∙ c.2 in
      let f = facing d bays m E steps (half_within d bays E) is
      (faces d bays m E steps is) i there bent (edge_of g.0) fits own in
      let at_p = subst (IsEnd (E (edge_of g.0))) j.2 g.2 in
      tile_corner (arc (curve d i)) (curve d i).from (bays i) t p
      (is.tube i there bent).are_bays n within_t
      (corner_arrow d bays m E steps is wide i h p
      (half_corner d bays m E steps is wide i h p (half_within d bays E (edge_of g.0)) f.0
      (subst (λ (y : ℕ). IsEnd (E y) p) (sym f.1) at_p)))

  chord : (i j : ℕ) → i < length d.curves → j < length d.curves → (curve d i).kind ≡ kind.Straight
      → (curve d j).kind ≡ kind.HalfArc → HaveSameEnds (curve d i) (curve d j) → (b : Bay)
      → Has b (bays j)
      → IsEndOf (curve d j) b.inner ⊎ (pos 0 <ℤ bow (arc (curve d j)) (point b.inner))
  chord i j li lj ki kj same b has =
      elim (each_has (λ b. (power (arc (curve d j)) (point b.inner) <ℤ pos 0)
      ⊎ (b.inner ≡ (curve d j).to)) (bays j) b (is.tube j lj kj).inside has) [
        | inr e ↦ inl (inr (sym e))
        | inl under ↦ by_lt_z (pos 0) (bow (arc (curve d j)) (point b.inner)) (λ k. inr k)
            (λ (k : bow (arc (curve d j)) (point b.inner) ≤ℤ pos 0). absurd (low under k))
      ]
    where
      low : power (arc (curve d j)) (point b.inner) <ℤ pos 0
          → bow (arc (curve d j)) (point b.inner) ≤ℤ pos 0 → ⊥
      low under k =
          let (z, p) = low_corner_place (arc (curve d j)) (bays j) b
          (is.tube j lj kj) has under k in
          let x = straight_edge d bays m E steps is i li ki in
          let c = tube_of w d bays m E steps lab within inside outside swept is L j lj kj in
          let on = between_straight (point (curve d i).from) (point (curve d i).to) z
          (place_point (curve d i).from) (place_point (curve d i).to) p.place
          (same_ends (curve d i) (curve d j) z same p.between) in
          let on_x = on_edge w (E x.0) (curve d i) z x.3 ki (swept.rises x.0 x.1) p.place
          (subst (λ (y : CurveKind). IsOnKind y (curve d i) z) (sym ki) on) in
          let in_c = (tube_places w d bays m E steps lab within inside outside swept is L c.0 c.1
          z).1 (subst (λ (y : ℕ). one.InTube (curve d y).from (bays y) z) (sym c.2) p.there) in
          let differ : i ≡ j
          → ⊥ = λ q. no_kind (curve d i).kind ki
          (subst (λ (y : ℕ). (curve d y).kind ≡ kind.HalfArc) (sym q) kj) in
          let k = straight_arc w d bays m E steps lab within inside outside swept is L i j li lj
          differ ki kj x.0 c.0 x.1 x.2 x.3 c.1 c.2 z p.place on_x in_c in
          inner_no_end (arc (curve d j)) (bays j) z p k.1

  pub labels_settle : IsSettledRun d bays m E
  labels_settle = record { enter = enter; chord = chord }
