-- The tube of one half arc of a drawing settles its own edges.
use Rattle.std.proofs.Common.{◌≡◌, ◌⊎◌, ℕ, ◌+◌, ◌<◌, List, length, get_or, refl, arith, ap, sym}
use Rattle.std.proofs.Common.{◌∙◌, subst}
use Rattle.plane.specs.declared.kinds.Point.{Point}
use Rattle.plane.specs.declared.kinds.CurveKind.{CurveKind}
use Rattle.plane.specs.declared.kinds.CurveKind.TheVariants as kind
use Rattle.plane.specs.Lists.{Has}
use Rattle.plane.specs.Forms.Vectors.{point, Edge}
use Rattle.plane.specs.Rule.Curves.{arc}
use Rattle.plane.specs.Rule.Plans.{Plan, curve}
use Rattle.plane.specs.Forms.Meets.{IsEnd, Disjoint, Touch}
use Rattle.plane.specs.Tubes.Bays.{Bay, IsTube}
use Rattle.plane.specs.Tubes.Windings.{Tile, InTile, tiles, IsCornerOf}
use Rattle.plane.specs.CurveRuns.TubedRuns.{Owned, edges_of, edge_list, no_edge, owned, Connects}
use Rattle.plane.specs.CurveRuns.TubedRuns.{first_edge}
use Rattle.plane.proofs.TubedRuns.EdgeNumbers.{from_at, group_at, group_of}
use Rattle.plane.proofs.TubedRuns.OwnedEdges.{no_curve}
use Rattle.plane.proofs.TubedRuns.ArcEdges.{edge_curve}
use Rattle.plane.proofs.OneTube.OneTubeEdges.{edges_meet}
use Rattle.plane.proofs.OneTube.OneTubeCorners.{own_corners}

module _ (d : Plan) (bays : ℕ → List Bay) where
  -- the place of edge e among those of half arc i
  record IsPlaceOf (i e : ℕ) : Type 0 where
    pub place : ℕ
    pub fits : place < length (edges_of i kind.HalfArc (curve d i) (bays i))
    pub number : e ≡ first_edge bays 0 d.curves i + place
    pub is : owned d bays e ≡ get_or (edges_of i kind.HalfArc (curve d i) (bays i)) place no_edge

  place_of : (i e : ℕ) → (curve d i).kind ≡ kind.HalfArc → e < length (edge_list bays 0 d.curves)
      → (owned d bays e).curve ≡ i → IsPlaceOf i e
  place_of i e bent l o =
      let g = group_of bays no_curve 0 d.curves e l in
      let n : g.curve ≡ g.index = (let a = g.number in omega (arith, a)) in
      let q : owned d bays e
      ≡ get_or (edges_of g.curve (curve d g.index).kind (curve d g.index) (bays g.curve))
      g.place no_edge =
      ap (owned d bays) g.is
      ∙ from_at (owned d bays) (first_edge bays 0 d.curves g.index) g.place _
      (group_at bays no_curve 0 d.curves g.index g.curve g.fits g.number) g.there in
      let c : g.curve ≡ i = sym (ap (λ (y : Owned). y.curve) q
      ∙ edge_curve (curve d g.index).kind (curve d g.index)
      (bays g.curve) g.curve g.place g.there) ∙ o in
      let j : g.index ≡ i = sym n ∙ c in
      at_kind (curve d i).kind g.place bent refl
      (subst (λ (y : ℕ). g.place < length (edges_of i (curve d y).kind (curve d y) (bays i))) j
      (subst (λ (y : ℕ). g.place < length
      (edges_of y (curve d g.index).kind (curve d g.index) (bays y))) c g.there))
      (subst (λ (y : ℕ). e ≡ first_edge bays 0 d.curves y + g.place) j g.is)
      (subst (λ (y : ℕ). owned d bays e
      ≡ get_or (edges_of i (curve d y).kind (curve d y) (bays i)) g.place no_edge) j
      (subst (λ (y : ℕ). owned d bays e
      ≡ get_or (edges_of y (curve d g.index).kind (curve d g.index) (bays y)) g.place no_edge) c
      q))
    where
      at_kind : (kd : CurveKind) (k : ℕ) → (curve d i).kind ≡ kind.HalfArc → (curve d i).kind ≡ kd
          → k < length (edges_of i kd (curve d i) (bays i)) → e ≡ first_edge bays 0 d.curves i + k
          → owned d bays e ≡ get_or (edges_of i kd (curve d i) (bays i)) k no_edge → IsPlaceOf i e
      at_kind kd k b c fits at is = record {
        place = k;
        fits = subst (λ (y : CurveKind). k < length (edges_of i y (curve d i) (bays i))) (sym c
            ∙ b) fits;
        number = at;
        is = subst (λ (y : CurveKind). owned d bays e
            ≡ get_or (edges_of i y (curve d i) (bays i)) k no_edge) (sym c ∙ b) is;
      }

  pub own_edges_meet : (i e f : ℕ) (a b : Edge) → (curve d i).kind ≡ kind.HalfArc
      → IsTube (arc (curve d i)) (bays i) → e < length (edge_list bays 0 d.curves)
      → f < length (edge_list bays 0 d.curves)
      → (owned d bays e).curve ≡ i → (owned d bays f).curve ≡ i → (e ≡ f → ⊥)
      → Connects a (owned d bays e).from (owned d bays e).to
      → Connects b (owned d bays f).from (owned d bays f).to → Disjoint a b ⊎ Touch a b
  own_edges_meet i e f a b bent t le lf oe of other ka kb =
      let x = place_of i e bent le oe in
      let y = place_of i f bent lf of in
      let nx = x.number in
      let ny = y.number in
      edges_meet i (curve d i) (bays i) x.place y.place a b t x.fits y.fits
      (λ q. other (omega (arith, q, nx, ny)))
      (subst (λ (o : Owned). Connects a o.from o.to) x.is ka)
      (subst (λ (o : Owned). Connects b o.from o.to) y.is kb)

  pub own_edges_enter : (i e : ℕ) (a : Edge) (p : Point) (t : Tile)
      → (curve d i).kind ≡ kind.HalfArc → IsTube (arc (curve d i)) (bays i)
      → e < length (edge_list bays 0 d.curves)
      → (owned d bays e).curve ≡ i → Connects a (owned d bays e).from (owned d bays e).to
      → IsEnd a p → Has t (tiles (curve d i).from (bays i)) → InTile t (point p)
      → IsCornerOf t p
  own_edges_enter i e a p t bent is l o k end has there =
      let x = place_of i e bent l o in
      own_corners i (curve d i) (bays i) x.place a p t is x.fits
      (subst (λ (y : Owned). Connects a y.from y.to) x.is k) end has there
