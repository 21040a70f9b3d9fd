-- What the tube of one half arc in a run knows of its hits: at its ends, on its circle, and along
-- segments within it.
use Rattle.std.proofs.Common.{◌≡◌, ℕ, ◌<◌, List, ◌∷◌, length, ℤ, pos, ◌+ℤ◌, ◌<ℤ◌, ◌≤ℤ◌, ◌⊎◌, ◌↔◌}
use Rattle.std.proofs.Common.{inl, inr, refl, arith, sym, subst}
use Rattle.std.proofs.lemmas.Int.{ints}
use Rattle.plane.specs.declared.kinds.Point.{Point}
use Rattle.plane.specs.declared.kinds.Curve.{Curve}
use Rattle.plane.specs.declared.kinds.CurveKind.TheVariants as kind
use Rattle.plane.specs.Forms.Vectors.{Vector, Place, Same, mix, point, Edge}
use Rattle.plane.specs.Forms.Arcs.{power}
use Rattle.plane.specs.Rule.HalfArcs.{IsOnHalfArc, HitsHalfArc}
use Rattle.plane.specs.Rule.Curves.{arc}
use Rattle.plane.specs.Rule.Plans.{Plan, curve}
use Rattle.plane.specs.Runs.Steps.{Step}
use Rattle.plane.specs.Tubes.Bays.{Bay, IsTube, OnInner, OnOuter, AtEnds}
use Rattle.plane.specs.Tubes.Bays as one
use Rattle.plane.specs.Tubes.Windings.{tiles, InSomeTile}
use Rattle.plane.specs.Tubes.Facing.{way, tip}
use Rattle.plane.specs.CurveRuns.Extended.{IsOnWay}
use Rattle.plane.specs.CurveRuns.TubedRuns.{IsTubedRun, tube_start, tube_bays, first_bay}
use Rattle.plane.specs.CurveRuns.TubedRuns.{later_bays}
use Rattle.plane.proofs.Windings.Ways.{way_start, way_end}
use Rattle.plane.proofs.Windings.CommonPlaces.{in_some_same}
use Rattle.plane.proofs.OneTube.TubeLaws.{tube_covers, tube_away, tube_keeps_sign}
use Rattle.plane.proofs.HalfArcs.ArcHits.{hits_half_arc, hits_arc}
use Rattle.plane.proofs.Covers.HalfArcPlaces.{from_on, to_on, on_half_arc_same}
use Rattle.plane.proofs.Covers.SamePlace.{same_sym}
use Rattle.plane.proofs.Caps.Signed.{between_first}
use Rattle.plane.proofs.TubedRuns.ArcEdges as edges

module _ (d : Plan) (bays : ℕ → List Bay) (m : ℕ) (E : ℕ → Edge) (steps : List Step)
    (is : IsTubedRun d bays m E steps) where
  module _ (i : ℕ) (l : i < length d.curves) (bent : (curve d i).kind ≡ kind.HalfArc) where
    abbrev c : Curve
    c = curve d i

    abbrev bs : List Bay
    bs = bays i

    t : IsTube (arc c) bs
    t = edges.t d bays m E steps is i l bent

    its_places : (z : Vector)
        → InSomeTile
        (tiles (tube_start c) (first_bay (tube_bays c bs) ∷ later_bays (tube_bays c bs))) z
        ↔ one.InTube c.from bs z
    its_places = edges.its_places d bays m E steps is i l bent

    ends_at_arc : (P : Point → Type 0)
        → P (tube_start c) ⊎ P (tip (first_bay (tube_bays c bs)) (later_bays (tube_bays c bs)))
        → P c.from ⊎ P c.to
    ends_at_arc = edges.ends_at_arc d bays m E steps is i l bent

    abbrev AtEnd : Vector → Type 0
    AtEnd z = Same z (point (tube_start c))
        ⊎ Same z (point (tip (first_bay (tube_bays c bs)) (later_bays (tube_bays c bs))))

    -- ---- hits
    pub place_hits : (z : Vector) → Place z → IsOnHalfArc (arc c) z → HitsHalfArc (arc c) z z
    place_hits z Z on =
        let e = on.circle in
        hits_half_arc (arc c) z z Z Z (record {
          u = z;
          v = z;
          u_place = Z;
          v_place = Z;
          u_between = between_first z z;
          v_between = between_first z z;
          u_away = on.away;
          v_away = on.away;
          u_in = omega (arith, ints, e);
          v_out = omega (arith, ints, e);
        })

    pub end_hits : (z : Vector) → Place z → AtEnd z → HitsHalfArc (arc c) z z
    end_hits z Z h = elim (ends_at_arc (λ p. Same z (point p)) h) [
      | inl e ↦ place_hits z Z
          (on_half_arc_same (arc c) (point c.from) z (omega (arith, ints)) Z
          (same_sym z (point c.from) e) (from_on (arc c)))
      | inr e ↦ place_hits z Z
          (on_half_arc_same (arc c) (point c.to) z (omega (arith, ints)) Z
          (same_sym z (point c.to) e) (to_on (arc c)))
    ]

    pub circle_hits : (z : Vector) → Place z
        → InSomeTile
        (tiles (tube_start c) (first_bay (tube_bays c bs) ∷ later_bays (tube_bays c bs))) z
        → power (arc c) z ≡ pos 0 → HitsHalfArc (arc c) z z
    circle_hits z Z k e =
        place_hits z Z (record {
          circle = e;
          away = tube_away (arc c) bs z t Z ((its_places z).0 k) (omega (arith, ints, e));
        })

    pub side_kept : (p q : Vector) → Place p → Place q
        → ((s u : ℤ) → pos 0 ≤ℤ s → pos 0 ≤ℤ u → pos 0 <ℤ (s +ℤ u)
        → InSomeTile
        (tiles (tube_start c) (first_bay (tube_bays c bs) ∷ later_bays (tube_bays c bs)))
        (mix s p u q))
        → (HitsHalfArc (arc c) p q → ⊥) → power (arc c) p <ℤ pos 0 → pos 0 <ℤ power (arc c) q → ⊥
    side_kept p q P Q way miss a b =
        let start_way = way_start p q in
        let end_way = way_end p q in
        let at_p = subst (λ (z : Vector). one.InTube c.from bs z) (sym start_way.is)
        ((its_places _).0
        (way start_way.s start_way.t start_way.s_least start_way.t_least start_way.some)) in
        let at_q = subst (λ (z : Vector). one.InTube c.from bs z) (sym end_way.is)
        ((its_places _).0
        (way end_way.s end_way.t end_way.s_least end_way.t_least end_way.some)) in
        elim (tube_keeps_sign (arc c) bs p q t P Q at_p at_q
        (λ h. miss (hits_half_arc (arc c) p q P Q h))) [
          | inl h ↦ (let x = h.1 in omega (arith, ints, b, x))
          | inr h ↦ (let x = h.0 in omega (arith, ints, a, x))
        ]

    -- a segment that hits the half arc has a place in the tube
    pub arc_covered : (p q : Vector) → Place p → Place q → HitsHalfArc (arc c) p q
        → (z : Vector) × IsOnWay p q z × InSomeTile
        (tiles (tube_start c) (first_bay (tube_bays c bs) ∷ later_bays (tube_bays c bs))) z
    arc_covered p q P Q h =
        let i = tube_covers (arc c) bs p q t P Q (hits_arc (arc c) p q P Q h) in
        let b = i.between in (
          mix b.s p b.t q,
          record {
            s = b.s;
            t = b.t;
            s_least = b.s_least;
            t_least = b.t_least;
            some = b.some;
            is = refl;
          },
          in_some_same
              (tiles (tube_start c) (first_bay (tube_bays c bs) ∷ later_bays (tube_bays c bs))) i.z
              (mix b.s p b.t q) i.place b.is ((its_places i.z).1 i.there),
        )
