-- Places on curves of both kinds: equal places, segments of one place, and control points.
use Rattle.std.proofs.Common.{◌≡◌, ◌↔◌, inl, inr, arith, sym, ◌∙◌, subst}
use Rattle.std.proofs.lemmas.Int.{ints}
use Rattle.plane.specs.declared.kinds.Curve.{Curve}
use Rattle.plane.specs.declared.kinds.CurveKind.{CurveKind}
use Rattle.plane.specs.declared.kinds.CurveKind.TheVariants as kind
use Rattle.plane.specs.Rule.Places.{Vector, Place, Same, point}
use Rattle.plane.specs.Rule.HalfArcs.{power}
use Rattle.plane.specs.Rule.Curves.{arc, IsOnKind, HitsKind, IsOn, Hits, IsControl}
use Rattle.plane.proofs.Linear.EdgePlaces.{place_point}
use Rattle.plane.proofs.Covers.SamePlace.{same_refl, same_sym, on_straight_same, first_on, last_on}
use Rattle.plane.proofs.Covers.SamePlace.{segment_same}
use Rattle.plane.proofs.Covers.HalfArcPlaces.{not_inside_same, not_outside_same, away_same}
use Rattle.plane.proofs.Covers.HalfArcPlaces.{on_half_arc_same, level, from_on, to_on}

-- no curve is of both kinds
pub no_kind : (k : CurveKind) → k ≡ kind.Straight → k ≡ kind.HalfArc → ⊥
no_kind k e f = subst IsBent (sym f ∙ e) tt
  where
    IsBent : CurveKind → Type 0
    IsBent kind.Straight = ⊥
    IsBent kind.HalfArc = Unit {0}

on_kind_same : (k : CurveKind) (c : Curve) (z m : Vector) → Place z → Place m → Same z m
    → IsOnKind k c z → IsOnKind k c m
on_kind_same kind.Straight c z m Z M h on =
    on_straight_same (point c.from) (point c.to) z m (place_point c.from) (place_point c.to) Z M
    (same_sym z m h) on
on_kind_same kind.HalfArc c z m Z M h on = on_half_arc_same (arc c) z m Z M h on

pub on_same : (c : Curve) (z m : Vector) → Place z → Place m → Same z m → IsOn c z → IsOn c m
on_same c = on_kind_same c.kind c

-- ---- a segment between equal places is that place alone
hits_kind_same : (k : CurveKind) (c : Curve) (p q : Vector) → Place p → Place q → Same p q
    → HitsKind k c p q → IsOnKind k c q
hits_kind_same kind.Straight c p q P Q h hit =
    on_straight_same (point c.from) (point c.to) hit.z q (place_point c.from)
    (place_point c.to) hit.place Q
    (same_sym hit.z q (segment_same p q hit.z P Q hit.place h hit.of_segment)) hit.of_curve
hits_kind_same kind.HalfArc c p q P Q h hit =
    let u = segment_same p q hit.u P Q hit.u_place h hit.u_of_segment in
    let v = segment_same p q hit.v P Q hit.v_place h hit.v_of_segment in
    record {
      circle = level (power (arc c) q)
          (not_outside_same (arc c) hit.u q hit.u_place Q u hit.u_not_outside)
          (not_inside_same (arc c) hit.v q hit.v_place Q v hit.v_not_inside);
      away = away_same (arc c) hit.u q hit.u_place Q u hit.u_away;
    }

pub hits_same : (c : Curve) (p q : Vector) → Place p → Place q → Same p q → Hits c p q → IsOn c q
hits_same c = hits_kind_same c.kind c

hits_kind_alone : (k : CurveKind) (c : Curve) (z : Vector) → Place z → IsOnKind k c z
    → HitsKind k c z z
hits_kind_alone kind.Straight c z Z on =
    record { z = z; place = Z; of_segment = first_on z z Z Z; of_curve = on }
hits_kind_alone kind.HalfArc c z Z on =
    let e = on.circle in
    record {
      u = z;
      v = z;
      u_place = Z;
      v_place = Z;
      u_of_segment = first_on z z Z Z;
      v_of_segment = first_on z z Z Z;
      u_away = on.away;
      v_away = on.away;
      u_not_outside = omega (arith, ints, e);
      v_not_inside = omega (arith, ints, e);
    }

pub hits_alone : (c : Curve) (z : Vector) → Place z → Hits c z z ↔ IsOn c z
hits_alone c z Z =
    ((λ h. hits_same c z z Z Z (same_refl z) h), (λ h. hits_kind_alone c.kind c z Z h))

-- ---- control points
from_kind : (k : CurveKind) (c : Curve) → IsOnKind k c (point c.from)
from_kind kind.Straight c =
    first_on (point c.from) (point c.to) (place_point c.from) (place_point c.to)
from_kind kind.HalfArc c = from_on (arc c)

to_kind : (k : CurveKind) (c : Curve) → IsOnKind k c (point c.to)
to_kind kind.Straight c =
    last_on (point c.from) (point c.to) (place_point c.from) (place_point c.to)
to_kind kind.HalfArc c = to_on (arc c)

pub control_on : (c : Curve) (z : Vector) → Place z → IsControl c z → IsOn c z
control_on c z Z (inl h) =
    on_same c (point c.from) z (place_point c.from) Z (same_sym z (point c.from) h)
    (from_kind c.kind c)
control_on c z Z (inr h) =
    on_same c (point c.to) z (place_point c.to) Z (same_sym z (point c.to) h) (to_kind c.kind c)
