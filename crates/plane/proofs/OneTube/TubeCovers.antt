-- The triangles of a tube cover its half arc, in the words of the partition rule.
use Rattle.std.proofs.Common.{◌≡◌, List, [], ◌∷◌, ◌↔◌, inl, inr, refl, subst}
use Rattle.plane.specs.declared.kinds.Point.{Point}
use Rattle.plane.specs.declared.kinds.Curve.{Curve}
use Rattle.plane.specs.declared.kinds.CurveKind.{CurveKind}
use Rattle.plane.specs.declared.kinds.CurveKind.TheVariants as kind
use Rattle.plane.specs.Forms.Vectors.{Vector, point}
use Rattle.plane.specs.Rule.Curves.{arc, HitsKind}
use Rattle.plane.specs.Rule.Triangles.{InTriangle, Triangle, InSome, Covers}
use Rattle.plane.specs.Tubes.Bays.{Bay, IsTube, InTube}
use Rattle.plane.specs.Tubes.Windings.{tiles}
use Rattle.plane.specs.Tubes.Windings as flat
use Rattle.plane.proofs.Linear.EdgePlaces.{place_point}
use Rattle.plane.proofs.Linear.Straights.{between_is}
use Rattle.plane.proofs.HalfArcs.ArcHits.{hits_arc}
use Rattle.plane.proofs.OneTube.TubeLaws.{tube_covers}
use Rattle.plane.proofs.OneTube.ArcTubes.{triangle_to, triangle_from, tiles_in_tube, tube_in_tiles}

-- a triangle of points as one of places
pub triangle : flat.Tile → Triangle
triangle t = record {
  a = point t.a;
  b = point t.b;
  c = point t.c;
  a_place = place_point t.a;
  b_place = place_point t.b;
  c_place = place_point t.c;
}

pub all_triangles : List flat.Tile → List Triangle
all_triangles [] = []
all_triangles (t ∷ ts) = triangle t ∷ all_triangles ts

pub places_of : (ts : List flat.Tile) (z : Vector) → InSome (all_triangles ts) z
    → flat.InSomeTile ts z
unfolding triangle all_triangles
places_of [] z h = absurd h.1
places_of (t ∷ ts) z (u, inl e, h) =
    (t, inl refl, triangle_from t z (subst (λ (x : Triangle). InTriangle z x.a x.b x.c) e h))
places_of (t ∷ ts) z (u, inr k, h) = let r = places_of ts z (u, k, h) in (r.0, inr r.1, r.2)

pub places_in : (ts : List flat.Tile) (z : Vector) → flat.InSomeTile ts z
    → InSome (all_triangles ts) z
unfolding triangle all_triangles
places_in [] z h = absurd h.1
places_in (t ∷ ts) z (u, inl e, h) =
    (triangle t, inl refl, triangle_to t z (subst (λ (x : flat.Tile). flat.InTile x z) e h))
places_in (t ∷ ts) z (u, inr k, h) = let r = places_in ts z (u, k, h) in (r.0, inr r.1, r.2)

-- ---- the triangles of a tube
pub triangles : Point → List Bay → List Triangle
triangles a bs = all_triangles (tiles a bs)

pub triangle_places : (a : Point) (bs : List Bay) (z : Vector)
    → InSome (triangles a bs) z ↔ InTube a bs z
unfolding triangles all_triangles
triangle_places a [] z = ((λ h. absurd h.1), (λ h. elim h [ inl k ↦ absurd k | inr k ↦ absurd k ]))
triangle_places a (b ∷ bs) z = (
  (λ h. tiles_in_tube a b bs z (places_of (tiles a (b ∷ bs)) z h)),
  (λ h. places_in (tiles a (b ∷ bs)) z (tube_in_tiles a b bs z h)),
)

pub triangles_cover : (c : Curve) (bs : List Bay) → c.kind ≡ kind.HalfArc → IsTube (arc c) bs
    → Covers (triangles c.from bs) c
triangles_cover c bs e t p q P Q hit =
    let h = tube_covers (arc c) bs p q t P Q
    (hits_arc (arc c) p q P Q (subst (λ (k : CurveKind). HitsKind k c p q) e hit)) in (
      h.z,
      h.place,
      (between_is p q h.z P Q h.place).0 h.between,
      (triangle_places c.from bs h.z).1 h.there,
    )
