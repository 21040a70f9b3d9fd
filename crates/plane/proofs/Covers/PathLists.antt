-- Joined places by lists and by steps are the same.
use Rattle.std.proofs.Common.{◌↔◌, ℤ, ◌*ℤ◌, ◌<ℤ◌, List, [], ◌∷◌}
use Rattle.plane.specs.Rule.Places.{Vector, Place, Same}
use Rattle.plane.specs.Lists.{Each, Last, Neighbours}
use Rattle.plane.specs.Rule.Plans.{Plan, curve}
use Rattle.plane.specs.Rule.Partition.{IsOff, IsClear, Joined, IsOuter}
use Rattle.plane.specs.Forms.Paths.{Path, ends, goes}
use Rattle.plane.proofs.Covers.SamePlace.{same_refl}
use Rattle.plane.proofs.Covers.CurvePlaces.{on_same, hits_same}

-- a list that begins with p itself
record Route (d : Plan) (p q : Vector) : Type 0 where
  rest : List Vector
  arrives : Last (λ z. Same z q) (p ∷ rest)
  places : Each (λ z. Place z × IsOff d z) (p ∷ rest)
  clear : Neighbours (IsClear d) (p ∷ rest)

route : (d : Plan) (p q : Vector) → Place p → Path d p q → Route d p q
route d _ _ P (ends p q h off) = record {
  rest = [];
  arrives = h;
  places = ((P, off), tt);
  clear = (tt, tt);
}
route d _ _ P (goes p q s off Q miss path) =
    let r = route d q s Q path in
    record {
      rest = q ∷ r.rest;
      arrives = r.arrives;
      places = ((P, off), r.places);
      clear = (miss, r.clear);
    }

path_on : (d : Plan) (q p : Vector) (rest : List Vector) → Last (λ z. Same z q) (p ∷ rest)
    → Each (λ z. Place z × IsOff d z) (p ∷ rest) → Neighbours (IsClear d) (p ∷ rest) → Path d p q
path_on d q p [] a e n = ends p q a e.0.1
path_on d q p (r ∷ rest) a e n = goes p r q e.0.1 e.1.0.0 n.0 (path_on d q r rest a e.1 n.1)

joined_path : (d : Plan) (p q : Vector) → Place p → Joined d p q → Path d p q
joined_path d p q P h =
    let first = h.first in
    let First : Place first = h.places.0.0 in
    let off : IsOff d first = h.places.0.1 in
    goes p first q (λ i l on. off i l (on_same (curve d i) p first P First h.begins on)) First
    (λ i l hit. off i l (hits_same (curve d i) p first P First h.begins hit))
    (path_on d q first h.rest h.ends h.places h.clear)

pub joined_is_path : (d : Plan) (p q : Vector) → Place p → Joined d p q ↔ Path d p q
joined_is_path d p q P = (
  (λ h. joined_path d p q P h),
  (λ h. let r = route d p q P h in record {
    first = p;
    rest = r.rest;
    begins = same_refl p;
    ends = r.arrives;
    places = r.places;
    clear = r.clear;
  }),
)

pub outer_is_path : (d : Plan) (p : Vector) → Place p
    → IsOuter d p ↔ ((b : ℤ) → (q : Vector) × Place q × Path d p q × (q.x <ℤ (b *ℤ q.n)))
outer_is_path d p P = (
  (λ h b. let (q, Q, j, l) = h b in (q, Q, joined_path d p q P j, l)),
  (λ h b. let (q, Q, j, l) = h b in (q, Q, (joined_is_path d p q P).1 j, l)),
)
