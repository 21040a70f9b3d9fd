-- The sides of rings: each runs along the edge of its half-edge.
use Rattle.std.proofs.Common.{◌≡◌, ℕ, zero, suc, ◌<◌, ◌*◌, arith, ap, sym, ◌∙◌, refl, inl, inr}
use Rattle.std.proofs.Common.{List, [], ◌∷◌, ◌++◌, map, subst}
use Rattle.std.proofs.lemmas.List.{map-append}
use Rattle.std.proofs.Common.{slice_index_or}
use Rattle.plane.specs.declared.kinds.Edge.{Edge}
use Rattle.plane.specs.declared.kinds.Point.{Point}
use Rattle.plane.specs.Faces.Directions.{origin}
use Rattle.plane.specs.Faces.Halves.{Half, edge_of, half_of, number, over, twin, under}
use Rattle.plane.specs.Lists.{Has}
use Rattle.straight_predicates.specs.EdgeLists.{HasEnds}
use Rattle.half_edges.specs.Cycles.{steps}
use Rattle.half_edges.specs.HalfEdges.{HalfEdges, next_of, size, twin_of}
use Rattle.half_edges.specs.Meshes.{IsMesh}
use Rattle.polygons.specs.Circles.{way}
use Rattle.polygons.specs.Polygons.{AreTraced, no_point, place_of}
use Rattle.polygons.specs.Regions.{AreAlong, Side, all_sides, sides_of, sides_to}
use Rattle.polygons.proofs.PlaneLaws.{below_number, number_half, number_twin}
use Rattle.polygons.proofs.Rounds.{steps_first}

-- the edge of a half-edge, by its number
abbrev pub line : ℕ → ℕ
line h = edge_of (half_of h)

-- the half-edges of all rings, in their order
abbrev pub halves_of : (m : HalfEdges) (at : List Point) (hs : List ℕ) (rings : List (List Point))
    → AreTraced m at hs rings → List ℕ
halves_of m at [] rings a = []
halves_of m at (h ∷ hs) [] a = []
halves_of m at (h ∷ hs) (r ∷ rs) (t, a) = way m h t.count ++ halves_of m at hs rs a

along_append : (E : ℕ → Edge) (ss ts : List Side) (is js : List ℕ) → AreAlong E ss is
    → AreAlong E ts js → AreAlong E (ss ++ ts) (is ++ js)
along_append E [] ts [] js a b = b
along_append E [] ts (i ∷ is) js a b = absurd a
along_append E (s ∷ ss) ts [] js a b = absurd a
along_append E (s ∷ ss) ts (i ∷ is) js (h, a) b = (h, along_append E ss ts is js a b)

twin_edge : (x : Half) → edge_of (twin x) ≡ edge_of x
twin_edge (under e) = refl
twin_edge (over e) = refl

half_ends : (E : ℕ → Edge) (x : Half) → HasEnds (E (edge_of x)) (origin E x) (origin E (twin x))
half_ends E (under e) = inr (refl, refl)
half_ends E (over e) = inl (refl, refl)

module _ (E : ℕ → Edge) (m : HalfEdges) (at : List Point) (n : ℕ) (mesh : IsMesh m)
    (count : size m ≡ 2 * n)
    (begins : (h : Half) → edge_of h < n → place_of m at (number h) ≡ origin E h) where
  pub line_below : (h : ℕ) → h < size m → line h < n
  line_below h l = below_number (half_of h) n (let e = number_half h in omega (arith, l, count, e))

  starts_at : (h : ℕ) → h < size m → place_of m at h ≡ origin E (half_of h)
  starts_at h l = ap (place_of m at) (sym (number_half h)) ∙ begins (half_of h) (line_below h l)

  ends_at : (h : ℕ) → h < size m → place_of m at (next_of m h) ≡ origin E (twin (half_of h))
  ends_at h l =
      ap (λ (v : ℕ). slice_index_or at v no_point) (mesh.joined h l)
      ∙ (ap (place_of m at) (ap twin_of (sym (number_half h)) ∙ sym (number_twin (half_of h)))
      ∙ begins (twin (half_of h))
      (subst (λ (e : ℕ). e < n) (sym (twin_edge (half_of h))) (line_below h l)))

  along_half : (h : ℕ) → h < size m
      → HasEnds (E (line h)) (place_of m at h) (place_of m at (next_of m h))
  along_half h l =
      subst (λ (p : Point). HasEnds (E (line h)) p (place_of m at (next_of m h)))
      (sym (starts_at h l))
      (subst (λ (q : Point). HasEnds (E (line h)) (origin E (half_of h)) q) (sym (ends_at h l))
      (half_ends E (half_of h)))

  along_way : (k h : ℕ) (end : Point) → h < size m
      → place_of m at (steps (next_of m) (suc k) h) ≡ end
      → AreAlong E (sides_to end (place_of m at h) (map (place_of m at) (way m (next_of m h) k)))
      (map line (way m h (suc k)))
  along_way zero h end l e =
      (subst (λ (q : Point). HasEnds (E (line h)) (place_of m at h) q) e (along_half h l), tt)
  along_way (suc k) h end l e = (
    along_half h l,
    along_way k (next_of m h) end (mesh.next_within h l)
        (ap (place_of m at) (sym (steps_first (next_of m) (suc k) h)) ∙ e),
  )

  along_count : (c h : ℕ) (corners : List Point) → h < size m → 0 < c → steps (next_of m) c h ≡ h
      → corners ≡ map (place_of m at) (way m h c)
      → AreAlong E (sides_of corners) (map line (way m h c))
  along_count zero h corners l some back is = absurd (omega (arith, some))
  along_count (suc k) h corners l some back is =
      subst (λ (ps : List Point). AreAlong E (sides_of ps) (map line (way m h (suc k)))) (sym is)
      (along_way k h (place_of m at h) l (ap (place_of m at) back))

  pub along_rings : (hs : List ℕ) (rings : List (List Point)) (a : AreTraced m at hs rings)
      → ((h : ℕ) → Has h hs → h < size m)
      → AreAlong E (all_sides rings) (map line (halves_of m at hs rings a))
  along_rings [] [] a inside = tt
  along_rings [] (r ∷ rs) a inside = absurd a
  along_rings (h ∷ hs) [] a inside = absurd a
  along_rings (h ∷ hs) (r ∷ rs) (t, a) inside =
      subst (λ (is : List ℕ). AreAlong E (sides_of r ++ all_sides rs) is)
      (sym (map-append line (way m h t.count) (halves_of m at hs rs a)))
      (along_append E (sides_of r) (all_sides rs) (map line (way m h t.count))
      (map line (halves_of m at hs rs a))
      (along_count t.count h r (inside h (inl refl)) t.round.some t.round.back t.is)
      (along_rings hs rs a (λ g i. inside g (inr i))))
