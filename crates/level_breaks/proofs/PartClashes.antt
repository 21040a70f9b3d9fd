-- Two curves break a level exactly where two of their parts clash or one is a straight under the
-- other's chord.
use Rattle.std.proofs.Common.{◌↔◌, ◌⊎◌, inl, inr, ℕ, suc, ◌<◌, ◌≤◌, Option, Some, None, length}
use Rattle.std.proofs.Common.{refl, arith, sym, subst}
use Rattle.plane.specs.Forms.Meets.{Bad, IsEnd}
use Rattle.plane.specs.Forms.Vectors.{Vector, point}
use Rattle.plane.specs.Lists.{Has}
use Rattle.plane.specs.declared.kinds.Curve.{Curve}
use Rattle.straight_predicates.specs.EdgeLists.{edge_of, no_edge, no_point}
use Rattle.tubes.specs.Holding.{InTubeOf}
use Rattle.tubes.specs.declared.kinds.Tube.{Tube}
use Rattle.tubes.proofs.TubeTriangles.{held_is}
use Rattle.level_breaks.specs.GroupBreaks.{AreBroken, IsEntered, IsInTube, OneIsUnderChord}
use Rattle.level_breaks.specs.GroupBreaks.{SomeMeet}
use Rattle.level_breaks.specs.Groups.{AreGroups, HasChains, IsEdged, IsTubed, bays_of, corners}
use Rattle.level_breaks.specs.Groups.{edges_with, nth}
use Rattle.level_breaks.specs.Parts.{EdgesMeet, EndsEnter, IsInPart, PartsClash, SomeClash}
use Rattle.level_breaks.specs.declared.groups.Group.{Group}
use Rattle.level_breaks.proofs.GroupEdges.{at_has, ends_are, has_at}
use Rattle.level_breaks.proofs.PartEdges.{edge_number, has_part, sizes_of}
use Rattle.level_breaks.proofs.PlacedGroups.{first_edged, second_edged}

-- ---- edges
meets_to : (c : Curve) (t : Option Tube) (e : Curve) (u : Option Tube) → IsEdged c t → IsEdged e u
    → SomeMeet (edges_with c t) (edges_with e u)
    → (i : ℕ) × (i ≤ bays_of t) × (j : ℕ) × (j ≤ bays_of u) × EdgesMeet c t i e u j
meets_to c t e u h k (n, l, (m, s, bad)) =
    let (i, li, hi) = has_part c t n h l in
    let (j, lj, hj) = has_part e u m k s in
    (i, li, j, lj, (edge_of (edges_with c t) n, hi, (edge_of (edges_with e u) m, hj, bad)))

meets_from : (c : Curve) (t : Option Tube) (e : Curve) (u : Option Tube) (i j : ℕ) → IsEdged c t
    → IsEdged e u → i ≤ bays_of t → j ≤ bays_of u → EdgesMeet c t i e u j
    → SomeMeet (edges_with c t) (edges_with e u)
meets_from c t e u i j h k li lj (f, hf, (g, hg, bad)) =
    let (n, l, a) = edge_number c t i f h li hf in
    let (m, s, b) = edge_number e u j g k lj hg in
    (n, l, (m, s, subst (λ x. Bad x (edge_of (edges_with e u) m)) a (subst (Bad f) b bad)))

-- ---- ends
part_of : (c : Curve) (t : Tube) (z : Vector) → HasChains c t → InTubeOf t z
    → (j : ℕ) × IsInPart t z j
part_of c t z h s = elim ((held_is t.inner.items t.outer.items z (sizes_of c t h)).1 s) [
  | inl b ↦ (b.0, (b.1, inl b.2))
  | inr g ↦ (suc g.0, (g.1, inr (g.0, refl, g.2)))
]

of_part : (c : Curve) (t : Tube) (z : Vector) (j : ℕ) → HasChains c t → IsInPart t z j
    → InTubeOf t z
of_part c t z j h (l, inl b) =
    (held_is t.inner.items t.outer.items z (sizes_of c t h)).0 (inl (j, l, b))
of_part c t z j h (l, inr (i, e, g)) =
    (held_is t.inner.items t.outer.items z (sizes_of c t h)).0
    (inr (i, subst (λ (n : ℕ). n < length t.outer.items) (sym e) l, g))

enters_to : (level : ℕ) (c : Curve) (t : Option Tube) (e : Curve) (u : Option Tube) → IsEdged c t
    → IsEdged e u → IsTubed level c t → IsEntered e u (corners c t)
    → (i : ℕ) × (i ≤ bays_of t) × (j : ℕ) × (j ≤ bays_of u) × EndsEnter c t i e u j
enters_to level c t e None h k d s = absurd s
enters_to level c t e (Some u) h k d (n, l, s) =
    let p = nth (corners c t) n in
    let (f, hf, end) = (ends_are level c t p d).1 (at_has no_point (corners c t) n l) in
    let (m, lm, fm) = has_at f no_edge (edges_with c t) hf in
    let (i, li, hi) = has_part c t m h lm in
    let (j, there) = part_of e u (point p) k s.there in
    let lj = there.0 in (
      i,
      li,
      j,
      omega (arith, lj),
      (
        edge_of (edges_with c t) m,
        hi,
        (p, subst (λ x. IsEnd x p) (sym fm) end, (s.no_end, there)),
      ),
    )

enters_from : (level : ℕ) (c : Curve) (t : Option Tube) (e : Curve) (u : Option Tube) (i j : ℕ)
    → IsEdged c t → IsEdged e u → IsTubed level c t → i ≤ bays_of t → EndsEnter c t i e u j
    → IsEntered e u (corners c t)
enters_from level c t e None i j h k d li (f, hf, (p, end, none)) = absurd none
enters_from level c t e (Some u) i j h k d li (f, hf, (p, end, (away, there))) =
    let (n, l, a) = edge_number c t i f h li hf in
    let has : Has p (corners c t) = (ends_are level c t p d).0 (
      edge_of (edges_with c t) n,
      at_has no_edge (edges_with c t) n l,
      subst (λ x. IsEnd x p) a end,
    ) in
    let (m, lm, q) = has_at p no_point (corners c t) has in (
      m,
      lm,
      subst (IsInTube e u) (sym q) (record {
        no_end = away;
        there = of_part e u (point p) j k there;
      }),
    )

-- ---- in all
abbrev pub AnyClash : Group → Group → Type 0
AnyClash g h = SomeClash g.curve.now g.tube.now h.curve.now h.tube.now

abbrev pub UnderChord : Group → Group → Type 0
UnderChord g h = OneIsUnderChord g.curve.now g.tube.now h.curve.now h.tube.now

abbrev pub Broken : Group → Group → Type 0
Broken g h = AreBroken g.curve.now g.tube.now h.curve.now h.tube.now

clash_at : (g h : Group) (i j : ℕ) → i ≤ bays_of g.tube.now → j ≤ bays_of h.tube.now
    → PartsClash g.curve.now g.tube.now h.curve.now h.tube.now i j → AnyClash g h
clash_at g h i j l m p = (i, omega arith, omega (arith, l), (j, omega arith, omega (arith, m), p))

module _ (g h : Group) (G : AreGroups g h) where
  mine : IsEdged g.curve.now g.tube.now
  mine = first_edged g h G

  other : IsEdged h.curve.now h.tube.now
  other = second_edged g h G

  broken_by : (i j : ℕ) → i ≤ bays_of g.tube.now → j ≤ bays_of h.tube.now
      → PartsClash g.curve.now g.tube.now h.curve.now h.tube.now i j → Broken g h
  broken_by i j l m (inl e) =
      inl (meets_from g.curve.now g.tube.now h.curve.now h.tube.now i j mine other l m e)
  broken_by i j l m (inr (inl e)) =
      inr (inr (inl
      (enters_from G.level g.curve.now g.tube.now h.curve.now h.tube.now i j mine other
      G.first.tubed l e)))
  broken_by i j l m (inr (inr e)) =
      inr (inl (inl
      (enters_from G.next h.curve.now h.tube.now g.curve.now g.tube.now j i other mine
      G.second.tubed m e)))

  onward : AnyClash g h ⊎ UnderChord g h → Broken g h
  onward (inl (i, a, l, (j, b, m, p))) = broken_by i j (omega (arith, l)) (omega (arith, m)) p
  onward (inr (inl u)) = inr (inl (inr u))
  onward (inr (inr u)) = inr (inr (inr u))

  back : Broken g h → AnyClash g h ⊎ UnderChord g h
  back (inl s) =
      let (i, l, j, m, e) = meets_to g.curve.now g.tube.now h.curve.now h.tube.now mine other s in
      inl (clash_at g h i j l m (inl e))
  back (inr (inl (inl s))) =
      let (j, m, i, l, e) = enters_to G.next h.curve.now h.tube.now g.curve.now g.tube.now other
      mine G.second.tubed s in
      inl (clash_at g h i j l m (inr (inr e)))
  back (inr (inl (inr u))) = inr (inl u)
  back (inr (inr (inl s))) =
      let (i, l, j, m, e) = enters_to G.level g.curve.now g.tube.now h.curve.now h.tube.now mine
      other G.first.tubed s in
      inl (clash_at g h i j l m (inr (inl e)))
  back (inr (inr (inr u))) = inr (inr u)

  pub broken_is : (AnyClash g h ⊎ UnderChord g h) ↔ Broken g h
  broken_is = ((λ s. onward s), (λ b. back b))
