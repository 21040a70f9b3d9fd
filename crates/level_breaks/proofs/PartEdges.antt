-- The edges of the parts of a curve, by their numbers and their points, and the boxes that hold
-- them.
use Rattle.std.proofs.Common.{rules, ◌≡◌, ◌↔◌, ◌⊎◌, inl, inr, ℕ, suc, ◌+◌, ◌-◌, ◌<◌, ◌≤◌, Bool}
use Rattle.std.proofs.Common.{true, false, cond, Option, Some, None, List, [], ◌∷◌, ◌++◌, length}
use Rattle.std.proofs.Common.{refl, arith, ap, sym, ◌∙◌, subst, add-one}
use Rattle.std.proofs.lemmas.List.{get_or_append_left}
use Rattle.plane.specs.Forms.Boxes.{Box, InBox}
use Rattle.plane.specs.Forms.Meets.{IsEnd}
use Rattle.plane.specs.Forms.Vectors.{Place, Vector, point}
use Rattle.plane.specs.Rule.Straights.{IsOnStraight}
use Rattle.plane.specs.Tubes.Bays.{InTriangle}
use Rattle.plane.specs.declared.kinds.Curve.{Curve}
use Rattle.plane.specs.declared.kinds.Edge.{Edge}
use Rattle.plane.specs.declared.kinds.Point.{Point}
use Rattle.straight_predicates.proofs.Orders.{by_lt}
use Rattle.straight_predicates.specs.EdgeLists.{edge_of, no_point}
use Rattle.near_pairs.specs.Boxes.{ShareAPlace}
use Rattle.tubes.specs.DrawnEdges.{comes_first, edge_from}
use Rattle.tubes.specs.TubedEdges.{chain_edges}
use Rattle.tubes.specs.declared.kinds.Tube.{Tube}
use Rattle.tubes.proofs.EdgeLemmas.{edge_ends}
use Rattle.tubes.proofs.TubeTriangles.{bay_back, bay_next}
use Rattle.level_breaks.specs.Groups.{AreGroups, Covers, HasChains, HoldsPoint, IsEdged, bays_of}
use Rattle.level_breaks.specs.Groups.{edges_with, nth}
use Rattle.level_breaks.specs.Parts.{EndsEnter, HasEdge, HoldsPart, HoldsStart, HoldsTubePart}
use Rattle.level_breaks.specs.Parts.{IsBeside, IsInGapBefore, IsInTriangles, PartsClash}
use Rattle.level_breaks.specs.declared.groups.Group.{Group}
use Rattle.level_breaks.proofs.BoxPoints.{bad_shares, covered}
use Rattle.level_breaks.proofs.GroupEdges.{count_is, inner_differs, inner_edge, outer_differs}
use Rattle.level_breaks.proofs.GroupEdges.{outer_edge, outer_is}
use Rattle.level_breaks.proofs.PlacedGroups.{beside, first_edged, second_edged}

-- ---- numbers
pub sizes_of : (c : Curve) (t : Tube) → HasChains c t
    → length t.inner.items ≡ suc (length t.outer.items)
sizes_of c t h = let a = ap length h.inner in let b = h.sizes in omega (arith, a, b)

pub inner_there : (c : Curve) (t : Option Tube) (i : ℕ) → IsEdged c t → i < bays_of t
    → i < length (edges_with c t)
inner_there c None i h l = absurd (omega (arith, l))
inner_there c (Some t) i h l = let e = count_is c t h in omega (arith, l, e)

pub outer_there : (c : Curve) (t : Option Tube) (i : ℕ) → IsEdged c t → i ≤ bays_of t
    → bays_of t + i < length (edges_with c t)
outer_there c None i h l = omega (arith, l)
outer_there c (Some t) i h l = let e = count_is c t h in omega (arith, l, e)

pub edge_number : (c : Curve) (t : Option Tube) (i : ℕ) (f : Edge) → IsEdged c t → i ≤ bays_of t
    → HasEdge c t i f → (n : ℕ) × (n < length (edges_with c t)) × (f ≡ edge_of (edges_with c t) n)
edge_number c t i f h l (inl e) = (bays_of t + i, outer_there c t i h l, e)
edge_number c t i f h l (inr (m, e)) = (i, inner_there c t i h m, e)

pub has_part : (c : Curve) (t : Option Tube) (n : ℕ) → IsEdged c t → n < length (edges_with c t)
    → (i : ℕ) × (i ≤ bays_of t) × HasEdge c t i (edge_of (edges_with c t) n)
has_part c None n h l =
    (0, omega arith, inl (ap (λ (k : ℕ). edge_of (edges_with c None) k) (zero_is n l)))
  where
    zero_is : (n : ℕ) → n < 1 → n ≡ 0
    zero_is n l = omega (arith, l)
has_part c (Some t) n h l =
    let e = count_is c t h in
    by_lt n (length t.outer.items)
    (λ (m : n < length t.outer.items). (n, omega (arith, m), inr (m, refl)))
    (λ (m : length t.outer.items ≤ n). (
      n - length t.outer.items,
      omega (arith, e, l),
      inl (ap (λ (k : ℕ). edge_of (edges_with c (Some t)) k) (omega (arith, m))),
    ))

-- ---- one of a part's edges
module _ (c : Curve) (t : Option Tube) (i : ℕ) (P : Edge → Type 0) where
  pub some_edge : (P (edge_of (edges_with c t) (bays_of t + i))
      ⊎ ((i < bays_of t) × P (edge_of (edges_with c t) i))) ↔ ((f : Edge) × HasEdge c t i f × P f)
  some_edge = (
    (λ x. elim x [
      | inl p ↦ (edge_of (edges_with c t) (bays_of t + i), inl refl, p)
      | inr y ↦ (edge_of (edges_with c t) i, inr (y.0, refl), y.1)
    ]),
    (λ (f, h, p). elim h [ inl e ↦ inl (subst P e p) | inr y ↦ inr (y.0, subst P y.1 p) ]),
  )

-- one of an edge's ends
pub ends_or : (P : Point → Type 0) (f : Edge)
    → (P f.low ⊎ P f.high) ↔ ((p : Point) × IsEnd f p × P p)
ends_or P f = (
  (λ x. elim x [ inl a ↦ (f.low, inl refl, a) | inr b ↦ (f.high, inr refl, b) ]),
  (λ (p, end, a). elim end [ inl e ↦ inl (subst P (sym e) a) | inr e ↦ inr (subst P (sym e) a) ]),
)

-- the bay or the gap before it
pub bay_or : (inner outer : List Point) (z : Vector) (j : ℕ)
    → (InTriangle z (point (nth inner j)) (point (nth inner (j + 1))) (point (nth outer j))
    ⊎ IsInGapBefore inner outer z j) ↔ IsInTriangles inner outer z j
bay_or inner outer z j = (
  (λ x. elim x [ inl a ↦ inl (bay_next inner outer z j a) | inr b ↦ inr b ]),
  (λ x. elim x [ inl a ↦ inl (bay_back inner outer z j a) | inr b ↦ inr b ]),
)

-- ---- points
inner_points : (c : Curve) (t : Tube) (h : HasChains c t) (k : ℕ) → k < length t.outer.items
    → edge_of (edges_with c (Some t)) k
    ≡ edge_from (nth t.inner.items k) (nth t.inner.items (suc k))
inner_points c t h k l =
    let ends = edge_ends (nth t.inner.items k) (nth t.inner.items (k + 1))
    (inner_differs c t h k l) in
    sym (inner_edge c t h k (edge_from (nth t.inner.items k) (nth t.inner.items (k + 1))) l ends.0
    ends.1) ∙ ap (λ (n : ℕ). edge_from (nth t.inner.items k) (nth t.inner.items n)) (add-one k)

outer_points : (c : Curve) (t : Tube) (h : HasChains c t) (i : ℕ) → i ≤ length t.outer.items
    → edge_of (edges_with c (Some t)) (length t.outer.items + i)
    ≡ edge_from (nth (c.from ∷ t.outer.items) i) (nth (t.outer.items ++ c.to ∷ []) i)
outer_points c t h i l =
    let os = t.outer.items in
    let ends = edge_ends (nth (c.from ∷ os) i) (nth (os ++ c.to ∷ []) i)
    (outer_differs c os i l h.outer_distinct) in
    sym (outer_edge c t h (length os + i) (omega arith))
    ∙ ap (λ (n : ℕ). edge_of (chain_edges c.from (os ++ c.to ∷ [])) n) (back (length os) i)
    ∙ sym (outer_is c os i (edge_from (nth (c.from ∷ os) i) (nth (os ++ c.to ∷ []) i)) l ends.0
    ends.1)
  where
    back : (m i : ℕ) → (m + i) - m ≡ i
    back m i = omega arith

edge_held : (b : Box) (p q : Point) → HoldsPoint b p → HoldsPoint b q
    → HoldsPoint b (edge_from p q).low × HoldsPoint b (edge_from p q).high
edge_held b p q h k = by_test (comes_first p q)
  where
    by_test : (t : Bool)
        → HoldsPoint b
        (Edge.low (cond t (record { low = p; high = q }) (record { low = q; high = p })))
        × HoldsPoint b
        (Edge.high (cond t (record { low = p; high = q }) (record { low = q; high = p })))
    by_test true = (h, k)
    by_test false = (k, h)

abbrev pub HoldsEdge : Box → Edge → Type 0
HoldsEdge b e = HoldsPoint b e.low × HoldsPoint b e.high

pub part_edge_held : (b : Box) (c : Curve) (t : Option Tube) (i : ℕ) (f : Edge) → IsEdged c t
    → i ≤ bays_of t → HoldsPart c t b i → HasEdge c t i f → HoldsEdge b f
part_edge_held b c None i f h l k (inl e) =
    subst (HoldsEdge b) (sym (e ∙ ap (λ (n : ℕ). edge_of (edges_with c None) n) (zero_is i l)))
    (edge_held b c.from c.to k.0 k.1)
  where
    zero_is : (n : ℕ) → n ≤ 0 → 0 + n ≡ 0
    zero_is n l = omega (arith, l)
part_edge_held b c None i f h l k (inr (m, e)) = absurd (omega (arith, m))
part_edge_held b c (Some t) i f h l k (inl e) =
    subst (HoldsEdge b) (sym (e ∙ outer_points c t h i l)) (edge_held b _ _ k.start k.end)
part_edge_held b c (Some t) i f h l k (inr (m, e)) =
    subst (HoldsEdge b) (sym (e ∙ inner_points c t h i m)) (edge_held b _ _ k.inner (k.next m))

pub part_again : (b a : Box) (c : Curve) (t : Tube) → Covers b a → (i : ℕ) → HoldsTubePart c t a i
    → HoldsTubePart c t b i
part_again b a c t k i h = record {
  inner = covered b a _ k h.inner;
  next = λ l. covered b a _ k (h.next l);
  start = covered b a _ k h.start;
  end = covered b a _ k h.end;
}

-- the next part begins where the part ends
pub next_start : (b : Box) (c : Curve) (t : Tube) (i : ℕ) → i < length t.outer.items
    → HoldsTubePart c t b i → HoldsStart c t b (i + 1)
next_start b c t i l h =
    subst (HoldsStart c t b) (sym (add-one i)) (record {
      inner = h.next l;
      outer = subst (HoldsPoint b) (get_or_append_left t.outer.items (c.to ∷ []) no_point i l)
          h.end;
    })

-- ---- what clashes shares a place
end_held : (b : Box) (f : Edge) (p : Point) → HoldsEdge b f → IsEnd f p → HoldsPoint b p
end_held b f p h (inl e) = subst (HoldsPoint b) e h.0
end_held b f p h (inr e) = subst (HoldsPoint b) e h.1

place_of : (p : Point) → Place (point p)
place_of p = search rules

turned : (a b : Box) → ShareAPlace a b → ShareAPlace b a
turned a b (z, Z, f, g) = (z, Z, g, f)

module _ (triangle : (b : Box) (z : Vector) (p q r : Point) → Place z → InBox b (point p)
    → InBox b (point q) → InBox b (point r) → InTriangle z (point p) (point q) (point r)
    → InBox b z)
    (straight : (b : Box) (z : Vector) (p q : Point) → Place z → InBox b (point p)
    → InBox b (point q) → IsOnStraight (point p) (point q) z → InBox b z) where
  triangles_held : (b : Box) (c : Curve) (t : Tube) (j : ℕ) (z : Vector) → Place z
      → j < length t.outer.items → HoldsTubePart c t b j
      → IsInTriangles t.inner.items t.outer.items z j → InBox b z
  triangles_held b c t j z Z l h (inl bay) =
      triangle b z (nth t.inner.items j) (nth t.inner.items (suc j)) (nth t.outer.items j) Z h.inner
      (h.next l) (subst (HoldsPoint b) (get_or_append_left t.outer.items (c.to ∷ []) no_point j l)
      h.end) bay
  triangles_held b c t j z Z l h (inr (i, e, gap)) =
      let m : suc i < length t.outer.items = subst (λ (n : ℕ). n < length t.outer.items)
      (sym e) l in
      let k : HoldsTubePart c t b (suc i) = subst (HoldsTubePart c t b) (sym e) h in
      triangle b z (nth t.inner.items (suc i)) (nth t.outer.items i)
      (nth t.outer.items (suc i)) Z k.inner k.start
      (subst (HoldsPoint b) (get_or_append_left t.outer.items (c.to ∷ []) no_point (suc i) m)
      k.end) gap

  enters_shares : (a b : Box) (c : Curve) (t : Option Tube) (i : ℕ) (e : Curve) (u : Option Tube)
      (j : ℕ)
      → IsEdged c t → i ≤ bays_of t → HoldsPart c t a i → HoldsPart e u b j → EndsEnter c t i e u j
      → ShareAPlace a b
  enters_shares a b c t i e None j h l A B (f, hf, (p, end, none)) = absurd none
  enters_shares a b c t i e (Some u) j h l A B (f, hf, (p, end, (away, (m, there)))) = (
    point p,
    place_of p,
    end_held a f p (part_edge_held a c t i f h l A hf) end,
    triangles_held b e u j (point p) (place_of p) m B there,
  )

  pub clash_shares : (g h : Group) (i j : ℕ) (a b : Box) → AreGroups g h → i ≤ bays_of g.tube.now
      → j ≤ bays_of h.tube.now → PartsClash g.curve.now g.tube.now h.curve.now h.tube.now i j
      → HoldsPart g.curve.now g.tube.now a i → HoldsPart h.curve.now h.tube.now b j
      → ShareAPlace a b
  clash_shares g h i j a b G l m (inl (f, hf, (k, hk, bad))) A B =
      let first = part_edge_held a g.curve.now g.tube.now i f (first_edged g h G) l A hf in
      let second = part_edge_held b h.curve.now h.tube.now j k (second_edged g h G) m B hk in
      bad_shares straight f k a b first.0 first.1 second.0 second.1 bad
  clash_shares g h i j a b G l m (inr (inl e)) A B =
      enters_shares a b g.curve.now g.tube.now i h.curve.now h.tube.now j
      (first_edged g h G) l A B e
  clash_shares g h i j a b G l m (inr (inr e)) A B =
      turned b a (enters_shares b a h.curve.now h.tube.now j g.curve.now g.tube.now i
      (second_edged g h G) m B A e)

-- ---- edges of two parts can be tested
pub inner_beside : (g h : Group) (i : ℕ) → AreGroups g h → i < bays_of g.tube.now
    → IsBeside (edge_of (edges_with g.curve.now g.tube.now) i) (edges_with h.curve.now h.tube.now)
inner_beside g h i G l = beside g h i G (inner_there g.curve.now g.tube.now i (first_edged g h G) l)

pub outer_beside : (g h : Group) (i : ℕ) → AreGroups g h → i ≤ bays_of g.tube.now
    → IsBeside (edge_of (edges_with g.curve.now g.tube.now) (bays_of g.tube.now + i))
    (edges_with h.curve.now h.tube.now)
outer_beside g h i G l =
    beside g h (bays_of g.tube.now + i) G
    (outer_there g.curve.now g.tube.now i (first_edged g h G) l)
