-- Which side of an edge faces its tube, by the numbers that the tests compute.
use Rattle.std.proofs.Common.{◌≡◌, ℕ, zero, suc, ◌+◌, ◌<◌, ◌≤◌, ◌^◌, Bool, true, false, IsTrue}
use Rattle.std.proofs.Common.{cond, not, List, [], ◌∷◌, ◌++◌, map, length, get_or, slice_index_or}
use Rattle.std.proofs.Common.{ℤ, pos, ◌+ℤ◌, ◌*ℤ◌, ◌-ℤ◌, ◌<ℤ◌, ◌≤ℤ◌, arith, ap, refl, sym, ◌∙◌}
use Rattle.std.proofs.Common.{subst}
use Rattle.std.proofs.lemmas.Int.{by_lt_z, ints}
use Rattle.std.proofs.lemmas.List.{get_or_default}
use Rattle.std.specs.Int.Signed.{lt_z}
use Rattle.plane.specs.CurveRuns.TubedRuns as runs
use Rattle.plane.specs.Faces.Cells.{is_positive}
use Rattle.plane.specs.Forms.Arcs.{along}
use Rattle.plane.specs.Lists.{Each}
use Rattle.plane.specs.Numbers.{IsNear}
use Rattle.plane.specs.Rule.Curves.{arc}
use Rattle.plane.specs.Rule.HalfArcs.{HasCircle, bend}
use Rattle.plane.specs.Rule.Plans.{Plan, curve}
use Rattle.plane.specs.Rule.Turns.{AreNear, cross}
use Rattle.plane.specs.declared.kinds.Curve.{Curve}
use Rattle.plane.specs.declared.kinds.CurveKind.{CurveKind}
use Rattle.plane.specs.declared.kinds.CurveKind.TheVariants as kind
use Rattle.plane.specs.declared.kinds.Edge.{Edge}
use Rattle.plane.specs.declared.kinds.Point.{Point}
use Rattle.plane.proofs.Algebra.Ring.{at, minus, num, plus, ring, times, vars}
use Rattle.plane.proofs.ListLemmas.ListPairs.{each_at}
use Rattle.plane.proofs.TubedRuns.OwnedEdges.{no_curve}
use Rattle.plane.proofs.Strips.CountBelow.{not_positive, positive_is}
use Rattle.straight_predicates.specs.EdgeLists.{edge_of}
use Rattle.straight_predicates.specs.Signs.{HasSign}
use Rattle.straight_predicates.specs.declared.turns.Turn.{Turn}
use Rattle.straight_predicates.specs.declared.turns.Turn.TheVariants as turn
use Rattle.tubes.specs.DrawnEdges.{comes_first, edge_from}
use Rattle.tubes.specs.Facings.{HasSmallTube, IsSmall, listed_side, no_owner, owner_at, side_of}
use Rattle.tubes.specs.Settled.{AreFacings, HaveTubes, edge_at, edges_at, facing_at, facing_of}
use Rattle.tubes.specs.Settled.{owned_at}
use Rattle.tubes.specs.TubedEdges.{HasTube, IsTubedList, drawn_bays, edge_as, owner_as, part_of}
use Rattle.tubes.specs.declared.kinds.EdgeList.{EdgeList}
use Rattle.tubes.specs.declared.kinds.Facing.{Facing}
use Rattle.tubes.specs.declared.kinds.Facing.TheVariants as facing
use Rattle.tubes.specs.declared.kinds.Owner.{Owner}
use Rattle.tubes.proofs.ChainEdges.{owned_are}
use Rattle.tubes.proofs.CornerTests.{lt_test}
use Rattle.tubes.proofs.LevelEdges.{edge_count, list_sizes, owner_by_number, owner_within}
use Rattle.tubes.proofs.UsableEdges.{each_app, each_owned}

-- ---- the two tests
pub left_is : (c : Curve) → pos 0 <ℤ cross c.from c.to c.third → true ≡ runs.third_is_left c
unfolding bend
left_is c h = sym (positive_is (cross c.from c.to c.third) h)

pub left_is_not : (c : Curve) (t : Turn) → HasSign t (cross c.from c.to c.third)
    → (t ≡ turn.Left → ⊥) → false ≡ runs.third_is_left c
unfolding bend
left_is_not c turn.Left h n = absurd (n refl)
left_is_not c turn.Straight h n =
    sym (not_positive (cross c.from c.to c.third) (let e = h in omega (arith, ints, e)))
left_is_not c turn.Right h n =
    sym (not_positive (cross c.from c.to c.third) (let e = h in omega (arith, ints, e)))

not_true : (b : Bool) → (IsTrue b → ⊥) → b ≡ false
not_true true n = absurd (n refl)
not_true false n = refl

positive_test : (z : ℤ) → lt_z (pos 0) z ≡ is_positive z
positive_test z =
    by_lt_z (pos 0) z
    (λ (l : pos 0 <ℤ z). (lt_test (pos 0) z).1 l ∙ sym (positive_is z l))
    (λ (l : z ≤ℤ pos 0). not_true (lt_z (pos 0) z) (λ h. let k = (lt_test (pos 0) z).0 h in
    omega (arith, ints, k, l)) ∙ sym (not_positive z l))

pub runs_is : (c : Curve) (e : Edge) (wide tall right above sum : ℤ) → wide ≡ c.to.x -ℤ c.from.x
    → tall ≡ c.to.y -ℤ c.from.y → right ≡ e.high.x -ℤ e.low.x → above ≡ e.high.y -ℤ e.low.y
    → sum ≡ (wide *ℤ right) +ℤ (tall *ℤ above)
    → lt_z (pos 0) sum ≡ runs.runs_on c e
unfolding along
runs_is c e wide tall right above sum w t r a s =
    positive_test sum
    ∙ ap is_positive (s ∙ ap (λ z. (z *ℤ right) +ℤ (tall *ℤ above)) w
    ∙ ap (λ z. ((c.to.x -ℤ c.from.x) *ℤ right) +ℤ (z *ℤ above)) t
    ∙ ap (λ z. ((c.to.x -ℤ c.from.x) *ℤ z) +ℤ ((c.to.y -ℤ c.from.y) *ℤ above)) r
    ∙ ap (λ z. ((c.to.x -ℤ c.from.x) *ℤ (e.high.x -ℤ e.low.x)) +ℤ ((c.to.y -ℤ c.from.y) *ℤ z)) a
    ∙ moved c.from.x c.from.y (c.to.x -ℤ c.from.x)
    (c.to.y -ℤ c.from.y) e.low.x e.low.y e.high.x e.high.y)
  where
    moved : (fx fy w t lx ly hx hy : ℤ) → (w *ℤ (hx -ℤ lx)) +ℤ (t *ℤ (hy -ℤ ly))
        ≡ ((w *ℤ (hx -ℤ (fx *ℤ pos 1))) +ℤ (t *ℤ (hy -ℤ (fy *ℤ pos 1))))
        -ℤ ((w *ℤ (lx -ℤ (fx *ℤ pos 1))) +ℤ (t *ℤ (ly -ℤ (fy *ℤ pos 1))))
    moved fx fy w t lx ly hx hy = ring
        (plus (times (at 2) (minus (at 6) (at 4))) (times (at 3) (minus (at 7) (at 5))))
        (minus (plus (times (at 2) (minus (at 6) (times (at 0) (num (pos 1)))))
        (times (at 3) (minus (at 7) (times (at 1) (num (pos 1))))))
        (plus (times (at 2) (minus (at 4) (times (at 0) (num (pos 1)))))
        (times (at 3) (minus (at 5) (times (at 1) (num (pos 1)))))))
        (vars (fx ∷ fy ∷ w ∷ t ∷ lx ∷ ly ∷ hx ∷ hy ∷ [])) refl

-- ---- the edges of tubes are small
near_both : (a p q : Point) → AreNear (2 ^ 28) a p → AreNear (2 ^ 28) a q → AreNear (2 ^ 29) p q
near_both a p q h k = record { x = one a.x p.x q.x h.x k.x; y = one a.y p.y q.y h.y k.y }
  where
    one : (a p q : ℤ) → IsNear (2 ^ 28) a p → IsNear (2 ^ 28) a q → IsNear (2 ^ 29) p q
    one a p q h k = record {
      above = omega (arith, ints, h.above, h.below, k.above, k.below);
      below = omega (arith, ints, h.above, h.below, k.above, k.below);
    }

near_edge : (p q : Point) → AreNear (2 ^ 29) p q
    → AreNear (2 ^ 29) (edge_from p q).low (edge_from p q).high
near_edge p q h = by_test (comes_first p q)
  where
    turned : (a b : ℤ) → IsNear (2 ^ 29) a b → IsNear (2 ^ 29) b a
    turned a b h = record { above = h.below; below = h.above }

    by_test : (b : Bool)
        → AreNear (2 ^ 29)
        (cond {A = Edge} b (record { low = p; high = q }) (record { low = q; high = p })).low
        (cond {A = Edge} b (record { low = p; high = q }) (record { low = q; high = p })).high
    by_test true = h
    by_test false = record { x = turned p.x q.x h.x; y = turned p.y q.y h.y }

near_self : (p : Point) → AreNear (2 ^ 28) p p
near_self p = record { x = one p.x; y = one p.y }
  where
    one : (a : ℤ) → IsNear (2 ^ 28) a a
    one a = record { above = omega (arith, ints); below = omega (arith, ints) }

nearer : (p q : Point) → AreNear (2 ^ 26) p q → AreNear (2 ^ 28) p q
nearer p q h = record { x = one p.x q.x h.x; y = one p.y q.y h.y }
  where
    one : (a b : ℤ) → IsNear (2 ^ 26) a b → IsNear (2 ^ 28) a b
    one a b h = record {
      above = omega (arith, ints, h.above);
      below = omega (arith, ints, h.below);
    }

module _ (d : Plan) where
  abbrev HasSmall : runs.Owned → Type 0
  HasSmall o = HasSmallTube (part_of o.part) (curve d o.curve) (edge_as o)

  small_part : (part : runs.Part) (c : Curve) (e : Edge) → IsSmall c e
      → HasSmallTube (part_of part) c e
  small_part runs.whole c e h = tt
  small_part runs.inner c e h = h
  small_part runs.outer c e h = h

  small_chain : (i : ℕ) (part : runs.Part) (p : Point) (qs : List Point)
      → HasCircle (arc (curve d i)) → AreNear (2 ^ 28) (curve d i).from p
      → Each (AreNear (2 ^ 28) (curve d i).from) qs → Each HasSmall (runs.chain i part p qs)
  small_chain i part p [] h n k = tt
  small_chain i part p (q ∷ qs) h n k = (
    small_part part (curve d i) (edge_from p q) (record {
      circle = h;
      near = near_edge p q (near_both (curve d i).from p q n k.0);
    }),
    small_chain i part q qs h k.0 k.1,
  )

  small_curve : (i : ℕ) (level : ℕ → ℕ) (k : CurveKind) → (k ≡ kind.HalfArc → HasTube (arc (curve d i)) (level i))
      → Each HasSmall (runs.edges_of i k (curve d i) (drawn_bays d level i))
  small_curve i level kind.Straight t = (tt, tt)
  small_curve i level kind.HalfArc t = by_tube (t refl)
    where
      by_tube : HasTube (arc (curve d i)) (level i)
          → Each HasSmall (runs.edges_of i kind.HalfArc (curve d i) (drawn_bays d level i))
      by_tube (vs, os, m) =
          let a = near_self (curve d i).from in
          subst (Each HasSmall) (sym (owned_are i (curve d i) (level i) vs os m))
          (each_app HasSmall (runs.chain i runs.inner (curve d i).from vs)
          (runs.chain i runs.outer (curve d i).from (os ++ (curve d i).to ∷ []))
          (small_chain i runs.inner (curve d i).from vs m.circle a m.inner_near)
          (small_chain i runs.outer (curve d i).from (os ++ (curve d i).to ∷ []) m.circle a
          (each_app (AreNear (2 ^ 28) (curve d i).from) os ((curve d i).to ∷ []) m.outer_near
          (nearer (curve d i).from (curve d i).to m.circle.ends, tt))))

  small_all : (level : ℕ → ℕ) → HaveTubes d level
      → Each HasSmall (runs.edge_list (drawn_bays d level) 0 d.curves)
  small_all level tubes =
      each_owned HasSmall (drawn_bays d level) _ d.curves 0
      (λ k l. subst
      (λ n. Each HasSmall (runs.edges_of n (curve d k).kind (curve d k) (drawn_bays d level n)))
      (first k)
      (small_curve k level (curve d k).kind (λ h. tubes k (record { there = l; kind = h }))))
    where
      first : (k : ℕ) → k ≡ 0 + k
      first k = omega arith

pub edge_by_owned : (d : Plan) (level : ℕ → ℕ) (e : ℕ) → e < length (edges_at d level)
    → edge_at d level e ≡ edge_as (owned_at d level e)
edge_by_owned d level e l =
    mapped (runs.edge_list (drawn_bays d level) 0 d.curves) e
    (subst (λ (n : ℕ). e < n) (edge_count d level) l)
  where
    mapped : (os : List runs.Owned) (k : ℕ) → k < length os
        → edge_of (map edge_as os) k ≡ edge_as (get_or os k runs.no_edge)
    mapped [] k l = absurd (omega (arith, l))
    mapped (o ∷ os) zero l = refl
    mapped (o ∷ os) (suc k) l = mapped os k (omega (arith, l))

-- ---- the side that two tests say is that of the half-edge within
sides_agree : (e : ℕ) (p : runs.Part) (c : Curve) (x : Edge)
    → side_of (part_of p) c x ≡ facing_of p
    (runs.side_within (runs.third_is_left c) p (runs.runs_on c x) e)
sides_agree e runs.whole c x = refl
sides_agree e runs.inner c x = by_tests (runs.third_is_left c) (runs.runs_on c x)
  where
    by_tests : (left on : Bool)
        → cond (cond left on (not on)) facing.Below facing.Above
        ≡ facing_of runs.inner (runs.side_within left runs.inner on e)
    by_tests true true = refl
    by_tests true false = refl
    by_tests false true = refl
    by_tests false false = refl
sides_agree e runs.outer c x = by_tests (runs.third_is_left c) (runs.runs_on c x)
  where
    by_tests : (left on : Bool)
        → cond (cond left on (not on)) facing.Above facing.Below
        ≡ facing_of runs.outer (runs.side_within left runs.outer on e)
    by_tests true true = refl
    by_tests true false = refl
    by_tests false true = refl
    by_tests false false = refl

-- in the words of the list
module _ (d : Plan) (level : ℕ → ℕ) (list : EdgeList) (t : IsTubedList d level list) (e : ℕ)
    (l : e < length list.edges.items) where
  fits : e < length (edges_at d level)
  fits = subst (λ (es : List Edge). e < length es) t.edges l

  pub edge_is : edge_of list.edges.items e ≡ edge_at d level e
  edge_is = ap (λ (es : List Edge). edge_of es e) t.edges

  pub owner_is : owner_at list.owners.items e ≡ owner_as (owned_at d level e)
  owner_is = owner_by_number d level list no_owner e t l

  pub small : HasSmallTube (owner_at list.owners.items e).part
      (curve d (owner_at list.owners.items e).curve) (edge_of list.edges.items e)
  small =
      let a = each_at (HasSmall d) (runs.edge_list (drawn_bays d level) 0 d.curves) e runs.no_edge
      (small_all d level t.tubes) (subst (λ (n : ℕ). e < n) (edge_count d level) fits) in
      subst (λ (o : Owner). HasSmallTube o.part (curve d o.curve) (edge_of list.edges.items e))
      (sym owner_is)
      (subst (λ (x : Edge). HasSmallTube (part_of (owned_at d level e).part)
      (curve d (owned_at d level e).curve) x) (sym (edge_is ∙ edge_by_owned d level e fits)) a)

  -- ---- the side is that of the definition
  pub side_is : listed_side d list e ≡ facing_at d level e
  side_is =
      ap (λ (o : Owner). side_of o.part (curve d o.curve) (edge_of list.edges.items e)) owner_is
      ∙ ap (λ (x : Edge). side_of (part_of (owned_at d level e).part)
      (curve d (owned_at d level e).curve) x) edge_is
      ∙ sides_agree e (owned_at d level e).part (curve d (owned_at d level e).curve)
      (edge_at d level e)

  -- ---- in the words of what the code reads
  pub owner_read : (o : Owner) → o ≡ get_or list.owners.items e o → o ≡ owner_at list.owners.items e
  owner_read o h =
      h ∙ get_or_default list.owners.items e o no_owner
      (subst (λ (n : ℕ). e < n) (sym (list_sizes d level list t)) l)

  pub curve_within : (o : Owner) → o ≡ get_or list.owners.items e o → o.curve < length d.curves
  curve_within o h =
      subst (λ (p : Owner). p.curve < length d.curves) (sym (owner_read o h ∙ owner_is))
      (owner_within d level e fits)

  pub curve_read : (o : Owner) (k : Curve) → o ≡ get_or list.owners.items e o
      → k ≡ get_or d.curves o.curve k → k ≡ curve d (owner_at list.owners.items e).curve
  curve_read o k h g = g ∙ get_or_default d.curves o.curve k no_curve (curve_within o h)
      ∙ ap (λ (p : Owner). curve d p.curve) (owner_read o h)

  pub small_read : (o : Owner) (k : Curve) → o ≡ get_or list.owners.items e o
      → k ≡ get_or d.curves o.curve k → HasSmallTube o.part k (edge_of list.edges.items e)
  small_read o k h g =
      subst (λ (p : Owner). HasSmallTube p.part k (edge_of list.edges.items e))
      (sym (owner_read o h))
      (subst (λ (x : Curve). HasSmallTube (owner_at list.owners.items e).part x
      (edge_of list.edges.items e)) (sym (curve_read o k h g)) small)

  pub side_read : (o : Owner) (k : Curve) → o ≡ get_or list.owners.items e o
      → k ≡ get_or d.curves o.curve k
      → side_of o.part k (edge_of list.edges.items e) ≡ listed_side d list e
  side_read o k h g =
      ap (λ (p : Owner). side_of p.part k (edge_of list.edges.items e)) (owner_read o h)
      ∙ ap (λ (x : Curve). side_of (owner_at list.owners.items e).part x
      (edge_of list.edges.items e)) (curve_read o k h g)

-- all edges are read
pub all_read : (e : ℕ) (xs es : List Edge) → xs ≡ es → e ≤ length xs → length xs ≤ e → e ≡ length es
all_read e xs es q h k = subst (λ (ys : List Edge). e ≡ length ys) q (omega (arith, h, k))

pub facings_are : (d : Plan) (level : ℕ → ℕ) (list : EdgeList) (facings : List Facing)
    → IsTubedList d level list → length facings ≡ length list.edges.items
    → ((k : ℕ) → k < length list.edges.items
    → slice_index_or facings k facing.Neither ≡ listed_side d list k)
    → AreFacings d level facings
facings_are d level list facings t n f = record {
  count = n ∙ ap length t.edges;
  each = λ e l. let k = subst (λ (es : List Edge). e < length es) (sym t.edges) l in
      f e k ∙ side_is d level list t e k;
}
