-- Half-edges by their numbers, and the sides of edges that face tubes.
use Rattle.std.proofs.Common.{◌≡◌, ◌↔◌, ℕ, zero, suc, ◌+◌, ◌*◌, ◌/◌, ◌%◌, ◌^◌, ◌<◌, Bool, true}
use Rattle.std.proofs.Common.{false, List, [], ◌∷◌, length, map, get_or, refl, arith, ap, sym, ◌∙◌}
use Rattle.std.proofs.Common.{subst}
use Rattle.std.proofs.lemmas.List.{length-map}
use Rattle.plane.specs.CurveRuns.TubedRuns as runs
use Rattle.plane.specs.Faces.Halves.{Half, edge_of, half_of, number, over, twin, under}
use Rattle.plane.specs.Rule.Plans.{IsHalfArc, Plan}
use Rattle.plane.specs.declared.kinds.Edge.{Edge}
use Rattle.straight_predicates.specs.EdgeLists.{edge_of as nth_edge}
use Rattle.tubes.specs.Settled.{edges_at, facing_of}
use Rattle.tubes.specs.TubedEdges.{drawn_bays, owner_as, part_of}
use Rattle.tubes.specs.declared.kinds.Facing.{Facing}
use Rattle.tubes.specs.declared.kinds.Facing.TheVariants as facing
use Rattle.tubes.specs.declared.kinds.Owner.{Owner}
use Rattle.tubes.specs.declared.kinds.Part.TheVariants as part
use Rattle.tubes.proofs.LevelEdges.{bay_count, edge_count, first_inner, first_outer, of_half_arc}
use Rattle.certificate_checker.specs.declared.case.Case.{Case}
use Rattle.certificate_checker.specs.Cases.{IsFit, judged}
use Rattle.certificate_checker.specs.Chains.{IsFirstOf, half_side}
use Rattle.certificate_checker.specs.Rules.{FacesTube, LiesOutside}
use Rattle.certificate_checker.specs.Subjects.{Subject, bays_of, edge, owned_of, side_part, within}
use Rattle.certificate_checker.proofs.Linking.{half_within}
use Rattle.certificate_checker.proofs.Marking.{half_over, half_under}
use Rattle.certificate_checker.proofs.PlaneLaws.{number_half, side_edge}

-- ---- half-edges by number
even_number : (h : Half) (n : ℕ) → number h ≡ n → n % 2 ≡ 0 → h ≡ under (n / 2)
even_number (under e) n q z = ap under (omega (arith, q))
even_number (over e) n q z = absurd (omega (arith, q, z))

odd_number : (h : Half) (n : ℕ) → number h ≡ n → (n % 2 ≡ 0 → ⊥) → h ≡ over (n / 2)
odd_number (under e) n q z = absurd (z (omega (arith, q)))
odd_number (over e) n q z = ap over (omega (arith, q))

pub half_edge : (n : ℕ) → n / 2 ≡ edge_of (half_of n)
half_edge n = by_half (half_of n) (number_half n)
  where
    by_half : (h : Half) → number h ≡ n → n / 2 ≡ edge_of h
    by_half (under e) q = omega (arith, q)
    by_half (over e) q = omega (arith, q)

pub even_half : (n : ℕ) → n % 2 ≡ 0 → half_of n ≡ under (n / 2)
even_half n z = even_number (half_of n) n (number_half n) z

pub odd_half : (n : ℕ) → (n % 2 ≡ 0 → ⊥) → half_of n ≡ over (n / 2)
odd_half n z = odd_number (half_of n) n (number_half n) z

-- ---- the side of a half-edge, and the side that faces the tube
faces_is : (part : runs.Part) (w h : Half) → edge_of w ≡ edge_of h
    → (facing_of part w ≡ half_side h) ↔ (runs.IsOfTube part × (h ≡ w))
faces_is runs.whole w (under f) e =
    ((λ q. absurd (let x : facing.Neither ≡ facing.Below = q in cc)), (λ x. absurd x.0))
faces_is runs.whole w (over f) e =
    ((λ q. absurd (let x : facing.Neither ≡ facing.Above = q in cc)), (λ x. absurd x.0))
faces_is runs.inner (under d) (under f) e = ((λ q. (tt, ap under (sym e))), (λ x. refl))
faces_is runs.inner (over d) (over f) e = ((λ q. (tt, ap over (sym e))), (λ x. refl))
faces_is runs.inner (under d) (over f) e = (
  (λ q. absurd (let x : facing.Below ≡ facing.Above = q in cc)),
  (λ x. absurd (let y = x.1 in cc)),
)
faces_is runs.inner (over d) (under f) e = (
  (λ q. absurd (let x : facing.Above ≡ facing.Below = q in cc)),
  (λ x. absurd (let y = x.1 in cc)),
)
faces_is runs.outer (under d) (under f) e = ((λ q. (tt, ap under (sym e))), (λ x. refl))
faces_is runs.outer (over d) (over f) e = ((λ q. (tt, ap over (sym e))), (λ x. refl))
faces_is runs.outer (under d) (over f) e = (
  (λ q. absurd (let x : facing.Below ≡ facing.Above = q in cc)),
  (λ x. absurd (let y = x.1 in cc)),
)
faces_is runs.outer (over d) (under f) e = (
  (λ q. absurd (let x : facing.Above ≡ facing.Below = q in cc)),
  (λ x. absurd (let y = x.1 in cc)),
)

-- ---- owners
part_one : (p q : runs.Part) → part_of p ≡ part_of q → p ≡ q
part_one runs.whole runs.whole e = refl
part_one runs.inner runs.inner e = refl
part_one runs.outer runs.outer e = refl
part_one runs.whole runs.inner e = absurd (let x : part.Straight ≡ part.Inner = e in cc)
part_one runs.whole runs.outer e = absurd (let x : part.Straight ≡ part.Outer = e in cc)
part_one runs.inner runs.whole e = absurd (let x : part.Inner ≡ part.Straight = e in cc)
part_one runs.inner runs.outer e = absurd (let x : part.Inner ≡ part.Outer = e in cc)
part_one runs.outer runs.whole e = absurd (let x : part.Outer ≡ part.Straight = e in cc)
part_one runs.outer runs.inner e = absurd (let x : part.Outer ≡ part.Inner = e in cc)

pub part_is : (o : runs.Owned) (w : Owner) (p : runs.Part) → w ≡ owner_as o → w.part ≡ part_of p
    → o.part ≡ p
part_is o w p e q = part_one o.part p (sym (ap (λ (w : Owner). w.part) e) ∙ q)

-- the owner is on that chain of that curve
pub on_chain : (o : runs.Owned) (w : Owner) (curve : ℕ) (inside : Bool) → w ≡ owner_as o
    → ((w.curve ≡ curve) × (w.part ≡ part_of (side_part inside)))
    ↔ ((o.curve ≡ curve) × (o.part ≡ side_part inside))
on_chain o w curve inside e = (
  (λ x. (
    sym (ap (λ (w : Owner). w.curve) e)
        ∙ x.0,
    part_one o.part (side_part inside) (sym (ap (λ (w : Owner). w.part) e) ∙ x.1),
  )),
  (λ x. (ap (λ (w : Owner). w.curve) e ∙ x.0, ap (λ (w : Owner). w.part) e ∙ ap part_of x.1)),
)

twin_edge : (h : Half) → edge_of (twin h) ≡ edge_of h
twin_edge (under e) = refl
twin_edge (over e) = refl

twin_back : (h w : Half) → twin h ≡ w → h ≡ twin w
twin_back (under e) w q = ap twin q
twin_back (over e) w q = ap twin q

within_over : (part : runs.Part) (w : Half) (e : ℕ) → edge_of w ≡ e
    → facing_of part w ≡ facing.Above → w ≡ over e
within_over part w e q f = let x = (faces_is part w (over e) q).0 f in sym x.1

within_under : (part : runs.Part) (w : Half) (e : ℕ) → runs.IsOfTube part → edge_of w ≡ e
    → (facing_of part w ≡ facing.Above → ⊥) → w ≡ under e
within_under part (under d) e o q n = ap under q
within_under runs.whole (over d) e o q n = absurd o
within_under runs.inner (over d) e o q n = absurd (n refl)
within_under runs.outer (over d) e o q n = absurd (n refl)

-- ---- what a case knows of its edges
module _ (c : Case) (fit : IsFit c) where
  abbrev s : Subject
  s = judged c

  abbrev d : Plan
  d = s.drawing

  abbrev level : ℕ
  level = s.claims.level

  pub edges_count : length s.edges ≡ length (edges_at d (λ n. level))
  edges_count = ap length fit.edges_are

  pub owners_count : length c.owners.now ≡ length s.edges
  owners_count = ap length fit.owners
      ∙ length-map (runs.edge_list (drawn_bays d (λ n. level)) 0 d.curves) owner_as
      ∙ sym (edge_count d (λ n. level)) ∙ sym edges_count

  pub facings_count : length c.facings.now ≡ length s.edges
  facings_count = fit.facings.count ∙ sym edges_count

  pub owner_at : (e : ℕ) (z : Owner) → e < length s.edges
      → get_or c.owners.now e z ≡ owner_as (owned_of s e)
  owner_at e z l =
      ap (λ (os : List Owner). get_or os e z) fit.owners
      ∙ mapped (runs.edge_list (drawn_bays d (λ n. level)) 0 d.curves) e (let a = edges_count in
      let b = edge_count d (λ n. level) in omega (arith, l, a, b))
    where
      mapped : (os : List runs.Owned) (k : ℕ) → k < length os
          → get_or (map owner_as os) k z ≡ owner_as (get_or os k runs.no_edge)
      mapped [] k l = absurd (omega (arith, l))
      mapped (o ∷ os) zero l = refl
      mapped (o ∷ os) (suc k) l = mapped os k (omega (arith, l))

  pub chain_tube : (e : ℕ) (inside : Bool) → (owned_of s e).part ≡ side_part inside
      → runs.IsOfTube (owned_of s e).part
  chain_tube e true q = subst runs.IsOfTube (sym q) tt
  chain_tube e false q = subst runs.IsOfTube (sym q) tt

  pub chain_arc : (e i : ℕ) (inside : Bool) → e < length s.edges → i ≡ (owned_of s e).curve
      → (owned_of s e).part ≡ side_part inside → IsHalfArc d i
  chain_arc e i inside l q p =
      subst (IsHalfArc d) (sym q)
      ((of_half_arc d (λ n. level) e (let a = edges_count in omega (arith, l, a))).0
      (chain_tube e inside p))

  within_edge : (e : ℕ) → edge_of (within s e) ≡ e
  within_edge e =
      side_edge (runs.third_is_left (runs.owner d (bays_of s) e)) (owned_of s e).part
      (runs.runs_on (runs.owner d (bays_of s) e) (edge s e)) e

  pub facing_is : (e : ℕ) (z : Facing) → e < length s.edges
      → get_or c.facings.now e z ≡ facing_of (owned_of s e).part (within s e)
  facing_is e z l =
      same c.facings.now e (let a = facings_count in omega (arith, l, a))
      ∙ fit.facings.each e (let a = edges_count in omega (arith, l, a))
      ∙ ap (λ (es : List Edge). facing_of (owned_of s e).part
      (runs.half_within d (bays_of s) (nth_edge es) e)) (sym fit.edges_are)
    where
      same : (fs : List Facing) (k : ℕ) → k < length fs → get_or fs k z ≡ get_or fs k facing.Neither
      same [] k l = absurd (omega (arith, l))
      same (f ∷ fs) zero l = refl
      same (f ∷ fs) (suc k) l = same fs k (omega (arith, l))

  pub half_there : (n : ℕ) → n < 2 * length s.edges → edge_of (half_of n) < length s.edges
  half_there n l = half_within s n l

  pub facing_half : (n e : ℕ) (z : Facing) → n < 2 * length s.edges → e ≡ edge_of (half_of n)
      → get_or c.facings.now e z ≡ facing_of (owned_of s (edge_of (half_of n))).part
      (within s (edge_of (half_of n)))
  facing_half n e z l q =
      subst (λ (k : ℕ). get_or c.facings.now k z
      ≡ facing_of (owned_of s (edge_of (half_of n))).part (within s (edge_of (half_of n)))) (sym q)
      (facing_is (edge_of (half_of n)) z (half_there n l))

  module _ (e : ℕ) (f : Facing) (is : f ≡ facing_of (owned_of s e).part (within s e)) where
    pub above_within : f ≡ facing.Above → half_of (2 * e + 1) ≡ within s e
    above_within q =
        half_over e ∙ sym
        (within_over (owned_of s e).part (within s e) e (within_edge e) (sym is ∙ q))

    pub above_outside : f ≡ facing.Above → half_of (2 * e) ≡ twin (within s e)
    above_outside q =
        half_under e
        ∙ sym (ap twin
        (within_over (owned_of s e).part (within s e) e (within_edge e) (sym is ∙ q)))

    pub below_within : runs.IsOfTube (owned_of s e).part → (f ≡ facing.Above → ⊥)
        → half_of (2 * e) ≡ within s e
    below_within o n =
        half_under e
        ∙ sym (within_under (owned_of s e).part (within s e) e o (within_edge e) (λ q. n (is ∙ q)))

    pub below_outside : runs.IsOfTube (owned_of s e).part → (f ≡ facing.Above → ⊥)
        → half_of (2 * e + 1) ≡ twin (within s e)
    below_outside o n =
        half_over e ∙ sym
        (ap twin (within_under (owned_of s e).part (within s e) e o (within_edge e)
        (λ q. n (is ∙ q))))

  module _ (h : Half) (f : Facing) (is : f
      ≡ facing_of (owned_of s (edge_of h)).part (within s (edge_of h))) where
    pub faced_is : (f ≡ half_side h) ↔ FacesTube s h
    faced_is =
        let x = faces_is (owned_of s (edge_of h)).part (within s (edge_of h)) h
        (within_edge (edge_of h)) in (
          (λ q. let y = x.0 (sym is ∙ q) in record { of_tube = y.0; is = y.1 }),
          (λ y. is ∙ x.1 (y.of_tube, y.is)),
        )

    pub across_is : (curve : ℕ) (inside : Bool) → (owned_of s (edge_of h)).curve ≡ curve
        → (owned_of s (edge_of h)).part ≡ side_part inside
        → (f ≡ half_side (twin h)) ↔ LiesOutside s h curve inside
    across_is curve inside a b =
        let x = faces_is (owned_of s (edge_of h)).part (within s (edge_of h)) (twin h)
        (within_edge (edge_of h) ∙ sym (twin_edge h)) in (
          (λ q. record {
            of_curve = a;
            part = b;
            is = twin_back h (within s (edge_of h)) (x.0 (sym is ∙ q)).1;
          }),
          (λ y. is ∙ x.1 (chain_tube (edge_of h) inside b, twice h y.is)),
        )
      where
        twice : (h : Half) → h ≡ twin (within s (edge_of h)) → twin h ≡ within s (edge_of h)
        twice h q = ap twin q ∙ back (within s (edge_of h))
          where
            back : (w : Half) → twin (twin w) ≡ w
            back (under e) = refl
            back (over e) = refl

  -- ---- the first edges of chains
  pub first_inside : (i : ℕ) → IsHalfArc d i
      → IsFirstOf s true i (runs.first_edge (bays_of s) 0 d.curves i)
  first_inside i h =
      let o = first_inner d (λ n. level) i h (fit.counts.edges.tubes i h) in
      record {
        there = (let a = o.there in let b = edges_count in omega (arith, a, b));
        of_tube = subst runs.IsOfTube (sym o.part) tt;
        first = refl;
      }

  pub first_outside : (i : ℕ) → IsHalfArc d i
      → IsFirstOf s false i (runs.first_edge (bays_of s) 0 d.curves i + length (bays_of s i))
  first_outside i h =
      let o = first_outer d (λ n. level) i h in
      record {
        there = (let a = o.there in let b = edges_count in omega (arith, a, b));
        of_tube = subst runs.IsOfTube (sym o.part) tt;
        first = refl;
      }

  pub bays_count : (i : ℕ) → IsHalfArc d i → length (bays_of s i) ≡ 2 ^ (level + 1)
  bays_count i h = bay_count d (λ n. level) i (fit.counts.edges.tubes i h)

  pub first_at : (i z : ℕ) → IsHalfArc d i
      → get_or c.firsts.now i z ≡ runs.first_edge (bays_of s) 0 d.curves i
  first_at i z h =
      same c.firsts.now i (let a = fit.firsts.count in let l = h.there in omega (arith, a, l))
      ∙ fit.firsts.each i h.there
    where
      same : (ns : List ℕ) (k : ℕ) → k < length ns → get_or ns k z ≡ get_or ns k 0
      same [] k l = absurd (omega (arith, l))
      same (n ∷ ns) zero l = refl
      same (n ∷ ns) (suc k) l = same ns k (omega (arith, l))

  pub first_then : (i n : ℕ) (b : Bool) → IsHalfArc d i → b ≡ true
      → n ≡ runs.first_edge (bays_of s) 0 d.curves i → IsFirstOf s b i n
  first_then i n b h q e =
      subst (λ (b : Bool). IsFirstOf s b i n) (sym q)
      (subst (IsFirstOf s true i) (sym e) (first_inside i h))

  pub first_else : (i n k : ℕ) (b : Bool) → IsHalfArc d i → b ≡ false
      → n ≡ runs.first_edge (bays_of s) 0 d.curves i → k ≡ 2 ^ (level + 1) → IsFirstOf s b i (n + k)
  first_else i n k b h q e f =
      let g = bays_count i h in
      subst (λ (b : Bool). IsFirstOf s b i (n + k)) (sym q)
      (subst (IsFirstOf s false i) (omega (arith, e, f, g)) (first_outside i h))

  pub first_few : (i n k : ℕ) → IsHalfArc d i → n ≡ runs.first_edge (bays_of s) 0 d.curves i
      → k ≡ 2 ^ (level + 1) → (n + k) < 2 ^ 31
  first_few i n k h e f =
      let a = (first_outside i h).there in
      let b = bays_count i h in
      let m = fit.few_edges in
      omega (arith, a, b, m, e, f)
