-- The half-edges of a drawing with tubes: each is on a side of a curve, or faces a tube from
-- within.
use Rattle.std.proofs.Common.{◌≡◌, ◌⊎◌, ℕ, ◌<◌, Bool, true, false, List, inl, inr, refl, sym, ap}
use Rattle.std.proofs.Common.{subst, ◌∙◌}
use Rattle.fault_lists.specs.Sides.{is_first_kind, is_inward}
use Rattle.fault_lists.specs.declared.kinds.SideAt.{SideAt}
use Rattle.plane.specs.CurveRuns.TubedRuns.{Connects, IsOfTube, IsTubedRun, Owned, Part}
use Rattle.plane.specs.CurveRuns.TubedRuns.{half_within}
use Rattle.plane.specs.CurveRuns.TubedRuns.{inner, inward, outer, owned, third_is_left, whole}
use Rattle.plane.specs.Faces.Directions.{origin}
use Rattle.plane.specs.Faces.Halves.{Half, edge_of, number, over, twin, under}
use Rattle.plane.specs.Forms.Vectors.{Before}
use Rattle.plane.specs.Rule.Plans.{Plan, curve}
use Rattle.plane.specs.Runs.Steps.{Step}
use Rattle.plane.specs.Tubes.Bays.{Bay}
use Rattle.plane.specs.Tubes.Facing.{way}
use Rattle.plane.specs.Tubes.Windings.{arrow}
use Rattle.plane.specs.declared.kinds.CurveKind.{CurveKind}
use Rattle.plane.specs.declared.kinds.CurveKind.TheVariants as kind
use Rattle.plane.specs.declared.kinds.Edge.{Edge}
use Rattle.plane.specs.declared.kinds.Point.{Point}
use Rattle.area_search.specs.Settled.NextSides.{IsHalfOf, IsOnFirst, IsPartOf, way_end, way_start}
use Rattle.area_search.proofs.PlaneLaws.{never}
use Rattle.area_search.proofs.SettledLemmas.ChainLaws.{edge_twin, edge_within, faces, owner_is}
use Rattle.area_search.proofs.SettledLemmas.SideHalves.{number_apart}

twice : (x : Half) → twin (twin x) ≡ x
twice (under e) = refl
twice (over e) = refl

pub half_or_twin : (x y : Half) → edge_of x ≡ edge_of y → (x ≡ y) ⊎ (x ≡ twin y)
half_or_twin (under e) (under f) q = inl (ap under q)
half_or_twin (under e) (over f) q = inr (ap under q)
half_or_twin (over e) (under f) q = inr (ap over q)
half_or_twin (over e) (over f) q = inl (ap over q)

-- the arrow of a half-edge goes from its origin to that of its twin
low_way : (E : ℕ → Edge) (x : Half) → (way E x).low ≡ origin E x
low_way E (under e) = refl
low_way E (over e) = refl

high_way : (E : ℕ → Edge) (x : Half) → (way E x).high ≡ origin E (twin x)
high_way E (under e) = refl
high_way E (over e) = refl

differ : {P : Type 0} → true ≡ false → P
differ q = absurd (cc)

-- the way with the tube on the left is against the way with the side on the left
inward_way : (t l : Bool) (p : Part) (o : Owned) → IsOfTube p → IsOnFirst p (is_inward t l)
    → inward t p o.from o.to ≡ arrow (way_end l o) (way_start l o)
inward_way t l whole o h k = absurd h
inward_way true true inner o h k = refl
inward_way true false inner o h k = differ (sym k)
inward_way false true inner o h k = differ (sym k)
inward_way false false inner o h k = refl
inward_way true true outer o h k = differ k
inward_way true false outer o h k = refl
inward_way false true outer o h k = refl
inward_way false false outer o h k = differ k

-- the side of a curve on which a chain lies
chain_side : (t : Bool) (p : Part) → IsOfTube p → (l : Bool) × IsOnFirst p (is_inward t l)
chain_side t whole h = absurd h
chain_side true inner h = (true, refl)
chain_side false inner h = (false, refl)
chain_side true outer h = (false, refl)
chain_side false outer h = (true, refl)

module _ (d : Plan) (bays : ℕ → List Bay) (m : ℕ) (E : ℕ → Edge) (steps : List Step)
    (is : IsTubedRun d bays m E steps) where
  abbrev o : ℕ → Owned
  o e = owned d bays e

  abbrev within : ℕ → Half
  within = half_within d bays E

  abbrev On : SideAt → ℕ → Type 0
  On s h = IsHalfOf d m E o s h

  way_flat : (l : Bool) (e : ℕ) → e < m → way_start l (o e) ≡ way_end l (o e) → ⊥
  way_flat l e k q =
      never (E e).low
      (subst (λ (p : Point). Before (E e).low p) (by l q (is.edge e k)) (is.run.edges e k))
    where
      by : (b : Bool) → way_start b (o e) ≡ way_end b (o e) → Connects (E e) (o e).from (o e).to
          → (E e).high ≡ (E e).low
      by true q (inl c) = c.1 ∙ sym q ∙ sym c.0
      by true q (inr c) = c.1 ∙ q ∙ sym c.0
      by false q (inl c) = c.1 ∙ q ∙ sym c.0
      by false q (inr c) = c.1 ∙ sym q ∙ sym c.0

  -- the kind of the curve of a tube's edge
  arc_kind : (e : ℕ) → e < m → IsOfTube (o e).part → (curve d (o e).curve).kind ≡ kind.HalfArc
  arc_kind e k h = elim (owner_is d bays m E steps is e k) [
    | inl s ↦ absurd (subst IsOfTube s.part h)
    | inr a ↦ subst (λ (i : ℕ). (curve d i).kind ≡ kind.HalfArc) (sym a.number) a.bent
  ]

  -- the half-edge that faces the tube goes against the side
  within_ends : (e : ℕ) (l : Bool) → e < m → IsOfTube (o e).part
      → IsPartOf (o e).part (curve d (o e).curve) l
      → (origin E (within e) ≡ way_end l (o e)) × (origin E (twin (within e)) ≡ way_start l (o e))
  within_ends e l k h side =
      let c = curve d (o e).curve in
      let first : IsOnFirst (o e).part (is_inward (third_is_left c) l) = subst
      (λ (x : CurveKind). IsOnFirst (o e).part (is_first_kind x c l)) (arc_kind e k h) side in
      let q : way E (within e) ≡ arrow (way_end l (o e)) (way_start l (o e)) = (faces d bays m E
      steps is e k h).left ∙ inward_way (third_is_left c) l (o e).part (o e) h first in (
        sym (low_way E (within e)) ∙ ap (λ (x : Edge). x.low) q,
        sym (high_way E (within e)) ∙ ap (λ (x : Edge). x.high) q,
      )

  -- the other one is on the side
  pub free_on : (e : ℕ) (l : Bool) → e < m → IsOfTube (o e).part
      → IsPartOf (o e).part (curve d (o e).curve) l
      → On (record { curve = (o e).curve; left = l }) (number (twin (within e)))
  free_on e l k h side =
      let q : edge_of (twin (within e)) ≡ e = edge_twin (within e) ∙ edge_within d bays E e in
      let w = within_ends e l k h side in
      record {
        half = twin (within e);
        is = refl;
        there = subst (λ (x : ℕ). x < m) (sym q) k;
        curve_is = ap (λ (x : ℕ). (o x).curve) q;
        part_is = subst (λ (x : ℕ). IsPartOf (o x).part (curve d (o e).curve) l) (sym q) side;
        starts = w.1 ∙ ap (λ (x : ℕ). way_start l (o x)) (sym q);
        ends = ap (origin E) (twice (within e)) ∙ w.0
            ∙ ap (λ (x : ℕ). way_end l (o x)) (sym q);
      }

  -- a half-edge on a side faces no tube
  pub not_within : (s : SideAt) (h e : ℕ) → On s h → e < m → IsOfTube (o e).part
      → h ≡ number (within e) → ⊥
  not_within s h e a k tube q =
      let x : a.half ≡ within e = number_apart a.half (within e) (a.is ∙ q) in
      let r : edge_of a.half ≡ e = ap edge_of x ∙ edge_within d bays E e in
      let whose : s.curve ≡ (o e).curve = sym a.curve_is ∙ ap (λ (y : ℕ). (o y).curve) r in
      let side : IsPartOf (o e).part (curve d (o e).curve) s.left = subst
      (λ (y : ℕ). IsPartOf (o y).part (curve d (o e).curve) s.left) r
      (subst (λ (i : ℕ). IsPartOf (o (edge_of a.half)).part (curve d i) s.left) whose a.part_is) in
      way_flat s.left e k
      (ap (λ (y : ℕ). way_start s.left (o y)) (sym r) ∙ sym a.starts ∙ ap (origin E) x
      ∙ (within_ends e s.left k tube side).0)

  -- ---- all half-edges
  whole_on : (x : Half) (l : Bool) → edge_of x < m → (o (edge_of x)).part ≡ whole
      → origin E x ≡ way_start l (o (edge_of x)) → origin E (twin x) ≡ way_end l (o (edge_of x))
      → (s : SideAt) × On s (number x)
  whole_on x l k p u v = (
    record { curve = (o (edge_of x)).curve; left = l },
    record {
      half = x;
      is = refl;
      there = k;
      curve_is = refl;
      part_is = subst (λ (q : Part). IsPartOf q (curve d (o (edge_of x)).curve) l) (sym p) tt;
      starts = u;
      ends = v;
    },
  )

  some_whole : (x : Half) → edge_of x < m → (o (edge_of x)).part ≡ whole
      → (s : SideAt) × On s (number x)
  some_whole x k p = by x k p (is.edge (edge_of x) k)
    where
      by : (x : Half) → edge_of x < m → (o (edge_of x)).part ≡ whole
          → Connects (E (edge_of x)) (o (edge_of x)).from (o (edge_of x)).to
          → (s : SideAt) × On s (number x)
      by (over e) k p (inl c) = whole_on (over e) true k p c.0 c.1
      by (over e) k p (inr c) = whole_on (over e) false k p c.0 c.1
      by (under e) k p (inl c) = whole_on (under e) false k p c.1 c.0
      by (under e) k p (inr c) = whole_on (under e) true k p c.1 c.0

  some_tube : (x : Half) → edge_of x < m → IsOfTube (o (edge_of x)).part
      → x ≡ twin (within (edge_of x)) → (s : SideAt) × On s (number x)
  some_tube x k h q =
      let c = curve d (o (edge_of x)).curve in
      let w = chain_side (third_is_left c) (o (edge_of x)).part h in
      let side = subst (λ (y : CurveKind). IsOnFirst (o (edge_of x)).part (is_first_kind y c w.0))
      (sym (arc_kind (edge_of x) k h)) w.1 in (
        record { curve = (o (edge_of x)).curve; left = w.0 },
        subst (λ (y : Half). On (record { curve = (o (edge_of x)).curve; left = w.0 }) (number y))
            (sym q) (free_on (edge_of x) w.0 k h side),
      )

  pub some_side : (x : Half) → edge_of x < m
      → (IsOfTube (o (edge_of x)).part × (x ≡ within (edge_of x)))
      ⊎ ((s : SideAt) × On s (number x))
  some_side x k = by (o (edge_of x)).part refl
    where
      of_tube : IsOfTube (o (edge_of x)).part
          → (IsOfTube (o (edge_of x)).part × (x ≡ within (edge_of x)))
          ⊎ ((s : SideAt) × On s (number x))
      of_tube h =
          elim (half_or_twin x (within (edge_of x)) (sym (edge_within d bays E (edge_of x)))) [
            | inl q ↦ inl (h, q)
            | inr q ↦ inr (some_tube x k h q)
          ]

      by : (p : Part) → (o (edge_of x)).part ≡ p
          → (IsOfTube (o (edge_of x)).part × (x ≡ within (edge_of x)))
          ⊎ ((s : SideAt) × On s (number x))
      by whole q = inr (some_whole x k q)
      by inner q = of_tube (subst IsOfTube (sym q) tt)
      by outer q = of_tube (subst IsOfTube (sym q) tt)
