-- Half-edges on the sides of curves: which of them begin and end a side, and what follows them.
use Rattle.std.proofs.Common.{◌≡◌, ◌⊎◌, ℕ, ◌<◌, Bool, true, false, inl, inr, length, refl}
use Rattle.std.proofs.Common.{sym, ap, subst, ◌∙◌, arith}
use Rattle.fault_lists.specs.Rings.{end_of, start_of}
use Rattle.fault_lists.specs.Sides.{is_first_kind, is_inward}
use Rattle.fault_lists.specs.declared.kinds.SideAt.{SideAt}
use Rattle.half_edges.specs.HalfEdges.{twin_of}
use Rattle.plane.specs.CurveRuns.TubedRuns.{Connects, Owned, Part, inner, outer, third_is_left}
use Rattle.plane.specs.CurveRuns.TubedRuns.{whole}
use Rattle.plane.specs.Faces.Directions.{origin}
use Rattle.plane.specs.Faces.Halves.{Half, edge_of, number, over, twin, under}
use Rattle.plane.specs.Forms.Meets.{IsEnd}
use Rattle.plane.specs.Forms.Vectors.{Before}
use Rattle.plane.specs.Rule.BadPairs.{IsEndOf}
use Rattle.plane.specs.Rule.Plans.{Plan, curve}
use Rattle.plane.specs.declared.kinds.Curve.{Curve}
use Rattle.plane.specs.declared.kinds.CurveKind.{CurveKind}
use Rattle.plane.specs.declared.kinds.CurveKind.TheVariants as kind
use Rattle.plane.specs.declared.kinds.Edge.{Edge}
use Rattle.plane.specs.declared.kinds.Point.{Point}
use Rattle.area_search.specs.Settled.NextSides.{IsHalfOf, IsOnFirst, IsPartOf, way_end, way_start}
use Rattle.area_search.proofs.PlaneLaws.{never}

-- ---- numbers of half-edges
pub number_apart : (x y : Half) → number x ≡ number y → x ≡ y
number_apart (under e) (under f) q = ap under (let k : e ≡ f = omega (arith, q) in k)
number_apart (under e) (over f) q = absurd (omega (arith, q))
number_apart (over e) (under f) q = absurd (omega (arith, q))
number_apart (over e) (over f) q = ap over (let k : e ≡ f = omega (arith, q) in k)

pub twin_is : (x : Half) → number (twin x) ≡ twin_of (number x)
twin_is (under e) = omega arith
twin_is (over e) = omega arith

pub twin_edge : (x : Half) → edge_of (twin x) ≡ edge_of x
twin_edge (under e) = refl
twin_edge (over e) = refl

abbrev side : ℕ → Bool → SideAt
side c b = record { curve = c; left = b }

side_is : (s t : SideAt) → s.curve ≡ t.curve → s.left ≡ t.left → s ≡ t
side_is s t e f = ap (λ (c : ℕ). side c s.left) e ∙ ap (λ (b : Bool). side t.curve b) f

-- the first side is one of the two
inward_once : (l a b : Bool) → is_inward l a ≡ is_inward l b → a ≡ b
inward_once true a b e = e
inward_once false true true e = refl
inward_once false true false e = sym e
inward_once false false true e = sym e
inward_once false false false e = refl

first_once : (k : CurveKind) (c : Curve) (a b : Bool) → is_first_kind k c a ≡ is_first_kind k c b
    → a ≡ b
first_once kind.Straight c a b e = e
first_once kind.HalfArc c a b e = inward_once (third_is_left c) a b e

-- ---- the edges of curves
-- The two ends of the curve, in the order in which a side is passed.
abbrev pub IsLast : Plan → Bool → ℕ → Point → Type 0
IsLast d true i p = p ≡ (curve d i).to
IsLast d false i p = p ≡ (curve d i).from

abbrev pub IsWhole : Part → Type 0
IsWhole whole = Unit {0}
IsWhole inner = ⊥
IsWhole outer = ⊥

-- The edges join the ends of their ways; those of each part of a curve go from its first end to
-- its second one and pass each of these once; and edges that share a place are of one part, or the
-- place is an end of both curves.
pub record AreChains (d : Plan) (m : ℕ) (E : ℕ → Edge) (o : ℕ → Owned) : Type 0 where
  pub rises : (e : ℕ) → e < m → Before (E e).low (E e).high
  pub joins : (e : ℕ) → e < m → Connects (E e) (o e).from (o e).to
  pub kind : (e f : ℕ) → e < m → f < m → (o e).curve ≡ (o f).curve → IsWhole (o e).part
      → IsWhole (o f).part
  pub first : (e f : ℕ) → e < m → f < m → (o e).curve ≡ (o f).curve → (o e).part ≡ (o f).part
      → (o e).from ≡ (curve d (o e).curve).from → (o f).from ≡ (curve d (o e).curve).from → e ≡ f
  pub last : (e f : ℕ) → e < m → f < m → (o e).curve ≡ (o f).curve → (o e).part ≡ (o f).part
      → (o e).to ≡ (curve d (o e).curve).to → (o f).to ≡ (curve d (o e).curve).to → e ≡ f
  pub some_first : (i : ℕ) (left : Bool) → i < length d.curves
      → (e : ℕ) × (e < m) × ((o e).curve ≡ i) × IsPartOf (o e).part (curve d i) left
      × ((o e).from ≡ (curve d i).from)
  pub some_last : (i : ℕ) (left : Bool) → i < length d.curves
      → (e : ℕ) × (e < m) × ((o e).curve ≡ i) × IsPartOf (o e).part (curve d i) left
      × ((o e).to ≡ (curve d i).to)
  pub after_first : (e : ℕ) → e < m → (o e).to ≡ (curve d (o e).curve).from → ⊥
  pub before_last : (e : ℕ) → e < m → (o e).from ≡ (curve d (o e).curve).to → ⊥
  pub meet : (e f : ℕ) (p : Point) → e < m → f < m → IsEnd (E e) p → IsEnd (E f) p
      → (((o e).curve ≡ (o f).curve) × ((o e).part ≡ (o f).part) × (IsWhole (o e).part → ⊥))
      ⊎ (IsEndOf (curve d (o e).curve) p × IsEndOf (curve d (o f).curve) p)

module _ (d : Plan) (m : ℕ) (E : ℕ → Edge) (o : ℕ → Owned) (are : AreChains d m E o) where
  abbrev On : SideAt → ℕ → Type 0
  On s h = IsHalfOf d m E o s h

  -- the ends of an edge differ
  flat : (e : ℕ) → e < m → (E e).low ≡ (E e).high → ⊥
  flat e l q =
      never (E e).low (subst (λ (p : Point). Before (E e).low p) (sym q) (are.rises e l))

  way_flat : (e : ℕ) → e < m → (o e).from ≡ (o e).to → ⊥
  way_flat e l q = elim (are.joins e l) [
    | inl k ↦ flat e l (k.0 ∙ q ∙ sym k.1)
    | inr k ↦ flat e l (k.0 ∙ sym q ∙ sym k.1)
  ]

  origin_flat : (x y : Half) → edge_of x < m → edge_of x ≡ edge_of y → origin E x ≡ origin E y
      → x ≡ y
  origin_flat (under e) (under f) l q r = ap under q
  origin_flat (over e) (over f) l q r = ap over q
  origin_flat (under e) (over f) l q r =
      absurd (flat e l (sym (r ∙ ap (λ (k : ℕ). (E k).low) (sym q))))
  origin_flat (over e) (under f) l q r = absurd (flat e l (r ∙ ap (λ (k : ℕ). (E k).high) (sym q)))

  -- the half-edge of an edge with a side on the left
  pub some_half : (e : ℕ) (s : SideAt) → e < m → (o e).curve ≡ s.curve
      → IsPartOf (o e).part (curve d s.curve) s.left
      → (h : ℕ) × (a : On s h) × (edge_of a.half ≡ e)
  some_half e s l c p = by s.left (are.joins e l) refl
    where
      made : (x : Half) → edge_of x ≡ e → origin E x ≡ way_start s.left (o e)
          → origin E (twin x) ≡ way_end s.left (o e) → (h : ℕ) × (a : On s h) × (edge_of a.half ≡ e)
      made x q u v = (
        number x,
        record {
          half = x;
          is = refl;
          there = subst (λ (k : ℕ). k < m) (sym q) l;
          curve_is = ap (λ (k : ℕ). (o k).curve) q ∙ c;
          part_is = subst (λ (k : ℕ). IsPartOf (o k).part (curve d s.curve) s.left) (sym q) p;
          starts = u ∙ ap (λ (k : ℕ). way_start s.left (o k)) (sym q);
          ends = v ∙ ap (λ (k : ℕ). way_end s.left (o k)) (sym q);
        },
        q,
      )

      by : (b : Bool) → Connects (E e) (o e).from (o e).to → s.left ≡ b
          → (h : ℕ) × (a : On s h) × (edge_of a.half ≡ e)
      by true (inl k) q =
          made (over e) refl (k.0 ∙ ap (λ (x : Bool). way_start x (o e)) (sym q))
          (k.1 ∙ ap (λ (x : Bool). way_end x (o e)) (sym q))
      by true (inr k) q =
          made (under e) refl (k.1 ∙ ap (λ (x : Bool). way_start x (o e)) (sym q))
          (k.0 ∙ ap (λ (x : Bool). way_end x (o e)) (sym q))
      by false (inl k) q =
          made (under e) refl (k.1 ∙ ap (λ (x : Bool). way_start x (o e)) (sym q))
          (k.0 ∙ ap (λ (x : Bool). way_end x (o e)) (sym q))
      by false (inr k) q =
          made (over e) refl (k.0 ∙ ap (λ (x : Bool). way_start x (o e)) (sym q))
          (k.1 ∙ ap (λ (x : Bool). way_end x (o e)) (sym q))

  -- ---- one side a half-edge
  one_way : (a b : Bool) (e : ℕ) → e < m → way_start a (o e) ≡ way_start b (o e) → a ≡ b
  one_way true true e l q = refl
  one_way false false e l q = refl
  one_way true false e l q = absurd (way_flat e l q)
  one_way false true e l q = absurd (way_flat e l (sym q))

  pub one_side_of : (s t : SideAt) (h : ℕ) → On s h → On t h → s ≡ t
  one_side_of s t h a b =
      let x : a.half ≡ b.half = number_apart a.half b.half (a.is ∙ sym b.is) in
      let e : edge_of a.half ≡ edge_of b.half = ap edge_of x in
      side_is s t (sym a.curve_is ∙ ap (λ (k : ℕ). (o k).curve) e ∙ b.curve_is)
      (one_way s.left t.left (edge_of a.half) a.there
      (sym a.starts ∙ ap (origin E) x ∙ b.starts
      ∙ ap (λ (k : ℕ). way_start t.left (o k)) (sym e)))

  -- ---- one half-edge at each end of a side
  one_part : (p q : Part) (first : Bool) → IsOnFirst p first → IsOnFirst q first
      → (IsWhole p → IsWhole q) → (IsWhole q → IsWhole p) → p ≡ q
  one_part whole whole first a b u v = refl
  one_part whole inner first a b u v = absurd (u tt)
  one_part whole outer first a b u v = absurd (u tt)
  one_part inner whole first a b u v = absurd (v tt)
  one_part outer whole first a b u v = absurd (v tt)
  one_part inner inner first a b u v = refl
  one_part outer outer first a b u v = refl
  one_part inner outer first a b u v = absurd (let q : true ≡ false = sym a ∙ b in cc)
  one_part outer inner first a b u v = absurd (let q : true ≡ false = sym b ∙ a in cc)

  same_part : (s : SideAt) (h g : ℕ) (a : On s h) (b : On s g)
      → (o (edge_of a.half)).part ≡ (o (edge_of b.half)).part
  same_part s h g a b =
      one_part _ _ (is_first_kind (curve d s.curve).kind (curve d s.curve) s.left)
      a.part_is b.part_is
      (are.kind (edge_of a.half) (edge_of b.half) a.there b.there (a.curve_is ∙ sym b.curve_is))
      (are.kind (edge_of b.half) (edge_of a.half) b.there a.there (b.curve_is ∙ sym a.curve_is))

  same_half : (s : SideAt) (h g : ℕ) (a : On s h) (b : On s g) → edge_of a.half ≡ edge_of b.half
      → h ≡ g
  same_half s h g a b e =
      sym a.is
      ∙ ap number (origin_flat a.half b.half a.there e
      (a.starts ∙ ap (λ (k : ℕ). way_start s.left (o k)) e ∙ sym b.starts))
      ∙ b.is

  -- the half-edge begins where the side's way does, and ends where that does
  abbrev pub Begins : (s : SideAt) (h : ℕ) → On s h → Type 0
  Begins s h a = origin E a.half ≡ start_of d s

  abbrev pub Ends : (s : SideAt) (h : ℕ) → On s h → Type 0
  Ends s h a = origin E (twin a.half) ≡ end_of d s

  -- from the ways of two edges
  by_from : (s : SideAt) (h g : ℕ) (a : On s h) (b : On s g)
      → (o (edge_of a.half)).from ≡ (curve d s.curve).from
      → (o (edge_of b.half)).from ≡ (curve d s.curve).from → edge_of a.half ≡ edge_of b.half
  by_from s h g a b u v =
      let c = ap (λ (i : ℕ). (curve d i).from) (sym a.curve_is) in
      are.first (edge_of a.half) (edge_of b.half) a.there b.there (a.curve_is ∙ sym b.curve_is)
      (same_part s h g a b) (u ∙ c) (v ∙ c)

  by_to : (s : SideAt) (h g : ℕ) (a : On s h) (b : On s g)
      → (o (edge_of a.half)).to ≡ (curve d s.curve).to
      → (o (edge_of b.half)).to ≡ (curve d s.curve).to → edge_of a.half ≡ edge_of b.half
  by_to s h g a b u v =
      let c = ap (λ (i : ℕ). (curve d i).to) (sym a.curve_is) in
      are.last (edge_of a.half) (edge_of b.half) a.there b.there (a.curve_is ∙ sym b.curve_is)
      (same_part s h g a b) (u ∙ c) (v ∙ c)

  pub begins_once : (s : SideAt) (h g : ℕ) (a : On s h) (b : On s g) → Begins s h a → Begins s g b
      → h ≡ g
  begins_once s h g a b p q = same_half s h g a b (by s.curve s.left a b p q)
    where
      by : (i : ℕ) (l : Bool) (a : On (side i l) h) (b : On (side i l) g) → Begins (side i l) h a
          → Begins (side i l) g b → edge_of a.half ≡ edge_of b.half
      by i true a b p q = by_from (side i true) h g a b (sym a.starts ∙ p) (sym b.starts ∙ q)
      by i false a b p q = by_to (side i false) h g a b (sym a.starts ∙ p) (sym b.starts ∙ q)

  pub ends_once : (s : SideAt) (h g : ℕ) (a : On s h) (b : On s g) → Ends s h a → Ends s g b → h ≡ g
  ends_once s h g a b p q = same_half s h g a b (by s.curve s.left a b p q)
    where
      by : (i : ℕ) (l : Bool) (a : On (side i l) h) (b : On (side i l) g) → Ends (side i l) h a
          → Ends (side i l) g b → edge_of a.half ≡ edge_of b.half
      by i true a b p q = by_to (side i true) h g a b (sym a.ends ∙ p) (sym b.ends ∙ q)
      by i false a b p q = by_from (side i false) h g a b (sym a.ends ∙ p) (sym b.ends ∙ q)

  -- each side has a half-edge that ends where it does
  pub some_end : (s : SideAt) → s.curve < length d.curves
      → (h : ℕ) × (a : On s h) × Ends s h a
  some_end s l = by s.curve s.left l
    where
      by : (i : ℕ) (b : Bool) → i < length d.curves
          → (h : ℕ) × (a : On (side i b) h) × Ends (side i b) h a
      by i true l =
          let (e, k, c, p, q) = are.some_last i true l in
          let (h, a, r) = some_half e (side i true) k c p in
          (h, a, a.ends ∙ ap (λ (x : ℕ). (o x).to) r ∙ q)
      by i false l =
          let (e, k, c, p, q) = are.some_first i false l in
          let (h, a, r) = some_half e (side i false) k c p in
          (h, a, a.ends ∙ ap (λ (x : ℕ). (o x).from) r ∙ q)

  -- ---- what follows
  is_end : (x : Half) → IsEnd (E (edge_of x)) (origin E x)
  is_end (under e) = inr refl
  is_end (over e) = inl refl

  twin_end : (x : Half) → IsEnd (E (edge_of x)) (origin E (twin x))
  twin_end (under e) = inl refl
  twin_end (over e) = inr refl

  -- no half-edge of a side begins where it ends
  pub none_after : (s : SideAt) (h g : ℕ) (a : On s h) (b : On s g) → Ends s h a
      → origin E b.half ≡ origin E (twin a.half) → ⊥
  none_after s h g a b p q = by s.curve s.left b (q ∙ p)
    where
      by : (i : ℕ) (l : Bool) (b : On (side i l) g) → origin E b.half ≡ end_of d (side i l) → ⊥
      by i true b r =
          are.before_last (edge_of b.half) b.there
          (sym b.starts ∙ r ∙ ap (λ (k : ℕ). (curve d k).to) (sym b.curve_is))
      by i false b r =
          are.after_first (edge_of b.half) b.there
          (sym b.starts ∙ r ∙ ap (λ (k : ℕ). (curve d k).from) (sym b.curve_is))

  ends_there : (s : SideAt) (h : ℕ) (a : On s h)
      → IsEndOf (curve d (o (edge_of a.half)).curve) (origin E (twin a.half)) → Ends s h a
  ends_there s h a = by s.curve s.left a
    where
      by : (i : ℕ) (l : Bool) (a : On (side i l) h)
          → IsEndOf (curve d (o (edge_of a.half)).curve) (origin E (twin a.half))
          → Ends (side i l) h a
      by i true a (inl p) = absurd (are.after_first (edge_of a.half) a.there (sym a.ends ∙ sym p))
      by i true a (inr p) = sym p ∙ ap (λ (k : ℕ). (curve d k).to) a.curve_is
      by i false a (inl p) = sym p ∙ ap (λ (k : ℕ). (curve d k).from) a.curve_is
      by i false a (inr p) = absurd (are.before_last (edge_of a.half) a.there (sym a.ends ∙ sym p))

  begins_there : (s : SideAt) (h : ℕ) (a : On s h)
      → IsEndOf (curve d (o (edge_of a.half)).curve) (origin E a.half) → Begins s h a
  begins_there s h a = by s.curve s.left a
    where
      by : (i : ℕ) (l : Bool) (a : On (side i l) h)
          → IsEndOf (curve d (o (edge_of a.half)).curve) (origin E a.half) → Begins (side i l) h a
      by i true a (inl p) = sym p ∙ ap (λ (k : ℕ). (curve d k).from) a.curve_is
      by i true a (inr p) =
          absurd (are.before_last (edge_of a.half) a.there (sym a.starts ∙ sym p))
      by i false a (inl p) =
          absurd (are.after_first (edge_of a.half) a.there (sym a.starts ∙ sym p))
      by i false a (inr p) = sym p ∙ ap (λ (k : ℕ). (curve d k).to) a.curve_is

  one_first : (p : Part) (a b : Bool) → (IsWhole p → ⊥) → IsOnFirst p a → IsOnFirst p b → a ≡ b
  one_first whole a b n u v = absurd (n tt)
  one_first inner a b n u v = u ∙ sym v
  one_first outer a b n u v = u ∙ sym v

  one_chain : (s t : SideAt) (h g : ℕ) (a : On s h) (b : On t g)
      → (o (edge_of a.half)).curve ≡ (o (edge_of b.half)).curve
      → (o (edge_of a.half)).part ≡ (o (edge_of b.half)).part
      → (IsWhole (o (edge_of a.half)).part → ⊥) → s ≡ t
  one_chain s t h g a b c p n =
      let i : s.curve ≡ t.curve = sym a.curve_is ∙ c ∙ b.curve_is in
      side_is s t i
      (first_once (curve d s.curve).kind (curve d s.curve) s.left t.left
      (one_first (o (edge_of a.half)).part _ _ n a.part_is
      (subst (λ (k : ℕ). IsPartOf (o (edge_of a.half)).part (curve d k) t.left) (sym i)
      (subst (λ (q : Part). IsPartOf q (curve d t.curve) t.left) (sym p) b.part_is))))

  -- where another side follows, the one ends and the other begins
  pub goes_on : (s t : SideAt) (h g : ℕ) (a : On s h) (b : On t g)
      → origin E b.half ≡ origin E (twin a.half) → (s ≡ t) ⊎ (Ends s h a × Begins t g b)
  goes_on s t h g a b q =
      elim (are.meet (edge_of a.half) (edge_of b.half) (origin E (twin a.half)) a.there b.there
      (twin_end a.half) (subst (IsEnd (E (edge_of b.half))) q (is_end b.half))) [
        | inl k ↦ inl (one_chain s t h g a b k.0 k.1 k.2)
        | inr k ↦ inr (
          ends_there s h a k.0,
          begins_there t g b
              (subst (IsEndOf (curve d (o (edge_of b.half)).curve)) (sym q) k.1),
        )
      ]
