-- The half-edge that faces a tube from within, as a program tells it: by the direction of the edge
-- along the chord.
use Rattle.std.proofs.Common.{◌≡◌, ℕ, suc, ◌+◌, ◌<◌, ◌≤◌, Bool, true, false, List, [], ◌∷◌, ◌++◌}
use Rattle.std.proofs.Common.{length, ℤ, ◌-ℤ◌, ◌<ℤ◌, inl, inr, refl, arith, ap, sym, ◌∙◌, subst}
use Rattle.std.proofs.lemmas.Int.{ints}
use Rattle.plane.specs.declared.kinds.Point.{Point}
use Rattle.plane.specs.declared.kinds.CurveKind.{CurveKind}
use Rattle.plane.specs.declared.kinds.CurveKind.TheVariants as kind
use Rattle.plane.specs.Forms.Vectors.{point, Edge}
use Rattle.plane.specs.Forms.Arcs.{HalfArc, along}
use Rattle.plane.specs.Rule.Curves.{arc}
use Rattle.plane.specs.Rule.Plans.{Plan, curve}
use Rattle.plane.specs.Runs.Steps.{Step}
use Rattle.plane.specs.Faces.Cells.{is_positive}
use Rattle.plane.specs.Faces.Halves.{under, over, edge_of}
use Rattle.plane.specs.Tubes.Bays.{Bay, IsTube, AreBays}
use Rattle.plane.specs.Tubes.Windings.{arrow}
use Rattle.plane.specs.Tubes.Facing.{way}
use Rattle.plane.specs.CurveRuns.TubedRuns.{Part, whole, inner, outer, Owned, chain, inner_corners}
use Rattle.plane.specs.CurveRuns.TubedRuns.{outer_corners, edges_of, owned, owner, IsOfTube}
use Rattle.plane.specs.CurveRuns.TubedRuns.{IsTubedRun, third_is_left, inward, FacesTube, runs_on}
use Rattle.plane.specs.CurveRuns.TubedRuns.{side_within, half_within, first_edge}
use Rattle.plane.proofs.Strips.CountBelow.{positive_is, not_positive}
use Rattle.plane.proofs.Windings.Under.{by_order}
use Rattle.plane.proofs.TubedRuns.EdgeNumbers.{IsFrom, group_at}
use Rattle.plane.proofs.OneTube.BackwardBays.{last_inner, last_is}
use Rattle.plane.proofs.TubedRuns.OwnedEdges.{no_curve, IsOfArc, owner_is}

module _ (h : HalfArc) where
  abbrev Rises : Point → Point → Type 0
  Rises p q = along h (point p) <ℤ along h (point q)

  step_up : (a b c : ℤ) → a <ℤ b → b <ℤ c → a <ℤ c
  step_up a b c l k = omega (arith, ints, l, k)

  -- each edge of a chain in a numbering rises
  abbrev AllRise : List Owned → Type 0
  AllRise [] = Unit {0}
  AllRise (o ∷ os) = Rises o.from o.to × AllRise os

  all_append : (xs ys : List Owned) → AllRise xs → AllRise ys → AllRise (xs ++ ys)
  all_append [] ys a b = b
  all_append (x ∷ xs) ys a b = (a.0, all_append xs ys a.1 b)

  inner_rise : (i : ℕ) (p : Point) (bs : List Bay) → AreBays h p bs
      → AllRise (chain i inner p (inner_corners bs))
  inner_rise i p [] a = tt
  inner_rise i p (b ∷ bs) a = (step_up _ _ _ a.0.up a.0.on, inner_rise i b.inner bs a.1)

  outer_later : (i : ℕ) (q p e : Point) (bs : List Bay) → Rises q p → last_inner p bs ≡ e
      → AreBays h p bs → AllRise (chain i outer q (outer_corners bs ++ e ∷ []))
  outer_later i q p e [] r l a = (subst (λ (x : Point). Rises q x) l r, tt)
  outer_later i q p e (b ∷ bs) r l a =
      (step_up _ _ _ r a.0.up, outer_later i b.outer b.inner e bs a.0.on l a.1)

  outer_rise : (i : ℕ) (p e : Point) (b : Bay) (bs : List Bay) → last_inner p (b ∷ bs) ≡ e
      → AreBays h p (b ∷ bs) → AllRise (chain i outer p (outer_corners (b ∷ bs) ++ e ∷ []))
  outer_rise i p e b bs l a = (a.0.up, outer_later i b.outer b.inner e bs a.0.on l a.1)

  by_number : (f : ℕ → Owned) (n x : ℕ) (os : List Owned) → IsFrom f n os → AllRise os → n ≤ x
      → x < (n + length os) → Rises (f x).from (f x).to
  by_number f n x [] g a l k = absurd (omega (arith, l, k))
  by_number f n x (o ∷ os) g a l k = by_order n x
      (λ (j : n < x). by_number f (suc n) x os g.1 a.1 (omega (arith, j)) (omega (arith, k)))
      (λ (j : x ≤ n). subst (λ (y : Owned). Rises y.from y.to)
      (sym (ap f (omega (arith, l, j)) ∙ g.0)) a.0)

-- an arrow between two points is that of the half-edge over or under the edge
over_way : (E : ℕ → Edge) (e : ℕ) (p q : Point) → (E e).low ≡ p → (E e).high ≡ q
    → way E (over e) ≡ arrow p q
over_way E e p q a b = ap (λ (x : Point). arrow x (E e).high) a ∙ ap (λ (x : Point). arrow p x) b

under_way : (E : ℕ → Edge) (e : ℕ) (p q : Point) → (E e).low ≡ p → (E e).high ≡ q
    → way E (under e) ≡ arrow q p
under_way E e p q a b = ap (λ (x : Point). arrow (E e).high x) a ∙ ap (λ (x : Point). arrow x p) b

-- from the direction of the edge, the half-edge with the tube on its left
along_way : (E : ℕ → Edge) (e : ℕ) (left : Bool) (part : Part) (p q : Point) → IsOfTube part
    → (E e).low ≡ p → (E e).high ≡ q → way E (side_within left part true e) ≡ inward left part p q
along_way E e left whole p q h a b = absurd h
along_way E e false inner p q h a b = over_way E e p q a b
along_way E e true inner p q h a b = under_way E e p q a b
along_way E e false outer p q h a b = under_way E e p q a b
along_way E e true outer p q h a b = over_way E e p q a b

against_way : (E : ℕ → Edge) (e : ℕ) (left : Bool) (part : Part) (p q : Point) → IsOfTube part
    → (E e).low ≡ q → (E e).high ≡ p → way E (side_within left part false e) ≡ inward left part p q
against_way E e left whole p q h a b = absurd h
against_way E e false inner p q h a b = under_way E e q p a b
against_way E e true inner p q h a b = over_way E e q p a b
against_way E e false outer p q h a b = over_way E e q p a b
against_way E e true outer p q h a b = under_way E e q p a b

pub side_edge : (left : Bool) (part : Part) (on : Bool) (e : ℕ)
    → edge_of (side_within left part on e) ≡ e
side_edge false whole on e = refl
side_edge true whole on e = refl
side_edge false inner true e = refl
side_edge false inner false e = refl
side_edge true inner true e = refl
side_edge true inner false e = refl
side_edge false outer true e = refl
side_edge false outer false e = refl
side_edge true outer true e = refl
side_edge true outer false e = refl

up_test : (a b x y : ℤ) → x ≡ a → y ≡ b → a <ℤ b → is_positive (y -ℤ x) ≡ true
up_test a b x y e f l = positive_is (y -ℤ x) (omega (arith, ints, e, f, l))

down_test : (a b x y : ℤ) → x ≡ b → y ≡ a → a <ℤ b → is_positive (y -ℤ x) ≡ false
down_test a b x y e f l = not_positive (y -ℤ x) (omega (arith, ints, e, f, l))

module _ (d : Plan) (bays : ℕ → List Bay) (m : ℕ) (E : ℕ → Edge) (steps : List Step)
    (is : IsTubedRun d bays m E steps) where
  abbrev f : ℕ → Owned
  f e = owned d bays e

  -- the edges of a tube rise along its chord
  pub edge_rises : (e : ℕ) → e < m → IsOfTube (f e).part
      → along (arc (owner d bays e)) (point (f e).from) <ℤ along (arc (owner d bays e))
      (point (f e).to)
  edge_rises e l o = elim (owner_is d bays m E steps is e l) [
    | inl s ↦ absurd (subst IsOfTube s.part o)
    | inr a ↦ subst
        (λ (i : ℕ). along (arc (curve d i)) (point (f e).from) <ℤ along (arc (curve d i))
        (point (f e).to)) (sym a.number) (risen a)
  ]
    where
      all_rise : (i : ℕ) → IsTube (arc (curve d i)) (bays i)
          → AllRise (arc (curve d i)) (edges_of i kind.HalfArc (curve d i) (bays i))
      all_rise i t = by_bays (bays i) t
        where
          by_bays : (bs : List Bay) → IsTube (arc (curve d i)) bs
              → AllRise (arc (curve d i)) (edges_of i kind.HalfArc (curve d i) bs)
          by_bays [] t = absurd t.some
          by_bays (b ∷ bs) t =
              all_append (arc (curve d i)) (chain i inner (curve d i).from (inner_corners (b ∷ bs)))
              _ (inner_rise (arc (curve d i)) i (curve d i).from (b ∷ bs) t.are_bays)
              (outer_rise (arc (curve d i)) i (curve d i).from (curve d i).to b bs
              (last_is (curve d i).from (curve d i).to b bs t.ends) t.are_bays)

      risen : (a : IsOfArc d bays m E steps is e)
          → along (arc (curve d a.index)) (point (f e).from) <ℤ along (arc (curve d a.index))
          (point (f e).to)
      risen a =
          by_number (arc (curve d a.index)) f (first_edge bays 0 d.curves a.index) e
          (edges_of a.index kind.HalfArc (curve d a.index) (bays a.index))
          (subst (λ (kd : CurveKind). IsFrom f (first_edge bays 0 d.curves a.index)
          (edges_of a.index kd (curve d a.index) (bays a.index))) a.bent
          (group_at bays no_curve 0 d.curves a.index a.index a.fits (omega arith)))
          (all_rise a.index (is.tube a.index a.fits a.bent)) a.from a.below

  pub faces : (e : ℕ) → e < m → IsOfTube (f e).part → FacesTube d bays E e (half_within d bays E e)
  faces e l o = record {
    edge = side_edge (third_is_left (owner d bays e)) (f e).part (runs_on (owner d bays e) (E e)) e;
    left = elim (is.edge e l) [
      | inl k ↦ ap
          (λ (on : Bool). way E (side_within (third_is_left (owner d bays e)) (f e).part on e))
          (up_test _ _ _ _ (value k.0) (value k.1) (edge_rises e l o))
          ∙ along_way E e (third_is_left (owner d bays e)) (f e).part (f e).from (f e).to o k.0 k.1
      | inr k ↦ ap
          (λ (on : Bool). way E (side_within (third_is_left (owner d bays e)) (f e).part on e))
          (down_test _ _ _ _ (value k.0) (value k.1) (edge_rises e l o))
          ∙ against_way E e (third_is_left (owner d bays e)) (f e).part (f e).from
          (f e).to o k.0 k.1
    ];
  }
    where
      value : {p q : Point} → p ≡ q
          → along (arc (owner d bays e)) (point p) ≡ along (arc (owner d bays e)) (point q)
      value q = ap (λ (x : Point). along (arc (owner d bays e)) (point x)) q
