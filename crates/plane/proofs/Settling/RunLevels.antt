-- A run over the edge list of a drawing whose half arcs have tubes gives the edges of the drawing,
-- with each tube from that end of its half
-- arc from which the third point is on the right.
use Rattle.std.proofs.Common.{◌≡◌, ℕ, zero, suc, ◌<◌, Bool, true, false, cond, List, [], ◌∷◌, ◌++◌}
use Rattle.std.proofs.Common.{length, ℤ, pos, negsuc, ◌*ℤ◌, ◌<ℤ◌, ◌≤ℤ◌, ◌⊎◌, inl, inr, refl, arith}
use Rattle.std.proofs.Common.{ap, sym, ◌∙◌, subst}
use Rattle.std.proofs.lemmas.Int.{ints, by_lt_z}
use Rattle.plane.specs.declared.kinds.Point.{Point}
use Rattle.plane.specs.declared.kinds.Curve.{Curve}
use Rattle.plane.specs.declared.kinds.CurveKind.{CurveKind}
use Rattle.plane.specs.declared.kinds.CurveKind.TheVariants as kind
use Rattle.plane.specs.Forms.Vectors.{Edge}
use Rattle.plane.specs.Forms.Segments.{IsEdgeOf}
use Rattle.plane.specs.Forms.Arcs.{HalfArc, bend}
use Rattle.plane.specs.Rule.Curves.{arc}
use Rattle.plane.specs.Rule.Plans.{Plan, curve, IsStraight}
use Rattle.plane.specs.Faces.Cells.{is_positive}
use Rattle.plane.specs.Runs.Steps.{Step}
use Rattle.plane.specs.Tubes.Bays.{Bay, IsSome, IsTube}
use Rattle.plane.specs.CurveRuns.TubedRuns.{edges_of, owned, IsTubedRun, third_is_left, half_within}
use Rattle.plane.specs.CurveRuns.TubedRuns.{first_edge, first_bay, later_bays, backward}
use Rattle.plane.proofs.Settling.EdgesAndTubes.{turned, EdgeList, IsEdgeList, level}
use Rattle.plane.specs.CurveRuns.Levels.{AreWide}
use Rattle.plane.proofs.TubedRuns.EdgeNumbers.{group_of}
use Rattle.plane.proofs.TubedRuns.OwnedEdges.{no_curve, owner_is, straight_edge}
use Rattle.plane.proofs.OneTube.TurnedTubes.{split_bays}
use Rattle.plane.proofs.TubedRuns.FacingHalves.{faces}
use Rattle.plane.proofs.OneTube.ReversedTubes.{bend-turned, reversed_tube}
use Rattle.plane.proofs.TubedRuns.ArcEdges.{group_curve}
use Rattle.plane.proofs.TubedRuns.TubedEdges.{its_bounds, half_fits, half_once, facing, half_curve}

-- ---- the half arc from its right end
abbrev pub right_arc : Bool → Curve → HalfArc
right_arc left c = record {
  from = cond left c.to c.from;
  to = cond left c.from c.to;
  third = c.third;
}

right_is : (left : Bool) (c : Curve)
    → (right_arc left c ≡ arc c) ⊎ (right_arc left c ≡ turned (arc c))
right_is false c = inl refl
right_is true c = inr refl

not_positive : (z : ℤ) → is_positive z ≡ false → z ≤ℤ pos 0
not_positive (pos zero) e = omega (arith, ints)
not_positive (pos (suc n)) e = absurd (no_true e)
  where
    Two : Bool → Type 0
    Two true = ⊥
    Two false = Unit {0}

    no_true : true ≡ false → ⊥
    no_true e = subst Two (sym e) tt
not_positive (negsuc n) e = omega (arith, ints)

positive : (z : ℤ) → is_positive z ≡ true → pos 0 <ℤ z
positive (pos zero) e = absurd (no_false e)
  where
    Two : Bool → Type 0
    Two true = ⊥
    Two false = Unit {0}

    no_false : false ≡ true → ⊥
    no_false e = subst Two e tt
positive (pos (suc n)) e = omega (arith, ints)
positive (negsuc n) e = absurd (no_false e)
  where
    Two : Bool → Type 0
    Two true = ⊥
    Two false = Unit {0}

    no_false : false ≡ true → ⊥
    no_false e = subst Two e tt

right_bend : (left : Bool) (c : Curve) → is_positive (bend (arc c)) ≡ left
    → pos 0 <ℤ (bend (arc c) *ℤ bend (arc c)) → bend (right_arc left c) <ℤ pos 0
right_bend true c e square =
    let p = positive (bend (arc c)) e in let f = bend-turned (arc c) in omega (arith, ints, p, f)
right_bend false c e square =
    let p = not_positive (bend (arc c)) e in
    by_lt_z (bend (arc c)) (pos 0) (λ l. l) (λ (l : pos 0 ≤ℤ bend (arc c)).
    let z : bend (arc c) ≡ pos 0 = omega (arith, ints, p, l) in
    let s : bend (arc c) *ℤ bend (arc c) ≡ pos 0 = ap (λ (v : ℤ). v *ℤ bend (arc c)) z
    ∙ omega (arith, ints) in
    absurd (omega (arith, ints, s, square)))

abbrev pub right_bays : Bool → Curve → List Bay → List Bay
right_bays left c bs = cond left (backward c.from bs) bs

pub right_tube : (left : Bool) (c : Curve) (bs : List Bay) → IsTube (arc c) bs
    → IsTube (right_arc left c) (first_bay (right_bays left c bs)
    ∷ later_bays (right_bays left c bs))
right_tube left c [] t = absurd t.some
right_tube false c (b ∷ bs) t = t
right_tube true c (b ∷ bs) t =
    subst (λ (ks : List Bay). IsTube (turned (arc c)) ks) (sym (split_bays true c.from b bs))
    (reversed_tube (arc c) b bs t)

later_some : (xs : List Bay) (k : Bay) → IsSome xs → IsSome (later_bays (xs ++ k ∷ []))
later_some [] k s = absurd s
later_some (x ∷ []) k s = tt
later_some (x ∷ (y ∷ xs)) k s = tt

back_some : (a : Point) (b : Bay) (bs : List Bay) → IsSome (backward a (b ∷ bs))
back_some a b bs = some (backward b.inner bs) (record { outer = b.outer; inner = a })
  where
    some : (xs : List Bay) (k : Bay) → IsSome (xs ++ k ∷ [])
    some [] k = tt
    some (x ∷ xs) k = tt

right_wide : (left : Bool) (c : Curve) (bs : List Bay) → IsSome (later_bays bs)
    → IsSome (later_bays (right_bays left c bs))
right_wide false c bs s = s
right_wide true c [] s = absurd s
right_wide true c (b ∷ []) s = absurd s
right_wide true c (b ∷ (d ∷ bs)) s =
    later_some (backward b.inner (d ∷ bs)) (record { outer = b.outer; inner = c.from })
    (back_some b.inner d bs)

module _ (d : Plan) (bays : ℕ → List Bay) (m : ℕ) (E : ℕ → Edge) (steps : List Step)
    (is : IsTubedRun d bays m E steps) (wide : AreWide d bays) where
  abbrev l : EdgeList
  l = level d bays m E

  owner_fits : (e : ℕ) → e < m → (owned d bays e).curve < length d.curves
  owner_fits e f = elim (owner_is d bays m E steps is e f) [
    | inl s ↦ subst (λ (n : ℕ). n < length d.curves) (sym s.number) s.fits
    | inr a ↦ subst (λ (n : ℕ). n < length d.curves) (sym a.number) a.fits
  ]

  straight_place : (e : ℕ) → e < m → IsStraight d (owned d bays e).curve
      → e ≡ first_edge bays 0 d.curves (owned d bays e).curve
  straight_place e f s =
      let g = group_of bays no_curve 0 d.curves e (let a = is.count in omega (arith, a, f)) in
      let n : g.curve ≡ g.index = (let a = g.number in omega (arith, a)) in
      let o = group_curve d bays m E steps is e g n in
      let k : (curve d g.index).kind ≡ kind.Straight = subst
      (λ (j : ℕ). (curve d j).kind ≡ kind.Straight) o s.kind in
      let there = subst
      (λ (y : ℕ). g.place < length
      (edges_of y (curve d g.index).kind (curve d g.index) (bays y))) n g.there in
      let zero = none g.place
      (subst (λ (kd : CurveKind). g.place < length
      (edges_of g.index kd (curve d g.index) (bays g.index))) k there) in
      let at_e = g.is in
      let same = ap (λ (j : ℕ). first_edge bays 0 d.curves j) o in
      omega (arith, at_e, zero, same)
    where
      none : (k : ℕ) → k < 1 → k ≡ 0
      none k l = omega (arith, l)

  pub run_edges : IsEdgeList d l
  run_edges = record {
    owned = owner_fits;
    straights = λ i s.
        let x = straight_edge d bays m E steps is i s.there s.kind in
        let o = x.2 in
        let q : x.0 ≡ first_edge bays 0 d.curves i = straight_place x.0 x.1
        (subst (λ (j : ℕ). IsStraight d j) (sym o) s)
        ∙ ap (λ (j : ℕ). first_edge bays 0 d.curves j) o in (
          subst (λ (e : ℕ). e < m) q x.1,
          subst (λ (e : ℕ). IsEdgeOf (E e) (curve d i)) q x.3,
          subst (λ (e : ℕ). (owned d bays e).curve ≡ i) q o,
        );
    straight_only = straight_place;
    tubes = λ i h.
        let t = is.tube i h.there h.kind in record {
          is = right_is (third_is_left (curve d i)) (curve d i);
          right = right_bend (third_is_left (curve d i)) (curve d i) refl t.circle;
          tube = right_tube (third_is_left (curve d i)) (curve d i) (bays i) t;
          wide = right_wide (third_is_left (curve d i)) (curve d i) (bays i)
              (wide i h.there h.kind);
          bounds = its_bounds d bays m E steps (half_within d bays E) is
              (faces d bays m E steps is) i h.there h.kind;
          fits = half_fits d bays m E steps (half_within d bays E) is
              (faces d bays m E steps is) i h.there h.kind;
          once = half_once d bays m E steps (half_within d bays E) is
              (faces d bays m E steps is) i h.there h.kind;
        };
    tube_owner =
        λ i h g k. half_curve d bays m E steps (half_within d bays E) is
        (faces d bays m E steps is) i h.there h.kind g k;
    tube_only = λ e f h.
        let k = facing d bays m E steps (half_within d bays E) is (faces d bays m E steps is)
        (owned d bays e).curve h.there h.kind e f refl in
        (half_within d bays E e, k.0, k.1);
  }
