-- The edges of the curves of a drawing with tubes: where the way along each begins and ends.
use Rattle.std.proofs.Common.{◌≡◌, ◌⊎◌, ℕ, ◌+◌, ◌-◌, ◌<◌, List}
use Rattle.std.proofs.Common.{length, get_or, ◌≤ℤ◌, inl, inr, refl, sym, ap}
use Rattle.std.proofs.Common.{subst, ◌∙◌, arith}
use Rattle.std.proofs.lemmas.Bool.{cases_eq, cases_lt}
use Rattle.std.proofs.lemmas.Int.{ints}
use Rattle.plane.specs.CurveRuns.TubedRuns.{IsOfTube, IsTubedRun, Owned, Part}
use Rattle.plane.specs.CurveRuns.TubedRuns.{edges_of, first_edge, inner, no_edge}
use Rattle.plane.specs.CurveRuns.TubedRuns.{outer, owned, whole}
use Rattle.plane.specs.Forms.Vectors.{Before}
use Rattle.plane.specs.Rule.Curves.{arc}
use Rattle.plane.specs.Rule.Plans.{IsStraight, Plan, curve}
use Rattle.plane.specs.Runs.Steps.{Step}
use Rattle.plane.specs.Tubes.Bays.{Bay, IsTube}
use Rattle.plane.specs.declared.kinds.CurveKind.{CurveKind}
use Rattle.plane.specs.declared.kinds.CurveKind.TheVariants as kind
use Rattle.plane.specs.declared.kinds.Edge.{Edge}
use Rattle.plane.specs.declared.kinds.Point.{Point}
use Rattle.area_search.proofs.PlaneLaws.{never}
use Rattle.area_search.proofs.SettledLemmas.ArcChains.{A, AreCorners, Follow, IsBetween}
use Rattle.area_search.proofs.SettledLemmas.ArcChains.{all_between}
use Rattle.area_search.proofs.SettledLemmas.ArcChains.{all_corners, all_follow}
use Rattle.area_search.proofs.SettledLemmas.ChainLaws.{IsFrom, IsOfArc, IsOfStraight, each_at}
use Rattle.area_search.proofs.SettledLemmas.ChainLaws.{from_at}
use Rattle.area_search.proofs.SettledLemmas.ChainLaws.{group_at, group_fits, no_curve, owner_is}
use Rattle.area_search.proofs.SettledLemmas.ChainLaws.{pairs_at}
use Rattle.area_search.proofs.SettledLemmas.SideHalves.{IsWhole}

two_kinds : (k : CurveKind) → k ≡ kind.Straight → k ≡ kind.HalfArc → ⊥
two_kinds k e f = absurd (let q : kind.Straight ≡ kind.HalfArc = sym e ∙ f in cc)

pub tube_whole : (p : Part) → IsOfTube p → IsWhole p → ⊥
tube_whole whole t w = t
tube_whole inner t w = w
tube_whole outer t w = w

module _ (d : Plan) (bays : ℕ → List Bay) (m : ℕ) (E : ℕ → Edge) (steps : List Step)
    (is : IsTubedRun d bays m E steps)
    (only : (e : ℕ) → e < m → IsStraight d (owned d bays e).curve
    → e ≡ first_edge bays 0 d.curves (owned d bays e).curve) where
  abbrev o : ℕ → Owned
  o e = owned d bays e

  abbrev first : ℕ → ℕ
  first i = first_edge bays 0 d.curves i

  abbrev group : ℕ → List Owned
  group i = edges_of i kind.HalfArc (curve d i) (bays i)

  -- ---- straights
  pub straight_owned : (i : ℕ) → i < length d.curves → (curve d i).kind ≡ kind.Straight
      → o (first i)
      ≡ record { from = (curve d i).from; to = (curve d i).to; curve = i; part = whole }
  straight_owned i l e =
      let n : first i ≡ first i + 0 = omega arith in
      ap o n
      ∙ from_at o (first i) 0 (edges_of i kind.Straight (curve d i) (bays i))
      (subst (λ (k : CurveKind). IsFrom o (first i) (edges_of i k (curve d i) (bays i))) e
      (group_at bays no_curve 0 d.curves i i l (omega arith)))
      (omega arith)

  pub straight_fits : (i : ℕ) → i < length d.curves → (curve d i).kind ≡ kind.Straight → first i < m
  straight_fits i l e =
      let fits = group_fits bays no_curve 0 d.curves i i l (omega arith) in
      let one : length (edges_of i (curve d i).kind (curve d i) (bays i)) ≡ 1 = ap
      (λ (k : CurveKind). length (edges_of i k (curve d i) (bays i))) e in
      let count = is.count in
      omega (arith, fits, one, count)

  -- what an edge of a straight is
  whole_owned : (e : ℕ) → e < m → (s : IsOfStraight d bays m E steps is e)
      → (e ≡ first s.index)
      × (o e ≡ record {
        from = (curve d s.index).from;
        to = (curve d s.index).to;
        curve = s.index;
        part = whole;
      })
  whole_owned e l s =
      let q : e ≡ first s.index = only e l
      (subst (IsStraight d) (sym s.number) (record { there = s.fits; kind = s.straight }))
      ∙ ap first s.number in
      (q, ap o q ∙ straight_owned s.index s.fits s.straight)

  -- ---- half arcs
  -- the place of an edge among those of its half arc
  its_place : (e : ℕ) → e < m → (a : IsOfArc d bays m E steps is e)
      → ((e - first a.index) < length (group a.index))
      × (o e ≡ get_or (group a.index) (e - first a.index) no_edge)
  its_place e l a =
      let from = a.from in
      let below = a.below in
      let k = e - first a.index in
      let n : e ≡ first a.index + k = omega (arith, from) in
      let fits : k < length (group a.index) = omega (arith, from, below) in (
        fits,
        ap o n
            ∙ from_at o (first a.index) k (group a.index)
            (subst (λ (c : CurveKind). IsFrom o (first a.index) (edges_of a.index c
            (curve d a.index) (bays a.index))) a.bent
            (group_at bays no_curve 0 d.curves a.index a.index a.fits (omega arith))) fits,
      )

  pub tube_of : (e : ℕ) → (a : IsOfArc d bays m E steps is e)
      → IsTube (arc (curve d a.index)) (bays a.index)
  tube_of e a = is.tube a.index a.fits a.bent

  between : (e : ℕ) → e < m → (a : IsOfArc d bays m E steps is e)
      → IsBetween (arc (curve d a.index)) (curve d a.index).from (curve d a.index).to (o e)
  between e l a =
      let p = its_place e l a in
      subst (IsBetween (arc (curve d a.index)) (curve d a.index).from (curve d a.index).to)
      (sym p.1)
      (each_at _ (group a.index) (e - first a.index) no_edge
      (all_between a.index (curve d a.index) (bays a.index) (tube_of e a)) p.0)

  pub corners : (e : ℕ) → e < m → (a : IsOfArc d bays m E steps is e)
      → AreCorners (curve d a.index).from (curve d a.index).to (bays a.index) (o e)
  corners e l a =
      let p = its_place e l a in
      subst (AreCorners (curve d a.index).from (curve d a.index).to (bays a.index)) (sym p.1)
      (each_at _ (group a.index) (e - first a.index) no_edge
      (all_corners a.index (curve d a.index) (bays a.index) (tube_of e a)) p.0)

  follows : (e f : ℕ) → e < f → f < m → (a : IsOfArc d bays m E steps is e)
      → (b : IsOfArc d bays m E steps is f) → a.index ≡ b.index
      → Follow (arc (curve d a.index)) (o e) (o f)
  follows e f less l a b same =
      let p = its_place e (omega (arith, less, l)) a in
      let q = its_place f l b in
      let from = a.from in
      let fits : (f - first a.index) < length (group a.index) = subst
      (λ (i : ℕ). (f - first i) < length (group i)) (sym same) q.0 in
      let there : o f ≡ get_or (group a.index) (f - first a.index) no_edge = subst
      (λ (i : ℕ). o f ≡ get_or (group i) (f - first i) no_edge) (sym same) q.1 in
      subst (λ (x : Owned). Follow (arc (curve d a.index)) x (o f)) (sym p.1)
      (subst (Follow (arc (curve d a.index)) (get_or (group a.index) (e - first a.index) no_edge))
      (sym there)
      (pairs_at _ (group a.index) (e - first a.index) (f - first a.index) no_edge
      (all_follow a.index (curve d a.index) (bays a.index) (tube_of e a))
      (omega (arith, from, less)) fits))

  -- ---- what both kinds of edges are
  abbrev Kinds : ℕ → Type 0
  Kinds e = IsOfStraight d bays m E steps is e ⊎ IsOfArc d bays m E steps is e

  pub kinds : (e : ℕ) → e < m → Kinds e
  kinds e l = owner_is d bays m E steps is e l

  pub no_mix : (e f : ℕ) → (o e).curve ≡ (o f).curve → (s : IsOfStraight d bays m E steps is e)
      → (a : IsOfArc d bays m E steps is f) → ⊥
  no_mix e f c s a =
      two_kinds (curve d s.index).kind s.straight
      (subst (λ (i : ℕ). (curve d i).kind ≡ kind.HalfArc) (sym a.number ∙ sym c ∙ s.number) a.bent)

  pub kind_of : (e f : ℕ) → e < m → f < m → (o e).curve ≡ (o f).curve → IsWhole (o e).part
      → IsWhole (o f).part
  kind_of e f l k c w = elim (kinds e l) [
    | inr a ↦ absurd (tube_whole (o e).part a.part w)
    | inl s ↦ elim (kinds f k) [
      | inl r ↦ subst IsWhole (sym r.part) tt
      | inr a ↦ absurd (no_mix e f c s a)
    ]
  ]

  -- two edges of one part of a curve, in order
  order : (e f : ℕ) → e < f → f < m → (o e).curve ≡ (o f).curve → (o e).part ≡ (o f).part
      → (a : IsOfArc d bays m E steps is e) → (b : IsOfArc d bays m E steps is f)
      → (A (arc (curve d (o e).curve)) (o e).to) ≤ℤ (A (arc (curve d (o e).curve)) (o f).from)
  order e f less l c p a b =
      subst (λ (i : ℕ). A (arc (curve d i)) (o e).to ≤ℤ A (arc (curve d i)) (o f).from)
      (sym a.number)
      (follows e f less l a b (sym a.number ∙ c ∙ b.number) p)

  rising : (e : ℕ) → e < m → (a : IsOfArc d bays m E steps is e) → (i : ℕ) → (o e).curve ≡ i
      → IsBetween (arc (curve d i)) (curve d i).from (curve d i).to (o e)
  rising e l a i c =
      subst (λ (j : ℕ). IsBetween (arc (curve d j)) (curve d j).from (curve d j).to (o e))
      (sym a.number ∙ c) (between e l a)

  -- no two edges of a part begin at one point, or end at one
  not_less : (e f : ℕ) → e < f → f < m → (o e).curve ≡ (o f).curve → (o e).part ≡ (o f).part
      → (a : IsOfArc d bays m E steps is e) → (b : IsOfArc d bays m E steps is f)
      → ((o e).from ≡ (o f).from) ⊎ ((o e).to ≡ (o f).to) → ⊥
  not_less e f less l c p a b q =
      let i = (o e).curve in
      let h = arc (curve d i) in
      let u = (rising e (omega (arith, less, l)) a i refl).rises in
      let v = (rising f l b i (sym c)).rises in
      let w = order e f less l c p a b in
      elim q [
        | inl r ↦ (let k = ap (A h) r in omega (arith, ints, u, w, k))
        | inr r ↦ (let k = ap (A h) r in omega (arith, ints, v, w, k))
      ]

  pub one_edge : (e f : ℕ) → e < m → f < m → (o e).curve ≡ (o f).curve → (o e).part ≡ (o f).part
      → ((o e).from ≡ (o f).from) ⊎ ((o e).to ≡ (o f).to) → e ≡ f
  one_edge e f l k c p q = elim (kinds e l) [
    | inl s ↦ elim (kinds f k) [
      | inl r ↦ (whole_owned e l s).0 ∙ ap first (sym s.number ∙ c ∙ r.number)
          ∙ sym (whole_owned f k r).0
      | inr a ↦ absurd (no_mix e f c s a)
    ]
    | inr a ↦ elim (kinds f k) [
      | inl s ↦ absurd (no_mix f e (sym c) s a)
      | inr b ↦ elim (cases_eq e f) [
        | inl same ↦ same
        | inr ne ↦ elim (cases_lt e f) [
          | inl less ↦ absurd (not_less e f less k c p a b q)
          | inr more ↦ absurd (not_less f e (omega (arith, more, ne)) l (sym c) (sym p) b a
              (elim q [ inl r ↦ inl (sym r) | inr r ↦ inr (sym r) ]))
        ]
      ]
    ]
  ]

  -- ---- where edges begin and end
  pub way_flat : (e : ℕ) → e < m → (o e).from ≡ (o e).to → ⊥
  way_flat e l q =
      never (E e).low
      (subst (λ (p : Point). Before (E e).low p) (sym same) (is.run.edges e l))
    where
      same : (E e).low ≡ (E e).high
      same = elim (is.edge e l)
          [ inl k ↦ k.0 ∙ q ∙ sym k.1 | inr k ↦ k.0 ∙ sym q ∙ sym k.1 ]

  -- the two ends of the way of a straight's edge
  pub whole_ends : (e : ℕ) → e < m → (s : IsOfStraight d bays m E steps is e)
      → ((o e).from ≡ (curve d (o e).curve).from) × ((o e).to ≡ (curve d (o e).curve).to)
  whole_ends e l s =
      let q = (whole_owned e l s).1 in (
        ap (λ (x : Owned). x.from) q ∙ ap (λ (i : ℕ). (curve d i).from) (sym s.number),
        ap (λ (x : Owned). x.to) q ∙ ap (λ (i : ℕ). (curve d i).to) (sym s.number),
      )

  pub after_first : (e : ℕ) → e < m → (o e).to ≡ (curve d (o e).curve).from → ⊥
  after_first e l q = elim (kinds e l) [
    | inl s ↦ way_flat e l ((whole_ends e l s).0 ∙ sym q)
    | inr a ↦
        let b = rising e l a (o e).curve refl in
        let u = b.rises in
        let v = b.low in
        let k = ap (A (arc (curve d (o e).curve))) q in
        omega (arith, ints, u, v, k)
  ]

  pub before_last : (e : ℕ) → e < m → (o e).from ≡ (curve d (o e).curve).to → ⊥
  before_last e l q = elim (kinds e l) [
    | inl s ↦ way_flat e l (q ∙ sym (whole_ends e l s).1)
    | inr a ↦
        let b = rising e l a (o e).curve refl in
        let u = b.rises in
        let v = b.high in
        let k = ap (A (arc (curve d (o e).curve))) q in
        omega (arith, ints, u, v, k)
  ]
