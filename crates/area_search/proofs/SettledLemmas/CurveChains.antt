-- The edges of the curves of a drawing with tubes go along their curves: each part has a first edge
-- and a last one, and edges meet at the ends of their curves, or are of one part.
use Rattle.std.proofs.Common.{◌≡◌, ◌⊎◌, ℕ, suc, ◌+◌, ◌<◌, ◌≤◌, Bool, true, false, List, []}
use Rattle.std.proofs.Common.{◌∷◌, ◌++◌, length, get_or, inl, inr, refl, sym, ap}
use Rattle.std.proofs.Common.{subst, ◌∙◌, arith}
use Rattle.fault_lists.specs.Sides.{is_first_kind}
use Rattle.plane.specs.CurveRuns.TubedRuns.{Connects, IsOfTube, IsTubedRun, Owned, Part, chain}
use Rattle.plane.specs.CurveRuns.TubedRuns.{edges_of, first_edge, inner, inner_corners}
use Rattle.plane.specs.CurveRuns.TubedRuns.{outer, outer_corners, owned, whole}
use Rattle.plane.specs.Faces.Replays.{no_step}
use Rattle.plane.specs.Forms.Meets.{IsEnd}
use Rattle.plane.specs.Lists.{Has}
use Rattle.plane.specs.Rule.BadPairs.{IsEndOf}
use Rattle.plane.specs.Rule.Plans.{IsStraight, Plan, curve}
use Rattle.plane.specs.Runs.Steps.{AtSome, Step}
use Rattle.plane.specs.Tubes.Bays.{Bay, IsSome}
use Rattle.plane.specs.declared.kinds.Curve.{Curve}
use Rattle.plane.specs.declared.kinds.CurveKind.{CurveKind}
use Rattle.plane.specs.declared.kinds.CurveKind.TheVariants as kind
use Rattle.plane.specs.declared.kinds.Edge.{Edge}
use Rattle.plane.specs.declared.kinds.Point.{Point}
use Rattle.area_search.specs.Settled.NextSides.{IsPartOf}
use Rattle.area_search.proofs.SettledLemmas.ArcChains.{HasCorners}
use Rattle.area_search.proofs.SettledLemmas.ArcChains.{IsInnerCorner, IsOuterCorner}
use Rattle.area_search.proofs.SettledLemmas.ArcChains.{both_chains}
use Rattle.area_search.proofs.SettledLemmas.ArcChains.{inner_last, last_edge, last_end, last_point}
use Rattle.area_search.proofs.SettledLemmas.ChainLaws.{IsFrom, IsOfArc, IsOfStraight, arc_length}
use Rattle.area_search.proofs.SettledLemmas.ChainLaws.{chain_length, chain_owner, from_at}
use Rattle.area_search.proofs.SettledLemmas.ChainLaws.{group_fits, inner_from}
use Rattle.area_search.proofs.SettledLemmas.ChainLaws.{inner_length, no_curve, outer_from}
use Rattle.area_search.proofs.SettledLemmas.ChainLaws.{outer_length, owner_is}
use Rattle.area_search.proofs.SettledLemmas.CurveEdges as curves
use Rattle.area_search.proofs.SettledLemmas.CurveEdges.{tube_whole}
use Rattle.area_search.proofs.SettledLemmas.SideHalves.{AreChains, IsWhole}

-- the number of a step
step_number : (steps : List Step) (s : Step) → Has s steps
    → (k : ℕ) × (k < length steps) × (get_or steps k no_step ≡ s)
step_number [] s h = absurd h
step_number (t ∷ steps) s (inl e) = (0, omega arith, sym e)
step_number (t ∷ steps) s (inr h) =
    let (k, l, e) = step_number steps s h in
    (suc k, omega (arith, l), e)

step_at : (steps : List Step) (q p : Point) → q ≡ p → AtSome q steps
    → (k : ℕ) × (k < length steps) × ((get_or steps k no_step).at ≡ p)
step_at steps q p e (s, h, at_s) =
    let (k, l, same) = step_number steps s h in
    (k, l, ap (λ (t : Step). t.at) same ∙ sym at_s ∙ e)

either_kind : (k : CurveKind) → (k ≡ kind.Straight) ⊎ (k ≡ kind.HalfArc)
either_kind kind.Straight = inl refl
either_kind kind.HalfArc = inr refl

module _ (d : Plan) (bays : ℕ → List Bay) (m : ℕ) (E : ℕ → Edge) (steps : List Step)
    (is : IsTubedRun d bays m E steps)
    (only : (e : ℕ) → e < m → IsStraight d (owned d bays e).curve
    → e ≡ first_edge bays 0 d.curves (owned d bays e).curve) where
  abbrev o : ℕ → Owned
  o e = owned d bays e

  abbrev first : ℕ → ℕ
  first i = first_edge bays 0 d.curves i

  abbrev Straight : ℕ → Type 0
  Straight e = IsOfStraight d bays m E steps is e

  abbrev Arc : ℕ → Type 0
  Arc e = IsOfArc d bays m E steps is e

  kinds : (e : ℕ) → e < m → Straight e ⊎ Arc e
  kinds e l = owner_is d bays m E steps is e l

  no_mix : (e f : ℕ) → (o e).curve ≡ (o f).curve → Straight e → Arc f → ⊥
  no_mix e f c s a = curves.no_mix d bays m E steps is only e f c s a

  -- ---- the first edge of a part, and the last one
  -- An edge of the part of a curve, with a number from n on below the other one.
  record IsOfChain (i : ℕ) (part : Part) (n size e : ℕ) : Type 0 where
    from : n ≤ e
    below : e < (n + size)
    curve_is : (o e).curve ≡ i
    part_is : (o e).part ≡ part

  chain_first : (i n : ℕ) (part : Part) (p : Point) (qs : List Point) → 0 < length qs
      → IsFrom o n (chain i part p qs)
      → (e : ℕ) × IsOfChain i part n (length qs) e × ((o e).from ≡ p)
  chain_first i n part p [] l f = absurd (omega (arith, l))
  chain_first i n part p (q ∷ qs) l f = (
    n,
    record {
      from = omega arith;
      below = omega arith;
      curve_is = ap (λ (x : Owned). x.curve) f.0;
      part_is = ap (λ (x : Owned). x.part) f.0;
    },
    ap (λ (x : Owned). x.from) f.0,
  )

  chain_last : (i n : ℕ) (part : Part) (p : Point) (qs : List Point) → 0 < length qs
      → IsFrom o n (chain i part p qs)
      → (e : ℕ) × IsOfChain i part n (length qs) e × ((o e).to ≡ last_point p qs)
  chain_last i n part p [] l f = absurd (omega (arith, l))
  chain_last i n part p (q ∷ qs) l f =
      let (k, fits, ends) = last_edge i part p q qs in
      let size = chain_length i part p (q ∷ qs) in
      let here = from_at o n k (chain i part p (q ∷ qs)) f (omega (arith, fits, size)) in
      let whose = chain_owner i part p (q ∷ qs) k fits in (
        n + k,
        record {
          from = omega arith;
          below = omega (arith, fits);
          curve_is = ap (λ (x : Owned). x.curve) here ∙ whose.0;
          part_is = ap (λ (x : Owned). x.part) here ∙ whose.1;
        },
        ap (λ (x : Owned). x.to) here ∙ ends,
      )

  -- An edge of the curve on that side, with a property.
  abbrev SomeEdge : ℕ → Bool → (Owned → Type 0) → Type 0
  SomeEdge i left P =
      (e : ℕ) × (e < m) × ((o e).curve ≡ i) × IsPartOf (o e).part (curve d i) left × P (o e)

  some_bays : (bs : List Bay) → IsSome bs → 0 < length bs
  some_bays [] s = absurd s
  some_bays (b ∷ bs) s = omega arith

  module _ (i : ℕ) (l : i < length d.curves) where
    abbrev c : Curve
    c = curve d i

    abbrev bs : List Bay
    bs = bays i

    straight_some : (left : Bool) (P : Owned → Type 0) → c.kind ≡ kind.Straight
        → P (record { from = c.from; to = c.to; curve = i; part = whole }) → SomeEdge i left P
    straight_some left P e p =
        let q = curves.straight_owned d bays m E steps is only i l e in (
          first i,
          curves.straight_fits d bays m E steps is only i l e,
          ap (λ (x : Owned). x.curve) q,
          subst (λ (x : Owned). IsPartOf x.part c left) (sym q) tt,
          subst P (sym q) p,
        )

    arc_fits : c.kind ≡ kind.HalfArc → (first i + suc (length bs + length bs)) ≤ m
    arc_fits e =
        let fits = group_fits bays no_curve 0 d.curves i i l (omega arith) in
        let size : length (edges_of i c.kind c bs) ≡ suc (length bs + length bs) = ap
        (λ (k : CurveKind). length (edges_of i k c bs)) e ∙ arc_length i c bs in
        let count = is.count in
        omega (arith, fits, size, count)

    of_inner : (left : Bool) (P : Owned → Type 0) (e : ℕ) → c.kind ≡ kind.HalfArc
        → is_first_kind c.kind c left ≡ true
        → IsOfChain i inner (first i) (length (inner_corners bs)) e → P (o e) → SomeEdge i left P
    of_inner left P e k side a p =
        let below = a.below in
        let size = inner_length bs in
        let fits = arc_fits k in (
          e,
          omega (arith, below, size, fits),
          a.curve_is,
          subst (λ (x : Part). IsPartOf x c left) (sym a.part_is) side,
          p,
        )

    of_outer : (left : Bool) (P : Owned → Type 0) (e : ℕ) → c.kind ≡ kind.HalfArc
        → is_first_kind c.kind c left ≡ false
        → IsOfChain i outer (first i + length bs) (length (outer_corners bs ++ c.to ∷ [])) e
        → P (o e) → SomeEdge i left P
    of_outer left P e k side a p =
        let below = a.below in
        let size = outer_length bs c.to in
        let fits = arc_fits k in (
          e,
          omega (arith, below, size, fits),
          a.curve_is,
          subst (λ (x : Part). IsPartOf x c left) (sym a.part_is) side,
          p,
        )

    some_inner : c.kind ≡ kind.HalfArc → 0 < length (inner_corners bs)
    some_inner k =
        let a = inner_length bs in
        let b = some_bays bs (is.tube i l k).some in
        omega (arith, a, b)

    some_outer : 0 < length (outer_corners bs ++ c.to ∷ [])
    some_outer = let a = outer_length bs c.to in omega (arith, a)

    some_first : (left : Bool) → SomeEdge i left (λ (x : Owned). x.from ≡ c.from)
    some_first left = elim (either_kind c.kind) [
      | inl e ↦ straight_some left (λ (x : Owned). x.from ≡ c.from) e refl
      | inr e ↦ by e (is_first_kind c.kind c left) refl
    ]
      where
        by : c.kind ≡ kind.HalfArc → (b : Bool) → is_first_kind c.kind c left ≡ b
            → SomeEdge i left (λ (x : Owned). x.from ≡ c.from)
        by k true q =
            let (e, a, p) = chain_first i (first i) inner c.from (inner_corners bs) (some_inner k)
            (inner_from d bays m E steps is i l k) in
            of_inner left (λ (x : Owned). x.from ≡ c.from) e k q a p
        by k false q =
            let (e, a, p) = chain_first i (first i + length bs) outer c.from
            (outer_corners bs ++ c.to ∷ []) some_outer (outer_from d bays m E steps is i l k) in
            of_outer left (λ (x : Owned). x.from ≡ c.from) e k q a p

    some_last : (left : Bool) → SomeEdge i left (λ (x : Owned). x.to ≡ c.to)
    some_last left = elim (either_kind c.kind) [
      | inl e ↦ straight_some left (λ (x : Owned). x.to ≡ c.to) e refl
      | inr e ↦ by e (is_first_kind c.kind c left) refl
    ]
      where
        by : c.kind ≡ kind.HalfArc → (b : Bool) → is_first_kind c.kind c left ≡ b
            → SomeEdge i left (λ (x : Owned). x.to ≡ c.to)
        by k true q =
            let (e, a, p) = chain_last i (first i) inner c.from (inner_corners bs) (some_inner k)
            (inner_from d bays m E steps is i l k) in
            of_inner left (λ (x : Owned). x.to ≡ c.to) e k q a
            (p ∙ inner_last i c bs (is.tube i l k))
        by k false q =
            let (e, a, p) = chain_last i (first i + length bs) outer c.from
            (outer_corners bs ++ c.to ∷ []) some_outer (outer_from d bays m E steps is i l k) in
            of_outer left (λ (x : Owned). x.to ≡ c.to) e k q a
            (p ∙ last_end c.from c.to (outer_corners bs))

  -- ---- edges that meet
  ends_of : (e : ℕ) (p : Point) → e < m → IsEnd (E e) p → ((o e).from ≡ p) ⊎ ((o e).to ≡ p)
  ends_of e p l x = by (is.edge e l) x
    where
      by : Connects (E e) (o e).from (o e).to → IsEnd (E e) p
          → ((o e).from ≡ p) ⊎ ((o e).to ≡ p)
      by (inl k) (inl q) = inl (sym k.0 ∙ q)
      by (inl k) (inr q) = inr (sym k.1 ∙ q)
      by (inr k) (inl q) = inr (sym k.0 ∙ q)
      by (inr k) (inr q) = inl (sym k.1 ∙ q)

  at_event : (e : ℕ) (p : Point) → e < m → IsEnd (E e) p
      → (k : ℕ) × (k < length steps) × ((get_or steps k no_step).at ≡ p)
  at_event e p l (inl q) = step_at steps (E e).low p q (is.run.ends e l).0
  at_event e p l (inr q) = step_at steps (E e).high p q (is.run.ends e l).1

  -- where an edge of a tube meets another edge
  corner_at : (e f : ℕ) (p : Point) → e < m → f < m → IsOfTube (o e).part → IsEnd (E e) p
      → IsEnd (E f) p → IsEndOf (curve d (o e).curve) p ⊎ ((o f).curve ≡ (o e).curve)
  corner_at e f p l k tube x y =
      let (n, fits, q) = at_event e p l x in
      elim (is.corner n e f fits l k tube (subst (IsEnd (E e)) (sym q) x)
      (subst (IsEnd (E f)) (sym q) y)) [
        | inl r ↦ inl (inl (sym r ∙ q))
        | inr (inl r) ↦ inl (inr (sym r ∙ q))
        | inr (inr r) ↦ inr r
      ]

  straight_end : (e : ℕ) (p : Point) → e < m → Straight e → IsEnd (E e) p
      → IsEndOf (curve d (o e).curve) p
  straight_end e p l s x = elim (ends_of e p l x) [
    | inl q ↦ inl (sym (curves.whole_ends d bays m E steps is only e l s).0 ∙ q)
    | inr q ↦ inr (sym (curves.whole_ends d bays m E steps is only e l s).1 ∙ q)
  ]

  at_inner : (e : ℕ) (p : Point) → e < m → (a : Arc e)
      → (o e).part ≡ inner → IsEnd (E e) p
      → IsInnerCorner (curve d a.index).from (bays a.index) p
  at_inner e p l a q x =
      let c = subst (λ (r : Part). HasCorners (curve d a.index).from (curve d a.index).to
      (bays a.index) r (o e)) q (curves.corners d bays m E steps is only e l a) in
      elim (ends_of e p l x) [
        | inl r ↦ subst (IsInnerCorner (curve d a.index).from (bays a.index)) r c.0
        | inr r ↦ subst (IsInnerCorner (curve d a.index).from (bays a.index)) r c.1
      ]

  at_outer : (e : ℕ) (p : Point) → e < m → (a : Arc e)
      → (o e).part ≡ outer → IsEnd (E e) p
      → IsOuterCorner (curve d a.index).from (curve d a.index).to (bays a.index) p
  at_outer e p l a q x =
      let c = subst (λ (r : Part). HasCorners (curve d a.index).from (curve d a.index).to
      (bays a.index) r (o e)) q (curves.corners d bays m E steps is only e l a) in
      elim (ends_of e p l x) [
        | inl r ↦ subst (IsOuterCorner (curve d a.index).from (curve d a.index).to (bays a.index)) r
            c.0
        | inr r ↦ subst (IsOuterCorner (curve d a.index).from (curve d a.index).to (bays a.index)) r
            c.1
      ]

  both_parts : (e f : ℕ) (p : Point) → e < m → f < m → (a : Arc e)
      → (b : Arc f) → (o e).curve ≡ (o f).curve → (o e).part ≡ inner
      → (o f).part ≡ outer → IsEnd (E e) p → IsEnd (E f) p → IsEndOf (curve d (o e).curve) p
  both_parts e f p l k a b c q r x y =
      let i : b.index ≡ a.index = sym b.number ∙ sym c ∙ a.number in
      subst (λ (j : ℕ). IsEndOf (curve d j) p) (sym a.number)
      (both_chains a.index (curve d a.index) (bays a.index)
      (curves.tube_of d bays m E steps is only e a) p
      (at_inner e p l a q x)
      (subst (λ (j : ℕ). IsOuterCorner (curve d j).from (curve d j).to (bays j) p) i
      (at_outer f p k b r y)))

  abbrev Meet : ℕ → ℕ → Point → Type 0
  Meet e f p =
      (((o e).curve ≡ (o f).curve) × ((o e).part ≡ (o f).part) × (IsWhole (o e).part → ⊥))
      ⊎ (IsEndOf (curve d (o e).curve) p × IsEndOf (curve d (o f).curve) p)

  meet_in : (e f : ℕ) (p : Point) → e < m → f < m → (a : Arc e)
      → (b : Arc f) → (o e).curve ≡ (o f).curve → IsEnd (E e) p
      → IsEnd (E f) p → Meet e f p
  meet_in e f p l k a b c x y = by (o e).part (o f).part refl refl a.part b.part
    where
      both : IsEndOf (curve d (o e).curve) p → Meet e f p
      both q = inr (q, subst (λ (j : ℕ). IsEndOf (curve d j) p) c q)

      by : (r s : Part) → (o e).part ≡ r → (o f).part ≡ s → IsOfTube r → IsOfTube s → Meet e f p
      by whole s q r t u = absurd t
      by inner whole q r t u = absurd u
      by outer whole q r t u = absurd u
      by inner inner q r t u = inl (c, q ∙ sym r, tube_whole (o e).part a.part)
      by outer outer q r t u = inl (c, q ∙ sym r, tube_whole (o e).part a.part)
      by inner outer q r t u = both (both_parts e f p l k a b c q r x y)
      by outer inner q r t u =
          both (subst (λ (j : ℕ). IsEndOf (curve d j) p) (sym c)
          (both_parts f e p k l b a (sym c) r q y x))

  meet : (e f : ℕ) (p : Point) → e < m → f < m → IsEnd (E e) p → IsEnd (E f) p → Meet e f p
  meet e f p l k x y = elim (kinds e l) [
    | inl s ↦ elim (kinds f k) [
      | inl r ↦ inr (straight_end e p l s x, straight_end f p k r y)
      | inr b ↦ elim (corner_at f e p k l b.part y x) [
        | inl q ↦ inr (straight_end e p l s x, q)
        | inr c ↦ absurd (no_mix e f c s b)
      ]
    ]
    | inr a ↦ elim (corner_at e f p l k a.part x y) [
      | inl q ↦ elim (kinds f k) [
        | inl r ↦ inr (q, straight_end f p k r y)
        | inr b ↦ elim (corner_at f e p k l b.part y x) [
          | inl r ↦ inr (q, r)
          | inr c ↦ inr (q, subst (λ (j : ℕ). IsEndOf (curve d j) p) c q)
        ]
      ]
      | inr c ↦ elim (kinds f k) [
        | inl s ↦ absurd (no_mix f e c s a)
        | inr b ↦ meet_in e f p l k a b (sym c) x y
      ]
    ]
  ]

  pub chains : AreChains d m E o
  chains = record {
    rises = is.run.edges;
    joins = is.edge;
    kind = curves.kind_of d bays m E steps is only;
    first = λ e f l k c p q r. curves.one_edge d bays m E steps is only e f l k c p
        (inl (q ∙ sym r));
    last = λ e f l k c p q r. curves.one_edge d bays m E steps is only e f l k c p
        (inr (q ∙ sym r));
    some_first = λ i left l. some_first i l left;
    some_last = λ i left l. some_last i l left;
    after_first = curves.after_first d bays m E steps is only;
    before_last = curves.before_last d bays m E steps is only;
    meet = meet;
  }
