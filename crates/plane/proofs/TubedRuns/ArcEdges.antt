-- The edges of one half arc's tube in a run over the edge list: their numbers, its ends and its
-- places.
use Rattle.std.proofs.Common.{◌≡◌, ℕ, suc, ◌+◌, ◌-◌, ◌<◌, ◌≤◌, Bool, true, false, cond, List, []}
use Rattle.std.proofs.Common.{◌∷◌, ◌++◌, length, get_or, ◌⊎◌, ◌↔◌, inl, inr, refl, arith, ap, sym}
use Rattle.std.proofs.Common.{◌∙◌, subst}
use Rattle.plane.specs.declared.kinds.Point.{Point}
use Rattle.plane.specs.declared.kinds.Curve.{Curve}
use Rattle.plane.specs.declared.kinds.CurveKind.{CurveKind}
use Rattle.plane.specs.declared.kinds.CurveKind.TheVariants as kind
use Rattle.plane.specs.Lists.{Last}
use Rattle.plane.specs.Forms.Vectors.{Vector, Edge}
use Rattle.plane.specs.Rule.Curves.{arc}
use Rattle.plane.specs.Rule.Plans.{Plan, curve}
use Rattle.plane.specs.Runs.Steps.{Step}
use Rattle.plane.specs.Tubes.Bays.{Bay, IsTube, OnInner, OnOuter, AtEnds}
use Rattle.plane.specs.Tubes.Bays as one
use Rattle.plane.specs.Tubes.Windings.{tiles, InSomeTile}
use Rattle.plane.specs.Tubes.Facing.{tip}
use Rattle.plane.specs.CurveRuns.TubedRuns.{whole, inner, outer, Owned, chain, inner_corners}
use Rattle.plane.specs.CurveRuns.TubedRuns.{outer_corners, edges_of, no_edge, owned, IsOfTube}
use Rattle.plane.specs.CurveRuns.TubedRuns.{IsTubedRun, third_is_left, first_edge, tube_start}
use Rattle.plane.specs.CurveRuns.TubedRuns.{tube_bays, first_bay, later_bays}
use Rattle.plane.proofs.TubedRuns.EdgeNumbers.{IsFrom, from_front, from_back, from_at, group_at}
use Rattle.plane.proofs.TubedRuns.EdgeNumbers.{group_fits, group_of, IsIn, chain_length}
use Rattle.plane.proofs.TubedRuns.EdgeNumbers.{chain_owner, inner_length, arc_length, arc_inner}
use Rattle.plane.proofs.TubedRuns.EdgeNumbers.{arc_outer}
use Rattle.plane.proofs.OneTube.BackwardBays.{last_inner, last_is}
use Rattle.plane.proofs.TubedRuns.TubeBounds.{IsAmong}
use Rattle.plane.proofs.OneTube.TurnedTubes.{turned_tip, turned_places}
use Rattle.plane.proofs.TubedRuns.OwnedEdges.{no_curve}
use Rattle.plane.proofs.TubedRuns.TubeNumbers.{whole_range}

-- each of a curve's edges is its curve's
pub edge_curve : (kd : CurveKind) (c : Curve) (bs : List Bay) (j k : ℕ)
    → k < length (edges_of j kd c bs) → (get_or (edges_of j kd c bs) k no_edge).curve ≡ j
edge_curve kind.Straight c bs j k l =
    (chain_owner j whole c.from (c.to ∷ []) k (let a = chain_length j whole c.from (c.to ∷ []) in
    omega (arith, a, l))).0
edge_curve kind.HalfArc c bs j k l =
    elim (whole_range 0 (length bs) (length bs) k (omega arith)
    (omega arith, let a = arc_length j c bs in omega (arith, a, l))) [
      | inl h ↦ (let a = h.1 in (arc_inner j c bs k (omega (arith, a))).0)
      | inr h ↦
          let a = h.0 in
          let b = h.1 in
          ap (λ (y : ℕ). (get_or (edges_of j kind.HalfArc c bs) y no_edge).curve) (omega (arith, a))
          ∙ (arc_outer j c bs (k - length bs) (omega (arith, a, b))).0
    ]

module _ (d : Plan) (bays : ℕ → List Bay) (m : ℕ) (E : ℕ → Edge) (steps : List Step)
    (is : IsTubedRun d bays m E steps) where
  abbrev f : ℕ → Owned
  f e = owned d bays e

  abbrev first : ℕ → ℕ
  first i = first_edge bays 0 d.curves i

  -- an edge of a group is its curve's
  pub group_curve : (x : ℕ) (g : IsIn bays no_curve 0 d.curves x) → g.curve ≡ g.index
      → (f x).curve ≡ g.index
  group_curve x g n =
      let e : f x ≡ get_or
      (edges_of g.curve (curve d g.index).kind (curve d g.index) (bays g.curve)) g.place
      no_edge =
      ap f g.is ∙ from_at f (first g.index) g.place _
      (group_at bays no_curve 0 d.curves g.index g.curve g.fits g.number) g.there in
      ap (λ (y : Owned). y.curve) e
      ∙ edge_curve (curve d g.index).kind (curve d g.index)
      (bays g.curve) g.curve g.place g.there ∙ n

  -- ---- one half arc
  module _ (i : ℕ) (l : i < length d.curves) (bent : (curve d i).kind ≡ kind.HalfArc) where
    abbrev c : Curve
    c = curve d i

    abbrev bs : List Bay
    bs = bays i

    abbrev size : ℕ
    size = suc (length bs + length bs)

    pub t : IsTube (arc c) bs
    t = is.tube i l bent

    group : IsFrom f (first i) (edges_of i kind.HalfArc c bs)
    group = subst (λ (kd : CurveKind). IsFrom f (first i) (edges_of i kd c bs)) bent
        (group_at bays no_curve 0 d.curves i i l (omega arith))

    fits : (first i + size) ≤ m
    fits =
        let a = group_fits bays no_curve 0 d.curves i i l (omega arith) in
        let b : length (edges_of i c.kind c bs)
        ≡ size = ap (λ (kd : CurveKind). length (edges_of i kd c bs)) bent
        ∙ arc_length i c bs in
        let e = is.count in
        omega (arith, a, b, e)

    pub inner_from : IsFrom f (first i) (chain i inner c.from (inner_corners bs))
    inner_from =
        from_front f (first i) (chain i inner c.from (inner_corners bs))
        (chain i outer c.from (outer_corners bs ++ c.to ∷ [])) group

    pub outer_from : IsFrom f (first i + length bs)
        (chain i outer c.from (outer_corners bs ++ c.to ∷ []))
    outer_from =
        from_back f (first i) (first i + length bs) (chain i inner c.from (inner_corners bs))
        (chain i outer c.from (outer_corners bs ++ c.to ∷ []))
        (let a = chain_length i inner c.from (inner_corners bs) in let b = inner_length bs in
        omega (arith, a, b)) group

    -- an edge of the tube, by its number
    pub inner_owner : (x : ℕ) → IsAmong x (first i) (length bs)
        → ((f x).curve ≡ i) × ((f x).part ≡ inner)
    inner_owner x h =
        let a = h.0 in
        let b = h.1 in
        let k = x - first i in
        let e : f x ≡ get_or (edges_of i kind.HalfArc c bs) k no_edge = ap f (omega (arith, a))
        ∙ from_at f (first i) k (edges_of i kind.HalfArc c bs) group
        (let g = arc_length i c bs in omega (arith, a, b, g)) in
        let o = arc_inner i c bs k (omega (arith, a, b)) in
        (ap (λ (y : Owned). y.curve) e ∙ o.0, ap (λ (y : Owned). y.part) e ∙ o.1)

    pub outer_owner : (x : ℕ) → IsAmong x (first i + length bs) (suc (length bs))
        → ((f x).curve ≡ i) × ((f x).part ≡ outer)
    outer_owner x h =
        let a = h.0 in
        let b = h.1 in
        let k = x - (first i + length bs) in
        let e : f x ≡ get_or (edges_of i kind.HalfArc c bs) (length bs + k) no_edge = ap f
        (omega (arith, a))
        ∙ from_at f (first i) (length bs + k) (edges_of i kind.HalfArc c bs) group
        (let g = arc_length i c bs in omega (arith, a, b, g)) in
        let o = arc_outer i c bs k (omega (arith, a, b)) in
        (ap (λ (y : Owned). y.curve) e ∙ o.0, ap (λ (y : Owned). y.part) e ∙ o.1)

    pub its_curve : (x : ℕ) → IsAmong x (first i) size → (f x).curve ≡ i
    its_curve x h =
        elim (whole_range (first i) (first i + length bs) (length bs) x refl h)
        [ inl k ↦ (inner_owner x k).0 | inr k ↦ (outer_owner x k).0 ]

    pub of_tube : (x : ℕ) → IsAmong x (first i) size → IsOfTube (f x).part
    of_tube x h = elim (whole_range (first i) (first i + length bs) (length bs) x refl h) [
      | inl k ↦ subst IsOfTube (sym (inner_owner x k).1) tt
      | inr k ↦ subst IsOfTube (sym (outer_owner x k).1) tt
    ]

    pub below_m : (x : ℕ) → IsAmong x (first i) size → x < m
    below_m x h = let a = h.1 in let b = fits in omega (arith, a, b)

    -- an edge of the curve is one of them
    pub owned_in : (x : ℕ) → x < m → (f x).curve ≡ i → IsAmong x (first i) size
    owned_in x k e =
        let g = group_of bays no_curve 0 d.curves x (let a = is.count in omega (arith, a, k)) in
        let n : g.curve ≡ g.index = (let a = g.number in omega (arith, a)) in
        let j : g.index ≡ i = sym (group_curve x g n) ∙ e in
        let p : g.place < size = subst (λ (y : ℕ). g.place < y)
        (ap (λ (kd : CurveKind). length (edges_of i kd c bs)) bent ∙ arc_length i c bs)
        (subst (λ (y : ℕ). g.place < length (edges_of y (curve d y).kind (curve d y) (bays y))) j
        (subst (λ (y : ℕ). g.place < length
        (edges_of y (curve d g.index).kind (curve d g.index) (bays y))) n g.there)) in
        let q : x ≡ first i + g.place = subst (λ (y : ℕ). x ≡ first y + g.place) j g.is in
        (omega (arith, q), omega (arith, q, p))

    to_bounds : (b : Bay) (rest : List Bay) → bs ≡ b ∷ rest → last_inner c.from bs ≡ c.to
    to_bounds b rest e =
        subst (λ (ks : List Bay). last_inner c.from ks ≡ c.to) (sym e)
        (last_is c.from c.to b rest
        (subst (λ (ks : List Bay). Last (λ k. k.inner ≡ c.to) ks) e t.ends))

    -- a bay is there
    pub some_bay : (b : Bay) × (rest : List Bay) × (bs ≡ b ∷ rest)
    some_bay = by_list bs t.some refl
      where
        by_list : (ks : List Bay) → one.IsSome ks → bs ≡ ks
            → (b : Bay) × (rest : List Bay) × (bs ≡ b ∷ rest)
        by_list [] h e = absurd h
        by_list (k ∷ ks) h e = (k, ks, e)

    pub ends_at : last_inner c.from bs ≡ c.to
    ends_at = to_bounds some_bay.0 some_bay.1 some_bay.2

    -- what holds of tubes with a first bay holds of this one
    pub with_bay : (P : List Bay → Type 0)
        → ((b : Bay) (rest : List Bay) → bs ≡ b ∷ rest → P (b ∷ rest)) → P bs
    with_bay P h = subst P (sym some_bay.2) (h some_bay.0 some_bay.1 some_bay.2)

    -- each chain has an edge
    pub some_inner : (x : ℕ) × (x < m) × ((f x).curve ≡ i) × ((f x).part ≡ inner)
    some_inner =
        let e = ap (λ (ks : List Bay). length ks) some_bay.2 in
        let o = inner_owner (first i) (omega arith, omega (arith, e)) in
        (first i, below_m (first i) (omega arith, omega arith), o.0, o.1)

    pub some_outer : (x : ℕ) × (x < m) × ((f x).curve ≡ i) × ((f x).part ≡ outer)
    some_outer =
        let o = outer_owner (first i + length bs) (omega arith, omega arith) in
        (first i + length bs, below_m (first i + length bs) (omega arith, omega arith), o.0, o.1)

    -- the tube goes from one end of the half arc to the other
    its_tip : tip (first_bay (tube_bays c bs)) (later_bays (tube_bays c bs))
        ≡ cond (third_is_left c) c.from c.to
    its_tip = with_bay (λ ks. tip (first_bay (tube_bays c ks)) (later_bays (tube_bays c ks))
        ≡ cond (third_is_left c) c.from c.to)
        (λ b rest e. turned_tip (third_is_left c) c.from c.to b rest
        (subst (λ (ks : List Bay). last_inner c.from ks ≡ c.to) e ends_at))

    either_end : (left : Bool) (P : Point → Type 0) → P c.from ⊎ P c.to
        → P (cond left c.to c.from) ⊎ P (cond left c.from c.to)
    either_end false P h = h
    either_end true P (inl h) = inr h
    either_end true P (inr h) = inl h

    either_back : (left : Bool) (P : Point → Type 0)
        → P (cond left c.to c.from) ⊎ P (cond left c.from c.to) → P c.from ⊎ P c.to
    either_back false P h = h
    either_back true P (inl h) = inr h
    either_back true P (inr h) = inl h

    -- its ends are those of the tube
    pub at_ends : (P : Point → Type 0) → P c.from ⊎ P c.to
        → P (tube_start c) ⊎ P (tip (first_bay (tube_bays c bs)) (later_bays (tube_bays c bs)))
    at_ends P h =
        elim (either_end (third_is_left c) P h) [
          | inl k ↦ inl k
          | inr k ↦ inr (subst P (sym its_tip) k)
        ]

    pub ends_at_arc : (P : Point → Type 0)
        → P (tube_start c) ⊎ P (tip (first_bay (tube_bays c bs)) (later_bays (tube_bays c bs)))
        → P c.from ⊎ P c.to
    ends_at_arc P h =
        either_back (third_is_left c) P (elim h [ inl k ↦ inl k | inr k ↦ inr (subst P its_tip k) ])

    -- ---- places
    pub its_places : (z : Vector)
        → InSomeTile
        (tiles (tube_start c) (first_bay (tube_bays c bs) ∷ later_bays (tube_bays c bs))) z
        ↔ one.InTube c.from bs z
    its_places z =
        with_bay (λ ks. InSomeTile
        (tiles (tube_start c) (first_bay (tube_bays c ks) ∷ later_bays (tube_bays c ks))) z
        ↔ one.InTube c.from ks z)
        (λ b rest e. turned_places (third_is_left c) c.from c.to b rest z
        (subst (λ (ks : List Bay). last_inner c.from ks ≡ c.to) e ends_at))
