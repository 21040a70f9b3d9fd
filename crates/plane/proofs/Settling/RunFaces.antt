-- A settled run: what face numbers say of its tubes, and the labels that they give.
use Rattle.std.proofs.Common.{◌≡◌, ℕ, suc, ◌+◌, ◌<◌, ◌≤◌, Bool, true, false, List, [], ◌∷◌, ◌++◌}
use Rattle.std.proofs.Common.{map, length, ℤ, ◌⊎◌, inl, inr, refl, arith, ap, sym, ◌∙◌, subst}
use Rattle.plane.specs.declared.kinds.CurveKind.TheVariants as kind
use Rattle.plane.specs.Lists.{Has}
use Rattle.plane.specs.Forms.Vectors.{Edge}
use Rattle.plane.specs.Rule.Plans.{Plan, curve, IsHalfArc}
use Rattle.plane.specs.Runs.Steps.{Step, WeighedRun}
use Rattle.plane.specs.Faces.Replays.{replay}
use Rattle.plane.specs.Faces.Halves.{Half, under, over, edge_of, twin, mark}
use Rattle.plane.specs.Faces.Classes.{IsFaces, numbers}
use Rattle.plane.specs.Tubes.Bays.{Bay}
use Rattle.plane.specs.Tubes.Bays as one
use Rattle.plane.specs.CurveRuns.TubedRuns.{Part, whole, inner, outer, Owned, owned, IsOfTube}
use Rattle.plane.specs.CurveRuns.TubedRuns.{IsTubedRun, third_is_left, half_within, first_edge}
use Rattle.plane.specs.CurveRuns.TubedRuns.{tube_edges, onward_edges, backward_edges, tube_label}
use Rattle.plane.specs.CurveRuns.TubedRuns as tubed
use Rattle.plane.proofs.Settling.EdgesAndTubes.{EdgeList, IsEdgeList, level}
use Rattle.plane.proofs.Settling.EdgesSettled.{inner_halves, outer_halves, IsSettled, AreTubeFaces}
use Rattle.plane.specs.CurveRuns.Levels.{AreWide, IsSettledRun, AreFacesOfTubes}
use Rattle.plane.specs.CurveRuns.Levels.{AreCertificateNumbers, beside_inner, beside_outer}
use Rattle.plane.proofs.Covers.CurvePlaces.{no_kind}
use Rattle.plane.proofs.FaceLemmas.FaceNumbers.{faces_matched}
use Rattle.plane.proofs.Windings.Whole.{IsWhole, swept_whole}
use Rattle.plane.proofs.TubedRuns.TubeBounds.{IsAmong}
use Rattle.plane.proofs.TubedRuns.OwnedEdges.{owner_is}
use Rattle.plane.proofs.TubedRuns.FacingHalves.{faces}
use Rattle.plane.proofs.TubedRuns.FacedTubes.{edge_twin}
use Rattle.plane.proofs.TubedRuns.TubeNumbers.{tube_among}
use Rattle.plane.proofs.TubedRuns.ArcEdges.{its_curve, below_m, inner_owner, outer_owner}
use Rattle.plane.proofs.TubedRuns.TubedEdges.{half_from, facing, half_curve}
use Rattle.plane.proofs.Settling.RunLevels.{run_edges}
use Rattle.plane.proofs.Settling.SettledRuns.{level_settled, some}
use Rattle.plane.proofs.Settling.TubeFaces.{chains, tube_faces}

-- ---- every second number of a list, from the first one on and from the second one on
firsts : List ℕ → List ℕ
firsts [] = []
firsts (x ∷ []) = []
firsts (x ∷ (y ∷ rest)) = x ∷ firsts rest

seconds : List ℕ → List ℕ
seconds [] = []
seconds (x ∷ []) = x ∷ []
seconds (x ∷ (y ∷ rest)) = y ∷ seconds rest

inner_from : (within : ℕ → Half) (ns : List ℕ) (g : Half) → Has g (inner_halves (map within ns))
    → (x : ℕ) × Has x (firsts ns) × (g ≡ within x)
unfolding firsts
inner_from within [] g m = absurd m
inner_from within (x ∷ []) g m = absurd m
inner_from within (x ∷ (y ∷ rest)) g (inl e) = (x, inl refl, e)
inner_from within (x ∷ (y ∷ rest)) g (inr m) =
    let r = inner_from within rest g m in (r.0, inr r.1, r.2)

outer_from : (within : ℕ → Half) (ns : List ℕ) (g : Half) → Has g (outer_halves (map within ns))
    → (x : ℕ) × Has x (seconds ns) × (g ≡ within x)
unfolding seconds
outer_from within [] g m = absurd m
outer_from within (x ∷ []) g (inl e) = (x, inl refl, e)
outer_from within (x ∷ []) g (inr m) = absurd m
outer_from within (x ∷ (y ∷ rest)) g (inl e) = (y, inl refl, e)
outer_from within (x ∷ (y ∷ rest)) g (inr m) =
    let r = outer_from within rest g m in (r.0, inr r.1, r.2)

onward_firsts : (s n x : ℕ) (bs : List Bay) → Has x (firsts (onward_edges s n bs))
    → IsAmong x s (length bs)
unfolding firsts
onward_firsts s n x [] m = absurd m
onward_firsts s n x (b ∷ bs) (inl e) = (omega (arith, e), omega (arith, e))
onward_firsts s n x (b ∷ bs) (inr m) =
    let r = onward_firsts (suc s) (suc n) x bs m in
    let a = r.0 in let c = r.1 in (omega (arith, a), omega (arith, c))

onward_seconds : (s n x : ℕ) (bs : List Bay) → Has x (seconds (onward_edges s n bs))
    → IsAmong x n (suc (length bs))
unfolding seconds
onward_seconds s n x [] (inl e) = (omega (arith, e), omega (arith, e))
onward_seconds s n x [] (inr m) = absurd m
onward_seconds s n x (b ∷ bs) (inl e) = (omega (arith, e), omega (arith, e))
onward_seconds s n x (b ∷ bs) (inr m) =
    let r = onward_seconds (suc s) (suc n) x bs m in
    let a = r.0 in let c = r.1 in (omega (arith, a), omega (arith, c))

join : (xs ys zs : List ℕ) → (xs ++ ys) ++ zs ≡ xs ++ (ys ++ zs)
join [] ys zs = refl
join (x ∷ xs) ys zs = ap (λ (v : List ℕ). x ∷ v) (join xs ys zs)

backward_firsts : (s n x : ℕ) (bs : List Bay) (rest : List ℕ)
    → Has x (firsts (backward_edges s n bs ++ rest)) → IsAmong x s (length bs) ⊎ Has x (firsts rest)
unfolding firsts
backward_firsts s n x [] rest m = inr m
backward_firsts s n x (b ∷ bs) rest m =
    elim (backward_firsts (suc s) (suc n) x bs (s ∷ n ∷ rest)
    (subst (λ (v : List ℕ). Has x (firsts v))
    (join (backward_edges (suc s) (suc n) bs) (s ∷ n ∷ []) rest) m)) [
      | inl r ↦ let a = r.0 in let c = r.1 in inl (omega (arith, a), omega (arith, c))
      | inr r ↦ elim r [ inl e ↦ inl (omega (arith, e), omega (arith, e)) | inr k ↦ inr k ]
    ]

backward_seconds : (s n x : ℕ) (bs : List Bay) (rest : List ℕ)
    → Has x (seconds (backward_edges s n bs ++ rest))
    → IsAmong x n (length bs) ⊎ Has x (seconds rest)
unfolding seconds
backward_seconds s n x [] rest m = inr m
backward_seconds s n x (b ∷ bs) rest m =
    elim (backward_seconds (suc s) (suc n) x bs (s ∷ n ∷ rest)
    (subst (λ (v : List ℕ). Has x (seconds v))
    (join (backward_edges (suc s) (suc n) bs) (s ∷ n ∷ []) rest) m)) [
      | inl r ↦ let a = r.0 in let c = r.1 in inl (omega (arith, a), omega (arith, c))
      | inr r ↦ elim r [ inl e ↦ inl (omega (arith, e), omega (arith, e)) | inr k ↦ inr k ]
    ]

tube_firsts : (left : Bool) (s x : ℕ) (bs : List Bay) → Has x (firsts (tube_edges left s bs))
    → IsAmong x s (length bs)
unfolding firsts
tube_firsts false s x bs m = onward_firsts s (s + length bs) x bs m
tube_firsts true s x bs m =
    elim (backward_firsts s (suc (s + length bs)) x bs ((s + length bs) ∷ []) m) [
      | inl r ↦ r
      | inr v ↦ absurd v
    ]

tube_seconds : (left : Bool) (s x : ℕ) (bs : List Bay) → Has x (seconds (tube_edges left s bs))
    → IsAmong x (s + length bs) (suc (length bs))
unfolding seconds
tube_seconds false s x bs m = onward_seconds s (s + length bs) x bs m
tube_seconds true s x bs m =
    elim (backward_seconds s (suc (s + length bs)) x bs ((s + length bs) ∷ []) m) [
      | inl r ↦ let a = r.0 in let c = r.1 in (omega (arith, a), omega (arith, c))
      | inr k ↦ elim k [ inl e ↦ (omega (arith, e), omega (arith, e)) | inr v ↦ absurd v ]
    ]

-- ---- parts
not_inner : (p : Part) → p ≡ outer → p ≡ inner → ⊥
not_inner p a b = clash (sym a ∙ b)
  where
    IsOuter : Part → Type 0
    IsOuter whole = ⊥
    IsOuter inner = ⊥
    IsOuter outer = Unit {0}

    clash : outer ≡ inner → ⊥
    clash e = subst IsOuter e tt

pub not_twin : (g : Half) → twin g ≡ g → ⊥
not_twin (over e) q = subst IsUnder q tt
  where
    IsUnder : Half → Type 0
    IsUnder (under e) = Unit {0}
    IsUnder (over e) = ⊥
not_twin (under e) q = subst IsOver q tt
  where
    IsOver : Half → Type 0
    IsOver (over e) = Unit {0}
    IsOver (under e) = ⊥

pub mark_is : (face : Half → ℕ) (h : Half) → mark (numbers face) h ≡ face h
mark_is face (under e) = refl
mark_is face (over e) = refl

module _ (d : Plan) (bays : ℕ → List Bay) (m : ℕ) (E : ℕ → Edge) (steps : List Step)
    (is : IsTubedRun d bays m E steps) (wide : AreWide d bays) where
  abbrev l : EdgeList
  l = level d bays m E

  abbrev f : ℕ → Owned
  f e = owned d bays e

  abbrev within : ℕ → Half
  within = half_within d bays E

  edges : IsEdgeList d l
  edges = run_edges d bays m E steps is wide

  -- an edge of a tube has a half arc
  pub tube_arc : (e : ℕ) → e < m → IsOfTube (f e).part → IsHalfArc d (f e).curve
  tube_arc e k o = elim (owner_is d bays m E steps is e k) [
    | inl s ↦ absurd (subst IsOfTube s.part o)
    | inr a ↦ subst (λ (i : ℕ). IsHalfArc d i) (sym a.number) (record {
      there = a.fits;
      kind = a.bent;
    })
  ]

  pub arc_part : (e : ℕ) → e < m → IsHalfArc d (f e).curve → IsOfTube (f e).part
  arc_part e k h = elim (owner_is d bays m E steps is e k) [
    | inl s ↦ absurd
        (no_kind (curve d (f e).curve).kind
        (subst (λ (i : ℕ). (curve d i).kind ≡ kind.Straight) (sym s.number) s.straight) h.kind)
    | inr a ↦ a.part
  ]

  pub has_half : (i : ℕ) (h : IsHalfArc d i) (e : ℕ) → e < m → (f e).curve ≡ i
      → Has (within e) (l.tube i).halves × (edge_of (within e) ≡ e)
  has_half i h e k q =
      facing d bays m E steps within is (faces d bays m E steps is) i h.there h.kind e k q

  -- a half-edge of a tube is that of its edge
  pub half_is : (i : ℕ) (h : IsHalfArc d i) (g : Half) → Has g (l.tube i).halves
      → g ≡ within (edge_of g)
  half_is i h g n =
      let y = half_from d bays m E steps within is (faces d bays m E steps is) i h.there h.kind
      (tube_edges (third_is_left (curve d i)) (first_edge bays 0 d.curves i) (bays i)) g n in
      let a = tube_among (third_is_left (curve d i)) (first_edge bays 0 d.curves i) y.0
      (bays i) y.1 in
      let k = below_m d bays m E steps is i h.there h.kind y.0 a in
      let o = its_curve d bays m E steps is i h.there h.kind y.0 a in
      y.2 ∙ ap within (sym (ap edge_of y.2 ∙ (has_half i h y.0 k o).1))

  -- the chains by part
  inner_has : (i : ℕ) (h : IsHalfArc d i) (e : ℕ) → e < m → (f e).curve ≡ i → (f e).part ≡ inner
      → Has (within e) (inner_halves (l.tube i).halves)
  inner_has i h e k q p = elim (chains (within e) (l.tube i).halves (has_half i h e k q).0) [
    | inl n ↦ n
    | inr n ↦
        let r = outer_from within
        (tube_edges (third_is_left (curve d i)) (first_edge bays 0 d.curves i) (bays i))
        (within e) n in
        let a = tube_seconds (third_is_left (curve d i)) (first_edge bays 0 d.curves i) r.0
        (bays i) r.1 in
        let o = outer_owner d bays m E steps is i h.there h.kind r.0 a in
        let k2 : r.0 < m = below_outer i h r.0 a in
        let same : e ≡ r.0 = sym (has_half i h e k q).1 ∙ ap edge_of r.2
        ∙ (has_half i h r.0 k2 o.0).1 in
        absurd (not_inner (f e).part (ap (λ (x : ℕ). (f x).part) same ∙ o.1) p)
  ]
    where
      below_outer : (i : ℕ) (h : IsHalfArc d i) (x : ℕ)
          → IsAmong x (first_edge bays 0 d.curves i + length (bays i)) (suc (length (bays i)))
          → x < m
      below_outer i h x a =
          below_m d bays m E steps is i h.there h.kind x (let p = a.0 in let q = a.1 in
          (omega (arith, p), omega (arith, q)))

  outer_has : (i : ℕ) (h : IsHalfArc d i) (e : ℕ) → e < m → (f e).curve ≡ i → (f e).part ≡ outer
      → Has (within e) (outer_halves (l.tube i).halves)
  outer_has i h e k q p = elim (chains (within e) (l.tube i).halves (has_half i h e k q).0) [
    | inr n ↦ n
    | inl n ↦
        let r = inner_from within
        (tube_edges (third_is_left (curve d i)) (first_edge bays 0 d.curves i) (bays i))
        (within e) n in
        let a = tube_firsts (third_is_left (curve d i)) (first_edge bays 0 d.curves i) r.0
        (bays i) r.1 in
        let o = inner_owner d bays m E steps is i h.there h.kind r.0 a in
        let k2 : r.0 < m = below_inner i h r.0 a in
        let same : e ≡ r.0 = sym (has_half i h e k q).1 ∙ ap edge_of r.2
        ∙ (has_half i h r.0 k2 o.0).1 in
        absurd (not_inner (f e).part p (ap (λ (x : ℕ). (f x).part) same ∙ o.1))
  ]
    where
      below_inner : (i : ℕ) (h : IsHalfArc d i) (x : ℕ)
          → IsAmong x (first_edge bays 0 d.curves i) (length (bays i)) → x < m
      below_inner i h x a =
          below_m d bays m E steps is i h.there h.kind x (let p = a.0 in let q = a.1 in
          (omega (arith, p), omega (arith, q)))

  -- ---- the faces of a settled run
  module _ (settles : IsSettledRun d bays m E) (w : ℤ) (swept : WeighedRun w m E steps) (face : Half
      → ℕ) (numbered : IsFaces (replay w m E steps) face) where
    all_settled : IsSettled d l
    all_settled = level_settled d bays m E steps is wide settles

    at_tube : (i : ℕ) → IsHalfArc d i → AreTubeFaces l face i
    at_tube i h = tube_faces d l edges all_settled steps is.run w swept face numbered i h

    pub run_faces : AreFacesOfTubes d bays m E face
    run_faces = record {
      one = λ e x k j o p q.
          let h = tube_arc e k o in
          (at_tube (f e).curve h).one (within e) (within x) (has_half (f e).curve h e k refl).0
          (has_half (f e).curve h x j (sym q)).0;
      own = λ e g k j o q.
          let h = tube_arc e k o in
          let n = (at_tube (f e).curve h).own (within e) g
          (has_half (f e).curve h e k refl).0 j q in
          let c = half_curve d bays m E steps within is (faces d bays m E steps is)
          (f e).curve h.there h.kind g n in (
            arc_part (edge_of g) j (subst (λ (i : ℕ). IsHalfArc d i) (sym c) h),
            c,
            half_is (f e).curve h g n,
          );
      bounded = λ e k o z. let h = tube_arc e k o in
          (at_tube (f e).curve h).bounded (within e) (has_half (f e).curve h e k refl).0 z;
      inner_chain = λ e x k j p q c.
          let h = tube_arc e k (subst IsOfTube (sym p) tt) in
          (at_tube (f e).curve h).inner (within e) (within x) (inner_has (f e).curve h e k refl p)
          (inner_has (f e).curve h x j (sym c) q);
      outer_chain = λ e x k j p q c.
          let h = tube_arc e k (subst IsOfTube (sym p) tt) in
          (at_tube (f e).curve h).outer (within e) (within x) (outer_has (f e).curve h e k refl p)
          (outer_has (f e).curve h x j (sym c) q);
    }

    -- ---- numbers with the names of a certificate are labels
    module _ (named : AreCertificateNumbers d bays m E face) where
      abbrev inside : ℕ → ℕ
      inside i = beside_inner d bays E face i

      abbrev outside : ℕ → ℕ
      outside i = beside_outer d bays E face i

      whole_run : IsWhole (replay w m E steps)
      whole_run = swept_whole w m E steps swept

      within_edge : (e : ℕ) → e < m → IsOfTube (f e).part → edge_of (within e) ≡ e
      within_edge e k o = let h = tube_arc e k o in (has_half (f e).curve h e k refl).1

      twin_fits : (e : ℕ) → e < m → IsOfTube (f e).part → edge_of (twin (within e)) < m
      twin_fits e k o = subst (λ (x : ℕ). x < m) (sym (edge_twin (within e) ∙ within_edge e k o)) k

      outer_most : (e : ℕ) → e < m → IsOfTube (f e).part → face (twin (within e)) ≤ length d.points
      outer_most e k o = elim (named.rest (twin (within e)) (twin_fits e k o)) [
        | inl n ↦ n
        | inr (x, j, p, q) ↦
            let n = run_faces.own x (twin (within e)) j (twin_fits e k o) p (sym q) in
            absurd (not_twin (within e) (n.2
            ∙ ap within (edge_twin (within e) ∙ within_edge e k o)))
      ]

      straight_most : (h : Half) → edge_of h < m → (f (edge_of h)).part ≡ whole
          → face h ≤ length d.points
      straight_most h k p = elim (named.rest h k) [
        | inl n ↦ n
        | inr (x, j, o, q) ↦ absurd (subst IsOfTube p (run_faces.own x h j k o (sym q)).0)
      ]

      inner_first : (e : ℕ) → e < m → (p : (f e).part ≡ inner)
          → face (twin (within e)) ≡ inside (f e).curve
      inner_first e k p =
          let h = tube_arc e k (subst IsOfTube (sym p) tt) in
          let i = (f e).curve in
          let s = first_edge bays 0 d.curves i in
          let n = has_some (bays i) (some d bays m E steps is wide i h) in
          let o = inner_owner d bays m E steps is i h.there h.kind s
          (omega arith, omega (arith, n)) in
          let fits = below_m d bays m E steps is i h.there h.kind s (omega arith, omega arith) in
          run_faces.inner_chain e s k fits p o.1 (sym o.0)
        where
          has_some : (bs : List Bay) → one.IsSome bs → 0 < length bs
          has_some [] v = absurd v
          has_some (b ∷ bs) v = omega arith

      outer_first : (e : ℕ) → e < m → (p : (f e).part ≡ outer)
          → face (twin (within e)) ≡ outside (f e).curve
      outer_first e k p =
          let h = tube_arc e k (subst IsOfTube (sym p) tt) in
          let i = (f e).curve in
          let s = first_edge bays 0 d.curves i + length (bays i) in
          let o = outer_owner d bays m E steps is i h.there h.kind s (omega arith, omega arith) in
          let fits = below_m d bays m E steps is i h.there h.kind s (omega arith, omega arith) in
          run_faces.outer_chain e s k fits p o.1 (sym o.0)

      pub run_labels : tubed.AreTubeLabels d bays (replay w m E steps) (numbers face)
          (half_within d bays E) (beside_inner d bays E face) (beside_outer d bays E face)
      run_labels = record {
        matched = faces_matched (replay w m E steps) whole_run.run whole_run.law face numbered;
        faces = λ e k o. faces d bays m E steps is e k o;
        within_label = λ e k o. mark_is face (within e) ∙ named.tubes e k o;
        outer_label =
            λ e k o. subst (λ (x : ℕ). x ≤ length d.points) (sym (mark_is face (twin (within e))))
            (outer_most e k o);
        straight_label = λ e k p. (straight_most (under e) k p, straight_most (over e) k p);
        inner_chain = λ e k p. mark_is face (twin (within e)) ∙ inner_first e k p;
        outer_chain = λ e k p. mark_is face (twin (within e)) ∙ outer_first e k p;
      }
