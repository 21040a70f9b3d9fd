-- The edges of a drawing at a level by number, and those of each of its curves.
use Rattle.std.proofs.Common.{◌≡◌, inl, inr, ℕ, zero, suc, ◌+◌, ◌<◌, Bool, true, false, cond, List}
use Rattle.std.proofs.Common.{[], ◌∷◌, ◌++◌, length, get_or, map, refl, arith, ap, sym, ◌∙◌, subst}
use Rattle.std.proofs.lemmas.List.{length-map}
use Rattle.plane.specs.CurveRuns.TubedRuns as runs
use Rattle.plane.specs.Lists.{Has}
use Rattle.plane.specs.Rule.Plans.{Plan, curve}
use Rattle.plane.specs.Tubes.Bays.{Bay}
use Rattle.plane.specs.declared.kinds.CurveKind.{CurveKind}
use Rattle.plane.specs.declared.kinds.CurveKind.TheVariants as kind
use Rattle.plane.specs.declared.kinds.Point.{Point}
use Rattle.plane.proofs.TubedRuns.ArcEdges.{edge_curve}
use Rattle.plane.proofs.TubedRuns.EdgeNumbers.{from_at, group_at, group_fits, group_of}
use Rattle.plane.proofs.TubedRuns.OwnedEdges.{no_curve}
use Rattle.straight_predicates.specs.EdgeLists.{edge_of}
use Rattle.tubes.specs.DrawnEdges.{comes_first, edge_from}
use Rattle.tubes.specs.Settled.{edge_at, edges_at, group, owned_at}
use Rattle.tubes.specs.TubedEdges.{drawn_bays, edge_as}
use Rattle.level_breaks.proofs.GroupEdges.{at_has, has_at, has_either}

pub joins : (p q : Point) → runs.Connects (edge_from p q) p q
joins p q = by_test (comes_first p q)
  where
    by_test : (b : Bool)
        → runs.Connects (cond b (record { low = p; high = q }) (record { low = q; high = p })) p q
    by_test true = inl (refl, refl)
    by_test false = inr (refl, refl)

mapped_at : (os : List runs.Owned) (e : ℕ) → e < length os
    → edge_of (map edge_as os) e ≡ edge_as (get_or os e runs.no_edge)
mapped_at [] e l = absurd (omega (arith, l))
mapped_at (o ∷ os) zero l = refl
mapped_at (o ∷ os) (suc e) l = mapped_at os e (omega (arith, l))

-- the edges of chains are of their part
chain_part : (i : ℕ) (part : runs.Part) (p : Point) (qs : List Point) (o : runs.Owned)
    → Has o (runs.chain i part p qs) → o.part ≡ part
chain_part i part p [] o h = absurd h
chain_part i part p (q ∷ qs) o (inl e) = ap (λ (x : runs.Owned). x.part) e
chain_part i part p (q ∷ qs) o (inr h) = chain_part i part q qs o h

module _ (d : Plan) (level : ℕ → ℕ) where
  abbrev pub B : ℕ → List Bay
  B = drawn_bays d level

  abbrev pub owned_list : List runs.Owned
  owned_list = runs.edge_list B 0 d.curves

  pub edge_count : length (edges_at d level) ≡ length owned_list
  edge_count = length-map owned_list edge_as

  pub listed : (e : ℕ) → e < length (edges_at d level) → e < length owned_list
  listed e l = subst (λ (n : ℕ). e < n) edge_count l

  pub counted : (e : ℕ) → e < length owned_list → e < length (edges_at d level)
  counted e l = subst (λ (n : ℕ). e < n) (sym edge_count) l

  pub edge_is : (e : ℕ) → e < length (edges_at d level)
      → edge_at d level e ≡ edge_as (owned_at d level e)
  edge_is e l = mapped_at owned_list e (listed e l)

  pub connects : (e : ℕ) → e < length (edges_at d level)
      → runs.Connects (edge_at d level e) (owned_at d level e).from (owned_at d level e).to
  connects e l =
      subst (λ x. runs.Connects x (owned_at d level e).from (owned_at d level e).to)
      (sym (edge_is e l)) (joins (owned_at d level e).from (owned_at d level e).to)

  -- edge e belongs to the curve of that number and is one of its edges
  pub record IsOf (e i : ℕ) : Type 0 where
    pub there : i < length d.curves
    pub curve : (owned_at d level e).curve ≡ i
    pub has : Has (owned_at d level e) (group d level i)
    pub place : ℕ
    pub fits : place < length (group d level i)
    pub number : e ≡ runs.first_edge B 0 d.curves i + place

  pub owner_of : (e : ℕ) → e < length (edges_at d level) → IsOf e (owned_at d level e).curve
  owner_of e l =
      let g = group_of B no_curve 0 d.curves e (listed e l) in
      let n : g.curve ≡ g.index = (let a = g.number in omega (arith, a)) in
      let q : runs.owned d B e ≡ get_or
      (runs.edges_of g.curve (curve d g.index).kind (curve d g.index) (B g.curve)) g.place
      runs.no_edge =
      ap (runs.owned d B) g.is
      ∙ from_at (runs.owned d B) (runs.first_edge B 0 d.curves g.index) g.place _
      (group_at B no_curve 0 d.curves g.index g.curve g.fits g.number) g.there in
      let c : runs.Owned.curve (runs.owned d B e) ≡ g.index = ap (λ (y : runs.Owned). y.curve) q
      ∙ edge_curve (curve d g.index).kind (curve d g.index) (B g.curve) g.curve g.place g.there
      ∙ n in
      subst (IsOf e) (sym c) (record {
        there = g.fits;
        curve = c;
        has = subst (λ (k : ℕ). Has (runs.owned d B e)
            (runs.edges_of k (curve d g.index).kind (curve d g.index) (B k))) n
            (subst (λ o. Has o
            (runs.edges_of g.curve (curve d g.index).kind (curve d g.index) (B g.curve)))
            (sym q) (at_has runs.no_edge _ g.place g.there));
        place = g.place;
        fits = subst
            (λ (k : ℕ). g.place < length
            (runs.edges_of k (curve d g.index).kind (curve d g.index) (B k))) n g.there;
        number = g.is;
      })

  -- each edge of a curve has a number
  pub number_of : (i : ℕ) (o : runs.Owned) → i < length d.curves → Has o (group d level i)
      → (e : ℕ) × (e < length (edges_at d level)) × (owned_at d level e ≡ o)
  number_of i o l h =
      let (k, lk, e) = has_at o runs.no_edge (group d level i) h in
      let f = group_fits B no_curve 0 d.curves i i l (omega arith) in (
        runs.first_edge B 0 d.curves i + k,
        counted _ (omega (arith, lk, f)),
        from_at (runs.owned d B) (runs.first_edge B 0 d.curves i) k _
            (group_at B no_curve 0 d.curves i i l (omega arith)) lk ∙ e,
      )

  pub group_curve : (i : ℕ) (o : runs.Owned) → Has o (group d level i) → o.curve ≡ i
  group_curve i o h =
      let (k, l, e) = has_at o runs.no_edge (group d level i) h in
      ap (λ (y : runs.Owned). y.curve) (sym e) ∙ edge_curve (curve d i).kind (curve d i) (B i) i k l

  -- edges of half arcs are of tubes
  pub arc_part : (i : ℕ) (o : runs.Owned) → (curve d i).kind ≡ kind.HalfArc
      → Has o (group d level i) → runs.IsOfTube o.part
  arc_part i o e h =
      elim (has_either o (runs.chain i runs.inner (curve d i).from (runs.inner_corners (B i)))
      (runs.chain i runs.outer (curve d i).from (runs.outer_corners (B i) ++ (curve d i).to ∷ []))
      (subst (λ (k : CurveKind). Has o (runs.edges_of i k (curve d i) (B i))) e h)) [
        | inl a ↦ subst runs.IsOfTube (sym (chain_part i runs.inner _ _ o a)) tt
        | inr b ↦ subst runs.IsOfTube (sym (chain_part i runs.outer _ _ o b)) tt
      ]

  -- and those of straights are not
  pub tube_kind : (i : ℕ) (o : runs.Owned) → runs.IsOfTube o.part → Has o (group d level i)
      → (curve d i).kind ≡ kind.HalfArc
  tube_kind i o t h = by_kind (curve d i).kind refl
    where
      by_kind : (k : CurveKind) → (curve d i).kind ≡ k → k ≡ kind.HalfArc
      by_kind kind.HalfArc e = refl
      by_kind kind.Straight e =
          absurd (subst runs.IsOfTube
          (chain_part i runs.whole (curve d i).from ((curve d i).to ∷ []) o
          (subst (λ (k : CurveKind). Has o (runs.edges_of i k (curve d i) (B i))) e h)) t)

  -- a straight has one edge
  pub one_edge : (e f i : ℕ) → (curve d i).kind ≡ kind.Straight → IsOf e i → IsOf f i → e ≡ f
  one_edge e f i s a b =
      let la = subst (λ (k : CurveKind). a.place < length (runs.edges_of i k (curve d i) (B i))) s
      a.fits in
      let lb = subst (λ (k : CurveKind). b.place < length (runs.edges_of i k (curve d i) (B i))) s
      b.fits in
      let na = a.number in
      let nb = b.number in
      same (runs.first_edge B 0 d.curves i) la lb na nb
    where
      same : {x y : ℕ} (n : ℕ) → x < 1 → y < 1 → e ≡ n + x → f ≡ n + y → e ≡ f
      same n l m p q = omega (arith, l, m, p, q)
