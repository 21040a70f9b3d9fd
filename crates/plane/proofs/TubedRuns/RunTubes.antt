-- A complete run over the edge list of a drawing with tubes, and labels as a certificate's rules
-- ask, make tubes of the run.
use Rattle.std.proofs.Common.{◌≡◌, ℕ, suc, ◌+◌, ◌<◌, ◌≤◌, List, [], ◌∷◌, ◌++◌, map, length, ℤ, pos}
use Rattle.std.proofs.Common.{◌<ℤ◌, ◌⊎◌, ◌↔◌, inl, inr, refl, arith, ap, sym, ◌∙◌, subst}
use Rattle.plane.specs.declared.kinds.Point.{Point}
use Rattle.plane.specs.declared.kinds.Curve.{Curve}
use Rattle.plane.specs.declared.kinds.CurveKind.TheVariants as kind
use Rattle.plane.specs.Lists.{Each, Has}
use Rattle.plane.specs.Forms.Vectors.{Vector, Place, Same, Between, point, Edge, On}
use Rattle.plane.specs.Forms.Arcs.{power}
use Rattle.plane.specs.Rule.Curves.{arc}
use Rattle.plane.specs.Rule.Plans.{Plan, curve}
use Rattle.plane.specs.Forms.Meets.{IsEnd}
use Rattle.plane.specs.Runs.Steps.{Step, WeighedRun}
use Rattle.plane.specs.Faces.Replays.{Replay, replay}
use Rattle.plane.proofs.Runs.RunWords.{IsRun}
use Rattle.plane.specs.Faces.Halves.{Half, under, over, twin, edge_of, mark}
use Rattle.plane.specs.Faces.Labels.{Labels}
use Rattle.plane.specs.Tubes.Bays.{Bay, IsTube, OnInner, OnOuter, AtEnds}
use Rattle.plane.specs.Tubes.Bays as one
use Rattle.plane.specs.Tubes.Windings.{IsLeftTile, tiles, bounds, IsTiled}
use Rattle.plane.specs.Tubes.Facing.{way, IsDrawnTube, IsClean, tip}
use Rattle.plane.specs.CurveRuns.Extended.{Tubes, IsOnWay, InTubeAt, AtArcEnd, AreTubes}
use Rattle.plane.specs.CurveRuns.TubedRuns.{Part, whole, inner, outer, Owned, chain, inner_corners}
use Rattle.plane.specs.CurveRuns.TubedRuns.{outer_corners, owned, Connects, IsOfTube, IsTubedRun}
use Rattle.plane.specs.CurveRuns.TubedRuns.{tube_label, third_is_left, AreTubeLabels, arc_at}
use Rattle.plane.specs.CurveRuns.TubedRuns.{first_edge, tube_start, tube_bays, tube_edges}
use Rattle.plane.specs.CurveRuns.TubedRuns.{first_bay, later_bays, tubes, MeetsArc}
use Rattle.plane.proofs.Linear.Signs.{on_between, between_back}
use Rattle.plane.proofs.Runs.Numbered.{swept_run}
use Rattle.plane.proofs.Windings.Under.{by_order}
use Rattle.plane.proofs.Windings.Ways.{half_or_twin}
use Rattle.plane.proofs.Windings.Enters.{Decided, decide_point}
use Rattle.plane.proofs.OneTube.TubeEdges.{inner_place, outer_place}
use Rattle.plane.proofs.TubedRuns.EdgeNumbers.{IsFrom}
use Rattle.plane.proofs.OneTube.BackwardBays.{last_inner}
use Rattle.plane.proofs.TubedRuns.TubeBounds.{IsAmong}
use Rattle.plane.proofs.Windings.SteepTiles.{tiled}
use Rattle.plane.proofs.OneTube.TurnedTubes.{turned_left}
use Rattle.plane.proofs.TubedRuns.HalfArcLists.{IsArcOf, arc_of, arcs_rise}
use Rattle.plane.proofs.TubedRuns.OwnedEdges.{no_curve}
use Rattle.plane.proofs.TubedRuns.TubeNumbers.{whole_range, tube_among, among_tube, on_inner}
use Rattle.plane.proofs.TubedRuns.TubeNumbers.{on_outer}
use Rattle.plane.proofs.TubedRuns.ArcEdges as edges
use Rattle.plane.proofs.TubedRuns.TubedEdges as bound
use Rattle.plane.proofs.TubedRuns.TubedHits.{end_hits, circle_hits, side_kept, arc_covered}

module _ (w : ℤ) (d : Plan) (bays : ℕ → List Bay) (m : ℕ) (E : ℕ → Edge) (steps : List Step)
    (lab : Labels) (within : ℕ → Half) (inside outside : ℕ → ℕ)
    (swept : WeighedRun w m E steps) (is : IsTubedRun d bays m E steps)
    (L : AreTubeLabels d bays (replay w m E steps) lab within inside outside) where
  abbrev r : Replay
  r = replay w m E steps

  run : IsRun r
  run = swept_run w m E steps swept

  abbrev f : ℕ → Owned
  f e = owned d bays e

  abbrev first : ℕ → ℕ
  first i = first_edge bays 0 d.curves i

  -- ---- one half arc
  module _ (i : ℕ) (l : i < length d.curves) (bent : (curve d i).kind ≡ kind.HalfArc) where
    abbrev c : Curve
    c = curve d i

    abbrev bs : List Bay
    bs = bays i

    abbrev size : ℕ
    size = suc (length bs + length bs)

    -- from the edges alone
    t : IsTube (arc c) bs
    t = edges.t d bays m E steps is i l bent

    inner_from : IsFrom f (first i) (chain i inner c.from (inner_corners bs))
    inner_from = edges.inner_from d bays m E steps is i l bent

    outer_from : IsFrom f (first i + length bs)
        (chain i outer c.from (outer_corners bs ++ c.to ∷ []))
    outer_from = edges.outer_from d bays m E steps is i l bent

    inner_owner : (x : ℕ) → IsAmong x (first i) (length bs)
        → ((f x).curve ≡ i) × ((f x).part ≡ inner)
    inner_owner = edges.inner_owner d bays m E steps is i l bent

    outer_owner : (x : ℕ) → IsAmong x (first i + length bs) (suc (length bs))
        → ((f x).curve ≡ i) × ((f x).part ≡ outer)
    outer_owner = edges.outer_owner d bays m E steps is i l bent

    its_curve : (x : ℕ) → IsAmong x (first i) size → (f x).curve ≡ i
    its_curve = edges.its_curve d bays m E steps is i l bent

    of_tube : (x : ℕ) → IsAmong x (first i) size → IsOfTube (f x).part
    of_tube = edges.of_tube d bays m E steps is i l bent

    below_m : (x : ℕ) → IsAmong x (first i) size → x < m
    below_m = edges.below_m d bays m E steps is i l bent

    owned_in : (x : ℕ) → x < m → (f x).curve ≡ i → IsAmong x (first i) size
    owned_in = edges.owned_in d bays m E steps is i l bent

    ends_at : last_inner c.from bs ≡ c.to
    ends_at = edges.ends_at d bays m E steps is i l bent

    with_bay : (P : List Bay → Type 0)
        → ((b : Bay) (rest : List Bay) → bs ≡ b ∷ rest → P (b ∷ rest)) → P bs
    with_bay = edges.with_bay d bays m E steps is i l bent

    at_ends : (P : Point → Type 0) → P c.from ⊎ P c.to
        → P (tube_start c) ⊎ P (tip (first_bay (tube_bays c bs)) (later_bays (tube_bays c bs)))
    at_ends = edges.at_ends d bays m E steps is i l bent

    edge_at : (x : ℕ) → IsAmong x (first i) size → edge_of (within x) ≡ x
    edge_at = bound.edge_at d bays m E steps within is L.faces i l bent

    abbrev numbers : List ℕ
    numbers = tube_edges (third_is_left c) (first i) bs

    abbrev halves : List Half
    halves = map within numbers

    -- the half-edges of the tube
    half_from : (ns : List ℕ) (h : Half) → Has h (map within ns)
        → (x : ℕ) × Has x ns × (h ≡ within x)
    half_from = bound.half_from d bays m E steps within is L.faces i l bent

    half_in : (ns : List ℕ) (x : ℕ) → Has x ns → Has (within x) (map within ns)
    half_in = bound.half_in d bays m E steps within is L.faces i l bent

    its_bounds : bounds (tube_start c) (first_bay (tube_bays c bs) ∷ later_bays (tube_bays c bs))
        ≡ map (way E) halves
    its_bounds = bound.its_bounds d bays m E steps within is L.faces i l bent

    half_fits : (h : Half) → Has h halves → edge_of h < m
    half_fits = bound.half_fits d bays m E steps within is L.faces i l bent

    its_label : (h : Half) → Has h halves → mark lab h ≡ tube_label d i
    its_label h k =
        let x = half_from numbers h k in
        let a = tube_among (third_is_left c) (first i) x.0 bs x.1 in
        ap (mark lab) x.2 ∙ L.within_label x.0 (below_m x.0 a) (of_tube x.0 a)
        ∙ ap (tube_label d) (its_curve x.0 a)

    its_tiles : IsTiled w
        (tiles (tube_start c) (first_bay (tube_bays c bs) ∷ later_bays (tube_bays c bs)))
    its_tiles = tiled r run (tube_start c)
        (first_bay (tube_bays c bs) ∷ later_bays (tube_bays c bs)) halves its_bounds half_fits
        (with_bay (λ ks. Each (λ x. IsLeftTile x)
        (tiles (tube_start c) (first_bay (tube_bays c ks) ∷ later_bays (tube_bays c ks))))
        (λ b rest e. turned_left (arc c) b rest (third_is_left c) refl
        (subst (λ (ks : List Bay). IsTube (arc c) ks) e t)
        (subst (λ (ks : List Bay). last_inner c.from ks ≡ c.to) e ends_at)))

    too_great : (a n j : ℕ) → a ≡ suc (n + j) → a ≤ n → ⊥
    too_great a n j e l = omega (arith, e, l)

    one_curve : (n a b : ℕ) → suc (n + a) ≡ suc (n + b) → a ≡ b
    one_curve n a b e = omega (arith, e)

    label_only : (h : Half) → edge_of h < m → mark lab h ≡ tube_label d i → Has h halves
    label_only h k e = by_part (f (edge_of h)).part refl
      where
        straight_side : (g : Half)
            → (lab.below (edge_of g) ≤ length d.points) × (lab.above (edge_of g) ≤ length d.points)
            → mark lab g ≤ length d.points
        straight_side (under n) p = p.0
        straight_side (over n) p = p.1

        of_some : IsOfTube (f (edge_of h)).part → Has h halves
        of_some o =
            let faced = L.faces (edge_of h) k o in
            elim (half_or_twin (within (edge_of h)) h faced.edge) [
              | inl q ↦
                  let j = one_curve (length d.points) _ _ (sym (L.within_label (edge_of h) k o)
                  ∙ sym (ap (mark lab) q) ∙ e) in
                  subst (λ (g : Half). Has g halves) (sym q)
                  (half_in numbers (edge_of h)
                  (among_tube (third_is_left c) (first i) (edge_of h) bs
                  (owned_in (edge_of h) k j)))
              | inr q ↦ absurd
                  (too_great _ (length d.points) i (sym (ap (mark lab) q) ∙ e)
                  (L.outer_label (edge_of h) k o))
            ]

        by_part : (p : Part) → (f (edge_of h)).part ≡ p → Has h halves
        by_part whole q =
            absurd (too_great _ (length d.points) i e
            (straight_side h (L.straight_label (edge_of h) k q)))
        by_part inner q = of_some (subst IsOfTube (sym q) tt)
        by_part outer q = of_some (subst IsOfTube (sym q) tt)

    pub its_tube : IsDrawnTube r lab (tube_label d i) (tube_start c) (first_bay (tube_bays c bs))
        (later_bays (tube_bays c bs)) halves
    its_tube = record {
      tiled = its_tiles;
      bounds = its_bounds;
      faced = record {
        some_label = λ e. omega (arith, e);
        fits = half_fits;
        once = bound.half_once d bays m E steps within is L.faces i l bent;
        faces = its_label;
        only = label_only;
      };
    }

    pub its_clean : IsClean r (tube_start c) (first_bay (tube_bays c bs))
        (later_bays (tube_bays c bs)) halves
    its_clean = record {
      clean = λ k l h. by_end k l h.0 h.1 h.2 (decide_point (r.step k).at c.from)
          (decide_point (r.step k).at c.to);
    }
      where
        by_end : (k : ℕ) → k < r.steps → (h : Half) → Has h halves
            → IsEnd (E (edge_of h)) (r.step k).at → Decided ((r.step k).at ≡ c.from)
            → Decided ((r.step k).at ≡ c.to)
            → ((r.step k).at ≡ tube_start c)
            ⊎ (((r.step k).at ≡ tip (first_bay (tube_bays c bs)) (later_bays (tube_bays c bs)))
            ⊎ ((e : ℕ) → e < m → IsEnd (E e) (r.step k).at
            → (g : Half) × Has g halves × (edge_of g ≡ e)))
        by_end k l h n on (inl e) other =
            elim (at_ends (λ p. (r.step k).at ≡ p) (inl e)) [ inl x ↦ inl x | inr x ↦ inr (inl x) ]
        by_end k l h n on (inr u) (inl e) =
            elim (at_ends (λ p. (r.step k).at ≡ p) (inr e)) [ inl x ↦ inl x | inr x ↦ inr (inl x) ]
        by_end k l h n on (inr u) (inr v) = inr (inr (λ e j there.
            let y = half_from numbers h n in
            let a = tube_among (third_is_left c) (first i) y.0 bs y.1 in
            let same = ap edge_of y.2 ∙ edge_at y.0 a in
            let q = its_curve y.0 a in
            elim (is.corner k y.0 e l (below_m y.0 a) j (of_tube y.0 a)
            (subst (λ (x : ℕ). IsEnd (E x) (r.step k).at) same on) there) [
              | inl x ↦ absurd (u (x ∙ ap (λ (z : ℕ). (curve d z).from) q))
              | inr rest ↦ elim rest [
                | inl x ↦ absurd (v (x ∙ ap (λ (z : ℕ). (curve d z).to) q))
                | inr x ↦
                    let b = owned_in e j (x ∙ q) in (
                      within e,
                      half_in numbers e (among_tube (third_is_left c) (first i) e bs b),
                      edge_at e b,
                    )
              ]
            ]))

    pub facing : (x : ℕ) → x < m → (f x).curve ≡ i
        → Has (within x) halves × (edge_of (within x) ≡ x)
    facing = bound.facing d bays m E steps within is L.faces i l bent

    -- the curve of a half-edge of the tube
    half_curve : (h : Half) → Has h halves → (f (edge_of h)).curve ≡ i
    half_curve = bound.half_curve d bays m E steps within is L.faces i l bent

    joined_between : (e : Edge) (p q : Point) (z : Vector) → Connects e p q
        → Between z (point e.low) (point e.high) → Between z (point p) (point q)
    joined_between e p q z (inl h) b =
        subst (λ (x : Point). Between z (point x) (point q)) h.0
        (subst (λ (x : Point). Between z (point e.low) (point x)) h.1 b)
    joined_between e p q z (inr h) b =
        between_back z _ _
        (subst (λ (x : Point). Between z (point x) (point p)) h.0
        (subst (λ (x : Point). Between z (point e.low) (point x)) h.1 b))

    edge_place : (x : ℕ) → x < m → (z : Vector) → Place z → On w (E x) z
        → Between z (point (f x).from) (point (f x).to)
    edge_place x k z Z on =
        joined_between (E x) (f x).from (f x).to z (is.edge x k)
        (on_between w (E x) z (run.rise x k) Z on)

    abbrev AtEnd : Vector → Type 0
    AtEnd z = Same z (point (tube_start c))
        ⊎ Same z (point (tip (first_bay (tube_bays c bs)) (later_bays (tube_bays c bs))))

    abbrev Wall : Half → Type 0
    Wall h = ((mark lab (twin h) ≡ inside i)
        × ((z : Vector) → Place z → On w (E (edge_of h)) z → (power (arc c) z <ℤ pos 0) ⊎ AtEnd z))
        ⊎ ((mark lab (twin h) ≡ outside i)
        × ((z : Vector) → Place z → On w (E (edge_of h)) z
        → (pos 0 <ℤ power (arc c) z) ⊎ AtEnd z))

    -- outside the edges of each chain stands one label, and their places are on that chain's side
    -- of the circle
    abbrev pub InnerWall : Half → Type 0
    InnerWall h =
        (mark lab (twin h) ≡ inside i) × ((z : Vector) → Place z → On w (E (edge_of h)) z
        → (power (arc c) z <ℤ pos 0) ⊎ AtEnd z)

    abbrev pub OuterWall : Half → Type 0
    OuterWall h =
        (mark lab (twin h) ≡ outside i) × ((z : Vector) → Place z → On w (E (edge_of h)) z
        → (pos 0 <ℤ power (arc c) z) ⊎ AtEnd z)

    inner_at : (x : ℕ) → IsAmong x (first i) size → IsAmong x (first i) (length bs)
        → InnerWall (within x)
    inner_at x a k = (
      L.inner_chain x (below_m x a) (inner_owner x k).1 ∙ ap inside (its_curve x a),
      λ z Z on. elim (inner_place (arc c) bs z t Z
          (on_inner f i (first i) x c.from bs z inner_from k
          (edge_place x (below_m x a) z Z (subst (λ (n : ℕ). On w (E n) z) (edge_at x a) on)))) [
            | inl q ↦ inl q
            | inr q ↦ inr (at_ends (λ p. Same z (point p)) q)
          ],
    )

    outer_at : (x : ℕ) → IsAmong x (first i) size
        → IsAmong x (first i + length bs) (suc (length bs)) → OuterWall (within x)
    outer_at x a k = (
      L.outer_chain x (below_m x a) (outer_owner x k).1 ∙ ap outside (its_curve x a),
      λ z Z on. elim (outer_place (arc c) bs z t Z
          (on_outer f i (first i + length bs) x c.from c.to bs z outer_from k
          (edge_place x (below_m x a) z Z (subst (λ (n : ℕ). On w (E n) z) (edge_at x a) on)))) [
            | inl q ↦ inl q
            | inr q ↦ inr (at_ends (λ p. Same z (point p)) q)
          ],
    )

    wall_at : (x : ℕ) → IsAmong x (first i) size
        → IsAmong x (first i) (length bs) ⊎ IsAmong x (first i + length bs) (suc (length bs))
        → Wall (within x)
    wall_at x a (inl k) = inl (inner_at x a k)
    wall_at x a (inr k) = inr (outer_at x a k)

    -- an edge of the curve is of the chain that its part names
    pub inner_edge : (x : ℕ) → x < m → (f x).curve ≡ i → (f x).part ≡ inner → InnerWall (within x)
    inner_edge x l e p =
        let a = owned_in x l e in
        elim (whole_range (first i) (first i + length bs) (length bs) x refl a) [
          | inl k ↦ inner_at x a k
          | inr k ↦ absurd (two_parts (sym p ∙ (outer_owner x k).1))
        ]
      where
        two_parts : inner ≡ outer → ⊥
        two_parts e = subst IsInner e tt
          where
            IsInner : Part → Type 0
            IsInner whole = ⊥
            IsInner inner = Unit {0}
            IsInner outer = ⊥

    pub outer_edge : (x : ℕ) → x < m → (f x).curve ≡ i → (f x).part ≡ outer → OuterWall (within x)
    outer_edge x l e p =
        let a = owned_in x l e in
        elim (whole_range (first i) (first i + length bs) (length bs) x refl a) [
          | inl k ↦ absurd (two_parts (sym p ∙ (inner_owner x k).1))
          | inr k ↦ outer_at x a k
        ]
      where
        two_parts : outer ≡ inner → ⊥
        two_parts e = subst IsOuter e tt
          where
            IsOuter : Part → Type 0
            IsOuter whole = ⊥
            IsOuter inner = ⊥
            IsOuter outer = Unit {0}

    pub its_wall : (h : Half) → Has h halves → Wall h
    its_wall h k =
        let x = half_from numbers h k in
        let a = tube_among (third_is_left c) (first i) x.0 bs x.1 in
        subst (λ (g : Half). Wall g) (sym x.2)
        (wall_at x.0 a (whole_range (first i) (first i + length bs) (length bs) x.0 refl a))

  -- ---- all tubes
  abbrev T : Tubes
  T = tubes d bays within inside outside

  arc_is : (c : ℕ) → c < T.count → IsArcOf no_curve 0 d.curves (arc_at d c)
  arc_is c l = arc_of no_curve 0 d.curves c l

  pub arc_fits : (c : ℕ) → c < T.count → arc_at d c < length d.curves
  arc_fits c l = let a = (arc_is c l).number in let b = (arc_is c l).fits in omega (arith, a, b)

  pub arc_bent : (c : ℕ) → c < T.count → (curve d (arc_at d c)).kind ≡ kind.HalfArc
  arc_bent c l =
      let a = arc_is c l in
      subst (λ (j : ℕ). (curve d j).kind ≡ kind.HalfArc) (let n = a.number in
      omega (arith, n)) a.bent

  arcs_differ : (a b : ℕ) → a < T.count → b < T.count → (a ≡ b → ⊥) → arc_at d a ≡ arc_at d b → ⊥
  arcs_differ a b l k n e =
      by_order a b
      (λ (h : a < b). let x = arcs_rise no_curve 0 d.curves a b h k in omega (arith, x, e))
      (λ (h : b ≤ a). by_order b a
      (λ (j : b < a). let x = arcs_rise no_curve 0 d.curves b a j l in omega (arith, x, e))
      (λ (j : a ≤ b). n (omega (arith, h, j))))

  pub are_tubes : AreTubes r lab T (MeetsArc d)
  are_tubes = record {
    tube = λ c l. its_tube (arc_at d c) (arc_fits c l) (arc_bent c l);
    clean = λ c l. its_clean (arc_at d c) (arc_fits c l) (arc_bent c l);
    labels = λ a b l k n e. arcs_differ a b l k n
        (one_number (length d.points) (arc_at d a) (arc_at d b) e);
    apart = λ a b l k n g h x y e. arcs_differ a b l k n
        (sym (half_curve (arc_at d a) (arc_fits a l) (arc_bent a l) g x)
        ∙ ap (λ (j : ℕ). (f j).curve) e
        ∙ half_curve (arc_at d b) (arc_fits b k) (arc_bent b k) h y);
    walls = λ c l. its_wall (arc_at d c) (arc_fits c l) (arc_bent c l);
    ends = λ c l. end_hits d bays m E steps is (arc_at d c) (arc_fits c l) (arc_bent c l);
    circle = λ c l. circle_hits d bays m E steps is (arc_at d c) (arc_fits c l) (arc_bent c l);
    kept = λ c l p q P Q way miss back. side_kept d bays m E steps is (arc_at d c) (arc_fits c l)
        (arc_bent c l) p q P Q way miss;
  }
    where
      one_number : (n a b : ℕ) → suc (n + a) ≡ suc (n + b) → a ≡ b
      one_number n a b e = omega (arith, e)

  -- an edge of the half arc's faces the tube, and no others do
  pub edge_in_tube : (c : ℕ) → c < T.count → (x : ℕ) → x < m → (f x).curve ≡ arc_at d c
      → Has (within x) (T.halves c) × (edge_of (within x) ≡ x)
  edge_in_tube c l x k e = facing (arc_at d c) (arc_fits c l) (arc_bent c l) x k e

  pub tube_owner : (c : ℕ) → c < T.count → (h : Half) → Has h (T.halves c)
      → (f (edge_of h)).curve ≡ arc_at d c
  tube_owner c l h k = half_curve (arc_at d c) (arc_fits c l) (arc_bent c l) h k

  pub tubes_cover : (c : ℕ) → c < T.count → (u v : Vector) → Place u → Place v → MeetsArc d c u v
      → (z : Vector) × IsOnWay u v z × InTubeAt T c z
  tubes_cover c l u v U V h =
      arc_covered d bays m E steps is (arc_at d c) (arc_fits c l) (arc_bent c l) u v U V h

  -- an end of tube c is one of its half arc
  pub arc_end : (c : ℕ) → c < T.count → (z : Vector) → AtArcEnd T c z
      → Same z (point (curve d (arc_at d c)).from) ⊎ Same z (point (curve d (arc_at d c)).to)
  arc_end c l z h =
      edges.ends_at_arc d bays m E steps is (arc_at d c) (arc_fits c l) (arc_bent c l)
      (λ p. Same z (point p)) h

  -- the places of tube c are those of the triangles of its half arc's tube
  pub tube_places : (c : ℕ) → c < T.count → (z : Vector)
      → InTubeAt T c z ↔ one.InTube (curve d (arc_at d c)).from (bays (arc_at d c)) z
  tube_places c l z =
      edges.its_places d bays m E steps is (arc_at d c) (arc_fits c l) (arc_bent c l) z
