-- What a program tests of two curves is that they break the level.
use Rattle.std.proofs.Common.{◌≡◌, ◌↔◌, ◌⊎◌, inl, inr, ℕ, ◌<◌, Option, Some, None, List, [], ◌∷◌}
use Rattle.std.proofs.Common.{length, map, refl, arith, ap, sym, ◌∙◌, subst, pos, ◌≤ℤ◌}
use Rattle.plane.specs.CurveRuns.TubedRuns as runs
use Rattle.plane.specs.Forms.Meets.{Bad, IsEnd}
use Rattle.plane.specs.Forms.Vectors.{point}
use Rattle.plane.specs.Lists.{Has}
use Rattle.plane.specs.Rule.BadPairs.{IsEndOf}
use Rattle.plane.specs.Rule.Curves.{arc}
use Rattle.plane.specs.Rule.HalfArcs.{bow}
use Rattle.plane.specs.Rule.Plans.{IsHalfArc, Plan, curve}
use Rattle.plane.specs.Tubes.Bays.{Bay, IsTube, bays}
use Rattle.plane.specs.Tubes.Windings.{InTile, IsCornerOf, Tile, tiles}
use Rattle.plane.specs.declared.kinds.Curve.{Curve}
use Rattle.plane.specs.declared.kinds.CurveKind.{CurveKind}
use Rattle.plane.specs.declared.kinds.CurveKind.TheVariants as kind
use Rattle.plane.specs.declared.kinds.Edge.{Edge}
use Rattle.plane.specs.declared.kinds.Point.{Point}
use Rattle.straight_predicates.specs.EdgeLists.{edge_of, no_edge, no_point}
use Rattle.tubes.specs.Holding.{InTubeOf}
use Rattle.tubes.specs.Making.{IsMade}
use Rattle.tubes.specs.Settled.{Breaks, BreaksOneWay, EdgesMeet, EndsAt, EntersTube, HasGroup}
use Rattle.tubes.specs.Settled.{IsTubeFor, LiesUnderChord, SharesCorner, corners, edge_at, edges}
use Rattle.tubes.specs.Settled.{group, missing, owned_at}
use Rattle.tubes.specs.TubedEdges.{HasTube, bays_at, drawn_bays, edge_as}
use Rattle.tubes.specs.declared.kinds.Tube.{Tube}
use Rattle.tubes.proofs.TubePoints.{tube_is}
use Rattle.level_breaks.specs.GroupBreaks.{AreBroken, BreakOneWay, HasEdges, IsInTube, IsUnderChord}
use Rattle.level_breaks.specs.GroupBreaks.{SomeInTube, SomeMeet}
use Rattle.level_breaks.specs.Groups as groups
use Rattle.level_breaks.specs.Groups.{IsTubed, edges_with, nth}
use Rattle.level_breaks.proofs.GroupEdges.{at_has, edges_map, ends_are, has_at, has_left}
use Rattle.level_breaks.proofs.GroupEdges.{has_mapped, mapped_has, some_after, to_is_inner}
use Rattle.level_breaks.proofs.TubePlaces.{corner_is_corner, corner_is_held, held_is_in_tile}
use Rattle.level_breaks.proofs.TubePlaces.{made_bays, made_sizes}
use Rattle.level_breaks.proofs.NumberedEdges.{connects, edge_is, group_curve, listed, number_of}
use Rattle.level_breaks.proofs.Unbroken.{decide_corner}

-- ---- lists of edges
bad_of_lists : (es fs : List Edge)
    → SomeMeet es fs ↔ ((a : Edge) × (b : Edge) × Has a es × Has b fs × Bad a b)
bad_of_lists es fs = (
  (λ (k, lk, (m, lm, h)). (
    edge_of es k,
    edge_of fs m,
    at_has no_edge es k lk,
    at_has no_edge fs m lm,
    h,
  )),
  (λ (a, b, ha, hb, h).
      let (k, lk, ek) = has_at a no_edge es ha in
      let (m, lm, em) = has_at b no_edge fs hb in (
        k,
        lk,
        (
          m,
          lm,
          subst (λ x. Bad x (edge_of fs m)) (sym ek)
              (subst (λ y. Bad a y) (sym em) h),
        ),
      )),
)

-- ---- one curve of a drawing with its tube
module _ (d : Plan) (level : ℕ → ℕ) (i : ℕ) (t : Option Tube) (tubed : IsTubed (level i) (curve d i) t) where
  same_edges : map edge_as (group d level i) ≡ edges_with (curve d i) t
  same_edges = edges_map i (level i) (curve d i) t tubed

  pub edge_has : (o : runs.Owned) → Has o (group d level i)
      → Has (edge_as o) (edges_with (curve d i) t)
  edge_has o h = subst (Has (edge_as o)) same_edges (has_mapped edge_as o (group d level i) h)

  pub has_edge : (e : Edge) → Has e (edges_with (curve d i) t)
      → (o : runs.Owned) × Has o (group d level i) × (e ≡ edge_as o)
  has_edge e h = mapped_has edge_as e (group d level i) (subst (Has e) (sym same_edges) h)

  pub ends_have : (p : Point) → EndsAt d level i p ↔ Has p (groups.corners (curve d i) t)
  ends_have p = (
    (λ (o, h, end). (ends_are (level i) (curve d i) t p tubed).0 (edge_as o, edge_has o h, end)),
    (λ h. let (e, he, end) = (ends_are (level i) (curve d i) t p tubed).1 h in
        let (o, ho, q) = has_edge e he in (o, ho, subst (λ x. IsEnd x p) q end)),
  )

tubed_kind : (level : ℕ) (c : Curve) (t : Tube) → IsTubed level c (Some t) → c.kind ≡ kind.HalfArc
tubed_kind level c t h = h.0

-- ---- edges that meet
pub meet_is : (d : Plan) (level : ℕ → ℕ) (i j : ℕ) (t u : Option Tube) → IsTubed (level i) (curve d i) t
    → IsTubed (level j) (curve d j) u
    → SomeMeet (edges_with (curve d i) t) (edges_with (curve d j) u) ↔ EdgesMeet d level i j
meet_is d level i j t u ht hu = (
  (λ s.
      let (a, b, ha, hb, h) = (bad_of_lists (edges_with (curve d i) t) (edges_with (curve d j) u)).0
      s in
      let (o, ho, eo) = has_edge d level i t ht a ha in
      let (v, hv, ev) = has_edge d level j u hu b hb in
      (o, v, ho, hv, subst (λ x. Bad x (edge_as v)) eo (subst (λ y. Bad a y) ev h))),
  (λ (o, v, ho, hv, h). (bad_of_lists (edges_with (curve d i) t) (edges_with (curve d j) u)).1
      (edge_as o, edge_as v, edge_has d level i t ht o ho, edge_has d level j u hu v hv, h)),
)

-- ---- corners in a tube
module _ (d : Plan) (level : ℕ → ℕ)
    (own_enter : (i e : ℕ) (a : Edge) (p : Point) (t : Tile) → (curve d i).kind ≡ kind.HalfArc
    → IsTube (arc (curve d i)) (drawn_bays d level i)
    → e < length (runs.edge_list (drawn_bays d level) 0 d.curves)
    → (owned_at d level e).curve ≡ i
    → runs.Connects a (owned_at d level e).from (owned_at d level e).to → IsEnd a p
    → Has t (tiles (curve d i).from (drawn_bays d level i)) → InTile t (point p)
    → IsCornerOf t p) where
  module _ (i : ℕ) (t : Tube) (there : i < length d.curves)
      (tubed : IsTubed (level i) (curve d i) (Some t)) where
    abbrev c : Curve
    c = curve d i

    made : IsMade (arc c) (level i) t
    made = tubed.1

    is_tube : IsTube (arc c) (drawn_bays d level i)
    is_tube = subst (IsTube (arc c)) (sym (made_bays (level i) c t made))
        (tube_is (arc c) (level i) made.after t.outer.items made.tube)

    half_arc : IsHalfArc d i
    half_arc = record { there = there; kind = tubed.0 }

    -- an end of the half arc in a triangle of its tube is a corner of the triangle
    end_is_corner : (tile : Tile) (p : Point) → Has tile (tiles c.from (drawn_bays d level i))
        → InTile tile (point p) → IsEndOf c p → IsCornerOf tile p
    end_is_corner tile p h there_in e =
        let (o, ho, end) = (ends_have d level i (Some t) tubed p).1 (is_own e) in
        let (x, lx, ex) = number_of d level i o there ho in
        own_enter i x (edge_at d level x) p tile tubed.0 is_tube (listed d level x lx)
        (ap (λ (y : runs.Owned). y.curve) ex ∙ group_curve d level i o ho)
        (connects d level x lx)
        (subst (λ y. IsEnd y p) (sym (edge_is d level x lx))
        (subst (λ y. IsEnd (edge_as y) p) (sym ex) end)) h there_in
      where
        is_own : IsEndOf c p → Has p (groups.corners c (Some t))
        is_own (inl q) =
            has_left p t.inner.items t.outer.items (subst (Has p) (sym made.inner) (inl (sym q)))
        is_own (inr q) =
            has_left p t.inner.items t.outer.items
            (subst (Has p) (sym made.inner)
            (inr (subst (λ v. Has v made.after) q (to_is_inner (level i) c t made))))

    module _ (j : ℕ) (u : Option Tube) (tubed_too : IsTubed (level j) (curve d j) u) where
      pub entered : (i ≡ j → ⊥) → SomeInTube c t (groups.corners (curve d j) u)
          → EntersTube d level i j ⊎ SharesCorner d level i j
      entered n (k, lk, h) =
          let p = nth (groups.corners (curve d j) u) k in
          let ends = (ends_have d level j u tubed_too p).1
          (at_has no_point (groups.corners (curve d j) u) k lk) in
          by_tile p ends h ((held_is_in_tile (level i) c t made (point p)).0 h.there)
        where
          by_tile : (p : Point) → EndsAt d level j p → IsInTube c t p
              → (tile : Tile) × Has tile (tiles c.from (bays_at (arc c) (level i)))
              × InTile tile (point p)
              → EntersTube d level i j ⊎ SharesCorner d level i j
          by_tile p ends h (tile, has, holds) = elim (decide_corner tile p) [
            | inl q ↦ inr (record {
              half_arc = half_arc;
              p = p;
              corner = (ends_have d level i (Some t) tubed p).1
                  (corner_is_corner (level i) c t made tile p has q);
              no_end = h.no_end;
              ends = ends;
            })
            | inr q ↦ inl (record {
              half_arc = half_arc;
              p = p;
              ends = ends;
              triangle = tile;
              of_tube = has;
              holds = holds;
              no_corner = q;
            })
          ]

      found : (p : Point) → EndsAt d level j p → (IsEndOf c p → ⊥) → InTubeOf t (point p)
          → SomeInTube c t (groups.corners (curve d j) u)
      found p ends n holds =
          let (k, lk, e) = has_at p no_point (groups.corners (curve d j) u)
          ((ends_have d level j u tubed_too p).0 ends) in
          (k, lk, subst (IsInTube c t) (sym e) (record { no_end = n; there = holds }))

      pub enters : EntersTube d level i j → SomeInTube c t (groups.corners (curve d j) u)
      enters h = found h.p h.ends
          (λ e. h.no_corner (end_is_corner h.triangle h.p h.of_tube h.holds e))
          ((held_is_in_tile (level i) c t made (point h.p)).1 (h.triangle, h.of_tube, h.holds))

      pub shares : SharesCorner d level i j → SomeInTube c t (groups.corners (curve d j) u)
      shares h = found h.p h.ends h.no_end
          (corner_is_held (level i) c t made h.p (some_after (level i) c t made)
          ((ends_have d level i (Some t) tubed h.p).0 h.corner))

-- ---- straights under tubes
bay_over : (v : Point) (vs os : List Point) → length os ≡ length vs → Has v vs
    → (b : Bay) × Has b (bays vs os) × (b.inner ≡ v)
bay_over v [] os e h = absurd h
bay_over v (w ∷ vs) [] e h = absurd (omega (arith, e))
bay_over v (w ∷ vs) (o ∷ os) e (inl q) = (record { outer = o; inner = w }, inl refl, sym q)
bay_over v (w ∷ vs) (o ∷ os) e (inr h) =
    let (b, hb, q) = bay_over v vs os (omega (arith, e)) h in (b, inr hb, q)

bay_inner : (b : Bay) (vs os : List Point) → Has b (bays vs os) → Has b.inner vs
bay_inner b [] os h = absurd h
bay_inner b (v ∷ vs) [] h = absurd h
bay_inner b (v ∷ vs) (o ∷ os) (inl q) = inl (ap (λ (x : Bay). x.inner) q)
bay_inner b (v ∷ vs) (o ∷ os) (inr h) = inr (bay_inner b vs os h)

module _ (d : Plan) (level : ℕ → ℕ) (i j : ℕ) (u : Tube) (there : i < length d.curves)
    (there_too : j < length d.curves) (straight : (curve d i).kind ≡ kind.Straight)
    (tubed : IsTubed (level j) (curve d j) (Some u)) where
  abbrev e : Curve
  e = curve d j

  of_e : IsMade (arc e) (level j) u
  of_e = tubed.1

  pub under : IsUnderChord (curve d i) None e (Some u) → LiesUnderChord d level i j
  under (joins, (k, lk, h)) =
      by_bay (after
      (subst (Has (nth u.inner.items k)) of_e.inner (at_has no_point u.inner.items k lk)))
    where
      after : Has (nth u.inner.items k) (e.from ∷ of_e.after) → Has (nth u.inner.items k) of_e.after
      after (inl q) = absurd (h.no_end (inl (sym q)))
      after (inr m) = m

      by_bay : Has (nth u.inner.items k) of_e.after → LiesUnderChord d level i j
      by_bay m =
          let (b, hb, q) = bay_over (nth u.inner.items k) of_e.after u.outer.items
          (made_sizes (level j) e u of_e) m in
          record {
            straight = record { there = there; kind = straight };
            half_arc = record { there = there_too; kind = tubed.0 };
            joins = joins;
            b = b;
            of_tube = subst (Has b) (sym (made_bays (level j) e u of_e)) hb;
            no_end = λ x. h.no_end (subst (IsEndOf e) q x);
            low = subst (λ v. bow (arc e) (point v) ≤ℤ pos 0) (sym q) h.low;
          }

  pub lies : LiesUnderChord d level i j → IsUnderChord (curve d i) None e (Some u)
  lies h =
      let m = bay_inner h.b of_e.after u.outer.items
      (subst (Has h.b) (made_bays (level j) e u of_e) h.of_tube) in
      let (k, lk, q) = has_at h.b.inner no_point u.inner.items
      (subst (Has h.b.inner) (sym of_e.inner) (inr m)) in (
        h.joins,
        (
          k,
          lk,
          record {
            no_end = λ x. h.no_end (subst (IsEndOf e) q x);
            low = subst (λ v. bow (arc e) (point v) ≤ℤ pos 0) (sym q) h.low;
          },
        ),
      )

-- ---- in all
two_kinds : {P : Type 0} → kind.Straight ≡ kind.HalfArc → P
two_kinds e = cc

module _ (d : Plan) (level : ℕ → ℕ)
    (own_enter : (i e : ℕ) (a : Edge) (p : Point) (t : Tile) → (curve d i).kind ≡ kind.HalfArc
    → IsTube (arc (curve d i)) (drawn_bays d level i)
    → e < length (runs.edge_list (drawn_bays d level) 0 d.curves)
    → (owned_at d level e).curve ≡ i
    → runs.Connects a (owned_at d level e).from (owned_at d level e).to → IsEnd a p
    → Has t (tiles (curve d i).from (drawn_bays d level i)) → InTile t (point p)
    → IsCornerOf t p) where
  pub one_way : (i j : ℕ) (t u : Option Tube) → (i ≡ j → ⊥) → i < length d.curves
      → j < length d.curves → IsTubed (level i) (curve d i) t → IsTubed (level j) (curve d j) u
      → BreakOneWay (curve d i) t (curve d j) u ↔ BreaksOneWay d level i j
  one_way i j None None n li lj ht hu =
      ((λ h. elim h [ inl a ↦ absurd a | inr a ↦ absurd a ]), (λ h. by h))
    where
      by : BreaksOneWay d level i j → BreakOneWay (curve d i) None (curve d j) None
      by (inl h) = two_kinds (sym ht ∙ h.half_arc.kind)
      by (inr (inl h)) = two_kinds (sym ht ∙ h.half_arc.kind)
      by (inr (inr h)) = two_kinds (sym hu ∙ h.half_arc.kind)
  one_way i j None (Some u) n li lj ht hu = (
    (λ h. elim h [ inl a ↦ absurd a | inr a ↦ inr (inr (under d level i j u li lj ht hu a)) ]),
    (λ h. by h),
  )
    where
      by : BreaksOneWay d level i j → BreakOneWay (curve d i) None (curve d j) (Some u)
      by (inl h) = two_kinds (sym ht ∙ h.half_arc.kind)
      by (inr (inl h)) = two_kinds (sym ht ∙ h.half_arc.kind)
      by (inr (inr h)) = inr (lies d level i j u li lj ht hu h)
  one_way i j (Some t) u n li lj ht hu = ((λ h. by_test h), (λ h. by h))
    where
      by_test : BreakOneWay (curve d i) (Some t) (curve d j) u → BreaksOneWay d level i j
      by_test (inl a) =
          elim (entered d level own_enter i t li ht j u hu n a) [
            | inl x ↦ inl x
            | inr x ↦ inr (inl x)
          ]
      by_test (inr a) = absurd a

      by : BreaksOneWay d level i j → BreakOneWay (curve d i) (Some t) (curve d j) u
      by (inl h) = inl (enters d level own_enter i t li ht j u hu h)
      by (inr (inl h)) = inl (shares d level own_enter i t li ht j u hu h)
      by (inr (inr h)) = two_kinds (sym h.straight.kind ∙ ht.0)

  has_group : (i : ℕ) (t : Option Tube) → i < length d.curves → IsTubed (level i) (curve d i) t
      → HasGroup d level i
  has_group i t l h = record { there = l; tube = λ a. by t h a.kind }
    where
      by : (t : Option Tube) → IsTubed (level i) (curve d i) t → (curve d i).kind ≡ kind.HalfArc
          → HasTube (arc (curve d i)) (level i)
      by None s e = two_kinds (sym s ∙ e)
      by (Some t) s e = (s.1.after, t.outer.items, s.1.tube)

  pub broken_is : (i j : ℕ) (t u : Option Tube) → (i ≡ j → ⊥) → i < length d.curves
      → j < length d.curves → IsTubed (level i) (curve d i) t → IsTubed (level j) (curve d j) u
      → AreBroken (curve d i) t (curve d j) u ↔ Breaks d level i j
  broken_is i j t u n li lj ht hu = ((λ h. by_test h), (λ h. by h))
    where
      by_test : AreBroken (curve d i) t (curve d j) u → Breaks d level i j
      by_test (inl a) =
          edges n (has_group i t li ht) (has_group j u lj hu) ((meet_is d level i j t u ht hu).0 a)
      by_test (inr (inl a)) =
          corners n (has_group i t li ht) (has_group j u lj hu)
          (inl ((one_way i j t u n li lj ht hu).0 a))
      by_test (inr (inr a)) =
          corners n (has_group i t li ht) (has_group j u lj hu)
          (inr ((one_way j i u t (λ e. n (sym e)) lj li hu ht).0 a))

      by : Breaks d level i j → AreBroken (curve d i) t (curve d j) u
      by (missing e h k) = absurd (n e)
      by (edges m g h a) = inl ((meet_is d level i j t u ht hu).1 a)
      by (corners m g h (inl a)) = inr (inl ((one_way i j t u n li lj ht hu).1 a))
      by (corners m g h (inr a)) = inr (inr ((one_way j i u t (λ e. n (sym e)) lj li hu ht).1 a))

-- ---- the tubes of a drawing's curves
pub tubed_of : (level : ℕ) (c : Curve) (t : Option Tube) → IsTubeFor c level t → HasEdges c t
    → IsTubed level c t
tubed_of level c None h e = e
tubed_of level c (Some t) h e = by c.kind refl
  where
    by : (k : CurveKind) → c.kind ≡ k → IsTubed level c (Some t)
    by kind.HalfArc q = (q, h.0 q)
    by kind.Straight q = none (h.1 q)
      where
        none : {P : Type 0} → Some t ≡ None → P
        none e = cc

pub group_has_edges : (d : Plan) (level : ℕ → ℕ) (i : ℕ) (t : Option Tube) → IsTubeFor (curve d i) (level i) t
    → HasGroup d level i → HasEdges (curve d i) t
group_has_edges d level i (Some t) h g = tt
group_has_edges d level i None h g = by (curve d i).kind refl
  where
    by : (k : CurveKind) → (curve d i).kind ≡ k → (curve d i).kind ≡ kind.Straight
    by kind.Straight q = q
    by kind.HalfArc q =
        let (vs, os, m) = g.tube (record { there = g.there; kind = q }) in absurd (h.0 q vs os m)

pub groups_of : (d : Plan) (level : ℕ → ℕ) (i j : ℕ) → (i ≡ j → ⊥) → Breaks d level i j
    → HasGroup d level i × HasGroup d level j
groups_of d level i j n (missing e h k) = absurd (n e)
groups_of d level i j n (edges m g h a) = (g, h)
groups_of d level i j n (corners m g h a) = (g, h)
