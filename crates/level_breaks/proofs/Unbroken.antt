-- A level settles a drawing exactly where no two curves break it.
use Rattle.std.proofs.Common.{◌≡◌, ◌⊎◌, inl, inr, ℕ, ◌<◌, ◌≤◌, length, refl, arith, ap, sym, ◌∙◌}
use Rattle.std.proofs.Common.{subst, pos, ◌<ℤ◌, ◌≤ℤ◌}
use Rattle.std.proofs.lemmas.Int.{ints, by_lt_z}
use Rattle.plane.specs.CurveRuns.TubedRuns as runs
use Rattle.plane.specs.Forms.Meets.{Bad, Disjoint, IsEnd, Touch}
use Rattle.plane.specs.Forms.Vectors.{point}
use Rattle.plane.specs.Lists.{Has}
use Rattle.plane.specs.Rule.BadPairs.{HaveSameEnds, IsEndOf}
use Rattle.plane.specs.Rule.Curves.{arc}
use Rattle.plane.specs.Rule.HalfArcs.{bow}
use Rattle.plane.specs.Rule.Plans.{IsHalfArc, Plan, curve}
use Rattle.plane.specs.Tubes.Bays.{Bay, IsTube}
use Rattle.plane.specs.Tubes.Windings.{InTile, IsCornerOf, Tile, tiles}
use Rattle.plane.specs.declared.kinds.CurveKind.{CurveKind}
use Rattle.plane.specs.declared.kinds.CurveKind.TheVariants as kind
use Rattle.plane.specs.declared.kinds.Edge.{Edge}
use Rattle.plane.specs.declared.kinds.Point.{Point}
use Rattle.plane.proofs.Windings.Enters.{Decided, decide_point}
use Rattle.straight_predicates.proofs.Orders.{by_lt}
use Rattle.tubes.specs.DrawnEdges.{edge_from}
use Rattle.tubes.specs.HalfArcTubes.{HasNoTube}
use Rattle.tubes.specs.Settled.{Breaks, BreaksOneWay, EndsAt, EntersTube, HasGroup, HaveTubes}
use Rattle.tubes.specs.Settled.{IsOwnCorner, IsSettledAt, LiesUnderChord, SharesCorner, corners}
use Rattle.tubes.specs.Settled.{edge_at, edges, edges_at, group, missing, owned_at}
use Rattle.tubes.specs.TubedEdges.{HasTube, drawn_bays, edge_as}
use Rattle.level_breaks.proofs.AnyEdges.{bad_back}
use Rattle.level_breaks.proofs.NumberedEdges.{IsOf, arc_part, connects, edge_is, group_curve}
use Rattle.level_breaks.proofs.NumberedEdges.{listed, number_of, one_edge, owner_of, tube_kind}

-- ---- the other way round
other_way : {A B : Type 0} → A ⊎ B → B ⊎ A
other_way (inl a) = inr a
other_way (inr b) = inl b

pub breaks_back : (d : Plan) (level : ℕ → ℕ) (i j : ℕ) → Breaks d level i j → Breaks d level j i
breaks_back d level i j (missing e h n) =
    missing (sym e) (subst (IsHalfArc d) e h)
    (subst (λ (k : ℕ). HasNoTube (arc (curve d k)) (level k)) e n)
breaks_back d level i j (edges n g h (o, u, a, b, bad)) =
    edges (λ e. n (sym e)) h g (u, o, b, a, bad_back (edge_as o) (edge_as u) bad)
breaks_back d level i j (corners n g h w) = corners (λ e. n (sym e)) h g (other_way w)

-- ---- decisions
pub decide_corner : (t : Tile) (p : Point) → Decided (IsCornerOf t p)
decide_corner t p = elim (decide_point p t.a) [
  | inl a ↦ inl (inl a)
  | inr na ↦ elim (decide_point p t.b) [
    | inl b ↦ inl (inr (inl b))
    | inr nb ↦ elim (decide_point p t.c) [
      | inl c ↦ inl (inr (inr c))
      | inr nc ↦ inr (λ i. elim i [ inl a ↦ na a | inr r ↦ elim r [ inl b ↦ nb b | inr c ↦ nc c ] ])
    ]
  ]
]

pub decide_number : (i j : ℕ) → Decided (i ≡ j)
decide_number i j =
    by_lt i j (λ (l : i < j). inr (λ e. omega (arith, l, e)))
    (λ (l : j ≤ i). by_lt j i (λ (k : j < i). inr (λ e. omega (arith, k, e)))
    (λ (k : i ≤ j). inl (omega (arith, l, k))))

-- ---- settled is unbroken
module _ (d : Plan) (level : ℕ → ℕ) (s : IsSettledAt d level)
    (apart : (a b : Edge) → Bad a b → Disjoint a b → ⊥) (touch : (a b : Edge) → Bad a b → Touch a b
    → ⊥) where
  not_bad : (a b : Edge) → Disjoint a b ⊎ Touch a b → Bad a b → ⊥
  not_bad a b (inl h) k = apart a b k h
  not_bad a b (inr h) k = touch a b k h

  -- an end of an edge of the curve is an end of the edge of a number
  ends_by_number : (i : ℕ) (p : Point) → i < length d.curves → EndsAt d level i p
      → (e : ℕ) × (e < length (edges_at d level)) × IsEnd (edge_at d level e) p
      × Has (owned_at d level e) (group d level i)
  ends_by_number i p l (o, h, end) =
      let (e, m, q) = number_of d level i o l h in (
        e,
        m,
        subst (λ a. IsEnd a p) (sym (edge_is d level e m))
            (subst (λ x. IsEnd (edge_as x) p) (sym q) end),
        subst (λ x. Has x (group d level i)) (sym q) h,
      )

  no_entry : (i j : ℕ) → j < length d.curves → EntersTube d level i j → ⊥
  no_entry i j l h =
      let (e, m, end, has) = ends_by_number j h.p l h.ends in
      h.no_corner (s.triangles.enter e m h.p end i h.half_arc.there h.half_arc.kind h.triangle
      h.of_tube h.holds)

  no_share : (i j : ℕ) → (i ≡ j → ⊥) → j < length d.curves → SharesCorner d level i j → ⊥
  no_share i j n l h =
      let (e, le, end, has) = ends_by_number i h.p h.half_arc.there h.corner in
      let (f, lf, endf, hasf) = ends_by_number j h.p l h.ends in
      let ci = group_curve d level i (owned_at d level e) has in
      let cj = group_curve d level j (owned_at d level f) hasf in
      by_corner ci cj
      (s.corners h.p e f le lf (arc_part d level i (owned_at d level e) h.half_arc.kind has) end
      endf)
    where
      by_corner : {x y : ℕ} → x ≡ i → y ≡ j
          → (h.p ≡ (curve d x).from) ⊎ ((h.p ≡ (curve d x).to) ⊎ (y ≡ x)) → ⊥
      by_corner ci cj (inl a) = h.no_end (inl (sym (a ∙ ap (λ (k : ℕ). (curve d k).from) ci)))
      by_corner ci cj (inr (inl a)) = h.no_end (inr (sym (a ∙ ap (λ (k : ℕ). (curve d k).to) ci)))
      by_corner ci cj (inr (inr a)) = n (sym ci ∙ sym a ∙ cj)

  no_chord : (i j : ℕ) → LiesUnderChord d level i j → ⊥
  no_chord i j h =
      elim (s.triangles.chord i j h.straight.there h.half_arc.there h.straight.kind h.half_arc.kind
      h.joins h.b h.of_tube) [
        | inl e ↦ h.no_end e
        | inr p ↦ (let l = h.low in omega (arith, ints, p, l))
      ]

  no_way : (i j : ℕ) → (i ≡ j → ⊥) → j < length d.curves → BreaksOneWay d level i j → ⊥
  no_way i j n l (inl h) = no_entry i j l h
  no_way i j n l (inr (inl h)) = no_share i j n l h
  no_way i j n l (inr (inr h)) = no_chord i j h

  pub unbroken : (i j : ℕ) → Breaks d level i j → ⊥
  unbroken i j (missing e h n) = by_tube (s.tubes i h)
    where
      by_tube : HasTube (arc (curve d i)) (level i) → ⊥
      by_tube (vs, os, t) = n vs os t
  unbroken i j (edges n g h (o, u, a, b, bad)) =
      let (e, le, qe) = number_of d level i o g.there a in
      let (f, lf, qf) = number_of d level j u h.there b in
      let ci = group_curve d level i o a in
      let cj = group_curve d level j u b in
      let ae = edge_is d level e le ∙ ap edge_as qe in
      let af = edge_is d level f lf ∙ ap edge_as qf in
      not_bad (edge_as o) (edge_as u)
      (subst (λ x. Disjoint x (edge_as u) ⊎ Touch x (edge_as u)) ae
      (subst (λ x. Disjoint (edge_at d level e) x ⊎ Touch (edge_at d level e) x) af
      (s.meet e f le lf
      (λ x. n (sym ci ∙ ap (λ (y : runs.Owned). y.curve) (sym qe ∙ ap (owned_at d level) x ∙ qf)
      ∙ cj))))) bad
  unbroken i j (corners n g h (inl w)) = no_way i j n h.there w
  unbroken i j (corners n g h (inr w)) = no_way j i (λ e. n (sym e)) g.there w

-- ---- unbroken is settled
module _ (d : Plan) (level : ℕ → ℕ) (tubes : HaveTubes d level) (none : (i j : ℕ) → i < j
    → Breaks d level i j → ⊥)
    (any_meet : (p q r s : Point)
    → (Disjoint (edge_from p q) (edge_from r s) ⊎ Touch (edge_from p q) (edge_from r s))
    ⊎ Bad (edge_from p q) (edge_from r s))
    (own_meet : (i e f : ℕ) (a b : Edge) → (curve d i).kind ≡ kind.HalfArc
    → IsTube (arc (curve d i)) (drawn_bays d level i)
    → e < length (runs.edge_list (drawn_bays d level) 0 d.curves)
    → f < length (runs.edge_list (drawn_bays d level) 0 d.curves)
    → (owned_at d level e).curve ≡ i → (owned_at d level f).curve ≡ i → (e ≡ f → ⊥)
    → runs.Connects a (owned_at d level e).from (owned_at d level e).to
    → runs.Connects b (owned_at d level f).from (owned_at d level f).to → Disjoint a b ⊎ Touch a b)
    (own_enter : (i e : ℕ) (a : Edge) (p : Point) (t : Tile) → (curve d i).kind ≡ kind.HalfArc
    → IsTube (arc (curve d i)) (drawn_bays d level i)
    → e < length (runs.edge_list (drawn_bays d level) 0 d.curves)
    → (owned_at d level e).curve ≡ i
    → runs.Connects a (owned_at d level e).from (owned_at d level e).to → IsEnd a p
    → Has t (tiles (curve d i).from (drawn_bays d level i)) → InTile t (point p)
    → IsCornerOf t p)
    (tube_is : (i : ℕ) → HasTube (arc (curve d i)) (level i)
    → IsTube (arc (curve d i)) (drawn_bays d level i)) where
  no_pair : (i j : ℕ) → (i ≡ j → ⊥) → Breaks d level i j → ⊥
  no_pair i j n h =
      by_lt i j (λ (l : i < j). none i j l h)
      (λ (l : j ≤ i). by_lt j i (λ (k : j < i). none j i k (breaks_back d level i j h))
      (λ (k : i ≤ j). n (omega (arith, l, k))))

  has_group : (i : ℕ) → i < length d.curves → HasGroup d level i
  has_group i l = record { there = l; tube = tubes i }

  abbrev curve_no : ℕ → ℕ
  curve_no e = (owned_at d level e).curve

  meets : (e f : ℕ) → e < length (edges_at d level) → f < length (edges_at d level) → (e ≡ f → ⊥)
      → Disjoint (edge_at d level e) (edge_at d level f)
      ⊎ Touch (edge_at d level e) (edge_at d level f)
  meets e f le lf n =
      elim (decide_number (curve_no e) (curve_no f))
      [ inl q ↦ one_curve q (curve d (curve_no e)).kind refl | inr m ↦ two_curves m ]
    where
      a : IsOf d level e (curve_no e)
      a = owner_of d level e le

      b : IsOf d level f (curve_no f)
      b = owner_of d level f lf

      one_curve : curve_no e ≡ curve_no f → (k : CurveKind) → (curve d (curve_no e)).kind ≡ k
          → Disjoint (edge_at d level e) (edge_at d level f)
          ⊎ Touch (edge_at d level e) (edge_at d level f)
      one_curve q kind.Straight s =
          absurd (n (one_edge d level e f (curve_no e) s a (subst (IsOf d level f) (sym q) b)))
      one_curve q kind.HalfArc s =
          own_meet (curve_no e) e f (edge_at d level e) (edge_at d level f) s
          (tube_is (curve_no e) (tubes (curve_no e) (record { there = a.there; kind = s })))
          (listed d level e le) (listed d level f lf) refl (sym q) n (connects d level e le)
          (connects d level f lf)

      two_curves : (curve_no e ≡ curve_no f → ⊥)
          → Disjoint (edge_at d level e) (edge_at d level f)
          ⊎ Touch (edge_at d level e) (edge_at d level f)
      two_curves m =
          elim (any_meet (owned_at d level e).from (owned_at d level e).to (owned_at d level f).from
          (owned_at d level f).to) [
            | inl h ↦ subst (λ x. Disjoint x (edge_at d level f) ⊎ Touch x (edge_at d level f))
                (sym (edge_is d level e le))
                (subst (λ y. Disjoint (edge_as (owned_at d level e)) y
                ⊎ Touch (edge_as (owned_at d level e)) y) (sym (edge_is d level f lf)) h)
            | inr h ↦ absurd
                (no_pair (curve_no e) (curve_no f) m
                (edges m (has_group (curve_no e) a.there) (has_group (curve_no f) b.there)
                (owned_at d level e, owned_at d level f, a.has, b.has, h)))
          ]

  ends_at : (e : ℕ) (p : Point) → e < length (edges_at d level) → IsEnd (edge_at d level e) p
      → EndsAt d level (curve_no e) p
  ends_at e p l h = (
    owned_at d level e,
    (owner_of d level e l).has,
    subst (λ x. IsEnd x p) (edge_is d level e l) h,
  )

  own_corner : (p : Point) → IsOwnCorner d level p
  own_corner p e f le lf t he hf = elim (decide_point p (curve d (curve_no e)).from) [
    | inl q ↦ inl q
    | inr na ↦ elim (decide_point p (curve d (curve_no e)).to) [
      | inl q ↦ inr (inl q)
      | inr nb ↦ elim (decide_number (curve_no f) (curve_no e)) [
        | inl q ↦ inr (inr q)
        | inr m ↦ absurd
            (no_pair (curve_no e) (curve_no f) (λ q. m (sym q))
            (corners (λ q. m (sym q)) (has_group (curve_no e) (owner_of d level e le).there)
            (has_group (curve_no f) (owner_of d level f lf).there)
            (inl (inr (inl (record {
              half_arc = record {
                there = (owner_of d level e le).there;
                kind = tube_kind d level (curve_no e) (owned_at d level e) t
                    (owner_of d level e le).has;
              };
              p = p;
              corner = ends_at e p le he;
              no_end = λ i. elim i [ inl q ↦ na (sym q) | inr q ↦ nb (sym q) ];
              ends = ends_at f p lf hf;
            }))))))
      ]
    ]
  ]

  enters : (e : ℕ) → e < length (edges_at d level) → (p : Point) → IsEnd (edge_at d level e) p
      → (i : ℕ) → i < length d.curves → (curve d i).kind ≡ kind.HalfArc → (t : Tile)
      → Has t (tiles (curve d i).from (drawn_bays d level i)) → InTile t (point p) → IsCornerOf t p
  enters e le p end i li s t has there = elim (decide_corner t p) [
    | inl c ↦ c
    | inr nc ↦ elim (decide_number (curve_no e) i) [
      | inl q ↦ own_enter i e (edge_at d level e) p t s
          (tube_is i (tubes i (record { there = li; kind = s }))) (listed d level e le) q
          (connects d level e le) end has there
      | inr m ↦ absurd
          (no_pair i (curve_no e) (λ q. m (sym q))
          (corners (λ q. m (sym q)) (has_group i li)
          (has_group (curve_no e) (owner_of d level e le).there)
          (inl (inl (record {
            half_arc = record { there = li; kind = s };
            p = p;
            ends = ends_at e p le end;
            triangle = t;
            of_tube = has;
            holds = there;
            no_corner = nc;
          })))))
    ]
  ]

  decide_end : (j : ℕ) (p : Point) → Decided (IsEndOf (curve d j) p)
  decide_end j p = elim (decide_point (curve d j).from p) [
    | inl a ↦ inl (inl a)
    | inr na ↦ elim (decide_point (curve d j).to p) [
      | inl b ↦ inl (inr b)
      | inr nb ↦ inr (λ i. elim i [ inl a ↦ na a | inr b ↦ nb b ])
    ]
  ]

  two_kinds : kind.Straight ≡ kind.HalfArc → ⊥
  two_kinds e = cc

  chord : (i j : ℕ) → i < length d.curves → j < length d.curves → (curve d i).kind ≡ kind.Straight
      → (curve d j).kind ≡ kind.HalfArc → HaveSameEnds (curve d i) (curve d j) → (b : Bay)
      → Has b (drawn_bays d level j)
      → IsEndOf (curve d j) b.inner ⊎ (pos 0 <ℤ bow (arc (curve d j)) (point b.inner))
  chord i j li lj s k e b has = elim (decide_end j b.inner) [
    | inl a ↦ inl a
    | inr na ↦ by_lt_z (pos 0) (bow (arc (curve d j)) (point b.inner))
        (λ (l : pos 0 <ℤ bow (arc (curve d j)) (point b.inner)). inr l)
        (λ (l : bow (arc (curve d j)) (point b.inner) ≤ℤ pos 0). absurd
        (no_pair i j differ (corners differ (has_group i li) (has_group j lj)
        (inl (inr (inr (record {
          straight = record { there = li; kind = s };
          half_arc = record { there = lj; kind = k };
          joins = e;
          b = b;
          of_tube = has;
          no_end = na;
          low = l;
        })))))))
  ]
    where
      differ : i ≡ j → ⊥
      differ q = two_kinds (sym s ∙ ap (λ (n : ℕ). (curve d n).kind) q ∙ k)

  pub settled : IsSettledAt d level
  settled = record {
    tubes = tubes;
    meet = meets;
    corners = own_corner;
    triangles = record { enter = enters; chord = chord };
  }
