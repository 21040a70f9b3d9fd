-- Corners of tubes at events: which tubes have them, and the first that another curve shares.
use Rattle.std.proofs.Common.{◌≡◌, ◌↔◌, ◌⊎◌, inl, inr, ℕ, zero, suc, ◌+◌, ◌<◌, ◌≤◌, Bool, true}
use Rattle.std.proofs.Common.{false, ◌&&◌, IsTrue, Some, None, List, [], ◌∷◌, map, length, get_or}
use Rattle.std.proofs.Common.{slice_index_or, arith, ap, refl, sym, ◌∙◌, subst}
use Rattle.std.proofs.lemmas.Bool.{cases_eq}
use Rattle.std.specs.Bool.{Decides}
use Rattle.std.specs.Ordering.{int_eq}
use Rattle.plane.specs.CurveRuns.TubedRuns as runs
use Rattle.plane.specs.Forms.Meets.{IsEnd}
use Rattle.plane.specs.Forms.Vectors.{Before}
use Rattle.plane.specs.Lists.{Neighbours}
use Rattle.plane.specs.Rule.BadPairs.{IsEndOf}
use Rattle.plane.specs.Rule.Plans.{Plan, curve}
use Rattle.plane.specs.Runs.Timetables.{IsTimetable, Timed, no_event}
use Rattle.plane.specs.declared.kinds.Curve.{Curve}
use Rattle.plane.specs.declared.kinds.Edge.{Edge}
use Rattle.plane.specs.declared.kinds.Point.{Point}
use Rattle.plane.proofs.ListLemmas.Lists.{has_map}
use Rattle.plane.proofs.ListLemmas.Points.{decides_equal}
use Rattle.plane.proofs.ListLemmas.SortedLists.{first_before, has_at}
use Rattle.plane.proofs.MoveLemmas.MadeSteps.{never}
use Rattle.plane.proofs.MoveLemmas.OneTimetable.{before_trans}
use Rattle.straight_predicates.proofs.Orders.{by_lt}
use Rattle.straight_predicates.specs.EdgeEvents.{AreEventsOf, event_of}
use Rattle.straight_predicates.specs.EdgeLists.{edge_of}
use Rattle.tubes.specs.DrawnEdges.{AreAllStraight}
use Rattle.tubes.specs.Corners.{AreSet, AreTubesByEvent, HasCornerAt, IsCornerAt, IsCornerOf}
use Rattle.tubes.specs.Corners.{IsLeastShared, IsShared}
use Rattle.tubes.specs.Facings.{owner_at}
use Rattle.tubes.specs.Settled.{IsFirstForeign, IsOwnCorner, edges_at, owned_at}
use Rattle.tubes.specs.TubedEdges.{IsTubedList, part_of}
use Rattle.tubes.specs.declared.kinds.EdgeList.{EdgeList}
use Rattle.tubes.specs.declared.kinds.Owner.{Owner}
use Rattle.tubes.proofs.FacingSides.{curve_read, owner_is, owner_read}
use Rattle.tubes.proofs.LevelEdges.{of_half_arc}

-- ---- ends of curves
pub ends_told : (c : Curve) (p : Point) (a b : Bool)
    → a ≡ (int_eq c.from.x p.x && int_eq c.from.y p.y) → a ≡ false
    → b ≡ (int_eq c.to.x p.x && int_eq c.to.y p.y) → IsTrue b ↔ IsEndOf c p
ends_told c p a b e n f =
    let from = decides_equal c.from p a e in
    let to = decides_equal c.to p b f in (
      (λ h. inr (to.0 h)),
      (λ h. elim h [ inl q ↦ (let t = sym n ∙ from.1 q in cc) | inr q ↦ to.1 q ]),
    )

decide_point : (p q : Point) → (p ≡ q) ⊎ (p ≡ q → ⊥)
decide_point p q = by_bool (int_eq p.x q.x && int_eq p.y q.y) (decides_equal p q _ refl)
  where
    by_bool : (b : Bool) → Decides b (p ≡ q) → (p ≡ q) ⊎ (p ≡ q → ⊥)
    by_bool true h = inl (h.0 refl)
    by_bool false h = inr (λ e. let t = h.1 e in cc)

decide_end : (c : Curve) (p : Point) → IsEndOf c p ⊎ (IsEndOf c p → ⊥)
decide_end c p = by_points (decide_point c.from p) (decide_point c.to p)
  where
    by_points : (c.from ≡ p) ⊎ (c.from ≡ p → ⊥) → (c.to ≡ p) ⊎ (c.to ≡ p → ⊥)
        → IsEndOf c p ⊎ (IsEndOf c p → ⊥)
    by_points (inl a) k = inl (inl a)
    by_points (inr a) (inl b) = inl (inr b)
    by_points (inr a) (inr b) = inr (λ h. elim h [ inl e ↦ a e | inr e ↦ b e ])

-- ---- the tubes by event, edge by edge
module _ (d : Plan) (list : EdgeList) (low high : List ℕ) (events : ℕ) where
  pub tubes_more : (e : ℕ) (old new : List ℕ) → AreTubesByEvent d list low high events e old
      → AreSet (suc (owner_at list.owners.items e).curve) (IsCornerOf d list low high e) old new
      → AreTubesByEvent d list low high events (e + 1) new
  tubes_more e old new h s = record {
    size = s.size ∙ h.size;
    some = λ x k l g. by_lt x e
        (λ (b : x < e). earlier x k b g (s.each k))
        (λ (b : e ≤ x). here k
        (subst (λ (y : ℕ). IsCornerOf d list low high y k) (omega (arith, l, b)) g) (s.each k));
    of = λ k c q. whose k c q (s.each k);
  }
    where
      earlier : (x k : ℕ) → x < e → IsCornerOf d list low high x k
          → (IsCornerOf d list low high e k
          × (slice_index_or new k 0 ≡ suc (owner_at list.owners.items e).curve))
          ⊎ ((IsCornerOf d list low high e k → ⊥)
          × (slice_index_or new k 0 ≡ slice_index_or old k 0))
          → 0 < slice_index_or new k 0
      earlier x k l g (inl a) = let q = a.1 in omega (arith, q)
      earlier x k l g (inr a) = let q = a.1 in let o = h.some x k l g in omega (arith, q, o)

      here : (k : ℕ) → IsCornerOf d list low high e k
          → (IsCornerOf d list low high e k
          × (slice_index_or new k 0 ≡ suc (owner_at list.owners.items e).curve))
          ⊎ ((IsCornerOf d list low high e k → ⊥)
          × (slice_index_or new k 0 ≡ slice_index_or old k 0))
          → 0 < slice_index_or new k 0
      here k g (inl a) = let q = a.1 in omega (arith, q)
      here k g (inr a) = absurd (a.0 g)

      whose : (k c : ℕ) → slice_index_or new k 0 ≡ suc c
          → (IsCornerOf d list low high e k
          × (slice_index_or new k 0 ≡ suc (owner_at list.owners.items e).curve))
          ⊎ ((IsCornerOf d list low high e k → ⊥)
          × (slice_index_or new k 0 ≡ slice_index_or old k 0))
          → (x : ℕ) × (x < e + 1) × IsCornerOf d list low high x k
          × ((owner_at list.owners.items x).curve ≡ c)
      whose k c q (inl a) = let r = a.1 in (e, omega arith, a.0, omega (arith, q, r))
      whose k c q (inr a) = let (x, l, g, o) = h.of k c (sym a.1 ∙ q) in (x, omega (arith, l), g, o)

-- ---- no two events lie at one point
rising : (table : List Timed) (j k : ℕ) → Neighbours Before (map (λ (t : Timed). t.at) table)
    → j < k → k < length table → Before (event_of table j).at (event_of table k).at
rising [] j k h a b = absurd (omega (arith, b))
rising (t ∷ ts) j zero h a b = absurd (omega (arith, a))
rising (t ∷ ts) zero (suc k) h a b =
    first_before Before (λ p. Unit {0}) (λ p u n. never p n)
    (λ p q r u v w l m. before_trans p q r l m) t.at (event_of ts k).at
    (map (λ (t : Timed). t.at) ts) (λ p i. tt) h
    (has_map (λ (t : Timed). t.at) (event_of ts k) ts (has_at ts k no_event (omega (arith, b))))
rising (t ∷ ts) (suc j) (suc k) h a b = rising ts j k h.1 (omega (arith, a)) (omega (arith, b))

events_apart : (table : List Timed) (j k : ℕ) → Neighbours Before (map (λ (t : Timed). t.at) table)
    → j < length table → k < length table → (event_of table j).at ≡ (event_of table k).at → j ≡ k
events_apart table j k h a b e =
    by_lt j k (λ (l : j < k). absurd
    (never _ (subst (λ p. Before p (event_of table k).at) e (rising table j k h l b))))
    (λ (l : k ≤ j). by_lt k j
    (λ (m : k < j). absurd
    (never _ (subst (λ p. Before (event_of table k).at p) e (rising table k j h m a))))
    (λ (m : j ≤ k). omega (arith, l, m)))

-- ---- corners of tubes that are their own
corner_from : (p : runs.Part) (c : Curve) (x : Edge) (low high k : ℕ) → runs.IsOfTube p
    → IsCornerAt c x.low low k ⊎ IsCornerAt c x.high high k → HasCornerAt (part_of p) c x low high k
corner_from runs.whole c x low high k t h = absurd t
corner_from runs.inner c x low high k t h = h
corner_from runs.outer c x low high k t h = h

corner_to : (p : runs.Part) (c : Curve) (x : Edge) (low high k : ℕ)
    → HasCornerAt (part_of p) c x low high k
    → runs.IsOfTube p × (IsCornerAt c x.low low k ⊎ IsCornerAt c x.high high k)
corner_to runs.whole c x low high k h = absurd h
corner_to runs.inner c x low high k h = (tt, h)
corner_to runs.outer c x low high k h = (tt, h)

module _ (d : Plan) (level : ℕ → ℕ) (list : EdgeList) (t : IsTubedList d level list)
    (table : List Timed)
    (timed : IsTimetable (length list.edges.items) (edge_of list.edges.items) table)
    (low high : List ℕ) (of : AreEventsOf list.edges.items table low high) where
  within : (e : ℕ) → e < length (edges_at d level) → e < length list.edges.items
  within e l = subst (λ (es : List Edge). e < length es) (sym t.edges) l

  abbrev low_at : ℕ → ℕ
  low_at e = slice_index_or low e 0

  abbrev high_at : ℕ → ℕ
  high_at e = slice_index_or high e 0

  abbrev at : ℕ → Point
  at k = (event_of table k).at

  event_is : (e k : ℕ) → e < length list.edges.items → k < length table
      → IsEnd (edge_of list.edges.items e) (at k) → (k ≡ low_at e) ⊎ (k ≡ high_at e)
  event_is e k l b (inl q) =
      inl (sym (events_apart table (low_at e) k timed.events.rises (of.low_within e l) b
      (of.low_at e l ∙ q)))
  event_is e k l b (inr q) =
      inr (sym (events_apart table (high_at e) k timed.events.rises (of.high_within e l) b
      (of.high_at e l ∙ q)))

  end_is : (e k : ℕ) → e < length list.edges.items → (k ≡ low_at e) ⊎ (k ≡ high_at e)
      → IsEnd (edge_of list.edges.items e) (at k)
  end_is e k l (inl q) = inl (sym (of.low_at e l) ∙ ap at (sym q))
  end_is e k l (inr q) = inr (sym (of.high_at e l) ∙ ap at (sym q))

  -- ---- an edge of a tube with an end at an event, in both words
  corner_of : (e k : ℕ) → e < length list.edges.items → k < length table
      → runs.IsOfTube (owned_at d level e).part → IsEnd (edge_of list.edges.items e) (at k)
      → (IsEndOf (curve d (owned_at d level e).curve) (at k) → ⊥)
      → IsCornerOf d list low high e k
  corner_of e k l b u h n =
      subst (λ (o : Owner). HasCornerAt o.part (curve d o.curve) (edge_of list.edges.items e)
      (low_at e) (high_at e) k) (sym (owner_is d level list t e l))
      (corner_from (owned_at d level e).part (curve d (owned_at d level e).curve)
      (edge_of list.edges.items e) (low_at e) (high_at e) k u (by_event (event_is e k l b h)))
    where
      by_event : (k ≡ low_at e) ⊎ (k ≡ high_at e)
          → IsCornerAt (curve d (owned_at d level e).curve) (edge_of list.edges.items e).low
          (low_at e) k ⊎ IsCornerAt (curve d (owned_at d level e).curve)
          (edge_of list.edges.items e).high (high_at e) k
      by_event (inl q) =
          inl (
            q,
            (λ m. n
                (subst (IsEndOf (curve d (owned_at d level e).curve)) (sym (of.low_at e l)
                ∙ ap at (sym q)) m)),
          )
      by_event (inr q) =
          inr (
            q,
            (λ m. n
                (subst (IsEndOf (curve d (owned_at d level e).curve)) (sym (of.high_at e l)
                ∙ ap at (sym q)) m)),
          )

  record IsCorner (e k : ℕ) : Type 0 where
    pub tube : runs.IsOfTube (owned_at d level e).part
    pub end : IsEnd (edge_of list.edges.items e) (at k)
    pub no_end : IsEndOf (curve d (owned_at d level e).curve) (at k) → ⊥

  corner_is : (e k : ℕ) → e < length list.edges.items → IsCornerOf d list low high e k
      → IsCorner e k
  corner_is e k l h =
      let r = corner_to (owned_at d level e).part (curve d (owned_at d level e).curve)
      (edge_of list.edges.items e) (low_at e) (high_at e) k
      (subst (λ (o : Owner). HasCornerAt o.part (curve d o.curve) (edge_of list.edges.items e)
      (low_at e) (high_at e) k) (owner_is d level list t e l) h) in
      by_end r.0 r.1
    where
      by_end : runs.IsOfTube (owned_at d level e).part
          → IsCornerAt (curve d (owned_at d level e).curve) (edge_of list.edges.items e).low
          (low_at e) k ⊎ IsCornerAt (curve d (owned_at d level e).curve)
          (edge_of list.edges.items e).high (high_at e) k
          → IsCorner e k
      by_end u (inl q) = record {
        tube = u;
        end = end_is e k l (inl q.0);
        no_end = λ m. q.1
            (subst (IsEndOf (curve d (owned_at d level e).curve)) (ap at q.0 ∙ of.low_at e l) m);
      }
      by_end u (inr q) = record {
        tube = u;
        end = end_is e k l (inr q.0);
        no_end = λ m. q.1
            (subst (IsEndOf (curve d (owned_at d level e).curve)) (ap at q.0 ∙ of.high_at e l) m);
      }

  module _ (tubes : List ℕ)
      (by : AreTubesByEvent d list low high (length table) (length list.edges.items) tubes) where
    -- at an event that no edge shares, all edges are of the tube
    same_curve : (e k c : ℕ) → e < length list.edges.items → slice_index_or tubes k 0 ≡ suc c
        → (k ≡ low_at e) ⊎ (k ≡ high_at e) → (IsShared list.owners.items tubes low high e k → ⊥)
        → (owned_at d level e).curve ≡ c
    same_curve e k c l q ends n = elim (cases_eq (owner_at list.owners.items e).curve c) [
      | inl h ↦ sym (ap (λ (o : Owner). o.curve) (owner_is d level list t e l)) ∙ h
      | inr h ↦ absurd
          (n (record {
            ends = ends;
            other = record {
              some = λ z. let f = sym q ∙ z in omega (arith, f);
              other = λ z. h (let f = sym z ∙ q in omega (arith, f));
            };
          }))
    ]

    pub own_event : (k : ℕ) → k < length table
        → ((e : ℕ) → e < length list.edges.items → IsShared list.owners.items tubes low high e k
        → ⊥)
        → IsOwnCorner d level (at k)
    own_event k b n e f l m u h g =
        let le = within e l in
        let lf = within f m in
        let he = subst (λ (es : List Edge). IsEnd (edge_of es e) (at k)) (sym t.edges) h in
        let hf = subst (λ (es : List Edge). IsEnd (edge_of es f) (at k)) (sym t.edges) g in
        by_end le lf he hf (decide_end (curve d (owned_at d level e).curve) (at k))
      where
        by_number : e < length list.edges.items → f < length list.edges.items
            → IsEnd (edge_of list.edges.items e) (at k) → IsEnd (edge_of list.edges.items f) (at k)
            → (v : ℕ) → slice_index_or tubes k 0 ≡ v → 0 < v
            → (owned_at d level f).curve ≡ (owned_at d level e).curve
        by_number le lf he hf zero q s = absurd (omega (arith, s))
        by_number le lf he hf (suc c) q s =
            same_curve f k c lf q (event_is f k lf b hf) (n f lf)
            ∙ sym (same_curve e k c le q (event_is e k le b he) (n e le))

        by_end : e < length list.edges.items → f < length list.edges.items
            → IsEnd (edge_of list.edges.items e) (at k) → IsEnd (edge_of list.edges.items f) (at k)
            → IsEndOf (curve d (owned_at d level e).curve) (at k)
            ⊎ (IsEndOf (curve d (owned_at d level e).curve) (at k) → ⊥)
            → (at k ≡ (curve d (owned_at d level e).curve).from)
            ⊎ ((at k ≡ (curve d (owned_at d level e).curve).to)
            ⊎ ((owned_at d level f).curve ≡ (owned_at d level e).curve))
        by_end le lf he hf (inl q) = elim q [ inl a ↦ inl (sym a) | inr a ↦ inr (inl (sym a)) ]
        by_end le lf he hf (inr q) =
            inr (inr (by_number le lf he hf _ refl (by.some e k le (corner_of e k le b u he q))))

    pub foreign_event : (e k : ℕ) → e < length list.edges.items
        → IsShared list.owners.items tubes low high e k → IsOwnCorner d level (at k) → ⊥
    foreign_event e k l s own = by_number _ refl
      where
        by_corner : (c x : ℕ) → slice_index_or tubes k 0 ≡ suc c → x < length list.edges.items
            → IsCorner x k → (owner_at list.owners.items x).curve ≡ c → ⊥
        by_corner c x q m h o =
            let lx = subst (λ (es : List Edge). x < length es) t.edges m in
            let le = subst (λ (es : List Edge). e < length es) t.edges l in
            let hx = subst (λ (es : List Edge). IsEnd (edge_of es x) (at k)) t.edges h.end in
            let he = subst (λ (es : List Edge). IsEnd (edge_of es e) (at k)) t.edges
            (end_is e k l s.ends) in
            elim (own x e lx le h.tube hx he) [
              | inl a ↦ h.no_end (inl (sym a))
              | inr a ↦ elim a [
                | inl b ↦ h.no_end (inr (sym b))
                | inr b ↦ s.other.other (q
                    ∙ ap (λ (n : ℕ). suc n) (sym o
                    ∙ ap (λ (y : Owner). y.curve) (owner_is d level list t x m) ∙ sym b
                    ∙ sym (ap (λ (y : Owner). y.curve) (owner_is d level list t e l))))
              ]
            ]

        by_number : (v : ℕ) → slice_index_or tubes k 0 ≡ v → ⊥
        by_number zero q = s.other.some q
        by_number (suc c) q =
            let (x, m, h, o) = by.of k c q in by_corner c x q m (corner_is x k m h) o

    pub first_foreign : (first : ℕ)
        → IsLeastShared list.owners.items tubes low high (length table)
        (length list.edges.items) first
        → first < length table → IsFirstForeign d level table (Some first)
    first_foreign first h l = (
      l,
      elim h.some [
        | inl q ↦ absurd (omega (arith, q, l))
        | inr q ↦ (let (e, m, s) = q in foreign_event e first m s)
      ],
      (λ j b. own_event j (omega (arith, b, l)) (λ e m s. let a = h.least e j m s in
          omega (arith, a, b))),
    )

    pub none_foreign : (first : ℕ)
        → IsLeastShared list.owners.items tubes low high (length table)
        (length list.edges.items) first
        → length table ≤ first → IsFirstForeign d level table None
    none_foreign first h l k b =
        own_event k b (λ e m s. let a = h.least e k m s in omega (arith, a, b, l))

-- ---- a drawing of straights has no tubes
pub straights_own : (d : Plan) (level : ℕ → ℕ) (table : List Timed) → AreAllStraight d.curves
    → IsFirstForeign d level table None
straights_own d level table s k b e f l m u h g =
    let c = (of_half_arc d level e l).0 u in
    absurd (let q = sym (s (owned_at d level e).curve c.there) ∙ c.kind in cc)

-- ---- in the words of what the code reads
pub set_read : (d : Plan) (level : ℕ → ℕ) (list : EdgeList) (t : IsTubedList d level list) (e : ℕ)
    (l : e < length list.edges.items) (o : Owner) (k : Curve) (a b : ℕ) (old new : List ℕ)
    → o ≡ get_or list.owners.items e o → k ≡ get_or d.curves o.curve k
    → AreSet (suc o.curve) (HasCornerAt o.part k (edge_of list.edges.items e) a b) old new
    → AreSet (suc (owner_at list.owners.items e).curve)
    (HasCornerAt (owner_at list.owners.items e).part
    (curve d (owner_at list.owners.items e).curve) (edge_of list.edges.items e) a b) old new
set_read d level list t e l o k a b old new h g s =
    subst (λ (x : Curve). AreSet (suc (owner_at list.owners.items e).curve)
    (HasCornerAt (owner_at list.owners.items e).part x (edge_of list.edges.items e) a b) old
    new) (curve_read d level list t e l o k h g)
    (subst (λ (p : Owner). AreSet (suc p.curve)
    (HasCornerAt p.part k (edge_of list.edges.items e) a b) old new)
    (owner_read d level list t e l o h) s)

pub least_read : (owners os : List Owner) (tubes ts low high : List ℕ) (events n count first : ℕ)
    → os ≡ owners → ts ≡ tubes → n ≡ events → length owners ≡ count
    → IsLeastShared os ts low high events (length os) first
    → IsLeastShared owners tubes low high n count first
least_read owners os tubes ts low high events n count first o t e c h =
    let a = subst (λ (xs : List ℕ). IsLeastShared os xs low high events (length os) first) t h in
    let b = subst (λ (xs : List Owner). IsLeastShared xs tubes low high events (length xs) first) o
    a in
    subst (λ (m : ℕ). IsLeastShared owners tubes low high m count first) (sym e)
    (subst (λ (m : ℕ). IsLeastShared owners tubes low high events m first) c b)
