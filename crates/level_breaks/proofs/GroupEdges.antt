-- The edges of a curve with its tube, by number and as the list of the drawing has them, and the
-- points in which they end.
use Rattle.std.proofs.Common.{◌≡◌, ◌↔◌, ◌⊎◌, inl, inr, ℕ, zero, suc, ◌+◌, ◌*◌, ◌-◌, ◌^◌, ◌<◌, ◌≤◌}
use Rattle.std.proofs.Common.{Bool, true, false, cond, Option, Some, None, List, [], ◌∷◌, ◌++◌}
use Rattle.std.proofs.Common.{length, get_or, map, refl, arith, ap, sym, ◌∙◌, subst, add-one}
use Rattle.std.proofs.Common.{length-append}
use Rattle.std.proofs.lemmas.List.{get_or_append_left, get_or-append-add}
use Rattle.plane.specs.CurveRuns.TubedRuns as runs
use Rattle.plane.specs.Forms.Meets.{IsEnd}
use Rattle.plane.specs.Forms.Vectors.{Before}
use Rattle.plane.specs.Lists.{Has, Last}
use Rattle.plane.specs.Rule.Curves.{arc}
use Rattle.plane.specs.Rule.Windows.{IsDrawn}
use Rattle.plane.specs.declared.kinds.Curve.{Curve}
use Rattle.plane.specs.declared.kinds.CurveKind.{CurveKind}
use Rattle.plane.specs.declared.kinds.Edge.{Edge}
use Rattle.plane.specs.declared.kinds.Point.{Point}
use Rattle.straight_predicates.specs.EdgeLists.{HasEnds, edge_of, no_edge}
use Rattle.tubes.specs.DrawnEdges.{comes_first, edge_from}
use Rattle.tubes.specs.Making.{IsMade}
use Rattle.tubes.specs.TubedEdges.{AreDistinct, bays_at, chain_edges, edge_as}
use Rattle.tubes.specs.declared.kinds.Tube.{Tube}
use Rattle.tubes.proofs.ChainEdges.{chains_distinct, edges_are, owned_are}
use Rattle.tubes.proofs.EdgeLemmas.{one_edge}
use Rattle.tubes.proofs.Rounds.{few_points}
use Rattle.tubes.proofs.TubePoints.{inner_are, outer_size, power_positive}
use Rattle.level_breaks.specs.Groups.{HasChains, IsEdged, IsTubed, chain_through, corners}
use Rattle.level_breaks.specs.Groups.{edges_with, nth}

-- ---- lists
pub map_app : {X Y : Type 0} (f : X → Y) (xs ys : List X) → map f (xs ++ ys) ≡ map f xs ++ map f ys
map_app f [] ys = refl
map_app f (x ∷ xs) ys = ap (λ zs. f x ∷ zs) (map_app f xs ys)

pub has_left : {X : Type 0} (x : X) (xs ys : List X) → Has x xs → Has x (xs ++ ys)
has_left x [] ys h = absurd h
has_left x (y ∷ xs) ys (inl e) = inl e
has_left x (y ∷ xs) ys (inr h) = inr (has_left x xs ys h)

pub has_right : {X : Type 0} (x : X) (xs ys : List X) → Has x ys → Has x (xs ++ ys)
has_right x [] ys h = h
has_right x (y ∷ xs) ys h = inr (has_right x xs ys h)

pub has_either : {X : Type 0} (x : X) (xs ys : List X) → Has x (xs ++ ys) → Has x xs ⊎ Has x ys
has_either x [] ys h = inr h
has_either x (y ∷ xs) ys (inl e) = inl (inl e)
has_either x (y ∷ xs) ys (inr h) =
    elim (has_either x xs ys h) [ inl a ↦ inl (inr a) | inr b ↦ inr b ]

pub has_mapped : {X Y : Type 0} (f : X → Y) (x : X) (xs : List X) → Has x xs → Has (f x) (map f xs)
has_mapped f x [] h = absurd h
has_mapped f x (y ∷ xs) (inl e) = inl (ap f e)
has_mapped f x (y ∷ xs) (inr h) = inr (has_mapped f x xs h)

pub mapped_has : {X Y : Type 0} (f : X → Y) (y : Y) (xs : List X) → Has y (map f xs)
    → (x : X) × Has x xs × (y ≡ f x)
mapped_has f y [] h = absurd h
mapped_has f y (x ∷ xs) (inl e) = (x, inl refl, e)
mapped_has f y (x ∷ xs) (inr h) = let (z, m, e) = mapped_has f y xs h in (z, inr m, e)

-- by number
pub has_at : {X : Type 0} (x d : X) (xs : List X) → Has x xs
    → (k : ℕ) × (k < length xs) × (get_or xs k d ≡ x)
has_at x d [] h = absurd h
has_at x d (y ∷ xs) (inl e) = (0, omega arith, sym e)
has_at x d (y ∷ xs) (inr h) = let (k, l, e) = has_at x d xs h in (suc k, omega (arith, l), e)

pub one_default : {X : Type 0} (xs : List X) (k : ℕ) (d e : X) → k < length xs
    → get_or xs k d ≡ get_or xs k e
one_default [] k d e l = absurd (omega (arith, l))
one_default (x ∷ xs) zero d e l = refl
one_default (x ∷ xs) (suc k) d e l = one_default xs k d e (omega (arith, l))

pub at_has : {X : Type 0} (d : X) (xs : List X) (k : ℕ) → k < length xs → Has (get_or xs k d) xs
at_has d [] k l = absurd (omega (arith, l))
at_has d (x ∷ xs) zero l = inl refl
at_has d (x ∷ xs) (suc k) l = inr (at_has d xs k (omega (arith, l)))

-- ---- chains by number
pub chain_size : (p : Point) (qs : List Point) → length (chain_edges p qs) ≡ length qs
chain_size p [] = refl
chain_size p (q ∷ qs) = ap suc (chain_size q qs)

pub chain_number : (p : Point) (qs : List Point) (k : ℕ) → k < length qs
    → edge_of (chain_edges p qs) k ≡ edge_from (nth (p ∷ qs) k) (nth qs k)
chain_number p [] k l = absurd (omega (arith, l))
chain_number p (q ∷ qs) zero l = refl
chain_number p (q ∷ qs) (suc k) l = chain_number q qs k (omega (arith, l))

pub number_differs : (p : Point) (qs : List Point) (k : ℕ) → k < length qs → AreDistinct p qs
    → nth (p ∷ qs) k ≡ nth qs k → ⊥
number_differs p [] k l d = absurd (omega (arith, l))
number_differs p (q ∷ qs) zero l d = d.0
number_differs p (q ∷ qs) (suc k) l d = number_differs q qs k (omega (arith, l)) d.1

-- ---- the edges of a curve by number
module _ (c : Curve) (t : Tube) (h : HasChains c t) where
  abbrev pub outer : List Point
  outer = t.outer.items

  abbrev through : List Edge
  through = chain_through t.inner.items

  abbrev pub around : List Edge
  around = chain_edges c.from (outer ++ c.to ∷ [])

  through_is : through ≡ chain_edges c.from h.after
  through_is = ap chain_through h.inner

  through_size : length through ≡ length outer
  through_size = ap length through_is ∙ chain_size c.from h.after ∙ sym h.sizes

  around_size : length around ≡ length outer + 1
  around_size = chain_size c.from (outer ++ c.to ∷ []) ∙ length-append outer (c.to ∷ [])

  pub count_is : 2 * length outer + 1 ≡ length (edges_with c (Some t))
  count_is =
      let a = length-append through around in
      let b = through_size in let e = around_size in omega (arith, a, b, e)

  pub few_edges : length outer < 2 ^ 20
  few_edges = let a = h.sizes in let b = h.few in omega (arith, a, b)

  inner_next : (k : ℕ) → nth h.after k ≡ nth t.inner.items (k + 1)
  inner_next k = ap (λ (n : ℕ). nth (c.from ∷ h.after) n) (sym (add-one k))
      ∙ ap (λ ps. nth ps (k + 1)) (sym h.inner)

  inner_now : (k : ℕ) → nth (c.from ∷ h.after) k ≡ nth t.inner.items k
  inner_now k = ap (λ ps. nth ps k) (sym h.inner)

  pub inner_sizes : (k : ℕ) → k < length outer → k + 1 < length t.inner.items
  inner_sizes k l = let a = ap length h.inner in let b = h.sizes in omega (arith, l, a, b)

  pub inner_differs : (k : ℕ) → k < length outer → nth t.inner.items k ≡ nth t.inner.items (k + 1)
      → ⊥
  inner_differs k l e =
      let b = h.sizes in
      number_differs c.from h.after k (omega (arith, l, b)) h.inner_distinct (inner_now k ∙ e
      ∙ sym (inner_next k))

  pub inner_edge : (k : ℕ) (e : Edge) → k < length outer → Before e.low e.high
      → HasEnds e (nth t.inner.items k) (nth t.inner.items (k + 1))
      → e ≡ edge_of (edges_with c (Some t)) k
  inner_edge k e l s ends =
      let b = h.sizes in
      let z = through_size in
      one_edge e _ _ s ends
      ∙ ap (λ p. edge_from p (nth t.inner.items (k + 1))) (sym (inner_now k))
      ∙ ap (λ q. edge_from (nth (c.from ∷ h.after) k) q) (sym (inner_next k))
      ∙ sym (chain_number c.from h.after k (omega (arith, l, b)))
      ∙ ap (λ es. edge_of es k) (sym through_is)
      ∙ sym (get_or_append_left through around no_edge k (omega (arith, l, z)))

  pub outer_number : (k : ℕ) → length outer ≤ k → k < length (edges_with c (Some t))
      → k - length outer ≤ length outer
  outer_number k l m = let a = count_is in omega (arith, l, m, a)

  pub outer_edge : (k : ℕ) → length outer ≤ k
      → edge_of around (k - length outer) ≡ edge_of (edges_with c (Some t)) k
  outer_edge k l =
      let z = through_size in
      sym (get_or-append-add through around (k - length outer) no_edge)
      ∙ ap (λ (n : ℕ). edge_of (edges_with c (Some t)) n) (omega (arith, l, z))

pub outer_differs : (c : Curve) (outer : List Point) (k : ℕ) → k ≤ length outer
    → AreDistinct c.from (outer ++ c.to ∷ []) → nth (c.from ∷ outer) k ≡ nth (outer ++ c.to ∷ []) k
    → ⊥
outer_differs c outer k l d e =
    number_differs c.from (outer ++ c.to ∷ []) k (let a = length-append outer (c.to ∷ []) in
    omega (arith, a, l)) d (front c.from outer k l ∙ e)
  where
    front : (p : Point) (qs : List Point) (k : ℕ) → k ≤ length qs
        → nth (p ∷ (qs ++ c.to ∷ [])) k ≡ nth (p ∷ qs) k
    front p qs zero l = refl
    front p [] (suc k) l = absurd (omega (arith, l))
    front p (q ∷ qs) (suc k) l = front q qs k (omega (arith, l))

pub outer_is : (c : Curve) (outer : List Point) (k : ℕ) (e : Edge) → k ≤ length outer
    → Before e.low e.high → HasEnds e (nth (c.from ∷ outer) k) (nth (outer ++ c.to ∷ []) k)
    → e ≡ edge_of (chain_edges c.from (outer ++ c.to ∷ [])) k
outer_is c outer k e l s ends =
    one_edge e _ _ s ends
    ∙ ap (λ p. edge_from p (nth (outer ++ c.to ∷ []) k)) (front c.from outer k l)
    ∙ sym (chain_number c.from (outer ++ c.to ∷ []) k (let a = length-append outer (c.to ∷ []) in
    omega (arith, a, l)))
  where
    front : (p : Point) (qs : List Point) (k : ℕ) → k ≤ length qs
        → nth (p ∷ qs) k ≡ nth (p ∷ (qs ++ c.to ∷ [])) k
    front p qs zero l = refl
    front p [] (suc k) l = absurd (omega (arith, l))
    front p (q ∷ qs) (suc k) l = front q qs k (omega (arith, l))

pub only_edge : (c : Curve) (e : Edge) (k : ℕ) → k < 1 → Before e.low e.high → HasEnds e c.from c.to
    → e ≡ edge_of (edges_with c None) k
only_edge c e k l s ends = one_edge e _ _ s ends
    ∙ ap (λ (n : ℕ). edge_of (edges_with c None) n) (zero_is k l)
  where
    zero_is : (k : ℕ) → k < 1 → 0 ≡ k
    zero_is k l = omega (arith, l)

-- ---- what is asked to make them
pub edged_with : (low high : Point) (level : ℕ) (c : Curve) (t : Option Tube) → level ≤ 5
    → IsDrawn low high c → IsTubed level c t → IsEdged c t
edged_with low high level c None l d t = d.distinct
edged_with low high level c (Some t) l d (e, m) =
    let s = chains_distinct (arc c) level m.after t.outer.items m.tube in record {
      after = m.after;
      inner = m.inner;
      sizes = outer_size (arc c) c.from m.after t.outer.items m.tube.outer_made;
      few = few_points (arc c) (level + 1) m.after (omega (arith, l)) m.tube.inner_made;
      inner_distinct = s.0;
      outer_distinct = s.1;
    }

-- ---- the same edges as the list of the drawing has them
pub edges_map : (i level : ℕ) (c : Curve) (t : Option Tube) → IsTubed level c t
    → map edge_as (runs.edges_of i c.kind c (bays_at (arc c) level)) ≡ edges_with c t
edges_map i level c None e =
    ap (λ (k : CurveKind). map edge_as (runs.edges_of i k c (bays_at (arc c) level))) e
edges_map i level c (Some t) (e, m) =
    ap (λ (k : CurveKind). map edge_as (runs.edges_of i k c (bays_at (arc c) level))) e
    ∙ ap (map edge_as) (owned_are i c level m.after t.outer.items m.tube)
    ∙ map_app edge_as (runs.chain i runs.inner c.from m.after)
    (runs.chain i runs.outer c.from (t.outer.items ++ c.to ∷ []))
    ∙ ap (λ es. es ++ map edge_as (runs.chain i runs.outer c.from (t.outer.items ++ c.to ∷ [])))
    (edges_are i runs.inner c.from m.after)
    ∙ ap (λ es. chain_edges c.from m.after ++ es)
    (edges_are i runs.outer c.from (t.outer.items ++ c.to ∷ []))
    ∙ ap (λ ps. chain_through ps ++ chain_edges c.from (t.outer.items ++ c.to ∷ [])) (sym m.inner)

-- ---- the points in which they end
-- an edge of the list ends in the point
abbrev pub EndsOf : List Edge → Point → Type 0
EndsOf es v = (e : Edge) × Has e es × IsEnd e v

pub ends_of_one : (p q v : Point) → IsEnd (edge_from p q) v ↔ ((p ≡ v) ⊎ (q ≡ v))
ends_of_one p q v = by_test (comes_first p q)
  where
    by_test : (b : Bool)
        → IsEnd (cond b (record { low = p; high = q }) (record { low = q; high = p })) v
        ↔ ((p ≡ v) ⊎ (q ≡ v))
    by_test true = ((λ h. h), (λ h. h))
    by_test false = ((λ h. turned h), (λ h. turned h))
      where
        turned : {A B : Type 0} → A ⊎ B → B ⊎ A
        turned (inl a) = inr a
        turned (inr b) = inl b

chain_ends : (p : Point) (qs : List Point) (v : Point) → EndsOf (chain_edges p qs) v
    → Has v (p ∷ qs)
chain_ends p [] v (e, h, i) = absurd h
chain_ends p (q ∷ qs) v (e, inl s, i) =
    elim ((ends_of_one p q v).0 (subst (λ f. IsEnd f v) s i)) [
      | inl a ↦ inl (sym a)
      | inr b ↦ inr (inl (sym b))
    ]
chain_ends p (q ∷ qs) v (e, inr h, i) = inr (chain_ends q qs v (e, h, i))

ends_more : (f : Edge) (es : List Edge) (v : Point) → EndsOf es v → EndsOf (f ∷ es) v
ends_more f es v (e, h, i) = (e, inr h, i)

chain_starts : (p : Point) (qs : List Point) (v : Point) → 0 < length qs → v ≡ p
    → EndsOf (chain_edges p qs) v
chain_starts p [] v l e = absurd (omega (arith, l))
chain_starts p (q ∷ qs) v l e = (edge_from p q, inl refl, (ends_of_one p q v).1 (inl (sym e)))

chain_reaches : (p : Point) (qs : List Point) (v : Point) → Has v qs → EndsOf (chain_edges p qs) v
chain_reaches p [] v h = absurd h
chain_reaches p (q ∷ qs) v (inl e) = (edge_from p q, inl refl, (ends_of_one p q v).1 (inr (sym e)))
chain_reaches p (q ∷ qs) v (inr h) =
    ends_more (edge_from p q) (chain_edges q qs) v (chain_reaches q qs v h)

ends_left : (es fs : List Edge) (v : Point) → EndsOf es v → EndsOf (es ++ fs) v
ends_left es fs v (e, h, i) = (e, has_left e es fs h, i)

ends_right : (es fs : List Edge) (v : Point) → EndsOf fs v → EndsOf (es ++ fs) v
ends_right es fs v (e, h, i) = (e, has_right e es fs h, i)

-- the other end of a half arc is the last of the inner points
pub last_has : (to : Point) (vs : List Point) → 0 < length vs → Last (λ v. v ≡ to) vs → Has to vs
last_has to [] l h = absurd (omega (arith, l))
last_has to (v ∷ []) l h = inl (sym h)
last_has to (v ∷ (w ∷ vs)) l h = inr (last_has to (w ∷ vs) (omega arith) h)

pub some_after : (level : ℕ) (c : Curve) (t : Tube) (m : IsMade (arc c) level t)
    → 0 < length m.after
some_after level c t m =
    subst (λ (n : ℕ). 0 < n) (sym (inner_are (arc c) (level + 1) m.after m.tube.inner_made).size)
    (power_positive (level + 1))

pub to_is_inner : (level : ℕ) (c : Curve) (t : Tube) (m : IsMade (arc c) level t) → Has c.to m.after
to_is_inner level c t m =
    last_has c.to m.after (some_after level c t m)
    (inner_are (arc c) (level + 1) m.after m.tube.inner_made).end

pub ends_are : (level : ℕ) (c : Curve) (t : Option Tube) (v : Point) → IsTubed level c t
    → EndsOf (edges_with c t) v ↔ Has v (corners c t)
ends_are level c None v k = (
  (λ s. chain_ends c.from (c.to ∷ []) v s),
  (λ h. elim h [
    | inl e ↦ chain_starts c.from (c.to ∷ []) v (omega arith) e
    | inr m ↦ chain_reaches c.from (c.to ∷ []) v m
  ]),
)
ends_are level c (Some t) v (k, m) = (onward, back)
  where
    inner_has : Has v (c.from ∷ m.after) → Has v t.inner.items
    inner_has h = subst (Has v) (sym m.inner) h

    of_outer : Has v (c.from ∷ (t.outer.items ++ c.to ∷ [])) → Has v (corners c (Some t))
    of_outer (inl e) = has_left v t.inner.items t.outer.items (inner_has (inl e))
    of_outer (inr h) = elim (has_either v t.outer.items (c.to ∷ []) h) [
      | inl a ↦ has_right v t.inner.items t.outer.items a
      | inr b ↦ elim b [
        | inl e ↦ has_left v t.inner.items t.outer.items
            (inner_has (inr (subst (λ p. Has p m.after) (sym e) (to_is_inner level c t m))))
        | inr n ↦ absurd n
      ]
    ]

    onward : EndsOf (edges_with c (Some t)) v → Has v (corners c (Some t))
    onward (e, h, i) =
        elim (has_either e (chain_through t.inner.items)
        (chain_edges c.from (t.outer.items ++ c.to ∷ [])) h) [
          | inl a ↦ has_left v t.inner.items t.outer.items
              (inner_has (chain_ends c.from m.after v
              (e, subst (Has e) (ap chain_through m.inner) a, i)))
          | inr b ↦ of_outer (chain_ends c.from (t.outer.items ++ c.to ∷ []) v (e, b, i))
        ]

    of_inner : Has v (c.from ∷ m.after) → EndsOf (chain_edges c.from m.after) v
    of_inner (inl e) = chain_starts c.from m.after v (some_after level c t m) e
    of_inner (inr h) = chain_reaches c.from m.after v h

    back : Has v (corners c (Some t)) → EndsOf (edges_with c (Some t)) v
    back h = elim (has_either v t.inner.items t.outer.items h) [
      | inl a ↦ ends_left (chain_through t.inner.items) _ v
          (subst (λ ps. EndsOf (chain_through ps) v) (sym m.inner)
          (of_inner (subst (Has v) m.inner a)))
      | inr b ↦ ends_right (chain_through t.inner.items) _ v
          (chain_reaches c.from (t.outer.items ++ c.to ∷ []) v
          (has_left v t.outer.items (c.to ∷ []) b))
    ]
