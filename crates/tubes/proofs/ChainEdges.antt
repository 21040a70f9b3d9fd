-- The edges of chains, and of the curves of a drawing with tubes.
use Rattle.std.proofs.Common.{◌≡◌, ℕ, suc, ◌+◌, ◌<◌, ◌≤◌, ◌^◌, List, [], ◌∷◌, ◌++◌, map, length}
use Rattle.std.proofs.Common.{take, ◌-◌, drop, ℤ, ◌<ℤ◌, ◌≤ℤ◌, arith, ap, refl, sym, ◌∙◌, subst}
use Rattle.std.proofs.Common.{append_assoc, append-nil, add-one, drop-cons}
use Rattle.std.proofs.lemmas.Grind.{common_steps}
use Rattle.std.proofs.lemmas.Int.{ints}
use Rattle.plane.specs.CurveRuns.TubedRuns as runs
use Rattle.plane.specs.Forms.Arcs.{along}
use Rattle.plane.specs.Forms.Vectors.{point}
use Rattle.plane.specs.Lists.{Last}
use Rattle.plane.specs.Numbers.{IsWithin}
use Rattle.plane.specs.Rule.Curves.{arc}
use Rattle.plane.specs.Rule.HalfArcs.{HalfArc}
use Rattle.plane.specs.Rule.Plans.{Plan, curve}
use Rattle.plane.specs.Rule.Windows.{IsDrawn}
use Rattle.plane.specs.Tubes.Bays.{AreBays, bays}
use Rattle.plane.specs.declared.kinds.Curve.{Curve}
use Rattle.plane.specs.declared.kinds.CurveKind.TheVariants as kind
use Rattle.plane.specs.declared.kinds.Edge.{Edge}
use Rattle.plane.specs.declared.kinds.Point.{Point}
use Rattle.plane.specs.declared.window.Window2.{Window2}
use Rattle.straight_predicates.proofs.Orders.{by_lt}
use Rattle.straight_predicates.proofs.WindowEdges.{inside_close}
use Rattle.tubes.specs.DrawnEdges.{edge_from}
use Rattle.tubes.specs.HalfArcTubes.{IsTubeOf, inner_points, outer_points}
use Rattle.tubes.specs.TubedEdges.{AreDistinct, AreGrown, IsFit, bays_at, chain_edges, drawn_bays}
use Rattle.tubes.specs.TubedEdges.{each_owner, edge_as, made, owner_as, part_of}
use Rattle.tubes.specs.declared.kinds.Owner.{Owner}
use Rattle.tubes.proofs.TubePoints.{inner_are, outer_size, power_positive}

map_app : {X Y : Type 0} (f : X → Y) (xs ys : List X) → map f (xs ++ ys) ≡ map f xs ++ map f ys
map_app f [] ys = refl
map_app f (x ∷ xs) ys = ap (λ zs. f x ∷ zs) (map_app f xs ys)

-- ---- chains
pub edges_are : (i : ℕ) (part : runs.Part) (p : Point) (qs : List Point)
    → map edge_as (runs.chain i part p qs) ≡ chain_edges p qs
edges_are i part p [] = refl
edges_are i part p (q ∷ qs) = ap (λ es. edge_from p q ∷ es) (edges_are i part q qs)

pub owners_are : (i : ℕ) (part : runs.Part) (p : Point) (qs : List Point)
    → map owner_as (runs.chain i part p qs)
    ≡ each_owner (record { curve = i; part = part_of part }) qs
owners_are i part p [] = refl
owners_are i part p (q ∷ qs) =
    ap (λ os. record { curve = i; part = part_of part } ∷ os) (owners_are i part q qs)

pub edges_step : (xs new all : List Edge) (p q : Point) (qs : List Point)
    → new ≡ xs ++ edge_from p q ∷ [] → xs ++ chain_edges p (q ∷ qs) ≡ all
    → new ++ chain_edges q qs ≡ all
edges_step xs new all p q qs e h = ap (λ s. s ++ chain_edges q qs) e
    ∙ append_assoc xs (edge_from p q ∷ []) (chain_edges q qs) ∙ h

pub owners_step : (xs new all : List Owner) (o : Owner) (q : Point) (qs : List Point)
    → new ≡ xs ++ o ∷ [] → xs ++ each_owner o (q ∷ qs) ≡ all → new ++ each_owner o qs ≡ all
owners_step xs new all o q qs e h =
    ap (λ s. s ++ each_owner o qs) e ∙ append_assoc xs (o ∷ []) (each_owner o qs) ∙ h

pub edges_end : (xs all : List Edge) (p : Point) (qs : List Point) → qs ≡ []
    → xs ++ chain_edges p qs ≡ all → xs ≡ all
edges_end xs all p qs e h = sym (append-nil xs) ∙ ap (λ qs. xs ++ chain_edges p qs) (sym e) ∙ h

pub owners_end : (xs all : List Owner) (o : Owner) (qs : List Point) → qs ≡ []
    → xs ++ each_owner o qs ≡ all → xs ≡ all
owners_end xs all o qs e h = sym (append-nil xs) ∙ ap (λ qs. xs ++ each_owner o qs) (sym e) ∙ h

-- ---- neighbours in the chains of a tube differ
rising : (h : HalfArc) (p q : Point) → along h (point p) <ℤ along h (point q) → p ≡ q → ⊥
rising h p q l e = let f = ap (λ v. along h (point v)) e in omega (arith, ints, l, f)

inner_distinct : (h : HalfArc) (v : Point) (vs os : List Point) → length os ≡ length vs
    → AreBays h v (bays vs os) → AreDistinct v vs
inner_distinct h v [] os e b = tt
inner_distinct h v (w ∷ vs) [] e b = absurd (omega (arith, e))
inner_distinct h v (w ∷ vs) (o ∷ os) e b =
    let u = b.0.up in
    let n = b.0.on in
    (rising h v w (omega (arith, ints, u, n)), inner_distinct h w vs os (omega (arith, e)) b.1)

-- the last of v and the points after it is `to`
abbrev EndsIn : Point → Point → List Point → Type 0
EndsIn to v [] = v ≡ to
EndsIn to v (w ∷ vs) = EndsIn to w vs

ends_in : (to v : Point) (vs : List Point) → 0 < length vs → Last (λ w. w ≡ to) vs → EndsIn to v vs
ends_in to v [] l h = absurd (omega (arith, l))
ends_in to v (w ∷ []) l h = h
ends_in to v (w ∷ (x ∷ vs)) l h = ends_in to w (x ∷ vs) (omega arith) h

outer_rest : (h : HalfArc) (to p v : Point) (vs os : List Point) → length os ≡ length vs
    → along h (point p) <ℤ along h (point v) → AreBays h v (bays vs os) → EndsIn to v vs
    → AreDistinct p (os ++ to ∷ [])
outer_rest h to p v [] [] e l b n =
    (rising h p to (subst (λ w. along h (point p) <ℤ along h (point w)) n l), tt)
outer_rest h to p v [] (o ∷ os) e l b n = absurd (omega (arith, e))
outer_rest h to p v (w ∷ vs) [] e l b n = absurd (omega (arith, e))
outer_rest h to p v (w ∷ vs) (o ∷ os) e l b n =
    let u = b.0.up in (
      rising h p o (omega (arith, ints, l, u)),
      outer_rest h to o w vs os (omega (arith, e)) b.0.on b.1 n,
    )

outer_distinct : (h : HalfArc) (to v : Point) (vs os : List Point) → length os ≡ length vs
    → 0 < length vs → AreBays h v (bays vs os) → EndsIn to v vs → AreDistinct v (os ++ to ∷ [])
outer_distinct h to v [] os e l b n = absurd (omega (arith, l))
outer_distinct h to v (w ∷ vs) [] e l b n = absurd (omega (arith, e))
outer_distinct h to v (w ∷ vs) (o ∷ os) e l b n =
    (rising h v o b.0.up, outer_rest h to o w vs os (omega (arith, e)) b.0.on b.1 n)

some_inner : (h : HalfArc) (level : ℕ) (vs os : List Point) → IsTubeOf h level vs os → 0 < length vs
some_inner h level vs os t =
    subst (λ (n : ℕ). 0 < n) (sym (inner_are h (level + 1) vs t.inner_made).size)
    (power_positive (level + 1))

pub chains_distinct : (h : HalfArc) (level : ℕ) (vs os : List Point) → IsTubeOf h level vs os
    → AreDistinct h.from vs × AreDistinct h.from (os ++ h.to ∷ [])
chains_distinct h level vs os t =
    let n = outer_size h h.from vs os t.outer_made in
    let l = some_inner h level vs os t in (
      inner_distinct h h.from vs os n t.are_bays,
      outer_distinct h h.to h.from vs os n l t.are_bays
          (ends_in h.to h.from vs l (inner_are h (level + 1) vs t.inner_made).end),
    )

-- ---- the edges of a half arc's tube
corners_back : (vs os : List Point) → length os ≡ length vs
    → (runs.inner_corners (bays vs os) ≡ vs) × (runs.outer_corners (bays vs os) ≡ os)
corners_back [] [] e = (refl, refl)
corners_back [] (o ∷ os) e = absurd (omega (arith, e))
corners_back (v ∷ vs) [] e = absurd (omega (arith, e))
corners_back (v ∷ vs) (o ∷ os) e =
    let r = corners_back vs os (omega (arith, e)) in (ap (λ s. v ∷ s) r.0, ap (λ s. o ∷ s) r.1)

pub bays_are : (h : HalfArc) (level : ℕ) (vs os : List Point) → IsTubeOf h level vs os
    → bays_at h level ≡ bays vs os
unfolding bays_at
bays_are h level vs os t =
    let e : made (inner_points h (level + 1)) ≡ vs = ap made t.inner_made in
    let f : made (outer_points h h.from (made (inner_points h (level + 1))))
    ≡ os = ap (λ vs. made (outer_points h h.from vs)) e ∙ ap made t.outer_made in
    ap (λ vs. bays vs (made (outer_points h h.from (made (inner_points h (level + 1)))))) e
    ∙ ap (bays vs) f

pub owned_are : (i : ℕ) (c : Curve) (level : ℕ) (vs os : List Point) → IsTubeOf (arc c) level vs os
    → runs.edges_of i kind.HalfArc c (bays_at (arc c) level)
    ≡ runs.chain i runs.inner c.from vs ++ runs.chain i runs.outer c.from (os ++ c.to ∷ [])
owned_are i c level vs os t =
    let n = outer_size (arc c) c.from vs os t.outer_made in
    let r = corners_back vs os n in
    ap (λ bs. runs.edges_of i kind.HalfArc c bs) (bays_are (arc c) level vs os t)
    ∙ ap (λ s. runs.chain i runs.inner c.from s
    ++ runs.chain i runs.outer c.from (runs.outer_corners (bays vs os) ++ c.to ∷ [])) r.0
    ∙ ap (λ s. runs.chain i runs.inner c.from vs ++ runs.chain i runs.outer c.from (s ++ c.to ∷ []))
    r.1

pub tube_grown : (i : ℕ) (c : Curve) (level : ℕ) (vs os : List Point)
    (edges first grown : List Edge) (owners next more : List Owner)
    → IsTubeOf (arc c) level vs os
    → first ≡ edges ++ chain_edges c.from vs → grown ≡ first ++ chain_edges c.from (os ++ c.to ∷ [])
    → next ≡ owners ++ each_owner (record { curve = i; part = part_of runs.inner }) vs
    → more ≡ next ++ each_owner (record { curve = i; part = part_of runs.outer })
    (os ++ c.to ∷ [])
    → AreGrown (runs.edges_of i kind.HalfArc c (bays_at (arc c) level)) edges grown owners more
tube_grown i c level vs os edges first grown owners next more t e f g k =
    let w = owned_are i c level vs os t in record {
      edges = f ∙ ap (λ s. s ++ chain_edges c.from (os ++ c.to ∷ [])) e ∙ append_assoc edges _ _
          ∙ ap (λ s. edges ++ s)
          (sym (ap (map edge_as) w
          ∙ map_app edge_as (runs.chain i runs.inner c.from vs)
          (runs.chain i runs.outer c.from (os ++ c.to ∷ []))
          ∙ ap (λ s. s ++ map edge_as (runs.chain i runs.outer c.from (os ++ c.to ∷ [])))
          (edges_are i runs.inner c.from vs)
          ∙ ap (λ s. chain_edges c.from vs ++ s)
          (edges_are i runs.outer c.from (os ++ c.to ∷ []))));
      owners = k ∙ ap
          (λ s. s ++ each_owner (record { curve = i; part = part_of runs.outer }) (os ++ c.to ∷ []))
          g ∙ append_assoc owners _ _
          ∙ ap (λ s. owners ++ s)
          (sym (ap (map owner_as) w
          ∙ map_app owner_as (runs.chain i runs.inner c.from vs)
          (runs.chain i runs.outer c.from (os ++ c.to ∷ []))
          ∙ ap (λ s. s ++ map owner_as (runs.chain i runs.outer c.from (os ++ c.to ∷ [])))
          (owners_are i runs.inner c.from vs)
          ∙ ap (λ s. each_owner (record { curve = i; part = part_of runs.inner }) vs ++ s)
          (owners_are i runs.outer c.from (os ++ c.to ∷ []))));
    }

pub tail_is : (xs after : List Point) (v : Point) → xs ≡ v ∷ after
    → take (length xs - 1) (drop 1 xs) ≡ after
tail_is xs after v e = ap (λ xs. take (length xs - 1) (drop 1 xs)) e ∙ whole after
  where
    whole : (after : List Point) → take (suc (length after) - 1) after ≡ after
    whole after = grind (arith, common_steps)

-- ---- the curves of a drawing
pub fit : (w : Window2) (c : Curve) → IsDrawn w.low w.high c → IsFit c
fit w c d = record {
  short = record {
    x = short w.low.x w.high.x c.from.x w.low_digits.x w.high_digits.x d.from.left
        d.from.right;
    y = short w.low.y w.high.y c.from.y w.low_digits.y w.high_digits.y d.from.bottom d.from.top;
  };
  ends = inside_close w.low w.high c.from c.to w.narrow d.from d.to;
  first = inside_close w.low w.high c.from c.third w.narrow d.from d.third;
  second = inside_close w.low w.high c.to c.third w.narrow d.to d.third;
  distinct = d.distinct;
}
  where
    short : (low high z : ℤ) → IsWithin (10 ^ 18) low → IsWithin (10 ^ 18) high → low ≤ℤ z
        → z ≤ℤ high → IsWithin (10 ^ 18) z
    short low high z h k l m = omega (arith, ints, h, k, l, m)

module _ (d : Plan) (level : ℕ → ℕ) where
  abbrev pub rest_edges : ℕ → List Edge
  rest_edges i = map edge_as (runs.edge_list (drawn_bays d level) i (drop i d.curves))

  abbrev pub rest_owners : ℕ → List Owner
  rest_owners i = map owner_as (runs.edge_list (drawn_bays d level) i (drop i d.curves))

  list_now : (i : ℕ) → i < length d.curves
      → runs.edge_list (drawn_bays d level) i (drop i d.curves)
      ≡ runs.edges_of i (curve d i).kind (curve d i) (bays_at (arc (curve d i)) (level i))
      ++ runs.edge_list (drawn_bays d level) (i + 1) (drop (i + 1) d.curves)
  list_now i l =
      ap (runs.edge_list (drawn_bays d level) i) (drop-cons d.curves i _ l)
      ∙ ap (λ n. runs.edges_of i (curve d i).kind (curve d i) (bays_at (arc (curve d i)) (level i))
      ++ runs.edge_list (drawn_bays d level) n (drop n d.curves)) (sym (add-one i))

  pub list_step : (i : ℕ) (edges grown all : List Edge) (owners more each : List Owner)
      → i < length d.curves
      → AreGrown (runs.edges_of i (curve d i).kind (curve d i) (bays_at (arc (curve d i)) (level i)))
      edges grown owners more
      → edges ++ rest_edges i ≡ all → owners ++ rest_owners i ≡ each
      → (grown ++ rest_edges (i + 1) ≡ all) × (more ++ rest_owners (i + 1) ≡ each)
  list_step i edges grown all owners more each l g e f =
      let o = runs.edges_of i (curve d i).kind (curve d i) (bays_at (arc (curve d i)) (level i)) in
      let r = runs.edge_list (drawn_bays d level) (i + 1) (drop (i + 1) d.curves) in (
        ap (λ s. s ++ map edge_as r) g.edges ∙ append_assoc edges (map edge_as o) (map edge_as r)
            ∙ ap (λ s. edges ++ s) (sym (ap (map edge_as) (list_now i l) ∙ map_app edge_as o r))
            ∙ e,
        ap (λ s. s ++ map owner_as r) g.owners
            ∙ append_assoc owners (map owner_as o) (map owner_as r)
            ∙ ap (λ s. owners ++ s) (sym (ap (map owner_as) (list_now i l) ∙ map_app owner_as o r))
            ∙ f,
      )

  all_done : (i : ℕ) → length d.curves ≤ i → drop i d.curves ≡ []
  all_done i l = grind (arith, common_steps)

  pub list_ends : (i : ℕ) (edges all : List Edge) (owners each : List Owner) → length d.curves ≤ i
      → edges ++ rest_edges i ≡ all → owners ++ rest_owners i ≡ each
      → (edges ≡ all) × (owners ≡ each)
  list_ends i edges all owners each l e f =
      let n = all_done i l in (
        sym (append-nil edges)
            ∙ ap (λ cs. edges ++ map edge_as (runs.edge_list (drawn_bays d level) i cs)) (sym n)
            ∙ e,
        sym (append-nil owners)
            ∙ ap (λ cs. owners ++ map owner_as (runs.edge_list (drawn_bays d level) i cs)) (sym n)
            ∙ f,
      )

pub one_more : (P : ℕ → Type 0) (n : ℕ) → ((k : ℕ) → k < n → P k) → P n → (k : ℕ) → k < n + 1 → P k
one_more P n f p k l =
    by_lt k n (λ (m : k < n). f k m) (λ (m : n ≤ k). subst P (omega (arith, l, m)) p)
