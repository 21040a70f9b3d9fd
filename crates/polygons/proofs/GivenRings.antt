-- Rings about a point are given by the drawing: half-edges, circles and their order are.
use Rattle.std.proofs.Common.{◌≡◌, ℕ, zero, suc, ◌<◌, ◌≤◌, ◌*◌, arith, ap, sym, ◌∙◌, refl, inl, inr}
use Rattle.std.proofs.Common.{◌⊎◌, pos, List, [], ◌∷◌, ◌++◌, length, map, subst}
use Rattle.std.proofs.lemmas.Bool.{cases_eq, cases_lt}
use Rattle.plane.specs.declared.kinds.Edge.{Edge}
use Rattle.plane.specs.declared.kinds.Point.{Point}
use Rattle.plane.specs.Faces.DrawnRuns.{IsRunOf}
use Rattle.plane.specs.Faces.Halves.{Half, edge_of, half_of, number}
use Rattle.plane.specs.Forms.Vectors.{Before}
use Rattle.plane.specs.Lists.{Has}
use Rattle.plane.specs.Rule.Plans.{Plan}
use Rattle.plane.specs.Runs.Steps.{Step}
use Rattle.half_edges.specs.Cycles.{steps as along}
use Rattle.half_edges.specs.HalfEdges.{HalfEdges, face_of, next_of}
use Rattle.polygons.specs.Circles.{IsLeast, IsRound, Rising, way}
use Rattle.polygons.specs.Leading.{AtMost}
use Rattle.polygons.specs.Polygons.{AreTraced, IsCorner, IsOrder, IsPolygonOf, IsTraced, Leads, led}
use Rattle.polygons.specs.Polygons.{no_ring, place_of}
use Rattle.polygons.specs.Regions.{AreHalvesOf}
use Rattle.polygons.proofs.Circling.{has_unmoved}
use Rattle.polygons.proofs.PlaneLaws.{before_trans, below_number, clockwise_is_next, each_has}
use Rattle.polygons.proofs.PlaneLaws.{has_back, never, next_one, number_below, number_half}

-- ---- lists
none_before : (h : ℕ) (hs : List ℕ) → Rising (h ∷ hs) → (g : ℕ) → Has g (h ∷ hs) → h ≤ g
none_before h hs (first, rest) g (inl e) = omega (arith, e)
none_before h hs (first, rest) g (inr i) =
    let l = each_has (λ k. h < k) hs g first i in omega (arith, l)

-- two rising lists with the same elements are one
same_rising : (gs hs : List ℕ) → Rising gs → Rising hs → ((k : ℕ) → Has k gs → Has k hs)
    → ((k : ℕ) → Has k hs → Has k gs) → gs ≡ hs
same_rising [] [] r s to from = refl
same_rising [] (h ∷ hs) r s to from = absurd (from h (inl refl))
same_rising (g ∷ gs) [] r s to from = absurd (to g (inl refl))
same_rising (g ∷ gs) (h ∷ hs) r s to from =
    let p = none_before g gs r h (from h (inl refl)) in
    let q = none_before h hs s g (to g (inl refl)) in
    let e : g ≡ h = omega (arith, p, q) in
    let rest = same_rising gs hs r.1 s.1
    (λ k i. later gs k h hs g (each_has (λ j. g < j) gs k r.0 i) e (to k (inr i)))
    (λ k i. later hs k g gs h (each_has (λ j. h < j) hs k s.0 i) (sym e) (from k (inr i))) in
    ap (λ (k : ℕ). k ∷ gs) e ∙ ap (λ (ks : List ℕ). h ∷ ks) rest
  where
    later : (xs : List ℕ) (k x : ℕ) (ys : List ℕ) (y : ℕ) → y < k → y ≡ x → Has k (x ∷ ys)
        → Has k ys
    later xs k x ys y l e (inl q) = absurd (omega (arith, l, e, q))
    later xs k x ys y l e (inr i) = i

-- where a list is cut at two elements, the cuts are one, or one comes first
abbrev Cuts : List ℕ → ℕ → List ℕ → List ℕ → ℕ → List ℕ → Type 0
Cuts e f l d g k = ((e ≡ d) × (f ≡ g) × (l ≡ k)) ⊎ ((Has f d × Has g l) ⊎ (Has g e × Has f k))

cut_more : (x : ℕ) (e : List ℕ) (f : ℕ) (l d : List ℕ) (g : ℕ) (k : List ℕ) → Cuts e f l d g k
    → Cuts (x ∷ e) f l (x ∷ d) g k
cut_more x e f l d g k (inl (p, q, r)) = inl (ap (λ (xs : List ℕ). x ∷ xs) p, q, r)
cut_more x e f l d g k (inr (inl (p, q))) = inr (inl (inr p, q))
cut_more x e f l d g k (inr (inr (p, q))) = inr (inr (inr p, q))

abbrev head_of : List ℕ → ℕ
head_of [] = 0
head_of (x ∷ xs) = x

abbrev tail_of : List ℕ → List ℕ
tail_of [] = []
tail_of (x ∷ xs) = xs

cuts : (e : List ℕ) (f : ℕ) (l d : List ℕ) (g : ℕ) (k : List ℕ) → e ++ f ∷ l ≡ d ++ g ∷ k
    → Cuts e f l d g k
cuts [] f l [] g k q = inl (refl, ap head_of q, ap tail_of q)
cuts [] f l (y ∷ d) g k q =
    inr (inl (
      inl (ap head_of q),
      subst (λ (xs : List ℕ). Has g xs) (sym (ap tail_of q))
          (has_back g d (g ∷ k) (inl refl)),
    ))
cuts (x ∷ e) f l [] g k q =
    inr (inr (
      inl (sym (ap head_of q)),
      subst (λ (xs : List ℕ). Has f xs) (ap tail_of q) (has_back f e (f ∷ l) (inl refl)),
    ))
cuts (x ∷ e) f l (y ∷ d) g k q =
    subst (λ (z : ℕ). Cuts (x ∷ e) f l (z ∷ d) g k) (ap head_of q)
    (cut_more x e f l d g k (cuts e f l d g k (ap tail_of q)))

never_least : (p q : Point) → Before p q → AtMost q p → ⊥
never_least p q b (inl e) = never p (subst (λ (z : Point). Before p z) e b)
never_least p q b (inr c) = never p (before_trans p q p b c)

module _ (d : Plan) (E : ℕ → Edge) (steps : List Step) (on : IsRunOf d E steps) (a : Point)
    (m : HalfEdges) (at : List Point) (f : ℕ) (is : AreHalvesOf d E a m at f)
    (o : HalfEdges) (by : List Point) (g : ℕ) (also : AreHalvesOf d E a o by g) where
  abbrev n : ℕ
  n = length d.curves

  half_below : (h : ℕ) → h < 2 * n → edge_of (half_of h) < n
  half_below h l = below_number (half_of h) n (let e = number_half h in omega (arith, l, e))

  -- ---- half-edges
  next_half : (x : Half) → edge_of x < n
      → half_of (next_of m (number x)) ≡ half_of (next_of o (number x))
  next_half x l =
      let (u, p) = is.next x l in
      let (v, q) = also.next x l in
      next_one (pos 0) n E steps on.run x (half_of (next_of m (number x)))
      (half_of (next_of o (number x)))
      (clockwise_is_next (pos 0) n E steps on.run x (half_of (next_of m (number x))) l u p)
      (clockwise_is_next (pos 0) n E steps on.run x (half_of (next_of o (number x))) l v q)

  one_next : (h : ℕ) → h < 2 * n → next_of m h ≡ next_of o h
  one_next h l =
      let e = next_half (half_of h) (half_below h l) in
      let at_h : number (half_of h) ≡ h = number_half h in
      sym (number_half (next_of m h))
      ∙ (ap number (ap (λ (i : ℕ). half_of (next_of m i)) (sym at_h)
      ∙ (e ∙ ap (λ (i : ℕ). half_of (next_of o i)) at_h)) ∙ number_half (next_of o h))

  next_below : (h : ℕ) → h < 2 * n → next_of m h < 2 * n
  next_below h l =
      let p = is.next (half_of h) (half_below h l) in
      let b = number_below (half_of (next_of m (number (half_of h)))) n p.0 in
      subst (λ (i : ℕ). i < 2 * n) (number_half (next_of m (number (half_of h)))
      ∙ ap (next_of m) (number_half h)) b

  steps_below : (k h : ℕ) → h < 2 * n → along (next_of m) k h < 2 * n
  steps_below zero h l = l
  steps_below (suc k) h l = next_below _ (steps_below k h l)

  one_way : (k h : ℕ) → h < 2 * n → along (next_of m) k h ≡ along (next_of o) k h
  one_way zero h l = refl
  one_way (suc k) h l = one_next _ (steps_below k h l) ∙ ap (next_of o) (one_way k h l)

  one_place : (h : ℕ) → h < 2 * n → place_of m at h ≡ place_of o by h
  one_place h l =
      ap (place_of m at) (sym (number_half h))
      ∙ (is.begins (half_of h) (half_below h l)
      ∙ (sym (also.begins (half_of h) (half_below h l)) ∙ ap (place_of o by) (number_half h)))

  one_face : (h : ℕ) → h < 2 * n → face_of m h ≡ f → face_of o h ≡ g
  one_face h l e =
      let x = half_of h in
      let at_h : number x ≡ h = number_half h in
      ap (face_of o) (sym at_h)
      ∙ (also.face x (half_below h l)).1
      ((is.face x (half_below h l)).0 (ap (face_of m) at_h ∙ e))

  -- ---- circles
  one_least : (h : ℕ) → h < 2 * n → IsLeast m h → IsLeast o h
  one_least h l least k = subst (λ (i : ℕ). h ≤ i) (one_way k h l) (least k)

  way_is : (k h : ℕ) → h < 2 * n → map (place_of m at) (way m h k) ≡ map (place_of o by) (way o h k)
  way_is zero h l = refl
  way_is (suc k) h l =
      ap (λ (p : Point). p ∷ map (place_of m at) (way m (next_of m h) k)) (one_place h l)
      ∙ ap (λ (ps : List Point). place_of o by h ∷ ps) (way_is k (next_of m h) (next_below h l)
      ∙ ap (λ (i : ℕ). map (place_of o by) (way o i k)) (one_next h l))

  one_count : (h i j : ℕ) → h < 2 * n → IsRound m h i → IsRound o h j → i ≡ j
  one_count h i j l r s = elim (cases_eq i j) [
    | inl e ↦ e
    | inr ne ↦ elim (cases_lt i j) [
      | inl less ↦ absurd (s.first i r.some less (sym (one_way i h l) ∙ r.back))
      | inr more ↦ absurd (r.first j s.some (omega (arith, more, ne)) (one_way j h l ∙ s.back))
    ]
  ]

  one_ring : (h : ℕ) (p q : List Point) → h < 2 * n → IsTraced m at h p → IsTraced o by h q → p ≡ q
  one_ring h p q l t s =
      t.is ∙ (way_is t.count h l
      ∙ (ap (λ (i : ℕ). map (place_of o by) (way o h i))
      (one_count h t.count s.count l t.round s.round) ∙ sym s.is))

  one_rings : (hs : List ℕ) (ps qs : List (List Point)) → ((h : ℕ) → Has h hs → h < 2 * n)
      → AreTraced m at hs ps → AreTraced o by hs qs → ps ≡ qs
  one_rings [] [] [] inside t s = refl
  one_rings [] [] (q ∷ qs) inside t s = absurd s
  one_rings [] (p ∷ ps) qs inside t s = absurd t
  one_rings (h ∷ hs) [] qs inside t s = absurd t
  one_rings (h ∷ hs) (p ∷ ps) [] inside t s = absurd s
  one_rings (h ∷ hs) (p ∷ ps) (q ∷ qs) inside (t, ts) (s, ss) =
      ap (λ (r : List Point). r ∷ ps) (one_ring h p q (inside h (inl refl)) t s)
      ∙ ap (λ (rs : List (List Point)). q ∷ rs) (one_rings hs ps qs (λ i k. inside i (inr k)) ts ss)

  one_corner : (h : ℕ) (p : Point) → h < 2 * n → IsCorner m at h p → IsCorner o by h p
  one_corner h p l (k, e) = (
    k,
    e ∙ (one_place (along (next_of m) k h) (steps_below k h l)
        ∙ ap (place_of o by) (one_way k h l)),
  )

module _ (d : Plan) (E : ℕ → Edge) (steps : List Step) (on : IsRunOf d E steps) (a : Point)
    (m : HalfEdges) (at : List Point) (f : ℕ) (is : AreHalvesOf d E a m at f)
    (o : HalfEdges) (by : List Point) (g : ℕ) (also : AreHalvesOf d E a o by g)
    (ps qs : List (List Point)) (p : IsPolygonOf m at f ps) (q : IsPolygonOf o by g qs) where
  abbrev many : ℕ
  many = 2 * length d.curves

  -- ---- the order of rings
  inside : (h : ℕ) → Has h p.starts → h < many
  inside h i = let l = (p.of_face.only h i).0 in let c = is.count in omega (arith, l, c)

  starts_are : p.starts ≡ q.starts
  starts_are =
      same_rising p.starts q.starts p.of_face.rising q.of_face.rising
      (λ h i. let s = p.of_face.only h i in
      let l = inside h i in
      let c = also.count in
      q.of_face.all h (omega (arith, l, c)) (one_least d E steps on a m at f is o by g also h l s.1)
      (one_face d E steps on a m at f is o by g also h l s.2))
      (λ h i. let s = q.of_face.only h i in
      let u = s.0 in
      let c = also.count in
      let l : h < many = omega (arith, u, c) in
      let b = is.count in
      p.of_face.all h (omega (arith, l, b)) (one_least d E steps on a o by g also m at f is h l s.1)
      (one_face d E steps on a o by g also m at f is h l s.2))

  both_lead : (e : List ℕ) (x : ℕ) (l : List ℕ) (c : List ℕ) (y : ℕ) (k : List ℕ)
      → p.starts ≡ e ++ x ∷ l → q.starts ≡ c ++ y ∷ k → Leads m at e x l → Leads o by c y k
      → (e ≡ c) × (x ≡ y) × (l ≡ k)
  both_lead e x l c y k u v s t =
      let same = sym u ∙ (starts_are ∙ v) in
      let there_x : x < many = inside x
      (subst (λ (hs : List ℕ). Has x hs) (sym u) (has_back x e (x ∷ l) (inl refl))) in
      let there_y : y < many = inside y
      (subst (λ (hs : List ℕ). Has y hs) (sym starts_are)
      (subst (λ (hs : List ℕ). Has y hs) (sym v) (has_back y c (y ∷ k) (inl refl)))) in
      elim (cuts e x l c y k same) [
        | inl w ↦ w
        | inr (inl (i, j)) ↦ absurd (never_least t.least s.least
            (t.before x s.least i
            (one_corner d E steps on a m at f is o by g also x s.least there_x s.corner))
            (s.after y t.least j
            (one_corner d E steps on a o by g also m at f is y t.least there_y t.corner)))
        | inr (inr (i, j)) ↦ absurd (never_least s.least t.least
            (s.before y t.least i
            (one_corner d E steps on a o by g also m at f is y t.least there_y t.corner))
            (t.after x s.least j
            (one_corner d E steps on a m at f is o by g also x s.least there_x s.corner)))
      ]

  orders_are : IsOrder m at p.starts p.order → IsOrder o by q.starts q.order → p.order ≡ q.order
  orders_are (no_ring s e) (no_ring t c) = e ∙ sym c
  orders_are (no_ring s e) (led c y k t u l) = absurd (empty (sym s ∙ (starts_are ∙ t)))
    where
      empty : [] ≡ c ++ y ∷ k → ⊥
      empty w = none c (ap length w)
        where
          none : (xs : List ℕ) → 0 ≡ length (xs ++ y ∷ k) → ⊥
          none [] z = absurd (omega (arith, z))
          none (x ∷ xs) z = absurd (omega (arith, z))
  orders_are (led c y k t u l) (no_ring s e) = absurd (empty (sym s ∙ (sym starts_are ∙ t)))
    where
      empty : [] ≡ c ++ y ∷ k → ⊥
      empty w = none c (ap length w)
        where
          none : (xs : List ℕ) → 0 ≡ length (xs ++ y ∷ k) → ⊥
          none [] z = absurd (omega (arith, z))
          none (x ∷ xs) z = absurd (omega (arith, z))
  orders_are (led e x l u r s) (led c y k v w t) =
      let (i, j, h) = both_lead e x l c y k u v s t in
      r ∙ (ap (λ (z : ℕ). z ∷ (e ++ l)) j
      ∙ (ap (λ (zs : List ℕ). y ∷ (zs ++ l)) i
      ∙ (ap (λ (zs : List ℕ). y ∷ (c ++ zs)) h ∙ sym w)))

  in_order : IsOrder m at p.starts p.order → (h : ℕ) → Has h p.order → h < many
  in_order (no_ring s e) h i = absurd (subst (λ (hs : List ℕ). Has h hs) e i)
  in_order (led c y k t u l) h i =
      inside h (subst (λ (hs : List ℕ). Has h hs) (sym t)
      (has_unmoved c k y h (subst (λ (hs : List ℕ). Has h hs) u i)))

  pub one_polygon : ps ≡ qs
  one_polygon =
      one_rings d E steps on a m at f is o by g also p.order ps qs (in_order p.ordered) p.traced
      (subst (λ (hs : List ℕ). AreTraced o by hs qs)
      (sym (orders_are p.ordered q.ordered)) q.traced)
