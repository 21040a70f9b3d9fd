-- The cells of joins join half-edges as those of which the joins are.
use Rattle.std.proofs.Common.{◌≡◌, ◌⊎◌, inl, inr, ℕ, zero, suc, ◌*◌, ◌/◌, ◌%◌, ◌<◌, ◌≤◌, Some, None}
use Rattle.std.proofs.Common.{List, length, map, refl, sym, ap, subst, ◌∙◌, arith}
use Rattle.half_edges.specs.HalfEdges.{over_of, under_of}
use Rattle.plane.specs.Lists.{Has}
use Rattle.plane.specs.Runs.Gaps.{Gap}
use Rattle.faces.specs.declared.joins.Joins.{Joins}
use Rattle.faces.specs.declared.partners.Partners.{Partners}
use Rattle.faces.specs.Joined.{Across, AreKnown, AtBorder, IsBetween, highest, lowest}
use Rattle.faces.specs.Joins.{AreJoins, border_cell, cell_beside, cell_over, cells_of, cells_over}
use Rattle.faces.specs.Rows.{row_of}
use Rattle.faces.proofs.Borders.{none_some, some_is}
use Rattle.faces.proofs.FlatLists.{map_has}
use Rattle.faces.proofs.PairCounts.{by_lt}
use Rattle.faces.proofs.PlaneLaws.{has_append, has_back, has_front, has_map}

-- ---- the cells of rows
has_over : (p : Partners) (m e g : ℕ) → e < m → Has g (row_of p (over_of e))
    → Has (cell_over e g) (cells_over p m)
has_over p zero e g l k = absurd (omega (arith, l))
has_over p (suc m) e g l k = by_lt e m
    (λ (b : e < m). has_back (cell_over e g) (map (cell_over m) (row_of p (over_of m)))
    (cells_over p m) (has_over p m e g b k))
    (λ (b : m ≤ e). let q : e ≡ m = omega (arith, l, b) in
    has_front (cell_over e g) (map (cell_over m) (row_of p (over_of m))) (cells_over p m)
    (subst (λ (x : ℕ). Has (cell_over e g) (map (cell_over x) (row_of p (over_of x)))) q
    (has_map (cell_over e) g (row_of p (over_of e)) k)))

over_has : (p : Partners) (m : ℕ) (c : Gap) → Has c (cells_over p m)
    → (e : ℕ) × (g : ℕ) × (e < m) × Has g (row_of p (over_of e)) × (cell_over e g ≡ c)
over_has p zero c h = absurd h
over_has p (suc m) c h =
    elim (has_append c (map (cell_over m) (row_of p (over_of m))) (cells_over p m) h) [
      | inl k ↦ (let (g, w, q) = map_has (cell_over m) (row_of p (over_of m)) c k in
          (m, g, omega arith, w, q))
      | inr k ↦ (let (e, g, l, w, q) = over_has p m c k in (e, g, omega (arith, l), w, q))
    ]

-- ---- numbers of half-edges
half_under : (e g : ℕ) → g ≡ under_of e → (g / 2 ≡ e) × (g % 2 ≡ 0)
half_under e g q = (omega (arith, q), omega (arith, q))

half_over : (e g : ℕ) → g ≡ over_of e → (g / 2 ≡ e) × (g % 2 ≡ 1)
half_over e g q = (omega (arith, q), omega (arith, q))

-- ---- the same half-edges are joined
module _ (n : ℕ) (cells : List Gap) (j : Joins) (is : AreJoins n cells j) (even : n % 2 ≡ 0) where
  abbrev m : ℕ
  m = length j.partners.first.items / 2

  twice : 2 * m ≡ n
  twice = let s = is.rows.size in omega (arith, s, even)

  at_back : (c : Gap) → Has c (map border_cell j.border.items) → Has c (cells_of j)
  at_back c k = has_back c (cells_over j.partners m) (map border_cell j.border.items) k

  at_front : (c : Gap) → Has c (cells_over j.partners m) → Has c (cells_of j)
  at_front c k = has_front c (cells_over j.partners m) (map border_cell j.border.items) k

  -- a cell at the border: below its edge, or above
  abbrev Lowest : Gap → Type 0
  Lowest c = (e : ℕ) × (c.lower ≡ None) × (c.upper ≡ Some e) × AtBorder cells (under_of e)

  abbrev Highest : Gap → Type 0
  Highest c = (e : ℕ) × (c.lower ≡ Some e) × (c.upper ≡ None) × AtBorder cells (over_of e)

  -- a cell between two edges
  abbrev Inner : Gap → Type 0
  Inner c = (l : ℕ) × (u : ℕ) × (c.lower ≡ Some l) × (c.upper ≡ Some u)
      × IsBetween cells (over_of l) (under_of u)

  by_rest : (c : Gap) (h x : ℕ) → AtBorder cells h → h % 2 ≡ x → cell_beside x (h / 2) ≡ c
      → Lowest c ⊎ Highest c
  by_rest c h zero b r q =
      let e : h ≡ under_of (h / 2) = omega (arith, r) in
      inl (
        h / 2,
        ap (λ (g : Gap). g.lower) (sym q),
        ap (λ (g : Gap). g.upper) (sym q),
        subst (AtBorder cells) e b,
      )
  by_rest c h (suc x) b r q =
      let e : h ≡ over_of (h / 2) = omega (arith, r) in
      inr (
        h / 2,
        ap (λ (g : Gap). g.lower) (sym q),
        ap (λ (g : Gap). g.upper) (sym q),
        subst (AtBorder cells) e b,
      )

  inner_is : (c : Gap) (e g : ℕ) → e < m → Across cells (over_of e) g → cell_over e g ≡ c → Inner c
  inner_is c e g l (inl b) q =
      let h = half_under b.upper g b.high_side in
      let same_low : over_of b.lower ≡ over_of e = sym b.low_side in
      let same_high : under_of b.upper ≡ under_of (g / 2) = (let a = h.0 in omega (arith, a)) in (
        e,
        g / 2,
        ap (λ (x : Gap). x.lower) (sym q),
        ap (λ (x : Gap). x.upper) (sym q),
        record {
          lower = b.lower;
          upper = b.upper;
          cell = b.cell;
          low_side = sym same_low;
          high_side = sym same_high;
        },
      )
  inner_is c e g l (inr b) q = let h = b.high_side in absurd (omega (arith, h))

  -- each of the cells is one of these
  kind : (c : Gap) → Has c (cells_of j) → Inner c ⊎ (Lowest c ⊎ Highest c)
  kind c h = elim (has_append c (cells_over j.partners m) (map border_cell j.border.items) h) [
    | inl k ↦ (let (e, g, l, w, q) = over_has j.partners m c k in
        inl (inner_is c e g l
        ((is.rows.rows (over_of e) g (let t = twice in omega (arith, l, t))).0 w) q))
    | inr k ↦ (let (x, w, q) = map_has border_cell j.border.items c k in
        inr (by_rest c x (x % 2) ((is.border x).0 w) refl q))
  ]

  -- ---- across
  between_to : (g h : ℕ) → IsBetween cells g h → IsBetween (cells_of j) g h
  between_to g h b =
      let (c, k, l, u) = b.cell in
      let known = is.known c b.lower k (inl l) in
      let low = b.low_side in
      let t = twice in
      let w = (is.rows.rows g h (omega (arith, low, known))).1 (inl b) in
      let up = half_under b.upper h b.high_side in
      record {
        lower = b.lower;
        upper = b.upper;
        cell = (
          cell_over b.lower h,
          at_front (cell_over b.lower h)
              (has_over j.partners m b.lower h (omega (arith, known, t))
              (subst (λ (x : ℕ). Has h (row_of j.partners x)) low w)),
          refl,
          ap (λ (x : ℕ). Some x) up.0,
        );
        low_side = b.low_side;
        high_side = b.high_side;
      }

  between_from : (g h : ℕ) → IsBetween (cells_of j) g h → IsBetween cells g h
  between_from g h b =
      let (c, k, l, u) = b.cell in
      elim (kind c k) [
        | inl (x, y, p, q, w) ↦
            let e : x ≡ b.lower = some_is c.lower x b.lower p l in
            let f : y ≡ b.upper = some_is c.upper y b.upper q u in
            subst (λ (i : ℕ). IsBetween cells i h) (ap over_of e ∙ sym b.low_side)
            (subst (λ (i : ℕ). IsBetween cells (over_of x) i) (ap under_of f
            ∙ sym b.high_side) w)
        | inr (inl (e, p, q, w)) ↦ none_some c.lower b.lower p l
        | inr (inr (e, p, q, w)) ↦ none_some c.upper b.upper q u
      ]

  across_to : (g h : ℕ) → Across cells g h → Across (cells_of j) g h
  across_to g h (inl b) = inl (between_to g h b)
  across_to g h (inr b) = inr (between_to h g b)

  across_from : (g h : ℕ) → Across (cells_of j) g h → Across cells g h
  across_from g h (inl b) = inl (between_from g h b)
  across_from g h (inr b) = inr (between_from h g b)

  -- ---- at the border
  border_to : (h : ℕ) → AtBorder cells h → AtBorder (cells_of j) h
  border_to h b = by_kind b
    where
      here : Has (border_cell h) (cells_of j)
      here = at_back (border_cell h) (has_map border_cell h j.border.items ((is.border h).1 b))

      by_kind : AtBorder cells h → AtBorder (cells_of j) h
      by_kind (lowest e c w) =
          let x = half_under e h w in
          lowest e (
            border_cell h,
            here,
            ap (λ (n : ℕ). (cell_beside n (h / 2)).lower) x.1,
            ap (λ (n : ℕ). (cell_beside n (h / 2)).upper) x.1 ∙ ap (λ (n : ℕ). Some n) x.0,
          ) w
      by_kind (highest e c w) =
          let x = half_over e h w in
          highest e (
            border_cell h,
            here,
            ap (λ (n : ℕ). (cell_beside n (h / 2)).lower) x.1
                ∙ ap (λ (n : ℕ). Some n) x.0,
            ap (λ (n : ℕ). (cell_beside n (h / 2)).upper) x.1,
          ) w

  border_from : (h : ℕ) → AtBorder (cells_of j) h → AtBorder cells h
  border_from h (lowest e (c, k, l, u) w) = elim (kind c k) [
    | inl (x, y, p, q, v) ↦ none_some c.lower x l p
    | inr (inl (x, p, q, v)) ↦ subst (AtBorder cells) (ap under_of (some_is c.upper x e q u)
        ∙ sym w) v
    | inr (inr (x, p, q, v)) ↦ none_some c.lower x l p
  ]
  border_from h (highest e (c, k, l, u) w) = elim (kind c k) [
    | inl (x, y, p, q, v) ↦ none_some c.upper y u q
    | inr (inl (x, p, q, v)) ↦ none_some c.lower e p l
    | inr (inr (x, p, q, v)) ↦ subst (AtBorder cells) (ap over_of (some_is c.lower x e p l)
        ∙ sym w) v
  ]

  -- ---- numbers
  between_known : (l u : ℕ) → IsBetween cells (over_of l) (under_of u)
      → (over_of l < n) × (over_of u < n)
  between_known l u b =
      let (c, k, x, y) = b.cell in
      let low = is.known c b.lower k (inl x) in
      let high = is.known c b.upper k (inr y) in
      let p = b.low_side in
      let q = b.high_side in
      (omega (arith, low, p), omega (arith, high, q))

  border_known : (h : ℕ) → AtBorder cells h → (e : ℕ) → (h ≡ under_of e) ⊎ (h ≡ over_of e)
      → over_of e < n
  border_known h (lowest d (c, k, x, y) w) e (inl q) =
      let l = is.known c d k (inr y) in omega (arith, l, w, q)
  border_known h (lowest d (c, k, x, y) w) e (inr q) = absurd (omega (arith, w, q))
  border_known h (highest d (c, k, x, y) w) e (inl q) = absurd (omega (arith, w, q))
  border_known h (highest d (c, k, x, y) w) e (inr q) =
      let l = is.known c d k (inl x) in omega (arith, l, w, q)

  known_as : (f : ℕ) (g : ℕ) → g ≡ f → over_of g < n → over_of f < n
  known_as f g q l = omega (arith, q, l)

  all_known : AreKnown n (cells_of j)
  all_known c f h w = by_kind (kind c h) w
    where
      by_kind : Inner c ⊎ (Lowest c ⊎ Highest c) → (c.lower ≡ Some f) ⊎ (c.upper ≡ Some f)
          → over_of f < n
      by_kind (inl (l, u, p, q, b)) (inl e) =
          known_as f l (some_is c.lower l f p e) (between_known l u b).0
      by_kind (inl (l, u, p, q, b)) (inr e) =
          known_as f u (some_is c.upper u f q e) (between_known l u b).1
      by_kind (inr (inl (x, p, q, b))) (inl e) = none_some c.lower f p e
      by_kind (inr (inl (x, p, q, b))) (inr e) =
          known_as f x (some_is c.upper x f q e) (border_known (under_of x) b x (inl refl))
      by_kind (inr (inr (x, p, q, b))) (inl e) =
          known_as f x (some_is c.lower x f p e) (border_known (over_of x) b x (inr refl))
      by_kind (inr (inr (x, p, q, b))) (inr e) = none_some c.upper f q e

  -- the joins of the cells are those of the cells that they make
  pub joins_again : AreJoins n (cells_of j) j
  joins_again = record {
    known = all_known;
    rows = record {
      size = is.rows.size;
      rises = is.rows.rises;
      ends = is.rows.ends;
      rows = λ h g l. (
        (λ w. across_to h g ((is.rows.rows h g l).0 w)),
        (λ w. (is.rows.rows h g l).1 (across_from h g w)),
      );
    };
    border = λ h. (
      (λ w. border_to h ((is.border h).0 w)),
      (λ w. (is.border h).1 (border_from h w)),
    );
  }
