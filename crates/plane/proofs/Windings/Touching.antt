-- A place of an edge, in the closure of a cell: some half-edge through the place has the cell's
-- label.
use Rattle.std.proofs.Common.{◌≡◌, ℕ, suc, ◌<◌, ◌≤◌, List, [], ◌∷◌, ◌++◌, ℤ, pos, ◌*ℤ◌, ◌<ℤ◌, ◌≤ℤ◌}
use Rattle.std.proofs.Common.{inl, inr, refl, arith, ap, sym, ◌∙◌, subst}
use Rattle.std.proofs.lemmas.Int.{ints, by_lt_z}
use Rattle.plane.specs.declared.kinds.Point.{Point}
use Rattle.plane.specs.Lists.{Has, First}
use Rattle.plane.specs.Forms.Vectors.{Vector, Place, Same, point, Edge, side, sweep, rise, lift}
use Rattle.plane.specs.Forms.Vectors.{gap, On}
use Rattle.plane.specs.Faces.Replays.{Replay}
use Rattle.plane.specs.Faces.Halves.{Half, under, over, edge_of, IsMatched, mark}
use Rattle.plane.specs.Faces.Labels.{Labels, Match, last_label}
use Rattle.plane.proofs.Algebra.Laws.{product_positive}
use Rattle.plane.proofs.Algebra.Scaling.{product_of_zero, product_negative}
use Rattle.plane.proofs.ListLemmas.Lists.{has_front, has_back, has_append, neighbours_front}
use Rattle.plane.proofs.ListLemmas.Lists.{neighbours_back}
use Rattle.plane.proofs.Linear.Vectors.{rise-is, side-low, side-high}
use Rattle.plane.proofs.Linear.Signs.{by_sign}
use Rattle.plane.proofs.Runs.Order.{higher_side, lower_side}
use Rattle.plane.proofs.Linear.OnePlace.{side_same}
use Rattle.plane.proofs.Linear.Clear.{on_same}
use Rattle.plane.proofs.Strips.ToTheRight.{spans_strip, scaled_rising}
use Rattle.plane.proofs.LabelLemmas.HalfLabels.{labelled}
use Rattle.plane.proofs.LabelLemmas.Matches.{match_back}
use Rattle.plane.proofs.Windings.Under.{by_order}
use Rattle.plane.proofs.Windings.TubeCells.{floor_is}
use Rattle.plane.proofs.Windings.Whole.{IsWhole}
use Rattle.plane.proofs.Windings.Enters.{decide_z, look, high_same, starts, finishes}
use Rattle.plane.proofs.Windings.Closures.{WeakOrder, AllRise, weak_order, weak_above, weak_first}
use Rattle.plane.proofs.Windings.Closures.{IsClose}
use Rattle.plane.proofs.Runs.Meeting.{same_place}

-- a place of an edge on the sweep line of its low end is that end
low_same : (w : ℤ) (e : Edge) (z : Vector) → pos 0 <ℤ rise w e → Place z → side e z ≡ pos 0
    → sweep w z ≡ sweep w (point e.low) *ℤ z.n → Same z (point e.low)
low_same w e z up Z line level =
    let q = side-low e in
    by_sign (lift z (point e.low))
    (λ (l : lift z (point e.low) <ℤ pos 0). let x = lower_side w e z e.low level Z up l
    (omega (arith, ints, q)) in absurd (omega (arith, ints, x, line)))
    (λ l. same_place w z e.low level l)
    (λ (l : pos 0 <ℤ lift z (point e.low)). let x = higher_side w e z e.low level Z up l
    (omega (arith, ints, q)) in absurd (omega (arith, ints, x, line)))

-- the ends of an edge are on it
pub low_on : (w : ℤ) (e : Edge) (z : Vector) → pos 0 <ℤ rise w e → Place z → Same z (point e.low)
    → On w e z
low_on w e z up Z h =
    let r = rise-is w e in
    on_same w e (point e.low) z (record { x = sym h.x; y = sym h.y }) (omega (arith, ints)) Z
    (record { line = side-low e; low = omega (arith, ints); high = omega (arith, ints, r, up) })

pub high_on : (w : ℤ) (e : Edge) (z : Vector) → pos 0 <ℤ rise w e → Place z → Same z (point e.high)
    → On w e z
high_on w e z up Z h =
    let r = rise-is w e in
    on_same w e (point e.high) z (record { x = sym h.x; y = sym h.y }) (omega (arith, ints)) Z
    (record {
      line = side-high e;
      low = omega (arith, ints, r, up);
      high = omega (arith, ints);
    })

-- signs at a point and at its vectors
point_side : (e : Edge) (z : Vector) (v : Point) → Same z (point v)
    → side e z ≡ z.n *ℤ side e (point v)
point_side e z v h = let s = side_same e z (point v) h in omega (arith, ints, s)

module _ (r : Replay) (whole : IsWhole r) (lab : Labels) (matched : IsMatched r lab) where
  -- a half-edge through z with the label
  pub record IsTouched (z : Vector) (label : ℕ) : Type 0 where
    pub half : Half
    pub fits : edge_of half < r.edges
    pub on : On r.weight (r.edge (edge_of half)) z
    pub labelled : mark lab half ≡ label

  last_zero : (z : Vector) (xs : List ℕ) (f c : ℕ) → AllRise r z xs → WeakOrder r z xs
      → ((e : ℕ) → Has e xs → pos 0 ≤ℤ side (r.edge e) z) → Has f xs → side (r.edge f) z ≡ pos 0
      → (g : ℕ) × Has g xs × (side (r.edge g) z ≡ pos 0) × (lab.above g ≡ last_label lab c xs)
  last_zero z [] f c up h all m q = absurd m
  last_zero z (x ∷ []) f c up h all (inl e) q =
      (x, inl refl, subst (λ (d : ℕ). side (r.edge d) z ≡ pos 0) e q, refl)
  last_zero z (x ∷ []) f c up h all (inr m) q = absurd m
  last_zero z (x ∷ (y ∷ ys)) f c up h all (inl e) q =
      let sx = subst (λ (d : ℕ). side (r.edge d) z ≡ pos 0) e q in
      let a = weak_above r z x (y ∷ ys) up h (omega (arith, ints, sx)) y (inl refl) in
      let b = all y (inr (inl refl)) in
      let i = last_zero z (y ∷ ys) y c (λ d m. up d (inr m)) h.1 (λ d m. all d (inr m)) (inl refl)
      (omega (arith, ints, a, b)) in
      (i.0, inr i.1, i.2, i.3)
  last_zero z (x ∷ (y ∷ ys)) f c up h all (inr m) q =
      let i = last_zero z (y ∷ ys) f c (λ d m. up d (inr m)) h.1 (λ d m. all d (inr m)) m q in
      (i.0, inr i.1, i.2, i.3)

  split_at : (f : ℕ) (xs : List ℕ) → Has f xs
      → (ys : List ℕ) × (zs : List ℕ) × (xs ≡ ys ++ (f ∷ zs))
  split_at f [] m = absurd m
  split_at f (x ∷ xs) (inl e) = ([], xs, ap (λ (d : ℕ). d ∷ xs) (sym e))
  split_at f (x ∷ xs) (inr m) =
      let i = split_at f xs m in (x ∷ i.0, i.1, ap (λ (es : List ℕ). x ∷ es) i.2)

  first_zero : (z : Vector) (f y : ℕ) (ys : List ℕ) → AllRise r z (y ∷ ys) → WeakOrder r z (y ∷ ys)
      → side (r.edge y) z ≤ℤ pos 0 → Has f (y ∷ ys) → side (r.edge f) z ≡ pos 0
      → side (r.edge y) z ≡ pos 0
  first_zero z f y ys up h l m q =
      let s = split_at f (y ∷ ys) m in
      let k = weak_first r z s.0 f s.1 (subst (λ (es : List ℕ). AllRise r z es) s.2 up)
      (subst (λ (es : List ℕ). WeakOrder r z es) s.2 h) (omega (arith, ints, q)) in
      let g : First (λ d. pos 0 ≤ℤ side (r.edge d) z) (y ∷ ys) = subst
      (λ (es : List ℕ). First (λ d. pos 0 ≤ℤ side (r.edge d) z) es) (sym s.2) k.0 in
      omega (arith, ints, g, l)

  -- the label under the first edge of a block is the label over the edges before it
  first_label : (k : ℕ) (xs block above : List ℕ) (e : ℕ) → k ≤ r.steps
      → r.list k ≡ xs ++ (block ++ above) → Has e block
      → (x : ℕ) × Has x block × (x < r.edges) × (lab.below x ≡ last_label lab 0 xs)
  first_label k xs [] above e fits cut m = absurd m
  first_label k xs (x ∷ block) above e fits cut m =
      let all = subst (λ (es : List ℕ). Match lab 0 es 0) cut
      (labelled r whole.run whole.law lab matched k fits) in
      let up = match_back lab 0 0 xs ((x ∷ block) ++ above) all in (
        x,
        inl refl,
        whole.law.live k x fits
            (subst (λ (es : List ℕ). Has x es) (sym cut)
            (has_back x xs ((x ∷ block) ++ above) (inl refl))),
        sym up.0,
      )

  module _ (k : ℕ) (lower upper : List ℕ) (z : Vector) (Z : Place z)
      (close : IsClose r k lower upper z) where
    live_rise : (e : ℕ) → Has e (lower ++ upper) → pos 0 <ℤ rise r.weight (r.edge e)
    live_rise e m =
        whole.run.rise e
        (whole.law.live k e close.fits (subst (λ (es : List ℕ). Has e es) (sym close.is) m))

    order : WeakOrder r z (lower ++ upper)
    order = subst (λ (es : List ℕ). WeakOrder r z es) close.is
        (weak_order r whole.run whole.law k z close.fits Z close.closed)

    touched_by : (h : Half) → Has (edge_of h) (lower ++ upper) → side (r.edge (edge_of h)) z ≡ pos 0
        → mark lab h ≡ last_label lab 0 lower → IsTouched z (last_label lab 0 lower)
    touched_by h m q e =
        let n = subst (λ (es : List ℕ). Has (edge_of h) es) (sym close.is) m in
        let s = spans_strip r whole.run whole.law k (edge_of h) z close.fits n close.closed in
        record {
          half = h;
          fits = whole.law.live k (edge_of h) close.fits n;
          on = record { line = q; low = s.low; high = s.high };
          labelled = e;
        }

    in_upper : (f : ℕ) (ys : List ℕ) → upper ≡ ys → Has f ys → side (r.edge f) z ≡ pos 0
        → IsTouched z (last_label lab 0 lower)
    in_upper f [] e m q = absurd m
    in_upper f (y ∷ ys) e m q =
        let all = subst (λ (es : List ℕ). Match lab 0 es 0) close.is
        (labelled r whole.run whole.law lab matched k close.fits) in
        let up = subst (λ (es : List ℕ). Match lab (last_label lab 0 lower) es 0) e
        (match_back lab 0 0 lower upper all) in
        let has : Has y upper = subst (λ (es : List ℕ). Has y es) (sym e) (inl refl) in
        let w = subst (λ (es : List ℕ). WeakOrder r z es) e
        (neighbours_back (λ a b. gap r.weight (r.edge a) (r.edge b) z ≤ℤ pos 0) lower upper
        order) in
        touched_by (under y) (has_back y lower upper has)
        (first_zero z f y ys
        (λ d i. live_rise d
        (has_back d lower upper (subst (λ (es : List ℕ). Has d es) (sym e) i))) w
        (close.over y has) m q)
        (sym up.0)

    in_list : (f : ℕ) → Has f (lower ++ upper) → side (r.edge f) z ≡ pos 0
        → IsTouched z (last_label lab 0 lower)
    in_list f m q = elim (has_append f lower upper m) [
      | inl i ↦
          let g = last_zero z lower f 0 (λ d j. live_rise d (has_front d lower upper j))
          (neighbours_front (λ a b. gap r.weight (r.edge a) (r.edge b) z ≤ℤ pos 0) lower upper
          order) close.beneath i q in
          touched_by (over g.0) (has_front g.0 lower upper g.1) g.2 g.3
      | inr i ↦ in_upper f upper refl i q
    ]

    -- no edge of the list goes through z
    module _ (none : (e : ℕ) → Has e (r.list k) → side (r.edge e) z ≡ pos 0 → ⊥) where
      strict_lower : (e : ℕ) → Has e lower → pos 0 <ℤ side (r.edge e) z
      strict_lower e m =
          let b = close.beneath e m in
          by_lt_z (pos 0) (side (r.edge e) z) (λ l. l)
          (λ (l : side (r.edge e) z ≤ℤ pos 0). absurd
          (none e (subst (λ (es : List ℕ). Has e es) (sym close.is) (has_front e lower upper m))
          (omega (arith, ints, l, b))))

      -- the label over the edges below an event at z
      label_at : (j : ℕ) (block : List ℕ) → j < r.steps → Same z (point (r.step j).at)
          → r.list k ≡ (r.step j).below ++ (block ++ (r.step j).above)
          → ((e : ℕ) → Has e block → side (r.edge e) (point (r.step j).at) ≡ pos 0)
          → last_label lab 0 lower ≡ last_label lab 0 (r.step j).below
      label_at j block l same cut zeros =
          let v = (r.step j).at in
          sym (floor_is r lab z k lower upper close.is strict_lower close.over)
          ∙ floor_is r lab z k (r.step j).below (block ++ (r.step j).above) cut
          (λ e m. let p = product_positive z.n (side (r.edge e) (point v)) Z
          (whole.law.under j l e m) in let s = point_side (r.edge e) z v same in
          omega (arith, ints, p, s))
          (λ e m. elim (has_append e block (r.step j).above m) [
            | inl i ↦ let p = product_of_zero z.n (side (r.edge e) (point v)) (zeros e i) in
                let s = point_side (r.edge e) z v same in omega (arith, ints, p, s)
            | inr i ↦ let p =
                product_negative z.n (side (r.edge e) (point v)) Z (whole.law.over j l e i) in
                let s = point_side (r.edge e) z v same in omega (arith, ints, p, s)
          ])

      at_start : (f : ℕ) → f < r.edges → k < r.steps → (r.edge f).low ≡ (r.step k).at
          → Same z (point (r.step k).at) → IsTouched z (last_label lab 0 lower)
      at_start f l fits q same =
          let s = r.step k in
          let a = label_at k s.ending fits same (whole.run.before k fits)
          (λ e m. subst (λ (p : Point). side (r.edge e) (point p) ≡ pos 0)
          (whole.run.ending k fits e m) (side-high (r.edge e))) in
          let x = first_label (suc k) s.below s.starting s.above f (omega arith)
          (whole.run.after k fits) (starts r whole lab matched k f fits l q) in
          record {
            half = under x.0;
            fits = x.2;
            on = low_on r.weight (r.edge x.0) z (whole.run.rise x.0 x.2) Z
                (subst (λ (p : Point). Same z (point p))
                (sym (whole.run.starting k fits x.0 x.1)) same);
            labelled = x.3 ∙ sym a;
          }

      at_finish : (j f : ℕ) → f < r.edges → j < r.steps → k ≡ suc j
          → (r.edge f).high ≡ (r.step j).at → Same z (point (r.step j).at)
          → IsTouched z (last_label lab 0 lower)
      at_finish j f l fits e q same =
          let s = r.step j in
          let a = label_at j s.starting fits same (ap r.list e ∙ whole.run.after j fits)
          (λ e m. subst (λ (p : Point). side (r.edge e) (point p) ≡ pos 0)
          (whole.run.starting j fits e m) (side-low (r.edge e))) in
          let x = first_label j s.below s.ending s.above f (omega arith) (whole.run.before j fits)
          (finishes r whole lab matched j f fits l q) in
          record {
            half = under x.0;
            fits = x.2;
            on = high_on r.weight (r.edge x.0) z (whole.run.rise x.0 x.2) Z
                (subst (λ (p : Point). Same z (point p))
                (sym (whole.run.ending j fits x.0 x.1)) same);
            labelled = x.3 ∙ sym a;
          }

      not_live : (f : ℕ) → f < r.edges → On r.weight (r.edge f) z
          → IsTouched z (last_label lab 0 lower)
      not_live f l on =
          let i = whole.run.begins f l in
          let j = whole.run.ends f l in
          let low = subst (λ (p : Point). (sweep r.weight (point p) *ℤ z.n) ≤ℤ sweep r.weight z)
          (sym i.2) on.low in
          let high = subst (λ (p : Point). sweep r.weight z ≤ℤ (sweep r.weight (point p) *ℤ z.n))
          (sym j.2) on.high in
          by_order i.0 k
          (λ (a : i.0 < k). by_order j.0 k
          (λ (b : j.0 < k).
          let c = close.closed.from j.0 b in
          let e : k ≡ suc j.0 = by_order (suc j.0) k
          (λ (d : suc j.0 < k).
          let x = close.closed.from (suc j.0) d in
          let fits = close.fits in
          let y = scaled_rising r whole.run j.0 (suc j.0) z.n Z (omega arith)
          (omega (arith, fits, d)) in
          absurd (omega (arith, ints, x, y, high)))
          (λ (d : k ≤ suc j.0). omega (arith, b, d)) in
          let s = high_same r.weight (r.edge f) z (whole.run.rise f l) Z on.line
          (let x = ap (λ (p : Point). sweep r.weight (point p) *ℤ z.n) j.2 in
          omega (arith, ints, x, c, high)) in
          at_finish j.0 f l j.1 e (sym j.2) (subst (λ (p : Point). Same z (point p)) (sym j.2) s))
          (λ (b : k ≤ j.0). absurd
          (none f (whole.law.alive k f i.0 j.0 l a i.2 b j.1 j.2) on.line)))
          (λ (a : k ≤ i.0).
          let il = i.1 in
          let c = close.closed.to k (omega arith) (omega (arith, il, a)) in
          let e : i.0 ≡ k = by_order k i.0
          (λ (d : k < i.0). let y = scaled_rising r whole.run k i.0 z.n Z d i.1 in
          absurd (omega (arith, ints, c, y, low)))
          (λ (d : i.0 ≤ k). omega (arith, a, d)) in
          let q : (r.edge f).low ≡ (r.step k).at = sym i.2 ∙ ap (λ (n : ℕ). (r.step n).at) e in
          let s = low_same r.weight (r.edge f) z (whole.run.rise f l) Z on.line
          (let x = ap (λ (p : Point). sweep r.weight (point p) *ℤ z.n) q in
          omega (arith, ints, x, c, on.low)) in
          at_start f l (omega (arith, il, a)) q (subst (λ (p : Point). Same z (point p)) q s))

    -- an edge goes through z
    pub touched : (f : ℕ) → f < r.edges → On r.weight (r.edge f) z
        → IsTouched z (last_label lab 0 lower)
    touched f l on =
        elim (look ℕ (λ e. side (r.edge e) z ≡ pos 0) (r.list k)
        (λ e. decide_z (side (r.edge e) z) (pos 0))) [
          | inl h ↦ in_list h.0 (subst (λ (es : List ℕ). Has h.0 es) close.is h.1) h.2
          | inr n ↦ not_live (λ e m q. n (e, m, q)) f l on
        ]
