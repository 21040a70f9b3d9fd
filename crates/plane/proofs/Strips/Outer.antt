-- A place is outer exactly where its cell is linked to the first one.
-- Far enough to the left every place is in the first cell.
use Rattle.std.proofs.Common.{◌≡◌, ℕ, zero, suc, ◌<◌, ◌≤◌, List, [], ◌∷◌, length, ℤ, pos, ◌+ℤ◌}
use Rattle.std.proofs.Common.{◌*ℤ◌, ◌-ℤ◌, ◌<ℤ◌, ◌≤ℤ◌, refl, arith, ap, sym, ◌∙◌, inr, ◌↔◌, subst}
use Rattle.std.proofs.lemmas.Int.{ints, by_lt_z}
use Rattle.plane.specs.declared.kinds.Point.{Point}
use Rattle.plane.specs.Forms.Vectors.{Vector, Place, point, Edge, side, sweep, rise, InSpan}
use Rattle.plane.specs.Faces.Replays.{Replay, IsOffEdges, reach}
use Rattle.plane.proofs.Runs.RunWords.{IsRun, IsLawful, IsStrip}
use Rattle.plane.specs.Faces.Cells.{corner, Sector, sector, strip, raised, Linked}
use Rattle.plane.proofs.Strips.OuterWords.{IsOuterByEdges}
use Rattle.plane.proofs.Algebra.Laws.{weight_at_most}
use Rattle.plane.proofs.Algebra.Scaling.{times_le, times_lt}
use Rattle.plane.proofs.Linear.Vectors.{rise-is}
use Rattle.plane.proofs.Strips.CountBelow.{raised_all}
use Rattle.plane.proofs.Strips.ToTheRight.{closed_strip, spans_strip, cells_eq, reach_most}
use Rattle.plane.proofs.Strips.OneStrip.{strip_is, strip_only, linked_join, by_last}
use Rattle.plane.proofs.Strips.Columns.{cell_is}
use Rattle.plane.proofs.Strips.Joins.{linked_joined, joined_linked}
use Rattle.plane.proofs.Strips.Borders.{border_linked}
use Rattle.plane.proofs.Algebra.Ring.{Expr, at, num, plus, minus, times, vars, ring}

-- how far the edge's place at the sweep value of z is to the right
span_x : (w : ℤ) (e : Edge) (z : Vector) → (rise w e *ℤ z.x) +ℤ side e z
    ≡ (((sweep w (point e.high) *ℤ z.n) -ℤ sweep w z) *ℤ e.low.x)
    +ℤ ((sweep w z -ℤ (sweep w (point e.low) *ℤ z.n)) *ℤ e.high.x)
unfolding side sweep rise
span_x w e z =
    let LX = at 0 in
    let LY = at 1 in
    let HX = at 2 in
    let HY = at 3 in let X = at 4 in let Y = at 5 in let N = at 6 in let W = at 7 in
    let s : Expr → Expr → Expr = λ x y. plus (times W x) y in
    ring (plus (times (minus (s HX HY) (s LX LY)) X)
    (minus (times (minus HX LX) (minus Y (times LY N)))
    (times (minus HY LY) (minus X (times LX N)))))
    (plus (times (minus (times (s HX HY) N) (s X Y)) LX)
    (times (minus (s X Y) (times (s LX LY) N)) HX))
    (vars (e.low.x ∷ e.low.y ∷ e.high.x ∷ e.high.y ∷ z.x ∷ z.y ∷ z.n ∷ w ∷ [])) refl

-- a place to the left of an edge's ends, with a sweep value in its span, is above it
left_of : (w b : ℤ) (e : Edge) (z : Vector) → pos 0 <ℤ rise w e → b ≤ℤ e.low.x → b ≤ℤ e.high.x
    → InSpan w e z → z.x <ℤ (b *ℤ z.n) → pos 0 <ℤ side e z
left_of w b e z u l h s left =
    let a = (sweep w (point e.high) *ℤ z.n) -ℤ sweep w z in
    let c = sweep w z -ℤ (sweep w (point e.low) *ℤ z.n) in
    let low = s.low in
    let high = s.high in
    let A = times_le a b e.low.x (omega (arith, ints)) l in
    let C = times_le c b e.high.x (omega (arith, ints)) h in
    let x = span_x w e z in
    let t = times_lt (rise w e) z.x (b *ℤ z.n) u left in
    let d = split (sweep w (point e.high)) (sweep w (point e.low)) z.n (sweep w z) b in
    let f = ap (λ (v : ℤ). v *ℤ (b *ℤ z.n)) (rise-is w e) in
    omega (arith, ints, A, C, x, t, d, f)
  where
    split : (h l n s b : ℤ)
        → (h -ℤ l) *ℤ (b *ℤ n) ≡ (((h *ℤ n) -ℤ s) *ℤ b) +ℤ ((s -ℤ (l *ℤ n)) *ℤ b)
    split h l n s b =
        let H = at 0 in let L = at 1 in let N = at 2 in let S = at 3 in let B = at 4 in
        ring (times (minus H L) (times B N))
        (plus (times (minus (times H N) S) B) (times (minus S (times L N)) B))
        (vars (h ∷ l ∷ n ∷ s ∷ b ∷ [])) refl

-- ---- numbers below given ones
low_of : (a b : ℤ) → (x : ℤ) × (x <ℤ a) × (x <ℤ b)
low_of a b =
    by_lt_z a b (λ (l : a <ℤ b). (a -ℤ pos 1, omega (arith, ints), omega (arith, ints)))
    (λ (l : b ≤ℤ a). (b -ℤ pos 1, omega (arith, ints), omega (arith, ints)))

low_of_three : (a b : ℤ) → (x : ℤ) × (x <ℤ a) × (x <ℤ b) × (x <ℤ pos 0)
low_of_three a b =
    let f = low_of a b in
    let g = low_of f.0 (pos 0) in
    let u = f.1 in let v = f.2 in let x = g.1 in let y = g.2 in
    (g.0, omega (arith, ints, u, x), omega (arith, ints, v, x), y)

pub low_ends : (E : ℕ → Edge) (n : ℕ)
    → (b : ℤ) × ((e : ℕ) → e < n → (b ≤ℤ (E e).low.x) × (b ≤ℤ (E e).high.x))
low_ends E zero = (pos 0, λ (e : ℕ) (l : e < 0). absurd (omega arith))
low_ends E (suc n) =
    let f = low_ends E n in
    let g = low_of f.0 (E n).low.x in
    let h = low_of g.0 (E n).high.x in
    let g1 = g.1 in let g2 = g.2 in let h1 = h.1 in let h2 = h.2 in (
      h.0,
      λ (e : ℕ) (l : e < suc n). by_last e n l
          (λ (m : e < n). let k = f.1 e m in let a = k.0 in let b = k.1 in
          (omega (arith, ints, a, g1, h1), omega (arith, ints, b, g1, h1)))
          (λ (m : e ≡ n). subst (λ (i : ℕ). (h.0 ≤ℤ (E i).low.x) × (h.0 ≤ℤ (E i).high.x)) (sym m)
          (omega (arith, ints, g2, h1), omega (arith, ints, h2))),
    )

sweep_x : (w x : ℤ) → sweep w (record { x = x; y = pos 0; n = pos 1 }) ≡ w *ℤ x
unfolding sweep
sweep_x w x =
    ring (plus (times (at 0) (at 1)) (num (pos 0))) (times (at 0) (at 1)) (vars (w ∷ x ∷ [])) refl

module _ (r : Replay) (run : IsRun r) (law : IsLawful r) where
  -- a place to the left of all ends is above all edges of its strip
  pub left_border : (b : ℤ)
      → ((e : ℕ) → e < r.edges → (b ≤ℤ (r.edge e).low.x) × (b ≤ℤ (r.edge e).high.x)) → (q : Vector)
      → Place q → q.x <ℤ (b *ℤ q.n) → raised r q (r.list (strip r q)) ≡ length (r.list (strip r q))
  left_border b ends q Q left =
      let k = strip r q in
      let s = strip_is r run q Q in
      raised_all r q (r.list k) (λ e m.
      let l = law.live k e s.fits m in
      let h = ends e l in
      left_of r.weight b (r.edge e) q (run.rise e l) h.0 h.1
      (spans_strip r run law k e q s.fits m (closed_strip r k q s)) left)

  -- an outer place is linked to the first cell
  pub outer_linked : (p : Vector) → Place p → IsOffEdges r p → IsOuterByEdges r p
      → Linked r (sector r p) corner
  outer_linked p P off o =
      let f = low_ends r.edge r.edges in
      let g = o f.0 in
      let q = g.0 in
      let Q = g.1 in
      let all = left_border f.0 f.1 q Q g.3 in
      linked_join r (sector r p) (sector r q) corner (joined_linked r run law p q g.2 P Q off)
      (border_linked r run law (sector r q) (cell_is r run law q Q) (inr all))

  -- far to the left, before all events
  far : pos 0 <ℤ r.weight → (b : ℤ) → (q : Vector) × Place q × (q.x <ℤ (b *ℤ q.n)) × IsStrip r 0 q
  far heavy b =
      let x = low_of_three b (reach r 0) in
      let z = x.0 in
      let q : Vector = record { x = z; y = pos 0; n = pos 1 } in
      let x1 = x.1 in let x2 = x.2 in let x3 = x.3 in
      let a = weight_at_most (pos 0 -ℤ z) r.weight (omega (arith, ints)) heavy in
      let c = ring (times (minus (num (pos 0)) (at 0)) (at 1))
      (minus (num (pos 0)) (times (at 1) (at 0))) (vars (z ∷ r.weight ∷ [])) refl in
      let e = sweep_x r.weight z in
      let below : sweep r.weight q <ℤ reach r 0 = omega (arith, ints, a, c, e, x2) in (
        q,
        omega (arith, ints),
        omega (arith, ints, x1),
        record {
          fits = omega arith;
          from = λ (j : ℕ) (l : j < 0). absurd (omega arith);
          to = λ (j : ℕ) (l : 0 ≤ j) (m : j < r.steps). let f = reach_most r run 0 j l m in
              omega (arith, ints, f, below);
        },
      )

  -- a place before all events is in the first cell, off the edges
  first_cell : (q : Vector) → Place q → IsStrip r 0 q → sector r q ≡ corner
  first_cell q Q s =
      let e : strip r q ≡ 0 = strip_only r run (strip r q) 0 q (strip_is r run q Q) s in
      cells_eq (sector r q) corner e (ap (λ (k : ℕ). raised r q (r.list k)) e
      ∙ ap (λ (es : List ℕ). raised r q es) run.first)

  first_off : (q : Vector) → IsStrip r 0 q → IsOffEdges r q
  first_off q s e l on =
      let b = run.begins e l in
      let t = s.to b.0 (omega arith) b.1 in
      let f = ap (λ (p : Point). sweep r.weight (point p) *ℤ q.n) b.2 in
      let g = on.low in
      omega (arith, ints, t, f, g)

  pub linked_outer : pos 0 <ℤ r.weight → (p : Vector) → Place p → IsOffEdges r p
      → Linked r (sector r p) corner → IsOuterByEdges r p
  linked_outer heavy p P off l b =
      let f = far heavy b in
      let q = f.0 in (
        q,
        f.1,
        linked_joined r run law p q P f.1 off (first_off q f.3)
            (subst (λ (c : Sector). Linked r (sector r p) c) (sym (first_cell q f.1 f.3)) l),
        f.2,
      )

  -- both ways
  pub outer_is_linked : pos 0 <ℤ r.weight → (p : Vector) → Place p → IsOffEdges r p
      → IsOuterByEdges r p ↔ Linked r (sector r p) corner
  outer_is_linked heavy p P off =
      ((λ o. outer_linked p P off o), (λ l. linked_outer heavy p P off l))
