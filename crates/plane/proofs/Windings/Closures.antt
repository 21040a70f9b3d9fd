-- Places of a closed strip: the live list is in weak order there, and each place is in the closure
-- of a cell.
use Rattle.std.proofs.Common.{◌≡◌, ℕ, ◌<◌, ◌≤◌, List, [], ◌∷◌, ◌++◌, ℤ, pos, ◌+ℤ◌, ◌*ℤ◌, ◌-ℤ◌, ◌<ℤ◌}
use Rattle.std.proofs.Common.{◌≤ℤ◌, inl, inr, refl, arith, ap, sym, subst}
use Rattle.std.proofs.lemmas.Int.{ints, by_lt_z}
use Rattle.plane.specs.Lists.{Has, First, Neighbours}
use Rattle.plane.specs.Forms.Vectors.{Vector, Place, Edge, side, sweep, rise, gap}
use Rattle.plane.specs.Faces.Replays.{Replay, reach}
use Rattle.plane.proofs.Runs.RunWords.{IsRun, IsLawful, IsBetweenEvents}
use Rattle.plane.proofs.Algebra.Scaling.{times_le, cancel_le}
use Rattle.plane.proofs.Linear.Vectors.{side-mix, sweep-mix, gap-mix}
use Rattle.plane.proofs.Linear.Signs.{mix_place}
use Rattle.plane.proofs.Strips.ToTheRight.{IsClosed}
use Rattle.plane.proofs.Strips.Centres.{inside_some}
use Rattle.plane.proofs.Algebra.Ring.{at, plus, times, num, vars, ring}
use Rattle.plane.proofs.FaceLemmas.SmallSteps.{near}

pub near_place : (n : ℤ) (z y : Vector) → pos 0 ≤ℤ n → Place z → Place y → Place (near n z y)
near_place n z y h Z Y =
    mix_place n z (pos 1) y Z Y h (omega (arith, ints)) (omega (arith, ints, h))

pub near_side : (n : ℤ) (z y : Vector) (e : Edge)
    → side e (near n z y) ≡ (n *ℤ side e z) +ℤ side e y
near_side n z y e = let m = side-mix e n z (pos 1) y in omega (arith, ints, m)

near_reach : (c n a b : ℤ) → c *ℤ ((n *ℤ a) +ℤ (pos 1 *ℤ b)) ≡ (n *ℤ (c *ℤ a)) +ℤ (c *ℤ b)
near_reach c n a b =
    ring (times (at 0) (plus (times (at 1) (at 2)) (times (num (pos 1)) (at 3))))
    (plus (times (at 1) (times (at 0) (at 2))) (times (at 0) (at 3)))
    (vars (c ∷ n ∷ a ∷ b ∷ [])) refl

pub near_inside : (r : Replay) (k : ℕ) (n : ℤ) (z y : Vector) → pos 0 ≤ℤ n → IsClosed r k z
    → IsBetweenEvents r k y → IsBetweenEvents r k (near n z y)
near_inside r k n z y h closed inside = record {
  from = λ (j : ℕ) (l : j < k).
      let m = sweep-mix r.weight n z (pos 1) y in
      let e = near_reach (reach r j) n z.n y.n in
      let a = times_le n (reach r j *ℤ z.n) (sweep r.weight z) h (closed.from j l) in
      let b = inside.from j l in
      omega (arith, ints, m, e, a, b);
  to = λ (j : ℕ) (l : k ≤ j) (u : j < r.steps).
      let m = sweep-mix r.weight n z (pos 1) y in
      let e = near_reach (reach r j) n z.n y.n in
      let a = times_le n (sweep r.weight z) (reach r j *ℤ z.n) h (closed.to j l u) in
      let b = inside.to j l u in
      omega (arith, ints, m, e, a, b);
}

-- ---- weak order
abbrev pub WeakOrder : Replay → Vector → List ℕ → Type 0
WeakOrder r z = Neighbours (λ a b. gap r.weight (r.edge a) (r.edge b) z ≤ℤ pos 0)

gap_limit : (g h : ℤ) → ((n : ℤ) → pos 0 ≤ℤ n → ((n *ℤ g) +ℤ h) <ℤ pos 0) → g ≤ℤ pos 0
gap_limit g h f = by_lt_z (pos 0) g
    (λ (l : pos 0 <ℤ g). by_lt_z h (pos 0)
    (λ (k : h <ℤ pos 0).
    let x = f (pos 0 -ℤ h) (omega (arith, ints, k)) in
    let y = times_le (pos 0 -ℤ h) (pos 1) g (omega (arith, ints, k)) (omega (arith, ints, l)) in
    absurd (omega (arith, ints, x, y)))
    (λ (k : pos 0 ≤ℤ h). let x = f (pos 0) (omega (arith, ints)) in
    absurd (omega (arith, ints, x, k))))
    (λ l. l)

first_limit : (r : Replay) (z y : Vector) (a : ℕ) (xs : List ℕ)
    → ((n : ℤ) → pos 0 ≤ℤ n
    → First (λ b. gap r.weight (r.edge a) (r.edge b) (near n z y) <ℤ pos 0) xs)
    → First (λ b. gap r.weight (r.edge a) (r.edge b) z ≤ℤ pos 0) xs
first_limit r z y a [] f = tt
first_limit r z y a (b ∷ xs) f =
    gap_limit (gap r.weight (r.edge a) (r.edge b) z) (gap r.weight (r.edge a) (r.edge b) y)
    (λ n h. let m = gap-mix r.weight (r.edge a) (r.edge b) n z (pos 1) y in let x = f n h in
    omega (arith, ints, m, x))

order_limit : (r : Replay) (z y : Vector) (xs : List ℕ)
    → ((n : ℤ) → pos 0 ≤ℤ n
    → Neighbours (λ a b. gap r.weight (r.edge a) (r.edge b) (near n z y) <ℤ pos 0) xs)
    → WeakOrder r z xs
order_limit r z y [] f = tt
order_limit r z y (a ∷ xs) f =
    (first_limit r z y a xs (λ n h. (f n h).0), order_limit r z y xs (λ n h. (f n h).1))

pub weak_order : (r : Replay) (run : IsRun r) (law : IsLawful r) (k : ℕ) (z : Vector) → k ≤ r.steps
    → Place z → IsClosed r k z → WeakOrder r z (r.list k)
weak_order r run law k z fits Z closed =
    let y = inside_some r run k fits in
    order_limit r z y.0 (r.list k)
    (λ n h. law.ordered k (near n z y.0) fits (near_place n z y.0 h Z y.1)
    (near_inside r k n z y.0 h closed y.2))

-- ---- signs along a list in weak order
weak_next : (w : ℤ) (a b : Edge) (z : Vector) → pos 0 <ℤ rise w a → pos 0 <ℤ rise w b
    → gap w a b z ≤ℤ pos 0 → side a z ≤ℤ pos 0 → side b z ≤ℤ pos 0
unfolding gap
weak_next w a b z A B g h =
    let x = times_le (rise w b) (side a z) (pos 0) (omega (arith, ints, B)) h in
    let y : rise w b *ℤ pos 0 ≡ pos 0 = omega (arith, ints) in
    let u : rise w a *ℤ pos 0 ≡ pos 0 = omega (arith, ints) in
    cancel_le (rise w a) (side b z) (pos 0) A (omega (arith, ints, g, x, y, u))

weak_last : (w : ℤ) (a b : Edge) (z : Vector) → pos 0 <ℤ rise w a → pos 0 <ℤ rise w b
    → gap w a b z ≤ℤ pos 0 → pos 0 ≤ℤ side b z → pos 0 ≤ℤ side a z
unfolding gap
weak_last w a b z A B g h =
    let x = times_le (rise w a) (pos 0) (side b z) (omega (arith, ints, A)) h in
    let y : rise w b *ℤ pos 0 ≡ pos 0 = omega (arith, ints) in
    let u : rise w a *ℤ pos 0 ≡ pos 0 = omega (arith, ints) in
    cancel_le (rise w b) (pos 0) (side a z) B (omega (arith, ints, g, x, y, u))

module _ (r : Replay) (z : Vector) where
  abbrev pub AllRise : List ℕ → Type 0
  AllRise xs = (e : ℕ) → Has e xs → pos 0 <ℤ rise r.weight (r.edge e)

  pub weak_above : (x : ℕ) (xs : List ℕ) → AllRise (x ∷ xs) → WeakOrder r z (x ∷ xs)
      → side (r.edge x) z ≤ℤ pos 0 → (e : ℕ) → Has e xs → side (r.edge e) z ≤ℤ pos 0
  weak_above x [] up h l e m = absurd m
  weak_above x (y ∷ ys) up h l e m =
      let k = weak_next r.weight (r.edge x) (r.edge y) z (up x (inl refl))
      (up y (inr (inl refl))) h.0 l in
      elim m [
        | inl q ↦ subst (λ (d : ℕ). side (r.edge d) z ≤ℤ pos 0) (sym q) k
        | inr n ↦ weak_above y ys (λ d i. up d (inr i)) h.1 k e n
      ]

  -- what stands before an edge that is not over z is not over z
  pub weak_first : (xs : List ℕ) (e : ℕ) (ys : List ℕ) → AllRise (xs ++ (e ∷ ys))
      → WeakOrder r z (xs ++ (e ∷ ys)) → pos 0 ≤ℤ side (r.edge e) z
      → First (λ d. pos 0 ≤ℤ side (r.edge d) z) (xs ++ (e ∷ ys))
      × ((d : ℕ) → Has d xs → pos 0 ≤ℤ side (r.edge d) z)
  weak_first [] e ys up h l = (l, λ d m. absurd m)
  weak_first (x ∷ []) e ys up h l =
      let k = weak_last r.weight (r.edge x) (r.edge e) z (up x (inl refl))
      (up e (inr (inl refl))) h.0 l in (
        k,
        λ d m. elim m [
          | inl q ↦ subst (λ (c : ℕ). pos 0 ≤ℤ side (r.edge c) z) (sym q) k
          | inr n ↦ absurd n
        ],
      )
  weak_first (x ∷ (y ∷ xs)) e ys up h l =
      let i = weak_first (y ∷ xs) e ys (λ d m. up d (inr m)) h.1 l in
      let k = weak_last r.weight (r.edge x) (r.edge y) z (up x (inl refl))
      (up y (inr (inl refl))) h.0 i.0 in (
        k,
        λ d m. elim m [
          | inl q ↦ subst (λ (c : ℕ). pos 0 ≤ℤ side (r.edge c) z) (sym q) k
          | inr n ↦ i.1 d n
        ],
      )

  pub weak_rest : (xs : List ℕ) (e : ℕ) (ys : List ℕ) → AllRise (xs ++ (e ∷ ys))
      → WeakOrder r z (xs ++ (e ∷ ys)) → side (r.edge e) z ≤ℤ pos 0 → (d : ℕ) → Has d ys
      → side (r.edge d) z ≤ℤ pos 0
  weak_rest [] e ys up h l = weak_above e ys up h l
  weak_rest (x ∷ xs) e ys up h l = weak_rest xs e ys (λ d m. up d (inr m)) h.1 l

-- ---- closures of cells
-- z is in the closure of the cell over the lower edges
pub record IsClose (r : Replay) (k : ℕ) (lower upper : List ℕ) (z : Vector) : Type 0 where
  pub fits : k ≤ r.steps
  pub closed : IsClosed r k z
  pub is : r.list k ≡ lower ++ upper
  pub beneath : (e : ℕ) → Has e lower → pos 0 ≤ℤ side (r.edge e) z
  pub over : (e : ℕ) → Has e upper → side (r.edge e) z ≤ℤ pos 0

record IsPart (r : Replay) (z : Vector) (xs lower upper : List ℕ) : Type 0 where
  is : xs ≡ lower ++ upper
  beneath : (e : ℕ) → Has e lower → pos 0 ≤ℤ side (r.edge e) z
  over : (e : ℕ) → Has e upper → side (r.edge e) z ≤ℤ pos 0

part : (r : Replay) (z : Vector) (xs : List ℕ) → AllRise r z xs → WeakOrder r z xs
    → (lower : List ℕ) × (upper : List ℕ) × IsPart r z xs lower upper
part r z [] up h = ([], [], record { is = refl; beneath = λ e m. absurd m; over = λ e m. absurd m })
part r z (x ∷ xs) up h = by_lt_z (pos 0) (side (r.edge x) z)
    (λ (l : pos 0 <ℤ side (r.edge x) z).
    let p = part r z xs (λ d m. up d (inr m)) h.1 in (
      x ∷ p.0,
      p.1,
      record {
        is = ap (λ (ys : List ℕ). x ∷ ys) p.2.is;
        beneath = λ e m.
            elim m [
              | inl q ↦ subst (λ (c : ℕ). pos 0 ≤ℤ side (r.edge c) z) (sym q)
                  (omega (arith, ints, l))
              | inr n ↦ p.2.beneath e n
            ];
        over = p.2.over;
      },
    ))
    (λ (l : side (r.edge x) z ≤ℤ pos 0). (
      [],
      x ∷ xs,
      record {
        is = refl;
        beneath = λ e m. absurd m;
        over = λ e m. elim m [
          | inl q ↦ subst (λ (c : ℕ). side (r.edge c) z ≤ℤ pos 0) (sym q) l
          | inr n ↦ weak_above r z x xs up h l e n
        ];
      },
    ))

-- each place of a closed strip is in the closure of a cell
pub close_some : (r : Replay) (run : IsRun r) (law : IsLawful r) (k : ℕ) (z : Vector) → k ≤ r.steps
    → Place z → IsClosed r k z → (lower : List ℕ) × (upper : List ℕ) × IsClose r k lower upper z
close_some r run law k z fits Z closed =
    let p = part r z (r.list k) (λ e m. run.rise e (law.live k e fits m))
    (weak_order r run law k z fits Z closed) in (
      p.0,
      p.1,
      record {
        fits = fits;
        closed = closed;
        is = p.2.is;
        beneath = p.2.beneath;
        over = p.2.over;
      },
    )
