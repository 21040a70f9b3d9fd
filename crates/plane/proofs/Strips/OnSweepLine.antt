-- A place on an event's sweep line: its cell before the event opens to its cell after it.
-- The opening goes below the event or above it.
use Rattle.std.proofs.Common.{◌≡◌, ℕ, suc, ◌+◌, ◌<◌, ◌≤◌, List, ◌++◌, length, ℤ, pos, ◌+ℤ◌, ◌*ℤ◌}
use Rattle.std.proofs.Common.{◌<ℤ◌, ◌≤ℤ◌, refl, arith, ap, sym, ◌⊎◌, inl, inr, subst}
use Rattle.std.proofs.lemmas.Int.{ints}
use Rattle.plane.specs.Lists.{Has}
use Rattle.plane.specs.declared.kinds.Point.{Point}
use Rattle.plane.specs.Forms.Vectors.{Vector, Place, point, Edge, side, sweep, rise, lift, On}
use Rattle.plane.specs.Faces.Replays.{Replay, IsOffEdges, reach}
use Rattle.plane.proofs.Runs.RunWords.{IsRun, IsLawful}
use Rattle.plane.specs.Faces.Cells.{raised, sector_at, Opens}
use Rattle.plane.proofs.Algebra.Laws.{product_comm}
use Rattle.plane.proofs.Algebra.Scaling.{times_le, times_lt, product_negative, product_of_zero}
use Rattle.plane.proofs.Algebra.Laws.{product_positive}
use Rattle.plane.proofs.Linear.Vectors.{side-lift, side-low, side-high, rise-is}
use Rattle.plane.proofs.Linear.Signs.{by_sign}
use Rattle.plane.proofs.ListLemmas.Lists.{has_front, has_back}
use Rattle.plane.proofs.Strips.CountBelow.{raised_append, raised_all, raised_none, raised_most}

-- the place is on the event's sweep line
abbrev pub IsLevel : Replay → ℕ → Vector → Type 0
IsLevel r k o = sweep r.weight o ≡ reach r k *ℤ o.n

pub side_from : (w : ℤ) (e : Edge) (o : Vector) (v : Point) → sweep w o ≡ sweep w (point v) *ℤ o.n
    → side e o ≡ (lift o (point v) *ℤ rise w e) +ℤ (o.n *ℤ side e (point v))
side_from w e o v h =
    let l = side-lift w e o (point v) (let c = product_comm o.n (sweep w (point v)) in
    omega (arith, ints, h, c)) in
    omega (arith, ints, l)

pub under_event : (w : ℤ) (e : Edge) (o : Vector) (v : Point) → Place o
    → sweep w o ≡ sweep w (point v) *ℤ o.n → pos 0 <ℤ rise w e
    → lift o (point v) <ℤ pos 0 → side e (point v) ≤ℤ pos 0 → side e o <ℤ pos 0
under_event w e o v O h u l s =
    let a = product_negative (rise w e) (lift o (point v)) u l in
    let c = product_comm (rise w e) (lift o (point v)) in
    let b = times_le o.n (side e (point v)) (pos 0) (omega (arith, ints, O)) s in
    let f = side_from w e o v h in
    omega (arith, ints, a, b, c, f)

pub over_event : (w : ℤ) (e : Edge) (o : Vector) (v : Point) → Place o
    → sweep w o ≡ sweep w (point v) *ℤ o.n → pos 0 <ℤ rise w e
    → pos 0 <ℤ lift o (point v) → pos 0 ≤ℤ side e (point v) → pos 0 <ℤ side e o
over_event w e o v O h u l s =
    let a = product_positive (lift o (point v)) (rise w e) l u in
    let b = times_le o.n (pos 0) (side e (point v)) (omega (arith, ints, O)) s in
    let f = side_from w e o v h in
    omega (arith, ints, a, b, f)

-- at the event itself each edge that ends there is met
pub at_event : (w : ℤ) (e : Edge) (o : Vector) (v : Point) → Place o
    → sweep w o ≡ sweep w (point v) *ℤ o.n → pos 0 <ℤ rise w e
    → lift o (point v) ≡ pos 0 → (e.low ≡ v) ⊎ (e.high ≡ v) → On w e o
at_event w e o v O h u l (inl s) =
    let z : side e (point v) ≡ pos 0 = subst (λ (p : Point). side e (point p) ≡ pos 0) s
    (side-low e) in
    let low : sweep w (point e.low) *ℤ o.n
    ≡ sweep w (point v) *ℤ o.n = ap (λ (p : Point). sweep w (point p) *ℤ o.n) s in
    let a = product_of_zero o.n (side e (point v)) z in
    let b = product_of_zero (rise w e) (lift o (point v)) l in
    let c = product_comm (rise w e) (lift o (point v)) in
    let f = side_from w e o v h in
    let t = times_lt o.n (sweep w (point e.low)) (sweep w (point e.high)) O (let d = rise-is w e in
    omega (arith, ints, d, u)) in
    let c1 = product_comm o.n (sweep w (point e.low)) in
    let c2 = product_comm o.n (sweep w (point e.high)) in
    record {
      line = omega (arith, ints, a, b, c, f);
      low = omega (arith, ints, low, h);
      high = omega (arith, ints, low, h, t, c1, c2);
    }
at_event w e o v O h u l (inr s) =
    let z : side e (point v) ≡ pos 0 = subst (λ (p : Point). side e (point p) ≡ pos 0) s
    (side-high e) in
    let high : sweep w (point e.high) *ℤ o.n
    ≡ sweep w (point v) *ℤ o.n = ap (λ (p : Point). sweep w (point p) *ℤ o.n) s in
    let a = product_of_zero o.n (side e (point v)) z in
    let b = product_of_zero (rise w e) (lift o (point v)) l in
    let c = product_comm (rise w e) (lift o (point v)) in
    let f = side_from w e o v h in
    let t = times_lt o.n (sweep w (point e.low)) (sweep w (point e.high)) O (let d = rise-is w e in
    omega (arith, ints, d, u)) in
    let c1 = product_comm o.n (sweep w (point e.low)) in
    let c2 = product_comm o.n (sweep w (point e.high)) in
    record {
      line = omega (arith, ints, a, b, c, f);
      low = omega (arith, ints, high, h, t, c1, c2);
      high = omega (arith, ints, high, h);
    }

module _ (r : Replay) (run : IsRun r) (law : IsLawful r) where
  -- ---- which edges stand in the lists at a step
  pub in_below : (k e : ℕ) → k < r.steps → Has e (r.step k).below → Has e (r.list k)
  in_below k e h m = subst (λ (es : List ℕ). Has e es) (sym (run.before k h)) (has_front e _ _ m)

  pub in_ending : (k e : ℕ) → k < r.steps → Has e (r.step k).ending → Has e (r.list k)
  in_ending k e h m =
      subst (λ (es : List ℕ). Has e es) (sym (run.before k h)) (has_back e _ _ (has_front e _ _ m))

  pub in_above : (k e : ℕ) → k < r.steps → Has e (r.step k).above → Has e (r.list k)
  in_above k e h m =
      subst (λ (es : List ℕ). Has e es) (sym (run.before k h))
      (has_back e (r.step k).below _ (has_back e _ _ m))

  pub in_starting : (k e : ℕ) → k < r.steps → Has e (r.step k).starting → Has e (r.list (suc k))
  in_starting k e h m =
      subst (λ (es : List ℕ). Has e es) (sym (run.after k h))
      (has_back e (r.step k).below _ (has_front e _ _ m))

  pub rise_of : (k e : ℕ) → k ≤ r.steps → Has e (r.list k) → pos 0 <ℤ rise r.weight (r.edge e)
  rise_of k e h m = run.rise e (law.live k e h m)

  pub ending_zero : (k e : ℕ) → k < r.steps → Has e (r.step k).ending
      → side (r.edge e) (point (r.step k).at) ≡ pos 0
  ending_zero k e h m =
      subst (λ (p : Point). side (r.edge e) (point p) ≡ pos 0) (run.ending k h e m)
      (side-high (r.edge e))

  pub starting_zero : (k e : ℕ) → k < r.steps → Has e (r.step k).starting
      → side (r.edge e) (point (r.step k).at) ≡ pos 0
  starting_zero k e h m =
      subst (λ (p : Point). side (r.edge e) (point p) ≡ pos 0) (run.starting k h e m)
      (side-low (r.edge e))

  -- ---- the counts before and after an event
  pub raised_before : (k : ℕ) (o : Vector) → k < r.steps
      → raised r o (r.list k) ≡ raised r o (r.step k).below
      + (raised r o (r.step k).ending + raised r o (r.step k).above)
  raised_before k o h =
      let a = ap (raised r o) (run.before k h) in
      let b = raised_append r o (r.step k).below ((r.step k).ending ++ (r.step k).above) in
      let c = raised_append r o (r.step k).ending (r.step k).above in
      omega (arith, a, b, c)

  pub raised_after : (k : ℕ) (o : Vector) → k < r.steps
      → raised r o (r.list (suc k)) ≡ raised r o (r.step k).below
      + (raised r o (r.step k).starting + raised r o (r.step k).above)
  raised_after k o h =
      let a = ap (raised r o) (run.after k h) in
      let b = raised_append r o (r.step k).below ((r.step k).starting ++ (r.step k).above) in
      let c = raised_append r o (r.step k).starting (r.step k).above in
      omega (arith, a, b, c)

  -- ---- the opening
  pub opens_at : (k : ℕ) (o : Vector) → k < r.steps → Place o → IsOffEdges r o → IsLevel r k o
      → Opens r (sector_at r o k) (sector_at r o (suc k))
  opens_at k o h O off level = by_sign (lift o (point (r.step k).at)) low mid high
    where
      low : lift o (point (r.step k).at) <ℤ pos 0
          → Opens r (sector_at r o k) (sector_at r o (suc k))
      low l =
          let before = raised_before k o h in
          let after = raised_after k o h in
          let e : raised r o (r.step k).ending
          ≡ 0 = raised_none r o (r.step k).ending
          (λ e m. strict
          (under_event r.weight (r.edge e) o (r.step k).at O level
          (rise_of k e (omega arith) (in_ending k e h m)) l (weak (ending_zero k e h m)))) in
          let b : raised r o (r.step k).starting
          ≡ 0 = raised_none r o (r.step k).starting
          (λ e m. strict
          (under_event r.weight (r.edge e) o (r.step k).at O level
          (rise_of (suc k) e (omega arith) (in_starting k e h m)) l
          (weak (starting_zero k e h m)))) in
          let a : raised r o (r.step k).above
          ≡ 0 = raised_none r o (r.step k).above
          (λ e m. strict
          (under_event r.weight (r.edge e) o (r.step k).at O level
          (rise_of k e (omega arith) (in_above k e h m)) l (strict (law.over k h e m)))) in
          let n = raised_most r o (r.step k).below in
          inl record {
            fits = h;
            next = refl;
            low = omega (arith, before, e, a, n);
            kept = omega (arith, before, after, e, b, a);
          }
        where
          strict : {z : ℤ} → z <ℤ pos 0 → z ≤ℤ pos 0
          strict l = omega (arith, ints)

          weak : {z : ℤ} → z ≡ pos 0 → z ≤ℤ pos 0
          weak l = omega (arith, ints)

      mid : lift o (point (r.step k).at) ≡ pos 0 → Opens r (sector_at r o k) (sector_at r o (suc k))
      mid l =
          let m = run.met k h in
          absurd (off m.0 m.1
          (at_event r.weight (r.edge m.0) o (r.step k).at O level (run.rise m.0 m.1) l m.2))

      high : pos 0 <ℤ lift o (point (r.step k).at)
          → Opens r (sector_at r o k) (sector_at r o (suc k))
      high l =
          let before = raised_before k o h in
          let after = raised_after k o h in
          let e : raised r o (r.step k).ending
          ≡ length (r.step k).ending =
          raised_all r o (r.step k).ending
          (λ e m. over_event r.weight (r.edge e) o (r.step k).at O level
          (rise_of k e (omega arith) (in_ending k e h m)) l (weak (ending_zero k e h m))) in
          let b : raised r o (r.step k).starting
          ≡ length (r.step k).starting =
          raised_all r o (r.step k).starting
          (λ e m. over_event r.weight (r.edge e) o (r.step k).at O level
          (rise_of (suc k) e (omega arith) (in_starting k e h m)) l
          (weak (starting_zero k e h m))) in
          let u : raised r o (r.step k).below
          ≡ length (r.step k).below =
          raised_all r o (r.step k).below
          (λ e m. over_event r.weight (r.edge e) o (r.step k).at O level
          (rise_of k e (omega arith) (in_below k e h m)) l (strict (law.under k h e m))) in
          let n = raised_most r o (r.list k) in
          inr record {
            fits = h;
            next = refl;
            top = n;
            high = omega (arith, before, e, u);
            kept = omega (arith, before, after, e, b, u);
          }
        where
          strict : {z : ℤ} → pos 0 <ℤ z → pos 0 ≤ℤ z
          strict l = omega (arith, ints)

          weak : {z : ℤ} → z ≡ pos 0 → pos 0 ≤ℤ z
          weak l = omega (arith, ints)
