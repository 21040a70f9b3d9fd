-- No cell is empty: between two neighbours of a list in strict order there is a place.
-- Places of one strip with the same edges below them are joined by a segment that hits no edge.
use Rattle.std.proofs.Common.{◌≡◌, ℕ, zero, suc, ◌<◌, ◌≤◌, List, [], ◌∷◌, length, map, ℤ, pos, ◌+ℤ◌}
use Rattle.std.proofs.Common.{◌*ℤ◌, ◌-ℤ◌, ◌<ℤ◌, refl, arith, ap, sym, ◌∙◌, inl, inr, subst}
use Rattle.std.proofs.lemmas.Int.{ints}
use Rattle.plane.specs.Lists.{Has, Neighbours}
use Rattle.plane.specs.Forms.Vectors.{Vector, Place, mix, Edge, side, sweep, up, rise, gap}
use Rattle.plane.specs.Faces.Replays.{Replay, reach}
use Rattle.plane.proofs.Runs.RunWords.{IsRun, IsLawful, IsBetweenEvents}
use Rattle.plane.specs.Faces.Cells.{Sector, IsSector}
use Rattle.plane.proofs.Algebra.Laws.{product_positive}
use Rattle.plane.proofs.Algebra.Scaling.{times_lt}
use Rattle.plane.proofs.Linear.Vectors.{side-mix, sweep-mix, side-up, sweep-up}
use Rattle.plane.proofs.Strips.ToTheRight.{reach_most}
use Rattle.plane.proofs.Strips.OneStrip.{by_last}
use Rattle.plane.proofs.Strips.Heights.{Wall, from_height, IsLower, Parts, room}
use Rattle.plane.proofs.Strips.OneCut.{sides, parts_map, parts_like}
use Rattle.plane.proofs.Algebra.Ring.{at, num, plus, times, vars, ring}

-- ---- a place moved along its sweep line
abbrev pub lifted : ℤ → ℤ → ℤ → Vector → Vector
lifted w d t z = mix d z t (up w)

abbrev pub wall : ℤ → Vector → Edge → Wall
wall w z e = record { side = side e z; rise = rise w e }

pub lifted_sweep : (w d t : ℤ) (z : Vector) → sweep w (lifted w d t z) ≡ d *ℤ sweep w z
lifted_sweep w d t z =
    let a = sweep-mix w d z t (up w) in
    let b : t *ℤ sweep w (up w) ≡ t *ℤ pos 0 = ap (λ (x : ℤ). t *ℤ x) (sweep-up w) in
    let c : t *ℤ pos 0 ≡ pos 0 = omega (arith, ints) in
    omega (arith, ints, a, b, c)

pub lifted_side : (w d t : ℤ) (z : Vector) (e : Edge)
    → from_height d t (wall w z e) ≡ side e (lifted w d t z)
lifted_side w d t z e =
    sym (side-mix e d z t (up w) ∙ ap (λ (x : ℤ). (d *ℤ side e z) +ℤ (t *ℤ x)) (side-up w e))

pub lifted_scale : (c d n t : ℤ) → c *ℤ ((d *ℤ n) +ℤ (t *ℤ pos 0)) ≡ d *ℤ (c *ℤ n)
lifted_scale c d n t =
    ring (times (at 0) (plus (times (at 1) (at 2)) (times (at 3) (num (pos 0)))))
    (times (at 1) (times (at 0) (at 2))) (vars (c ∷ d ∷ n ∷ t ∷ [])) refl

pub lifted_place : (w d t : ℤ) (z : Vector) → pos 0 <ℤ d → Place z → Place (lifted w d t z)
lifted_place w d t z D Z =
    let a = product_positive d z.n D Z in
    let c : t *ℤ pos 0 ≡ pos 0 = omega (arith, ints) in
    omega (arith, ints, a, c)

pub lifted_inside : (r : Replay) (k : ℕ) (d t : ℤ) (z : Vector) → pos 0 <ℤ d → IsBetweenEvents r k z
    → IsBetweenEvents r k (lifted r.weight d t z)
lifted_inside r k d t z D h =
    let s = lifted_sweep r.weight d t z in
    record {
      from = λ (j : ℕ) (a : j < k). let f = times_lt d _ _ D (h.from j a) in
          let e = lifted_scale (reach r j) d z.n t in omega (arith, ints, f, e, s);
      to = λ (j : ℕ) (a : k ≤ j) (b : j < r.steps). let f = times_lt d _ _ D (h.to j a b) in
          let e = lifted_scale (reach r j) d z.n t in omega (arith, ints, f, e, s);
    }

-- ---- walls in order
pub walls_rise : (w : ℤ) (E : ℕ → Edge) (z : Vector) (es : List ℕ)
    → ((e : ℕ) → Has e es → pos 0 <ℤ rise w (E e)) → (b : Wall)
    → Has b (map (λ e. wall w z (E e)) es) → pos 0 <ℤ b.rise
walls_rise w E z [] h b m = absurd m
walls_rise w E z (e ∷ es) h b (inl f) =
    subst (λ (x : Wall). pos 0 <ℤ x.rise) (sym f) (h e (inl refl))
walls_rise w E z (e ∷ es) h b (inr m) = walls_rise w E z es (λ d n. h d (inr n)) b m

pub walls_ordered : (w : ℤ) (E : ℕ → Edge) (z : Vector) (es : List ℕ)
    → Neighbours (λ a b. gap w (E a) (E b) z <ℤ pos 0) es
    → Neighbours IsLower (map (λ e. wall w z (E e)) es)
unfolding gap
walls_ordered w E z [] h = tt
walls_ordered w E z (a ∷ []) h = (tt, tt)
walls_ordered w E z (a ∷ (b ∷ es)) h = (h.0, walls_ordered w E z (b ∷ es) h.1)

pub length_walls : (w : ℤ) (E : ℕ → Edge) (z : Vector) (es : List ℕ)
    → length (map (λ e. wall w z (E e)) es) ≡ length es
length_walls w E z [] = refl
length_walls w E z (e ∷ es) = let k = length_walls w E z es in omega (arith, k)

-- a place inside the cell's strip with exactly the cell's edges below it
pub record IsCentre (r : Replay) (c : Sector) (z : Vector) : Type 0 where
  pub place : Place z
  pub inside : IsBetweenEvents r c.strip z
  pub parts : Parts (sides r z) c.index (r.list c.strip)

sweep_y : (w a n : ℤ) → sweep w (record { x = pos 0; y = a; n = n }) ≡ a
unfolding sweep
sweep_y w a n = ring (plus (times (at 0) (num (pos 0))) (at 1)) (at 1) (vars (w ∷ a ∷ [])) refl

module _ (r : Replay) (run : IsRun r) where
  -- each strip has a place inside
  pub inside_some : (k : ℕ) → k ≤ r.steps → (z : Vector) × Place z × IsBetweenEvents r k z
  inside_some zero h =
      let z : Vector = record { x = pos 0; y = reach r 0 -ℤ pos 1; n = pos 1 } in
      let e = sweep_y r.weight (reach r 0 -ℤ pos 1) (pos 1) in (
        z,
        omega (arith, ints),
        record {
          from = λ (j : ℕ) (a : j < 0). absurd (omega arith);
          to = λ (j : ℕ) (a : 0 ≤ j) (b : j < r.steps). let m = reach_most r run 0 j a b in
              omega (arith, ints, m, e);
        },
      )
  inside_some (suc i) h = by_last (suc i) r.steps (omega arith)
      (λ (l : suc i < r.steps).
      let z : Vector = record { x = pos 0; y = reach r i +ℤ reach r (suc i); n = pos 2 } in
      let e = sweep_y r.weight (reach r i +ℤ reach r (suc i)) (pos 2) in
      let u = run.rising i (suc i) (omega arith) l in (
        z,
        omega (arith, ints),
        record {
          from = λ (j : ℕ) (a : j < suc i). let m =
              reach_most r run j i (omega arith) (omega arith) in omega (arith, ints, m, e, u);
          to = λ (j : ℕ) (a : suc i ≤ j) (b : j < r.steps). let m =
              reach_most r run (suc i) j a b in omega (arith, ints, m, e, u);
        },
      ))
      (λ (l : suc i ≡ r.steps).
      let z : Vector = record { x = pos 0; y = reach r i +ℤ pos 1; n = pos 1 } in
      let e = sweep_y r.weight (reach r i +ℤ pos 1) (pos 1) in (
        z,
        omega (arith, ints),
        record {
          from = λ (j : ℕ) (a : j < suc i). let m =
              reach_most r run j i (omega arith) (omega arith) in omega (arith, ints, m, e);
          to = λ (j : ℕ) (a : suc i ≤ j) (b : j < r.steps). absurd (omega arith);
        },
      ))

module _ (r : Replay) (run : IsRun r) (law : IsLawful r) where
  -- a place of the cell
  pub centre : (c : Sector) → IsSector r c → (z : Vector) × IsCentre r c z
  centre c h =
      let w = r.weight in
      let k = c.strip in
      let es = r.list k in
      let s = inside_some r run k h.strip in
      let z = s.0 in
      let o = law.ordered k z h.strip s.1 s.2 in
      let n = length_walls w r.edge z es in
      let m = room c.index (map (λ e. wall w z (r.edge e)) es) (let i = h.index in
      omega (arith, n, i))
      (walls_rise w r.edge z es (λ e l. run.rise e (law.live k e h.strip l)))
      (walls_ordered w r.edge z es o) in (
        lifted w m.d m.t z,
        record {
          place = lifted_place w m.d m.t z m.whole s.1;
          inside = lifted_inside r k m.d m.t z m.whole s.2;
          parts = parts_like (λ e. from_height m.d m.t (wall w z (r.edge e)))
              (λ e. side (r.edge e) (lifted w m.d m.t z)) c.index es
              (λ e. lifted_side w m.d m.t z (r.edge e))
              (parts_map (from_height m.d m.t) (λ e. wall w z (r.edge e)) c.index es m.parts);
        },
      )
