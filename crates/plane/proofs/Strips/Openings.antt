-- Where a cell opens to the next there is a place on the event's sweep line that lies in the
-- closure of both.
-- It is below the lowest edge through the event, or above the highest.
use Rattle.std.proofs.Common.{◌≡◌, ℕ, suc, ◌+◌, ◌<◌, ◌≤◌, List, [], ◌∷◌, ◌++◌, length, map, ℤ, pos}
use Rattle.std.proofs.Common.{◌+ℤ◌, ◌*ℤ◌, ◌-ℤ◌, ◌<ℤ◌, ◌≤ℤ◌, refl, arith, ap, sym, ◌∙◌, ◌⊎◌, inl}
use Rattle.std.proofs.Common.{inr, subst, length-append}
use Rattle.std.proofs.lemmas.Int.{ints}
use Rattle.plane.specs.Lists.{Has, Neighbours}
use Rattle.plane.specs.Forms.Vectors.{Vector, Place, point, Edge, side, rise}
use Rattle.plane.specs.Faces.Replays.{Replay, reach}
use Rattle.plane.proofs.Runs.RunWords.{IsRun, IsLawful}
use Rattle.plane.proofs.Algebra.Laws.{product_positive}
use Rattle.plane.proofs.Algebra.Scaling.{times_le}
use Rattle.plane.proofs.ListLemmas.Lists.{has_append}
use Rattle.plane.proofs.Strips.OnSweepLine.{IsLevel, in_below, in_ending, in_above, in_starting}
use Rattle.plane.proofs.Strips.OnSweepLine.{rise_of, ending_zero, starting_zero}
use Rattle.plane.proofs.Strips.Heights.{Wall, from_height, IsLower, Parts, HasRoom, room}
use Rattle.plane.proofs.Strips.OneCut.{sides, parts_map, parts_like, parts_low, parts_high}
use Rattle.plane.proofs.Strips.OneCut.{parts_last}
use Rattle.plane.proofs.Strips.Centres.{lifted, wall, lifted_sweep, lifted_side, lifted_scale}
use Rattle.plane.proofs.Strips.Centres.{lifted_place, walls_rise, walls_ordered, length_walls}
use Rattle.plane.proofs.Algebra.Ring.{at, num, minus, times, vars, ring}

-- the event itself, as a wall of side 0
abbrev event_wall : Wall
event_wall = record { side = pos 0; rise = pos 1 }

walls_each : (P : Wall → Type 0) (w : ℤ) (E : ℕ → Edge) (z : Vector) (es : List ℕ)
    → ((e : ℕ) → Has e es → P (wall w z (E e))) → (b : Wall) → Has b (map (λ e. wall w z (E e)) es)
    → P b
walls_each P w E z [] h b m = absurd m
walls_each P w E z (e ∷ es) h b (inl f) = subst P (sym f) (h e (inl refl))
walls_each P w E z (e ∷ es) h b (inr m) = walls_each P w E z es (λ d n. h d (inr n)) b m

lower_last : (ws : List Wall) (v : Wall) → Neighbours IsLower ws
    → ((a : Wall) → Has a ws → IsLower a v) → Neighbours IsLower (ws ++ (v ∷ []))
lower_last [] v h k = (tt, tt)
lower_last (a ∷ []) v h k = (k a (inl refl), (tt, tt))
lower_last (a ∷ (b ∷ ws)) v h k = (h.0, lower_last (b ∷ ws) v h.1 (λ c m. k c (inr m)))

lower_first : (v : Wall) (ws : List Wall) → Neighbours IsLower ws
    → ((a : Wall) → Has a ws → IsLower v a) → Neighbours IsLower (v ∷ ws)
lower_first v [] h k = (tt, tt)
lower_first v (a ∷ ws) h k = (k a (inl refl), h)

-- sides under and over the event
side_under : (d t s u : ℤ) → pos 0 <ℤ d → t <ℤ pos 0 → s ≤ℤ pos 0 → pos 0 <ℤ u
    → ((d *ℤ s) +ℤ (t *ℤ u)) <ℤ pos 0
side_under d t s u D T S U =
    let a = times_le d s (pos 0) (omega (arith, ints)) S in
    let z : d *ℤ pos 0 ≡ pos 0 = omega (arith, ints) in
    let b = product_positive (pos 0 -ℤ t) u (omega (arith, ints)) U in
    let e = ring (times (minus (num (pos 0)) (at 0)) (at 1))
    (minus (num (pos 0)) (times (at 0) (at 1))) (vars (t ∷ u ∷ [])) refl in
    omega (arith, ints, a, z, b, e)

side_over : (d t s u : ℤ) → pos 0 <ℤ d → pos 0 <ℤ t → pos 0 ≤ℤ s → pos 0 <ℤ u
    → pos 0 <ℤ ((d *ℤ s) +ℤ (t *ℤ u))
side_over d t s u D T S U =
    let a = times_le d (pos 0) s (omega (arith, ints)) S in
    let z : d *ℤ pos 0 ≡ pos 0 = omega (arith, ints) in
    let b = product_positive t u T U in
    omega (arith, ints, a, z, b)

lifted_level : (r : Replay) (k : ℕ) (d t : ℤ)
    → IsLevel r k (lifted r.weight d t (point (r.step k).at))
lifted_level r k d t =
    let a = lifted_sweep r.weight d t (point (r.step k).at) in
    let b = lifted_scale (reach r k) d (pos 1) t in
    let c : reach r k *ℤ pos 1 ≡ reach r k = omega (arith, ints) in
    a ∙ ap (λ (x : ℤ). d *ℤ x) (sym c) ∙ sym b

module _ (r : Replay) (run : IsRun r) (law : IsLawful r) where
  abbrev event : ℕ → Vector
  event k = point (r.step k).at

  abbrev walls : ℕ → List ℕ → List Wall
  walls k es = map (λ e. wall r.weight (event k) (r.edge e)) es

  -- an edge that is not above the event is under each place under the event
  under : (k : ℕ) (d t : ℤ) (e : ℕ) → pos 0 <ℤ d → t <ℤ pos 0 → side (r.edge e) (event k) ≤ℤ pos 0
      → pos 0 <ℤ rise r.weight (r.edge e) → side (r.edge e) (lifted r.weight d t (event k)) <ℤ pos 0
  under k d t e D T s u =
      subst (λ (x : ℤ). x <ℤ pos 0) (lifted_side r.weight d t (event k) (r.edge e))
      (side_under d t (side (r.edge e) (event k)) (rise r.weight (r.edge e)) D T s u)

  over : (k : ℕ) (d t : ℤ) (e : ℕ) → pos 0 <ℤ d → pos 0 <ℤ t → pos 0 ≤ℤ side (r.edge e) (event k)
      → pos 0 <ℤ rise r.weight (r.edge e) → pos 0 <ℤ side (r.edge e) (lifted r.weight d t (event k))
  over k d t e D T s u =
      subst (λ (x : ℤ). pos 0 <ℤ x) (lifted_side r.weight d t (event k) (r.edge e))
      (side_over d t (side (r.edge e) (event k)) (rise r.weight (r.edge e)) D T s u)

  -- room under the event, among the edges below it
  room_below : (k i : ℕ) → k < r.steps → i ≤ length (r.step k).below
      → HasRoom i (walls k (r.step k).below ++ (event_wall ∷ []))
  room_below k i h l =
      let es = (r.step k).below in
      let a = length-append (walls k es) (event_wall ∷ []) in
      let b = length_walls r.weight r.edge (event k) es in
      room i (walls k es ++ (event_wall ∷ [])) (omega (arith, a, b))
      (λ c m. rises c (has_append c (walls k es) (event_wall ∷ []) m))
      (lower_last (walls k es) event_wall
      (walls_ordered r.weight r.edge (event k) es (law.ordered_below k h))
      (walls_each (λ a. IsLower a event_wall) r.weight r.edge (event k) es
      (λ e m. lower (side (r.edge e) (event k)) (rise r.weight (r.edge e))
      (law.under k h e m))))
    where
      rises : (c : Wall) → Has c (walls k (r.step k).below) ⊎ Has c (event_wall ∷ [])
          → pos 0 <ℤ c.rise
      rises c (inl m) =
          walls_rise r.weight r.edge (event k) (r.step k).below
          (λ e n. rise_of r run law k e (omega arith) (in_below r run law k e h n)) c m
      rises c (inr (inl f)) = subst (λ (x : Wall). pos 0 <ℤ x.rise) (sym f) (omega (arith, ints))
      rises c (inr (inr m)) = absurd m

      lower : (s u : ℤ) → pos 0 <ℤ s → ((u *ℤ pos 0) -ℤ (pos 1 *ℤ s)) <ℤ pos 0
      lower s u a = let z : u *ℤ pos 0 ≡ pos 0 = omega (arith, ints) in omega (arith, ints, z)

  -- room over the event, among the edges above it
  room_above : (k i : ℕ) → k < r.steps → i ≤ length (r.step k).above
      → HasRoom (suc i) (event_wall ∷ walls k (r.step k).above)
  room_above k i h l =
      let es = (r.step k).above in
      let b = length_walls r.weight r.edge (event k) es in
      room (suc i) (event_wall ∷ walls k es) (omega (arith, b)) rises
      (lower_first event_wall (walls k es)
      (walls_ordered r.weight r.edge (event k) es (law.ordered_above k h))
      (walls_each (λ a. IsLower event_wall a) r.weight r.edge (event k) es
      (λ e m. lower (side (r.edge e) (event k)) (rise r.weight (r.edge e)) (law.over k h e m))))
    where
      rises : (c : Wall) → Has c (event_wall ∷ walls k (r.step k).above) → pos 0 <ℤ c.rise
      rises c (inl f) = subst (λ (x : Wall). pos 0 <ℤ x.rise) (sym f) (omega (arith, ints))
      rises c (inr m) =
          walls_rise r.weight r.edge (event k) (r.step k).above
          (λ e n. rise_of r run law k e (omega arith) (in_above r run law k e h n)) c m

      lower : (s u : ℤ) → s <ℤ pos 0 → ((pos 1 *ℤ s) -ℤ (u *ℤ pos 0)) <ℤ pos 0
      lower s u a = let z : u *ℤ pos 0 ≡ pos 0 = omega (arith, ints) in omega (arith, ints, z)

  pub gate_below : (k i : ℕ) → k < r.steps → i ≤ length (r.step k).below
      → (o : Vector) × Place o × IsLevel r k o × Parts (sides r o) i (r.list k)
      × Parts (sides r o) i (r.list (suc k))
  gate_below k i h l =
      let s = r.step k in
      let m = room_below k i h l in
      let n = parts_last (from_height m.d m.t) i (walls k s.below) event_wall
      (let b = length_walls r.weight r.edge (event k) s.below in omega (arith, b)) m.parts in
      let zero_d : m.d *ℤ pos 0 ≡ pos 0 = omega (arith, ints) in
      let t : m.t <ℤ pos 0 = (let x = n.1 in omega (arith, ints, x, zero_d)) in
      let o = lifted r.weight m.d m.t (event k) in
      let b : Parts (sides r o) i s.below = parts_like _ _ i s.below
      (λ e. lifted_side r.weight m.d m.t (event k) (r.edge e))
      (parts_map (from_height m.d m.t)
      (λ e. wall r.weight (event k) (r.edge e)) i s.below n.0) in
      let a : (e : ℕ) → Has e s.above
      → sides r o e <ℤ pos 0 =
      λ e x. under k m.d m.t e m.whole t (strict (law.over k h e x))
      (rise_of r run law k e (omega arith) (in_above r run law k e h x)) in
      let c : (e : ℕ) → Has e s.ending
      → sides r o e <ℤ pos 0 =
      λ e x. under k m.d m.t e m.whole t (weak (ending_zero r run law k e h x))
      (rise_of r run law k e (omega arith) (in_ending r run law k e h x)) in
      let d : (e : ℕ) → Has e s.starting
      → sides r o e <ℤ pos 0 =
      λ e x. under k m.d m.t e m.whole t (weak (starting_zero r run law k e h x))
      (rise_of r run law (suc k) e (omega arith) (in_starting r run law k e h x)) in (
        o,
        lifted_place r.weight m.d m.t (event k) m.whole (omega (arith, ints)),
        lifted_level r k m.d m.t,
        subst (λ (es : List ℕ). Parts (sides r o) i es) (sym (run.before k h))
            (parts_low (sides r o) i s.below (s.ending ++ s.above) l b
            (λ e x. both (sides r o) s.ending s.above c a e (has_append e s.ending s.above x))),
        subst (λ (es : List ℕ). Parts (sides r o) i es) (sym (run.after k h))
            (parts_low (sides r o) i s.below (s.starting ++ s.above) l b
            (λ e x. both (sides r o) s.starting s.above d a e (has_append e s.starting s.above x))),
      )
    where
      strict : {z : ℤ} → z <ℤ pos 0 → z ≤ℤ pos 0
      strict l = omega (arith, ints)

      weak : {z : ℤ} → z ≡ pos 0 → z ≤ℤ pos 0
      weak l = omega (arith, ints)

      both : (f : ℕ → ℤ) (xs ys : List ℕ) → ((e : ℕ) → Has e xs → f e <ℤ pos 0)
          → ((e : ℕ) → Has e ys → f e <ℤ pos 0) → (e : ℕ) → Has e xs ⊎ Has e ys → f e <ℤ pos 0
      both f xs ys a b e (inl m) = a e m
      both f xs ys a b e (inr m) = b e m

  pub gate_above : (k i j m : ℕ) → k < r.steps → m ≤ length (r.step k).above
      → i ≡ length (r.step k).below + (length (r.step k).ending + m)
      → j ≡ length (r.step k).below + (length (r.step k).starting + m)
      → (o : Vector) × Place o × IsLevel r k o × Parts (sides r o) i (r.list k)
      × Parts (sides r o) j (r.list (suc k))
  gate_above k i j m h l e1 e2 =
      let s = r.step k in
      let n = room_above k m h l in
      let zero_d : n.d *ℤ pos 0 ≡ pos 0 = omega (arith, ints) in
      let t : pos 0 <ℤ n.t = (let x = n.parts.0 in omega (arith, ints, x, zero_d)) in
      let o = lifted r.weight n.d n.t (event k) in
      let a : Parts (sides r o) m s.above = parts_like _ _ m s.above
      (λ e. lifted_side r.weight n.d n.t (event k) (r.edge e))
      (parts_map (from_height n.d n.t)
      (λ e. wall r.weight (event k) (r.edge e)) m s.above n.parts.1) in
      let b : (e : ℕ) → Has e s.below
      → pos 0 <ℤ sides r o e =
      λ e x. over k n.d n.t e n.whole t (strict (law.under k h e x))
      (rise_of r run law k e (omega arith) (in_below r run law k e h x)) in
      let c : (e : ℕ) → Has e s.ending
      → pos 0 <ℤ sides r o e =
      λ e x. over k n.d n.t e n.whole t (weak (ending_zero r run law k e h x))
      (rise_of r run law k e (omega arith) (in_ending r run law k e h x)) in
      let d : (e : ℕ) → Has e s.starting
      → pos 0 <ℤ sides r o e =
      λ e x. over k n.d n.t e n.whole t (weak (starting_zero r run law k e h x))
      (rise_of r run law (suc k) e (omega arith) (in_starting r run law k e h x)) in (
        o,
        lifted_place r.weight n.d n.t (event k) n.whole (omega (arith, ints)),
        lifted_level r k n.d n.t,
        subst (λ (es : List ℕ). Parts (sides r o) i es) (sym (run.before k h))
            (parts_high (sides r o) i (length s.ending + m) s.below (s.ending ++ s.above) e1 b
            (parts_high (sides r o) (length s.ending + m) m s.ending s.above refl c a)),
        subst (λ (es : List ℕ). Parts (sides r o) j es) (sym (run.after k h))
            (parts_high (sides r o) j (length s.starting + m) s.below (s.starting ++ s.above) e2 b
            (parts_high (sides r o) (length s.starting + m) m s.starting s.above refl d a)),
      )
    where
      strict : {z : ℤ} → pos 0 <ℤ z → pos 0 ≤ℤ z
      strict l = omega (arith, ints)

      weak : {z : ℤ} → z ≡ pos 0 → pos 0 ≤ℤ z
      weak l = omega (arith, ints)
