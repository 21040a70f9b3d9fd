-- Every segment that crosses an edge tells its two sides.
-- From each end of it a free way leads to a place near the crossing, which lies in a cell beside
-- the edge.
use Rattle.std.proofs.Common.{◌≡◌, ℕ, suc, ◌<◌, ◌≤◌, ℤ, pos, negsuc, ◌+ℤ◌, ◌*ℤ◌, ◌-ℤ◌, ◌<ℤ◌, ◌≤ℤ◌}
use Rattle.std.proofs.Common.{arith, ap, sym, ◌∙◌, ◌⊎◌, inl, inr, subst}
use Rattle.std.proofs.lemmas.Int.{ints}
use Rattle.plane.specs.declared.kinds.Point.{Point}
use Rattle.plane.specs.Lists.{Has}
use Rattle.plane.specs.Forms.Vectors.{Vector, Place, point, mix, Edge, side, sweep, rise, On}
use Rattle.plane.specs.Forms.Vectors.{HitsEdge}
use Rattle.plane.specs.Faces.Replays.{Replay, IsOffEdges}
use Rattle.plane.proofs.Runs.RunWords.{IsRun, IsLawful, IsStrip}
use Rattle.plane.specs.Faces.Cells.{sector, strip, raised, IsFree, Linked}
use Rattle.plane.specs.Faces.Halves.{under, over, At, AtBefore, Beside}
use Rattle.plane.proofs.FaceLemmas.EdgeCrossings.{IsCrossing}
use Rattle.plane.proofs.Algebra.Laws.{product_nonnegative}
use Rattle.plane.proofs.Algebra.Scaling.{times_le}
use Rattle.plane.proofs.Linear.Vectors.{side-mix, sweep-mix, rise-is}
use Rattle.plane.proofs.Linear.Signs.{mix_place, mix_between}
use Rattle.plane.proofs.Linear.Clear.{on_same, clear_start, clear_back}
use Rattle.plane.proofs.Strips.OneCut.{sides, divided_parts}
use Rattle.plane.proofs.Strips.ToTheRight.{closed_strip, spans_strip}
use Rattle.plane.proofs.Strips.OneStrip.{strip_is, strip_only, linked_join, segment_linked}
use Rattle.plane.proofs.Strips.CountBelow.{raised_most}
use Rattle.plane.proofs.Strips.Columns.{by_less}
use Rattle.plane.proofs.Turning.OneSide.{at_unique}
use Rattle.plane.proofs.FaceLemmas.SmallSteps.{Way, value, value_on, off_way, way_clear, near}
use Rattle.plane.proofs.FaceLemmas.SmallSteps.{near_keeps, near_zero, IsLarge, large}
use Rattle.plane.proofs.FaceLemmas.SmallSteps as way
use Rattle.plane.proofs.FaceLemmas.NearEdge.{parts_step, near_first, near_second, one_crossing}
use Rattle.plane.proofs.FaceLemmas.NearEdge.{aside, aside_side, aside_sweep, scaled_near, by_equal}

module _ (r : Replay) (run : IsRun r) (law : IsLawful r) (e : ℕ) (p q : Vector) (l : e < r.edges)
    (x : IsCrossing r e p q) where
  abbrev w : ℤ
  w = r.weight

  abbrev E : Edge
  E = r.edge e

  abbrev z : Vector
  z = mix (pos 0 -ℤ side E q) p (side E p) q

  least_p : pos 0 ≤ℤ side E p
  least_p = let a = x.above in omega (arith, ints, a)

  least_q : pos 0 ≤ℤ (pos 0 -ℤ side E q)
  least_q = let a = x.below in omega (arith, ints, a)

  some_pq : pos 0 <ℤ ((pos 0 -ℤ side E q) +ℤ side E p)
  some_pq = let a = x.above in let b = x.below in omega (arith, ints, a, b)

  z_place : Place z
  z_place = mix_place (pos 0 -ℤ side E q) p (side E p) q x.p_place x.q_place least_q least_p some_pq

  z_on : On w E z
  z_on =
      let h = x.hits in
      let b = h.between in
      let m = mix b.s p b.t q in
      let M = mix_place b.s p b.t q x.p_place x.q_place b.s_least b.t_least b.some in
      let on = on_same w E h.z m b.is h.place M h.on in
      on_same w E m z
      (one_crossing b.s b.t (side E p) (side E q) p q (sym (side-mix E b.s p b.t q) ∙ on.line))
      M z_place on

  z_side : side E z ≡ pos 0
  z_side = z_on.line

  other_way : (f : ℕ) → f < r.edges → (f ≡ e → ⊥) → (i : Way) × (pos 0 <ℤ value w (r.edge f) i z)
  other_way f h differ = off_way w (r.edge f) z
      (λ on. x.clear f h differ record {
        z = z;
        place = z_place;
        between = mix_between (pos 0 -ℤ side E q) p (side E p) q least_q least_p some_pq;
        on = on;
      })

  -- ---- large enough for four directions
  abbrev pub high : Vector
  high = aside w E (pos 1)

  abbrev pub low : Vector
  low = aside w E (negsuc 0)

  pub high_place : Place high
  high_place = omega (arith, ints)

  pub low_place : Place low
  low_place = omega (arith, ints)

  high_above : pos 0 <ℤ side E high
  high_above = let a = aside_side w E (pos 1) in let b = run.rise e l in omega (arith, ints, a, b)

  low_below : side E low <ℤ pos 0
  low_below = let a = aside_side w E (negsuc 0) in let b = run.rise e l in omega (arith, ints, a, b)

  abbrev N : ℤ
  N = ((large w r.edge r.edges p).0 +ℤ (large w r.edge r.edges q).0)
      +ℤ ((large w r.edge r.edges high).0 +ℤ (large w r.edge r.edges low).0)

  n_positive : pos 0 <ℤ N
  n_positive =
      let a = (large w r.edge r.edges p).1 in
      let b = (large w r.edge r.edges q).1 in
      let c = (large w r.edge r.edges high).1 in let d = (large w r.edge r.edges low).1 in
      omega (arith, ints, a, b, c, d)

  n_least : pos 0 ≤ℤ N
  n_least = let a = n_positive in omega (arith, ints, a)

  more : (d : Vector) → (large w r.edge r.edges d).0 ≤ℤ N → IsLarge w r.edge r.edges N d
  more d m f h i = let a = (large w r.edge r.edges d).2 f h i in omega (arith, ints, a, m)

  large_p : IsLarge w r.edge r.edges N p
  large_p =
      let a = (large w r.edge r.edges p).1 in
      let b = (large w r.edge r.edges q).1 in
      let c = (large w r.edge r.edges high).1 in
      let d = (large w r.edge r.edges low).1 in more p (omega (arith, ints, a, b, c, d))

  large_q : IsLarge w r.edge r.edges N q
  large_q =
      let a = (large w r.edge r.edges p).1 in
      let b = (large w r.edge r.edges q).1 in
      let c = (large w r.edge r.edges high).1 in
      let d = (large w r.edge r.edges low).1 in more q (omega (arith, ints, a, b, c, d))

  large_high : IsLarge w r.edge r.edges N high
  large_high =
      let a = (large w r.edge r.edges p).1 in
      let b = (large w r.edge r.edges q).1 in
      let c = (large w r.edge r.edges high).1 in
      let d = (large w r.edge r.edges low).1 in more high (omega (arith, ints, a, b, c, d))

  large_low : IsLarge w r.edge r.edges N low
  large_low =
      let a = (large w r.edge r.edges p).1 in
      let b = (large w r.edge r.edges q).1 in
      let c = (large w r.edge r.edges high).1 in
      let d = (large w r.edge r.edges low).1 in more low (omega (arith, ints, a, b, c, d))

  pub near_place : (d : Vector) → Place d → Place (near N z d)
  near_place d D =
      mix_place N z (pos 1) d z_place D n_least (omega (arith, ints)) (let a = n_positive in
      omega (arith, ints, a))

  near_way : (d : Vector) → IsLarge w r.edge r.edges N d
      → (f : ℕ) (h : f < r.edges) (differ : f ≡ e → ⊥)
      → pos 0 <ℤ value w (r.edge f) (other_way f h differ).0 (near N z d)
  near_way d big f h differ =
      let i = other_way f h differ in near_keeps w (r.edge f) i.0 N z d n_least (big f h i.0) i.1

  -- ---- free segments near the crossing and to it
  free_near : (i : Way) (d c : Vector) → Place d → Place c → IsLarge w r.edge r.edges N d
      → IsLarge w r.edge r.edges N c
      → value w E i z ≡ pos 0 → pos 0 <ℤ value w E i d → pos 0 <ℤ value w E i c
      → IsFree r (near N z d) (near N z c)
  free_near i d c D C big_d big_c none hd hc f h hit = by_equal f e
      (λ (same : f ≡ e). way_clear w E i (near N z d) (near N z c) (near_place d D) (near_place c C)
      (near_zero w E i N z d none hd) (near_zero w E i N z c none hc)
      (subst (λ (y : ℕ). HitsEdge w (near N z d) (near N z c) (r.edge y)) same hit))
      (λ differ. way_clear w (r.edge f) (other_way f h differ).0 (near N z d) (near N z c)
      (near_place d D) (near_place c C) (near_way d big_d f h differ)
      (near_way c big_c f h differ) hit)

  weights : (s : ℤ) → pos 0 ≤ℤ s → pos 0 ≤ℤ ((N *ℤ s) +ℤ pos 1)
  weights s h = let a = product_nonnegative N s n_least h in omega (arith, ints, a)

  sum_weights : (s t : ℤ) → pos 0 ≤ℤ s → pos 0 ≤ℤ t → pos 0 <ℤ (((N *ℤ s) +ℤ pos 1) +ℤ (N *ℤ t))
  sum_weights s t h k =
      let a = product_nonnegative N s n_least h in
      let b = product_nonnegative N t n_least k in omega (arith, ints, a, b)

  free_first : IsFree r p (near N z p)
  free_first f h = by_equal f e
      (λ (same : f ≡ e) hit. way_clear w E way.over p (near N z p) x.p_place
      (near_place p x.p_place) x.above (near_zero w E way.over N z p z_side x.above)
      (subst (λ (y : ℕ). HitsEdge w p (near N z p) (r.edge y)) same hit))
      (λ differ hit. clear_start w (r.edge f) p q x.p_place x.q_place
      ((N *ℤ (pos 0 -ℤ side E q)) +ℤ pos 1) (N *ℤ side E p)
      (weights (pos 0 -ℤ side E q) least_q) (product_nonnegative N (side E p) n_least least_p)
      (sum_weights (pos 0 -ℤ side E q) (side E p) least_q least_p) (x.clear f h differ)
      (subst (λ (v : Vector). HitsEdge w p v (r.edge f))
      (near_first N (pos 0 -ℤ side E q) (side E p) p q) hit))

  under_z : value w E way.under z ≡ pos 0
  under_z = let a = z_side in omega (arith, ints, a)

  under_q : pos 0 <ℤ value w E way.under q
  under_q = let a = x.below in omega (arith, ints, a)

  under_low : pos 0 <ℤ value w E way.under low
  under_low = let a = low_below in omega (arith, ints, a)

  free_second : IsFree r q (near N z q)
  free_second f h = by_equal f e
      (λ (same : f ≡ e) hit. way_clear w E way.under q (near N z q) x.q_place
      (near_place q x.q_place) under_q (near_zero w E way.under N z q under_z under_q)
      (subst (λ (y : ℕ). HitsEdge w q (near N z q) (r.edge y)) same hit))
      (λ differ hit. clear_start w (r.edge f) q p x.q_place x.p_place ((N *ℤ side E p) +ℤ pos 1)
      (N *ℤ (pos 0 -ℤ side E q)) (weights (side E p) least_p)
      (product_nonnegative N (pos 0 -ℤ side E q) n_least least_q)
      (sum_weights (side E p) (pos 0 -ℤ side E q) least_p least_q)
      (clear_back w (r.edge f) p q x.p_place x.q_place (x.clear f h differ))
      (subst (λ (v : Vector). HitsEdge w q v (r.edge f))
      (near_second N (pos 0 -ℤ side E q) (side E p) p q) hit))

  abbrev pub top : Vector
  top = near N z high

  abbrev pub bottom : Vector
  bottom = near N z low

  linked_top : Linked r (sector r p) (sector r top)
  linked_top =
      linked_join r (sector r p) (sector r (near N z p)) (sector r top)
      (segment_linked r run law p (near N z p) x.p_place (near_place p x.p_place) free_first)
      (segment_linked r run law (near N z p) top (near_place p x.p_place)
      (near_place high high_place)
      (free_near way.over p high x.p_place high_place large_p large_high z_side x.above
      high_above))

  linked_bottom : Linked r (sector r q) (sector r bottom)
  linked_bottom =
      linked_join r (sector r q) (sector r (near N z q)) (sector r bottom)
      (segment_linked r run law q (near N z q) x.q_place (near_place q x.q_place) free_second)
      (segment_linked r run law (near N z q) bottom (near_place q x.q_place)
      (near_place low low_place)
      (free_near way.under q low x.q_place low_place large_q large_low under_z under_q
      under_low))

  -- ---- the two places near the crossing are in one strip, where e is live
  near_sweep : (d : Vector) → sweep w (near N z d) ≡ (N *ℤ sweep w z) +ℤ (pos 1 *ℤ sweep w d)
  near_sweep d = sweep-mix w N z (pos 1) d

  one_sweep : sweep w top ≡ sweep w bottom
  one_sweep =
      let a = near_sweep high in let b = near_sweep low in
      let c = aside_sweep w E (pos 1) in let d = aside_sweep w E (negsuc 0) in
      omega (arith, ints, a, b, c, d)

  abbrev k : ℕ
  k = strip r top

  top_strip : IsStrip r k top
  top_strip = strip_is r run top (near_place high high_place)

  bottom_strip : IsStrip r k bottom
  bottom_strip =
      let s = top_strip in
      let q = one_sweep in
      record {
        fits = s.fits;
        from = λ (j : ℕ) (h : j < k). let a = s.from j h in omega (arith, ints, a, q);
        to = λ (j : ℕ) (h : k ≤ j) (m : j < r.steps). let a = s.to j h m in
            omega (arith, ints, a, q);
      }

  e_live : Has e (r.list k)
  e_live =
      let b = run.begins e l in
      let d = run.ends e l in
      let s = top_strip in
      let on = z_on in
      let f = near_sweep high in
      let g = aside_sweep w E (pos 1) in
      let u = run.rise e l in
      let v = rise-is w E in
      let low1 = sweep w (point E.low) in
      let high1 = sweep w (point E.high) in
      let zs = sweep w z in
      let a1 = times_le N (low1 *ℤ z.n) zs n_least on.low in
      let a2 = times_le N zs (high1 *ℤ z.n) n_least on.high in
      let c1 = scaled_near low1 N z.n in
      let c2 = scaled_near high1 N z.n in
      let after : (low1 *ℤ ((N *ℤ z.n) +ℤ (pos 1 *ℤ pos 2))) <ℤ sweep w top = later
      (N *ℤ (low1 *ℤ z.n)) (N *ℤ zs) low1 high1 (sweep w high) (sweep w top) _ a1 c1 f g u v in
      let before : sweep w top <ℤ (high1 *ℤ ((N *ℤ z.n) +ℤ (pos 1 *ℤ pos 2))) = sooner
      (N *ℤ (high1 *ℤ z.n)) (N *ℤ zs) low1 high1 (sweep w high) (sweep w top) _ a2 c2 f g u v in
      by_less b.0 k
      (λ (i : b.0 < k). by_less d.0 k
      (λ (j : d.0 < k).
      let h = s.from d.0 j in
      let m = ap (λ (y : Point). sweep w (point y) *ℤ top.n) d.2 in
      absurd (omega (arith, ints, h, m, before)))
      (λ (j : k ≤ d.0). law.alive k e b.0 d.0 l i b.2 j d.1 d.2))
      (λ (i : k ≤ b.0).
      let h = s.to b.0 i b.1 in
      let m = ap (λ (y : Point). sweep w (point y) *ℤ top.n) b.2 in
      absurd (omega (arith, ints, h, m, after)))
    where
      later : (a b lo hi s t c : ℤ) → a ≤ℤ b → c ≡ a +ℤ (lo *ℤ pos 2) → t ≡ b +ℤ (pos 1 *ℤ s)
          → s ≡ lo +ℤ hi → pos 0 <ℤ rise w E → rise w E ≡ hi -ℤ lo → c <ℤ t
      later a b lo hi s t c h e1 e2 e3 u v = omega (arith, ints)

      sooner : (a b lo hi s t c : ℤ) → b ≤ℤ a → c ≡ a +ℤ (hi *ℤ pos 2) → t ≡ b +ℤ (pos 1 *ℤ s)
          → s ≡ lo +ℤ hi → pos 0 <ℤ rise w E → rise w E ≡ hi -ℤ lo → t <ℤ c
      sooner a b lo hi s t c h e1 e2 e3 u v = omega (arith, ints)

  top_over : pos 0 <ℤ side E top
  top_over = near_zero w E way.over N z high z_side high_above

  bottom_under : side E bottom <ℤ pos 0
  bottom_under = let a = near_zero w E way.under N z low under_z under_low in omega (arith, ints, a)

  near_off : (i : Way) (d : Vector) → IsLarge w r.edge r.edges N d
      → pos 0 <ℤ value w E i (near N z d) → IsOffEdges r (near N z d)
  near_off i d big here f h on = by_equal f e
      (λ (same : f ≡ e). let a = value_on w E i (near N z d)
      (subst (λ (y : ℕ). On w (r.edge y) (near N z d)) same on) in omega (arith, ints, a, here))
      (λ differ. let a = value_on w (r.edge f) (other_way f h differ).0 (near N z d) on in
      let b = near_way d big f h differ in omega (arith, ints, a, b))

  -- the other live edges are on one side of both
  alike : (f : ℕ) → Has f (r.list k) → (f ≡ e → ⊥)
      → ((pos 0 <ℤ side (r.edge f) top) × (pos 0 <ℤ side (r.edge f) bottom))
      ⊎ ((side (r.edge f) top <ℤ pos 0) × (side (r.edge f) bottom <ℤ pos 0))
  alike f has differ =
      let h = law.live k f top_strip.fits has in
      let i = other_way f h differ in
      let span = spans_strip r run law k f top top_strip.fits has
      (closed_strip r k top top_strip) in
      let a = near_way high large_high f h differ in
      let b = near_way low large_low f h differ in
      by_way i.0 span.low span.high a b
    where
      by_way : (i : Way) → (sweep w (point (r.edge f).low) *ℤ top.n) ≤ℤ sweep w top
          → sweep w top ≤ℤ (sweep w (point (r.edge f).high) *ℤ top.n)
          → pos 0 <ℤ value w (r.edge f) i top → pos 0 <ℤ value w (r.edge f) i bottom
          → ((pos 0 <ℤ side (r.edge f) top) × (pos 0 <ℤ side (r.edge f) bottom))
          ⊎ ((side (r.edge f) top <ℤ pos 0) × (side (r.edge f) bottom <ℤ pos 0))
      by_way way.over u v a b = inl (a, b)
      by_way way.under u v a b = inr (omega (arith, ints, a), omega (arith, ints, b))
      by_way way.early u v a b = absurd (omega (arith, ints, u, a))
      by_way way.late u v a b = absurd (omega (arith, ints, v, a))

  compared : At (r.list k) (raised r bottom (r.list k)) e
      × (raised r top (r.list k) ≡ suc (raised r bottom (r.list k)))
  compared =
      let off_top = near_off way.over high large_high top_over in
      let off_bottom = near_off way.under low large_low
      (near_zero w E way.under N z low under_z under_low) in
      let f = divided_parts r top (r.list k)
      (law.divided k top (near_place high high_place) off_top top_strip) in
      let g = divided_parts r bottom (r.list k)
      (law.divided k bottom (near_place low low_place) off_bottom bottom_strip) in
      parts_step (sides r top) (sides r bottom) (raised r top (r.list k))
      (raised r bottom (r.list k)) e (r.list k)
      (raised_most r top (r.list k)) f g e_live top_over bottom_under alike
      (λ a b y h m. at_unique r run law k a b y top_strip.fits h m)

  -- the cells near the crossing, on the two sides
  pub crossed : Linked r (sector r p) (sector r top) × Beside r (over e) (sector r top)
      × Linked r (sector r q) (sector r bottom) × Beside r (under e) (sector r bottom)
  crossed =
      let c = compared in
      let same = strip_only r run (strip r bottom) k bottom
      (strip_is r run bottom (near_place low low_place)) bottom_strip in (
        linked_top,
        subst (λ (i : ℕ). AtBefore (r.list k) i e) (sym c.1) c.0,
        linked_bottom,
        subst (λ (j : ℕ). At (r.list j) (raised r bottom (r.list j)) e) (sym same) c.0,
      )
