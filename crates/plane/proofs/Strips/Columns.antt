-- A segment within one closed strip hits no edge where its ends have the same edges below them.
-- So places of one cell are joined.
use Rattle.std.proofs.Common.{◌≡◌, ℕ, zero, suc, ◌<◌, ◌≤◌, [], ◌∷◌, ℤ, pos, ◌+ℤ◌, ◌*ℤ◌, ◌<ℤ◌, ◌≤ℤ◌}
use Rattle.std.proofs.Common.{refl, arith, ap, ◌∙◌, ◌⊎◌, inl, inr, subst}
use Rattle.std.proofs.lemmas.Int.{ints, by_lt_z}
use Rattle.plane.specs.Lists.{Has}
use Rattle.plane.specs.declared.kinds.Point.{Point}
use Rattle.plane.specs.Forms.Vectors.{Vector, Place, Same, mix, point, side, sweep, On}
use Rattle.plane.specs.Faces.Replays.{Replay, IsOffEdges, reach}
use Rattle.plane.proofs.Runs.RunWords.{IsRun, IsLawful, IsBetweenEvents, IsStrip}
use Rattle.plane.specs.Faces.Cells.{Sector, IsSector, sector, strip, raised, IsFree, JoinedByEdges}
use Rattle.plane.specs.Faces.Cells.{arrives, goes}
use Rattle.plane.proofs.Algebra.Laws.{product_positive}
use Rattle.plane.proofs.Algebra.Scaling.{times_le, times_lt, product_negative}
use Rattle.plane.proofs.Linear.Vectors.{side-mix, sweep-mix, rise-is}
use Rattle.plane.proofs.Linear.Signs.{mix_place}
use Rattle.plane.proofs.Linear.Clear.{Agrees, mix_clear, on_same}
use Rattle.plane.proofs.Strips.CountBelow.{raised_most}
use Rattle.plane.proofs.Strips.OnSweepLine.{IsLevel}
use Rattle.plane.proofs.Strips.ToTheRight.{cells_eq, IsClosed, closed_strip, scaled_rising}
use Rattle.plane.proofs.Strips.ToTheRight.{free_back}
use Rattle.plane.proofs.Strips.OneStrip.{strip_is, strip_only}
use Rattle.plane.proofs.Strips.OneCut.{sides, parts_agree, parts_nonzero, parts_count}
use Rattle.plane.proofs.Strips.OneCut.{divided_parts}
use Rattle.plane.proofs.Strips.Centres.{IsCentre, centre}
use Rattle.plane.proofs.Algebra.Ring.{at, num, plus, times, vars, ring}

pub by_less : {P : Type 0} (a b : ℕ) → (a < b → P) → (b ≤ a → P) → P
by_less a zero f g = g (omega arith)
by_less zero (suc b) f g = f (omega arith)
by_less (suc a) (suc b) f g = by_less a b (λ l. f (omega arith)) (λ l. g (omega arith))

mix_second : (t : ℤ) (p q : Vector) → Same (mix (pos 0) p t q) q
mix_second t p q = record { x = one p.x p.n q.x q.n t; y = one p.y p.n q.y q.n t }
  where
    one : (x n y m t : ℤ) → ((pos 0 *ℤ x) +ℤ (t *ℤ y)) *ℤ m ≡ y *ℤ ((pos 0 *ℤ n) +ℤ (t *ℤ m))
    one x n y m t =
        ring (times (plus (times (num (pos 0)) (at 0)) (times (at 4) (at 2))) (at 3))
        (times (at 2) (plus (times (num (pos 0)) (at 1)) (times (at 4) (at 3))))
        (vars (x ∷ n ∷ y ∷ m ∷ t ∷ [])) refl

mix_first : (s : ℤ) (p q : Vector) → Same (mix s p (pos 0) q) p
mix_first s p q = record { x = one p.x p.n q.x q.n s; y = one p.y p.n q.y q.n s }
  where
    one : (x n y m s : ℤ) → ((s *ℤ x) +ℤ (pos 0 *ℤ y)) *ℤ n ≡ x *ℤ ((s *ℤ n) +ℤ (pos 0 *ℤ m))
    one x n y m s =
        ring (times (plus (times (at 4) (at 0)) (times (num (pos 0)) (at 2))) (at 1))
        (times (at 0) (plus (times (at 4) (at 1)) (times (num (pos 0)) (at 3))))
        (vars (x ∷ n ∷ y ∷ m ∷ s ∷ [])) refl

mix_reach : (c s a t b : ℤ) → c *ℤ ((s *ℤ a) +ℤ (t *ℤ b)) ≡ (s *ℤ (c *ℤ a)) +ℤ (t *ℤ (c *ℤ b))
mix_reach c s a t b =
    ring (times (at 0) (plus (times (at 1) (at 2)) (times (at 3) (at 4))))
    (plus (times (at 1) (times (at 0) (at 2))) (times (at 3) (times (at 0) (at 4))))
    (vars (c ∷ s ∷ a ∷ t ∷ b ∷ [])) refl

module _ (r : Replay) (run : IsRun r) (law : IsLawful r) where
  -- an edge with a place strictly inside a strip is in its live list
  pub in_live : (k e : ℕ) (z : Vector) → k ≤ r.steps → e < r.edges → IsBetweenEvents r k z
      → On r.weight (r.edge e) z → Has e (r.list k)
  in_live k e z h l inside on =
      let b = run.begins e l in
      let d = run.ends e l in
      let low = on.low in
      let high = on.high in
      by_less b.0 k
      (λ (i : b.0 < k). by_less d.0 k
      (λ (j : d.0 < k).
      let f = inside.from d.0 j in
      let g = ap (λ (p : Point). sweep r.weight (point p) *ℤ z.n) d.2 in
      absurd (omega (arith, ints, f, g, high)))
      (λ (j : k ≤ d.0). law.alive k e b.0 d.0 l i b.2 j d.1 d.2))
      (λ (i : k ≤ b.0).
      let f = inside.to b.0 i b.1 in
      let g = ap (λ (p : Point). sweep r.weight (point p) *ℤ z.n) b.2 in
      absurd (omega (arith, ints, f, g, low)))

  -- an edge with a place on an event's sweep line is live before it or after it
  pub in_either : (k e : ℕ) (o : Vector) → k < r.steps → e < r.edges → Place o → IsLevel r k o
      → On r.weight (r.edge e) o → Has e (r.list k) ⊎ Has e (r.list (suc k))
  in_either k e o h l O level on =
      let b = run.begins e l in
      let d = run.ends e l in
      let low = on.low in
      let high = on.high in
      by_less k b.0
      (λ (i : k < b.0).
      let f = scaled_rising r run k b.0 o.n O i b.1 in
      let g = ap (λ (p : Point). sweep r.weight (point p) *ℤ o.n) b.2 in
      absurd (omega (arith, ints, f, g, low, level)))
      (λ (i : b.0 ≤ k). by_less d.0 k
      (λ (j : d.0 < k).
      let f = scaled_rising r run d.0 k o.n O j h in
      let g = ap (λ (p : Point). sweep r.weight (point p) *ℤ o.n) d.2 in
      absurd (omega (arith, ints, f, g, high, level)))
      (λ (j : k ≤ d.0). by_less b.0 k
      (λ (c : b.0 < k). inl (law.alive k e b.0 d.0 l c b.2 j d.1 d.2))
      (λ (c : k ≤ b.0). by_less k d.0
      (λ (a : k < d.0). inr (law.alive (suc k) e b.0 d.0 l (omega arith) b.2 a d.1 d.2))
      (λ (a : d.0 ≤ k).
      let same : b.0 ≡ d.0 = omega arith in
      let f = ap (reach r) same in
      let g = ap (λ (p : Point). sweep r.weight (point p)) b.2 in
      let t = ap (λ (p : Point). sweep r.weight (point p)) d.2 in
      let u = run.rise e l in
      let v = rise-is r.weight (r.edge e) in
      absurd (omega (arith, ints, f, g, t, u, v))))))

  -- the law of one strip
  pub free_inside : (k : ℕ) (p q : Vector) → k ≤ r.steps → Place p → Place q → IsOffEdges r p
      → IsOffEdges r q → IsClosed r k p → IsClosed r k q
      → ((j : ℕ) → k ≤ j → j < r.steps → sweep r.weight p <ℤ (reach r j *ℤ p.n))
      → ((j : ℕ) → j < k → (reach r j *ℤ q.n) <ℤ sweep r.weight q)
      → ((e : ℕ) → Has e (r.list k) → Agrees (r.edge e) p q) → IsFree r p q
  free_inside k p q h P Q off_p off_q a b right left agree e l =
      mix_clear r.weight (r.edge e) p q P Q hit
    where
      inside : (s t : ℤ) → pos 0 <ℤ s → pos 0 <ℤ t → IsBetweenEvents r k (mix s p t q)
      inside s t hs ht =
          let m = sweep-mix r.weight s p t q in
          record {
            from = λ (j : ℕ) (c : j < k).
                let f = times_le s (reach r j *ℤ p.n) (sweep r.weight p) (omega (arith, ints))
                (a.from j c) in
                let g = times_lt t (reach r j *ℤ q.n) (sweep r.weight q) ht (left j c) in
                let i = mix_reach (reach r j) s p.n t q.n in
                omega (arith, ints, m, f, g, i);
            to = λ (j : ℕ) (c : k ≤ j) (d : j < r.steps).
                let f = times_lt s (sweep r.weight p) (reach r j *ℤ p.n) hs (right j c d) in
                let g = times_le t (sweep r.weight q) (reach r j *ℤ q.n) (omega (arith, ints))
                (b.to j c d) in
                let i = mix_reach (reach r j) s p.n t q.n in
                omega (arith, ints, m, f, g, i);
          }

      crossed : (s t : ℤ) → pos 0 <ℤ s → pos 0 <ℤ t → On r.weight (r.edge e) (mix s p t q) → ⊥
      crossed s t hs ht on =
          let m = side-mix (r.edge e) s p t q in
          let z = on.line in
          elim (agree e (in_live k e (mix s p t q) h l (inside s t hs ht) on)) [
            | inl c ↦ (let f = product_positive s (side (r.edge e) p) hs c.0 in
                let g = product_positive t (side (r.edge e) q) ht c.1 in
                omega (arith, ints, m, z, f, g))
            | inr c ↦ (let f = product_negative s (side (r.edge e) p) hs c.0 in
                let g = product_negative t (side (r.edge e) q) ht c.1 in
                omega (arith, ints, m, z, f, g))
          ]

      hit : (s t : ℤ) → pos 0 ≤ℤ s → pos 0 ≤ℤ t → pos 0 <ℤ (s +ℤ t)
          → On r.weight (r.edge e) (mix s p t q) → ⊥
      hit s t hs ht some on = by_lt_z (pos 0) s
          (λ (x : pos 0 <ℤ s). by_lt_z (pos 0) t (λ (y : pos 0 <ℤ t). crossed s t x y on)
          (λ (y : t ≤ℤ pos 0).
          let z : t ≡ pos 0 = omega (arith, ints) in
          let on2 = subst (λ (i : ℤ). On r.weight (r.edge e) (mix s p i q)) z on in
          off_p e l (on_same r.weight (r.edge e) (mix s p (pos 0) q) p (mix_first s p q)
          (mix_place s p (pos 0) q P Q hs (omega (arith, ints)) (omega (arith, ints))) P on2)))
          (λ (x : s ≤ℤ pos 0).
          let z : s ≡ pos 0 = omega (arith, ints) in
          let on2 = subst (λ (i : ℤ). On r.weight (r.edge e) (mix i p t q)) z on in
          off_q e l (on_same r.weight (r.edge e) (mix (pos 0) p t q) q (mix_second t p q)
          (mix_place (pos 0) p t q P Q (omega (arith, ints)) ht (omega (arith, ints))) Q on2))

  -- ---- centres of cells
  pub closed_inside : (k : ℕ) (z : Vector) → IsBetweenEvents r k z → IsClosed r k z
  closed_inside k z h = record {
    from = λ (j : ℕ) (a : j < k). let f = h.from j a in omega (arith, ints);
    to = λ (j : ℕ) (a : k ≤ j) (b : j < r.steps). let f = h.to j a b in omega (arith, ints);
  }

  pub centre_off : (c : Sector) (z : Vector) → c.strip ≤ r.steps → IsCentre r c z → IsOffEdges r z
  centre_off c z h m e l on =
      parts_nonzero (sides r z) c.index (r.list c.strip) m.parts e
      (in_live c.strip e z h l m.inside on) on.line

  -- a centre is in its cell
  pub centre_cell : (c : Sector) (z : Vector) → IsSector r c → IsCentre r c z → sector r z ≡ c
  centre_cell c z h m =
      let k = c.strip in
      let s : IsStrip r k z = record {
        fits = h.strip;
        from = λ (j : ℕ) (a : j < k). let f = m.inside.from j a in omega (arith, ints);
        to = m.inside.to;
      } in
      let e = strip_only r run (strip r z) k z (strip_is r run z m.place) s in
      let n = parts_count r z c.index (r.list k) h.index m.parts in
      cells_eq (sector r z) c e (ap (λ (j : ℕ). raised r z (r.list j)) e ∙ n)

  -- a place of the cell and a place inside it
  pub free_to_centre : (p z : Vector) → Place p → IsOffEdges r p → IsCentre r (sector r p) z
      → IsFree r p z
  free_to_centre p z P off m =
      let k = strip r p in
      let s = strip_is r run p P in
      let f = divided_parts r p (r.list k) (law.divided k p P off s) in
      free_inside k p z s.fits P m.place off (centre_off (sector r p) z s.fits m)
      (closed_strip r k p s) (closed_inside k z m.inside) s.to m.inside.from
      (λ e l. parts_agree (sides r p) (sides r z) (raised r p (r.list k)) (r.list k) f m.parts e l)

  pub cell_is : (p : Vector) → Place p → IsSector r (sector r p)
  cell_is p P =
      let s = strip_is r run p P in
      record { strip = s.fits; index = raised_most r p (r.list (strip r p)) }

  -- two places of one cell are joined
  pub one_cell : (p q : Vector) → Place p → Place q → IsOffEdges r p → IsOffEdges r q
      → sector r p ≡ sector r q → JoinedByEdges r p q
  one_cell p q P Q off_p off_q e =
      let c = centre r run law (sector r p) (cell_is p P) in
      let z = c.0 in
      let m = c.1 in
      let n : IsCentre r (sector r q) z = subst (λ (x : Sector). IsCentre r x z) e m in
      goes p z q m.place (free_to_centre p z P off_p m)
      (goes z q q Q (free_back r q z Q m.place (free_to_centre q z Q off_q n))
      (arrives q q record { x = refl; y = refl }))
