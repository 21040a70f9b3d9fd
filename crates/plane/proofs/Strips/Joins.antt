-- Places of cells that open to each other are joined, and so are places of linked cells.
-- The other way, joined places have linked cells.
use Rattle.std.proofs.Common.{◌≡◌, ℕ, suc, ◌+◌, ◌-◌, ◌<◌, ◌≤◌, List, [], ◌∷◌, ◌++◌, length, ℤ, ◌+ℤ◌}
use Rattle.std.proofs.Common.{◌*ℤ◌, refl, arith, ap, sym, ◌∙◌, inl, inr, ◌↔◌, subst, length-append}
use Rattle.std.proofs.lemmas.Int.{ints}
use Rattle.plane.specs.Lists.{Has}
use Rattle.plane.specs.Forms.Vectors.{Vector, Place, Same, mix}
use Rattle.plane.specs.Faces.Replays.{Replay, IsOffEdges}
use Rattle.plane.proofs.Runs.RunWords.{IsRun, IsLawful, IsStrip}
use Rattle.plane.specs.Faces.Cells.{Sector, IsSector, sector, Opens, Linked, stays, onward, back}
use Rattle.plane.specs.Faces.Cells.{IsFree, JoinedByEdges, arrives, goes}
use Rattle.plane.proofs.Linear.Signs.{mix_place}
use Rattle.plane.proofs.Linear.Clear.{mix_clear, on_same}
use Rattle.plane.proofs.Strips.OnSweepLine.{IsLevel}
use Rattle.plane.proofs.Strips.ToTheRight.{closed_strip, level_closed, level_strip, scaled_rising}
use Rattle.plane.proofs.Strips.ToTheRight.{free_back, off_end}
use Rattle.plane.proofs.Strips.OneStrip.{linked_join, linked_keeps, segment_linked}
use Rattle.plane.proofs.Strips.Heights.{Parts}
use Rattle.plane.proofs.Strips.OneCut.{sides, parts_agree, parts_nonzero}
use Rattle.plane.proofs.Strips.Centres.{IsCentre, centre}
use Rattle.plane.proofs.Strips.Columns.{in_either, free_inside, closed_inside, centre_off}
use Rattle.plane.proofs.Strips.Columns.{free_to_centre, cell_is}
use Rattle.plane.proofs.Strips.Openings.{gate_below, gate_above}
use Rattle.plane.proofs.Algebra.Ring.{at, plus, times, vars, ring}

-- a place on the sweep line of the event between c and d, with exactly the edges of c and of d
-- below it
pub record IsGate (r : Replay) (c d : Sector) (o : Vector) : Type 0 where
  pub place : Place o
  pub level : IsLevel r c.strip o
  pub before : Parts (sides r o) c.index (r.list c.strip)
  pub after : Parts (sides r o) d.index (r.list d.strip)

module _ (r : Replay) (run : IsRun r) (law : IsLawful r) where
  pub lengths_before : (k : ℕ) → k < r.steps
      → length (r.list k) ≡ length (r.step k).below
      + (length (r.step k).ending + length (r.step k).above)
  lengths_before k h =
      let a = ap (λ (es : List ℕ). length es) (run.before k h) in
      let b = length-append (r.step k).below ((r.step k).ending ++ (r.step k).above) in
      let c = length-append (r.step k).ending (r.step k).above in
      omega (arith, a, b, c)

  pub lengths_after : (k : ℕ) → k < r.steps
      → length (r.list (suc k)) ≡ length (r.step k).below
      + (length (r.step k).starting + length (r.step k).above)
  lengths_after k h =
      let a = ap (λ (es : List ℕ). length es) (run.after k h) in
      let b = length-append (r.step k).below ((r.step k).starting ++ (r.step k).above) in
      let c = length-append (r.step k).starting (r.step k).above in
      omega (arith, a, b, c)

  -- what opens is a cell on both sides
  pub opens_from : (c d : Sector) → Opens r c d → IsSector r c
  opens_from c d (inl o) =
      let h = o.fits in
      let n = lengths_before c.strip h in
      let l = o.low in
      record { strip = omega arith; index = omega (arith, n, l) }
  opens_from c d (inr o) = let h = o.fits in record { strip = omega arith; index = o.top }

  pub opens_to : (c d : Sector) → Opens r c d → IsSector r d
  opens_to c d (inl o) =
      let h = o.fits in
      let n = lengths_after c.strip h in
      let l = o.low in
      let e = o.kept in
      let f = o.next in
      record {
        strip = omega (arith, h, f);
        index = subst (λ (k : ℕ). d.index ≤ length (r.list k)) (sym f) (omega (arith, n, l, e));
      }
  opens_to c d (inr o) =
      let h = o.fits in
      let n = lengths_after c.strip h in
      let m = lengths_before c.strip h in
      let t = o.top in
      let e = o.kept in
      let f = o.next in
      record {
        strip = omega (arith, h, f);
        index = subst (λ (k : ℕ). d.index ≤ length (r.list k)) (sym f)
            (omega (arith, n, m, t, e));
      }

  pub gate : (c d : Sector) → Opens r c d → (o : Vector) × IsGate r c d o
  gate c d (inl o) =
      let g = gate_below r run law c.strip c.index o.fits o.low in (
        g.0,
        record {
          place = g.1;
          level = g.2;
          before = g.3;
          after = subst (λ (k : ℕ). Parts (sides r g.0) d.index (r.list k)) (sym o.next)
              (subst (λ (i : ℕ). Parts (sides r g.0) i (r.list (suc c.strip))) (sym o.kept) g.4);
        },
      )
  gate c d (inr o) =
      let h = o.fits in
      let n = lengths_before c.strip h in
      let t = o.top in
      let l = o.high in
      let e = o.kept in
      let m = c.index - (length (r.step c.strip).below + length (r.step c.strip).ending) in
      let g = gate_above r run law c.strip c.index d.index m h (omega (arith, n, t))
      (omega (arith, l)) (omega (arith, l, e)) in (
        g.0,
        record {
          place = g.1;
          level = g.2;
          before = g.3;
          after = subst (λ (k : ℕ). Parts (sides r g.0) d.index (r.list k)) (sym o.next) g.4;
        },
      )

  gate_off : (c d : Sector) (o : Vector) → c.strip < r.steps → d.strip ≡ suc c.strip
      → IsGate r c d o → IsOffEdges r o
  gate_off c d o h n g e l on = elim (in_either r run law c.strip e o h l g.place g.level on) [
    | inl m ↦ parts_nonzero (sides r o) c.index (r.list c.strip) g.before e m on.line
    | inr m ↦ parts_nonzero (sides r o) d.index (r.list d.strip) g.after e
        (subst (λ (k : ℕ). Has e (r.list k)) (sym n) m) on.line
  ]

  pub opens_fits : (c d : Sector) → Opens r c d → c.strip < r.steps
  opens_fits c d (inl o) = o.fits
  opens_fits c d (inr o) = o.fits

  pub opens_next : (c d : Sector) → Opens r c d → d.strip ≡ suc c.strip
  opens_next c d (inl o) = o.next
  opens_next c d (inr o) = o.next

  -- from a place in the one cell to the gate, and from the gate to a place in the other
  free_in : (c d : Sector) (z o : Vector) → Opens r c d → IsCentre r c z → IsGate r c d o
      → IsFree r z o
  free_in c d z o p m g =
      let k = c.strip in
      let h = opens_fits c d p in
      free_inside r run law k z o (omega arith) m.place g.place
      (centre_off r run law c z (omega arith) m) (gate_off c d o h (opens_next c d p) g)
      (closed_inside r run law k z m.inside) (level_closed r run k o g.place h g.level) m.inside.to
      (λ (j : ℕ) (a : j < k). let s = scaled_rising r run j k o.n g.place a h in let l = g.level in
      omega (arith, ints, s, l))
      (λ e l. parts_agree (sides r z) (sides r o) c.index (r.list k) m.parts g.before e l)

  free_out : (c d : Sector) (o z : Vector) → Opens r c d → IsGate r c d o → IsCentre r d z
      → IsFree r o z
  free_out c d o z p g m =
      let n = opens_next c d p in
      let h = opens_fits c d p in
      let s : IsStrip r d.strip o = subst (λ (k : ℕ). IsStrip r k o) (sym n)
      (level_strip r run c.strip o g.place h g.level) in
      free_inside r run law d.strip o z s.fits g.place m.place (gate_off c d o h n g)
      (centre_off r run law d z s.fits m)
      (closed_strip r d.strip o s) (closed_inside r run law d.strip z m.inside) s.to m.inside.from
      (λ e l. parts_agree (sides r o) (sides r z) d.index (r.list d.strip) g.after m.parts e l)

  -- two places inside one cell
  free_between : (c : Sector) (y z : Vector) → IsSector r c → IsCentre r c y → IsCentre r c z
      → IsFree r y z
  free_between c y z h m n =
      free_inside r run law c.strip y z h.strip m.place n.place (centre_off r run law c y h.strip m)
      (centre_off r run law c z h.strip n)
      (closed_inside r run law c.strip y m.inside)
      (closed_inside r run law c.strip z n.inside) m.inside.to n.inside.from
      (λ e l. parts_agree (sides r y) (sides r z) c.index (r.list c.strip) m.parts n.parts e l)

  -- from a place inside the one cell to a place of the other
  walk : (c d : Sector) (z q : Vector) → Linked r c d → IsSector r c → IsCentre r c z → Place q
      → IsOffEdges r q → d ≡ sector r q → JoinedByEdges r z q
  walk _ _ z q (stays c d h) C m Q off e =
      let n : IsCentre r (sector r q) z = subst (λ (x : Sector). IsCentre r x z) (h ∙ e) m in
      goes z q q Q (free_back r q z Q m.place (free_to_centre r run law q z Q off n))
      (arrives q q record { x = refl; y = refl })
  walk _ _ z q (onward c x d p l) C m Q off e =
      let g = gate c x p in
      let X = opens_to c x p in
      let y = centre r run law x X in
      goes z g.0 q g.1.place (free_in c x z g.0 p m g.1)
      (goes g.0 y.0 q y.1.place (free_out c x g.0 y.0 p g.1 y.1)
      (walk x d y.0 q l X y.1 Q off e))
  walk _ _ z q (back c x d p l) C m Q off e =
      let g = gate x c p in
      let X = opens_from x c p in
      let y = centre r run law x X in
      goes z g.0 q g.1.place (free_back r g.0 z g.1.place m.place (free_out x c g.0 z p g.1 m))
      (goes g.0 y.0 q y.1.place
      (free_back r y.0 g.0 y.1.place g.1.place (free_in x c y.0 g.0 p y.1 g.1))
      (walk x d y.0 q l X y.1 Q off e))

  -- places of linked cells are joined
  pub linked_joined : (p q : Vector) → Place p → Place q → IsOffEdges r p → IsOffEdges r q
      → Linked r (sector r p) (sector r q) → JoinedByEdges r p q
  linked_joined p q P Q off_p off_q l =
      let C = cell_is r run law p P in
      let y = centre r run law (sector r p) C in
      goes p y.0 q y.1.place (free_to_centre r run law p y.0 P off_p y.1)
      (walk (sector r p) (sector r q) y.0 q l C y.1 Q off_q refl)

  -- two vectors that are one place
  same_free : (p q : Vector) → Place p → Place q → IsOffEdges r p → Same p q → IsFree r p q
  same_free p q P Q off h e l = mix_clear r.weight (r.edge e) p q P Q
      (λ s t hs ht some on. off e l
      (on_same r.weight (r.edge e) (mix s p t q) p record {
        x = one s t p.x p.n q.x q.n h.x;
        y = one s t p.y p.n q.y q.n h.y;
      } (mix_place s p t q P Q hs ht some) P on))
    where
      one : (s t x n y m : ℤ) → x *ℤ m ≡ y *ℤ n
          → ((s *ℤ x) +ℤ (t *ℤ y)) *ℤ n ≡ x *ℤ ((s *ℤ n) +ℤ (t *ℤ m))
      one s t x n y m e =
          let a = ring (times (plus (times (at 0) (at 2)) (times (at 1) (at 4))) (at 3))
          (plus (times (at 0) (times (at 2) (at 3))) (times (at 1) (times (at 4) (at 3))))
          (vars (s ∷ t ∷ x ∷ n ∷ y ∷ m ∷ [])) refl in
          let b = ring (times (at 2) (plus (times (at 0) (at 3)) (times (at 1) (at 5))))
          (plus (times (at 0) (times (at 2) (at 3))) (times (at 1) (times (at 2) (at 5))))
          (vars (s ∷ t ∷ x ∷ n ∷ y ∷ m ∷ [])) refl in
          let c = ap (λ (v : ℤ). t *ℤ v) e in
          omega (arith, ints, a, b, c)

  -- joined places have linked cells
  pub joined_linked : (p q : Vector) → JoinedByEdges r p q → Place p → Place q → IsOffEdges r p
      → Linked r (sector r p) (sector r q)
  joined_linked _ _ (arrives p q h) P Q off =
      segment_linked r run law p q P Q (same_free p q P Q off h)
  joined_linked _ _ (goes p x q X free j) P Q off =
      linked_join r (sector r p) (sector r x) (sector r q) (segment_linked r run law p x P X free)
      (joined_linked x q j X Q (off_end r p x P X free))

  -- what is kept where cells open to each other is kept by joined places
  pub joined_keeps : {X : Type 0} (f : Sector → X) → ((c d : Sector) → Opens r c d → f c ≡ f d)
      → (p q : Vector) → JoinedByEdges r p q → Place p → Place q → IsOffEdges r p
      → f (sector r p) ≡ f (sector r q)
  joined_keeps f k p q j P Q off =
      linked_keeps r f k (sector r p) (sector r q) (joined_linked p q j P Q off)

  -- both ways
  pub joined_is_linked : (p q : Vector) → Place p → Place q → IsOffEdges r p → IsOffEdges r q
      → JoinedByEdges r p q ↔ Linked r (sector r p) (sector r q)
  joined_is_linked p q P Q off_p off_q =
      ((λ j. joined_linked p q j P Q off_p), (λ l. linked_joined p q P Q off_p off_q l))
