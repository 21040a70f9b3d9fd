-- A run over edges is a run over the drawing of them, and a point with a position in it is on none
-- of them.
use Rattle.std.proofs.Common.{◌≡◌, ℕ, zero, suc, ◌<◌, ℤ, pos, inl, List, [], ◌∷◌, length, get_or}
use Rattle.std.proofs.Common.{refl, arith, ap, sym, subst}
use Rattle.std.proofs.lemmas.Int.{ints}
use Rattle.plane.specs.declared.kinds.Point.{Point}
use Rattle.plane.specs.declared.kinds.Curve.{Curve}
use Rattle.plane.specs.declared.window.Window2.{Window2}
use Rattle.plane.specs.Forms.Vectors.{Edge, point}
use Rattle.plane.specs.Rule.Plans.{straight, curve}
use Rattle.plane.specs.Forms.Segments.{IsEdgeOf}
use Rattle.plane.specs.Forms.Meets.{OnStraight}
use Rattle.plane.specs.Runs.Steps.{Step, Run}
use Rattle.plane.specs.Faces.Replays.{replay}
use Rattle.plane.specs.Faces.PlacedPoints.{IsLocated}
use Rattle.plane.specs.Faces.DrawnRuns.{IsRunOf}
use Rattle.plane.specs.Faces.EdgeDrawings.{straights_of, as_straights}
use Rattle.plane.proofs.Linear.EdgePlaces.{place_point}
use Rattle.plane.proofs.Sweep.Pairs.{straight_on}
use Rattle.plane.proofs.Runs.Numbered.{swept_run}
use Rattle.plane.proofs.Runs.Lawful.{swept_lawful}
use Rattle.plane.proofs.FaceLemmas.PlacedPoints.{located_point}
use Rattle.plane.proofs.Turning.AnyWeight.{located_to}
use Rattle.plane.proofs.Runs.RunWeights.{run_weight, event_known}

-- ---- the drawing of edges
pub straights_count : (E : ℕ → Edge) (m : ℕ) → length (straights_of E m) ≡ m
straights_count E zero = refl
straights_count E (suc m) = ap (λ (n : ℕ). suc n) (straights_count (λ e. E (suc e)) m)

straight_at : (E : ℕ → Edge) (m i : ℕ) (d : Curve) → i < m
    → get_or (straights_of E m) i d ≡ straight (E i).low (E i).high 0
straight_at E zero i d l = absurd (omega (arith, l))
straight_at E (suc m) zero d l = refl
straight_at E (suc m) (suc i) d l = straight_at (λ e. E (suc e)) m i d (omega (arith, l))

module _ (u : Window2) (m : ℕ) (E : ℕ → Edge) (steps : List Step) where
  curve_is : (i : ℕ) → i < length (straights_of E m)
      → curve (as_straights u E m) i ≡ straight (E i).low (E i).high 0
  curve_is i l =
      let n = straights_count E m in
      straight_at E m i
      (straight (record { x = pos 0; y = pos 0 }) (record { x = pos 0; y = pos 0 }) 0)
      (omega (arith, l, n))

  pub edges_run : Run m E steps → IsRunOf (as_straights u E m) E steps
  edges_run run = record {
    edges = record {
      straight = λ i l. ap (λ (c : Curve). c.kind) (curve_is i l);
      edge = λ i l. subst (λ (c : Curve). IsEdgeOf (E i) c) (sym (curve_is i l)) (inl (refl, refl));
    };
    run = subst (λ (n : ℕ). Run n E steps) (sym (straights_count E m)) run;
  }

-- there is a window
pub some_window : Window2
some_window =
    let o : Point = record { x = pos 0; y = pos 0 } in
    record {
      low = o;
      high = o;
      narrow = record { x = omega (arith, ints); y = omega (arith, ints) };
      low_digits = record {
        x = record { low = omega (arith, ints); high = omega (arith, ints) };
        y = record { low = omega (arith, ints); high = omega (arith, ints) };
      };
      high_digits = record {
        x = record { low = omega (arith, ints); high = omega (arith, ints) };
        y = record { low = omega (arith, ints); high = omega (arith, ints) };
      };
    }

-- ---- points with a position
pub located_off : (w : ℤ) (m : ℕ) (E : ℕ → Edge) (steps : List Step) (a : Point) (k i e : ℕ)
    → Run m E steps → IsLocated (replay w m E steps) a k i → e < m → OnStraight (E e) (point a) → ⊥
located_off w m E steps a k i e run at_a l on =
    let u = run_weight m E steps (a ∷ []) run in
    let r = replay u.weight m E steps in
    let off = (located_point r (swept_run u.weight m E steps u.swept)
    (swept_lawful u.weight m E steps u.swept) u.points a k i u.heavy (u.known a (inl refl))
    (event_known m E steps (a ∷ []) u)
    (located_to w u.weight m E steps a k i at_a)).0 in
    off e l (straight_on u.weight (E e) (point a) (u.swept.rises e l) (place_point a) on)
