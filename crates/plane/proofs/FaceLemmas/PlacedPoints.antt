-- A point with a position in a live list is off the edges, in the cell of that position.
-- Only the edges beside the position are asked; the order of the live list does the rest.
use Rattle.std.proofs.Common.{◌≡◌, ℕ, zero, suc, ◌<◌, ◌≤◌, List, [], ◌∷◌, length, ℤ, pos, ◌<ℤ◌}
use Rattle.std.proofs.Common.{◌≤ℤ◌, refl, arith, subst, sym, ◌∙◌}
use Rattle.std.proofs.lemmas.Int.{ints, by_lt_z}
use Rattle.plane.specs.declared.kinds.Point.{Point}
use Rattle.plane.specs.Lists.{Has, Neighbours}
use Rattle.plane.specs.Forms.Vectors.{point, Place, side, gap}
use Rattle.plane.specs.Forms.Weights.{Weight}
use Rattle.plane.specs.Faces.Replays.{Replay, IsOffEdges}
use Rattle.plane.proofs.Runs.RunWords.{IsRun, IsLawful, IsBetweenEvents}
use Rattle.plane.specs.Faces.Cells.{IsSector, sector}
use Rattle.plane.specs.Faces.Halves.{At, AtBefore}
use Rattle.plane.specs.Faces.PlacedPoints.{IsPlaced, IsLocated}
use Rattle.plane.proofs.ListLemmas.Lists.{neighbours_map}
use Rattle.plane.proofs.Linear.Signs.{over_lower}
use Rattle.plane.proofs.Strips.Heights.{Parts}
use Rattle.plane.proofs.Strips.OneCut.{sides}
use Rattle.plane.proofs.Strips.Centres.{IsCentre}
use Rattle.plane.proofs.Strips.Columns.{centre_off, centre_cell}
use Rattle.plane.proofs.Turning.ListPlaces.{at_less}

-- what is not below 0 at the upper one is above 0 at the lower one
abbrev Falling : (ℕ → ℤ) → List ℕ → Type 0
Falling f = Neighbours (λ a b. pos 0 ≤ℤ f b → pos 0 <ℤ f a)

parts_zero : (f : ℕ → ℤ) (es : List ℕ) (e : ℕ) → Falling f es → At es 0 e → f e <ℤ pos 0
    → Parts f 0 es
parts_zero f [] e n a h = absurd a
parts_zero f (d ∷ []) e n a h = (subst (λ (x : ℕ). f x <ℤ pos 0) a h, tt)
parts_zero f (d ∷ (c ∷ es)) e n a h =
    let g : f d <ℤ pos 0 = subst (λ (x : ℕ). f x <ℤ pos 0) a h in
    let k : f c <ℤ pos 0 = by_lt_z (f c) (pos 0) (λ l. l) (λ (l : pos 0 ≤ℤ f c). let m = n.0 l in
    absurd (omega (arith, ints, m, g))) in
    (g, parts_zero f (c ∷ es) c n.1 refl k)

parts_from : (f : ℕ → ℤ) (es : List ℕ) → Falling f es → ((e : ℕ) → At es 0 e → f e <ℤ pos 0)
    → Parts f 0 es
parts_from f [] n below = tt
parts_from f (e ∷ es) n below = parts_zero f (e ∷ es) e n refl (below e refl)

-- an order cut at place i: only the edges beside the cut are asked
parts_at : (f : ℕ → ℤ) (es : List ℕ) (i : ℕ) → i ≤ length es → Falling f es
    → ((e : ℕ) → AtBefore es i e → pos 0 <ℤ f e) → ((e : ℕ) → At es i e → f e <ℤ pos 0)
    → Parts f i es
parts_at f es zero l n above below = parts_from f es n below
parts_at f [] (suc i) l n above below = absurd (omega (arith, l))
parts_at f (e ∷ es) (suc zero) l n above below = (above e refl, parts_from f es n.1 below)
parts_at f (e ∷ []) (suc (suc i)) l n above below = absurd (omega (arith, l))
parts_at f (e ∷ (d ∷ es)) (suc (suc i)) l n above below =
    let p = parts_at f (d ∷ es) (suc i) (omega (arith, l)) n.1 above below in
    let q = p.0 in
    (n.0 (omega (arith, ints, q)), p)

-- one edge stands at a place
one_at : (es : List ℕ) (i d e : ℕ) → At es i d → At es i e → d ≡ e
one_at [] i d e a b = absurd a
one_at (x ∷ es) zero d e a b = a ∙ sym b
one_at (x ∷ es) (suc i) d e a b = one_at es i d e a b

pub one_before : (es : List ℕ) (i d e : ℕ) → AtBefore es i d → AtBefore es i e → d ≡ e
one_before es zero d e a b = absurd a
one_before es (suc i) d e a b = one_at es i d e a b

pub before_less : (es : List ℕ) (i e : ℕ) → AtBefore es i e → i ≤ length es
before_less es zero e a = omega arith
before_less es (suc i) e a = let l = at_less es i e a in omega arith

pub located : (r : Replay) (v : Point) (k i : ℕ) → IsPlaced r v k i → IsLocated r v k i
located r v k i p = record {
  fits = p.fits;
  index = before_less (r.list k) i p.lower p.is_lower;
  passed = p.passed;
  coming = p.coming;
  above = λ e a. subst (λ (x : ℕ). pos 0 <ℤ side (r.edge x) (point v))
      (one_before (r.list k) i p.lower e p.is_lower a) p.above;
  below = λ e a. subst (λ (x : ℕ). side (r.edge x) (point v) <ℤ pos 0)
      (one_at (r.list k) i p.upper e p.is_upper a) p.below;
}

module _ (r : Replay) (run : IsRun r) (law : IsLawful r) where
  -- the point is inside its cell
  pub located_centre : (pts : List Point) (v : Point) (k i : ℕ) → Weight r.weight pts → Has v pts
      → ((j : ℕ) → j < r.steps → Has (r.step j).at pts)
      → IsLocated r v k i → IsCentre r (record { strip = k; index = i }) (point v)
  located_centre pts v k i heavy known events p =
      let fits = p.fits in
      let inside : IsBetweenEvents r k (point v) = record {
        from = λ (j : ℕ) (l : j < k). let f =
            heavy (r.step j).at v (events j (omega arith)) known (p.passed j l) in
            omega (arith, ints, f);
        to = λ (j : ℕ) (l : k ≤ j) (m : j < r.steps). let f =
            heavy v (r.step j).at known (events j m) (p.coming j l m) in omega (arith, ints, f);
      } in
      let Z : Place (point v) = omega (arith, ints) in
      let order = law.ordered k (point v) fits Z inside in
      let falling : Falling (sides r (point v)) (r.list k) = neighbours_map
      (λ a b. gap r.weight (r.edge a) (r.edge b) (point v) <ℤ pos 0)
      (λ a b. pos 0 ≤ℤ side (r.edge b) (point v) → pos 0 <ℤ side (r.edge a) (point v))
      (r.list k)
      (λ a b ka kb g h. over_lower r.weight (r.edge a) (r.edge b) (point v)
      (run.rise a (law.live k a fits ka)) (run.rise b (law.live k b fits kb)) g h) order in
      record {
        place = Z;
        inside = inside;
        parts = parts_at (sides r (point v)) (r.list k) i p.index falling p.above p.below;
      }

  pub located_is : (k i : ℕ) (v : Point) → IsLocated r v k i
      → IsSector r (record { strip = k; index = i })
  located_is k i v p = record { strip = p.fits; index = p.index }

  -- the point is off the edges, in the cell of its position
  pub located_point : (pts : List Point) (v : Point) (k i : ℕ) → Weight r.weight pts → Has v pts
      → ((j : ℕ) → j < r.steps → Has (r.step j).at pts)
      → IsLocated r v k i → IsOffEdges r (point v)
      × (sector r (point v) ≡ record { strip = k; index = i })
  located_point pts v k i heavy known events p =
      let m = located_centre pts v k i heavy known events p in (
        centre_off r run law (record { strip = k; index = i }) (point v) p.fits m,
        centre_cell r run law (record { strip = k; index = i }) (point v) (located_is k i v p) m,
      )

  pub placed_is : (k i : ℕ) (v : Point) → IsPlaced r v k i
      → IsSector r (record { strip = k; index = i })
  placed_is k i v p = located_is k i v (located r v k i p)

  pub placed_point : (pts : List Point) (v : Point) (k i : ℕ) → Weight r.weight pts → Has v pts
      → ((j : ℕ) → j < r.steps → Has (r.step j).at pts)
      → IsPlaced r v k i → IsOffEdges r (point v)
      × (sector r (point v) ≡ record { strip = k; index = i })
  placed_point pts v k i heavy known events p =
      located_point pts v k i heavy known events (located r v k i p)
