-- Inside and outside of rings and of faces, in the words of a drawing: a count of the edges over a
-- place, by parity.
-- Joined places are on one side of edges with even degrees; over the edges of a face, inside is "in
-- the face".
use Rattle.std.proofs.Common.{◌≡◌, ◌↔◌, ℕ, Bool, true, ℤ, pos, ◌*ℤ◌, ◌<ℤ◌, ◌≤ℤ◌, List, [], ◌∷◌}
use Rattle.std.proofs.Common.{length, inl, refl, arith, ap, ◌∙◌}
use Rattle.std.proofs.lemmas.Int.{ints}
use Rattle.plane.specs.declared.kinds.Point.{Point}
use Rattle.plane.specs.Lists.{Each}
use Rattle.plane.specs.Forms.Vectors.{Vector, Place, point, Edge}
use Rattle.plane.specs.Rule.Straights.{turn}
use Rattle.plane.specs.Rule.Plans.{Plan}
use Rattle.plane.specs.Rule.Partition.{IsOff, Joined}
use Rattle.plane.specs.Runs.Steps.{Step, Run, WeighedRun}
use Rattle.plane.specs.Faces.Replays.{Replay}
use Rattle.plane.specs.Faces.Labels.{Labels, MatchesAt}
use Rattle.plane.specs.Faces.Cells.{Sector, sector, label_of}
use Rattle.plane.specs.Faces.PlacedPoints.{IsLocated}
use Rattle.plane.specs.Faces.DrawnRuns.{IsRunOf, drawn}
use Rattle.plane.specs.Faces.Parity.{parity, crosses_vertical, EvenEnds, chosen, one_side}
use Rattle.plane.specs.Faces.Parity.{same_number, parity_over}
use Rattle.plane.proofs.Linear.EdgePlaces.{place_point, side-turn}
use Rattle.plane.proofs.ParityLemmas.InsideTests.{crosses_is}
use Rattle.plane.proofs.ParityLemmas.OverCells.{joined_inside, vertical_over}
use Rattle.plane.proofs.Runs.Numbered.{swept_run}
use Rattle.plane.proofs.ParityLemmas.Polygons.{face_even, polygon_inside}
use Rattle.plane.proofs.FaceLemmas.Drawn.{off_edges, joined_edges}
use Rattle.plane.proofs.FaceLemmas.PointCells as by
use Rattle.plane.proofs.Runs.RunWeights.{run_weight}

-- the edge is over the place: the test of one edge
pub over_is : (z : Vector) (e : Edge)
    → (crosses_vertical z e ≡ true)
    ↔ (((e.low.x *ℤ z.n) ≤ℤ z.x) × (z.x <ℤ (e.high.x *ℤ z.n))
    × (turn (point e.low) (point e.high) z <ℤ pos 0))
over_is z e =
    let f = crosses_is z e in
    let t = side-turn e z in (
      (λ h. let c = f.0 h in let u = c.under in (c.from, c.to, omega (arith, ints, t, u))),
      (λ (a, b, u). f.1 (record { from = a; to = b; under = omega (arith, ints, t, u) })),
    )

pub face_is_even : (m : ℕ) (E : ℕ → Edge) (steps : List Step) (a : Labels) (f : ℕ) → Run m E steps
    → Each (MatchesAt a) steps → EvenEnds (chosen (one_side a f) m E)
face_is_even m E steps a f run h =
    let u = run_weight m E steps [] run in face_even u.weight m E steps a u.swept h f

module _ (v : ℤ) (d : Plan) (E : ℕ → Edge) (steps : List Step) (on : IsRunOf d E steps) where
  abbrev r : Replay
  r = drawn v d E steps

  abbrev m : ℕ
  m = length d.curves

  pub joined_sides : (c : ℕ → Bool) (p q : Vector) → EvenEnds (chosen c m E) → Place p → Place q
      → IsOff d p → IsOff d q → Joined d p q
      → parity (crosses_vertical p) (chosen c m E) ≡ parity (crosses_vertical q) (chosen c m E)
  joined_sides c p q even P Q op oq j =
      let more : List Point = [] in
      let w = by.chosen v d E steps on more in
      let s = by.swept v d E steps on more in
      let run = by.chosen_run v d E steps on more in
      let draws = by.chosen_draws v d E steps on more in
      joined_inside w.weight m E steps w.swept c p q on.run.edges even P Q
      (off_edges d s run draws p P op) (off_edges d s run draws q Q oq)
      (joined_edges d s run draws p q P j)

  pub point_inside : (a : Labels) (f : ℕ) (p : Point) (k i : ℕ) → Each (MatchesAt a) steps
      → (f ≡ 0 → ⊥) → IsLocated r p k i
      → parity (crosses_vertical (point p)) (chosen (one_side a f) m E)
      ≡ same_number f (label_of a r (by.spot k i))
  point_inside a f p k i h n l =
      let more = p ∷ [] in
      let w = by.chosen v d E steps on more in
      let s = by.swept v d E steps on more in
      let x = by.chosen_spot v d E steps on more p k i (inl refl) l in
      polygon_inside w.weight m E steps a w.swept h f (point p) n on.run.edges (place_point p) x.0
      ∙ ap (λ (c : Sector). same_number f (label_of a s c)) x.1

-- the same for places, by a weight that sweeps the run
module _ (w : ℤ) (d : Plan) (E : ℕ → Edge) (steps : List Step) (on : IsRunOf d E steps)
    (swept : WeighedRun w (length d.curves) E steps) where
  abbrev drawn_here : Replay
  drawn_here = drawn w d E steps

  pub place_over : (c : ℕ → Bool) (z : Vector) → EvenEnds (chosen c (length d.curves) E) → Place z
      → IsOff d z
      → parity (crosses_vertical z) (chosen c (length d.curves) E)
      ≡ parity_over c (sector drawn_here z).index (drawn_here.list (sector drawn_here z).strip)
  place_over c z even P off =
      vertical_over w (length d.curves) E steps swept c z on.run.edges P
      (off_edges d drawn_here (swept_run w (length d.curves) E steps swept)
      (record { count = refl; edges = on.edges }) z P off) even

  pub place_inside : (a : Labels) (f : ℕ) (z : Vector) → Each (MatchesAt a) steps → (f ≡ 0 → ⊥)
      → Place z → IsOff d z
      → parity (crosses_vertical z) (chosen (one_side a f) (length d.curves) E)
      ≡ same_number f (label_of a drawn_here (sector drawn_here z))
  place_inside a f z h n P off =
      polygon_inside w (length d.curves) E steps a swept h f z n on.run.edges P
      (off_edges d drawn_here (swept_run w (length d.curves) E steps swept)
      (record { count = refl; edges = on.edges }) z P off)
