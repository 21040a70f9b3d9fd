-- Points with a position in a run over the edges of a drawing: joined and outer, by the cells of
-- the positions alone.
-- No weight is asked for: each law takes one of the events and of the points that it speaks of.
use Rattle.std.proofs.Common.{◌≡◌, ◌↔◌, ℕ, List, [], ◌∷◌, length, ℤ, refl, inl, inr, sym, subst}
use Rattle.plane.specs.declared.kinds.Point.{Point}
use Rattle.plane.specs.Lists.{Has}
use Rattle.plane.specs.Forms.Vectors.{point, Edge}
use Rattle.plane.specs.Rule.Plans.{Plan}
use Rattle.plane.specs.Rule.Partition.{IsOff, Joined, IsOuter}
use Rattle.plane.specs.Runs.Steps.{Step}
use Rattle.plane.specs.Faces.Replays.{Replay}
use Rattle.plane.proofs.Runs.RunWords.{IsRun, IsLawful}
use Rattle.plane.specs.Faces.Replays as replays
use Rattle.plane.specs.Faces.Cells.{Sector, corner, sector, Linked}
use Rattle.plane.specs.Faces.PlacedPoints.{IsLocated}
use Rattle.plane.specs.Faces.DrawnRuns.{IsRunOf, drawn}
use Rattle.plane.proofs.Linear.EdgePlaces.{place_point}
use Rattle.plane.proofs.Runs.Numbered.{swept_run}
use Rattle.plane.proofs.Runs.Lawful.{swept_lawful}
use Rattle.plane.proofs.FaceLemmas.PlacedPoints.{located_point}
use Rattle.plane.proofs.FaceLemmas.Drawn.{Draws, off_curves}
use Rattle.plane.proofs.FaceLemmas.DrawnFaces.{drawn_linked, drawn_outer}
use Rattle.plane.proofs.Turning.AnyWeight.{linked_to, located_to}
use Rattle.plane.proofs.Runs.RunWeights.{RunWeight, run_weight, event_known}

abbrev pub spot : ℕ → ℕ → Sector
spot k i = record { strip = k; index = i }

module _ (v : ℤ) (d : Plan) (E : ℕ → Edge) (steps : List Step) (over : IsRunOf d E steps) where
  abbrev r : Replay
  r = drawn v d E steps

  -- a weight of the events and of some points, with what it gives
  module _ (more : List Point) where
    abbrev pub chosen : RunWeight (length d.curves) E steps more
    chosen = run_weight (length d.curves) E steps more over.run

    abbrev pub swept : Replay
    swept = drawn chosen.weight d E steps

    pub chosen_run : IsRun swept
    chosen_run = swept_run chosen.weight (length d.curves) E steps chosen.swept

    pub chosen_law : IsLawful swept
    chosen_law = swept_lawful chosen.weight (length d.curves) E steps chosen.swept

    pub chosen_draws : Draws d swept
    chosen_draws = record { count = refl; edges = over.edges }

    pub chosen_spot : (a : Point) (k i : ℕ) → Has a more → IsLocated r a k i
        → replays.IsOffEdges swept (point a) × (sector swept (point a) ≡ spot k i)
    chosen_spot a k i h l =
        located_point swept chosen_run chosen_law chosen.points a k i chosen.heavy
        (chosen.known a h) (event_known (length d.curves) E steps more chosen)
        (located_to v chosen.weight (length d.curves) E steps a k i l)

  pub point_off : (a : Point) (k i : ℕ) → IsLocated r a k i → IsOff d (point a)
  point_off a k i l =
      let more = a ∷ [] in
      off_curves d (swept more) (chosen_run more) (chosen_draws more) (point a) (place_point a)
      (chosen_spot more a k i (inl refl) l).0

  pub points_linked : (a b : Point) (k i l j : ℕ) → IsLocated r a k i → IsLocated r b l j
      → Joined d (point a) (point b) ↔ Linked r (spot k i) (spot l j)
  points_linked a b k i l j at_a at_b =
      let more = a ∷ b ∷ [] in
      let w = (chosen more).weight in
      let A = chosen_spot more a k i (inl refl) at_a in
      let B = chosen_spot more b l j (inr (inl refl)) at_b in
      let f = drawn_linked d (swept more) (chosen_run more) (chosen_law more) (chosen_draws more)
      (point a) (point b) (place_point a) (place_point b) (point_off a k i at_a)
      (point_off b l j at_b) in (
        (λ q. linked_to w v (length d.curves) E steps (spot k i) (spot l j)
            (subst (λ (c : Sector). Linked (swept more) c (spot l j)) A.1
            (subst (λ (c : Sector). Linked (swept more) (sector (swept more) (point a)) c) B.1
            (f.0 q)))),
        (λ q. f.1 (subst (λ (c : Sector). Linked (swept more) (sector (swept more) (point a)) c)
            (sym B.1)
            (subst (λ (c : Sector). Linked (swept more) c (spot l j)) (sym A.1)
            (linked_to v w (length d.curves) E steps (spot k i) (spot l j) q)))),
      )

  pub point_outer : (a : Point) (k i : ℕ) → IsLocated r a k i
      → IsOuter d (point a) ↔ Linked r (spot k i) corner
  point_outer a k i at_a =
      let more = a ∷ [] in
      let w = (chosen more).weight in
      let A = chosen_spot more a k i (inl refl) at_a in
      let f = drawn_outer d (swept more) (chosen_run more) (chosen_law more) (chosen_draws more)
      (chosen more).positive (point a) (place_point a) (point_off a k i at_a) in (
        (λ q. linked_to w v (length d.curves) E steps (spot k i) corner
            (subst (λ (c : Sector). Linked (swept more) c corner) A.1 (f.0 q))),
        (λ q. f.1 (subst (λ (c : Sector). Linked (swept more) c corner) (sym A.1)
            (linked_to v w (length d.curves) E steps (spot k i) corner q))),
      )
