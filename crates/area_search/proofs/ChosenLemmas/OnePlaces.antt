-- Each point has one place: in a cell one position, and of tubes one holds it.
use Rattle.std.proofs.Common.{◌≡◌, ◌⊎◌, inl, inr, ℕ, ◌<◌, ◌<ℤ◌, ℤ, pos, Bool, true, false, List, []}
use Rattle.std.proofs.Common.{◌∷◌, length, get_or, refl, arith, ap, sym, ◌∙◌, subst}
use Rattle.std.proofs.lemmas.Int.{ints}
use Rattle.std.proofs.lemmas.List.{same_lists}
use Rattle.plane.specs.declared.kinds.Curve.{Curve}
use Rattle.plane.specs.declared.kinds.Edge.{Edge}
use Rattle.plane.specs.declared.kinds.Point.{Point}
use Rattle.plane.specs.CurveRuns.TubedRuns.{AreTubeLabels, IsTubedRun, arc_at}
use Rattle.plane.specs.Faces.Cells.{Sector, position}
use Rattle.plane.specs.Faces.Halves.{Half}
use Rattle.plane.specs.Faces.Labels.{Labels}
use Rattle.plane.specs.Faces.PlacedPoints.{IsLocated, IsPlaced}
use Rattle.plane.specs.Faces.Replays.{replay}
use Rattle.plane.specs.Forms.Vectors.{point}
use Rattle.plane.specs.Rule.Curves.{IsControl, arc}
use Rattle.plane.specs.Rule.HalfArcs.{power}
use Rattle.plane.specs.Rule.Plans.{IsHalfArc, Plan, curve}
use Rattle.plane.specs.Runs.Moves.{steps_from}
use Rattle.plane.specs.Runs.Steps.{Run, Step}
use Rattle.plane.specs.Runs.Timetables.{Timed}
use Rattle.plane.specs.Tubes.Bays.{Bay, InTube}
use Rattle.plane.proofs.Caps.Powers.{power-from, power-to}
use Rattle.plane.proofs.Covers.NotApart.{one_point}
use Rattle.plane.proofs.FaceLemmas.PlacedPoints.{located, located_point}
use Rattle.plane.proofs.Linear.EdgePlaces.{place_point}
use Rattle.plane.proofs.Runs.Lawful.{swept_lawful}
use Rattle.plane.proofs.Runs.Numbered.{swept_run}
use Rattle.plane.proofs.Runs.RunWeights.{event_known, run_weight}
use Rattle.plane.proofs.Turning.AnyWeight.{located_to}
use Rattle.plane.proofs.TubedRuns.RunTubes.{tube_places}
use Rattle.plane.proofs.TubedRuns.TubedApart.{one_end}
use Rattle.plane.proofs.TubedRuns.TubedCurves.{tube_of}
use Rattle.plane.proofs.TubedRuns.TubedWeights.{labels_to}
use Rattle.plane.proofs.Windings.CommonPlaces.{decide_number}
use Rattle.certificate.specs.declared.notes.HalfNote.{HalfNote}
use Rattle.certificate.specs.declared.notes.PointPlace.{PointPlace}
use Rattle.certificate.specs.declared.notes.PointPlace.TheVariants as place
use Rattle.certificate_checker.specs.Rules.{IsOnSide, IsPointPlaced}
use Rattle.certificate_checker.specs.Subjects.{Subject, bays_of, edge, index_of, labels, moves}
use Rattle.certificate_checker.specs.Subjects.{place_at, point_at, side_label, strip_of, within}
use Rattle.certificate_checker.specs.Verdicts.{AllRules, IsTableOf}
use Rattle.certificate_checker.proofs.Entries.{entry}
use Rattle.certificate_checker.proofs.Proving.{tube_labels, tubed}
use Rattle.area_search.specs.Chosen.{IsChosenPlace}
use Rattle.area_search.proofs.ChosenLemmas.OnePositions.{told}

-- ---- a point on no edge has one position
pub one_sector : (m : ℕ) (E : ℕ → Edge) (steps : List Step) → Run m E steps
    → (v : Point) (k i l j : ℕ)
    → IsLocated (replay (pos 0) m E steps) v k i → IsLocated (replay (pos 0) m E steps) v l j
    → position k i ≡ position l j
one_sector m E steps run v k i l j p q =
    let u = run_weight m E steps (v ∷ []) run in
    let there = swept_run u.weight m E steps u.swept in
    let lawful = swept_lawful u.weight m E steps u.swept in
    let r = replay u.weight m E steps in
    let x = located_point r there lawful u.points v k i u.heavy (u.known v (inl refl))
    (event_known m E steps (v ∷ []) u) (located_to (pos 0) u.weight m E steps v k i p) in
    let y = located_point r there lawful u.points v l j u.heavy (u.known v (inl refl))
    (event_known m E steps (v ∷ []) u) (located_to (pos 0) u.weight m E steps v l j q) in
    sym x.1 ∙ y.1

one_position : (m : ℕ) (E : ℕ → Edge) (steps : List Step) → Run m E steps
    → (v : Point) (k i l j : ℕ)
    → IsPlaced (replay (pos 0) m E steps) v k i → IsPlaced (replay (pos 0) m E steps) v l j → i ≡ j
one_position m E steps run v k i l j p q =
    let r = replay (pos 0) m E steps in
    ap (λ (c : Sector). c.index)
    (one_sector m E steps run v k i l j (located r v k i p) (located r v l j q))

-- ---- a point off the circle is in one tube
at_control : (c : Curve) (v : Point) → IsControl c (point v) → power (arc c) (point v) ≡ pos 0
at_control c v (inl e) = subst (λ (p : Point). power (arc c) (point p) ≡ pos 0)
    (sym (one_point v c.from e)) (power-from (arc c))
at_control c v (inr e) = subst (λ (p : Point). power (arc c) (point p) ≡ pos 0)
    (sym (one_point v c.to e)) (power-to (arc c))

one_tube : (d : Plan) (bays : ℕ → List Bay) (m : ℕ) (E : ℕ → Edge) (steps : List Step)
    (lab : Labels) (within : ℕ → Half) (inside outside : ℕ → ℕ)
    → IsTubedRun d bays m E steps
    → AreTubeLabels d bays (replay (pos 0) m E steps) lab within inside outside
    → (v : Point) (i j : ℕ) → IsHalfArc d i → IsHalfArc d j
    → InTube (curve d i).from (bays i) (point v) → InTube (curve d j).from (bays j) (point v)
    → (power (arc (curve d i)) (point v) ≡ pos 0 → ⊥) → i ≡ j
one_tube d bays m E steps lab within inside outside is L v i j hi hj p q n =
    elim (decide_number i j) [
      | inl e ↦ e
      | inr differ ↦
          let u = run_weight m E steps [] is.run in
          let K = labels_to (pos 0) u.weight d bays m E steps lab within inside outside L in
          let c = tube_of u.weight d bays m E steps lab within inside outside u.swept is K i
          hi.there hi.kind in
          let e = tube_of u.weight d bays m E steps lab within inside outside u.swept is K j
          hj.there hj.kind in
          let in_c = (tube_places u.weight d bays m E steps lab within inside outside u.swept is K
          c.0 c.1 (point v)).1
          (subst (λ (x : ℕ). InTube (curve d x).from (bays x) (point v)) (sym c.2) p) in
          let in_e = (tube_places u.weight d bays m E steps lab within inside outside u.swept is K
          e.0 e.1 (point v)).1
          (subst (λ (x : ℕ). InTube (curve d x).from (bays x) (point v)) (sym e.2) q) in
          let control = one_end u.weight d bays m E steps lab within inside outside u.swept is K i
          c.0 e.0 c.1 e.1 (λ x. differ (sym c.2 ∙ ap (arc_at d) x ∙ e.2)) c.2 (point v)
          (place_point v) in_c in_e in
          absurd (n (at_control (curve d i) v control))
    ]

-- ---- sides
off_circle : (x : Bool) (z : ℤ) → IsOnSide x z → z ≡ pos 0 → ⊥
off_circle true z h e = omega (arith, ints, h, e)
off_circle false z h e = omega (arith, ints, h, e)

one_side : (x y : Bool) (z : ℤ) → IsOnSide x z → IsOnSide y z → x ≡ y
one_side true true z h k = refl
one_side true false z h k = absurd (omega (arith, ints, h, k))
one_side false true z h k = absurd (omega (arith, ints, h, k))
one_side false false z h k = refl

-- ---- two lists of places
module _ (d : Plan) (table : List Timed) (level : ℕ) (is_table : IsTableOf d level table)
    (ps : List ℕ) (ns ms : List HalfNote) (xs ys : List PointPlace) where
  abbrev s : Subject
  s = told d table level ps ns xs

  abbrev t : Subject
  t = told d table level ps ms ys

  module _ (a : AllRules s) (b : AllRules t)
      (f : (j : ℕ) → j < length d.points → IsChosenPlace s j (place_at s j))
      (g : (j : ℕ) → j < length d.points → IsChosenPlace t j (place_at t j)) where
    run : IsTubedRun d (bays_of s) (length s.edges) (edge s) (steps_from [] (moves s))
    run = tubed d s.claims table is_table a

    by_rules : (j : ℕ) → j < length d.points → IsPointPlaced s j → IsPointPlaced t j
        → place_at s j ≡ place_at t j
    by_rules j l (inl p) (inl q) =
        p.cell
        ∙ ap place.Cell
        (one_position (length s.edges) (edge s) (steps_from [] (moves s)) run.run (point_at s j)
        (strip_of s j) (index_of s j) (strip_of t j) (index_of t j) p.between q.between)
        ∙ sym q.cell
    by_rules j l (inl p) (inr q) = absurd
        (subst (IsChosenPlace s j) p.cell (f j l) (q.curve, q.held.half_arc, q.held.holds))
    by_rules j l (inr p) (inl q) = absurd
        (subst (IsChosenPlace t j) q.cell (g j l) (p.curve, p.held.half_arc, p.held.holds))
    by_rules j l (inr p) (inr q) =
        let v = point_at s j in
        let e = one_tube d (bays_of s) (length s.edges) (edge s) (steps_from [] (moves s))
        (labels s) (within s) (side_label s true) (side_label s false) run
        (tube_labels d s.claims table is_table a)
        v p.curve q.curve p.held.half_arc q.held.half_arc p.held.holds q.held.holds
        (off_circle p.inside (power (arc (curve d p.curve)) (point v)) p.held.side) in
        let h = one_side p.inside q.inside (power (arc (curve d p.curve)) (point v)) p.held.side
        (subst (λ (i : ℕ). IsOnSide q.inside (power (arc (curve d i)) (point v)))
        (sym e) q.held.side) in
        p.tube ∙ ap (λ (i : ℕ). place.Tube i p.inside) e ∙ ap (λ (x : Bool). place.Tube q.curve x) h
        ∙ sym q.tube

    pub places_are : xs ≡ ys
    places_are =
        same_lists xs ys (a.counts.places ∙ sym b.counts.places)
        (λ j x l. entry xs j x (place.Cell 0) l ∙ at_point j l ∙ entry ys j (place.Cell 0) x
        (let i = a.counts.places in let k = b.counts.places in omega (arith, l, i, k)))
      where
        at_point : (j : ℕ) → j < length xs → place_at s j ≡ place_at t j
        at_point j l =
            let h : j < length d.points = (let i = a.counts.places in omega (arith, l, i)) in
            by_rules j h (a.placed j h) (b.placed j h)
