-- The premises of a certificate of a drawing with half arcs, whose points all lie in cells, are
-- decided by tests that compute.
use Rattle.std.proofs.Common.{◌≡◌, ℕ, zero, suc, ◌<◌, Bool, true, false, List, length, inl, inr}
use Rattle.std.proofs.Common.{refl, sym}
use Rattle.plane.specs.Rule.Plans.{Plan, object}
use Rattle.plane.specs.Faces.Labels.{Labels}
use Rattle.plane.specs.Faces.Replays.{Replay}
use Rattle.plane.specs.Faces.Cells.{Sector}
use Rattle.plane.specs.Faces.Halves.{Half, under, over, edge_of, twin, mark}
use Rattle.plane.specs.Faces.Classes.{fan, Lead, root, next, previous, across, IsLead, AreLeads}
use Rattle.plane.specs.Faces.Parity.{both, either, same_number}
use Rattle.plane.specs.Tubes.Bays.{Bay}
use Rattle.plane.specs.CurveRuns.TubedRuns.{Part, whole, inner, outer, owned, IsOfTube}
use Rattle.plane.specs.CurveRuns.TubedRuns.{AreTubeLabels}
use Rattle.plane.specs.CurveRuns.CertifiedCurves.{IsInCell, IsCurveRoot, CertifiedCurves}
use Rattle.plane.proofs.ParityLemmas.Wedges.{not_both}
use Rattle.plane.proofs.ParityLemmas.Parities.{both_true}
use Rattle.plane.proofs.ParityLemmas.ByNumber.{number_is}
use Rattle.plane.proofs.Worked.RunTests.{either_is, less, less_is, all_below, all_below_is}
use Rattle.plane.proofs.Worked.CertificateTests.{same_half, same_half_is, follows_round}
use Rattle.plane.proofs.Worked.CertificateTests.{follows_round_is, cell_test, cell_is, beside}
use Rattle.plane.proofs.Worked.CertificateTests.{beside_is, at_border, border_is, placed_test}
use Rattle.plane.proofs.Worked.CertificateTests.{placed_is, falls, falls_is}
use Rattle.plane.proofs.Worked.TubeTests.{of_tube}

is_tube : (p : Part) → of_tube p ≡ true → IsOfTube p
is_tube whole h = absurd (not_both (sym h))
is_tube inner h = tt
is_tube outer h = tt

module _ (d : Plan) (bays : ℕ → List Bay) (r : Replay) (lab : Labels) (within : ℕ → Half)
    (inside outside : ℕ → ℕ) (rank : Half → ℕ) (link : Half → Lead)
    (strip index lower upper : ℕ → ℕ) (cell_by : Half → Sector) (event_by : Half → ℕ) where
  abbrev cell_for : ℕ → Sector
  cell_for j = record { strip = strip j; index = index j }

  -- ---- points
  abbrev pub point_test : ℕ → Bool
  point_test j =
      both (placed_test r (object d j) (strip j) (index j) (lower j) (upper j))
      (both (same_number (lab.above (lower j)) (suc j)) (same_number (lab.below (upper j)) (suc j)))

  abbrev in_cell : (j : ℕ) → point_test j ≡ true → IsInCell r lab (object d j) (suc j)
  in_cell j h =
      let a = both_true _ _ h in
      let b = both_true _ _ a.1 in
      record {
        strip = strip j;
        index = index j;
        placed = placed_is r (object d j) (strip j) (index j) (lower j) (upper j) a.0;
        lower_label = number_is _ _ b.0;
        upper_label = number_is _ _ b.1;
      }

  -- ---- roots
  abbrev faces_tube : Half → Bool
  faces_tube h = both (of_tube (owned d bays (edge_of h)).part) (same_half h (within (edge_of h)))

  abbrev at_outside : Half → Bool
  at_outside h =
      both (same_number (mark lab h) 0)
      (both (cell_test r (cell_by h)) (both (beside r h (cell_by h)) (at_border r (cell_by h))))

  abbrev named : Half → ℕ → Bool
  named h zero = false
  named h (suc j) = both (less j (length d.points)) (both (point_test j) (beside r h (cell_for j)))

  named_is : (h : Half) (n : ℕ) → mark lab h ≡ n → named h n ≡ true
      → IsCurveRoot d bays r lab within inside outside h
  named_is h zero e k = absurd (not_both (sym k))
  named_is h (suc j) e k =
      let a = both_true _ _ k in
      let b = both_true _ _ a.1 in
      inr (inr (
        j,
        less_is j (length d.points) a.0,
        e,
        inl (record { place = in_cell j b.0; beside = beside_is r h (cell_for j) b.1 }),
      ))

  abbrev root_test : Half → Bool
  root_test h = either (faces_tube h) (either (at_outside h) (named h (mark lab h)))

  root_is : (h : Half) → edge_of h < r.edges → root_test h ≡ true
      → IsCurveRoot d bays r lab within inside outside h
  root_is h l t = elim (either_is (faces_tube h) (either (at_outside h) (named h (mark lab h))) t) [
    | inl k ↦ (let a = both_true _ _ k in
        inl (edge_of h, l, is_tube _ a.0, same_half_is h (within (edge_of h)) a.1))
    | inr k ↦ elim (either_is (at_outside h) (named h (mark lab h)) k) [
      | inl o ↦
          let a = both_true _ _ o in
          let b = both_true _ _ a.1 in
          let c = both_true _ _ b.1 in
          inr (inl (
            number_is (mark lab h) 0 a.0,
            (
              cell_by h,
              cell_is r (cell_by h) b.0,
              beside_is r h (cell_by h) c.0,
              border_is r (cell_by h) c.1,
            ),
          ))
      | inr o ↦ named_is h (mark lab h) refl o
    ]
  ]

  -- ---- links
  abbrev falls_to : Half → Half → Bool
  falls_to h g = falls r d lab rank link strip index cell_by event_by h g

  abbrev link_test : Half → Lead → Bool
  link_test h root = root_test h
  link_test h (next g) =
      both (both (less (event_by h) r.steps) (follows_round (fan (r.step (event_by h))) g (twin h)))
      (falls_to h g)
  link_test h (previous g) =
      both (both (less (event_by h) r.steps) (follows_round (fan (r.step (event_by h))) h (twin g)))
      (falls_to h g)
  link_test h (across g) =
      both (both (cell_test r (cell_by h)) (both (beside r h (cell_by h)) (beside r g (cell_by h))))
      (falls_to h g)

  link_is : (h : Half) (k : Lead) → edge_of h < r.edges → link_test h k ≡ true
      → IsLead r (mark lab) rank (IsCurveRoot d bays r lab within inside outside) h k
  link_is h root l t = root_is h l t
  link_is h (next g) l t =
      let a = both_true _ _ t in
      let b = both_true _ _ a.0 in (
        record {
          event = event_by h;
          fits = less_is (event_by h) r.steps b.0;
          turn = follows_round_is (fan (r.step (event_by h))) g (twin h) b.1;
        },
        falls_is r d lab rank link strip index cell_by event_by h g a.1,
      )
  link_is h (previous g) l t =
      let a = both_true _ _ t in
      let b = both_true _ _ a.0 in (
        record {
          event = event_by h;
          fits = less_is (event_by h) r.steps b.0;
          turn = follows_round_is (fan (r.step (event_by h))) h (twin g) b.1;
        },
        falls_is r d lab rank link strip index cell_by event_by h g a.1,
      )
  link_is h (across g) l t =
      let a = both_true _ _ t in
      let b = both_true _ _ a.0 in
      let c = both_true _ _ b.1 in (
        (
          cell_by h,
          cell_is r (cell_by h) b.0,
          beside_is r h (cell_by h) c.0,
          beside_is r g (cell_by h) c.1,
        ),
        falls_is r d lab rank link strip index cell_by event_by h g a.1,
      )

  abbrev pub links_test : ℕ → Bool
  links_test e = both (link_test (under e) (link (under e))) (link_test (over e) (link (over e)))

  links_are : all_below r.edges links_test ≡ true
      → AreLeads r (mark lab) rank link (IsCurveRoot d bays r lab within inside outside)
  links_are t (under e) l =
      link_is (under e) (link (under e)) l (both_true _ _ (all_below_is r.edges links_test t e l)).0
  links_are t (over e) l =
      link_is (over e) (link (over e)) l (both_true _ _ (all_below_is r.edges links_test t e l)).1

  pub curves_by_test : AreTubeLabels d bays r lab within inside outside
      → all_below (length d.points) point_test ≡ true → all_below r.edges links_test ≡ true
      → CertifiedCurves d bays r lab within inside outside rank link
  curves_by_test labels p t = record {
    labels = labels;
    placed = λ j l. inl (in_cell j (all_below_is (length d.points) point_test p j l));
    links = links_are t;
  }
