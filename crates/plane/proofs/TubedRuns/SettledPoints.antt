-- Where a point lies in a settled run, by its least edge or by its cell, and what label it has; the
-- weight in a replay may be any.
use Rattle.std.proofs.Common.{◌≡◌, ℕ, suc, ◌<◌, List, [], ◌∷◌, length, ℤ, pos, ◌<ℤ◌, inl, inr, refl}
use Rattle.std.proofs.Common.{arith}
use Rattle.plane.specs.declared.kinds.Point.{Point}
use Rattle.plane.specs.declared.kinds.CurveKind.TheVariants as kind
use Rattle.plane.specs.Lists.{Each, Has}
use Rattle.plane.specs.Forms.Vectors.{point, Edge, On}
use Rattle.plane.specs.Forms.Meets.{OnStraight}
use Rattle.plane.specs.Rule.HalfArcs.{power}
use Rattle.plane.specs.Rule.Curves.{arc, IsOn}
use Rattle.plane.specs.Rule.Plans.{Plan, curve}
use Rattle.plane.specs.Rule.Partition.{IsOff}
use Rattle.plane.specs.Forms.Weights.{Weight}
use Rattle.plane.specs.Runs.Steps.{Step, WeighedRun}
use Rattle.plane.specs.Faces.Replays.{Replay, replay}
use Rattle.plane.specs.Faces.Labels.{Labels}
use Rattle.plane.specs.Faces.Halves.{Half, over, AtBefore}
use Rattle.plane.specs.Faces.PlacedPoints.{IsLocated}
use Rattle.plane.specs.CurveRuns.RegionPoints.{HasRegion}
use Rattle.plane.specs.CurveRuns.Extended.{HasLabel}
use Rattle.plane.specs.Tubes.Bays.{Bay, InTube}
use Rattle.plane.specs.CurveRuns.TubedRuns.{whole, owned, IsOfTube, IsTubedRun, AreTubeLabels}
use Rattle.plane.specs.CurveRuns.TubedRuns.{half_within, tubes}
use Rattle.plane.specs.CurveRuns.Levels.{AreWide, IsSettledRun}
use Rattle.plane.specs.CurveRuns.FacedTubes.{faced, blank_labels, IsFirstOn, LiesInTube}
use Rattle.plane.proofs.ListLemmas.Lists.{each_has}
use Rattle.plane.proofs.Runs.Numbered.{has_nth}
use Rattle.plane.proofs.Linear.EdgePlaces.{place_point}
use Rattle.plane.proofs.Linear.Straights.{on_is}
use Rattle.plane.proofs.Windings.Whole.{IsWhole, swept_whole}
use Rattle.plane.proofs.Turning.CellWalls.{beside_fits}
use Rattle.plane.proofs.FaceLemmas.FaceNumbers.{label_before}
use Rattle.plane.proofs.FaceLemmas.PlacedPoints.{located_is}
use Rattle.plane.proofs.Runs.RunWeights.{RunWeight, run_weight, event_known}
use Rattle.plane.proofs.Turning.AnyWeight.{located_to}
use Rattle.plane.proofs.TubedRuns.TubedWeights.{labels_to}
use Rattle.plane.proofs.CurveAreas.RegionPoints.{region_label}
use Rattle.plane.proofs.Settling.BlankLabels.{blank_are_labels}
use Rattle.plane.proofs.TubedRuns.PointTubes as points

-- ---- P
module _ (d : Plan) (bays : ℕ → List Bay) (m : ℕ) (E : ℕ → Edge) (steps : List Step)
    (is : IsTubedRun d bays m E steps) (wide : AreWide d bays)
    (settled : IsSettledRun d bays m E) where
  abbrev lab : Labels
  lab = blank_labels d bays E

  abbrev within : ℕ → Half
  within = half_within d bays E

  abbrev none : ℕ → ℕ
  none i = 0

  module _ (v : Point) where
    u : RunWeight m E steps (v ∷ [])
    u = run_weight m E steps (v ∷ []) is.run

    abbrev r : Replay
    r = replay u.weight m E steps

    L : AreTubeLabels d bays r lab within none none
    L = blank_are_labels d bays m E steps is wide u.weight settled

    to_on : (e : ℕ) → e < m → OnStraight (E e) (point v) → On u.weight (E e) (point v)
    to_on e l on = (on_is u.weight (E e) (point v) (u.swept.rises e l) (place_point v)).1 on

    from_on : (e : ℕ) → e < m → On u.weight (E e) (point v) → OnStraight (E e) (point v)
    from_on e l on = (on_is u.weight (E e) (point v) (u.swept.rises e l) (place_point v)).0 on

    module _ (e : ℕ) (le : e < m) (on : OnStraight (E e) (point v)) (first : (x : ℕ) → x < e
        → OnStraight (E x) (point v) → ⊥) where
      none_before : (x : ℕ) → x < e → On u.weight (E x) (point v) → ⊥
      none_before x l there = first x l (from_on x (let k = le in omega (arith, l, k)) there)

      pub on_straight : (owned d bays e).part ≡ whole → IsFirstOn d (owned d bays e).curve (point v)
      on_straight p =
          points.straight_first u.weight d bays m E steps lab within none none u.swept is L
          (point v) (place_point v) e le p (to_on e le on) none_before

      pub on_chain : IsOfTube (owned d bays e).part → LiesInTube d bays (owned d bays e).curve v
      on_chain o =
          points.tube_first u.weight d bays m E steps lab within none none u.swept is L e le o v
          (to_on e le on) none_before

    module _ (w : ℤ) (k i : ℕ) (p : IsLocated (replay w m E steps) v k i) where
      here : IsLocated r v k i
      here = located_to w u.weight m E steps v k i p

      pub in_cell : (e c : ℕ) → AtBefore ((replay w m E steps).list k) i e
          → faced d bays E (over e) ≡ suc c → LiesInTube d bays c v
      in_cell e c b t =
          points.cell_lies u.weight d bays m E steps lab within none none u.swept is L u.points v k
          i u.heavy (u.known v (inl refl)) (event_known m E steps (v ∷ []) u) here e b c t

      pub in_cell_only : (e c j : ℕ) → AtBefore ((replay w m E steps).list k) i e
          → faced d bays E (over e) ≡ suc c → j < length d.curves → IsOn (curve d j) (point v)
          → j ≡ c
      in_cell_only e c j b t fits on =
          points.cell_only u.weight d bays m E steps lab within none none u.swept is L u.points v k
          i u.heavy (u.known v (inl refl)) (event_known m E steps (v ∷ []) u) here e b c t j fits on

      pub off_curves : ((e : ℕ) → AtBefore ((replay w m E steps).list k) i e
          → faced d bays E (over e) ≡ 0)
          → IsOff d (point v)
      off_curves t =
          points.cell_off u.weight d bays m E steps lab within none none u.swept is L u.points v k i
          u.heavy (u.known v (inl refl)) (event_known m E steps (v ∷ []) u) here t

      pub in_no_tube : ((e : ℕ) → AtBefore ((replay w m E steps).list k) i e
          → faced d bays E (over e) ≡ 0)
          → (j : ℕ) → j < length d.curves → (curve d j).kind ≡ kind.HalfArc
          → InTube (curve d j).from (bays j) (point v) → ⊥
      in_no_tube t j fits bent inner =
          points.cell_outside u.weight d bays m E steps lab within none none u.swept is L u.points v
          k i u.heavy (u.known v (inl refl))
          (event_known m E steps (v ∷ []) u) here t j fits bent inner

-- ---- P'
module _ (w : ℤ) (d : Plan) (bays : ℕ → List Bay) (m : ℕ) (E : ℕ → Edge) (steps : List Step)
    (lab : Labels) (inside outside : ℕ → ℕ) where
  pub border_region : (v : Point) (k : ℕ) → IsLocated (replay w m E steps) v k 0
      → HasRegion d bays (replay w m E steps) lab inside outside v 0
  border_region v k p =
      inl (record { strip = k; index = 0; located = p; label = refl; region = omega arith })

  pub tube_region : (c : ℕ) (v : Point) → LiesInTube d bays c v
      → (power (arc (curve d c)) (point v) <ℤ pos 0
      → HasRegion d bays (replay w m E steps) lab inside outside v (inside c))
      × (pos 0 <ℤ power (arc (curve d c)) (point v)
      → HasRegion d bays (replay w m E steps) lab inside outside v (outside c))
  tube_region c v h = (
    (λ l. inr (record {
      number = c;
      fits = h.there;
      bent = h.bent;
      holds = h.holds;
      side = inl (l, refl);
    })),
    (λ l. inr (record {
      number = c;
      fits = h.there;
      bent = h.bent;
      holds = h.holds;
      side = inr (l, refl);
    })),
  )

module _ (w : ℤ) (d : Plan) (bays : ℕ → List Bay) (m : ℕ) (E : ℕ → Edge) (steps : List Step)
    (lab : Labels) (within : ℕ → Half) (inside outside : ℕ → ℕ)
    (is : IsTubedRun d bays m E steps)
    (L : AreTubeLabels d bays (replay w m E steps) lab within inside outside) where
  module _ (v : Point) (k i : ℕ) (p : IsLocated (replay w m E steps) v k i) where
    run_at : RunWeight m E steps []
    run_at = run_weight m E steps [] is.run

    of_whole : IsWhole (replay run_at.weight m E steps)
    of_whole = swept_whole run_at.weight m E steps run_at.swept

    fits : (e : ℕ) → AtBefore ((replay w m E steps).list k) i e → e < m
    fits e b = beside_fits (replay run_at.weight m E steps) of_whole.run of_whole.law (over e)
        (record { strip = k; index = i })
        (located_is (replay run_at.weight m E steps) of_whole.run of_whole.law k i v
        (located_to w run_at.weight m E steps v k i p)) b

    pub cell_region : (e : ℕ) → AtBefore ((replay w m E steps).list k) i e
        → faced d bays E (over e) ≡ 0
        → HasRegion d bays (replay w m E steps) lab inside outside v (lab.above e)
    cell_region e b t = inl (record {
      strip = k;
      index = i;
      located = p;
      label = label_before lab 0 i ((replay w m E steps).list k) e b;
      region = points.region_most run_at.weight d bays m E steps lab within inside outside
          run_at.swept is (labels_to w run_at.weight d bays m E steps lab within inside outside L) e
          (fits e b) t;
    })

  pub has_label : (pts : List Point) (v : Point) (l : ℕ) → WeighedRun w m E steps → Weight w pts
      → Has v pts → Each (λ s. Has s.at pts) steps
      → HasRegion d bays (replay w m E steps) lab inside outside v l
      → HasLabel (replay w m E steps) lab (tubes d bays within inside outside) (point v) l
  has_label pts v l swept heavy known events h =
      region_label w d bays m E steps lab within inside outside swept is L pts v l heavy known
      (λ j n. each_has (λ s. Has s.at pts) steps ((replay w m E steps).step j) events
      (has_nth steps j n)) h
