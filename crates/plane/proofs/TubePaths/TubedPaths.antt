-- Paths of a run with tubes are paths of the drawing; so a place of a tube is joined to a place
-- beyond each edge of its side,
-- and outside the tubes places joined off the edges are joined.
use Rattle.std.proofs.Common.{◌≡◌, ℕ, ◌<◌, List, ℤ, pos, ◌<ℤ◌, inl, inr, refl, subst}
use Rattle.plane.specs.Forms.Vectors.{Vector, Place, Same, Edge}
use Rattle.plane.specs.Rule.HalfArcs.{power}
use Rattle.plane.specs.Rule.Curves.{arc}
use Rattle.plane.specs.Rule.Plans.{Plan, curve}
use Rattle.plane.specs.Rule.Partition as rule
use Rattle.plane.specs.Rule.Partition.{Joined, IsOuter}
use Rattle.plane.specs.Forms.Paths.{Path}
use Rattle.plane.specs.Forms.Paths as steps_of
use Rattle.plane.specs.Runs.Steps.{Step, WeighedRun}
use Rattle.plane.specs.Faces.Replays.{Replay, replay, IsOffEdges}
use Rattle.plane.specs.Faces.Cells.{sector, label_of}
use Rattle.plane.specs.Faces.Cells as cells
use Rattle.plane.specs.Faces.Labels.{Labels}
use Rattle.plane.specs.Faces.Halves.{Half, twin, Beside}
use Rattle.plane.specs.Tubes.Bays.{Bay}
use Rattle.plane.specs.CurveRuns.Extended.{Tubes, InTubeAt, AreTubes}
use Rattle.plane.proofs.TubePaths.PieceWords.{Side, inner_side, outer_side, IsOnSide, AreSides}
use Rattle.plane.proofs.TubePaths.PieceWords.{CurvePath, IsCurveOuter}
use Rattle.plane.proofs.TubePaths.PieceWords as paths
use Rattle.plane.specs.CurveRuns.TubedRuns.{inner, outer, owned, IsTubedRun, AreTubeLabels, arc_at}
use Rattle.plane.specs.CurveRuns.TubedRuns.{tubes, MeetsArc}
use Rattle.plane.proofs.Covers.SamePlace.{same_refl}
use Rattle.plane.proofs.Covers.CurvePlaces.{hits_alone}
use Rattle.plane.proofs.Covers.PathLists.{joined_is_path}
use Rattle.plane.proofs.Windings.Whole.{IsWhole, swept_whole}
use Rattle.plane.proofs.TubedRuns.RunTubes.{are_tubes}
use Rattle.plane.proofs.TubedRuns.TubedCurves.{free_clear}
use Rattle.plane.proofs.TubedRuns.TubedOff.{label_off}
use Rattle.plane.proofs.TubePaths.TubedSides.{part_of, are_sides, part_wall}
use Rattle.plane.proofs.TubePaths.WaysOut.{way_out, free_last, joined_path}

module _ (w : ℤ) (d : Plan) (bays : ℕ → List Bay) (m : ℕ) (E : ℕ → Edge) (steps : List Step)
    (lab : Labels) (within : ℕ → Half) (inside outside : ℕ → ℕ)
    (swept : WeighedRun w m E steps) (is : IsTubedRun d bays m E steps)
    (L : AreTubeLabels d bays (replay w m E steps) lab within inside outside) where
  abbrev r : Replay
  r = replay w m E steps

  abbrev T : Tubes
  T = tubes d bays within inside outside

  whole : IsWhole r
  whole = swept_whole w m E steps swept

  all : AreTubes r lab T (MeetsArc d)
  all = are_tubes w d bays m E steps lab within inside outside swept is L

  sides : AreSides r lab T (MeetsArc d)
  sides = are_sides w d bays m E steps lab within inside outside swept is L

  -- ---- paths
  path_rule : (p q : Vector) → CurvePath r T (MeetsArc d) p q → Place p → rule.IsOff d p
      → Path d p q
  path_rule _ _ (paths.ends p q e) P none =
      steps_of.ends p q (subst (λ (z : Vector). Same p z) e (same_refl p)) none
  path_rule _ _ (paths.leads p x q X free j) P none =
      let alone = free_clear w d bays m E steps lab within inside outside swept is L x x X X
      (free_last r whole lab L.matched T (MeetsArc d) all sides p x free) in
      steps_of.goes p x q none X
      (free_clear w d bays m E steps lab within inside outside swept is L p x P X free)
      (path_rule x q j X (λ i li on. alone i li ((hits_alone (curve d i) x X).1 on)))

  pub curves_joined : (p q : Vector) → Place p → rule.IsOff d p → CurvePath r T (MeetsArc d) p q
      → Joined d p q
  curves_joined p q P none j = (joined_is_path d p q P).1 (path_rule p q j P none)

  pub curves_outer : (p : Vector) → Place p → rule.IsOff d p → IsCurveOuter r T (MeetsArc d) p
      → IsOuter d p
  curves_outer p P none o b = let x = o b in (x.0, x.1, curves_joined p x.0 P none x.2, x.3)

  -- ---- out of a tube
  -- o is in a cell beyond the edge x, off the edges and outside the tubes, and joined to z
  pub record IsBeyond (x : ℕ) (z o : Vector) : Type 0 where
    pub place : Place o
    pub off : IsOffEdges r o
    pub in_none : (c : ℕ) → c < T.count → InTubeAt T c o → ⊥
    pub beside : Beside r (twin (within x)) (sector r o)
    pub joined : Joined d z o

  beyond : (c : ℕ) → c < T.count → (s : Side) (x : ℕ) → x < m → (owned d bays x).curve ≡ arc_at d c
      → (owned d bays x).part ≡ part_of s → (z : Vector) → Place z → InTubeAt T c z
      → IsOnSide T c s z → rule.IsOff d z
      → (o : Vector) × IsBeyond x z o
  beyond c l s x lx own part z Z i k none =
      let o = way_out r whole lab L.matched T (MeetsArc d) all sides c l s (within x)
      (part_wall w d bays m E steps lab within inside outside swept is L c l s x lx own part) z
      Z i k in (
        o.0,
        record {
          place = o.1.place;
          off = o.1.off;
          in_none = o.1.outside;
          beside = o.1.beside;
          joined = curves_joined z o.0 Z none o.1.path;
        },
      )

  pub beyond_inner : (c : ℕ) → c < T.count → (x : ℕ) → x < m → (owned d bays x).curve ≡ arc_at d c
      → (owned d bays x).part ≡ inner → (z : Vector) → Place z → InTubeAt T c z
      → power (arc (curve d (arc_at d c))) z <ℤ pos 0
      → (o : Vector) × IsBeyond x z o
  beyond_inner c l x lx own part z Z i k =
      beyond c l inner_side x lx own part z Z i k
      (label_off w d bays m E steps lab within inside outside swept is L z Z (T.inner c)
      (inl (c, l, i, inl (k, refl))))

  pub beyond_outer : (c : ℕ) → c < T.count → (x : ℕ) → x < m → (owned d bays x).curve ≡ arc_at d c
      → (owned d bays x).part ≡ outer → (z : Vector) → Place z → InTubeAt T c z
      → pos 0 <ℤ power (arc (curve d (arc_at d c))) z
      → (o : Vector) × IsBeyond x z o
  beyond_outer c l x lx own part z Z i k =
      beyond c l outer_side x lx own part z Z i k
      (label_off w d bays m E steps lab within inside outside swept is L z Z (T.outer c)
      (inl (c, l, i, inr (k, refl))))

  -- ---- outside the tubes
  pub joined_outside : (p q : Vector) → Place p → Place q → IsOffEdges r p
      → ((c : ℕ) → c < T.count → InTubeAt T c p → ⊥) → cells.JoinedByEdges r p q → Joined d p q
  joined_outside p q P Q off out j =
      curves_joined p q P
      (label_off w d bays m E steps lab within inside outside swept is L p P
      (label_of lab r (sector r p)) (inr (out, off, refl)))
      (joined_path r whole lab L.matched T (MeetsArc d) all sides p q j P Q off out)
