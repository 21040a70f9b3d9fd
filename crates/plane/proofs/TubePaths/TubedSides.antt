-- In a drawing with half arcs and a run over its edge list, each side of each half arc has an edge
-- and is one piece in the tube.
use Rattle.std.proofs.Common.{◌≡◌, ℕ, ◌<◌, List, ℤ, pos, ◌≤ℤ◌}
use Rattle.plane.specs.Forms.Vectors.{Vector, Place, Same, mix, Edge}
use Rattle.plane.specs.Rule.HalfArcs.{HalfArc}
use Rattle.plane.specs.Rule.Curves.{arc}
use Rattle.plane.specs.Rule.Plans.{Plan, curve}
use Rattle.plane.specs.Runs.Steps.{Step, WeighedRun}
use Rattle.plane.specs.Faces.Replays.{Replay, replay}
use Rattle.plane.specs.Faces.Halves.{Half}
use Rattle.plane.specs.Faces.Labels.{Labels}
use Rattle.plane.specs.Tubes.Bays.{Bay, IsTube}
use Rattle.plane.specs.Tubes.Bays as one
use Rattle.plane.specs.CurveRuns.Extended.{Tubes, InTubeAt, IsOnWay}
use Rattle.plane.proofs.TubePaths.PieceWords.{Side, inner_side, outer_side, IsOnSide, IsSideWall}
use Rattle.plane.proofs.TubePaths.PieceWords.{PathIn, IsInSide, AreSides}
use Rattle.plane.specs.CurveRuns.TubedRuns.{Part, inner, outer, owned, IsTubedRun, AreTubeLabels}
use Rattle.plane.specs.CurveRuns.TubedRuns.{arc_at, tubes, MeetsArc}
use Rattle.plane.proofs.HalfArcs.ArcHits.{hits_arc}
use Rattle.plane.proofs.HalfArcs.ArcSides.{inside_same, outside_same, near_inside, near_outside}
use Rattle.plane.proofs.HalfArcs.ArcSides.{inside_way_misses, outside_way_misses}
use Rattle.plane.proofs.TubePaths.AwayFrom.{path_more}
use Rattle.plane.proofs.TubePaths.TubeSides.{Inner, Outer, inner_part, outer_part}
use Rattle.plane.proofs.TubedRuns.RunTubes.{arc_fits, arc_bent, edge_in_tube, tubes_cover}
use Rattle.plane.proofs.TubedRuns.RunTubes.{tube_places, inner_edge, outer_edge}
use Rattle.plane.proofs.TubedRuns.ArcEdges.{some_inner, some_outer}

-- the part of the edges on a side
abbrev pub part_of : Side → Part
part_of inner_side = inner
part_of outer_side = outer

module _ (w : ℤ) (d : Plan) (bays : ℕ → List Bay) (m : ℕ) (E : ℕ → Edge) (steps : List Step)
    (lab : Labels) (within : ℕ → Half) (inside outside : ℕ → ℕ)
    (swept : WeighedRun w m E steps) (is : IsTubedRun d bays m E steps)
    (L : AreTubeLabels d bays (replay w m E steps) lab within inside outside) where
  abbrev r : Replay
  r = replay w m E steps

  abbrev T : Tubes
  T = tubes d bays within inside outside

  module _ (c : ℕ) (l : c < T.count) where
    abbrev i : ℕ
    i = arc_at d c

    abbrev h : HalfArc
    h = arc (curve d i)

    t : IsTube h (bays i)
    t = is.tube i (arc_fits w d bays m E steps lab within inside outside swept is L c l)
        (arc_bent w d bays m E steps lab within inside outside swept is L c l)

    to_one : (z : Vector) → InTubeAt T c z → one.InTube h.from (bays i) z
    to_one z k = (tube_places w d bays m E steps lab within inside outside swept is L c l z).0 k

    from_one : (z : Vector) → one.InTube h.from (bays i) z → InTubeAt T c z
    from_one z k = (tube_places w d bays m E steps lab within inside outside swept is L c l z).1 k

    -- an edge of the part
    pub part_wall : (s : Side) (x : ℕ) → x < m → (owned d bays x).curve ≡ i
        → (owned d bays x).part ≡ part_of s → IsSideWall r lab T c s (within x)
    part_wall inner_side x k e p =
        let f = inner_edge w d bays m E steps lab within inside outside swept is L i
        (arc_fits w d bays m E steps lab within inside outside swept is L c l)
        (arc_bent w d bays m E steps lab within inside outside swept is L c l) x k e p in
        record {
          has = (edge_in_tube w d bays m E steps lab within inside outside swept is L c l x k
              e).0;
          label = f.0;
          places = f.1;
        }
    part_wall outer_side x k e p =
        let f = outer_edge w d bays m E steps lab within inside outside swept is L i
        (arc_fits w d bays m E steps lab within inside outside swept is L c l)
        (arc_bent w d bays m E steps lab within inside outside swept is L c l) x k e p in
        record {
          has = (edge_in_tube w d bays m E steps lab within inside outside swept is L c l x k
              e).0;
          label = f.0;
          places = f.1;
        }

    some_wall : (s : Side) → (g : Half) × IsSideWall r lab T c s g
    some_wall inner_side =
        let x = some_inner d bays m E steps is i
        (arc_fits w d bays m E steps lab within inside outside swept is L c l)
        (arc_bent w d bays m E steps lab within inside outside swept is L c l) in
        (within x.0, part_wall inner_side x.0 x.1 x.2 x.3)
    some_wall outer_side =
        let x = some_outer d bays m E steps is i
        (arc_fits w d bays m E steps lab within inside outside swept is L c l)
        (arc_bent w d bays m E steps lab within inside outside swept is L c l) in
        (within x.0, part_wall outer_side x.0 x.1 x.2 x.3)

    misses : (s : Side) (p q : Vector) → Place p → Place q
        → ((z : Vector) → IsOnWay p q z → IsOnSide T c s z) → MeetsArc d c p q → ⊥
    misses inner_side p q P Q f k = inside_way_misses h p q P Q f (hits_arc h p q P Q k)
    misses outer_side p q P Q f k = outside_way_misses h p q P Q f (hits_arc h p q P Q k)

    same : (s : Side) (z v : Vector) → Place z → Place v → Same z v → IsOnSide T c s z
        → IsOnSide T c s v
    same inner_side z v Z V e k = inside_same h z v Z V e k
    same outer_side z v Z V e k = outside_same h z v Z V e k

    near : (s : Side) (x y : Vector) → IsOnSide T c s x
        → (n : ℤ) × (pos 0 ≤ℤ n) × ((z : Vector) → IsOnWay x (mix n x (pos 1) y) z
        → IsOnSide T c s z)
    near inner_side x y k = near_inside h x y k
    near outer_side x y k = near_outside h x y k

    piece : (s : Side) (p q : Vector) → Place p → Place q → InTubeAt T c p → InTubeAt T c q
        → IsOnSide T c s p → IsOnSide T c s q → PathIn (IsInSide T c s) p q
    piece inner_side p q P Q a b x y =
        path_more (Inner h (bays i)) (IsInSide T c inner_side) (λ z k. (from_one z k.0, k.1)) p q
        (inner_part h (bays i) p q t P Q (to_one p a, x) (to_one q b, y))
    piece outer_side p q P Q a b x y =
        path_more (Outer h (bays i)) (IsInSide T c outer_side) (λ z k. (from_one z k.0, k.1)) p q
        (outer_part h (bays i) p q t P Q (to_one p a, x) (to_one q b, y))

  pub are_sides : AreSides r lab T (MeetsArc d)
  are_sides = record {
    covers = λ c l u v U V k. tubes_cover w d bays m E steps lab within inside outside swept is L c
        l u v U V k;
    misses = λ c l s p q P Q f. misses c l s p q P Q f;
    same = λ c l s z v Z V e k. same c l s z v Z V e k;
    near = λ c l s x y X Y k. near c l s x y k;
    wall = λ c l s. some_wall c l s;
    whole = λ c l s p q P Q a b x y. piece c l s p q P Q a b x y;
  }
