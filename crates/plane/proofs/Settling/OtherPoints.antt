-- Whether a run is settled, and which tube a point lies in, does not depend on the drawing's
-- points.
use Rattle.std.proofs.Common.{ℕ, List}
use Rattle.plane.specs.declared.kinds.Point.{Point}
use Rattle.plane.specs.declared.kinds.Placed.{Placed}
use Rattle.plane.specs.Forms.Vectors.{Vector, Edge}
use Rattle.plane.specs.Rule.Plans.{Plan}
use Rattle.plane.specs.Tubes.Bays.{Bay}
use Rattle.plane.specs.CurveRuns.Levels.{IsSettledRun}
use Rattle.plane.specs.CurveRuns.FacedTubes.{IsFirstOn, LiesInTube}

module _ (d : Plan) (ps : List Placed) (bays : ℕ → List Bay) where
  abbrev other : Plan
  other = record d { points = ps }

  pub settled_to : (m : ℕ) (E : ℕ → Edge) → IsSettledRun other bays m E → IsSettledRun d bays m E
  settled_to m E s = record { enter = s.enter; chord = s.chord }

  pub settled_from : (m : ℕ) (E : ℕ → Edge) → IsSettledRun d bays m E → IsSettledRun other bays m E
  settled_from m E s = record { enter = s.enter; chord = s.chord }

  first_to : (i : ℕ) (z : Vector) → IsFirstOn other i z → IsFirstOn d i z
  first_to i z f = record { there = f.there; on = f.on; least = f.least }

  first_from : (i : ℕ) (z : Vector) → IsFirstOn d i z → IsFirstOn other i z
  first_from i z f = record { there = f.there; on = f.on; least = f.least }

  pub lies_to : (i : ℕ) (v : Point) → LiesInTube other bays i v → LiesInTube d bays i v
  lies_to i v l = record {
    there = l.there;
    bent = l.bent;
    holds = l.holds;
    on = λ e. first_to i _ (l.on e);
    off = l.off;
  }

  pub lies_from : (i : ℕ) (v : Point) → LiesInTube d bays i v → LiesInTube other bays i v
  lies_from i v l = record {
    there = l.there;
    bent = l.bent;
    holds = l.holds;
    on = λ e. first_from i _ (l.on e);
    off = l.off;
  }
