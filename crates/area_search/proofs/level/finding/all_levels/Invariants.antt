use Rattle.plane.specs.Rule.Plans.{plan}
use Rattle.area_search.specs.Answers.{SettlesNoneBelow}
use Rattle.area_search.specs.Level.LevelAnswers.{AreOfDrawing, IsBadIfAny}
use Rattle.area_search.proofs.level.finding.all_levels.Given as goal

abbrev pub invariant-loop-level : goal.invariant-loop-level
invariant-loop-level l = record {
  least : SettlesNoneBelow (plan l.drawing) l.level;
  pair : AreOfDrawing (plan l.drawing) l.pair;
  bad : IsBadIfAny (plan l.drawing) l.bad;
}
