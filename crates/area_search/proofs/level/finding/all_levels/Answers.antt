use Rattle.std.proofs.Common.{subst, sym}
use Rattle.plane.specs.Rule.Plans.{plan}
use Rattle.area_search.specs.Level.LevelAnswers.{AreOfDrawing, IsBadIfAny, IsShown}
use Rattle.area_search.proofs.Grounds.{none_below_next}
use Rattle.area_search.proofs.level.finding.all_levels.Goals as goal
use Rattle.area_search.proofs.level.finding.all_levels.Goals.{in-Unsettled, in-AtFault}

pub loop-level-preserved : goal.loop-level-preserved
loop-level-preserved c =
    let d = plan c.args.drawing.now in
    let level = c.loop-level.level in
    elim c.match-branch-2.branch [
      | in-Unsettled w ↦
          (let h = subst (IsShown d level) w.in-Unsettled.is c.in_ok-found.ensures in
          record {
            least = none_below_next d level c.loop-level.invariant.least h.0;
            pair = subst (AreOfDrawing d) (sym w.pair-is) h.1;
            bad = subst (IsBadIfAny d) (sym w.bad-is) c.loop-level.invariant.bad;
          })
      | in-AtFault w ↦
          (let h = subst (IsShown d level) w.in-AtFault.is c.in_ok-found.ensures in
          record {
            least = none_below_next d level c.loop-level.invariant.least h.0;
            pair = subst (AreOfDrawing d) (sym w.pair-is) (h.1.order, h.1.there);
            bad = subst (IsBadIfAny d) (sym w.bad-is) h.1;
          })
    ]
