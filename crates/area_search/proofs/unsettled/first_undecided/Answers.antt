use Rattle.std.proofs.Common.{arith, subst, sym}
use Rattle.plane.specs.Rule.Plans.{plan}
use Rattle.level_breaks.specs.LevelLists.{AreAlone}
use Rattle.area_search.specs.Answers.{undecided}
use Rattle.area_search.proofs.unsettled.first_undecided.Goals as goal

pub first_break_among-requires-clause-alone : goal.first_break_among-requires-clause-alone
first_break_among-requires-clause-alone c =
    subst (AreAlone (plan c.args.drawing.now) (λ n. 5)) (sym c.deref.ensures.value) c.in_ok-alone.ensures

pub returns : goal.returns
returns c = undecided c.in-Some.pair.first c.in-Some.pair.second c.requires.clear
    c.requires.unsettled (rw c.in-Some.is at c.in_ok-pair.ensures.breaks)

pub unreachable-requires : goal.unreachable-requires
unreachable-requires c =
    c.requires.unsettled 5 (omega arith) (c.in_ok-pair.ensures.settled c.in-None.is)
