use Rattle.meetings.proofs.Choices.{second_of}
use Rattle.meetings.proofs.badness.have_same_ends.Goals as goal

pub returns-else-runs_between : goal.returns-else-runs_between
returns-else-runs_between c =
    second_of _ _ c.runs_between.result _ c.runs_between.ensures c.if-runs_between.false
    c.runs_between-else-runs_between.ensures
