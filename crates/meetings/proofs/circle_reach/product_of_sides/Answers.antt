use Rattle.meetings.proofs.CircleReaches.{sides_are}
use Rattle.meetings.proofs.circle_reach.product_of_sides.Goals as goal

pub returns-clause-value : goal.returns-clause-value
returns-clause-value c =
    sides_are c.args.curve.now c.steps_between-chord.result c.steps_between-first.result
    c.steps_between-second.result c.steps_between-chord.ensures.value
    c.steps_between-first.ensures.value c.steps_between-second.ensures.value
