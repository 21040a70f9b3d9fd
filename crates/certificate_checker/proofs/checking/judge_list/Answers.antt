use Rattle.std.proofs.Common.{List, ◌<◌, ◌^◌, length, subst, sym}
use Rattle.plane.specs.Rule.Plans.{plan}
use Rattle.plane.specs.declared.kinds.Edge.{Edge}
use Rattle.certificate_checker.proofs.ProvedCounts.{listed_few}
use Rattle.certificate_checker.proofs.checking.judge_list.Goals as goal

pub new-requires-clause-few : goal.new-requires-clause-few
new-requires-clause-few c =
    subst (λ (es : List Edge). length es < 2 ^ 31) (sym c.deref.ensures.value)
    (listed_few (plan c.args.drawing.now) c.args.certificate.now.level c.args.list.now
    c.requires.few c.requires.low c.requires.list)

pub judge_table-requires-clause-few : goal.judge_table-requires-clause-few
judge_table-requires-clause-few c =
    listed_few (plan c.args.drawing.now) c.args.certificate.now.level c.args.list.now
    c.requires.few c.requires.low c.requires.list
