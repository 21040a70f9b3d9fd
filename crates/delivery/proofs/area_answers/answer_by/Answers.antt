use Rattle.std.proofs.Common.{ℤ, subst}
use Rattle.plane.specs.Rule.Plans.{plan}
use Rattle.table_layout.specs.Values.{area_view, layout_view}
use Rattle.certificate_checker.specs.Subjects.{claims}
use Rattle.area_search.specs.Grounds.{IsAnswerBy, ProvesGround}
use Rattle.delivery.proofs.AnswerLemmas.{answer_faulty, answer_undecided}
use Rattle.delivery.proofs.area_answers.answer_by.Goals as goal

pub proved_answer-requires-clause-found : goal.proved_answer-requires-clause-found
proved_answer-requires-clause-found c =
    let d = plan c.args.drawing.now in
    let h = subst (IsAnswerBy c.args.drawing.now.tolerance d) c.in-Proved.is c.requires.found in
    subst (λ (t : ℤ). ProvesGround t d c.in-Proved.certificate.bent
    (claims c.in-Proved.certificate)) c.requires.tolerance
    (c.answers_are_right.ensures.proved c.args.drawing.now.tolerance d c.in-Proved.certificate h)

pub fault_answer-requires : goal.fault_answer-requires
fault_answer-requires c =
    let d = plan c.args.drawing.now in
    c.faults_are_true.ensures.there c.args.drawing.now.tolerance d c.in-Fault.finding
    (subst (IsAnswerBy c.args.drawing.now.tolerance d) c.in-Fault.is c.requires.found)

pub undecided_answer-requires : goal.undecided_answer-requires
undecided_answer-requires c =
    let d = plan c.args.drawing.now in
    let h = c.undecided_has_half_arc.ensures.there c.args.drawing.now.tolerance d
    c.in-Undecided.first c.in-Undecided.second
    (subst (IsAnswerBy c.args.drawing.now.tolerance d) c.in-Undecided.is c.requires.found) in
    record { order = h.0; there = h.1 }

pub returns-in-Fault-clause-answer : goal.returns-in-Fault-clause-answer
returns-in-Fault-clause-answer c =
    answer_faulty (layout_view c.args.layout.now) (area_view c.args.area.now)
    (plan c.args.drawing.now) c.args.drawing.now.tolerance c.args.found
    c.in-Fault.finding c.requires.tolerance c.requires.found c.in-Fault.is c.fault_answer.result
    c.fault_answer.ensures

pub returns-in-Undecided-clause-answer : goal.returns-in-Undecided-clause-answer
returns-in-Undecided-clause-answer c =
    answer_undecided (layout_view c.args.layout.now) (area_view c.args.area.now)
    (plan c.args.drawing.now) c.args.drawing.now.tolerance c.args.found
    c.in-Undecided.first c.in-Undecided.second c.requires.tolerance c.requires.found
    c.in-Undecided.is c.undecided_answer.result c.undecided_answer.ensures
