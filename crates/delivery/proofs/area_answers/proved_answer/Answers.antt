use Rattle.plane.specs.Rule.Plans.{plan}
use Rattle.table_layout.specs.Values.{area_view, layout_view}
use Rattle.delivery.proofs.AnswerLemmas.{CountLaws, answer_proved, can_be_written}
use Rattle.delivery.proofs.area_answers.proved_answer.Goals as goal

pub returns-clause-answer : goal.returns-clause-answer
returns-clause-answer c =
    answer_proved (layout_view c.args.layout.now) (area_view c.args.area.now)
    (plan c.args.drawing.now) c.args.found c.named-certificate.result
    _ _ _ c.requires.found c.named-certificate.ensures c.in_ok-names_of.ensures.topic
    c.in_ok-names_of.ensures.table c.in_ok-names_of.ensures.attribute
    c.proof_answer-area_answer.result c.proof_answer-area_answer.ensures

pub returns-clause-spelt : goal.returns-clause-spelt
returns-clause-spelt c =
    let laws : CountLaws = record {
      positions = c.proved_counts.ensures.positions;
      notes = c.proved_counts.ensures.notes;
      places = c.proved_counts.ensures.places;
      few = c.grounds_have_few_edges.ensures;
    } in
    let can = can_be_written laws (layout_view c.args.layout.now) (area_view c.args.area.now)
    (plan c.args.drawing.now) c.args.found c.requires.found c.requires.names c.requires.small
    c.named-certificate.result _ _ _ c.named-certificate.ensures c.in_ok-names_of.ensures.topic
    c.in_ok-names_of.ensures.table c.in_ok-names_of.ensures.attribute in
    (c.numbers_fit.ensures can, tt)
