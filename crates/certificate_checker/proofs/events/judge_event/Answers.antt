use Rattle.std.proofs.Common.{rules, arith, ap, sym, subst, refl, IsTrue, false, ◌≡◌, ◌↔◌, ◌∙◌}
use Rattle.std.proofs.Common.{length}
use Rattle.straight_predicates.specs.EdgeLists.{AreBelow, IsCloseToAll}
use Rattle.straight_predicates.specs.Tables.{table_of}
use Rattle.certificate_checker.specs.Cases.{judged}
use Rattle.certificate_checker.specs.Rules.{BetweenAt, BlockAt, HasBlock, IsBetween, LabelsAt}
use Rattle.certificate_checker.specs.Rules.{SlopesAt}
use Rattle.certificate_checker.specs.Subjects.{edge}
use Rattle.certificate_checker.specs.Verdicts.{between, block, labels, slopes}
use Rattle.certificate_checker.proofs.Closeness.{event_close, starting_below}
use Rattle.certificate_checker.proofs.ListParts.{event_rule, labels_at, notes_of, slopes_rule}
use Rattle.certificate_checker.proofs.ListParts.{unfit}
use Rattle.certificate_checker.proofs.events.judge_event.Goals as goal

pub is_between-requires-clause-close : goal.is_between-requires-clause-close
is_between-requires-clause-close c =
    subst (IsCloseToAll c.args.case.now.edges.now) (sym c.at-at.ensures)
    (event_close c.args.case.now.edges.now
    (table_of c.args.case.now.table.now) c.args.event c.requires.fit.table c.requires.event
    c.requires.fit.close)

pub turn_left-requires-clause-known : goal.turn_left-requires-clause-known
turn_left-requires-clause-known c =
    subst (AreBelow (length c.args.case.now.edges.now)) (sym c.starting-starting.ensures)
    (starting_below c.args.case.now.edges.now
    (table_of c.args.case.now.table.now) c.args.event c.requires.fit.table c.requires.event)

pub labels_match-requires-clause-starting : goal.labels_match-requires-clause-starting
labels_match-requires-clause-starting c =
    notes_of c.deref.result.now (length c.args.case.now.edges.now) c.starting-starting.result.now
    (ap length c.deref.ensures.value ∙ c.requires.fit.counts.notes)
    (subst (AreBelow (length c.args.case.now.edges.now)) (sym c.starting-starting.ensures)
    (starting_below c.args.case.now.edges.now
    (table_of c.args.case.now.table.now) c.args.event c.requires.fit.table c.requires.event))

pub returns-then-not-has_block-clause-broken : goal.returns-then-not-has_block-clause-broken
returns-then-not-has_block-clause-broken c =
    let no : c.has_block.result ≡ false = search rules in
    let b : IsTrue c.has_block.result ↔ BlockAt (judged c.args.case.now) c.args.event =
    event_rule (HasBlock (edge (judged c.args.case.now)))
    (judged c.args.case.now) c.args.event c.has_block.result c.args.live.now.edges c.at-at.result
    c.position_of-position.result _ c.requires.live c.at-at.ensures
    c.position_of-position.ensures (ap length c.ending-ending.ensures) c.has_block.ensures in
    block refl (unfit c.has_block.result b no)

pub returns-then-not-is_between-clause-broken : goal.returns-then-not-is_between-clause-broken
returns-then-not-is_between-clause-broken c =
    let no : c.is_between.result ≡ false = search rules in
    let hb : IsTrue c.has_block.result = search rules in
    let b : IsTrue c.has_block.result ↔ BlockAt (judged c.args.case.now) c.args.event =
    event_rule (HasBlock (edge (judged c.args.case.now)))
    (judged c.args.case.now) c.args.event c.has_block.result c.args.live.now.edges c.at-at.result
    c.position_of-position.result _ c.requires.live c.at-at.ensures
    c.position_of-position.ensures (ap length c.ending-ending.ensures) c.has_block.ensures in
    let t : IsTrue c.is_between.result ↔ BetweenAt (judged c.args.case.now) c.args.event =
    event_rule (IsBetween (edge (judged c.args.case.now)))
    (judged c.args.case.now) c.args.event c.is_between.result c.args.live.now.edges c.at-at.result
    c.position_of-position.result _ c.requires.live c.at-at.ensures
    c.position_of-position.ensures (ap length c.ending-ending.ensures) c.is_between.ensures in
    between refl (b.0 hb) (unfit c.is_between.result t no)

pub returns-then-not-turn_left-clause-broken : goal.returns-then-not-turn_left-clause-broken
returns-then-not-turn_left-clause-broken c =
    let no : c.turn_left.result ≡ false = search rules in
    let hb : IsTrue c.has_block.result = search rules in
    let ht : IsTrue c.is_between.result = search rules in
    let b : IsTrue c.has_block.result ↔ BlockAt (judged c.args.case.now) c.args.event =
    event_rule (HasBlock (edge (judged c.args.case.now)))
    (judged c.args.case.now) c.args.event c.has_block.result c.args.live.now.edges c.at-at.result
    c.position_of-position.result _ c.requires.live c.at-at.ensures
    c.position_of-position.ensures (ap length c.ending-ending.ensures) c.has_block.ensures in
    let t : IsTrue c.is_between.result ↔ BetweenAt (judged c.args.case.now) c.args.event =
    event_rule (IsBetween (edge (judged c.args.case.now)))
    (judged c.args.case.now) c.args.event c.is_between.result c.args.live.now.edges c.at-at.result
    c.position_of-position.result _ c.requires.live c.at-at.ensures
    c.position_of-position.ensures (ap length c.ending-ending.ensures) c.is_between.ensures in
    let l : IsTrue c.turn_left.result ↔ SlopesAt (judged c.args.case.now) c.args.event = slopes_rule
    (judged c.args.case.now) c.args.event c.turn_left.result c.starting-starting.result.now
    c.starting-starting.ensures c.turn_left.ensures in
    slopes refl (b.0 hb) (t.0 ht) (unfit c.turn_left.result l no)

pub returns-then-not-labels_match-clause-broken : goal.returns-then-not-labels_match-clause-broken
returns-then-not-labels_match-clause-broken c =
    let no : c.labels_match.result ≡ false = search rules in
    let hb : IsTrue c.has_block.result = search rules in
    let ht : IsTrue c.is_between.result = search rules in
    let hl : IsTrue c.turn_left.result = search rules in
    let b : IsTrue c.has_block.result ↔ BlockAt (judged c.args.case.now) c.args.event =
    event_rule (HasBlock (edge (judged c.args.case.now)))
    (judged c.args.case.now) c.args.event c.has_block.result c.args.live.now.edges c.at-at.result
    c.position_of-position.result _ c.requires.live c.at-at.ensures
    c.position_of-position.ensures (ap length c.ending-ending.ensures) c.has_block.ensures in
    let t : IsTrue c.is_between.result ↔ BetweenAt (judged c.args.case.now) c.args.event =
    event_rule (IsBetween (edge (judged c.args.case.now)))
    (judged c.args.case.now) c.args.event c.is_between.result c.args.live.now.edges c.at-at.result
    c.position_of-position.result _ c.requires.live c.at-at.ensures
    c.position_of-position.ensures (ap length c.ending-ending.ensures) c.is_between.ensures in
    let l : IsTrue c.turn_left.result ↔ SlopesAt (judged c.args.case.now) c.args.event = slopes_rule
    (judged c.args.case.now) c.args.event c.turn_left.result c.starting-starting.result.now
    c.starting-starting.ensures c.turn_left.ensures in
    let m : IsTrue c.labels_match.result ↔ LabelsAt (judged c.args.case.now) c.args.event =
    labels_at (judged c.args.case.now) c.args.event c.labels_match.result c.deref.result.now
    c.args.live.now.edges c.starting-starting.result.now c.position_of-position.result _
    c.deref.ensures.value c.requires.live c.starting-starting.ensures
    c.position_of-position.ensures (ap length c.ending-ending.ensures)
    (let w = (c.has_block.ensures.0 hb).within in omega (arith, w)) c.labels_match.ensures in
    labels refl (b.0 hb) (t.0 ht) (l.0 hl) (unfit c.labels_match.result m no)

pub returns-clause-passes : goal.returns-clause-passes
returns-clause-passes c =
    let hb : IsTrue c.has_block.result = search rules in
    let ht : IsTrue c.is_between.result = search rules in
    let hl : IsTrue c.turn_left.result = search rules in
    let hm : IsTrue c.labels_match.result = search rules in
    let b : IsTrue c.has_block.result ↔ BlockAt (judged c.args.case.now) c.args.event =
    event_rule (HasBlock (edge (judged c.args.case.now)))
    (judged c.args.case.now) c.args.event c.has_block.result c.args.live.now.edges c.at-at.result
    c.position_of-position.result _ c.requires.live c.at-at.ensures
    c.position_of-position.ensures (ap length c.ending-ending.ensures) c.has_block.ensures in
    let t : IsTrue c.is_between.result ↔ BetweenAt (judged c.args.case.now) c.args.event =
    event_rule (IsBetween (edge (judged c.args.case.now)))
    (judged c.args.case.now) c.args.event c.is_between.result c.args.live.now.edges c.at-at.result
    c.position_of-position.result _ c.requires.live c.at-at.ensures
    c.position_of-position.ensures (ap length c.ending-ending.ensures) c.is_between.ensures in
    let l : IsTrue c.turn_left.result ↔ SlopesAt (judged c.args.case.now) c.args.event = slopes_rule
    (judged c.args.case.now) c.args.event c.turn_left.result c.starting-starting.result.now
    c.starting-starting.ensures c.turn_left.ensures in
    let m : IsTrue c.labels_match.result ↔ LabelsAt (judged c.args.case.now) c.args.event =
    labels_at (judged c.args.case.now) c.args.event c.labels_match.result c.deref.result.now
    c.args.live.now.edges c.starting-starting.result.now c.position_of-position.result _
    c.deref.ensures.value c.requires.live c.starting-starting.ensures
    c.position_of-position.ensures (ap length c.ending-ending.ensures)
    (let w = (c.has_block.ensures.0 hb).within in omega (arith, w)) c.labels_match.ensures in
    record { block = b.0 hb; between = t.0 ht; slopes = l.0 hl; labels = m.0 hm }
