use Rattle.std.proofs.Common.{rules, ◌≡◌, ◌∙◌, List, IsTrue, false, refl, subst}
use Rattle.plane.specs.Rule.Plans.{plan}
use Rattle.plane.specs.declared.kinds.Edge.{Edge}
use Rattle.straight_predicates.specs.EdgeEvents.{AreEventsOf}
use Rattle.straight_predicates.specs.Tables.{table_of}
use Rattle.tubes.specs.Settled.{IsFirstForeign}
use Rattle.certificate_checker.specs.Rules.{HasEdges}
use Rattle.certificate_checker.specs.Subjects.{claims}
use Rattle.certificate_checker.proofs.Judging.{counts_at, foreign, found_is, miscounted, table_at}
use Rattle.certificate_checker.proofs.ListParts.{unfit}
use Rattle.certificate_checker.proofs.checking.judge_table.Goals as goal

pub returns-then-not-has_counts : goal.returns-then-not-has_counts
returns-then-not-has_counts c =
    let d = plan c.args.drawing.now in
    let n : c.has_counts.result ≡ false = search rules in
    let h : HasEdges d c.args.certificate.now.level = record {
      low = c.requires.low;
      tubes = c.requires.list.tubes;
    } in
    miscounted d (claims c.args.certificate.now) (table_of c.args.table.now) c.deref.result.now h
    (c.deref.ensures.value ∙ c.requires.list.edges)
    (table_at d c.args.certificate.now.level c.args.list.now.edges.items
    (table_of c.args.table.now) c.requires.list.edges c.requires.table)
    (unfit c.has_counts.result c.has_counts.ensures n)

pub returns-in-Some : goal.returns-in-Some
returns-in-Some c =
    let d = plan c.args.drawing.now in
    let level = c.args.certificate.now.level in
    let table = table_of c.args.table.now in
    let y : IsTrue c.has_counts.result = search rules in
    let h : HasEdges d level = record { low = c.requires.low; tubes = c.requires.list.tubes } in
    let f = found_is d level c.args.list.now table c.args.list.now.edges.items c.deref-2.result.now
    c.in_ok-of.of.low.items c.in_ok-of.of.high.items c.deref-3.result.now c.deref-4.result.now
    c.events.result c.in_ok-place.field-0 c.requires.list c.in_ok-place.ensures
    refl c.requires.table c.deref-2.ensures.value c.in_ok-of.ensures c.deref-3.ensures.value
    c.deref-4.ensures.value c.events.ensures in
    foreign d (claims c.args.certificate.now) table c.in-Some.place h
    (table_at d level c.args.list.now.edges.items table c.requires.list.edges c.requires.table)
    (counts_at d (claims c.args.certificate.now) table c.deref.result.now (c.deref.ensures.value
    ∙ c.requires.list.edges) (c.has_counts.ensures.0 y))
    (subst (IsFirstForeign d (λ n. level) table) c.in-Some.is f)

pub judge_events-requires-clause-listed : goal.judge_events-requires-clause-listed
judge_events-requires-clause-listed c =
    let d = plan c.args.drawing.now in
    let level = c.args.certificate.now.level in
    let table = table_of c.args.table.now in
    let y : IsTrue c.has_counts.result = search rules in
    let f = found_is d level c.args.list.now table c.args.list.now.edges.items c.deref-2.result.now
    c.in_ok-of.of.low.items c.in_ok-of.of.high.items c.deref-3.result.now c.deref-4.result.now
    c.events.result c.in_ok-place.field-0 c.requires.list c.in_ok-place.ensures
    refl c.requires.table c.deref-2.ensures.value c.in_ok-of.ensures c.deref-3.ensures.value
    c.deref-4.ensures.value c.events.ensures in
    record {
      few_edges = search rules;
      edges = c.requires.list;
      usable = c.requires.usable;
      is_table = table_at d level c.args.list.now.edges.items table c.requires.list.edges
          c.requires.table;
      counts = counts_at d (claims c.args.certificate.now) table c.deref.result.now
          (c.deref.ensures.value ∙ c.requires.list.edges) (c.has_counts.ensures.0 y);
      corners = subst (IsFirstForeign d (λ n. level) table) c.in-None.is f;
    }

pub judge_events-requires-clause-of : goal.judge_events-requires-clause-of
judge_events-requires-clause-of c =
    subst (λ (es : List Edge). AreEventsOf es
    (table_of c.args.table.now) c.in_ok-of.of.low.items c.in_ok-of.of.high.items)
    c.deref-2.ensures.value c.in_ok-of.ensures
