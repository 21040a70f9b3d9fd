use Rattle.std.proofs.Common.{ap, sym, ◌∙◌, subst}
use Rattle.near_pairs.specs.Columns.{IsColumn}
use Rattle.near_pairs.proofs.Columns.{marks_known, marks_of, marks_rise}
use Rattle.near_pairs.proofs.Near.{some_is_least, none_is_sought}
use Rattle.near_pairs.proofs.finding.least.Goals as goal

pub pass-requires-clause-rising : goal.pass-requires-clause-rising
pass-requires-clause-rising g c =
    marks_rise c.args.marked.now c.in_ok-items.items.items c.deref-2.result.now
    (c.deref-2.ensures.value ∙ c.keep_marked.ensures) c.in_ok-items.ensures.rising

pub pass-requires-clause-known : goal.pass-requires-clause-known
pass-requires-clause-known g c =
    marks_known c.args.marked.now _ c.in_ok-items.items.items c.deref-2.result.now
    (c.deref-2.ensures.value ∙ c.keep_marked.ensures) c.in_ok-items.ensures.known

pub returns-clause-some : goal.returns-clause-some
returns-clause-some g c =
    some_is_least (g.T.PairTest.sought c.args.test.now) c.args.boxes.now c.args.marked.now
    c.deref.result.now c.deref-2.result.now c.pass-best.result c.pass.result
    (subst (IsColumn c.args.boxes.now) (sym c.deref.ensures.value) c.in_ok-items.ensures)
    (c.deref-2.ensures.value ∙ c.keep_marked.ensures
    ∙ ap (marks_of c.args.marked.now) (sym c.deref.ensures.value)) c.pass-best.ensures.seen
    c.pass.ensures.kept c.pass.ensures.seen c.requires.near c.pass.ensures.found

pub returns-clause-none : goal.returns-clause-none
returns-clause-none g c =
    none_is_sought (g.T.PairTest.sought c.args.test.now) c.args.boxes.now c.args.marked.now
    c.deref.result.now c.deref-2.result.now c.pass-best.result c.pass.result
    (subst (IsColumn c.args.boxes.now) (sym c.deref.ensures.value) c.in_ok-items.ensures)
    (c.deref-2.ensures.value ∙ c.keep_marked.ensures
    ∙ ap (marks_of c.args.marked.now) (sym c.deref.ensures.value)) c.pass-best.ensures.seen
    c.pass.ensures.kept c.pass.ensures.seen c.requires.near
