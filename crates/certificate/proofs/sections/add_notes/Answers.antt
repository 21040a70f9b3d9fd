use Rattle.std.proofs.Common.{◌≡◌, ◌<◌, length, Ok, sym, ap, ◌∙◌, subst, List, [], ◌∷◌, ◌++◌}
use Rattle.std.proofs.lemmas.Result.{err_from_is_err_and}
use Rattle.certificate.specs.declared.notes.HalfNote.{HalfNote}
use Rattle.certificate.specs.Spelling.{pairs}
use Rattle.certificate.specs.Reading.{line_at, Fails}
use Rattle.certificate.specs.Views.{text_view}
use Rattle.certificate.specs.Parts.{edge_at}
use Rattle.certificate.proofs.Loop.{same_line}
use Rattle.certificate.proofs.Local.{edge_local}
use Rattle.certificate.proofs.Pairs.{pairs_more, paired_more}
use Rattle.certificate.proofs.Resuming.{more_first, more_next, more_fails, more_ends, some_bytes}
use Rattle.certificate.proofs.Resuming.{left_on, left_same}
use Rattle.certificate.proofs.sections.add_notes.Goals as goal

pub loop-i-init : goal.loop-i-init
loop-i-init c = record {
  paired = c.requires;
  on = more_first (line_at edge_at) (pairs c.args.notes.now.items) c.args.count
      (text_view c.args.text);
  left = left_same (text_view c.args.text);
}

pub returns-then-is_empty-clause-on : goal.returns-then-is_empty-clause-on
returns-then-is_empty-clause-on c = c.loop-i.invariant.on

pub returns-then-is_empty-clause-left : goal.returns-then-is_empty-clause-left
returns-then-is_empty-clause-left c = c.loop-i.invariant.left

pub returns-in_err-below-clause-fails : goal.returns-in_err-below-clause-fails
returns-in_err-below-clause-fails c =
    let p = err_from_is_err_and c.from_residual.result c.from_residual.ensures.1 in
    let e = c.in_err-below.field-0.0 in
    let some : 0 < length c.loop-i.left.rest.now = some_bytes c.loop-i.left.rest.now
    c.is_empty.result c.is_empty.ensures c.if-is_empty.false in
    let h : Fails e (line_at edge_at (text_view c.loop-i.left)) = subst (λ l. Fails e l)
    (same_line edge_at (text_view c.loop-i.left) c.edge_at.result c.edge_at.ensures.value)
    c.in_err-below.ensures.value in
    rw (p.1, p.2)
    (more_fails edge_at edge_local (pairs c.args.notes.now.items)
    (pairs c.loop-i.notes.items) c.args.count c.loop-i.i (text_view c.args.text)
    (text_view c.loop-i.left) e c.loop-i-test.true some h c.loop-i.invariant.on)

pub loop-i-preserved : goal.loop-i-preserved
loop-i-preserved c =
    let below = c.in_ok-below.below in
    let above = c.in_ok-below.above in
    let u = text_view c.in_ok-below.after in
    let some : 0 < length c.loop-i.left.rest.now = some_bytes c.loop-i.left.rest.now
    c.is_empty.result c.is_empty.ensures c.if-is_empty.false in
    let found : line_at edge_at (text_view c.loop-i.left)
    ≡ Ok ((below, above), u) =
    sym (same_line edge_at (text_view c.loop-i.left) c.edge_at.result c.edge_at.ensures.value)
    ∙ c.in_ok-below.ensures.value in
    let items : c.push-in-loop-i.new.self.items
    ≡ (c.loop-i.notes.items ++ (below ∷ [])) ++ (above ∷ []) =
    c.in_ok-push-2.ensures.items
    ∙ ap (λ (ns : List HalfNote). ns ++ (above ∷ [])) c.in_ok-push.ensures.items in
    record {
      paired = rw items (paired_more c.loop-i.notes.items below above c.loop-i.invariant.paired);
      on = rw (items, pairs_more c.loop-i.notes.items below above c.loop-i.invariant.paired)
          (more_next edge_at edge_local (pairs c.args.notes.now.items)
          (pairs c.loop-i.notes.items) c.args.count c.loop-i.i (text_view c.args.text)
          (text_view c.loop-i.left) u (below, above) c.loop-i-test.true some found
          c.loop-i.invariant.on);
      left = left_on (text_view c.args.text)
          (text_view c.loop-i.left) u c.loop-i.invariant.left c.in_ok-below.ensures.left;
    }

pub returns-clause-on : goal.returns-clause-on
returns-clause-on c =
    more_ends (line_at edge_at) (pairs c.args.notes.now.items)
    (pairs c.loop-i.notes.items) c.args.count c.loop-i.i (text_view c.args.text)
    (text_view c.loop-i.left) c.loop-i-test.false c.loop-i.invariant.on

pub returns-clause-left : goal.returns-clause-left
returns-clause-left c = c.loop-i.invariant.left
