use Rattle.std.proofs.Common.{◌≡◌, ◌<◌, length, Ok, sym, ◌∙◌, subst}
use Rattle.std.proofs.lemmas.Result.{err_from_is_err_and}
use Rattle.certificate.specs.Reading.{line_at, Fails}
use Rattle.certificate.specs.Views.{text_view}
use Rattle.certificate.specs.Parts.{place_at}
use Rattle.certificate.proofs.Loop.{same_line}
use Rattle.certificate.proofs.Local.{place_local}
use Rattle.certificate.proofs.Resuming.{more_first, more_next, more_fails, more_ends, some_bytes}
use Rattle.certificate.proofs.Resuming.{left_on, left_same}
use Rattle.certificate.proofs.sections.add_places.Goals as goal

pub loop-i-init : goal.loop-i-init
loop-i-init c = record {
  on = more_first (line_at place_at) c.args.places.now.items c.args.count (text_view c.args.text);
  left = left_same (text_view c.args.text);
}

pub returns-then-is_empty-clause-on : goal.returns-then-is_empty-clause-on
returns-then-is_empty-clause-on c = c.loop-i.invariant.on

pub returns-then-is_empty-clause-left : goal.returns-then-is_empty-clause-left
returns-then-is_empty-clause-left c = c.loop-i.invariant.left

pub returns-in_err-place-clause-fails : goal.returns-in_err-place-clause-fails
returns-in_err-place-clause-fails c =
    let p = err_from_is_err_and c.from_residual.result c.from_residual.ensures.1 in
    let e = c.in_err-place.field-0.0 in
    let some : 0 < length c.loop-i.left.rest.now = some_bytes c.loop-i.left.rest.now
    c.is_empty.result c.is_empty.ensures c.if-is_empty.false in
    let h : Fails e (line_at place_at (text_view c.loop-i.left)) = subst (λ l. Fails e l)
    (same_line place_at (text_view c.loop-i.left) c.place_at.result c.place_at.ensures.value)
    c.in_err-place.ensures.value in
    rw (p.1, p.2)
    (more_fails place_at place_local c.args.places.now.items c.loop-i.places.items c.args.count
    c.loop-i.i (text_view c.args.text)
    (text_view c.loop-i.left) e c.loop-i-test.true some h c.loop-i.invariant.on)

pub loop-i-preserved : goal.loop-i-preserved
loop-i-preserved c =
    let x = c.in_ok-place.place in
    let u = text_view c.in_ok-place.after in
    let some : 0 < length c.loop-i.left.rest.now = some_bytes c.loop-i.left.rest.now
    c.is_empty.result c.is_empty.ensures c.if-is_empty.false in
    let found : line_at place_at (text_view c.loop-i.left)
    ≡ Ok (x, u) =
    sym (same_line place_at (text_view c.loop-i.left) c.place_at.result
    c.place_at.ensures.value) ∙ c.in_ok-place.ensures.value in
    record {
      on = rw c.in_ok-push.ensures.items
          (more_next place_at place_local c.args.places.now.items c.loop-i.places.items c.args.count
          c.loop-i.i (text_view c.args.text)
          (text_view c.loop-i.left) u x c.loop-i-test.true some found c.loop-i.invariant.on);
      left = left_on (text_view c.args.text)
          (text_view c.loop-i.left) u c.loop-i.invariant.left c.in_ok-place.ensures.left;
    }

pub returns-clause-on : goal.returns-clause-on
returns-clause-on c =
    more_ends (line_at place_at) c.args.places.now.items c.loop-i.places.items c.args.count
    c.loop-i.i (text_view c.args.text)
    (text_view c.loop-i.left) c.loop-i-test.false c.loop-i.invariant.on

pub returns-clause-left : goal.returns-clause-left
returns-clause-left c = c.loop-i.invariant.left
