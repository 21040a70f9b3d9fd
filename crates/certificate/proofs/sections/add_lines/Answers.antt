use Rattle.std.proofs.Common.{◌≡◌, ◌<◌, length, Ok, sym, ◌∙◌, subst}
use Rattle.std.proofs.lemmas.Result.{err_from_is_err_and}
use Rattle.certificate.specs.Spelling.{pairs, view}
use Rattle.certificate.specs.Reading.{line_at, Fails}
use Rattle.certificate.specs.Views.{text_view}
use Rattle.certificate.specs.Parts.{end_at}
use Rattle.certificate.specs.Feeding.{body_on, with_edges, with_positions}
use Rattle.certificate.proofs.Loop.{same_line}
use Rattle.certificate.proofs.BodyLaws.{counts, events_lead, events_fail, edges_next, edges_next_fail}
use Rattle.certificate.proofs.BodyLaws.{to_points, points_next, points_next_fail, to_end, to_end_fail}
use Rattle.certificate.proofs.Resuming.{some_bytes}
use Rattle.certificate.proofs.sections.add_lines.Goals as goal

pub returns-in_err-events-clause-fails : goal.returns-in_err-events-clause-fails
returns-in_err-events-clause-fails c =
    let p = err_from_is_err_and c.from_residual.result c.from_residual.ensures.1 in
    rw (p.1, p.2)
    (events_fail c.in_err-events.field-0.0
    (view c.args.body.now.certificate) c.args.body.now.left
    (text_view c.args.text) c.in_err-events.ensures.fails)

pub returns-then-events-gt0-clause-unclosed : goal.returns-then-events-gt0-clause-unclosed
returns-then-events-gt0-clause-unclosed c =
    λ _. events_lead (view c.args.body.now.certificate) c.args.body.now.left
    c.add_positions.new.positions.items c.in_ok-events.events (text_view c.args.text)
    (text_view c.in_ok-events.text) c.in_ok-events.ensures.on

pub returns-in_err-edges-clause-fails : goal.returns-in_err-edges-clause-fails
returns-in_err-edges-clause-fails c =
    let p = err_from_is_err_and c.from_residual-in_err-edges.result
    c.from_residual-in_err-edges.ensures.1 in
    rw (p.1, p.2)
    (edges_next_fail c.in_err-edges.field-0.0
    (view c.args.body.now.certificate) c.args.body.now.left c.add_positions.new.positions.items
    c.in_ok-events.events (text_view c.args.text)
    (text_view c.in_ok-events.text) c.if-events-gt0.false c.in_ok-events.ensures.on
    c.in_err-edges.ensures.fails)

pub returns-then-edges-gt0-clause-unclosed : goal.returns-then-edges-gt0-clause-unclosed
returns-then-edges-gt0-clause-unclosed c =
    λ _. edges_next (view c.args.body.now.certificate) c.args.body.now.left
    c.add_positions.new.positions.items c.in_ok-events.events (text_view c.args.text)
    (text_view c.in_ok-events.text) c.if-events-gt0.false c.in_ok-events.ensures.on
    (pairs c.add_notes.new.notes.items) c.in_ok-edges.edges
    (text_view c.in_ok-edges.text) c.in_ok-edges.ensures.on

pub returns-in_err-points-clause-fails : goal.returns-in_err-points-clause-fails
returns-in_err-points-clause-fails c =
    let a = body_on (view c.args.body.now.certificate) c.args.body.now.left in
    let v = with_edges
    (with_positions (view c.args.body.now.certificate) c.add_positions.new.positions.items)
    (pairs c.add_notes.new.notes.items) in
    let l = counts c.in_ok-edges.edges c.in_ok-events.events c.args.body.now.left.points in
    let h = to_points (view c.args.body.now.certificate) c.args.body.now.left
    c.add_positions.new.positions.items c.in_ok-events.events (text_view c.args.text)
    (text_view c.in_ok-events.text) c.if-events-gt0.false c.in_ok-events.ensures.on
    (pairs c.add_notes.new.notes.items) c.in_ok-edges.edges
    (text_view c.in_ok-edges.text) c.if-edges-gt0.false c.in_ok-edges.ensures.on in
    let p = err_from_is_err_and c.from_residual-in_err-points.result
    c.from_residual-in_err-points.ensures.1 in
    rw (p.1, p.2)
    (points_next_fail c.in_err-points.field-0.0 a v l (text_view c.args.text)
    (text_view c.in_ok-edges.text) h c.in_err-points.ensures.fails)

pub returns-then-points-gt0-clause-unclosed : goal.returns-then-points-gt0-clause-unclosed
returns-then-points-gt0-clause-unclosed c = λ _.
    let a = body_on (view c.args.body.now.certificate) c.args.body.now.left in
    let v = with_edges
    (with_positions (view c.args.body.now.certificate) c.add_positions.new.positions.items)
    (pairs c.add_notes.new.notes.items) in
    let l = counts c.in_ok-edges.edges c.in_ok-events.events c.args.body.now.left.points in
    let h = to_points (view c.args.body.now.certificate) c.args.body.now.left
    c.add_positions.new.positions.items c.in_ok-events.events (text_view c.args.text)
    (text_view c.in_ok-events.text) c.if-events-gt0.false c.in_ok-events.ensures.on
    (pairs c.add_notes.new.notes.items) c.in_ok-edges.edges
    (text_view c.in_ok-edges.text) c.if-edges-gt0.false c.in_ok-edges.ensures.on in
    points_next a v l (text_view c.args.text) (text_view c.in_ok-edges.text)
    (text_view c.in_ok-points.text) h c.if-events-gt0.false c.if-edges-gt0.false
    c.add_places.new.places.items c.in_ok-points.points c.in_ok-points.ensures.on

pub returns-in_err-text-clause-fails : goal.returns-in_err-text-clause-fails
returns-in_err-text-clause-fails c =
    let a = body_on (view c.args.body.now.certificate) c.args.body.now.left in
    let v = with_edges
    (with_positions (view c.args.body.now.certificate) c.add_positions.new.positions.items)
    (pairs c.add_notes.new.notes.items) in
    let l = counts c.in_ok-edges.edges c.in_ok-events.events c.args.body.now.left.points in
    let h = to_points (view c.args.body.now.certificate) c.args.body.now.left
    c.add_positions.new.positions.items c.in_ok-events.events (text_view c.args.text)
    (text_view c.in_ok-events.text) c.if-events-gt0.false c.in_ok-events.ensures.on
    (pairs c.add_notes.new.notes.items) c.in_ok-edges.edges
    (text_view c.in_ok-edges.text) c.if-edges-gt0.false c.in_ok-edges.ensures.on in
    let e = c.in_err-text.field-0.0 in
    let some : 0 < length c.in_ok-points.text.rest.now = some_bytes c.in_ok-points.text.rest.now
    c.is_empty.result c.is_empty.ensures c.if-is_empty.false in
    let f : Fails e (line_at end_at (text_view c.in_ok-points.text)) = subst (λ l. Fails e l)
    (same_line end_at (text_view c.in_ok-points.text) c.end_at.result c.end_at.ensures.value)
    c.in_err-text.ensures.value in
    let p = err_from_is_err_and c.from_residual-in_err-text.result
    c.from_residual-in_err-text.ensures.1 in
    rw (p.1, p.2)
    (to_end_fail e a v l (text_view c.args.text) (text_view c.in_ok-edges.text)
    (text_view c.in_ok-points.text) h c.add_places.new.places.items c.in_ok-points.points
    c.in_ok-points.ensures.on c.if-points-gt0.false some f)

pub returns-clause-closed : goal.returns-clause-closed
returns-clause-closed c = λ _.
    let a = body_on (view c.args.body.now.certificate) c.args.body.now.left in
    let v = with_edges
    (with_positions (view c.args.body.now.certificate) c.add_positions.new.positions.items)
    (pairs c.add_notes.new.notes.items) in
    let l = counts c.in_ok-edges.edges c.in_ok-events.events c.args.body.now.left.points in
    let h = to_points (view c.args.body.now.certificate) c.args.body.now.left
    c.add_positions.new.positions.items c.in_ok-events.events (text_view c.args.text)
    (text_view c.in_ok-events.text) c.if-events-gt0.false c.in_ok-events.ensures.on
    (pairs c.add_notes.new.notes.items) c.in_ok-edges.edges
    (text_view c.in_ok-edges.text) c.if-edges-gt0.false c.in_ok-edges.ensures.on in
    let some : 0 < length c.in_ok-points.text.rest.now = some_bytes c.in_ok-points.text.rest.now
    c.is_empty.result c.is_empty.ensures c.if-is_empty.false in
    let u = text_view c.in_ok-text.text in
    let found : line_at end_at (text_view c.in_ok-points.text)
    ≡ Ok (tt, u) =
    sym (same_line end_at (text_view c.in_ok-points.text) c.end_at.result
    c.end_at.ensures.value) ∙ c.in_ok-text.ensures.value in
    to_end a v l (text_view c.args.text) (text_view c.in_ok-edges.text)
    (text_view c.in_ok-points.text) h c.add_places.new.places.items c.in_ok-points.points
    c.in_ok-points.ensures.on c.if-points-gt0.false some tt u found
