use Rattle.std.proofs.Common.{rules, sym, subst, ◌∙◌, ◌≡◌, None}
use Rattle.plane.specs.Rule.Plans.{plan}
use Rattle.fault_lists.specs.Tracing.{Follows}
use Rattle.fault_lists.proofs.LeastSides.{one_face_beside}
use Rattle.fault_lists.proofs.Ways.{goes_on, none_missing}
use Rattle.fault_lists.proofs.rings.next_of.Goals as goal

pub returns-in_err-next : goal.returns-in_err-next
returns-in_err-next c =
    let d = plan c.args.drawing.now in
    let f = c.args.faces.now in
    let n = c.args.face in
    let s = c.args.side in
    let none : c.from_residual.result ≡ None = search rules in
    subst (λ o. Follows d f n s o) (sym none)
    (none_missing d f n s c.requires.side c.in_err-next.ensures)

pub returns-in_err-of_next : goal.returns-in_err-of_next
returns-in_err-of_next c =
    let d = plan c.args.drawing.now in
    let f = c.args.faces.now in
    let n = c.args.face in
    let s = c.args.side in
    let next = c.in_ok-next.next in
    let none : c.from_residual-in_err-of_next.result ≡ None = search rules in
    subst (λ o. Follows d f n s o) (sym none) (λ go.
    let (is, meets) = goes_on d f n s next go c.requires.side c.in_ok-next.ensures in
    c.in_err-of_next.ensures n is)

pub returns-then-of_next-face : goal.returns-then-of_next-face
returns-then-of_next-face c = λ go.
    let d = plan c.args.drawing.now in
    let f = c.args.faces.now in
    let n = c.args.face in
    let s = c.args.side in
    let next = c.in_ok-next.next in
    let (is, meets) = goes_on d f n s next go c.requires.side c.in_ok-next.ensures in
    let of_next = c.in_ok-of_next.of_next in
    c.if-of_next-face.true (one_face_beside f of_next n next c.in_ok-of_next.ensures.1 is)

pub returns-else-eq : goal.returns-else-eq
returns-else-eq c = λ go.
    let d = plan c.args.drawing.now in
    let f = c.args.faces.now in
    let n = c.args.face in
    let s = c.args.side in
    let next = c.in_ok-next.next in
    let (is, meets) = goes_on d f n s next go c.requires.side c.in_ok-next.ensures in
    let same : c.end_of.result ≡ c.start_of.result =
    c.end_of.ensures ∙ meets ∙ sym c.start_of.ensures in
    search rules
