use Rattle.std.proofs.Common.{rules, sym, ◌≡◌, ◌∙◌, ◌+◌, arith, length, true, List, Bool, ap}
use Rattle.std.proofs.lemmas.List.{length-set}
use Rattle.plane.specs.Rule.Plans.{plan}
use Rattle.fault_lists.specs.FaceLists.{side_number}
use Rattle.fault_lists.proofs.SideNumbers.{apart_told}
use Rattle.fault_lists.proofs.Ways.{never_onto, ring_closes, ring_goes_on, still_room}
use Rattle.fault_lists.proofs.rings.ring_from.Goals as goal

pub returns-then-eq : goal.returns-then-eq
returns-then-eq c =
    let d = plan c.args.drawing.now in
    let f = c.args.faces.now in
    let l = c.loop-sides in
    let (said, is, meets) = c.in-Some.ensures in
    ring_closes d f c.args.face c.args.from c.args.marks.now l.marks l.sides.items l.side
    l.invariant c.requires.size c.in-Some.next said meets c.mark.new.marks c.mark.ensures
    c.new.result (search rules) (search rules) c.requires.followed

pub returns-then-marks-side_number : goal.returns-then-marks-side_number
returns-then-marks-side_number c =
    let d = plan c.args.drawing.now in
    let f = c.args.faces.now in
    let l = c.loop-sides in
    let (said, is, meets) = c.in-Some.ensures in
    never_onto d f c.args.face c.args.from c.args.marks.now l.marks l.sides.items l.side
    l.invariant c.requires.size c.in-Some.next said meets c.mark.new.marks c.mark.ensures
    c.push.new.self.items (search rules) is
    (λ e. apart_told c.in-Some.next c.args.from e (sym c.eq.ensures ∙ c.if-eq.false))
    (search rules) c.requires.followed

pub loop-sides-smaller : goal.loop-sides-smaller
loop-sides-smaller c =
    let d = plan c.args.drawing.now in
    let f = c.args.faces.now in
    let l = c.loop-sides in
    let r = still_room d f c.args.face c.args.from c.args.marks.now l.marks l.sides.items l.side
    l.invariant c.requires.size in
    let m : length c.mark.new.marks ≡ length l.marks =
    ap (λ (bs : List Bool). length bs) c.mark.ensures
    ∙ length-set l.marks (side_number l.side) true in
    let p : length c.push.new.self.items ≡ length l.sides.items + 1 = search rules in
    omega (arith, m, p, r)

pub loop-sides-preserved : goal.loop-sides-preserved
loop-sides-preserved c =
    let d = plan c.args.drawing.now in
    let f = c.args.faces.now in
    let l = c.loop-sides in
    let (said, is, meets) = c.in-Some.ensures in
    ring_goes_on d f c.args.face c.args.from c.args.marks.now l.marks l.sides.items l.side
    l.invariant c.requires.size c.in-Some.next said meets c.mark.new.marks c.mark.ensures
    c.push.new.self.items (search rules) is (search rules)
