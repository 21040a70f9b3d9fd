use Rattle.std.proofs.Common.{rules, None, sym, ◌∙◌, arith}
use Rattle.std.proofs.lemmas.List.{get_or_default}
use Rattle.fault_lists.proofs.LeastSides.{no_side_told, curve_told, curve_passed, all_sides_told}
use Rattle.fault_lists.proofs.sides.least_sides.Goals.{in-Some+in_ok-add_side+in_ok-add_side-2}
use Rattle.fault_lists.proofs.sides.least_sides.Goals.{in_default}
use Rattle.fault_lists.proofs.sides.least_sides.Goals as goal

pub loop-number-init : goal.loop-number-init
loop-number-init c =
    rw c.new-sides.ensures.items (no_side_told c.args.faces.now c.args.marks.now c.requires.size)

pub loop-number-preserved : goal.loop-number-preserved
loop-number-preserved c =
    let f = c.args.faces.now in
    let n = c.loop-number.number in
    let e = c.index.ensures
    ∙ get_or_default f.curves.items n c.index.result.now None (omega arith) in
    elim c.match-index.branch [
      | in-Some+in_ok-add_side+in_ok-add_side-2 w ↦
          curve_told f c.args.marks.now n w.in-Some.beside c.loop-number.sides.items
          w.add_side.new.sides.items _ c.loop-number.marks w.add_side.new.marks _
          c.requires.numbered (omega arith) (sym e ∙ w.in-Some.is)
          c.loop-number.invariant (search rules) (search rules) (search rules) (search rules)
      | in_default w ↦ rw (w.sides-is, w.marks-is)
          (curve_passed f c.args.marks.now n c.loop-number.sides.items c.loop-number.marks
          c.loop-number.invariant (sym e ∙ w.in_default.is))
    ]

pub returns : goal.returns
returns c = all_sides_told c.args.faces.now c.args.marks.now c.loop-number.number
    c.loop-number.sides.items c.loop-number.marks
    (omega (arith, c.loop-number-test.false)) c.loop-number.invariant
