use Rattle.std.proofs.Common.{rules, sym, ◌∙◌, arith}
use Rattle.std.proofs.lemmas.Bool.{false≢true}
use Rattle.fault_lists.specs.FaceLists.{IsUnjudged}
use Rattle.fault_lists.proofs.Walks.{none_yet, number_told, number_passed, all_below}
use Rattle.fault_lists.proofs.telling.points_unjudged.Goals.{then-is_unjudged+in_ok-push}
use Rattle.fault_lists.proofs.telling.points_unjudged.Goals.{else-is_unjudged}
use Rattle.fault_lists.proofs.telling.points_unjudged.Goals as goal

pub loop-number-init : goal.loop-number-init
loop-number-init c =
    none_yet (IsUnjudged c.args.faces.now)
    (λ j. j) c.new-points.result.items c.new-points.ensures.items

pub loop-number-preserved : goal.loop-number-preserved
loop-number-preserved c = elim c.if-is_unjudged.branch [
  | then-is_unjudged+in_ok-push w ↦ number_told
      (IsUnjudged c.args.faces.now) c.loop-number.number c.loop-number.points.items _
      c.loop-number.invariant (search rules) (c.is_unjudged.ensures.0 w.if-is_unjudged.true)
  | else-is_unjudged w ↦ number_passed
      (IsUnjudged c.args.faces.now) c.loop-number.number c.loop-number.points.items _
      c.loop-number.invariant (search rules)
      (λ is. false≢true (sym w.if-is_unjudged.false ∙ c.is_unjudged.ensures.1 is))
]

pub returns : goal.returns
returns c = all_below (IsUnjudged c.args.faces.now)
    (λ j. j) c.loop-number.number c.loop-number.points.items c.loop-number.invariant
    (λ y is. let l = is.in_face.there in omega (arith, l, c.loop-number-test.false))
