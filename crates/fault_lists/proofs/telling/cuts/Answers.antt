use Rattle.std.proofs.Common.{rules, sym, ◌∙◌, arith}
use Rattle.std.proofs.lemmas.Bool.{false≢true}
use Rattle.fault_lists.specs.FaceLists.{HasOneFace}
use Rattle.fault_lists.proofs.Walks.{none_yet, number_told, number_passed, all_below}
use Rattle.fault_lists.proofs.telling.cuts.Goals.{then-is_cut+in_ok-push, else-is_cut}
use Rattle.fault_lists.proofs.telling.cuts.Goals as goal

pub loop-number-init : goal.loop-number-init
loop-number-init c =
    none_yet (HasOneFace c.args.faces.now)
    (λ j. j) c.new-curves.result.items c.new-curves.ensures.items

pub loop-number-preserved : goal.loop-number-preserved
loop-number-preserved c = elim c.if-is_cut.branch [
  | then-is_cut+in_ok-push w ↦ number_told
      (HasOneFace c.args.faces.now) c.loop-number.number c.loop-number.curves.items _
      c.loop-number.invariant (search rules) (c.is_cut.ensures.0 w.if-is_cut.true)
  | else-is_cut w ↦ number_passed (HasOneFace c.args.faces.now) c.loop-number.number
      c.loop-number.curves.items _ c.loop-number.invariant (search rules)
      (λ is. false≢true (sym w.if-is_cut.false ∙ c.is_cut.ensures.1 is))
]

pub returns : goal.returns
returns c = all_below (HasOneFace c.args.faces.now)
    (λ j. j) c.loop-number.number c.loop-number.curves.items c.loop-number.invariant
    (λ y is. let l = is.there in omega (arith, l, c.loop-number-test.false))
