use Rattle.std.proofs.Common.{rules, sym, ◌∙◌, arith}
use Rattle.fault_lists.specs.FaceLists.{ArePair}
use Rattle.fault_lists.proofs.Points.{one_pair}
use Rattle.fault_lists.proofs.Walks.{none_yet, one_more, no_more, all_below}
use Rattle.fault_lists.proofs.telling.points_shared.Goals.{in-Some+in_ok-push, in_default}
use Rattle.fault_lists.proofs.telling.points_shared.Goals as goal

pub loop-number-init : goal.loop-number-init
loop-number-init c =
    none_yet (ArePair c.args.faces.now)
    (λ p. p.second) c.new-pairs.result.items c.new-pairs.ensures.items

pub loop-number-preserved : goal.loop-number-preserved
loop-number-preserved c = elim c.match-pair_of.branch [
  | in-Some+in_ok-push w ↦
      one_more (ArePair c.args.faces.now)
      (λ p. p.second) c.loop-number.number c.loop-number.pairs.items _ w.in-Some.pair
      c.loop-number.invariant (search rules) w.in-Some.ensures.0 w.in-Some.ensures.1
      (λ y is e. one_pair c.args.faces.now y w.in-Some.pair is w.in-Some.ensures.0 (e
      ∙ sym w.in-Some.ensures.1))
  | in_default w ↦ no_more (ArePair c.args.faces.now)
      (λ p. p.second) c.loop-number.number c.loop-number.pairs.items _ c.loop-number.invariant
      (search rules) w.in_default.ensures
]

pub returns : goal.returns
returns c = all_below (ArePair c.args.faces.now)
    (λ p. p.second) c.loop-number.number c.loop-number.pairs.items c.loop-number.invariant
    (λ y is. let l = is.second.there in omega (arith, l, c.loop-number-test.false))
