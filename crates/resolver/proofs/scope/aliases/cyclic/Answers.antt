use Rattle.std.proofs.Common.{◌<◌, ℕ, List, length, get_or, ap, sym, ◌∙◌, arith, ◌&&◌, ◌==◌}
use Rattle.std.proofs.Common.{length-set}
use Rattle.std.proofs.lemmas.List.{take_all}
use Rattle.std.proofs.lemmas.Option.{unwrap_or-slice_get}
use Rattle.std.specs.List.{list_any}
use Rattle.std.proofs.Common.{None}
use Rattle.std.specs.Option.{is_some}
use Rattle.resolver.specs.Aliases.{step_in}
use Rattle.resolver.proofs.ScopeLemmas.Circles.{mark_step, ends_are_rounds}
use Rattle.resolver.proofs.scope.aliases.cyclic.Goals as goal

pub loop-target-preserved : goal.loop-target-preserved
loop-target-preserved c =
    let end : ℕ = get_or c.args.targets.now c.loop-target.target-index 0 in
    let small : c.loop-target.target-index < length c.args.steps.now = omega
    (arith, c.loop-target-test.true, c.requires.targets.long) in
    record {
      long = length-set c.loop-target.marks.items end c.is_some.result
          ∙ c.loop-target.invariant.long;
      marked = mark_step c.args.steps.now c.loop-target.marks.items c.args.targets.now
          c.loop-target.target-index c.is_some.result c.loop-target.invariant.long
          c.loop-target-test.true
          (c.requires.targets.within c.loop-target.target-index small) (c.is_some.ensures
          ∙ ap is_some (sym (unwrap_or-slice_get c.args.steps.now end None)))
          c.loop-target.invariant.marked;
    }

pub returns : goal.returns
returns c = record {
  long = c.loop-target.invariant.long;
  found = λ i lt.
      c.loop-target.invariant.marked i lt
      ∙ ap (λ (l : List ℕ). list_any (λ e. e == i) l && is_some (step_in c.args.steps.now i))
      (take_all c.loop-target.target-index c.args.targets.now (omega arith))
      ∙ ends_are_rounds c.args.steps.now c.args.targets.now i c.requires.steps c.requires.targets
      c.requires.few lt;
}
