use Rattle.std.proofs.Common.{◌∙◌}
use Rattle.resolver.specs.Scopes.{texts}
use Rattle.resolver.specs.NameIndexes.{names_if}
use Rattle.resolver.specs.FaultViews.{fault_in}
use Rattle.resolver.proofs.ListLemmas.Repeats.{twice_over}
use Rattle.resolver.proofs.scope.name_index.NameIndex.check_unique.Goals as goal

pub loop-place-preserved : goal.loop-place-preserved
loop-place-preserved c =
    twice_over (texts (names_if c.args.above)) c.loop-place.place c.deref-name-items.result.now
    c.args.self.now.names.items c.name-item.result
    (fault_in c.loop-place.earliest) (fault_in c.report.new.self) c.stands_before-again.result
    c.bytes.result.now c.deref-name-items.ensures.value c.loop-place-test.true c.name-item.is
    c.bytes.ensures c.stands_before-again.ensures c.report.ensures
    ∙ c.loop-place.invariant
