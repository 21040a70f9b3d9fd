use Rattle.std.proofs.Common.{◌≡◌, ◌<◌, ◌∙◌, List, Option, ℕ, length, ap, arith}
use Rattle.std.proofs.lemmas.List.{length-map}
use Rattle.std.specs.Borrow.{Bor}
use Rattle.ili_grammar.specs.declared.syntax.DomainSyntax as domain
use Rattle.ili_grammar.specs.Values.{domain_of}
use Rattle.resolver.specs.FaultViews.{fault_in}
use Rattle.resolver.specs.Scopes.{longest}
use Rattle.resolver.specs.Aliases.{step_in}
use Rattle.resolver.proofs.ScopeLemmas.Levels.{some_within, cycles_step, marked}
use Rattle.resolver.proofs.scope.domain_scope.DomainScope.check_cycles.Goals as goal

pub cyclic-requires-clause-steps : goal.cyclic-requires-clause-steps
cyclic-requires-clause-steps c =
    some_within c.args.self.now.steps.items c.deref.result.now c.deref.ensures.value
    c.args.self.now.within

pub cyclic-requires-clause-few : goal.cyclic-requires-clause-few
unfolding longest
cyclic-requires-clause-few c =
    let read : length c.deref.result.now
    ≡ length c.args.self.now.steps.items =
    ap (λ (l : List (Option ℕ)). length l) c.deref.ensures.value in
    let all = length-map c.args.self.now.domains.items
    (λ (d : Bor domain.DomainSyntax). domain_of d.now) in
    omega (arith, read, all, c.args.self.now.long, c.requires)

pub loop-place-preserved : goal.loop-place-preserved
loop-place-preserved c =
    let small : c.loop-place.place < length c.args.self.now.steps.items =
    omega (
      arith,
      c.loop-place-test.true,
      ap (λ (l : List (Bor domain.DomainSyntax)). length l) c.deref-domain-items.ensures.value,
      c.args.self.now.long,
    ) in
    cycles_step (step_in c.args.self.now.steps.items) c.loop-place.place
    c.args.self.now.domains.items c.deref-domain-items.result.now c.domain-item.result
    c.index.result.now
    (fault_in c.loop-place.earliest) (fault_in c.report.new.self) c.deref-domain-items.ensures.value
    c.loop-place-test.true c.domain-item.is
    (marked c.args.self.now.steps.items c.deref.result.now c.in_ok-marks.marks.items
    c.loop-place.place c.index.result.now c.deref.ensures.value c.in_ok-marks.ensures small
    c.index.ensures)
    c.report.ensures
    ∙ c.loop-place.invariant
