use Rattle.std.proofs.Common.{◌≡◌, ◌<◌, List, ℕ, length, ap, arith}
use Rattle.ili_grammar.specs.Values.{type_of}
use Rattle.resolver.proofs.ScopeLemmas.Levels.{level_place, last_is}
use Rattle.resolver.proofs.scope.domain_scope.DomainScope.target.Goals as goal

pub target_type-requires-clause-place : goal.target_type-requires-clause-place
target_type-requires-clause-place c =
    let below : c.in_ok-place.place < length c.args.self.now.steps.items = level_place
    c.args.self.now c.args.name.now c.in_ok-place.place c.in_ok-place.ensures in
    let long : length c.deref-3.result.now
    ≡ length c.args.self.now.targets.items =
    ap (λ (l : List ℕ). length l) c.deref-3.ensures.value in
    omega (arith, below, long, c.args.self.now.landed.long)

pub returns : goal.returns
returns c =
    last_is c.args.self.now c.args.name.now c.in_ok-place.place c.deref.result.now
    c.deref-3.result.now (type_of c.target_type.result.kind.now)
    c.deref.ensures.value c.deref-3.ensures.value c.in_ok-place.ensures c.target_type.ensures
