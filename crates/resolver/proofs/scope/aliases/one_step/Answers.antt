use Rattle.std.proofs.Common.{◌≡◌, length, arith}
use Rattle.resolver.proofs.ListLemmas.Reaching.{jump_one}
use Rattle.resolver.proofs.scope.aliases.one_step.Goals as goal

pub returns : goal.returns
returns c =
    let end : c.loop-place.place ≡ length c.args.steps.now = omega arith in
    jump_one c.args.steps.now c.loop-place.jumps.items c.loop-place.place end c.requires
    c.loop-place.invariant.0 c.loop-place.invariant.1
