use Rattle.std.proofs.Common.{◌≡◌, length, arith}
use Rattle.resolver.specs.Aliases.{step_in}
use Rattle.resolver.proofs.ListLemmas.Reaching.{jump_next, jump_last}
use Rattle.resolver.proofs.scope.aliases.targets.Goals as goal

pub loop-preserved : goal.loop-preserved
loop-preserved c =
    jump_next (step_in c.args.steps.now) c.loop.counter
    (length c.args.steps.now) c.loop.jumps.items c.deref.result.now c.in_ok-jumps-2.jumps.items
    c.deref.ensures.value c.loop.invariant c.in_ok-jumps-2.ensures.long
    c.in_ok-jumps-2.ensures.lands

pub returns : goal.returns
returns c =
    let all : c.loop.counter ≡ 22 = omega arith in
    jump_last (step_in c.args.steps.now) c.loop.counter
    (length c.args.steps.now) c.loop.jumps.items all c.loop.invariant
