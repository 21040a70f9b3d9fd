use Rattle.std.proofs.Common.{◌^◌, length}
use Rattle.resolver.specs.Aliases.{step_in, IsJump}
use Rattle.resolver.proofs.scope.aliases.targets.Given as goal

abbrev pub invariant-loop : goal.invariant-loop
invariant-loop l = IsJump (step_in l.fn.steps) (2 ^ l.counter) (length l.fn.steps) l.jumps.items
