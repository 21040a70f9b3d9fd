use Rattle.std.proofs.Common.{◌≡◌, [], replicate}
use Rattle.certificate_checker.proofs.live_list.empty_blocks.Given as goal

abbrev pub invariant-loop : goal.invariant-loop
invariant-loop l = l.blocks.items ≡ replicate l.counter []
