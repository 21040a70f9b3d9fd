use Rattle.std.proofs.Common.{◌≡◌, ◌++◌}
use Rattle.file_pages.specs.Held.{times}
use Rattle.file_pages.proofs.held.HeldText.add_each.Given as goal

abbrev pub invariant-loop : goal.invariant-loop
invariant-loop l = l.self ≡ l.fn.self ++ times l.counter l.line
