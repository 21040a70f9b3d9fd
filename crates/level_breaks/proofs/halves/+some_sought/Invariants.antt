use Rattle.std.proofs.Common.{◌+◌, ◌-◌}
use Rattle.level_breaks.proofs.halves.+some_sought.Given as goal

abbrev pub decreases-some_sought : goal.decreases-some_sought
decreases-some_sought g l =
    (l.first.now.to - l.first.now.from) + (l.second.now.to - l.second.now.from)
