-- The exit status of the program.
use Rattle.std.specs.Prelude.{ℕ}
use Rattle.reports.specs.declared.status.Status.{Status}
use Rattle.reports.specs.declared.status.Status.TheVariants.{Accepted, Rejected, Undecided}
use Rattle.reports.specs.declared.status.Status.TheVariants.{ModelRefused, Usage, ReadFault}
use Rattle.reports.specs.declared.status.Status.TheVariants.{WriteFault, OverLimit, Memory}
use Rattle.reports.specs.declared.status.Status.TheVariants.{NotProved}

abbrev pub number : Status → ℕ
number Accepted = 0
number Rejected = 1
number Undecided = 2
number ModelRefused = 3
number Usage = 4
number ReadFault = 5
number WriteFault = 6
number OverLimit = 7
number Memory = 8
number NotProved = 9
