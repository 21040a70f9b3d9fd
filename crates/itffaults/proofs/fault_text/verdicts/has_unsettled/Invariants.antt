use Rattle.std.proofs.Common.{◌≡◌, drop}
use Rattle.itffaults.specs.FaultText.Report.{has_unsettled}
use Rattle.itffaults.specs.FaultText.Text.{tellings}
use Rattle.itffaults.proofs.fault_text.verdicts.has_unsettled.Given as goal

-- the areas so far are of other kinds
abbrev pub invariant-loop-area : goal.invariant-loop-area
invariant-loop-area l =
    has_unsettled (tellings (drop l.area-index l.areas)) ≡ has_unsettled (tellings l.areas)
