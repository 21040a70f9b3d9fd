use Rattle.std.proofs.Common.{◌≡◌, ◌++◌, drop}
use Rattle.std.specs.List.{flat_map}
use Rattle.itffaults.specs.FaultText.Report.{area_line}
use Rattle.itffaults.specs.FaultText.Text.{tellings}
use Rattle.itffaults.proofs.fault_text.report.add_area_lines.Given as goal

-- the lines so far are added, and those of the rest are left
abbrev pub invariant-loop-area : goal.invariant-loop-area
invariant-loop-area l =
    l.text ++ flat_map area_line (tellings (drop l.area-index l.areas))
    ≡ l.fn.text ++ flat_map area_line (tellings l.areas)
