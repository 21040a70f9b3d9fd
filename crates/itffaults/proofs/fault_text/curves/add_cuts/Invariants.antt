use Rattle.std.proofs.Common.{◌≡◌, ◌++◌, drop}
use Rattle.std.specs.List.{flat_map}
use Rattle.plane.specs.Rule.Plans.{plan}
use Rattle.itffaults.specs.FaultText.Text.{cut_line}
use Rattle.itffaults.proofs.fault_text.curves.add_cuts.Given as goal

-- the lines so far are added, and those of the rest are left
abbrev pub invariant-loop-number : goal.invariant-loop-number
invariant-loop-number l =
    l.text ++ flat_map (cut_line l.scale (plan l.drawing)) (drop l.number-index l.cuts)
    ≡ l.fn.text ++ flat_map (cut_line l.scale (plan l.drawing)) l.cuts
