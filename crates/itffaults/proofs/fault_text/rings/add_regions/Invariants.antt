use Rattle.std.proofs.Common.{◌≡◌, ◌++◌, drop}
use Rattle.std.specs.List.{flat_map}
use Rattle.plane.specs.Rule.Plans.{plan}
use Rattle.itffaults.specs.FaultText.Text.{region_text}
use Rattle.itffaults.proofs.fault_text.rings.add_regions.Given as goal

-- the lines so far are added, and those of the rest are left
abbrev pub invariant-loop-region : goal.invariant-loop-region
invariant-loop-region l =
    l.text ++ flat_map (region_text l.words l.scale (plan l.drawing))
    (drop l.region-index l.regions)
    ≡ l.fn.text ++ flat_map (region_text l.words l.scale (plan l.drawing)) l.regions
