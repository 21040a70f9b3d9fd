use Rattle.std.proofs.Common.{◌≡◌, ◌++◌, drop}
use Rattle.std.specs.List.{flat_map}
use Rattle.plane.specs.Rule.Plans.{plan}
use Rattle.itffaults.specs.FaultText.Text.{ring_text}
use Rattle.itffaults.proofs.fault_text.rings.add_rings.Given as goal

-- the lines so far are added, and those of the rest are left
abbrev pub invariant-loop-ring : goal.invariant-loop-ring
invariant-loop-ring l =
    l.text ++ flat_map (ring_text l.scale (plan l.drawing)) (drop l.ring-index l.rings)
    ≡ l.fn.text ++ flat_map (ring_text l.scale (plan l.drawing)) l.rings
