use Rattle.std.proofs.Common.{◌≡◌, ◌++◌, take}
use Rattle.std.specs.List.{flat_map}
use Rattle.itf_reader.specs.Findings.{findings_of}
use Rattle.ident_refs.specs.SharedLists.{found_view, picked_one}
use Rattle.ident_refs.proofs.shared_lists.add_shared.Given as goal

abbrev pub invariant-loop-number : goal.invariant-loop-number
invariant-loop-number l =
    findings_of l.findings.items ≡ findings_of l.fn.findings.items
    ++ flat_map (λ j. flat_map found_view (picked_one l.found.items j))
    (take l.number-index l.order)
