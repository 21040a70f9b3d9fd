-- Lists of packed ends.
use Rattle.std.specs.Prelude.{List, map}
use Rattle.straight_predicates.specs.Packing.{end_of}
use Rattle.straight_predicates.specs.declared.end_list.EndList.{EndList}
use Rattle.straight_predicates.specs.declared.slots.End.{End}

-- The ends of a list, one for each number.
abbrev pub ends_in : EndList → List End
ends_in ends = map (end_of ends.origin) ends.packed.items
