-- The faults that the code keeps, without where their names lie in memory.
use Rattle.std.specs.Prelude.{◌≡◌, ℕ, List, ◌++◌, Option}
use Rattle.std.specs.Option.{option_map}
use Rattle.ili_grammar.specs.Values.{ident_of}
use Rattle.resolver.specs.declared.earliest.FaultAt.{FaultAt}
use Rattle.resolver.specs.declared.earliest.Earliest.{Earliest}
use Rattle.resolver.specs.Faults.{Fault, first_from}
use Rattle.resolver.specs.Rules.{Entry, twice}

abbrev pub fault_of : FaultAt → Fault
fault_of t = record { code = t.code; name = ident_of t.name.now }

abbrev pub fault_in : Earliest → Option Fault
fault_in e = option_map fault_of e.best

-- faults are reported: the one is kept that counts among them and the one before
abbrev pub Reports : Earliest → Earliest → List Fault → Type 0
Reports before after fs = fault_in after ≡ first_from (fault_in before) fs

-- of all faults these are not reported yet
abbrev pub Leaves : Earliest → Earliest → List Fault → List Fault → Type 0
Leaves before now all rest = first_from (fault_in now) rest ≡ first_from (fault_in before) all

-- names are declared after others: each that is known is reported, and all of them are known to
-- the names that come after them
abbrev pub Declares : Earliest → Earliest → List (List ℕ) → List (List ℕ) → List Entry → Type 0
Declares before after known more names =
    (rest : List Entry)
    → first_from (fault_in after) (twice more rest)
    ≡ first_from (fault_in before) (twice known (names ++ rest))
