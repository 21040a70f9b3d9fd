-- What is at fault in a model, and which fault counts.
use Rattle.std.specs.Prelude.{◌≡◌, ℕ, Bool, cond, ◌&&◌, ◌||◌, ◌==◌, nat_lt, List, [], ◌∷◌, Option}
use Rattle.std.specs.Prelude.{Some, None, ⊤}
use Rattle.ili_grammar.specs.Syntax.{Ident}
use Rattle.ili_grammar.specs.Values.{ident_of}
use Rattle.resolver.specs.declared.faults.ModelCode.{ModelCode}
use Rattle.resolver.specs.declared.faults.ModelCode.TheVariants.{Unknown, Twice, NotTable, Cycle}
use Rattle.resolver.specs.declared.faults.ModelCode.TheVariants.{Bounds, Decimals, Wide, NotCoord}
use Rattle.resolver.specs.declared.faults.ModelCode.TheVariants.{LineAttr, IdentUnknown}
use Rattle.resolver.specs.declared.faults.ModelFault.{ModelFault}
use Rattle.resolver.specs.declared.faults.ModelFault.TheVariants.{At, Memory}

-- a rule that is broken, and the name at which it is
pub record Fault : Type 0 where
  pub code : ModelCode
  pub name : Ident

-- of two rules at one name the one with the lower rank counts
abbrev pub rank : ModelCode → ℕ
rank Unknown = 0
rank NotTable = 1
rank Twice = 2
rank Cycle = 3
rank Bounds = 4
rank Decimals = 5
rank NotCoord = 6
rank Wide = 7
rank LineAttr = 8
rank IdentUnknown = 9

-- the first number counts, where it is equal the second
abbrev pub is_less : ℕ → ℕ → Bool → Bool
is_less m n then_ = nat_lt m n || (m == n && then_)

-- a fault counts before another where its line is less, on one line its column, at one name its
-- rank
abbrev pub is_before : Fault → Fault → Bool
is_before f g =
    is_less f.name.line g.name.line
    (is_less f.name.column g.name.column (nat_lt (rank f.code) (rank g.code)))

-- the one of two faults that counts, the older one if neither is before the other
abbrev pub earlier : Option Fault → Fault → Option Fault
earlier None f = Some f
earlier (Some best) f = Some (cond (is_before f best) f best)

-- the fault that counts among the one so far and these
abbrev pub first_from : Option Fault → List Fault → Option Fault
first_from best [] = best
first_from best (f ∷ fs) = first_from (earlier best f) fs

-- a fault, if the rule is broken
abbrev pub fault_if : Bool → ModelCode → Ident → List Fault
fault_if broken code name = cond broken (record { code = code; name = name } ∷ []) []

-- the answer names the fault that counts, if it names one; out of memory says nothing
abbrev pub NamesFault : ModelFault → Option Fault → Type 0
NamesFault (At code name) first = first ≡ Some (record { code = code; name = ident_of name })
NamesFault Memory first = ⊤
