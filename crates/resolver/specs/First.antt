-- The fault that counts, by the order and the rules alone.
use Rattle.std.specs.Prelude.{◌≡◌, ◌⊎◌, ◌<◌, List, Contains, ⊤}
use Rattle.ili_grammar.specs.Syntax.{Ident, ModelSyntax}
use Rattle.ili_grammar.specs.Values.{ident_of}
use Rattle.resolver.specs.declared.faults.ModelCode.{ModelCode}
use Rattle.resolver.specs.declared.faults.ModelFault.{ModelFault}
use Rattle.resolver.specs.declared.faults.ModelFault.TheVariants.{At, Memory}
use Rattle.resolver.specs.Faults.{Fault, rank}
use Rattle.resolver.specs.Rules.{faults}
use Rattle.resolver.specs.Breaking.{Breaks}

-- in an earlier line, in one line in an earlier column, at one place by a lower rank
abbrev pub ComesBefore : Fault → Fault → Type 0
ComesBefore f g =
    (f.name.line < g.name.line)
    ⊎ ((f.name.line ≡ g.name.line)
    × ((f.name.column < g.name.column)
    ⊎ ((f.name.column ≡ g.name.column) × (rank f.code < rank g.code))))

-- one of some faults, before which none of them comes
pub record IsLeast (fs : List Fault) (f : Fault) : Type 0 where
  pub listed : Contains fs f
  pub first : (g : Fault) → Contains fs g → ComesBefore g f → ⊥

abbrev pub IsListed : ModelSyntax → ModelCode → Ident → Type 0
IsListed m code name = Contains (faults m) (record { code = code; name = name })

-- a rule that is broken, before which none is broken
pub record IsFirstBroken (m : ModelSyntax) (f : Fault) : Type 0 where
  pub broken : Breaks m f.code f.name
  pub first : (g : Fault) → Breaks m g.code g.name → ComesBefore g f → ⊥

-- the model breaks no rule on names and types
abbrev pub BreaksNone : ModelSyntax → Type 0
BreaksNone m = (f : Fault) → Breaks m f.code f.name → ⊥

-- the answer names a rule that is broken, and none is broken before it; out of memory says nothing
abbrev pub NamesFirstBroken : ModelSyntax → ModelFault → Type 0
NamesFirstBroken m (At code name) =
    IsFirstBroken m (record { code = code; name = ident_of name })
NamesFirstBroken m Memory = ⊤
