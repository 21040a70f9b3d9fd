-- Refusals and readings of the code, without where they lie in memory.
use Rattle.std.specs.Prelude.{◌≡◌, ℕ, List, ⊤}
use Rattle.ili_grammar.specs.Limits.{IsWithinLimits}
use Rattle.ili_grammar.specs.Values.{model_of}
use Rattle.ili_grammar.specs.Syntax.{ModelSyntax}
use Rattle.ili_grammar.specs.Values.{ident_of}
use Rattle.resolver.specs.Faults.{Fault}
use Rattle.resolver.specs.First.{IsFirstBroken, BreaksNone}
use Rattle.resolver.specs.Resolved.{ResolvedModel}
use Rattle.resolver.specs.Standing.{IsModel}
use Rattle.resolver.specs.declared.faults.ModelFault.{ModelFault}
use Rattle.resolver.specs.declared.faults.ModelFault.TheVariants as faults
use Rattle.table_layout.specs.Tables.{layout_of}
use Rattle.table_layout.specs.Valid.{IsValid}
use Rattle.table_layout.specs.Values.{layout_view}
use Rattle.commands.specs.declared.refusals.Refusal.{Refusal as CodeRefusal}
use Rattle.commands.specs.declared.model.Reading.{Reading}
use Rattle.commands.specs.declared.model.Reading.TheVariants as readings
use Rattle.commands.specs.declared.model.ModelReading.{ModelReading}
use Rattle.commands.specs.declared.model.ModelReading.TheVariants as models
use Rattle.commands.specs.ModelTexts.{Refusal, name_refusal, IsSpelt, IsFaulty, IsRefused}
use Rattle.commands.specs.ModelTexts.{HasLayout}

abbrev pub refusal_of : CodeRefusal → Refusal
refusal_of r = record { code = r.code; line = r.line; column = r.column; word = r.word.items }

-- the text spells this syntax, or is refused so
abbrev pub IsReading : List ℕ → Reading → Type 0
IsReading text (readings.Syntax syntax) = IsSpelt text (model_of syntax)
IsReading text (readings.Refused r) = IsFaulty text (refusal_of r)

-- a syntax is as small as a text makes it
abbrev pub IsSmallReading : Reading → Type 0
IsSmallReading (readings.Syntax syntax) = IsWithinLimits (model_of syntax)
IsSmallReading (readings.Refused r) = ⊤

-- a fault of the names and types is refused so; out of memory is no refusal
abbrev pub IsNameRefusal : ModelFault → Refusal → Type 0
IsNameRefusal (faults.At code name) r =
    r ≡ name_refusal (record { code = code; name = ident_of name })
IsNameRefusal faults.Memory r = ⊥

-- the refusal names the first broken rule
abbrev pub NamesFirstBroken : ModelSyntax → Refusal → Type 0
NamesFirstBroken m r = (f : Fault) × IsFirstBroken m f × (r ≡ name_refusal f)

-- the tables of what the syntax stands for are laid out so, or the first broken rule is named
abbrev pub IsLaidOut : ModelSyntax → ModelReading → Type 0
IsLaidOut m (models.Laid layout) =
    (model : ResolvedModel) × BreaksNone m × IsModel m model
    × (layout_view layout ≡ layout_of model)
IsLaidOut m (models.Refused r) = NamesFirstBroken m (refusal_of r)

-- the text has this layout, or is refused so
abbrev pub IsModelReading : List ℕ → ModelReading → Type 0
IsModelReading text (models.Laid layout) = HasLayout text (layout_view layout)
IsModelReading text (models.Refused r) = IsRefused text (refusal_of r)

-- a layout is valid
abbrev pub IsValidReading : ModelReading → Type 0
IsValidReading (models.Laid layout) = IsValid (layout_view layout)
IsValidReading (models.Refused r) = ⊤
