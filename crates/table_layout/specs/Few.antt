-- Few enough names that every number of the layout fits.
use Rattle.std.specs.Prelude.{ℕ, ◌+◌, ◌≤◌, List, [], ◌∷◌, length}
use Rattle.std.specs.List.{All}
use Rattle.resolver.specs.Resolved.{Attribute, an_attribute, Value, Polyline, Surface, Area}
use Rattle.resolver.specs.Resolved.{LinePart, a_part, ModelTable, Topic}
use Rattle.resolver.specs.Sound.{listed}
use Rattle.table_layout.specs.Tables.{tables_in}

-- the lines of a boundary have few attributes of their own
abbrev pub IsSmallPart : LinePart → Type 0
IsSmallPart (a_part own lists) = length (listed own) ≤ 4194304

-- the lines of a SURFACE or AREA attribute have at most 4,194,304 attributes of their own
abbrev pub HasFew : Attribute → Type 0
HasFew (an_attribute n o (Value f)) = Unit {0}
HasFew (an_attribute n o (Polyline l)) = Unit {0}
HasFew (an_attribute n o (Surface l p)) = IsSmallPart p
HasFew (an_attribute n o (Area l p)) = IsSmallPart p

-- few attributes, and few of their lines
pub record AreFew (own : List Attribute) : Type 0 where
  pub few : length own ≤ 4194304
  pub lines : All HasFew own

abbrev pub IsSmallTable : ModelTable → Type 0
IsSmallTable t = AreFew (listed t.attributes)

abbrev pub IsSmallTopic : Topic → Type 0
IsSmallTopic t = All IsSmallTable t.tables

-- how many topics there are, and how many tables stand for all that they declare
abbrev pub numbers_in : List Topic → ℕ
numbers_in [] = 0
numbers_in (t ∷ ts) = 1 + tables_in t.tables + numbers_in ts
