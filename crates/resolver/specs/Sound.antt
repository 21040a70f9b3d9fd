-- What a resolved model keeps beyond its types: few names, each of the form of names, numbers in
-- range, and codes that differ.
use Rattle.std.specs.Prelude.{ℕ, ◌+◌, ◌<◌, ◌≤◌, ◌^◌, pos, ◌-ℤ◌, ◌<ℤ◌, List, [], ◌∷◌, length}
use Rattle.std.specs.List.{All, sum_by}
use Rattle.ili_lexer.specs.Forms.{IsName}
use Rattle.ili_grammar.specs.Limits.{AreCodes}
use Rattle.resolver.specs.Resolved.{Window, Form, Reference, Attribute, an_attribute, Value}
use Rattle.resolver.specs.Resolved.{Polyline, Surface, Area, a_part, Attributes, no_attributes}
use Rattle.resolver.specs.Resolved.{and_attribute, ModelTable, Topic, ResolvedModel}

-- the attributes of a table or of a boundary's lines, one after the other
abbrev pub listed : Attributes → List Attribute
listed no_attributes = []
listed (and_attribute a as_) = a ∷ listed as_

-- ---- how many names a model declares: its topics, their tables, and the tables' attributes
abbrev pub table_name_count : ModelTable → ℕ
table_name_count t = 1 + length (listed t.attributes)

abbrev pub topic_name_count : Topic → ℕ
topic_name_count t = 1 + sum_by table_name_count t.tables

abbrev pub name_count : ResolvedModel → ℕ
name_count m = sum_by topic_name_count m.topics

-- ---- the form of names: a letter, then letters, digits and `_` (`IsName`)
-- an attribute has a name, and the line of an attribute has one
abbrev pub IsNamedAttribute : Attribute → Type 0
IsNamedAttribute (an_attribute n o (Value f)) = IsName n
IsNamedAttribute (an_attribute n o (Polyline l)) = IsName n × IsName l.name
IsNamedAttribute (an_attribute n o (Surface l p)) = IsName n × IsName l.name
IsNamedAttribute (an_attribute n o (Area l p)) = IsName n × IsName l.name

-- a table has a name, and each of its attributes
pub record IsNamedTable (t : ModelTable) : Type 0 where
  pub name : IsName t.name
  pub attributes : All IsNamedAttribute (listed t.attributes)

-- a topic has a name, and each of its tables
pub record IsNamedTopic (t : Topic) : Type 0 where
  pub name : IsName t.name
  pub tables : All IsNamedTable t.tables

-- ---- numbers in range
-- less than 2^40 units wide in each axis
pub record IsNarrow (w : Window) : Type 0 where
  pub x : (w.x.high -ℤ w.x.low) <ℤ pos (2 ^ 40)
  pub y : (w.y.high -ℤ w.y.low) <ℤ pos (2 ^ 40)

-- a reference names one of so many tables
abbrev pub RefersWithin : ℕ → Form → Type 0
RefersWithin tables (Reference k) = k < tables
RefersWithin tables f = Unit {0}

-- the IDENT lists name attributes by numbers below so many
abbrev pub ArePlaces : ℕ → List (List ℕ) → Type 0
ArePlaces n lists = All (All (λ i. i < n)) lists

-- an attribute of a boundary's lines is no line itself
abbrev pub IsLineAttribute : ℕ → Attribute → Type 0
IsLineAttribute tables (an_attribute n o (Value f)) = RefersWithin tables f
IsLineAttribute tables (an_attribute n o (Polyline l)) = ⊥
IsLineAttribute tables (an_attribute n o (Surface l p)) = ⊥
IsLineAttribute tables (an_attribute n o (Area l p)) = ⊥

-- the attributes and IDENT lists of a boundary's lines
pub record IsSoundPart (tables : ℕ) (own : List Attribute) (lists : List (List ℕ)) : Type 0 where
  pub few : length own ≤ 4194304
  pub attributes : All (IsLineAttribute tables) own
  pub idents : ArePlaces (length own) lists

-- an attribute of a topic with so many tables; the window of an AREA is narrow
abbrev pub IsSoundAttribute : ℕ → Attribute → Type 0
IsSoundAttribute tables (an_attribute n o (Value f)) = RefersWithin tables f
IsSoundAttribute tables (an_attribute n o (Polyline l)) = Unit {0}
IsSoundAttribute tables (an_attribute n o (Surface l (a_part own lists))) =
    IsSoundPart tables (listed own) lists
IsSoundAttribute tables (an_attribute n o (Area l (a_part own lists))) =
    IsNarrow l.window × IsSoundPart tables (listed own) lists

pub record IsSoundTable (tables : ℕ) (t : ModelTable) : Type 0 where
  pub attributes : All (IsSoundAttribute tables) (listed t.attributes)
  pub idents : ArePlaces (length (listed t.attributes)) t.idents

abbrev pub IsSoundTopic : Topic → Type 0
IsSoundTopic t = All (IsSoundTable (length t.tables)) t.tables

-- what `resolve` promises of its model
pub record IsSound (m : ResolvedModel) : Type 0 where
  pub few : name_count m ≤ 4194304
  pub named : All IsNamedTopic m.topics
  pub codes : AreCodes m.codes
  pub topics : All IsSoundTopic m.topics
