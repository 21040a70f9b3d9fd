-- What every layout keeps, so that no later layer has to test it.
use Rattle.std.specs.Prelude.{ℕ, ◌+◌, ◌<◌, ◌≤◌, ◌≡◌, false, List, [], ◌∷◌, length, Some, slice_get}
use Rattle.std.specs.Prelude.{slice_index_or}
use Rattle.std.specs.List.{All}
use Rattle.ili_lexer.specs.Forms.{IsName}
use Rattle.ili_grammar.specs.Limits.{AreCodes}
use Rattle.resolver.specs.Resolved.{Form, AreaPoint, Reference, LineForm}
use Rattle.resolver.specs.Rules.{helper_name}
use Rattle.resolver.specs.Sound.{IsNarrow}
use Rattle.table_layout.specs.ByTopic.{AreByTopic}
use Rattle.table_layout.specs.Layouts.{Role, Main, AreaLines, SurfaceLines, Column, Table, AreaOf}
use Rattle.table_layout.specs.Layouts.{Layout}
use Rattle.table_layout.specs.Tables.{column_name}

-- the table with this number is a declared one of this topic
pub record IsMain (tables : List Table) (topic number : ℕ) : Type 0 where
  pub table : Table
  pub at : slice_get tables number ≡ Some table
  pub role : table.role ≡ Main
  pub in_topic : table.topic ≡ topic

-- a reference names a declared table of its topic
abbrev pub NamesMain : List Table → ℕ → Form → Type 0
NamesMain tables topic (Reference k) = IsMain tables topic k
NamesMain tables topic f = Unit {0}

-- the helper table of an AREA attribute: its main table, which stands in its topic, its column
-- there, which is the point of an object, and its one line, which is mandatory and has the name and
-- the window of that point; its name is made of those of the main table and of that column
pub record IsAreaTable (tables : List Table) (t : Table) (number place : ℕ) : Type 0 where
  pub owner : Table
  pub point : Column
  pub line : LineForm
  pub main : slice_get tables number ≡ Some owner
  pub is_main : owner.role ≡ Main
  pub in_topic : owner.topic ≡ t.topic
  pub column : slice_get owner.columns place ≡ Some point
  pub form : point.form ≡ AreaPoint line.window
  pub name : t.name ≡ helper_name owner.name point.name
  pub lines : t.lines ≡ line ∷ []
  pub line_name : line.name ≡ point.name
  pub mandatory : line.optional ≡ false
  pub narrow : IsNarrow line.window

-- the helper table of a SURFACE attribute: its main table, which stands in its topic, its column
-- 0, which is a mandatory reference to that table and has its name, and its one line, which is
-- mandatory; its name is made of those of the main table and of that line
pub record IsSurfaceTable (tables : List Table) (t : Table) (number : ℕ) : Type 0 where
  pub owner : Table
  pub reference : Column
  pub line : LineForm
  pub main : slice_get tables number ≡ Some owner
  pub is_main : owner.role ≡ Main
  pub in_topic : owner.topic ≡ t.topic
  pub column : slice_get t.columns 0 ≡ Some reference
  pub form : reference.form ≡ Reference number
  pub named : reference.name ≡ owner.name
  pub needed : reference.optional ≡ false
  pub name : t.name ≡ helper_name owner.name line.name
  pub lines : t.lines ≡ line ∷ []
  pub mandatory : line.optional ≡ false

abbrev pub IsRole : List Table → Table → Role → Type 0
IsRole tables t Main = Unit {0}
IsRole tables t (AreaLines main column) = IsAreaTable tables t main column
IsRole tables t (SurfaceLines main) = IsSurfaceTable tables t main

-- a table: its topic is there, its columns and lines are few, its references name declared
-- tables of its topic, and its IDENT lists columns or lines
pub record IsTable (topics : ℕ) (tables : List Table) (t : Table) : Type 0 where
  pub topic : t.topic < topics
  pub few : length t.columns + length t.lines ≤ 4194306
  pub references : All (λ (c : Column). NamesMain tables t.topic c.form) t.columns
  pub idents : All (All (λ p. p < length t.columns + length t.lines)) t.idents
  pub role : IsRole tables t t.role

-- an area: its helper table, which says the same main table and column, and that column's name
pub record IsArea (tables : List Table) (a : AreaOf) : Type 0 where
  pub helper : Table
  pub lines : slice_get tables a.lines ≡ Some helper
  pub role : helper.role ≡ AreaLines a.main a.column
  pub name : a.name ≡ column_name tables a.main a.column

-- the areas stand in the order of their helper tables, none twice, from this number on
abbrev pub Rise : ℕ → List AreaOf → Type 0
Rise from [] = Unit {0}
Rise from (a ∷ as_) = (from ≤ a.lines) × Rise (a.lines + 1) as_

-- one of the areas has the helper table with this number
pub record HasArea (areas : List AreaOf) (number : ℕ) : Type 0 where
  pub area : AreaOf
  pub place : ℕ
  pub at : slice_get areas place ≡ Some area
  pub lines : area.lines ≡ number

-- each AREA is there: whatever table holds the lines of one
abbrev pub HasAll : List Table → List AreaOf → Type 0
HasAll tables areas =
    (number main column : ℕ) (t : Table) → slice_get tables number ≡ Some t
    → t.role ≡ AreaLines main column → HasArea areas number

-- the table, its columns and its lines have names: a letter, then letters, digits and `_`
pub record IsNamedTable (t : Table) : Type 0 where
  pub name : IsName t.name
  pub columns : All (λ (c : Column). IsName c.name) t.columns
  pub lines : All (λ (l : LineForm). IsName l.name) t.lines

-- so have the topics and the declared tables
pub record HasNames (l : Layout) : Type 0 where
  pub topics : All IsName l.topics
  pub tables : All (λ (t : Table). t.role ≡ Main → IsNamedTable t) l.tables

-- what `layout` promises of its layout
pub record IsValid (l : Layout) : Type 0 where
  pub names : HasNames l
  pub codes : AreCodes l.codes
  pub few : length l.tables ≤ 4194304
  pub tables : All (IsTable (length l.topics) l.tables) l.tables
  pub areas : All (IsArea l.tables) l.areas
  pub in_order : Rise 0 l.areas
  pub complete : HasAll l.tables l.areas
  pub by_topic : AreByTopic 0 (length l.topics) l.tables

-- an area by its names: those of its main table, of that table's topic, and its own
pub record IsNamedArea (l : Layout) (a : AreaOf) : Type 0 where
  pub table : Table
  pub main : slice_get l.tables a.main ≡ Some table
  pub topic_name : IsName (slice_index_or l.topics table.topic [])
  pub table_name : IsName table.name
  pub name : IsName a.name
