-- What the transfers of a model hold: lists in place of vectors, tables by their numbers.
use Rattle.std.specs.Prelude.{ℕ, List, Bool}
use Rattle.ili_grammar.specs.Syntax.{Codes}
use Rattle.resolver.specs.Resolved.{Form, LineForm}

-- the objects that the model declares, or the lines of an AREA, which is a column of the main
-- table, or of a SURFACE
pub data Role : Type 0 where
  Main : Role
  AreaLines : ℕ → ℕ → Role
  SurfaceLines : ℕ → Role

-- a column: its name, whether it may be undefined, and what its value may be
pub record Column : Type 0 where
  pub name : List ℕ
  pub optional : Bool
  pub form : Form

-- a table of a transfer: the number of its topic, its name and role, its columns, its lines and its
-- IDENT lists
pub record Table : Type 0 where
  pub topic : ℕ
  pub name : List ℕ
  pub role : Role
  pub columns : List Column
  pub lines : List LineForm
  pub idents : List (List ℕ)

-- an AREA attribute: the table of its lines, its main table, its column there and its name
pub record AreaOf : Type 0 where
  pub lines : ℕ
  pub main : ℕ
  pub column : ℕ
  pub name : List ℕ

-- what a transfer of the model has: the model's name, its codes, its topics, all tables in order,
-- and its AREA attributes
pub record Layout : Type 0 where
  pub model : List ℕ
  pub codes : Codes
  pub topics : List (List ℕ)
  pub tables : List Table
  pub areas : List AreaOf
