-- The names of tables and topics, each of one alone.
use Rattle.std.specs.Prelude.{◌≡◌, ℕ, ◌≤◌, List, [], ◌∷◌, nat_eq, Some, slice_get, count_by}
use Rattle.std.specs.List.{All, flat_map, position_from}
use Rattle.std.specs.Cmp.Lexicographic.{pointwise}
use Rattle.resolver.specs.Resolved.{Attribute, an_attribute, Value, Polyline, Surface, Area}
use Rattle.resolver.specs.Resolved.{ModelTable, Topic, ResolvedModel}
use Rattle.resolver.specs.Sound.{listed}
use Rattle.table_layout.specs.Finding.{number_of}
use Rattle.table_layout.specs.Layouts.{Table, Layout}
use Rattle.resolver.specs.Rules.{helper_name}
use Rattle.table_layout.specs.Tables.{topic_names_of}

-- how often a name stands in a list
abbrev pub times : List ℕ → List (List ℕ) → ℕ
times name names = count_by (λ n. pointwise nat_eq n name) names

-- no name stands twice
abbrev pub AreDifferent : List (List ℕ) → Type 0
AreDifferent names = (name : List ℕ) → times name names ≤ 1

-- the name of the helper table of an AREA or a SURFACE attribute
abbrev pub helper_names : List ℕ → Attribute → List (List ℕ)
helper_names table (an_attribute n o (Area l p)) = helper_name table n ∷ []
helper_names table (an_attribute n o (Surface l p)) = helper_name table n ∷ []
helper_names table (an_attribute n o (Value f)) = []
helper_names table (an_attribute n o (Polyline l)) = []

-- the names that a declared table takes: its own and those of its helper tables
abbrev pub names_taken : ModelTable → List (List ℕ)
names_taken t = t.name ∷ flat_map (helper_names t.name) (listed t.attributes)

abbrev pub topic_names_taken : Topic → List (List ℕ)
topic_names_taken t = flat_map names_taken t.tables

-- the topics of a model have different names, and so have the tables of each topic, helper
-- tables included
pub record HasOwnNames (m : ResolvedModel) : Type 0 where
  pub topics : AreDifferent (topic_names_of m.topics)
  pub tables : All (λ t. AreDifferent (topic_names_taken t)) m.topics

-- each table is found by its name in its topic, and each topic by its name
pub record IsFoundByName (l : Layout) : Type 0 where
  pub tables : (i : ℕ) (t : Table) → slice_get l.tables i ≡ Some t
      → number_of l t.topic t.name ≡ Some i
  pub topics : (i : ℕ) (name : List ℕ) → slice_get l.topics i ≡ Some name
      → position_from (λ n. pointwise nat_eq n name) 0 l.topics ≡ Some i
