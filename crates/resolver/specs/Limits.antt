-- What holds of the types to which a name may lead: their numbers are as small, and their names as
-- few, as in any model that is read.
use Rattle.std.specs.Prelude.{◌≤◌, IfSome, List, Option, length}
use Rattle.std.specs.List.{All}
use Rattle.ili_grammar.specs.Limits.{IsSmall, IsSmallType, IsSmallContent, AreSmallAttributes}
use Rattle.ili_grammar.specs.Limits.{type_names, content_names, attributes_names}
use Rattle.ili_grammar.specs.Syntax.{AttributeSyntax, an_attribute, Attributes, Content, Decimal}
use Rattle.ili_grammar.specs.Syntax.{DomainSyntax, TableSyntax, TopicSyntax, TypeSyntax}
use Rattle.resolver.specs.Scopes.{Scope}

abbrev pub IsSmallOverlap : Option Decimal → Type 0
IsSmallOverlap overlap = IfSome overlap IsSmall

-- ---- types
pub record IsBounded (t : TypeSyntax) : Type 0 where
  pub numbers : IsSmallType t
  pub names : type_names t ≤ 4194304

abbrev pub AreFew : List DomainSyntax → Type 0
AreFew ds = length ds ≤ 4194304

pub record AreBoundedDomains (ds : List DomainSyntax) : Type 0 where
  pub each : All (λ d. IsBounded d.kind) ds
  pub few : AreFew ds

-- the domains to which a name may lead, and the tables
pub record IsBoundedScope (s : Scope) : Type 0 where
  pub above : AreBoundedDomains s.above
  pub own : AreBoundedDomains s.own
  pub tables : length s.tables ≤ 4194304

-- ---- attributes
pub record IsBoundedContent (c : Content) : Type 0 where
  pub numbers : IsSmallContent c
  pub names : content_names c ≤ 4194304

abbrev pub IsBoundedAttribute : AttributeSyntax → Type 0
IsBoundedAttribute (an_attribute n o c) = IsBoundedContent c

pub record AreBounded (as_ : Attributes) : Type 0 where
  pub numbers : AreSmallAttributes as_
  pub names : attributes_names as_ ≤ 4194304

-- ---- what holds attributes
abbrev pub IsBoundedTable : TableSyntax → Type 0
IsBoundedTable t = AreBounded t.attributes

pub record IsBoundedTopic (t : TopicSyntax) : Type 0 where
  pub domains : AreBoundedDomains t.domains
  pub tables : All IsBoundedTable t.tables
  pub few : length t.tables ≤ 4194304
