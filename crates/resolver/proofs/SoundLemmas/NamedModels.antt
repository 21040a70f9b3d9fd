-- What stands for topics, tables and attributes with names has these names.
use Rattle.std.proofs.Common.{ℕ, List, map, get_or, Bool, Option, Some, None}
use Rattle.std.proofs.lemmas.List.Elements.{All-nil, All-cons, All-map}
use Rattle.std.specs.List.{All}
use Rattle.ili_lexer.specs.Forms.{IsName}
use Rattle.ili_grammar.specs.Syntax as syntax
use Rattle.ili_grammar.specs.Syntax.{Ident, TypeSyntax, a_line, Attributes, no_attributes}
use Rattle.ili_grammar.specs.Syntax.{and_attribute, an_attribute, Content, DomainSyntax}
use Rattle.ili_grammar.specs.Syntax.{TableSyntax, TopicSyntax}
use Rattle.ili_grammar.specs.Limits as written
use Rattle.resolver.specs.Models.{type_form, meaning_form, content_form, attribute, attributes}
use Rattle.resolver.specs.Models.{table, topic}
use Rattle.resolver.specs.Resolved as resolved
use Rattle.resolver.specs.Scopes.{Scope, Meaning, inside, meant}
use Rattle.resolver.specs.Sound.{listed, IsNamedAttribute, IsNamedTable, IsNamedTopic}

type_named : (n : List ℕ) (o : Bool) (s : Scope) (t : TypeSyntax) → IsName n
    → IsNamedAttribute (resolved.an_attribute n o (type_form n o s t))
type_named n o s (syntax.Polyline (a_line head as_ lists)) h = (h, h)
type_named n o s (syntax.Surface (a_line head as_ lists)) h = (h, h)
type_named n o s (syntax.Area (a_line head as_ lists)) h = (h, h)
type_named n o s t h = h

meaning_named : (n : List ℕ) (o : Bool) (m : Option Meaning) → IsName n
    → IsNamedAttribute (resolved.an_attribute n o (meaning_form n o m))
meaning_named n o None h = h
meaning_named n o (Some m) h = type_named n o m.scope m.kind h

content_named : (s : Scope) (n : List ℕ) (o : Bool) (c : Content) → IsName n
    → IsNamedAttribute (resolved.an_attribute n o (content_form s n o c))
content_named s n o (syntax.Value t) h = meaning_named n o (meant s t) h
content_named s n o (syntax.Reference r) h = h

attributes_named : (s : Scope) (as_ : Attributes) → written.AreNamed as_
    → All IsNamedAttribute (listed (attributes s as_))
attributes_named s no_attributes h = All-nil IsNamedAttribute
attributes_named s (and_attribute (an_attribute n o c) as_) h =
    All-cons IsNamedAttribute (attribute s (an_attribute n o c)) (listed (attributes s as_))
    (content_named s n.text o c h.0) (attributes_named s as_ h.1)

table_named : (s : Scope) (t : TableSyntax) → written.IsNamedTable t → IsNamedTable (table s t)
table_named s t h = record {
  name = h.name;
  attributes = attributes_named s t.attributes h.attributes;
}

topic_named : (above : List DomainSyntax) (t : TopicSyntax) → written.IsNamedTopic t
    → IsNamedTopic (topic above t)
topic_named above t h = record {
  name = h.name;
  tables = All-map IsNamedTable (table (inside above t)) t.tables
      (λ i x lt. table_named (inside above t) (get_or t.tables i x) (h.tables i x lt));
}

pub topics_named : (above : List DomainSyntax) (ts : List TopicSyntax) → All written.IsNamedTopic ts
    → All IsNamedTopic (map (topic above) ts)
topics_named above ts h =
    All-map IsNamedTopic (topic above) ts (λ i t lt. topic_named above (get_or ts i t) (h i t lt))
