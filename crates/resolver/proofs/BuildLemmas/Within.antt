-- A model within the limits: its numbers are small, and its domains are few.
use Rattle.std.proofs.Common.{◌≤◌, List, [], ◌∷◌, length, get_or, arith}
use Rattle.std.specs.List.{All, sum_by}
use Rattle.std.proofs.lemmas.List.Elements.{All-append}
use Rattle.std.proofs.lemmas.List.Sums.{sum_by-append, sum_by-cons, get_or-le-sum_by}
use Rattle.ili_grammar.specs.Syntax.{DomainSyntax, TableSyntax, TopicSyntax, ModelSyntax}
use Rattle.ili_grammar.specs.Limits.{IsSmallDomain, IsSmallTopic, IsWithinLimits, domain_names}
use Rattle.ili_grammar.specs.Limits.{table_names, topic_names}
use Rattle.resolver.specs.Scopes.{everywhere}
use Rattle.resolver.specs.Limits.{AreBoundedDomains, IsBoundedTopic}

each_is_named : (ds : List DomainSyntax) → length ds ≤ sum_by domain_names ds
each_is_named [] = omega arith
each_is_named (d ∷ ds) = omega (arith, each_is_named ds, sum_by-cons domain_names d ds)

bounded_domains : (ds : List DomainSyntax) → All IsSmallDomain ds → sum_by domain_names ds ≤ 4194304
    → AreBoundedDomains ds
bounded_domains ds s few =
    record {
      each = λ i d lt. record {
        numbers = s i d lt;
        names = omega (arith, get_or-le-sum_by domain_names ds i d lt, few);
      };
      few = omega (arith, each_is_named ds, few);
    }

each_table_is_named : (ts : List TableSyntax) → length ts ≤ sum_by table_names ts
each_table_is_named [] = omega arith
each_table_is_named (t ∷ ts) = omega (arith, each_table_is_named ts, sum_by-cons table_names t ts)

bounded_topic : (t : TopicSyntax) → IsSmallTopic t → topic_names t ≤ 4194304 → IsBoundedTopic t
bounded_topic t s few = record {
  domains = bounded_domains t.domains s.0 (omega (arith, few));
  tables = λ i x lt. record {
    numbers = s.1 i x lt;
    names = omega (arith, get_or-le-sum_by table_names t.tables i x lt, few);
  };
  few = omega (arith, each_table_is_named t.tables, few);
}

pub bounded_topics : (m : ModelSyntax) → IsWithinLimits m → All IsBoundedTopic m.topics
bounded_topics m w =
    λ i t lt. bounded_topic (get_or m.topics i t) (w.numbers.topics i t lt)
    (omega (arith, get_or-le-sum_by topic_names m.topics i t lt, w.names))

pub bounded_everywhere : (m : ModelSyntax) → IsWithinLimits m → AreBoundedDomains (everywhere m)
bounded_everywhere m w =
    bounded_domains (everywhere m)
    (All-append IsSmallDomain m.outer m.domains w.numbers.outer w.numbers.domains)
    (omega (arith, sum_by-append domain_names m.outer m.domains, w.names))
