-- Scopes and meanings, without where they lie in memory.
use Rattle.ili_grammar.specs.Values.{type_of}
use Rattle.resolver.specs.declared.scope.Scope as code
use Rattle.resolver.specs.declared.scope.Meaning as meanings
use Rattle.resolver.specs.declared.scope.topic_scope.TopicScope.{TopicScope}
use Rattle.resolver.specs.Scopes.{Scope, Meaning, texts}
use Rattle.resolver.specs.DomainScopes.{domains_in, domains_above}
use Rattle.resolver.specs.NameIndexes.{names_in, names_if}

abbrev pub scope_of : code.Scope → Scope
scope_of s =
    record {
      above = domains_above s.above;
      own = domains_in s.own.now;
      tables = texts (names_if s.tables);
    }

abbrev pub topic_scope_of : TopicScope → Scope
topic_scope_of s =
    record {
      above = domains_in s.above.now;
      own = domains_in s.own;
      tables = texts (names_in s.tables);
    }

abbrev pub meaning_of : meanings.Meaning → Meaning
meaning_of m = record { scope = scope_of m.scope; kind = type_of m.counted.kind.now }
