use Rattle.std.proofs.Common.{sym, subst, ◌∙◌}
use Rattle.std.specs.Prelude.{IfOk, ◌≡◌}
use Rattle.ili_grammar.specs.Values.{topic_of}
use Rattle.resolver.specs.Limits.{IsBoundedScope}
use Rattle.resolver.specs.Scopes.{Scope}
use Rattle.resolver.specs.DomainScopes.{domains_in}
use Rattle.resolver.specs.Models.{topic_in}
use Rattle.resolver.specs.Values.{topic_of as built_topic}
use Rattle.resolver.proofs.BuildLemmas.Bounded.{bounded_inside}
use Rattle.resolver.proofs.build.topics.topic.Goals as goal

pub topic_in-requires-clause-scope : goal.topic_in-requires-clause-scope
topic_in-requires-clause-scope c =
    subst IsBoundedScope (sym (c.scope.ensures ∙ c.in_ok-own.ensures))
    (bounded_inside (domains_in c.args.above.now)
    (topic_of c.args.written.now) c.requires.above c.requires.written)

pub returns : goal.returns
returns c =
    subst (λ (s : Scope). IfOk c.topic_in.result
    (λ t. built_topic t ≡ topic_in s (topic_of c.args.written.now))) (c.scope.ensures
    ∙ c.in_ok-own.ensures) c.topic_in.ensures
