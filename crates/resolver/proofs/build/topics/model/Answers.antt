use Rattle.std.proofs.Common.{◌≡◌, List, map, ap, sym, subst, ◌∙◌}
use Rattle.std.specs.List.{All}
use Rattle.ili_grammar.specs.declared.syntax.TopicSyntax as topic
use Rattle.ili_grammar.specs.Syntax.{DomainSyntax}
use Rattle.ili_grammar.specs.Values.{codes_of, model_of, topics_of}
use Rattle.resolver.specs.Limits.{AreBoundedDomains, IsBoundedTopic}
use Rattle.resolver.specs.Scopes.{everywhere}
use Rattle.resolver.specs.Models.{topic as spec_topic}
use Rattle.resolver.specs.Values.{topics_of as built_topics}
use Rattle.resolver.proofs.BuildLemmas.Within.{bounded_topics, bounded_everywhere}
use Rattle.resolver.proofs.build.topics.model.Goals as goal

pub topics-requires-clause-above : goal.topics-requires-clause-above
topics-requires-clause-above c =
    subst AreBoundedDomains (sym c.requires.domains)
    (bounded_everywhere (model_of c.args.written.now) c.requires.within)

pub topics-requires-clause-written : goal.topics-requires-clause-written
topics-requires-clause-written c =
    subst (λ (l : List topic.TopicSyntax). All IsBoundedTopic (topics_of l))
    (sym c.deref.ensures.value) (bounded_topics (model_of c.args.written.now) c.requires.within)

pub returns : goal.returns
returns c =
    let ts : built_topics c.in_ok-topics.field-0.items
    ≡ map (spec_topic (everywhere (model_of c.args.written.now)))
    (topics_of c.args.written.now.topics.items) =
    c.in_ok-topics.ensures
    ∙ ap (λ (ds : List DomainSyntax). map (spec_topic ds) (topics_of c.deref.result.now))
    c.requires.domains
    ∙ ap (λ (l : List topic.TopicSyntax). map
    (spec_topic (everywhere (model_of c.args.written.now))) (topics_of l))
    c.deref.ensures.value in
    let name = c.in_ok-new.ensures ∙ c.bytes.ensures in
    λ z. record { name = name z; codes = codes_of c.args.written.now.codes; topics = ts z }
