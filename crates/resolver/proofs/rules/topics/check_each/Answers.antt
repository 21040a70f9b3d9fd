use Rattle.std.proofs.Common.{List, ◌∙◌, refl}
use Rattle.std.specs.List.{flat_map}
use Rattle.ili_grammar.specs.declared.syntax.TopicSyntax as topic
use Rattle.ili_grammar.specs.Values.{topic_of, topics_of}
use Rattle.resolver.specs.Limits.{IsBoundedTopic}
use Rattle.resolver.specs.DomainScopes.{domains_in}
use Rattle.resolver.specs.Rules.{topic_faults}
use Rattle.resolver.proofs.ListLemmas.Folds.{told_over}
use Rattle.resolver.proofs.ListLemmas.Viewed.{of_item}
use Rattle.resolver.proofs.rules.topics.check_each.Goals as goal

pub check_topic-requires-clause-topic : goal.check_topic-requires-clause-topic
check_topic-requires-clause-topic c =
    of_item topic_of IsBoundedTopic c.args.topics.now c.loop-topic.topic-index c.topic-item.result
    c.requires.topics c.loop-topic-test.true c.topic-item.is

pub loop-topic-preserved : goal.loop-topic-preserved
loop-topic-preserved c =
    told_over (λ (l : List topic.TopicSyntax). flat_map (topic_faults (domains_in c.args.above.now))
    (topics_of l)) _ _ _ _ _ _ _ (λ rest. refl) refl c.loop-topic-test.true c.topic-item.is
    c.in_ok-check_topic.ensures
    ∙ c.loop-topic.invariant
