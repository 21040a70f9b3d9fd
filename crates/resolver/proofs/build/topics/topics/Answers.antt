use Rattle.std.proofs.Common.{List, map, refl, ◌∙◌}
use Rattle.ili_grammar.specs.declared.syntax.TopicSyntax as written
use Rattle.resolver.specs.Limits.{IsBoundedTopic}
use Rattle.ili_grammar.specs.Values.{topic_of, topics_of}
use Rattle.resolver.specs.DomainScopes.{domains_in}
use Rattle.resolver.specs.Models.{topic}
use Rattle.resolver.specs.Values.{topic_of as built_topic}
use Rattle.resolver.proofs.ListLemmas.Folds.{next_viewed, all_pushed}
use Rattle.resolver.proofs.ListLemmas.Viewed.{of_item}
use Rattle.resolver.proofs.build.topics.topics.Goals as goal

pub topic-requires-clause-written : goal.topic-requires-clause-written
topic-requires-clause-written c =
    of_item topic_of IsBoundedTopic c.args.written.now c.loop-each.each-index c.each-item.result
    c.requires.written c.loop-each-test.true c.each-item.is

pub loop-each-preserved : goal.loop-each-preserved
loop-each-preserved c =
    next_viewed (λ (l : List written.TopicSyntax). map (topic (domains_in c.args.above.now))
    (topics_of l)) built_topic _ _ _ _ _ _ _ _
    (λ rest. refl) refl c.loop-each-test.true c.each-item.is c.in_ok-push.ensures.items
    c.in_ok-topic.ensures
    ∙ c.loop-each.invariant

pub returns : goal.returns
returns c = all_pushed
    (λ (l : List written.TopicSyntax). map (topic (domains_in c.args.above.now)) (topics_of l))
    c.loop-each.each-index c.args.written.now
    (map built_topic c.loop-each.done.items) refl c.loop-each-test.false c.loop-each.invariant
