use Rattle.std.proofs.Common.{drop}
use Rattle.std.specs.List.{flat_map}
use Rattle.ili_grammar.specs.Values.{topics_of}
use Rattle.resolver.specs.FaultViews.{Leaves}
use Rattle.resolver.specs.DomainScopes.{domains_in}
use Rattle.resolver.specs.Rules.{topic_faults}
use Rattle.resolver.proofs.rules.topics.check_each.Given as goal

abbrev pub invariant-loop-topic : goal.invariant-loop-topic
invariant-loop-topic l =
    Leaves l.fn.earliest l.earliest
    (flat_map (topic_faults (domains_in l.above)) (topics_of l.topics))
    (flat_map (topic_faults (domains_in l.above)) (topics_of (drop l.topic-index l.topics)))
