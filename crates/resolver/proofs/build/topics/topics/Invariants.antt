use Rattle.std.proofs.Common.{◌≡◌, ◌++◌, drop, map}
use Rattle.ili_grammar.specs.Values.{topics_of}
use Rattle.resolver.specs.DomainScopes.{domains_in}
use Rattle.resolver.specs.Models.{topic}
use Rattle.resolver.specs.Values.{topics_of as built_topics}
use Rattle.resolver.proofs.build.topics.topics.Given as goal

abbrev pub invariant-loop-each : goal.invariant-loop-each
invariant-loop-each l =
    built_topics l.done.items ++ map (topic (domains_in l.above))
    (topics_of (drop l.each-index l.written))
    ≡ map (topic (domains_in l.above)) (topics_of l.written)
