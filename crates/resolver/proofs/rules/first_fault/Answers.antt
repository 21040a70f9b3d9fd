use Rattle.std.proofs.Common.{◌≡◌, ◌++◌, List, Option, None, map, ap, sym, subst, ◌∙◌}
use Rattle.std.specs.List.{All, flat_map}
use Rattle.ili_grammar.specs.declared.syntax.TopicSyntax as topic
use Rattle.ili_grammar.specs.Syntax.{DomainSyntax, TopicSyntax, ModelSyntax}
use Rattle.ili_grammar.specs.Values.{model_of, topics_of}
use Rattle.resolver.specs.Faults.{Fault, first_from}
use Rattle.resolver.specs.FaultViews.{fault_in}
use Rattle.resolver.specs.Scopes.{Scope, everywhere, outside}
use Rattle.resolver.specs.DomainScopes.{domains_in}
use Rattle.resolver.specs.Limits.{AreBoundedDomains, IsBoundedScope, IsBoundedTopic}
use Rattle.resolver.specs.Rules.{domains_faults, topic_faults, twice_in, first_fault}
use Rattle.resolver.proofs.ListLemmas.Folds.{first_append}
use Rattle.resolver.proofs.BuildLemmas.Bounded.{bounded_outside}
use Rattle.resolver.proofs.BuildLemmas.Within.{bounded_everywhere, bounded_topics}
use Rattle.resolver.proofs.rules.first_fault.Goals as goal

-- what is wrong outside the topics was reported, and then what is wrong in them
all_told : (m : ModelSyntax) (above : List DomainSyntax) (topics : List TopicSyntax)
    (none outer all : Option Fault)
    → above ≡ everywhere m → topics ≡ m.topics → none ≡ None
    → outer ≡ first_from none (domains_faults (outside above))
    → all ≡ first_from outer (twice_in (map (λ t. t.name) topics)
    ++ flat_map (topic_faults above) topics) → all ≡ first_fault m
all_told m above topics none outer all a t n o e =
    let here : List DomainSyntax → List TopicSyntax
    → List Fault = λ ds ts. twice_in (map (λ t. t.name) ts) ++ flat_map (topic_faults ds) ts in
    e ∙ ap (λ (l : List TopicSyntax). first_from outer (here above l)) t
    ∙ ap (λ (l : List DomainSyntax). first_from outer (here l m.topics)) a
    ∙ ap (λ (b : Option Fault). first_from b (here (everywhere m) m.topics)) (o
    ∙ ap (λ (l : List DomainSyntax). first_from none (domains_faults (outside l))) a
    ∙ ap (λ (b : Option Fault). first_from b (domains_faults (outside (everywhere m)))) n)
    ∙ sym (first_append None (domains_faults (outside (everywhere m)))
    (here (everywhere m) m.topics))

pub check_domains-requires : goal.check_domains-requires
check_domains-requires c =
    subst IsBoundedScope (sym c.outside.ensures)
    (bounded_outside (domains_in c.args.above.now)
    (subst AreBoundedDomains (sym c.requires.domains)
    (bounded_everywhere (model_of c.args.syntax.now) c.requires.within)))

pub check_topics-requires-clause-above : goal.check_topics-requires-clause-above
check_topics-requires-clause-above c =
    subst AreBoundedDomains (sym c.requires.domains)
    (bounded_everywhere (model_of c.args.syntax.now) c.requires.within)

pub check_topics-requires-clause-topics : goal.check_topics-requires-clause-topics
check_topics-requires-clause-topics c =
    subst (λ (l : List topic.TopicSyntax). All IsBoundedTopic (topics_of l))
    (sym c.deref.ensures.value) (bounded_topics (model_of c.args.syntax.now) c.requires.within)

pub returns : goal.returns
returns c =
    c.fault.ensures
    ∙ all_told (model_of c.args.syntax.now) (domains_in c.args.above.now)
    (topics_of c.deref.result.now) (fault_in c.new-earliest.result)
    (fault_in c.check_domains.new.earliest) (fault_in c.check_topics.new.earliest)
    c.requires.domains (ap topics_of c.deref.ensures.value) c.new-earliest.ensures
    (c.in_ok-check_domains.ensures
    ∙ ap (λ (s : Scope). first_from (fault_in c.new-earliest.result) (domains_faults s))
    c.outside.ensures) c.in_ok-check_topics.ensures
