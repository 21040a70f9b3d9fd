-- A model that breaks no rule stands for a sound one.
use Rattle.std.proofs.Common.{◌≡◌, ℕ, ◌<◌, ◌≤◌, List, [], ◌∷◌, ◌++◌, map, length, get_or, None}
use Rattle.std.proofs.Common.{arith, subst, sym}
use Rattle.std.proofs.lemmas.List.{length-map}
use Rattle.std.proofs.lemmas.List.Elements.{All-map}
use Rattle.std.proofs.lemmas.List.Sums.{sum_by-cons}
use Rattle.std.specs.List.{All, flat_map, sum_by}
use Rattle.ili_grammar.specs.Syntax.{Ident, DomainSyntax, TableSyntax, TopicSyntax, ModelSyntax}
use Rattle.ili_grammar.specs.Limits as written
use Rattle.ili_grammar.specs.Limits.{IsWithinLimits}
use Rattle.resolver.specs.Faults.{Fault}
use Rattle.resolver.specs.Limits.{AreBoundedDomains, IsBoundedTable, IsBoundedTopic}
use Rattle.resolver.specs.Models.{places, table, topic, resolved_model}
use Rattle.resolver.specs.Rules.{twice, twice_in, entry, cycle_faults, domain_faults}
use Rattle.resolver.specs.Rules.{domains_faults, names_faults, attributes_faults, table_entries}
use Rattle.resolver.specs.Rules.{table_faults, tables_faults, topic_faults, faults, first_fault}
use Rattle.resolver.specs.Scopes.{Scope, names_of, domain_names, table_names, leads, everywhere}
use Rattle.resolver.specs.Scopes.{outside, inside}
use Rattle.resolver.specs.Sound as resolved
use Rattle.resolver.specs.Sound.{listed, IsSoundTable, IsSoundTopic, IsSound}
use Rattle.resolver.proofs.SoundLemmas.Checked.{AreChecked}
use Rattle.resolver.proofs.SoundLemmas.NamedModels.{topics_named}
use Rattle.resolver.proofs.SoundLemmas.NoFault.{none_broken, none_before, none_behind, none_in_each}
use Rattle.resolver.proofs.ScopeLemmas.PlacedNames.{lists_placed}
use Rattle.resolver.proofs.SoundLemmas.SoundAttributes.{names_counted, all_listed, attributes_sound}
use Rattle.resolver.proofs.BuildLemmas.Within.{bounded_everywhere, bounded_topics}

-- domains that break no rule were checked
pub domains_checked : (s : Scope) → domains_faults s ≡ [] → AreBoundedDomains s.own → AreChecked s
domains_checked s e bounded =
    let doubles : List Fault = twice (names_of s.above) (map entry (domain_names s.own)) in
    let cycles : List Fault = cycle_faults (leads s) 0 s.own in
    let types : List Fault = flat_map (domain_faults s) s.own in
    let each : All (λ d. domain_faults s d ≡ []) s.own = none_in_each (domain_faults s) s.own
    (none_behind cycles types (none_behind doubles (cycles ++ types) e)) in
    λ i d lt. record {
      owner = (get_or s.own i d).name;
      clean = each i d lt;
      few = (bounded.each i d lt).names;
    }

table_sound : (tables : ℕ) (s : Scope) (t : TableSyntax) → length s.tables ≤ tables
    → AreChecked (outside s.above) → AreChecked s → table_faults s t ≡ [] → IsBoundedTable t
    → IsSoundTable tables (table s t)
table_sound tables s t le above own e bounded =
    let names : List Fault = names_faults t.attributes t.idents in
    let types : List Fault = attributes_faults s t.attributes in
    record {
      attributes =
          attributes_sound tables s t.attributes le above own
          (none_behind names types e) bounded.names;
      idents = subst (λ (n : ℕ). All (All (λ i. i < n)) (places t.attributes t.idents))
          (sym (all_listed s t.attributes))
          (lists_placed t.attributes t.idents (none_before names types e));
    }

topic_sound : (above : List DomainSyntax) (t : TopicSyntax) → AreChecked (outside above)
    → topic_faults above t ≡ [] → IsBoundedTopic t → IsSoundTopic (topic above t)
topic_sound above t checked e bounded =
    let s : Scope = inside above t in
    let domains : List Fault = domains_faults s in
    let tables : List Fault = tables_faults s t.tables in
    let doubles : List Fault = twice [] (flat_map (table_entries s) t.tables) in
    let own : AreChecked s = domains_checked s (none_before domains tables e) bounded.domains in
    let each : All (λ x. table_faults s x ≡ []) t.tables = none_in_each (table_faults s) t.tables
    (none_behind doubles (flat_map (table_faults s) t.tables) (none_behind domains tables e)) in
    let n : ℕ = length (map (table s) t.tables) in
    let le : length s.tables ≤ n = omega (
      arith,
      length-map t.tables (table s),
      length-map (table_names t.tables) (λ (x : Ident). x.text),
      length-map t.tables (λ (x : TableSyntax). x.name),
    ) in
    All-map (IsSoundTable n) (table s) t.tables
    (λ i x lt. table_sound n s (get_or t.tables i x) le checked own (each i x lt)
    (bounded.tables i x lt))

-- ---- names
tables_counted : (s : Scope) (ts : List TableSyntax)
    → sum_by resolved.table_name_count (map (table s) ts) ≤ sum_by written.table_names ts
tables_counted s [] = omega arith
tables_counted s (t ∷ ts) =
    omega (
      arith,
      tables_counted s ts,
      all_listed s t.attributes,
      names_counted t.attributes,
      sum_by-cons resolved.table_name_count (table s t) (map (table s) ts),
      sum_by-cons written.table_names t ts,
    )

topics_counted : (above : List DomainSyntax) (ts : List TopicSyntax)
    → sum_by resolved.topic_name_count (map (topic above) ts) ≤ sum_by written.topic_names ts
topics_counted above [] = omega arith
topics_counted above (t ∷ ts) =
    omega (
      arith,
      topics_counted above ts,
      tables_counted (inside above t) t.tables,
      sum_by-cons resolved.topic_name_count (topic above t) (map (topic above) ts),
      sum_by-cons written.topic_names t ts,
    )

pub is_sound : (m : ModelSyntax) → first_fault m ≡ None → IsWithinLimits m
    → IsSound (resolved_model m)
is_sound m e w =
    let outer : List Fault = domains_faults (outside (everywhere m)) in
    let names : List Fault = twice_in (map (λ t. t.name) m.topics) in
    let topics : List Fault = flat_map (topic_faults (everywhere m)) m.topics in
    let none : outer ++ (names ++ topics) ≡ [] = none_broken (faults m) e in
    let checked : AreChecked (outside (everywhere m)) = domains_checked (outside (everywhere m))
    (none_before outer (names ++ topics) none) (bounded_everywhere m w) in
    let each : All (λ t. topic_faults (everywhere m) t ≡ []) m.topics = none_in_each
    (topic_faults (everywhere m)) m.topics
    (none_behind names topics (none_behind outer (names ++ topics) none)) in
    record {
      few = omega (arith, topics_counted (everywhere m) m.topics, w.names);
      named = topics_named (everywhere m) m.topics w.named;
      codes = w.codes;
      topics = All-map IsSoundTopic (topic (everywhere m)) m.topics
          (λ i t lt. topic_sound (everywhere m) (get_or m.topics i t) checked (each i t lt)
          (bounded_topics m w i t lt));
    }
