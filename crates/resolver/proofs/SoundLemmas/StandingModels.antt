-- A model that breaks no rule stands for what is written.
use Rattle.std.proofs.Common.{◌≡◌, ℕ, ◌+◌, true, List, [], ◌++◌, map, slice_get, get_or, Some, None}
use Rattle.std.proofs.Common.{refl, ap, sym, ◌∙◌, subst, arith}
use Rattle.std.proofs.lemmas.Option.{slice_get_within, get_or_from_slice_get}
use Rattle.std.specs.List.{All, flat_map}
use Rattle.ili_grammar.specs.Syntax.{Ident, DomainSyntax, TableSyntax, TopicSyntax, ModelSyntax}
use Rattle.ili_grammar.specs.Limits.{IsWithinLimits}
use Rattle.resolver.specs.Faults.{Fault}
use Rattle.resolver.specs.Limits.{AreFew, IsBoundedTable, IsBoundedTopic}
use Rattle.resolver.specs.Models.{table, topic, resolved_model}
use Rattle.resolver.specs.Rules.{twice, twice_in, entry, cycle_faults, domain_faults}
use Rattle.resolver.specs.Rules.{domains_faults, names_faults, attributes_faults, table_entries}
use Rattle.resolver.specs.Rules.{table_faults, tables_faults, topic_faults, faults, first_fault}
use Rattle.resolver.specs.Scopes.{Scope, name_alone, is_visible, names_of, domain_names, leads}
use Rattle.resolver.specs.Scopes.{comes_to, longest, everywhere, outside, inside}
use Rattle.resolver.specs.Standing.{IsTable, IsTopic, IsModel}
use Rattle.resolver.proofs.SoundLemmas.Checked.{AreChecked}
use Rattle.resolver.proofs.ScopeLemmas.Ends.{AreEnding, no_cycles}
use Rattle.resolver.proofs.SoundLemmas.NoFault.{none_broken, none_before, none_behind, none_in_each}
use Rattle.resolver.proofs.SoundLemmas.SoundModels.{domains_checked}
use Rattle.resolver.proofs.SoundLemmas.StandingAttributes.{IsFaultless, attributes_kept}
use Rattle.resolver.proofs.SoundLemmas.StandingAttributes.{idents_kept, zip_map}
use Rattle.resolver.proofs.SoundLemmas.StandingForms.{named_visible}
use Rattle.resolver.proofs.BuildLemmas.Within.{bounded_everywhere, bounded_topics}

-- the ways of domains that break no rule end
domains_end : (s : Scope) → domains_faults s ≡ [] → AreFew s.own → AreEnding s
domains_end s e few =
    let doubles : List Fault = twice (names_of s.above) (map entry (domain_names s.own)) in
    let cycles : List Fault = cycle_faults (leads s) 0 s.own in
    let types : List Fault = flat_map (domain_faults s) s.own in
    let rest : cycles ++ types ≡ [] = none_behind doubles (cycles ++ types) e in
    record {
      visible = λ i d n at q. seen (none_behind cycles types rest) i d n at q;
      no_cycle = λ i lt. let zero_more : 0 + i ≡ i = omega arith in
          ap (λ (k : ℕ). comes_to (leads s) k longest k) (sym zero_more)
          ∙ no_cycles (leads s) 0 i s.own (none_before cycles types rest) lt;
      few = few;
    }
  where
    seen : flat_map (domain_faults s) s.own ≡ [] → (i : ℕ) (d : DomainSyntax) (n : Ident)
        → slice_get s.own i ≡ Some d → name_alone d.kind ≡ Some n → is_visible s n.text ≡ true
    seen h i d n at q =
        let clean : domain_faults s (get_or s.own i d)
        ≡ [] = none_in_each (domain_faults s) s.own h i d (slice_get_within s.own i d at) in
        named_visible s d.name d.kind n q
        (subst (λ (x : DomainSyntax). domain_faults s x ≡ [])
        (get_or_from_slice_get s.own i d d at) clean)

table_kept : (s : Scope) (t : TableSyntax) → IsFaultless s → table_faults s t ≡ []
    → IsBoundedTable t → IsTable s t (table s t)
table_kept s t f e bounded =
    let names : List Fault = names_faults t.attributes t.idents in
    let types : List Fault = attributes_faults s t.attributes in
    record {
      name = refl;
      attributes = attributes_kept s t.attributes f (none_behind names types e) bounded.names;
      idents = idents_kept t.attributes t.idents (none_before names types e);
    }

topic_kept : (above : List DomainSyntax) (t : TopicSyntax) → AreChecked (outside above)
    → AreEnding (outside above) → topic_faults above t ≡ [] → IsBoundedTopic t
    → IsTopic above t (topic above t)
topic_kept above t checked ends e bounded =
    let s : Scope = inside above t in
    let domains : List Fault = domains_faults s in
    let tables : List Fault = tables_faults s t.tables in
    let doubles : List Fault = twice [] (flat_map (table_entries s) t.tables) in
    let own : domains ≡ [] = none_before domains tables e in
    let f : IsFaultless s = record {
      outer = checked;
      own = domains_checked s own bounded.domains;
      outer_ends = ends;
      own_ends = domains_end s own bounded.domains.few;
    } in
    let each : All (λ x. table_faults s x ≡ []) t.tables = none_in_each (table_faults s) t.tables
    (none_behind doubles (flat_map (table_faults s) t.tables) (none_behind domains tables e)) in
    record {
      name = refl;
      tables = zip_map (IsTable s) (table s) t.tables
          (λ i x lt. table_kept s (get_or t.tables i x) f (each i x lt) (bounded.tables i x lt));
    }

pub is_kept : (m : ModelSyntax) → first_fault m ≡ None → IsWithinLimits m
    → IsModel m (resolved_model m)
is_kept m e w =
    let outer : List Fault = domains_faults (outside (everywhere m)) in
    let names : List Fault = twice_in (map (λ t. t.name) m.topics) in
    let topics : List Fault = flat_map (topic_faults (everywhere m)) m.topics in
    let none : outer ++ (names ++ topics) ≡ [] = none_broken (faults m) e in
    let out : outer ≡ [] = none_before outer (names ++ topics) none in
    let checked : AreChecked (outside (everywhere m)) = domains_checked (outside (everywhere m)) out
    (bounded_everywhere m w) in
    let ends : AreEnding (outside (everywhere m)) = domains_end (outside (everywhere m)) out
    (bounded_everywhere m w).few in
    let each : All (λ t. topic_faults (everywhere m) t ≡ []) m.topics = none_in_each
    (topic_faults (everywhere m)) m.topics
    (none_behind names topics (none_behind outer (names ++ topics) none)) in
    record {
      name = refl;
      codes = refl;
      topics = zip_map (IsTopic (everywhere m)) (topic (everywhere m)) m.topics
          (λ i t lt. topic_kept (everywhere m) (get_or m.topics i t) checked ends (each i t lt)
          (bounded_topics m w i t lt));
    }
