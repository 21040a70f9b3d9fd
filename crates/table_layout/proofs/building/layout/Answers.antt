use Rattle.std.proofs.Common.{◌≡◌, List, ap, ◌∙◌, refl, sym, subst, arith, length}
use Rattle.std.proofs.lemmas.List.{length-map}
use Rattle.std.specs.List.{All}
use Rattle.resolver.specs.declared.models.Topic.{Topic}
use Rattle.resolver.specs.Values.{model_of, topics_of}
use Rattle.table_layout.specs.declared.layouts.Table.{Table}
use Rattle.table_layout.specs.Few.{IsSmallTopic, numbers_in}
use Rattle.table_layout.specs.Tables.{tables_from, areas_from, topic_names_of}
use Rattle.table_layout.specs.Values.{layout_view, table_view, tables_view, areas_view}
use Rattle.table_layout.proofs.Counts.{numbers_few, small_topics}
use Rattle.table_layout.proofs.Validity.{few_tables, valid}
use Rattle.table_layout.proofs.building.layout.Goals as goal

pub tables-requires-clause-few : goal.tables-requires-clause-few
tables-requires-clause-few c =
    omega (
      arith,
      numbers_few (topics_of c.args.model.now.topics.items),
      c.requires.few,
      ap (λ (s : List Topic). numbers_in (topics_of s)) c.deref.ensures.value,
    )

pub tables-requires-clause-small : goal.tables-requires-clause-small
tables-requires-clause-small c =
    subst (λ (s : List Topic). All IsSmallTopic (topics_of s)) (sym c.deref.ensures.value)
    (small_topics (topics_of c.args.model.now.topics.items) c.requires.few c.requires.topics)

pub areas-requires : goal.areas-requires
areas-requires c =
    let tables : tables_view c.in_ok-tables.tables.items
    ≡ tables_from 0 0 (topics_of c.args.model.now.topics.items) =
    c.in_ok-tables.ensures
    ∙ ap (λ (s : List Topic). tables_from 0 0 (topics_of s)) c.deref.ensures.value in
    record {
      few = omega (
        arith,
        few_tables (model_of c.args.model.now)
            (tables_view c.in_ok-tables.tables.items) c.requires tables,
        length-map c.in_ok-tables.tables.items table_view,
        ap (length {A = Table}) c.deref-2.ensures.value,
      );
    }

pub returns-clause-valid : goal.returns-clause-valid
returns-clause-valid c =
    let tables : tables_view c.in_ok-tables.tables.items
    ≡ tables_from 0 0 (topics_of c.args.model.now.topics.items) =
    c.in_ok-tables.ensures
    ∙ ap (λ (s : List Topic). tables_from 0 0 (topics_of s)) c.deref.ensures.value in
    let areas : areas_view c.in_ok-areas.areas.items
    ≡ areas_from (tables_view c.in_ok-tables.tables.items) 0
    (tables_view c.in_ok-tables.tables.items) =
    c.in_ok-areas.ensures
    ∙ ap (λ (s : List Table). areas_from (tables_view s) 0 (tables_view s))
    c.deref-2.ensures.value in
    let names : c.in_ok-names.field-0.items
    ≡ topic_names_of (topics_of c.args.model.now.topics.items) =
    c.in_ok-names.ensures
    ∙ ap (λ (s : List Topic). topic_names_of (topics_of s)) c.deref-3.ensures.value in
    valid (model_of c.args.model.now)
    (layout_view (record {
      model = c.in_ok-copied.field-0;
      codes = c.args.model.now.codes;
      topics = c.in_ok-names.field-0;
      tables = c.in_ok-tables.tables;
      areas = c.in_ok-areas.areas;
    })) c.requires refl names tables areas
