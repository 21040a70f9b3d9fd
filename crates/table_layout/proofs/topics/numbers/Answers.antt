use Rattle.std.proofs.Common.{◌≡◌, map, ap, ◌∙◌, arith}
use Rattle.std.proofs.lemmas.Grind.{common_steps}
use Rattle.resolver.specs.Values.{attribute_of}
use Rattle.table_layout.specs.Tables.{areas_in, surfaces_in}
use Rattle.table_layout.proofs.Steps.{few_read, tables_in_step, numbers_step}
use Rattle.table_layout.proofs.topics.numbers.Goals as goal

pub areas_in-requires : goal.areas_in-requires
areas_in-requires c =
    record {
      few = few_read c.args.tables.now c.loop-table.table-index c.table-item.result
          c.deref.result.now c.loop-table-test.true c.table-item.is c.requires.small
          c.deref.ensures.value;
    }

pub overflow_add-main : goal.overflow_add-main
overflow_add-main c =
    let areas : c.areas_in.result ≡ areas_in
    (map attribute_of c.table-item.result.attributes.items) =
    c.areas_in.ensures.value ∙ ap (λ s. areas_in (map attribute_of s)) c.deref.ensures.value in
    let step = tables_in_step c.args.tables.now c.loop-table.table-index c.table-item.result
    c.loop-table-test.true c.table-item.is in
    omega arith

pub overflow_add-next : goal.overflow_add-next
overflow_add-next c =
    let areas : c.areas_in.result ≡ areas_in
    (map attribute_of c.table-item.result.attributes.items) =
    c.areas_in.ensures.value ∙ ap (λ s. areas_in (map attribute_of s)) c.deref.ensures.value in
    let step = tables_in_step c.args.tables.now c.loop-table.table-index c.table-item.result
    c.loop-table-test.true c.table-item.is in
    omega arith

pub surfaces_in-requires : goal.surfaces_in-requires
surfaces_in-requires c =
    record {
      few = few_read c.args.tables.now c.loop-table.table-index c.table-item.result
          c.deref-in-loop-table.result.now c.loop-table-test.true c.table-item.is c.requires.small
          c.deref-in-loop-table.ensures.value;
    }

pub overflow_add-next-in-loop-table : goal.overflow_add-next-in-loop-table
overflow_add-next-in-loop-table c =
    let areas : c.areas_in.result ≡ areas_in
    (map attribute_of c.table-item.result.attributes.items) =
    c.areas_in.ensures.value ∙ ap (λ s. areas_in (map attribute_of s)) c.deref.ensures.value in
    let surfaces : c.surfaces_in.result
    ≡ surfaces_in (map attribute_of c.table-item.result.attributes.items) =
    c.surfaces_in.ensures.value
    ∙ ap (λ s. surfaces_in (map attribute_of s)) c.deref-in-loop-table.ensures.value in
    let step = tables_in_step c.args.tables.now c.loop-table.table-index c.table-item.result
    c.loop-table-test.true c.table-item.is in
    omega arith

pub loop-table-preserved : goal.loop-table-preserved
loop-table-preserved c =
    let areas : c.areas_in.result ≡ areas_in
    (map attribute_of c.table-item.result.attributes.items) =
    c.areas_in.ensures.value ∙ ap (λ s. areas_in (map attribute_of s)) c.deref.ensures.value in
    let surfaces : c.surfaces_in.result
    ≡ surfaces_in (map attribute_of c.table-item.result.attributes.items) =
    c.surfaces_in.ensures.value
    ∙ ap (λ s. surfaces_in (map attribute_of s)) c.deref-in-loop-table.ensures.value in
    let step = tables_in_step c.args.tables.now c.loop-table.table-index c.table-item.result
    c.loop-table-test.true c.table-item.is in
    let numbers = numbers_step c.loop-table.next c.args.tables.now c.loop-table.table-index
    c.table-item.result c.loop-table-test.true c.table-item.is in
    (omega arith, grind (arith, common_steps))
