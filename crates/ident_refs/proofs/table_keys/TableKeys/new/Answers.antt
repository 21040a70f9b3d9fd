use Rattle.std.proofs.Common.{ℕ, List, [], Option, ap, ◌∙◌}
use Rattle.ili_grammar.specs.Values.{codes_of}
use Rattle.resolver.specs.declared.models.Places.{Places}
use Rattle.resolver.specs.Values.{places_of}
use Rattle.table_layout.specs.Values.{table_view}
use Rattle.ident_refs.specs.KeptRows.{kept_lists}
use Rattle.ident_refs.specs.KeptViews.{refs_view, rows_view}
use Rattle.ident_refs.specs.SharedLists.{lists_view, picked}
use Rattle.ident_refs.proofs.NoRows.{kept_none}
use Rattle.ident_refs.proofs.table_keys.TableKeys.new.Goals as goal

pub returns : goal.returns
returns c =
    let codes = codes_of c.args.codes.now in
    let table = table_view c.args.table.now in
    kept_none (codes_of c.in_ok-new.field-0.codes.now) codes
    (table_view c.in_ok-new.field-0.table.now) table c.new-3.result.items c.new-4.result.items
    (picked (lists_view (rows_view c.new-5.result) c.in_ok-idents.idents.lists.items)
    c.in_ok-idents.idents.order.items) (refs_view c.new-6.result.items)
    (ap codes_of c.in_ok-new.ensures.codes)
    (ap table_view c.in_ok-new.ensures.table) c.new-3.ensures.items c.new-4.ensures.items
    (ap (λ (rows : List (List (Option (List ℕ)))). picked
    (lists_view rows c.in_ok-idents.idents.lists.items) c.in_ok-idents.idents.order.items)
    c.new-5.ensures
    ∙ c.in_ok-idents.ensures codes table
    ∙ ap (λ (ps : List Places). kept_lists codes table [] (places_of ps)) c.deref.ensures.value)
    (ap refs_view c.new-6.ensures.items)
