use Rattle.std.proofs.Common.{◌∙◌, ap}
use Rattle.ident_refs.specs.KeptViews.{all_kept_view, ids_view, named_view}
use Rattle.ident_refs.proofs.NamedRefs.{named_in, named_all}
use Rattle.ident_refs.proofs.sorted.Keys.rows_named.Goals as goal

pub returns : goal.returns
returns c l rows h =
    let ks = all_kept_view c.args.self.now.tables.now in
    named_in l rows ks c.args.table.0 c.args.column _ h
    (named_all _ c.args.column _ c.args.table.0 ks _ _
    (ap ids_view c.deref.ensures.value ∙ c.args.self.now.keys)
    c.refs_at-refs.ensures
    (ap named_view c.new-named.ensures.items)
    c.in_ok-add_all_named.ensures)
