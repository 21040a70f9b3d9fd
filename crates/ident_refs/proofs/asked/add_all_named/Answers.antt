use Rattle.ident_refs.specs.KeptRows.{ref_names}
use Rattle.ident_refs.specs.KeptViews.{ref_view, ids_view, named_view}
use Rattle.ident_refs.proofs.FlatSteps.{flat_step}
use Rattle.ident_refs.proofs.asked.add_all_named.Goals as goal

pub loop-reference-preserved : goal.loop-reference-preserved
loop-reference-preserved c =
    flat_step ref_view (ref_names (ids_view c.args.ids.now) c.args.column)
    c.loop-reference.reference-index c.args.refs.now c.reference-item.result
    (named_view c.loop-reference.named.items) _ _
    c.loop-reference-test.true c.reference-item.is c.in_ok-add_named.ensures
    c.loop-reference.invariant
