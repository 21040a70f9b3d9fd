use Rattle.std.proofs.Common.{◌≡◌, ◌++◌, drop, map}
use Rattle.std.specs.List.{flat_map}
use Rattle.ident_refs.specs.KeptRows.{ref_names}
use Rattle.ident_refs.specs.KeptViews.{ref_view, ids_view, named_view}
use Rattle.ident_refs.proofs.asked.add_all_named.Given as goal

abbrev pub invariant-loop-reference : goal.invariant-loop-reference
invariant-loop-reference l =
    named_view l.named.items ++ flat_map (ref_names (ids_view l.ids) l.column)
    (drop l.reference-index (map ref_view l.refs))
    ≡ named_view l.fn.named.items ++ flat_map (ref_names (ids_view l.ids) l.column)
    (map ref_view l.refs)
