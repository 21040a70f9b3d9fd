use Rattle.std.proofs.Common.{◌≡◌, ◌<◌, [], length, take}
use Rattle.std.specs.List.{All}
use Rattle.ili_grammar.specs.Syntax.{Codes}
use Rattle.resolver.specs.Values.{places_of}
use Rattle.table_layout.specs.Layouts.{Table}
use Rattle.ident_refs.specs.KeptRows.{kept_lists}
use Rattle.ident_refs.specs.SharedLists.{AreBare, AreNumbered, lists_view, picked}
use Rattle.ident_refs.proofs.ident_lists.IdentLists.new.Given as goal

abbrev pub invariant-loop-place : goal.invariant-loop-place
invariant-loop-place l = record {
  bare : AreBare l.kept.items;
  numbered : AreNumbered l.parts.items l.kept.items;
  within : All (λ j. j < length l.kept.items) l.order.items;
  done : (codes : Codes) (t : Table)
      → picked (lists_view [] l.kept.items) l.order.items
      ≡ kept_lists codes t [] (places_of (take l.place l.lists));
}
