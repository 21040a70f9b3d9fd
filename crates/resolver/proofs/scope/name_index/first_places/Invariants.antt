use Rattle.std.proofs.Common.{◌≡◌, ℕ, List, drop, nat_eq}
use Rattle.std.specs.Cmp.Lexicographic.{pointwise}
use Rattle.std.specs.List.{position_from}
use Rattle.indexmap.specs.IndexMap.{get}
use Rattle.resolver.specs.Scopes.{same}
use Rattle.resolver.specs.Scopes.{texts}
use Rattle.resolver.specs.Indexed.{idents}
use Rattle.resolver.proofs.scope.name_index.first_places.Given as goal

abbrev pub invariant-loop-place : goal.invariant-loop-place
invariant-loop-place l = (name : List ℕ)
    → get (pointwise nat_eq) l.places name
    ≡ position_from (same name) l.place (texts (idents (drop l.place l.names)))
