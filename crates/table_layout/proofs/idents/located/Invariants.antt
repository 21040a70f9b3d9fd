use Rattle.std.proofs.Common.{◌≡◌, ◌++◌, List, ℕ, drop}
use Rattle.std.specs.Option.{option_map}
use Rattle.table_layout.specs.Attributes.{list_at}
use Rattle.table_layout.proofs.idents.located.Given as goal

abbrev pub invariant-loop-attribute : goal.invariant-loop-attribute
invariant-loop-attribute l =
    option_map (λ (ps : List ℕ). l.located.items ++ ps)
    (list_at l.places (drop l.attribute-index l.list)) ≡ list_at l.places l.list
