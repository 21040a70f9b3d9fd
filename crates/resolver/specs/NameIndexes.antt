-- What an index of names holds.
use Rattle.std.specs.Prelude.{List, [], Option, Some, None}
use Rattle.std.specs.Borrow.{Bor}
use Rattle.ili_grammar.specs.Syntax.{Ident}
use Rattle.resolver.specs.declared.scope.name_index.NameIndex.{NameIndex}
use Rattle.resolver.specs.Indexed.{idents}

abbrev pub names_in : NameIndex → List Ident
names_in d = idents d.names.items

-- none where there is no index
abbrev pub names_if : Option (Bor NameIndex) → List Ident
names_if None = []
names_if (Some d) = names_in d.now
