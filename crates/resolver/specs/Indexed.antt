-- Names that the code keeps, and what an index of names answers.
use Rattle.std.specs.Prelude.{◌≡◌, ℕ, List, map, Option}
use Rattle.std.specs.Borrow.{Bor}
use Rattle.ili_grammar.specs.declared.syntax.Ident as ident
use Rattle.ili_grammar.specs.Syntax.{Ident}
use Rattle.ili_grammar.specs.Values.{ident_of}
use Rattle.resolver.specs.Scopes.{place}
use Rattle.resolver.specs.Scopes.{texts}

abbrev pub idents : List (Bor ident.Ident) → List Ident
idents ns = map (λ n. ident_of n.now) ns

-- it gives the place of the first that has a name
abbrev pub IsIndex : (List ℕ → Option ℕ) → List Ident → Type 0
IsIndex look names = (name : List ℕ) → look name ≡ place name (texts names)
