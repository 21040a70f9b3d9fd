use Rattle.std.proofs.Common.{arith}
use Rattle.std.proofs.lemmas.List.{length-map}
use Rattle.ili_grammar.specs.Syntax.{Ident}
use Rattle.resolver.specs.NameIndexes.{names_in}
use Rattle.resolver.specs.Scopes.{texts}
use Rattle.resolver.proofs.ScopeLemmas.Levels.{place_below}
use Rattle.resolver.proofs.build.values.number.Goals as goal

pub overflow_cast-result : goal.overflow_cast-result
overflow_cast-result c =
    omega (
      arith,
      place_below c.args.name.now
          (texts (names_in c.args.names.now)) c.in-Some.place c.in-Some.ensures,
      length-map (names_in c.args.names.now) (λ (n : Ident). n.text),
    )
