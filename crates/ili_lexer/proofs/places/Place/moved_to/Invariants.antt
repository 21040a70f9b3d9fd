use Rattle.ili_lexer.specs.Places.{StandsAt}
use Rattle.ili_lexer.proofs.places.Place.moved_to.Given as goal

abbrev pub invariant-loop-i : goal.invariant-loop-i
invariant-loop-i l = StandsAt l.text l.i l.line l.column
