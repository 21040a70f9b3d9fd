use Rattle.std.proofs.Common.{◌-◌, length}
use Rattle.ili_lexer.specs.Places.{StandsAt}
use Rattle.ili_lexer.proofs.Progress.{HasRead}
use Rattle.ili_lexer.proofs.lexing.lex.Given as goal

abbrev pub invariant-loop-tokens : goal.invariant-loop-tokens
invariant-loop-tokens l = record {
  stands : StandsAt l.text l.place.offset l.place.line l.place.column;
  read : HasRead l.text l.place.offset l.tokens.items;
}

abbrev pub decreases-loop-tokens : goal.decreases-loop-tokens
decreases-loop-tokens l = length l.text - l.place.offset
