use Rattle.std.proofs.Common.{rules}
use Rattle.ili_lexer.proofs.Progress.{read_on, read_token, read_all, read_bad_byte}
use Rattle.ili_lexer.proofs.Progress.{read_open_explanation, read_long_number}
use Rattle.ili_lexer.proofs.Orders.{in_order}
use Rattle.ili_lexer.proofs.lexing.lex.Goals as goal

pub returns-in-End-clause-tokens : goal.returns-in-End-clause-tokens
returns-in-End-clause-tokens c =
    read_all c.args.text.now c.loop-tokens.place.offset c.loop-tokens.tokens.items
    c.in-End.ensures.front c.loop-tokens.invariant.read

pub returns-in-End-clause-in_order : goal.returns-in-End-clause-in_order
returns-in-End-clause-in_order c =
    in_order c.args.text.now c.loop-tokens.tokens.items
    (read_all c.args.text.now c.loop-tokens.place.offset c.loop-tokens.tokens.items
    c.in-End.ensures.front c.loop-tokens.invariant.read)

pub loop-tokens-preserved-in-Passed : goal.loop-tokens-preserved-in-Passed
loop-tokens-preserved-in-Passed c = record {
  stands = c.moved_to-place.ensures.stands;
  read = read_on c.args.text.now c.loop-tokens.place.offset c.in-Passed.length
      c.moved_to-place.result.offset c.loop-tokens.tokens.items c.moved_to-place.ensures.offset
      c.in-Passed.ensures.front c.loop-tokens.invariant.read;
}

pub loop-tokens-preserved : goal.loop-tokens-preserved
loop-tokens-preserved c = record {
  stands = c.moved_to-next.ensures.stands;
  read = read_token c.args.text.now c.loop-tokens.place.offset c.in-Token.length
      c.moved_to-next.result.offset c.loop-tokens.place.line c.loop-tokens.place.column
      c.in-Token.kind
      c.loop-tokens.tokens.items c.push.new.self.items c.loop-tokens.invariant.stands
      c.moved_to-next.ensures.offset c.in-Token.ensures.front
      (search rules) c.loop-tokens.invariant.read;
}

pub returns-in-BadByte-clause-fault : goal.returns-in-BadByte-clause-fault
returns-in-BadByte-clause-fault c =
    read_bad_byte c.args.text.now c.loop-tokens.place.offset c.loop-tokens.place.line
    c.loop-tokens.place.column c.loop-tokens.tokens.items c.loop-tokens.invariant.stands
    c.in-BadByte.ensures.front c.loop-tokens.invariant.read

pub returns-in-OpenExplanation-clause-fault : goal.returns-in-OpenExplanation-clause-fault
returns-in-OpenExplanation-clause-fault c =
    read_open_explanation c.args.text.now c.loop-tokens.place.offset c.loop-tokens.place.line
    c.loop-tokens.place.column c.loop-tokens.tokens.items c.loop-tokens.invariant.stands
    c.in-OpenExplanation.ensures.front c.loop-tokens.invariant.read

pub returns-in-LongNumber-clause-fault : goal.returns-in-LongNumber-clause-fault
returns-in-LongNumber-clause-fault c =
    read_long_number c.args.text.now c.loop-tokens.place.offset c.loop-tokens.place.line
    c.loop-tokens.place.column c.loop-tokens.tokens.items c.loop-tokens.invariant.stands
    c.in-LongNumber.ensures.front c.loop-tokens.invariant.read
