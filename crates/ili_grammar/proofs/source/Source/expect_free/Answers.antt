use Rattle.ili_grammar.proofs.Follow.{goes_want}
use Rattle.ili_grammar.proofs.Stops.{stops_free}
use Rattle.ili_grammar.specs.Steps.{all, rest}
use Rattle.ili_grammar.specs.Tokens.{FREE, word}
use Rattle.ili_grammar.proofs.source.Source.expect_free.Goals as goal

pub returns-then-is_keyword-clause-runs : goal.returns-then-is_keyword-clause-runs
returns-then-is_keyword-clause-runs c = goes_want (word FREE) _ _ c.if-is_keyword.ensures.here

pub returns-clause-stops : goal.returns-clause-stops
returns-clause-stops c =
    stops_free (all c.args.self.now) (rest c.args.self.now c.args.at) _ c.if-is_keyword.ensures.here
    c.fault.ensures
