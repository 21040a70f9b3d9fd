use Rattle.ili_grammar.specs.Slices.{kind_of}
use Rattle.ili_grammar.proofs.Follow.{goes_want}
use Rattle.ili_grammar.proofs.Stops.{stops_want}
use Rattle.ili_grammar.specs.Steps.{all, rest}
use Rattle.ili_grammar.proofs.source.Source.expect.Goals as goal

pub returns-then-is-clause-runs : goal.returns-then-is-clause-runs
returns-then-is-clause-runs c = goes_want (kind_of c.args.kind) _ _ c.if-is.ensures.here

pub returns-clause-stops : goal.returns-clause-stops
returns-clause-stops c =
    stops_want (all c.args.self.now) (rest c.args.self.now c.args.at)
    (kind_of c.args.kind) _ c.requires c.if-is.ensures.here c.fault.ensures
