use Rattle.ili_grammar.proofs.Stops.{fault_here, fault_at_end}
use Rattle.ili_grammar.proofs.source.Source.fault.Goals as goal

pub returns-then-at-self : goal.returns-then-at-self
returns-then-at-self c =
    fault_here c.args.self.now.text.now c.args.self.now.tokens.now c.args.at c.args.wanted
    c.code.result c.if-at-self.true c.code.ensures

pub returns-else-at-self : goal.returns-else-at-self
returns-else-at-self c =
    fault_at_end c.args.self.now.text.now c.args.self.now.tokens.now c.args.at c.args.wanted
    c.if-at-self.false
