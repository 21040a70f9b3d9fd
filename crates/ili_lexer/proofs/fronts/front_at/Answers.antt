use Rattle.std.proofs.Common.{arith}
use Rattle.std.proofs.lemmas.Grind.{common_steps}
use Rattle.ili_lexer.proofs.Orders.{lies_at}
use Rattle.ili_lexer.proofs.fronts.front_at.Goals as goal

pub returns-clause-lies : goal.returns-clause-lies
returns-clause-lies c =
    lies_at c.args.text.now c.args.offset c.read_front.result (grind (arith, common_steps))
