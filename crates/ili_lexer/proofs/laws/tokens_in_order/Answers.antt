use Rattle.ili_lexer.proofs.Orders.{in_order}
use Rattle.ili_lexer.proofs.laws.tokens_in_order.Goals as goal

pub returns : goal.returns
returns c text ts g = in_order text ts g
