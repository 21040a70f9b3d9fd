use Rattle.ili_lexer.proofs.ByTable as table
use Rattle.ili_lexer.proofs.laws.front_by_table.Goals as goal

pub returns-clause-stands : goal.returns-clause-stands
returns-clause-stands c text = table.stands_at_front text

pub returns-clause-found : goal.returns-clause-found
returns-clause-found c text f h = table.is_found text f h

pub returns-clause-met : goal.returns-clause-met
returns-clause-met c text k n s = table.token_is_met text k n s
