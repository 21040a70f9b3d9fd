use Rattle.ili_lexer.proofs.ByTable as table
use Rattle.ili_lexer.proofs.laws.one_kind.Goals as goal

pub returns : goal.returns
returns c j k bytes s t = table.one_kind j k bytes s t
