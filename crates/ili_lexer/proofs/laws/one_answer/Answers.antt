use Rattle.ili_lexer.proofs.Once as once
use Rattle.ili_lexer.proofs.laws.one_answer.Goals as goal

pub returns : goal.returns
returns c text i a b g h = once.one_answer text i a b g h
