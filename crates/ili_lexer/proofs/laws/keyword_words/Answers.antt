use Rattle.ili_lexer.proofs.Words as words
use Rattle.ili_lexer.proofs.laws.keyword_words.Goals as goal

pub returns-clause-known : goal.returns-clause-known
returns-clause-known c k = words.known k

pub returns-clause-found : goal.returns-clause-found
returns-clause-found c w k h = words.found w k h
