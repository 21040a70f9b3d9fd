use Rattle.ili_lexer.specs.declared.tokens.LexFault.{LexFault}
use Rattle.ili_lexer.specs.declared.tokens.LexFault.TheVariants.{BadByte, OpenExplanation}
use Rattle.ili_lexer.specs.declared.tokens.LexFault.TheVariants.{LongNumber, Memory}
use Rattle.std.proofs.Common.{ℕ, List}
use Rattle.ili_lexer.specs.Tokens.{IsFault, IsFaultByTable}
use Rattle.ili_lexer.proofs.Whole as whole
use Rattle.ili_lexer.proofs.laws.text_by_table.Goals as goal

pub returns-clause-tokens : goal.returns-clause-tokens
returns-clause-tokens c text ts g = whole.tokens_right text ts g

by_table : (text : List ℕ) (f : LexFault) → IsFault text f → IsFaultByTable text f
by_table text Memory h = tt
by_table text (BadByte l k) h = whole.fault_right text (BadByte l k) h
by_table text (OpenExplanation l k) h = whole.fault_right text (OpenExplanation l k) h
by_table text (LongNumber l k) h = whole.fault_right text (LongNumber l k) h

pub returns-clause-fault : goal.returns-clause-fault
returns-clause-fault c text f h = by_table text f h
