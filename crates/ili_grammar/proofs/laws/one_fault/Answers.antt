use Rattle.ili_grammar.proofs.FirstFault.{no_model, same_fault}
use Rattle.ili_grammar.proofs.laws.one_fault.Goals as goal

pub returns : goal.returns
returns c = record { same = same_fault; no_model = λ w f m h x. no_model w f m h x }
