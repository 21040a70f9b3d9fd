use Rattle.ili_grammar.specs.Values.{model_of}
use Rattle.commands.proofs.ModelTextLemmas.{faulty_of, spelt_of, read_as}
use Rattle.commands.proofs.Results.{if_ok}
use Rattle.commands.proofs.model.read_model.Goals as goal

pub returns-in-Syntax-clause-reads : goal.returns-in-Syntax-clause-reads
returns-in-Syntax-clause-reads c =
    if_ok _ _ c.lay_out.result
    (λ x h. read_as c.args.text.now (model_of c.in-Syntax.syntax) x
    (spelt_of c.args.text.now c.in_ok-syntax.field-0 c.in-Syntax.syntax
    c.in_ok-syntax.ensures.reads c.in-Syntax.is) h)
    c.lay_out.ensures.laid

pub returns-in-Refused-clause-reads : goal.returns-in-Refused-clause-reads
returns-in-Refused-clause-reads c =
    faulty_of c.args.text.now c.in_ok-syntax.field-0 c.in-Refused.refusal
    c.in_ok-syntax.ensures.reads c.in-Refused.is
