use Rattle.ili_grammar.proofs.Follow.{by_token}
use Rattle.ili_grammar.proofs.Symbols.{no_explanation}
use Rattle.ili_grammar.specs.Tokens.{explanation}
use Rattle.ili_grammar.specs.Machine.{maybe_explanation}
use Rattle.std.proofs.Common.{◌+◌, [], refl}
use Rattle.ili_grammar.specs.Types.{unexplained}
use Rattle.ili_grammar.specs.Steps.{rest}
use Rattle.ili_grammar.proofs.RulesRead.{explained_read}
use Rattle.ili_grammar.proofs.source.Source.explanation.Goals as goal

pub returns-then-is-clause-reads : goal.returns-then-is-clause-reads
returns-then-is-clause-reads c =
    explained_read (rest c.args.self.now c.args.at)
    (rest c.args.self.now (c.args.at + 1)) c.if-is.ensures.here

pub returns-clause-reads : goal.returns-clause-reads
returns-clause-reads c = unexplained (rest c.args.self.now c.args.at)

pub returns-then-is-clause-runs : goal.returns-then-is-clause-runs
returns-then-is-clause-runs c =
    by_token maybe_explanation explanation [] _ _ (λ i. refl) c.if-is.ensures.here

pub returns-clause-runs : goal.returns-clause-runs
returns-clause-runs c = no_explanation (rest c.args.self.now c.args.at) c.if-is.ensures.here
