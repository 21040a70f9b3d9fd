use Rattle.ili_grammar.proofs.Follow.{by_token, by_way, handed, within}
use Rattle.ili_grammar.proofs.Symbols.{no_base_at}
use Rattle.ili_grammar.specs.Tokens.{BASE, explanation, word}
use Rattle.ili_grammar.specs.Machine.{maybe_base, want}
use Rattle.std.proofs.Common.{◌+◌, [], refl, ◌∷◌}
use Rattle.ili_grammar.specs.Types.{no_base}
use Rattle.ili_grammar.specs.Steps.{rest}
use Rattle.ili_grammar.proofs.RulesRead.{base_read}
use Rattle.ili_grammar.proofs.source.Source.base.Goals as goal

pub returns-then-not-is_keyword-clause-reads : goal.returns-then-not-is_keyword-clause-reads
returns-then-not-is_keyword-clause-reads c = no_base (rest c.args.self.now c.args.at)

pub returns-clause-reads : goal.returns-clause-reads
returns-clause-reads c =
    base_read (rest c.args.self.now c.args.at) (rest c.args.self.now (c.args.at + 1))
    (rest c.args.self.now c.in_ok-next.next) c.if-not-is_keyword.ensures.here
    c.in_ok-next.ensures.reads

pub returns-then-not-is_keyword-clause-runs : goal.returns-then-not-is_keyword-clause-runs
returns-then-not-is_keyword-clause-runs c =
    no_base_at (rest c.args.self.now c.args.at) c.if-not-is_keyword.ensures.here

pub returns-in_err-next-clause-stops : goal.returns-in_err-next-clause-stops
returns-in_err-next-clause-stops c =
    handed _ _ _ c.from_residual.ensures.1
    (within _ (by_token maybe_base (word BASE) (want explanation ∷ []) _ _
    (λ i. refl) c.if-not-is_keyword.ensures.here) c.in_err-next.ensures.stops)

pub returns-clause-runs : goal.returns-clause-runs
returns-clause-runs c =
    by_way _ (by_token maybe_base (word BASE) (want explanation ∷ []) _ _
    (λ i. refl) c.if-not-is_keyword.ensures.here) c.in_ok-next.ensures.runs
