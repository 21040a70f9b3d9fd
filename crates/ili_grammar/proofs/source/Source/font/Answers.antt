use Rattle.ili_grammar.specs.Machine.{maybe_font, want}
use Rattle.ili_grammar.specs.Tokens.{FONT, equals, explanation, semicolon, word}
use Rattle.ili_grammar.proofs.Symbols.{no_font_at}
use Rattle.ili_grammar.proofs.Follow.{after, and, by_token, by_way, first, handed, within}
use Rattle.std.proofs.Common.{◌+◌, [], refl, ◌∷◌}
use Rattle.ili_grammar.specs.Steps.{rest}
use Rattle.ili_grammar.specs.Models.{no_font}
use Rattle.ili_grammar.proofs.ModelsRead.{font_read}
use Rattle.ili_grammar.proofs.source.Source.font.Goals as goal

pub returns-then-not-is_keyword-clause-reads : goal.returns-then-not-is_keyword-clause-reads
returns-then-not-is_keyword-clause-reads c = no_font (rest c.args.self.now c.args.at)

pub returns-clause-reads : goal.returns-clause-reads
returns-clause-reads c =
    let r = rest c.args.self.now in
    font_read (r c.args.at) (r (c.args.at + 1)) (r c.in_ok-next.next) (r c.in_ok-next-2.next)
    (r c.in_ok-next-3.next) c.if-not-is_keyword.ensures.here c.in_ok-next.ensures.reads
    c.in_ok-next-2.ensures.reads c.in_ok-next-3.ensures.reads

pub returns-then-not-is_keyword-clause-runs : goal.returns-then-not-is_keyword-clause-runs
returns-then-not-is_keyword-clause-runs c =
    no_font_at (rest c.args.self.now c.args.at) c.if-not-is_keyword.ensures.here

pub returns-in_err-next-clause-stops : goal.returns-in_err-next-clause-stops
returns-in_err-next-clause-stops c =
    handed _ _ _ c.from_residual.ensures.1
    (within _ (by_token maybe_font (word FONT)
    (want equals ∷ want explanation ∷ want semicolon ∷ []) _ _
    (λ i. refl) c.if-not-is_keyword.ensures.here) (first _ c.in_err-next.ensures.stops))

pub returns-in_err-next-2-clause-stops : goal.returns-in_err-next-2-clause-stops
returns-in_err-next-2-clause-stops c =
    handed _ _ _ c.from_residual-in_err-next-2.ensures.1
    (within _ (by_token maybe_font (word FONT)
    (want equals ∷ want explanation ∷ want semicolon ∷ []) _ _
    (λ i. refl) c.if-not-is_keyword.ensures.here)
    (after c.in_ok-next.ensures.runs (first _ c.in_err-next-2.ensures.stops)))

pub returns-in_err-next-3-clause-stops : goal.returns-in_err-next-3-clause-stops
returns-in_err-next-3-clause-stops c =
    handed _ _ _ c.from_residual-in_err-next-3.ensures.1
    (within _ (by_token maybe_font (word FONT)
    (want equals ∷ want explanation ∷ want semicolon ∷ []) _ _
    (λ i. refl) c.if-not-is_keyword.ensures.here)
    (after c.in_ok-next.ensures.runs
    (after c.in_ok-next-2.ensures.runs (c.in_err-next-3.ensures.stops))))

pub returns-clause-runs : goal.returns-clause-runs
returns-clause-runs c =
    by_way _ (by_token maybe_font (word FONT)
    (want equals ∷ want explanation ∷ want semicolon ∷ []) _ _
    (λ i. refl) c.if-not-is_keyword.ensures.here)
    (and c.in_ok-next.ensures.runs (and c.in_ok-next-2.ensures.runs (c.in_ok-next-3.ensures.runs)))
