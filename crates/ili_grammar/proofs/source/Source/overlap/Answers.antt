use Rattle.ili_grammar.proofs.Symbols.{no_overlap_at}
use Rattle.ili_grammar.specs.Tokens.{OVERLAPS, WITHOUT, greater, number, word}
use Rattle.ili_grammar.proofs.Follow.{after, and, by_token, by_way, first, handed, within}
use Rattle.ili_grammar.specs.Machine.{maybe_overlap, want}
use Rattle.std.proofs.Common.{◌+◌, [], refl, ◌∷◌}
use Rattle.ili_grammar.specs.Types.{no_overlap}
use Rattle.ili_grammar.specs.Values.{decimal_of}
use Rattle.ili_grammar.specs.Steps.{rest}
use Rattle.ili_grammar.proofs.RulesRead.{overlap_read}
use Rattle.ili_grammar.proofs.source.Source.overlap.Goals as goal

pub returns-then-not-is_keyword-clause-reads : goal.returns-then-not-is_keyword-clause-reads
returns-then-not-is_keyword-clause-reads c = no_overlap (rest c.args.self.now c.args.at)

pub returns-clause-reads : goal.returns-clause-reads
returns-clause-reads c =
    let r = rest c.args.self.now in
    overlap_read (r c.args.at) (r (c.args.at + 1)) (r c.in_ok-next.next) (r c.in_ok-next-2.next)
    (r c.in_ok-overlap.next) (decimal_of c.in_ok-overlap.overlap)
    c.if-not-is_keyword.ensures.here c.in_ok-next.ensures.reads c.in_ok-next-2.ensures.reads
    c.in_ok-overlap.ensures.reads

pub returns-then-not-is_keyword-clause-runs : goal.returns-then-not-is_keyword-clause-runs
returns-then-not-is_keyword-clause-runs c =
    no_overlap_at (rest c.args.self.now c.args.at) c.if-not-is_keyword.ensures.here

pub returns-in_err-next-clause-stops : goal.returns-in_err-next-clause-stops
returns-in_err-next-clause-stops c =
    handed _ _ _ c.from_residual.ensures.1
    (within _ (by_token maybe_overlap (word WITHOUT)
    (want (word OVERLAPS) ∷ want greater ∷ want number ∷ []) _ _
    (λ i. refl) c.if-not-is_keyword.ensures.here) (first _ c.in_err-next.ensures.stops))

pub returns-in_err-next-2-clause-stops : goal.returns-in_err-next-2-clause-stops
returns-in_err-next-2-clause-stops c =
    handed _ _ _ c.from_residual-in_err-next-2.ensures.1
    (within _ (by_token maybe_overlap (word WITHOUT)
    (want (word OVERLAPS) ∷ want greater ∷ want number ∷ []) _ _
    (λ i. refl) c.if-not-is_keyword.ensures.here)
    (after c.in_ok-next.ensures.runs (first _ c.in_err-next-2.ensures.stops)))

pub returns-in_err-overlap-clause-stops : goal.returns-in_err-overlap-clause-stops
returns-in_err-overlap-clause-stops c =
    handed _ _ _ c.from_residual-in_err-overlap.ensures.1
    (within _ (by_token maybe_overlap (word WITHOUT)
    (want (word OVERLAPS) ∷ want greater ∷ want number ∷ []) _ _
    (λ i. refl) c.if-not-is_keyword.ensures.here)
    (after c.in_ok-next.ensures.runs
    (after c.in_ok-next-2.ensures.runs (c.in_err-overlap.ensures.stops))))

pub returns-clause-runs : goal.returns-clause-runs
returns-clause-runs c =
    by_way _ (by_token maybe_overlap (word WITHOUT)
    (want (word OVERLAPS) ∷ want greater ∷ want number ∷ []) _ _
    (λ i. refl) c.if-not-is_keyword.ensures.here)
    (and c.in_ok-next.ensures.runs (and c.in_ok-next-2.ensures.runs (c.in_ok-overlap.ensures.runs)))
