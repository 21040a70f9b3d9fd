use Rattle.ili_grammar.proofs.Symbols.{open_line}
use Rattle.ili_grammar.proofs.Follow.{after, and, by_way, first, handed, within}
use Rattle.std.specs.Option.{option_map}
use Rattle.ili_grammar.specs.Values.{ident_of, decimal_of}
use Rattle.ili_grammar.specs.Steps.{rest}
use Rattle.ili_grammar.proofs.RulesRead.{line_read}
use Rattle.ili_grammar.proofs.source.Source.line.Goals as goal

pub returns-clause-reads : goal.returns-clause-reads
returns-clause-reads c =
    let r = rest c.args.self.now in
    line_read (r c.args.at) (r c.in_ok-next.next) (r c.in_ok-next-2.next) (r c.in_ok-straights.next)
    (r c.in_ok-next-3.next) (r c.in_ok-vertex.next) (r c.in_ok-next-4.next)
    (r c.in_ok-overlap.next)
    c.in_ok-straights.straights c.in_ok-straights.arcs (ident_of c.in_ok-vertex.vertex)
    (option_map decimal_of c.in_ok-overlap.overlap)
    c.in_ok-next.ensures.reads c.in_ok-next-2.ensures.reads c.in_ok-straights.ensures.reads
    c.in_ok-next-3.ensures.reads c.in_ok-vertex.ensures.reads c.in_ok-next-4.ensures.reads
    c.in_ok-overlap.ensures.reads

pub returns-in_err-next-clause-stops : goal.returns-in_err-next-clause-stops
returns-in_err-next-clause-stops c =
    handed _ _ _ c.from_residual.ensures.1
    (within _ (open_line (rest c.args.self.now c.args.at)) (first _ c.in_err-next.ensures.stops))

pub returns-in_err-next-2-clause-stops : goal.returns-in_err-next-2-clause-stops
returns-in_err-next-2-clause-stops c =
    handed _ _ _ c.from_residual-in_err-next-2.ensures.1
    (within _ (open_line (rest c.args.self.now c.args.at))
    (after c.in_ok-next.ensures.runs (first _ c.in_err-next-2.ensures.stops)))

pub returns-in_err-straights-clause-stops : goal.returns-in_err-straights-clause-stops
returns-in_err-straights-clause-stops c =
    handed _ _ _ c.from_residual-in_err-straights.ensures.1
    (within _ (open_line (rest c.args.self.now c.args.at))
    (after c.in_ok-next.ensures.runs
    (after c.in_ok-next-2.ensures.runs (first _ c.in_err-straights.ensures.stops))))

pub returns-in_err-next-3-clause-stops : goal.returns-in_err-next-3-clause-stops
returns-in_err-next-3-clause-stops c =
    handed _ _ _ c.from_residual-in_err-next-3.ensures.1
    (within _ (open_line (rest c.args.self.now c.args.at))
    (after c.in_ok-next.ensures.runs
    (after c.in_ok-next-2.ensures.runs
    (after c.in_ok-straights.ensures.runs (first _ c.in_err-next-3.ensures.stops)))))

pub returns-in_err-vertex-clause-stops : goal.returns-in_err-vertex-clause-stops
returns-in_err-vertex-clause-stops c =
    handed _ _ _ c.from_residual-in_err-vertex.ensures.1
    (within _ (open_line (rest c.args.self.now c.args.at))
    (after c.in_ok-next.ensures.runs
    (after c.in_ok-next-2.ensures.runs
    (after c.in_ok-straights.ensures.runs
    (after c.in_ok-next-3.ensures.runs (first _ c.in_err-vertex.ensures.stops))))))

pub returns-in_err-next-4-clause-stops : goal.returns-in_err-next-4-clause-stops
returns-in_err-next-4-clause-stops c =
    handed _ _ _ c.from_residual-in_err-next-4.ensures.1
    (within _ (open_line (rest c.args.self.now c.args.at))
    (after c.in_ok-next.ensures.runs
    (after c.in_ok-next-2.ensures.runs
    (after c.in_ok-straights.ensures.runs
    (after c.in_ok-next-3.ensures.runs
    (after c.in_ok-vertex.ensures.runs (first _ c.in_err-next-4.ensures.stops)))))))

pub returns-in_err-overlap-clause-stops : goal.returns-in_err-overlap-clause-stops
returns-in_err-overlap-clause-stops c =
    handed _ _ _ c.from_residual-in_err-overlap.ensures.1
    (within _ (open_line (rest c.args.self.now c.args.at))
    (after c.in_ok-next.ensures.runs
    (after c.in_ok-next-2.ensures.runs
    (after c.in_ok-straights.ensures.runs
    (after c.in_ok-next-3.ensures.runs
    (after c.in_ok-vertex.ensures.runs
    (after c.in_ok-next-4.ensures.runs (c.in_err-overlap.ensures.stops))))))))

pub returns-clause-runs : goal.returns-clause-runs
returns-clause-runs c =
    by_way _ (open_line (rest c.args.self.now c.args.at))
    (and c.in_ok-next.ensures.runs
    (and c.in_ok-next-2.ensures.runs
    (and c.in_ok-straights.ensures.runs
    (and c.in_ok-next-3.ensures.runs
    (and c.in_ok-vertex.ensures.runs
    (and c.in_ok-next-4.ensures.runs (c.in_ok-overlap.ensures.runs)))))))
