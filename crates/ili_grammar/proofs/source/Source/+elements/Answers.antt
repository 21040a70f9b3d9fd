use Rattle.ili_grammar.specs.Tokens.{comma}
use Rattle.ili_grammar.specs.Machine.{more_parts, elements}
use Rattle.ili_grammar.proofs.Stuck.{deep_parts}
use Rattle.ili_grammar.proofs.Symbols.{at_parts, last_part, no_parts, open_elements}
use Rattle.std.proofs.lemmas.Result.{IfErr-weaker}
use Rattle.ili_grammar.proofs.Follow.{after, and, by_way, first, handed, no_memory, onward}
use Rattle.ili_grammar.proofs.Follow.{refused_at, stay, within, by_token}
use Rattle.std.proofs.Common.{◌+◌, ◌-◌, arith, [], ◌∷◌, refl}
use Rattle.ili_grammar.specs.Values.{ident_of, elements_of}
use Rattle.ili_grammar.specs.Steps.{rest, all}
use Rattle.ili_grammar.proofs.Lists.{element_roll, elements_on, elements_end, parts_read}
use Rattle.ili_grammar.proofs.Lists.{element_read, parts_none, if_ok}
use Rattle.ili_grammar.proofs.source.Source.+elements.Goals as goal

pub element-returns-clause-reads : goal.element-returns-clause-reads
element-returns-clause-reads t c =
    let n = c.in_ok-name.ensures.reads in
    element_read c.args.depth _ (ident_of c.in_ok-name.name) (elements_of c.in_ok-parts.parts.items)
    (rest c.args.self.now c.args.at) (rest c.args.self.now c.in_ok-name.next)
    (rest c.args.self.now c.in_ok-parts.next) n.0
    (element_roll record {
      name = c.in_ok-name.name;
      parts = c.in_ok-parts.parts;
    }) n.2 n.1 c.in_ok-parts.ensures.reads

pub elements-returns-then-not-is_mark-clause-reads : goal.elements-returns-then-not-is_mark-clause-reads
elements-returns-then-not-is_mark-clause-reads t c =
    let p = c.in_ok-next.ensures.reads in
    elements_end c.args.depth c.loop-elements.elements.items c.keep.new.items.items
    c.in_ok-element.element (rest c.args.self.now c.args.at)
    (rest c.args.self.now c.loop-elements.first)
    (rest c.args.self.now c.in_ok-element.next)
    (rest c.args.self.now c.in_ok-next.next) p.0 c.in_ok-keep.ensures.added
    c.loop-elements.invariant.reads c.in_ok-element.ensures.reads p.1

pub elements-loop-elements-preserved : goal.elements-loop-elements-preserved
elements-loop-elements-preserved t c =
    let p = c.if-not-is_mark.ensures.here in record {
      further = omega (arith, c.in_ok-element.ensures.within, c.loop-elements.invariant.further);
      within = omega (arith, c.if-not-is_mark.ensures.within);
      reads = elements_on c.args.depth c.loop-elements.elements.items c.keep.new.items.items
          c.in_ok-element.element (rest c.args.self.now c.args.at)
          (rest c.args.self.now c.loop-elements.first)
          (rest c.args.self.now c.in_ok-element.next)
          (rest c.args.self.now (c.in_ok-element.next + 1)) p.0 c.in_ok-keep.ensures.added
          c.loop-elements.invariant.reads c.in_ok-element.ensures.reads p.1;
      runs = onward c.loop-elements.invariant.runs tt
          (onward c.in_ok-element.ensures.runs tt
          (by_token (more_parts c.args.depth) comma (elements c.args.depth ∷ []) _ _
          (λ i. refl) c.if-not-is_mark.ensures.here));
    }

pub parts-returns-then-not-is_mark-clause-reads : goal.parts-returns-then-not-is_mark-clause-reads
parts-returns-then-not-is_mark-clause-reads t c =
    parts_none c.args.depth c.new.result.items (rest c.args.self.now c.args.at) c.new.ensures.items

pub parts-returns-clause-reads : goal.parts-returns-clause-reads
parts-returns-clause-reads t c =
    let e = c.if-depth-eq0.false in
    let p = c.if-not-is_mark.ensures.here in
    if_ok _ _ c.elements.result
    (λ q x. parts_read c.args.depth (c.args.depth - 1) (elements_of q.0.items)
    (rest c.args.self.now c.args.at) (rest c.args.self.now (c.args.at + 1))
    (rest c.args.self.now q.1) p.0
    (omega (arith, e)) p.1 x)
    c.elements.ensures.reads

pub element-returns-in_err-name-clause-stops : goal.element-returns-in_err-name-clause-stops
element-returns-in_err-name-clause-stops t c =
    handed _ _ _ c.from_residual.ensures.1
    (within _ (open_elements c.args.depth (rest c.args.self.now c.args.at))
    (first _ c.in_err-name.ensures.stops))

pub element-returns-in_err-parts-clause-stops : goal.element-returns-in_err-parts-clause-stops
element-returns-in_err-parts-clause-stops t c =
    handed _ _ _ c.from_residual-in_err-parts.ensures.1
    (within _ (open_elements c.args.depth (rest c.args.self.now c.args.at))
    (after c.in_ok-name.ensures.runs (first _ c.in_err-parts.ensures.stops)))

pub element-returns-clause-runs : goal.element-returns-clause-runs
element-returns-clause-runs t c =
    by_way _ (open_elements c.args.depth (rest c.args.self.now c.args.at))
    (and c.in_ok-name.ensures.runs
    (and c.in_ok-parts.ensures.runs (stay _ (more_parts c.args.depth ∷ []))))

pub elements-returns-in_err-element-clause-stops : goal.elements-returns-in_err-element-clause-stops
elements-returns-in_err-element-clause-stops t c =
    handed _ _ _ c.from_residual.ensures.1
    (refused_at c.loop-elements.invariant.runs tt c.in_err-element.ensures.stops)

pub elements-returns-in_err-keep-clause-stops : goal.elements-returns-in_err-keep-clause-stops
elements-returns-in_err-keep-clause-stops t c =
    handed _ _ _ c.from_residual-in_err-keep.ensures.1
    (no_memory _ _ _ _ c.in_err-keep.ensures.memory)

pub elements-returns-in_err-next-clause-stops : goal.elements-returns-in_err-next-clause-stops
elements-returns-in_err-next-clause-stops t c =
    handed _ _ _ c.from_residual-in_err-next.ensures.1
    (refused_at c.loop-elements.invariant.runs tt
    (refused_at c.in_ok-element.ensures.runs tt
    (within _ (last_part c.args.depth _ c.if-not-is_mark.ensures.here)
    c.in_err-next.ensures.stops)))

pub elements-returns-then-not-is_mark-clause-runs : goal.elements-returns-then-not-is_mark-clause-runs
elements-returns-then-not-is_mark-clause-runs t c =
    onward c.loop-elements.invariant.runs tt
    (onward c.in_ok-element.ensures.runs tt
    (by_way _ (last_part c.args.depth _ c.if-not-is_mark.ensures.here) c.in_ok-next.ensures.runs))

pub parts-returns-then-not-is_mark-clause-runs : goal.parts-returns-then-not-is_mark-clause-runs
parts-returns-then-not-is_mark-clause-runs t c =
    no_parts c.args.depth (rest c.args.self.now c.args.at) c.if-not-is_mark.ensures.here

pub parts-returns-then-depth-eq0-clause-stops : goal.parts-returns-then-depth-eq0-clause-stops
parts-returns-then-depth-eq0-clause-stops t c =
    deep_parts (all c.args.self.now) (rest c.args.self.now c.args.at) _ c.args.depth _
    c.if-depth-eq0.true c.if-not-is_mark.ensures.here c.fault.ensures

pub parts-returns-clause-runs : goal.parts-returns-clause-runs
parts-returns-clause-runs t c =
    if_ok _ _ c.elements.result
    (λ q x. by_way _
    (at_parts c.args.depth (c.args.depth - 1) _ _
    (omega (arith, c.if-depth-eq0.false)) c.if-not-is_mark.ensures.here) x) c.elements.ensures.runs

pub parts-returns-clause-stops : goal.parts-returns-clause-stops
parts-returns-clause-stops t c =
    IfErr-weaker c.elements.result _ _
    (λ y x. within _
    (at_parts c.args.depth (c.args.depth - 1) _ _
    (omega (arith, c.if-depth-eq0.false)) c.if-not-is_mark.ensures.here) x) c.elements.ensures.stops
