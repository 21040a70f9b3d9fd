use Rattle.ili_grammar.proofs.source.Source.optional_idents.Goals.{then-is_keyword-via-then-is_keyword}
use Rattle.ili_grammar.proofs.source.Source.optional_idents.Goals.{then-is_keyword-via-else-is_keyword+then-is_keyword-2}
use Rattle.ili_grammar.proofs.Follow.{by_way, handed, within}
use Rattle.ili_grammar.proofs.Symbols.{at_idents, at_no_ident, no_idents}
use Rattle.std.proofs.Common.{List, sym, subst}
use Rattle.ili_grammar.specs.Steps.{rest}
use Rattle.ili_grammar.specs.declared.syntax.IdentList.{IdentList}
use Rattle.ili_grammar.specs.Types.{IsMaybeIdents, with_idents, without_idents}
use Rattle.ili_grammar.specs.Values.{lists_of}
use Rattle.ili_grammar.proofs.source.Source.optional_idents.Goals as goal

pub returns-then-is_keyword-clause-reads : goal.returns-then-is_keyword-clause-reads
returns-then-is_keyword-clause-reads c =
    let r = rest c.args.self.now in
    with_idents (lists_of c.in_ok-lists.lists.items) (r c.args.at)
    (r c.in_ok-lists.next) c.in_ok-lists.ensures.reads

pub returns-clause-reads : goal.returns-clause-reads
returns-clause-reads c =
    let r = rest c.args.self.now in
    subst (λ (ls : List IdentList). IsMaybeIdents (lists_of ls) (r c.args.at) (r c.args.at))
    (sym c.new.ensures.items) (without_idents (r c.args.at))

pub returns-in_err-lists-clause-stops : goal.returns-in_err-lists-clause-stops
returns-in_err-lists-clause-stops c =
    handed _ _ _ c.from_residual.ensures.1 (elim c.then-is_keyword.branch [
      | then-is_keyword-via-then-is_keyword w ↦ within _
          (at_no_ident _ _ w.if-is_keyword.ensures.here) c.in_err-lists.ensures.stops
      | then-is_keyword-via-else-is_keyword+then-is_keyword-2 w ↦ within _
          (at_idents _ _ w.if-is_keyword-2.ensures.here) c.in_err-lists.ensures.stops
    ])

pub returns-then-is_keyword-clause-runs : goal.returns-then-is_keyword-clause-runs
returns-then-is_keyword-clause-runs c = elim c.then-is_keyword.branch [
  | then-is_keyword-via-then-is_keyword w ↦ by_way _
      (at_no_ident _ _ w.if-is_keyword.ensures.here) c.in_ok-lists.ensures.runs
  | then-is_keyword-via-else-is_keyword+then-is_keyword-2 w ↦ by_way _
      (at_idents _ _ w.if-is_keyword-2.ensures.here) c.in_ok-lists.ensures.runs
]

pub returns-clause-runs : goal.returns-clause-runs
returns-clause-runs c =
    no_idents (rest c.args.self.now c.args.at) c.if-is_keyword.ensures.here
    c.if-is_keyword-2.ensures.here
