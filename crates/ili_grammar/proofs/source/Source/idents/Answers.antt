use Rattle.ili_grammar.specs.Machine.{idents, want}
use Rattle.ili_grammar.proofs.Symbols.{must_ident}
use Rattle.ili_grammar.specs.Tokens.{IDENT, NO, word}
use Rattle.ili_grammar.proofs.Follow.{after, and, by_token, by_way, first, handed, within}
use Rattle.std.proofs.Common.{List, ◌+◌, sym, subst, [], refl, ◌∷◌}
use Rattle.ili_grammar.specs.Steps.{rest}
use Rattle.ili_grammar.specs.declared.syntax.IdentList.{IdentList}
use Rattle.ili_grammar.specs.Types.{IsIdents}
use Rattle.ili_grammar.specs.Values.{lists_of}
use Rattle.ili_grammar.proofs.RulesRead.{no_idents_read, idents_read}
use Rattle.ili_grammar.proofs.source.Source.idents.Goals as goal

pub returns-then-is_keyword-clause-reads : goal.returns-then-is_keyword-clause-reads
returns-then-is_keyword-clause-reads c =
    let r = rest c.args.self.now in
    subst (λ (ls : List IdentList). IsIdents (lists_of ls) (r c.args.at) (r c.in_ok-next.next))
    (sym c.new.ensures.items)
    (no_idents_read (r c.args.at) (r (c.args.at + 1))
    (r c.in_ok-next.next) c.if-is_keyword.ensures.here c.in_ok-next.ensures.reads)

pub returns-clause-reads : goal.returns-clause-reads
returns-clause-reads c =
    let r = rest c.args.self.now in
    idents_read (lists_of c.in_ok-lists.lists.items) (r c.args.at) (r c.in_ok-first.first)
    (r c.in_ok-lists.next) c.in_ok-first.ensures.reads c.in_ok-lists.ensures.reads

pub returns-in_err-next-clause-stops : goal.returns-in_err-next-clause-stops
returns-in_err-next-clause-stops c =
    handed _ _ _ c.from_residual.ensures.1
    (within _ (by_token idents (word NO) (want (word IDENT) ∷ []) _ _
    (λ i. refl) c.if-is_keyword.ensures.here) (c.in_err-next.ensures.stops))

pub returns-then-is_keyword-clause-runs : goal.returns-then-is_keyword-clause-runs
returns-then-is_keyword-clause-runs c =
    by_way _ (by_token idents (word NO) (want (word IDENT) ∷ []) _ _
    (λ i. refl) c.if-is_keyword.ensures.here) (c.in_ok-next.ensures.runs)

pub returns-in_err-first-clause-stops : goal.returns-in_err-first-clause-stops
returns-in_err-first-clause-stops c =
    handed _ _ _ c.from_residual-in_err-first.ensures.1
    (within _ (must_ident (rest c.args.self.now c.args.at) c.if-is_keyword.ensures.here)
    (first _ c.in_err-first.ensures.stops))

pub returns-in_err-lists-clause-stops : goal.returns-in_err-lists-clause-stops
returns-in_err-lists-clause-stops c =
    handed _ _ _ c.from_residual-in_err-lists.ensures.1
    (within _ (must_ident (rest c.args.self.now c.args.at) c.if-is_keyword.ensures.here)
    (after c.in_ok-first.ensures.runs (c.in_err-lists.ensures.stops)))

pub returns-clause-runs : goal.returns-clause-runs
returns-clause-runs c =
    by_way _ (must_ident (rest c.args.self.now c.args.at) c.if-is_keyword.ensures.here)
    (and c.in_ok-first.ensures.runs (c.in_ok-lists.ensures.runs))
