use Rattle.ili_grammar.specs.Machine.{forms, more_forms}
use Rattle.ili_grammar.specs.Tokens.{comma}
use Rattle.ili_grammar.proofs.Symbols.{last_form}
use Rattle.ili_grammar.proofs.Follow.{by_way, handed, onward, refused_at, within, by_token}
use Rattle.std.proofs.Common.{◌+◌, arith, [], refl, ◌∷◌}
use Rattle.ili_grammar.specs.Steps.{rest}
use Rattle.ili_grammar.proofs.RulesRead.{forms_on, forms_end}
use Rattle.ili_grammar.proofs.source.Source.forms.Goals as goal

pub returns-then-not-is_mark-clause-reads : goal.returns-then-not-is_mark-clause-reads
returns-then-not-is_mark-clause-reads c =
    let r = rest c.args.self.now in
    forms_end c.forms.straights c.forms.arcs c.in_ok-is_arcs.is_arcs (r c.args.at) (r c.forms.first)
    (r c.in_ok-is_arcs.next) (r c.in_ok-next.next) c.forms.invariant.reads
    c.in_ok-is_arcs.ensures.reads c.in_ok-next.ensures.reads

pub forms-preserved : goal.forms-preserved
forms-preserved c =
    let r = rest c.args.self.now in record {
      further = omega (arith, c.forms.invariant.further, c.in_ok-is_arcs.ensures.within);
      within = omega (arith, c.if-not-is_mark.ensures.within);
      reads = forms_on c.forms.straights c.forms.arcs c.in_ok-is_arcs.is_arcs (r c.args.at)
          (r c.forms.first) (r c.in_ok-is_arcs.next)
          (r (c.in_ok-is_arcs.next + 1)) c.forms.invariant.reads c.in_ok-is_arcs.ensures.reads
          c.if-not-is_mark.ensures.here;
      runs = onward c.forms.invariant.runs tt
          (onward c.in_ok-is_arcs.ensures.runs tt
          (by_token more_forms comma (forms ∷ []) _ _ (λ i. refl) c.if-not-is_mark.ensures.here));
    }

pub returns-in_err-is_arcs-clause-stops : goal.returns-in_err-is_arcs-clause-stops
returns-in_err-is_arcs-clause-stops c =
    handed _ _ _ c.from_residual.ensures.1
    (refused_at c.forms.invariant.runs tt c.in_err-is_arcs.ensures.stops)

pub returns-in_err-next-clause-stops : goal.returns-in_err-next-clause-stops
returns-in_err-next-clause-stops c =
    handed _ _ _ c.from_residual-in_err-next.ensures.1
    (refused_at c.forms.invariant.runs tt
    (refused_at c.in_ok-is_arcs.ensures.runs tt
    (within _ (last_form _ c.if-not-is_mark.ensures.here) c.in_err-next.ensures.stops)))

pub returns-then-not-is_mark-clause-runs : goal.returns-then-not-is_mark-clause-runs
returns-then-not-is_mark-clause-runs c =
    onward c.forms.invariant.runs tt
    (onward c.in_ok-is_arcs.ensures.runs tt
    (by_way _ (last_form _ c.if-not-is_mark.ensures.here) c.in_ok-next.ensures.runs))
