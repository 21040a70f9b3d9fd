use Rattle.std.proofs.Common.{List, subst, sym}
use Rattle.ili_grammar.specs.Syntax.{Span}
use Rattle.ili_grammar.specs.Values.{ident_of}
use Rattle.resolver.specs.FaultViews.{Reports}
use Rattle.resolver.specs.Numbers.{most_decimals}
use Rattle.resolver.specs.Rules.{spans_faults}
use Rattle.resolver.proofs.BuildLemmas.NumberTypes.{one_span}
use Rattle.resolver.proofs.rules.numbers.check_numbers.Goals as goal

pub returns-in-Dim1 : goal.returns-in-Dim1
returns-in-Dim1 c =
    subst (λ (ss : List Span). Reports c.args.earliest.now c.check_span.new.earliest
    (spans_faults (ident_of c.args.owner.now) (most_decimals ss) ss))
    (sym (one_span c.args.kind.now c.in-Dim1.span c.in-Dim1.is)) c.check_span.ensures
