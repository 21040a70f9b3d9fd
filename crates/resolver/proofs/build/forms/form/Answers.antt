use Rattle.std.proofs.Common.{ap, ◌∙◌}
use denote.Hole.Carrier.{roll}
use Rattle.ili_grammar.specs.declared.syntax.Content.TheOpen as opened
use Rattle.ili_grammar.specs.declared.syntax.Content.TheViews.{roll-TypeSyntax}
use Rattle.ili_grammar.specs.declared.syntax.Content.TheFolds.{fold-roll-TypeSyntax}
use Rattle.ili_grammar.specs.Syntax.{TypeSyntax, LineSyntax, AttributeSyntax, Content}
use Rattle.ili_grammar.specs.Values.{elements_of, type_of, content_step, type_step, attribute_step}
use Rattle.ili_grammar.specs.Values.{line_step}
use Rattle.resolver.proofs.BuildLemmas.CountedLeaves.{counted_form}
use Rattle.resolver.proofs.build.forms.form.Goals as goal

pub returns-in-Enumeration : goal.returns-in-Enumeration
unfolding roll-TypeSyntax roll
returns-in-Enumeration c =
    counted_form (type_of c.args.counted.now.kind.now)
    (elements_of c.in-Enumeration.field-0.items) c.leaves.result
    (ap type_of c.in-Enumeration.is
    ∙ fold-roll-TypeSyntax Content TypeSyntax AttributeSyntax LineSyntax content_step type_step
    attribute_step line_step (opened.Enumeration c.in-Enumeration.field-0))
    c.leaves.ensures c.requires.names
