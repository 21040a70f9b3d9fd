use Rattle.std.proofs.Common.{ap, ◌∙◌}
use Rattle.ili_grammar.specs.Codes.{begins_with_s}
use Rattle.ili_grammar.proofs.Leads.{scales_first, scales_behind}
use Rattle.ili_grammar.proofs.source.Source.scales.Goals as goal

pub returns-then-at-eq0 : goal.returns-then-at-eq0
returns-then-at-eq0 c =
    scales_first c.args.self.now.text.now c.args.self.now.tokens.now c.args.at c.if-at-eq0.true
    c.requires

pub returns : goal.returns
returns c = scales_behind c.args.self.now.text.now c.args.self.now.tokens.now c.args.at c.is.result
    c.starts_with.result c.if-at-eq0.false c.requires c.is.ensures.value
    (c.starts_with.ensures.value ∙ ap begins_with_s c.bytes.ensures)
