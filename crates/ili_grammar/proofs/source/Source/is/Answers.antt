use Rattle.std.proofs.Common.{rules}
use Rattle.ili_grammar.proofs.Leads.{nothing, leads_kind, not_leads, not_at_end, leads_true}
use Rattle.ili_grammar.proofs.Leads.{leads_false}
use Rattle.ili_grammar.proofs.source.Source.is.Goals as goal
use Rattle.ili_grammar.proofs.source.Source.is.Goals.{else-at-self-via-then-at-self+else-eq}
use Rattle.ili_grammar.proofs.source.Source.is.Goals.{else-at-self-via-else-at-self}
use Rattle.ili_grammar.specs.Slices.{kind_of}
use Rattle.ili_grammar.specs.Steps.{rest}

pub returns-then-eq-clause-here : goal.returns-then-eq-clause-here
returns-then-eq-clause-here c =
    leads_kind c.args.self.now.text.now c.args.self.now.tokens.now c.args.at nothing c.args.kind
    c.if-at-self.true (search rules)

pub returns-then-eq-clause-value : goal.returns-then-eq-clause-value
returns-then-eq-clause-value c =
    leads_true (kind_of c.args.kind) _ _ (returns-then-eq-clause-here c)

pub returns-clause-here : goal.returns-clause-here
returns-clause-here c = elim c.else-at-self.branch [
  | else-at-self-via-then-at-self+else-eq w ↦ not_leads c.args.self.now.text.now
      c.args.self.now.tokens.now c.args.at nothing c.args.kind w.if-at-self.true (search rules)
  | else-at-self-via-else-at-self w ↦ not_at_end c.args.self.now.text.now c.args.self.now.tokens.now
      c.args.at (kind_of c.args.kind) w.if-at-self.false
]

pub returns-clause-value : goal.returns-clause-value
returns-clause-value c =
    leads_false (kind_of c.args.kind) (rest c.args.self.now c.args.at) (returns-clause-here c)
