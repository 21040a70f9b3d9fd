use Rattle.ili_lexer.specs.declared.tokens.Kind.TheVariants as kinds
use Rattle.ili_grammar.proofs.Leads.{nothing, leads_kind, no_word_at, no_word_end}
use Rattle.ili_grammar.proofs.source.Source.keyword.Goals as goal

pub returns-in-Keyword-clause-here : goal.returns-in-Keyword-clause-here
returns-in-Keyword-clause-here c =
    leads_kind c.args.self.now.text.now c.args.self.now.tokens.now c.args.at nothing
    (kinds.Keyword c.in-Keyword.keyword) c.if-at-self.true c.in-Keyword.is

pub returns-else-at-self-clause-none : goal.returns-else-at-self-clause-none
returns-else-at-self-clause-none c e = no_word_end _ _ _ c.if-at-self.false

pub returns-in_default-clause-none : goal.returns-in_default-clause-none
returns-in_default-clause-none c e =
    no_word_at c.args.self.now.text.now c.args.self.now.tokens.now c.args.at nothing
    c.if-at-self.true c.in_default.not-Keyword
