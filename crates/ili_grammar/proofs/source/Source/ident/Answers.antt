use Rattle.ili_grammar.specs.Machine.{want}
use Rattle.ili_grammar.proofs.Follow.{no_memory}
use Rattle.std.proofs.Common.{get_or, ap, ◌∙◌, [], refl, ◌∷◌}
use Rattle.ili_grammar.specs.Numbers.{ident}
use Rattle.ili_grammar.specs.Tokens.{name}
use Rattle.ili_grammar.specs.Steps.{rest, all}
use Rattle.ili_grammar.proofs.Leads.{nothing, info_here}
use Rattle.ili_grammar.proofs.source.Source.ident.Goals as goal

pub returns-in-Ok-clause-reads : goal.returns-in-Ok-clause-reads
returns-in-Ok-clause-reads c =
    let r = c.in_ok-next.ensures.reads in
    let t = get_or c.args.self.now.tokens.now c.args.at nothing in
    let same = c.in-Ok.ensures ∙ c.bytes.ensures in
    let e = info_here c.args.self.now.text.now c.args.self.now.tokens.now c.args.at name r.0
    (rest c.args.self.now c.in_ok-next.next) c.in_ok-next.ensures.within.1 r.1 in
    (r.0, r.1, (λ z. record { text = same z; line = t.line; column = t.column }) ∙ ap ident e)

pub returns-in-Err-clause-stops : goal.returns-in-Err-clause-stops
returns-in-Err-clause-stops c =
    no_memory (all c.args.self.now) (rest c.args.self.now c.args.at) (want name ∷ []) _ refl

pub returns-in-Ok-clause-runs : goal.returns-in-Ok-clause-runs
returns-in-Ok-clause-runs c = c.in_ok-next.ensures.runs
