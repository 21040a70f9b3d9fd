use Rattle.std.proofs.Common.{ℕ, List, ◌≤◌, get_or, ap, ◌∙◌, sym, subst, rules, count_by}
use Rattle.std.proofs.Common.{FitsSigned, to_z-of_z, w64}
use Rattle.std.specs.Char.{is_ascii_digit}
use Rattle.ili_grammar.specs.Numbers.{decimal, decimals, signed}
use Rattle.ili_grammar.specs.Tokens.{number}
use Rattle.ili_grammar.specs.Steps.{rest}
use Rattle.ili_grammar.proofs.Leads.{nothing, info_here, short_here}
use Rattle.ili_grammar.proofs.source.Source.decimal.Goals as goal

pub digits_of-requires : goal.digits_of-requires
digits_of-requires c =
    let r = c.in_ok-next.ensures.reads in
    let h = short_here c.args.self.now.text.now c.args.self.now.tokens.now c.args.at r.0
    (rest c.args.self.now c.in_ok-next.next) c.args.self.now.short c.in_ok-next.ensures.within.1
    r.1 in
    subst (λ (b : List ℕ). count_by is_ascii_digit b ≤ 18) (sym c.bytes-bytes.ensures) h.0

pub decimals_of-requires : goal.decimals_of-requires
decimals_of-requires c =
    let r = c.in_ok-next.ensures.reads in
    let h = short_here c.args.self.now.text.now c.args.self.now.tokens.now c.args.at r.0
    (rest c.args.self.now c.in_ok-next.next) c.args.self.now.short c.in_ok-next.ensures.within.1
    r.1 in
    subst (λ (b : List ℕ). decimals b ≤ 20) (sym c.bytes-bytes.ensures) h.1

pub returns-clause-reads : goal.returns-clause-reads
returns-clause-reads c =
    let r = c.in_ok-next.ensures.reads in
    let t = get_or c.args.self.now.tokens.now c.args.at nothing in
    let f : FitsSigned w64 c.digits_of.result = search rules in
    let digits = to_z-of_z f ∙ c.digits_of.ensures ∙ ap signed c.bytes-bytes.ensures in
    let scale = c.decimals_of.ensures ∙ ap decimals c.bytes-bytes.ensures in
    let e = info_here c.args.self.now.text.now c.args.self.now.tokens.now c.args.at number r.0
    (rest c.args.self.now c.in_ok-next.next) c.in_ok-next.ensures.within.1 r.1 in (
      r.0,
      r.1,
      (λ z. record {
        digits = digits z;
        scale = scale z;
        line = t.line;
        column = t.column;
      }) ∙ ap decimal e,
    )
