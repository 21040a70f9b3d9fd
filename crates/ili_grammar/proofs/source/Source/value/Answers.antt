use Rattle.ili_grammar.proofs.Stuck.{by_default_here, by_hex_here, by_number_here, none_here}
use Rattle.std.proofs.Common.{ℕ, List, ◌+◌, ◌≤◌, length, count_by, sym, ap, ◌∙◌, subst}
use Rattle.ili_grammar.specs.Steps.{rest}
use Rattle.std.specs.Char.{is_ascii_digit}
use Rattle.ili_grammar.specs.Tokens.{tok, number, hex, word, DEFAULT, Info}
use Rattle.ili_grammar.specs.Models.{by_default}
use Rattle.ili_grammar.proofs.Leads.{info_here, short_here, hex_here}
use Rattle.ili_grammar.proofs.ModelsRead.{number_value, hex_value}
use Rattle.ili_grammar.proofs.source.Source.value.Goals as goal

pub returns-then-is_keyword-clause-reads : goal.returns-then-is_keyword-clause-reads
returns-then-is_keyword-clause-reads c =
    let h = c.if-is_keyword.ensures.here in (tok (word DEFAULT) h.0, h.1, by_default h.0)

pub byte_of_number-requires : goal.byte_of_number-requires
byte_of_number-requires c =
    let h = c.if-is.ensures.here in
    subst (λ (b : List ℕ). count_by is_ascii_digit b ≤ 18) (sym c.bytes.ensures)
    (short_here c.args.self.now.text.now c.args.self.now.tokens.now c.args.at h.0
    (rest c.args.self.now (c.args.at + 1)) c.args.self.now.short c.if-is.ensures.within h.1).0

pub returns-then-is-clause-reads : goal.returns-then-is-clause-reads
returns-then-is-clause-reads c =
    let h = c.if-is.ensures.here in
    let e = info_here c.args.self.now.text.now c.args.self.now.tokens.now c.args.at number h.0
    (rest c.args.self.now (c.args.at + 1)) c.if-is.ensures.within h.1 in
    number_value c.args.default c.byte_of_number.result c.bytes.result.now h.0
    (rest c.args.self.now c.args.at) (rest c.args.self.now (c.args.at + 1))
    c.byte_of_number.ensures (c.bytes.ensures ∙ ap (λ (i : Info). i.text) e) h.1

pub byte_of_hex-requires : goal.byte_of_hex-requires
byte_of_hex-requires c =
    let h = c.if-is-2.ensures.here in
    subst (λ (b : List ℕ). length b ≤ 4) (sym c.bytes-then-is-2.ensures)
    (hex_here c.args.self.now.text.now c.args.self.now.tokens.now c.args.at h.0
    (rest c.args.self.now (c.args.at + 1)) c.args.self.now.short c.if-is-2.ensures.within h.1)

pub returns-then-is-2-clause-reads : goal.returns-then-is-2-clause-reads
returns-then-is-2-clause-reads c =
    let h = c.if-is-2.ensures.here in
    let e = info_here c.args.self.now.text.now c.args.self.now.tokens.now c.args.at hex h.0
    (rest c.args.self.now (c.args.at + 1)) c.if-is-2.ensures.within h.1 in
    hex_value c.args.default c.byte_of_hex.result c.bytes-then-is-2.result.now h.0
    (rest c.args.self.now c.args.at) (rest c.args.self.now (c.args.at + 1))
    c.byte_of_hex.ensures (c.bytes-then-is-2.ensures ∙ ap (λ (i : Info). i.text) e) h.1

pub returns-then-is_keyword-clause-value : goal.returns-then-is_keyword-clause-value
returns-then-is_keyword-clause-value c =
    by_default_here c.args.default (rest c.args.self.now c.args.at) _ c.if-is_keyword.ensures.here

pub returns-then-is-clause-value : goal.returns-then-is-clause-value
returns-then-is-clause-value c =
    let h = c.if-is.ensures.here in
    let e = info_here c.args.self.now.text.now c.args.self.now.tokens.now c.args.at number h.0
    (rest c.args.self.now (c.args.at + 1)) c.if-is.ensures.within h.1 in
    by_number_here c.args.default c.byte_of_number.result c.bytes.result.now h.0
    (rest c.args.self.now c.args.at) (rest c.args.self.now (c.args.at + 1))
    c.byte_of_number.ensures (c.bytes.ensures ∙ ap (λ (i : Info). i.text) e) h.1

pub returns-then-is-2-clause-value : goal.returns-then-is-2-clause-value
returns-then-is-2-clause-value c =
    let h = c.if-is-2.ensures.here in
    let e = info_here c.args.self.now.text.now c.args.self.now.tokens.now c.args.at hex h.0
    (rest c.args.self.now (c.args.at + 1)) c.if-is-2.ensures.within h.1 in
    by_hex_here c.args.default c.byte_of_hex.result c.bytes-then-is-2.result.now h.0
    (rest c.args.self.now c.args.at) (rest c.args.self.now (c.args.at + 1))
    c.byte_of_hex.ensures (c.bytes-then-is-2.ensures ∙ ap (λ (i : Info). i.text) e) h.1

pub returns-clause-value : goal.returns-clause-value
returns-clause-value c =
    none_here c.args.default (rest c.args.self.now c.args.at) c.if-is_keyword.ensures.here
    c.if-is.ensures.here c.if-is-2.ensures.here
