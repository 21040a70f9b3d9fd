use Rattle.std.proofs.Common.{length, refl, arith}
use Rattle.std.proofs.lemmas.Option.{slice_get_read}
use Rattle.commands.specs.ModelTexts.{no_token}
use Rattle.commands.specs.RefusalViews.{refusal_of}
use Rattle.commands.proofs.ModelTextLemmas.{end_faulty, token_there, token_faulty}
use Rattle.commands.proofs.model.read_syntax.Goals as goal

pub returns-in-Err-clause-reads : goal.returns-in-Err-clause-reads
returns-in-Err-clause-reads c =
    no_token c.in-Err.fault c.in-Err.ensures.fault c.in_ok-lex_refusal-in-Err.ensures

pub returns-in-Err-At-default-None-clause-reads : goal.returns-in-Err-At-default-None-clause-reads
returns-in-Err-At-default-None-clause-reads c =
    let p = c.in-Err-At-default-None in
    end_faulty c.args.text.now c.in-Ok.tokens.items c.deref.result.now p.field-0 p.code p.field-0-1
    c.in-Ok.ensures.tokens c.deref.ensures.value p.ensures.fault p.field-0-is
    (refusal_of c.in_ok-end_refusal-in-Err-At-default-None.field-0) p.field-0-1-is
    c.in_ok-end_refusal-in-Err-At-default-None.ensures

pub index-token-requires : goal.index-token-requires
index-token-requires c =
    let p = c.in-Err-At-default-Some in
    omega (
      arith,
      token_there c.args.text.now c.in-Ok.tokens.items c.deref.result.now p.field-0 p.code
          p.field-0-1 c.in-Ok.ensures.tokens c.deref.ensures.value p.ensures.fault p.field-0-is p.at
          p.field-0-1-is,
    )

pub returns-clause-reads : goal.returns-clause-reads
returns-clause-reads c =
    let p = c.in-Err-At-default-Some in
    let within = token_there c.args.text.now c.in-Ok.tokens.items c.deref.result.now p.field-0
    p.code p.field-0-1 c.in-Ok.ensures.tokens c.deref.ensures.value p.ensures.fault p.field-0-is
    p.at p.field-0-1-is in
    let there = slice_get_read c.in-Ok.tokens.items
    (length c.in-Ok.tokens.items) p.at c.index-token.result.now refl within
    c.index-token.ensures in
    token_faulty c.args.text.now c.in-Ok.tokens.items c.deref.result.now p.field-0 p.code
    p.field-0-1 c.in-Ok.ensures.tokens c.deref.ensures.value p.ensures.fault p.field-0-is
    p.at c.index-token.result.now (refusal_of c.in_ok-token_refusal-in-Err-At-default-Some.field-0)
    p.field-0-1-is there c.in_ok-token_refusal-in-Err-At-default-Some.ensures
