use Rattle.std.proofs.Common.{length, ◌≤◌, [], drop, arith}
use Rattle.ili_grammar.specs.Values.{model_of}
use Rattle.ili_grammar.proofs.ModelsRead.{spelt_read}
use Rattle.ili_grammar.specs.Slices.{toks}
use Rattle.ili_grammar.proofs.Leads.{leads, nothing}
use Rattle.ili_grammar.proofs.Follow.{handed}
use Rattle.ili_grammar.proofs.Small.{limits_kept}
use Rattle.ili_grammar.proofs.FirstFault.{first_fault, trailing, no_model}
use Rattle.ili_grammar.proofs.Lexed.{few_tokens, short_tokens}
use Rattle.ili_grammar.proofs.parsing.parse.Goals as goal

pub invariant_of-source-clause-few : goal.invariant_of-source-clause-few
invariant_of-source-clause-few c =
    omega (
      arith,
      few_tokens c.args.text.now c.args.tokens.now
          (c.tokens_in_order.ensures c.args.text.now c.args.tokens.now c.requires.tokens),
      c.requires.short,
    )

pub invariant_of-source-clause-short : goal.invariant_of-source-clause-short
invariant_of-source-clause-short c =
    short_tokens c.args.text.now c.args.tokens.now
    (c.text_by_table.ensures.tokens c.args.text.now c.args.tokens.now c.requires.tokens)

pub returns-in_err-model-clause-fault : goal.returns-in_err-model-clause-fault
returns-in_err-model-clause-fault c =
    handed _ _ _ c.from_residual.ensures.1
    (first_fault (toks c.args.text.now c.args.tokens.now) c.in_err-model.field-0.0
    (c.in_err-model.ensures.stops.told []))

pub returns-in_err-model-clause-complete : goal.returns-in_err-model-clause-complete
returns-in_err-model-clause-complete c m x =
    let f = c.in_err-model.field-0.0 in
    handed _ _ _ c.from_residual.ensures.1
    (no_model (toks c.args.text.now c.args.tokens.now) f m
    (first_fault (toks c.args.text.now c.args.tokens.now) f
    (c.in_err-model.ensures.stops.told [])) x)

pub returns-then-next-tokens-clause-fault : goal.returns-then-next-tokens-clause-fault
returns-then-next-tokens-clause-fault c =
    let all = toks c.args.text.now c.args.tokens.now in
    trailing all (drop c.in_ok-model.next all) _ _ (model_of c.in_ok-model.model) _
    (leads c.args.text.now c.args.tokens.now c.in_ok-model.next nothing c.if-next-tokens.true)
    c.in_ok-model.ensures.reads c.fault.ensures

pub returns-then-next-tokens-clause-complete : goal.returns-then-next-tokens-clause-complete
returns-then-next-tokens-clause-complete c m x =
    let all = toks c.args.text.now c.args.tokens.now in
    no_model all c.fault.result m
    (trailing all (drop c.in_ok-model.next all) _ _ (model_of c.in_ok-model.model) _
    (leads c.args.text.now c.args.tokens.now c.in_ok-model.next nothing c.if-next-tokens.true)
    c.in_ok-model.ensures.reads c.fault.ensures) x

pub returns : goal.returns
returns c =
    let x = spelt_read c.args.text.now c.args.tokens.now
    (model_of c.in_ok-model.model) c.in_ok-model.next c.in_ok-model.ensures.reads
    c.if-next-tokens.false in
    let few : length c.args.tokens.now ≤ 4194304 = omega (
      arith,
      few_tokens c.args.text.now c.args.tokens.now
          (c.tokens_in_order.ensures c.args.text.now c.args.tokens.now c.requires.tokens),
      c.requires.short,
    ) in
    record {
      spelt = x;
      within = limits_kept c.args.text.now c.args.tokens.now (model_of c.in_ok-model.model) few
          (c.text_by_table.ensures.tokens c.args.text.now c.args.tokens.now c.requires.tokens) x;
      fault = tt;
      complete = λ m y. tt;
    }
