use Rattle.std.proofs.Common.{arith, ◌++◌, List, ℕ, take, ap, ◌∙◌}
use Rattle.decimals.proofs.Places.{drop_later, padded_behind}
use Rattle.decimals.proofs.writing.put_padded.Goals as goal

pub returns-clause-front : goal.returns-clause-front
returns-clause-front c =
    let text = c.as_bytes-text.result.now in
    c.put.ensures.front ∙ ap (λ (bytes : List ℕ). bytes ++ text) c.put-zeros.ensures.front
    ∙ padded_behind c.args.digits c.args.number (take c.args.at c.args.into.now) text
    (c.as_bytes-text.ensures.value ∙ c.format.ensures.text) (omega arith)

pub returns-clause-rest : goal.returns-clause-rest
returns-clause-rest c =
    c.put.ensures.rest
    ∙ drop_later c.put-zeros.result c.put.result c.put-zeros.new.into c.args.into.now
    (omega arith) c.put-zeros.ensures.rest
