use Rattle.std.proofs.Common.{◌≡◌, ◌∙◌, ◌∷◌, ◌++◌, sym, ap, take, List, ℕ, append_assoc}
use Rattle.std.proofs.lemmas.List.{take_all}
use Rattle.itf_writer.specs.Canonical.{blank_before}
use Rattle.itf_writer.specs.Ends.{last_from}
use Rattle.itf_writer.proofs.Ends.{blank_more, last_more}
use Rattle.itf_writer.proofs.adding.add_fields.Goals as goal

pub loop-field-preserved : goal.loop-field-preserved
loop-field-preserved c =
    let fields = c.args.fields.now in
    let i = c.loop-field.field-index in
    let d = c.field-item.result in
    let before = blank_before (take i fields) in
    let text = c.args.text.now in
    record {
      added =
          c.in_ok-add_field.ensures
          ∙ (ap (λ (t : List ℕ). t ++ 32 ∷ d) c.loop-field.invariant.added
          ∙ (append_assoc text before (32 ∷ d)
          ∙ ap (λ (t : List ℕ). text ++ t) (ap (λ (f : List ℕ). before ++ 32 ∷ f) c.field-item.is
          ∙ sym (blank_more fields i d c.loop-field-test.true))));
      last =
          c.last_of-end.ensures
          ∙ (ap (last_from 32) (c.bytes.ensures ∙ c.field-item.is)
          ∙ sym (last_more fields i c.args.last d c.loop-field-test.true));
    }

pub returns-clause-added : goal.returns-clause-added
returns-clause-added c =
    c.loop-field.invariant.added
    ∙ ap (λ (fs : List (List ℕ)). c.args.text.now ++ blank_before fs)
    (take_all c.loop-field.field-index c.args.fields.now c.loop-field-test.false)

pub returns-clause-last : goal.returns-clause-last
returns-clause-last c =
    c.loop-field.invariant.last
    ∙ ap (λ (fs : List (List ℕ)). last_from c.args.last (blank_before fs))
    (take_all c.loop-field.field-index c.args.fields.now c.loop-field-test.false)
