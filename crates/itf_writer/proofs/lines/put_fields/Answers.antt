use Rattle.std.proofs.Common.{◌∙◌, ◌∷◌, sym, ap, List, ℕ}
use Rattle.std.proofs.lemmas.List.{take_all}
use Rattle.file_pages.proofs.Steps.{wrote_then, wrote_as}
use Rattle.itf_writer.specs.Canonical.{blank_before}
use Rattle.itf_writer.specs.Ends.{last_from}
use Rattle.itf_writer.proofs.Ends.{blank_more, last_more}
use Rattle.itf_writer.proofs.lines.put_fields.Goals as goal

pub loop-field-preserved : goal.loop-field-preserved
loop-field-preserved g c = record {
  wrote = wrote_as
      (sym (blank_more c.args.fields.now c.loop-field.field-index c.field-item.result
      c.loop-field-test.true))
      (wrote_then c.loop-field.invariant.wrote
      (wrote_as (ap (λ (f : List ℕ). 32 ∷ f) c.field-item.is) c.put_field.ensures));
  last = c.last_of-end.ensures
      ∙ (ap (last_from 32) (c.bytes.ensures ∙ c.field-item.is)
      ∙ sym (last_more c.args.fields.now c.loop-field.field-index c.args.last c.field-item.result
      c.loop-field-test.true));
}

pub returns-clause-wrote : goal.returns-clause-wrote
returns-clause-wrote g c =
    wrote_as (ap blank_before
    (take_all c.loop-field.field-index c.args.fields.now c.loop-field-test.false))
    c.loop-field.invariant.wrote

pub returns-clause-last : goal.returns-clause-last
returns-clause-last g c = c.loop-field.invariant.last
    ∙ ap (λ (fs : List (List ℕ)). last_from c.args.last (blank_before fs))
    (take_all c.loop-field.field-index c.args.fields.now c.loop-field-test.false)
