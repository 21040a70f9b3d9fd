use Rattle.certificate_checker.specs.Cases.{judged}
use Rattle.certificate_checker.proofs.Linking.{label_as}
use Rattle.certificate_checker.proofs.notes.label_at.Goals as goal

pub returns : goal.returns
returns c = label_as (judged c.args.case.now) c.deref-notes.result.now c.args.h _
    c.deref-notes.ensures.value c.requires
