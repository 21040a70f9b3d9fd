use Rattle.std.proofs.Common.{List, refl, sym, subst}
use Rattle.certificate.specs.Spelling.{views}
use Rattle.certificate.specs.declared.notes.Certificate.{Certificate}
use Rattle.delivery.specs.FiledLists.{IsReadOf}
use Rattle.delivery.specs.Verifying.{AreFiledIn, unspelt}
use Rattle.commands.proofs.Results.{if_ok}
use Rattle.delivery.proofs.VerifyingLemmas.{no_list, bad_line_named}
use Rattle.delivery.proofs.verifying.verify_areas.Goals as goal

pub returns-in-Ok : goal.returns-in-Ok
returns-in-Ok c text r =
    let read = subst (IsReadOf text) c.in-Ok.is r in
    if_ok _ _ c.verify_list.result
    (λ v h. h text
    (subst (λ (cs : List Certificate). AreFiledIn text (views cs))
    (sym c.deref.ensures.value) read.found))
    c.verify_list.ensures

pub returns-in_ok-line_of-in-Err : goal.returns-in_ok-line_of-in-Err
returns-in_ok-line_of-in-Err c text r =
    let read = subst (IsReadOf text) c.in-Err.is r in
    let line = c.in_ok-line_of-in-Err.field-0 in
    let q = c.in_ok-line_of-in-Err.ensures in
    unspelt line (λ cs s. no_list c.in-Err.fault line cs q (read.only cs s))
    (bad_line_named text c.in-Err.fault line read.first_bad q) refl
