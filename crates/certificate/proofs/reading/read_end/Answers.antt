use Rattle.std.proofs.Common.{sym, subst}
use Rattle.std.proofs.lemmas.Result.{err_from_is_err_and}
use Rattle.certificate.specs.declared.stages.Stage.TheVariants.{Start, Versioned, Listing}
use Rattle.certificate.specs.Spelling.{views}
use Rattle.certificate.specs.Reading.{Gives}
use Rattle.certificate.specs.Views.{text_view}
use Rattle.certificate.proofs.ListLaws.{whole, whole_fails, failed_before}
use Rattle.certificate.proofs.reading.read_end.Goals as goal

pub returns-in_err-stage-clause-value : goal.returns-in_err-stage-clause-value
returns-in_err-stage-clause-value c =
    let p = err_from_is_err_and c.from_residual.result c.from_residual.ensures.1 in
    rw (p.1, p.2)
    (whole_fails c.in_err-stage.field-0.0 c.args.stage
    (text_view c.args.text) c.in_err-stage.ensures.fails)

pub returns-in-Listing-clause-value : goal.returns-in-Listing-clause-value
returns-in-Listing-clause-value c =
    let e = whole c.args.stage c.in_ok-stage.stage (Listing c.in-Listing.list)
    (text_view c.args.text) c.in_ok-stage.line c.in-Listing.is c.in_ok-stage.ensures.on in
    subst (λ r. Gives (λ list. views list.items) c.list_before.result r)
    (sym e) c.list_before.ensures.value

pub returns-in-Start-clause-value : goal.returns-in-Start-clause-value
returns-in-Start-clause-value c =
    whole c.args.stage c.in_ok-stage.stage Start
    (text_view c.args.text) c.in_ok-stage.line c.in-Start.is c.in_ok-stage.ensures.on

pub returns-in-Versioned-clause-value : goal.returns-in-Versioned-clause-value
returns-in-Versioned-clause-value c =
    whole c.args.stage c.in_ok-stage.stage (Versioned c.in-Versioned.field-0)
    (text_view c.args.text) c.in_ok-stage.line c.in-Versioned.is c.in_ok-stage.ensures.on

pub returns-in-Failed-clause-value : goal.returns-in-Failed-clause-value
returns-in-Failed-clause-value c =
    failed_before c.in-Failed.fault c.args.stage c.in_ok-stage.stage
    (text_view c.args.text) c.in_ok-stage.line c.in-Failed.is c.in_ok-stage.ensures.on
