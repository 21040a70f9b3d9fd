use Rattle.std.proofs.Common.{◌≡◌, Ok, sym, ◌∙◌, subst}
use Rattle.std.proofs.lemmas.Result.{err_from_is_err_and}
use Rattle.certificate.specs.Parts.{version_at, areas_at}
use Rattle.certificate.specs.Reading.{line_at, Fails}
use Rattle.certificate.specs.Views.{text_view}
use Rattle.certificate.proofs.Loop.{same_line}
use Rattle.certificate.proofs.ListLaws.{start_leads, start_fails, areas_lead, areas_fail}
use Rattle.certificate.proofs.reading.read_next.Goals as goal

pub returns-in_err-version-in-Start-clause-fails : goal.returns-in_err-version-in-Start-clause-fails
returns-in_err-version-in-Start-clause-fails c =
    let t = text_view c.args.text in
    let e = c.in_err-version-in-Start.field-0.0 in
    let f : Fails e (line_at version_at t) = subst (λ l. Fails e l)
    (same_line version_at t c.version_at.result c.version_at.ensures.value)
    c.in_err-version-in-Start.ensures.value in
    let p = err_from_is_err_and c.from_residual.result c.from_residual.ensures.1 in
    rw (p.1, p.2) (start_fails e c.args.stage t c.in-Start.is c.requires.some f)

pub returns-in_ok-version-in-Start-clause-on : goal.returns-in_ok-version-in-Start-clause-on
returns-in_ok-version-in-Start-clause-on c =
    let t = text_view c.args.text in
    let v = c.in_ok-version-in-Start.version in
    let u = text_view c.in_ok-version-in-Start.text in
    let found : line_at version_at t ≡ Ok (v, u) = sym
    (same_line version_at t c.version_at.result c.version_at.ensures.value)
    ∙ c.in_ok-version-in-Start.ensures.value in
    start_leads c.args.stage t v u c.in-Start.is c.requires.some found

pub returns-in_err-left-in-Versioned-clause-fails : goal.returns-in_err-left-in-Versioned-clause-fails
returns-in_err-left-in-Versioned-clause-fails c =
    let t = text_view c.args.text in
    let e = c.in_err-left-in-Versioned.field-0.0 in
    let f : Fails e (line_at areas_at t) = subst (λ l. Fails e l)
    (same_line areas_at t c.areas_at.result c.areas_at.ensures.value)
    c.in_err-left-in-Versioned.ensures.value in
    let p = err_from_is_err_and c.from_residual-in_err-left-in-Versioned.result
    c.from_residual-in_err-left-in-Versioned.ensures.1 in
    rw (p.1, p.2)
    (areas_fail e c.args.stage c.in-Versioned.version t c.in-Versioned.is c.requires.some f)

pub returns-in_ok-left-in-Versioned-clause-on : goal.returns-in_ok-left-in-Versioned-clause-on
returns-in_ok-left-in-Versioned-clause-on c =
    let t = text_view c.args.text in
    let n = c.in_ok-left-in-Versioned.left in
    let u = text_view c.in_ok-left-in-Versioned.text in
    let found : line_at areas_at t ≡ Ok (n, u) = sym
    (same_line areas_at t c.areas_at.result c.areas_at.ensures.value)
    ∙ c.in_ok-left-in-Versioned.ensures.value in
    rw c.new.ensures.items
    (areas_lead c.args.stage c.in-Versioned.version t n u c.in-Versioned.is c.requires.some
    found)
