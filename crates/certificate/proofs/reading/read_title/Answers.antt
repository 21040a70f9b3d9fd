use Rattle.std.proofs.Common.{◌≡◌, ◌<◌, ◌-◌, Ok, arith}
use Rattle.std.proofs.lemmas.Result.{err_from_is_err_and}
use Rattle.certificate.specs.declared.fault.CertFault.TheVariants as faults
use Rattle.certificate.specs.Spelling.{views}
use Rattle.certificate.specs.Parts.{title_at}
use Rattle.certificate.specs.Reading.{line_at, Fails}
use Rattle.certificate.specs.Views.{text_view, title_view}
use Rattle.certificate.specs.Feeding.{listed_on, list_on, closes, sizes_on}
use Rattle.certificate.proofs.Resuming.{leads_by, fails_by}
use Rattle.certificate.proofs.ListLaws.{nothing_open, surplus_fails, title_fails, title_leads}
use Rattle.certificate.proofs.ListLaws.{title_found, title_missed}
use Rattle.certificate.proofs.reading.read_title.Goals as goal

pub returns-then-list-eq0-clause-fails : goal.returns-then-list-eq0-clause-fails
returns-then-list-eq0-clause-fails c =
    fails_by (faults.Line c.args.text.line) (listed_on c.args.list.now)
    (list_on c.args.list.now.version c.args.list.now.left (views c.args.list.now.done.items))
    (text_view c.args.text) (nothing_open c.args.list.now c.requires.nothing)
    (surplus_fails c.args.list.now.version c.args.list.now.left (views c.args.list.now.done.items)
    (text_view c.args.text) c.if-list-eq0.true c.requires.some)

pub returns-in_err-title-clause-fails : goal.returns-in_err-title-clause-fails
returns-in_err-title-clause-fails c =
    let e = c.in_err-title.field-0.0 in
    let z : 0 < c.args.list.now.left = omega arith in
    let f : Fails e (line_at title_at (text_view c.args.text)) = title_missed
    (text_view c.args.text) c.title_at.result e c.title_at.ensures.value
    c.in_err-title.ensures.value in
    let p = err_from_is_err_and c.from_residual.result c.from_residual.ensures.1 in
    rw (p.1, p.2)
    (fails_by e (listed_on c.args.list.now)
    (list_on c.args.list.now.version c.args.list.now.left (views c.args.list.now.done.items))
    (text_view c.args.text) (nothing_open c.args.list.now c.requires.nothing)
    (title_fails e c.args.list.now.version c.args.list.now.left
    (views c.args.list.now.done.items) (text_view c.args.text) z c.requires.some f))

pub returns-clause-on : goal.returns-clause-on
returns-clause-on c =
    let x = title_view c.in_ok-title.title in
    let u = text_view c.in_ok-title.text in
    let z : 0 < c.args.list.now.left = omega arith in
    let found : line_at title_at (text_view c.args.text)
    ≡ Ok (x, u) =
    title_found (text_view c.args.text) c.title_at.result c.in_ok-title.title u
    c.title_at.ensures.value c.in_ok-title.ensures.value in
    rw c.in_ok-names_of.ensures
    (leads_by (listed_on c.args.list.now)
    (list_on c.args.list.now.version c.args.list.now.left (views c.args.list.now.done.items))
    (λ y. closes c.args.list.now.version (c.args.list.now.left - 1)
    (views c.args.list.now.done.items) (sizes_on c.args.list.now.version x y))
    (text_view c.args.text) u (nothing_open c.args.list.now c.requires.nothing)
    (title_leads c.args.list.now.version c.args.list.now.left (views c.args.list.now.done.items)
    (text_view c.args.text) x u z c.requires.some found))
