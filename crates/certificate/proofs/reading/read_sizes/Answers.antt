use Rattle.std.proofs.Common.{◌≡◌, Ok, sym, ◌∙◌, subst}
use Rattle.std.proofs.lemmas.Result.{err_from_is_err_and}
use Rattle.certificate.specs.Spelling.{views}
use Rattle.certificate.specs.Parts.{sizes_at}
use Rattle.certificate.specs.Reading.{line_at, Fails}
use Rattle.certificate.specs.Views.{text_view}
use Rattle.certificate.specs.Feeding.{names_view}
use Rattle.certificate.proofs.Loop.{same_line}
use Rattle.certificate.proofs.ListLaws.{sizes_lead, sizes_fail}
use Rattle.certificate.proofs.reading.read_sizes.Goals as goal

pub returns-in_err-sizes-clause-fails : goal.returns-in_err-sizes-clause-fails
returns-in_err-sizes-clause-fails c =
    let e = c.in_err-sizes.field-0.0 in
    let f : Fails e (line_at (sizes_at c.args.list.now.version) (text_view c.args.text)) = subst
    (λ l. Fails e l)
    (same_line (sizes_at c.args.list.now.version)
    (text_view c.args.text) c.sizes_at.result c.sizes_at.ensures.value)
    c.in_err-sizes.ensures.value in
    let p = err_from_is_err_and c.from_residual.result c.from_residual.ensures.1 in
    rw (p.1, p.2)
    (sizes_fail e c.args.list.now.version c.args.list.now.left
    (views c.args.list.now.done.items) (names_view c.args.names)
    (text_view c.args.text) c.requires.some f)

pub returns-clause-on : goal.returns-clause-on
returns-clause-on c =
    let x = c.in_ok-sizes.sizes in
    let u = text_view c.in_ok-sizes.text in
    let found : line_at (sizes_at c.args.list.now.version) (text_view c.args.text)
    ≡ Ok (x, u) =
    sym (same_line (sizes_at c.args.list.now.version)
    (text_view c.args.text) c.sizes_at.result c.sizes_at.ensures.value)
    ∙ c.in_ok-sizes.ensures.value in
    rw (c.begun.ensures.certificate, c.begun.ensures.left)
    (sizes_lead c.args.list.now.version c.args.list.now.left (views c.args.list.now.done.items)
    (names_view c.args.names) (text_view c.args.text) x u c.requires.some found)
