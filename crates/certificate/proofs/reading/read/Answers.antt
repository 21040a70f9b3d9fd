use Rattle.std.proofs.Common.{subst}
use Rattle.certificate.specs.Spelling.{views}
use Rattle.certificate.specs.Reading.{Gives, list_of}
use Rattle.certificate.proofs.TextLaws.{is_found, list_is}
use Rattle.certificate.proofs.FirstBadLine.{is_first_bad}
use Rattle.certificate.proofs.ListLaws.{list_is_read}
use Rattle.certificate.proofs.reading.read.Goals as goal

pub returns-clause-exact : goal.returns-clause-exact
returns-clause-exact c =
    subst (λ r. Gives (λ list. views list.items) c.read_end.result r)
    (list_is_read c.args.bytes.now) c.read_end.ensures.value

pub returns-clause-found : goal.returns-clause-found
returns-clause-found c =
    let e : Gives (λ list. views list.items) c.read_end.result (list_of c.args.bytes.now) = subst
    (λ r. Gives (λ list. views list.items) c.read_end.result r)
    (list_is_read c.args.bytes.now) c.read_end.ensures.value in
    is_found (λ list. views list.items) c.args.bytes.now c.read_end.result e

pub returns-clause-only : goal.returns-clause-only
returns-clause-only c = λ list fits e.
    let x : Gives (λ list. views list.items) c.read_end.result (list_of c.args.bytes.now) = subst
    (λ r. Gives (λ list. views list.items) c.read_end.result r)
    (list_is_read c.args.bytes.now) c.read_end.ensures.value in
    subst (λ f. Gives (λ list. views list.items) c.read_end.result f)
    (list_is c.args.bytes.now list fits e) x

pub returns-clause-first_bad : goal.returns-clause-first_bad
returns-clause-first_bad c =
    let e : Gives (λ list. views list.items) c.read_end.result (list_of c.args.bytes.now) = subst
    (λ r. Gives (λ list. views list.items) c.read_end.result r)
    (list_is_read c.args.bytes.now) c.read_end.ensures.value in
    is_first_bad (λ list. views list.items) c.args.bytes.now c.read_end.result e
