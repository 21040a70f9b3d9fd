use Rattle.std.proofs.Common.{◌≡◌, true, false}
use Rattle.certificate.specs.Feeding.{is_complete}
use Rattle.certificate.proofs.ListLaws.{complete, incomplete}
use Rattle.certificate.proofs.reading.list_before.Goals as goal

pub returns-then-not-is_complete-clause-value : goal.returns-then-not-is_complete-clause-value
returns-then-not-is_complete-clause-value c =
    let e : is_complete c.args.list ≡ false = cc in
    incomplete c.args.list c.args.line e

pub returns-clause-value : goal.returns-clause-value
returns-clause-value c =
    let e : is_complete c.args.list ≡ true = cc in
    complete c.args.list c.args.line e
