use Rattle.std.proofs.Common.{sym}
use Rattle.std.proofs.lemmas.Fmt.{decimal_digit}
use Rattle.file_pages.proofs.Steps.{wrote_as}
use Rattle.certificate.proofs.lines.put_digits.Goals as goal

pub returns-then-number-lt10 : goal.returns-then-number-lt10
returns-then-number-lt10 g c =
    wrote_as (sym (decimal_digit c.args.number c.if-number-lt10.true)) c.put_byte.ensures
