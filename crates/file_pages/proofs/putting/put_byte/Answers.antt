use Rattle.std.proofs.Common.{sym, ◌∙◌}
use Rattle.file_pages.proofs.Steps.{wrote_then, wrote_failed, wrote_waiting, wrote_unmoved}
use Rattle.file_pages.proofs.putting.put_byte.Goals as goal

pub returns-then-has_failed : goal.returns-then-has_failed
returns-then-has_failed g c = wrote_failed (sym c.has_failed.ensures ∙ c.if-has_failed.true)

pub returns-then-add_byte : goal.returns-then-add_byte
returns-then-add_byte g c =
    wrote_waiting (sym c.has_failed.ensures ∙ c.if-has_failed.false) c.add_byte.ensures.failed
    (c.add_byte.ensures.added c.if-add_byte.true)

pub returns : goal.returns
returns g c =
    let working = sym c.has_failed.ensures ∙ c.if-has_failed.false in
    let full = c.add_byte.ensures.full c.if-add_byte.false in
    wrote_then (wrote_unmoved working c.add_byte.ensures.failed full) c.put_behind.ensures
