use Rattle.std.proofs.Common.{ap, ◌∙◌, subst}
use Rattle.itf_reader.specs.Refusals.{fault_of}
use Rattle.reports.specs.Outcomes.{rejected}
use Rattle.delivery.specs.Judging.{at_fault, faulty, oversized}
use Rattle.delivery.specs.Pieces.{IsJudgedFor}
use Rattle.delivery.specs.declared.judging.closing.Judged.{Judged}
use Rattle.delivery.proofs.rows.sound_rows.Goals as goal

pub returns-in_ok-malformed-in-Malformed : goal.returns-in_ok-malformed-in-Malformed
returns-in_ok-malformed-in-Malformed c w l text h =
    let j = subst (λ (x : Judged). IsJudgedFor w l text x) c.in-Malformed.is h in
    at_fault c.in-Malformed.line (fault_of c.in-Malformed.code) j
    c.in_ok-malformed-in-Malformed.ensures

pub returns-in_ok-rejected-in-Faulty : goal.returns-in_ok-rejected-in-Faulty
returns-in_ok-rejected-in-Faulty c w l text h =
    let j = subst (λ (x : Judged). IsJudgedFor w l text x) c.in-Faulty.is h in
    faulty j.0 j.1 j.2 (c.in_ok-rejected-in-Faulty.ensures ∙ ap rejected j.3)

pub returns-in_ok-area_too_large-in-Oversized : goal.returns-in_ok-area_too_large-in-Oversized
returns-in_ok-area_too_large-in-Oversized c w l text h =
    let j = subst (λ (x : Judged). IsJudgedFor w l text x) c.in-Oversized.is h in
    oversized j.0 j.1 j.2 j.3 c.in_ok-area_too_large-in-Oversized.ensures

pub returns-in-Clean : goal.returns-in-Clean
returns-in-Clean c w l text h = subst (λ (x : Judged). IsJudgedFor w l text x) c.in-Clean.is h
