-- The verification of the code, without where its parts lie in memory.
use Rattle.reports.specs.Verifications.{Verification, proved, not_proved}
use Rattle.reports.specs.declared.verification.Verification as verifying
use Rattle.reports.specs.declared.verification.Verification.TheVariants as code

abbrev pub verification_of : verifying.Verification → Verification
verification_of (code.Proved levels) = proved levels.items
verification_of (code.NotProved area rule place) = not_proved area rule place
