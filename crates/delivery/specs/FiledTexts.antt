-- What the text of a transfer and a filed text of certificates amount to.
use Rattle.std.specs.Prelude.{◌≡◌, ℕ, List}
use Rattle.itf_reader.specs.Forms.{Row}
use Rattle.table_layout.specs.Layouts.{Layout}
use Rattle.area_drawings.specs.Drawings.{AreDrawings}
use Rattle.plane.specs.Rule.Plans.{Plan}
use Rattle.delivery.specs.Judging.{objects, IsJudgedBy}
use Rattle.reports.specs.Outcomes as outcomes
use Rattle.reports.specs.Outcomes.{Outcome}
use Rattle.delivery.specs.Verifying.{IsVerification}
use Rattle.reports.specs.Verifications.{Verification}

-- the text of the certificates is judged against the drawings of all areas
pub record AreVerified (l : Layout) (filed : List ℕ) (rows : List (List Row))
    (o : Outcome) : Type 0 where
  pub drawings : List Plan
  pub verification : Verification
  pub drawn : AreDrawings l rows drawings
  pub judged : IsVerification l drawings filed verification
  pub is : o ≡ outcomes.verified l (objects rows) drawings verification

-- the outcome of a transfer's text and of the text of certificates
abbrev pub IsVerified : Layout → List ℕ → List ℕ → Outcome → Type 0
IsVerified l text filed o = IsJudgedBy l text (AreVerified l filed) o
