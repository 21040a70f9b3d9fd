-- What the text of a transfer amounts to.
use Rattle.std.specs.Prelude.{◌≡◌, ◌≢◌, ℕ, ◌+◌, true, false, List, [], ◌∷◌, ◌++◌, length}
use Rattle.itf_lines.specs.LogicalLines.{LogicalLines, logical}
use Rattle.itf_reader.specs.Findings.{Finding, in_order}
use Rattle.itf_reader.specs.Forms.{Row}
use Rattle.itf_reader.specs.Layouts.{form_of}
use Rattle.itf_reader.specs.Readings.{Structure, IsRead, IsRefused as IsAtFault}
use Rattle.table_layout.specs.Layouts.{Layout}
use Rattle.domain_rules.specs.ValueFindings.{value_findings}
use Rattle.ident_refs.specs.KeyFindings.{key_findings}
use Rattle.certificate.specs.Spelling.{Plain, AreSpelt}
use Rattle.delivery.specs.AreaAnswers.{AreAnswers}
use Rattle.delivery.specs.AreaPolygons.{ArePolygonsFor}
use Rattle.area_drawings.specs.AreaLimits.{has_too_large}
use Rattle.area_drawings.specs.Drawings.{AreDrawings}
use Rattle.plane.specs.Rule.Plans.{Plan}
use Rattle.polygons.specs.Text as polygons
use Rattle.commands.specs.Commands.{Target}
use Rattle.reports.specs.Outcomes.{Outcome, area_too_large, malformed, rejected}
use Rattle.reports.specs.Outcomes.{areas_outcome}
use Rattle.reports.specs.Surfaces.{surfaces}
use Rattle.reports.specs.declared.lines.AreaAnswer.{AreaAnswer}
use Rattle.reports.specs.declared.lines.SurfaceAnswer.{SurfaceAnswer}
use Rattle.reports.specs.declared.status.Status.TheVariants.{Accepted}
use Rattle.delivery.specs.Surfaces.{AreSurfaceAnswers}

-- the logical lines of a transfer, by the codes of its layout
abbrev pub lines_of : Layout → List ℕ → LogicalLines
lines_of l text = logical l.codes.continued text

-- all findings, in the order of the report: those of the values, and those of keys and references
abbrev pub findings : Layout → List (List Row) → List Finding
findings l rows = in_order (value_findings l rows ++ key_findings l rows)

-- how many objects there are, those of helper tables included
abbrev pub objects : List (List Row) → ℕ
objects [] = 0
objects (rows ∷ tables) = length rows + objects tables

-- ---- a transfer by its layout
-- the first line at fault, and its code
abbrev pub IsMalformed : Layout → List ℕ → ℕ → Structure → Type 0
IsMalformed l text n code = IsAtFault (form_of l) (lines_of l text) n code

-- the text is a transfer with these rows
abbrev pub IsTextOf : Layout → List ℕ → List (List Row) → Type 0
IsTextOf l text rows = IsRead (form_of l) (lines_of l text) rows

-- the rows meet the declarations of their tables
abbrev pub IsClean : Layout → List (List Row) → Type 0
IsClean l rows = findings l rows ≡ []

-- the transfer has rows that meet the declarations, and no area is over its limit; and the rows
-- pass the test
abbrev pub HasSoundRows : Layout → List ℕ → (List (List Row) → Type 0) → Type 0
HasSoundRows l text test =
    (rows : List (List Row)) × IsTextOf l text rows × IsClean l rows
    × (has_too_large rows l.areas ≡ false) × test rows

-- The outcome of the text of a transfer. `Areas rows o`: what is said of the areas of such rows has
-- the outcome o.
pub data IsJudgedBy (l : Layout) (text : List ℕ) (Areas : List (List Row) → Outcome → Type 0)
    (o : Outcome) : Type 0 where
  -- a line is at fault
  at_fault : (n : ℕ) (code : Structure) → IsMalformed l text n code → o ≡ malformed n code
      → IsJudgedBy l text Areas o
  -- its rows break a rule
  faulty : (rows : List (List Row)) → IsTextOf l text rows → findings l rows ≢ []
      → o ≡ rejected (findings l rows) → IsJudgedBy l text Areas o
  -- they meet the declarations, and an area is over its limit
  oversized : (rows : List (List Row)) → IsTextOf l text rows → IsClean l rows
      → has_too_large rows l.areas ≡ true → o ≡ area_too_large → IsJudgedBy l text Areas o
  -- they meet the declarations, and no area is over its limit
  sound : HasSoundRows l text (λ rows. Areas rows o) → IsJudgedBy l text Areas o

-- The areas of rows are drawn, and the outcome has the answers to the SURFACEs and to the drawings.
-- Where it is accepted and polygons are to be filed, these are those of the drawings.
pub record AreJudged (target : Target) (l : Layout) (rows : List (List Row))
    (o : Outcome) : Type 0 where
  pub surface_answers : List SurfaceAnswer
  pub surfaces_answered : AreSurfaceAnswers l rows (surfaces l) surface_answers
  pub drawings : List Plan
  pub answers : List AreaAnswer
  pub certificates : List Plain
  pub drawn : AreDrawings l rows drawings
  pub answered : AreAnswers l l.areas drawings answers certificates
  pub spelt : AreSpelt certificates
  pub polygons : List polygons.Plain
  pub bounded : o.status ≡ Accepted → ArePolygonsFor target.filed l drawings polygons
  pub is : o ≡ areas_outcome l (objects rows) target surface_answers answers certificates
      polygons

-- the outcome of a transfer's text, whose certificates or polygons go to that target
abbrev pub IsChecked : Target → Layout → List ℕ → Outcome → Type 0
IsChecked target l text o = IsJudgedBy l text (AreJudged target l) o
