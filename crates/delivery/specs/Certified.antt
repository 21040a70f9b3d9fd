-- What an accepted command leaves in the file that it writes.
use Rattle.std.specs.Prelude.{◌≡◌, ℕ, false, List, [], ◌∷◌, Option, Some}
use Rattle.ports.specs.Files.{Files, Puts}
use Rattle.certificate.specs.Spelling.{Plain, AreSpelt, spelling}
use Rattle.itf_reader.specs.Forms.{Row}
use Rattle.table_layout.specs.Layouts.{Layout}
use Rattle.delivery.specs.AreaCertificates.{AreCertificatesOf}
use Rattle.delivery.specs.AreaPolygons.{AreWrittenAreas}
use Rattle.area_drawings.specs.AreaLimits.{has_too_large}
use Rattle.commands.specs.Commands.{Command, IsCommand, Task, judges, rewrites, task_of, writes_to}
use Rattle.commands.specs.declared.task.Filed.{Filed}
use Rattle.commands.specs.declared.task.Filed.TheVariants as filed
use Rattle.area_drawings.specs.Drawings.{AreDrawings}
use Rattle.plane.specs.Rule.Plans.{Plan}
use Rattle.polygons.specs.Text as polygons
use Rattle.polygons.specs.Text.{polygons_text}
use Rattle.commands.specs.Gathering.{texts, InputsOf}
use Rattle.delivery.specs.Judging.{IsTextOf, IsClean}
use Rattle.delivery.specs.Rewriting.{canon_of}

-- The transfer has rows that meet the declarations, no AREA is over its limit, and these
-- certificates, one for each AREA by its names, prove their drawings and are such as can be written
-- and read back.
pub record AreCertified (l : Layout) (text : List ℕ) (cs : List Plain) : Type 0 where
  pub rows : List (List Row)
  pub drawings : List Plan
  pub rows_of : IsTextOf l text rows
  pub clean : IsClean l rows
  pub few : has_too_large rows l.areas ≡ false
  pub drawn : AreDrawings l rows drawings
  pub proved : AreCertificatesOf l l.areas drawings cs
  pub spelt : AreSpelt cs

-- The transfer has rows that meet the declarations, no AREA is over its limit, and these are the
-- polygons of each AREA by its names.
pub record AreBounded (l : Layout) (text : List ℕ) (ps : List polygons.Plain) : Type 0 where
  pub rows : List (List Row)
  pub drawings : List Plan
  pub rows_of : IsTextOf l text rows
  pub clean : IsClean l rows
  pub few : has_too_large rows l.areas ≡ false
  pub drawn : AreDrawings l rows drawings
  pub written : AreWrittenAreas l l.areas drawings ps

-- what is filed of the text of a transfer: the text of such polygons, or of such certificates
abbrev pub LeavesFiled : Filed → Layout → List ℕ → List ℕ → Type 0
LeavesFiled filed.Polygons l text left =
    (ps : List polygons.Plain) × AreBounded l text ps × (left ≡ polygons_text ps)
LeavesFiled other l text left =
    (cs : List Plain) × AreCertified l text cs × (left ≡ spelling cs)

-- What a task leaves of the text of a transfer: what is filed of it, or the canonical text of its
-- rows.
abbrev pub Leaves : Task → Layout → List ℕ → List ℕ → Type 0
Leaves (judges s target) l text left = LeavesFiled target.filed l text left
Leaves (rewrites s name) l text left =
    (rows : List (List Row)) × IsTextOf l text rows × (left ≡ canon_of l rows)
Leaves t l text left = ⊥

-- where the words are a command that writes a file, that file holds what its task leaves, and no
-- other file has changed
abbrev pub Certifies : Option Files → (List ℕ → Type 0) → List (List ℕ) → Option Files → Type 0
Certifies held counted words new =
    (c : Command) (name : List ℕ) → IsCommand words c → writes_to (task_of c) ≡ Some name
    → (l : Layout) × (text left : List ℕ) × InputsOf held counted c (texts l (text ∷ []))
    × Leaves (task_of c) l text left × Puts held name (λ file. left) new
