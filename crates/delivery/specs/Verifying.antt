-- What a filed text of certificates proves of the drawings of a layout's areas.
use Rattle.std.specs.Prelude.{◌≡◌, ◌⊎◌, ℕ, suc, ◌<◌, List, length, map, Option, Some, None}
use Rattle.std.specs.Prelude.{slice_get}
use Rattle.std.specs.List.{AllZip}
use Rattle.area_drawings.specs.Drawings.{IsDrawing, area_tolerance}
use Rattle.certificate.specs.FirstBad.{IsFirstBad, IsTooShort}
use Rattle.certificate.specs.Spelling.{Plain, AreSpelt, Spells}
use Rattle.certificate.specs.declared.fault.CertFault.{CertFault}
use Rattle.certificate.specs.declared.fault.CertFault.TheVariants as faults
use Rattle.certificate_checker.specs.Verdicts.{IsBrokenBy, ProvesBy}
use Rattle.forks.specs.Grounds.{IsGround}
use Rattle.itf_reader.specs.Forms.{Row}
use Rattle.plane.specs.Rule.Cuts.{IsArea}
use Rattle.plane.specs.Rule.Plans.{Plan}
use Rattle.table_layout.specs.Layouts.{AreaOf, Layout}
use Rattle.reports.specs.Verifications.{Verification, proved, not_proved}
use Rattle.delivery.specs.AreaCertificates.{AreCertificatesOf, IsNamedFor, claims_of}

-- ---- rule 0: the text spells a list of certificates
-- the text spells these certificates
pub record AreFiledIn (text : List ℕ) (cs : List Plain) : Type 0 where
  pub spelt : AreSpelt cs
  pub spells : Spells text cs

-- the first line, counted from 1, that is bad or missing
pub data IsBadLine (text : List ℕ) (line : ℕ) : Type 0 where
  bad : (n : ℕ) → IsFirstBad text n → line ≡ suc n → IsBadLine text line
  missing : (n : ℕ) → IsTooShort text n → line ≡ suc n → IsBadLine text line

-- ---- rule 1: one certificate for each area, by its names and in order
-- certificate k is there, and has the names of area k
pub record IsNamedAt (l : Layout) (cs : List Plain) (k : ℕ) : Type 0 where
  pub area : AreaOf
  pub certificate : Plain
  pub area_there : slice_get l.areas k ≡ Some area
  pub certificate_there : slice_get cs k ≡ Some certificate
  pub named : IsNamedFor l area certificate

-- there is one certificate for each AREA, with its names
pub record AreNamed (l : Layout) (cs : List Plain) : Type 0 where
  pub count : length cs ≡ length l.areas
  pub named : (k : ℕ) → k < length cs → IsNamedAt l cs k

-- the certificates before k have the names of their areas; number k is missing, surplus or of
-- another name
pub record IsMisnamedAt (l : Layout) (cs : List Plain) (k : ℕ) : Type 0 where
  pub before : (j : ℕ) → j < k → IsNamedAt l cs j
  pub there : (k < length l.areas) ⊎ (k < length cs)
  pub misnamed : IsNamedAt l cs k → ⊥

-- ---- the other rules: each certificate proves the drawing of its area
-- certificate k proves the drawing of area k, or what becomes of it by the overlap that the area
-- permits, as it says
pub record IsProvedAt (l : Layout) (ds : List Plan) (cs : List Plain) (k : ℕ) : Type 0 where
  pub area : AreaOf
  pub drawing : Plan
  pub certificate : Plain
  pub area_there : slice_get l.areas k ≡ Some area
  pub drawing_there : slice_get ds k ≡ Some drawing
  pub certificate_there : slice_get cs k ≡ Some certificate
  pub proves : ProvesBy (area_tolerance l area) drawing certificate.bent (claims_of certificate)

-- the certificates before k prove their drawings, and the rule is the first that certificate k
-- breaks, at that place
pub record IsBrokenAt (l : Layout) (ds : List Plan) (cs : List Plain)
    (k rule place : ℕ) : Type 0 where
  pub before : (j : ℕ) → j < k → IsProvedAt l ds cs j
  pub area : AreaOf
  pub drawing : Plan
  pub certificate : Plain
  pub area_there : slice_get l.areas k ≡ Some area
  pub drawing_there : slice_get ds k ≡ Some drawing
  pub certificate_there : slice_get cs k ≡ Some certificate
  pub broken :
      IsBrokenBy (area_tolerance l area) drawing certificate.bent (claims_of certificate) rule place

-- ---- all rules, in their order
-- the levels of certificates
abbrev pub levels_of : List Plain → List ℕ
levels_of cs = map (λ c. c.level) cs

-- what the text proves of the areas of the layout, whose drawings these are
pub data IsVerification (l : Layout) (ds : List Plan) (text : List ℕ)
    (v : Verification) : Type 0 where
  unspelt : (line : ℕ) → ((cs : List Plain) → AreFiledIn text cs → ⊥) → IsBadLine text line
      → v ≡ not_proved 0 0 line → IsVerification l ds text v
  misnamed : (cs : List Plain) (k : ℕ) → AreFiledIn text cs → IsMisnamedAt l cs k
      → v ≡ not_proved k 1 k
      → IsVerification l ds text v
  broken : (cs : List Plain) (k rule place : ℕ) → AreFiledIn text cs → AreNamed l cs
      → IsBrokenAt l ds cs k rule place → v ≡ not_proved k rule place → IsVerification l ds text v
  all_proved : (cs : List Plain) → AreFiledIn text cs → AreCertificatesOf l l.areas ds cs
      → v ≡ proved (levels_of cs) → IsVerification l ds text v

-- ---- what a text that proves all areas says of each
-- the drawing that the certificate is of, that of the area itself or what becomes of it, parts the
-- plane, each bounded region holds exactly one object's point, and no line has one region on both
-- sides
pub record IsFiledArea (l : Layout) (rows : List (List Row)) (a : AreaOf) (c : Plain) : Type 0 where
  pub drawing : Plan
  pub drawn : IsDrawing l rows a drawing
  pub of : Plan
  pub origin : List ℕ
  pub is_ground : IsGround (area_tolerance l a) drawing c.bent of origin
  pub area : IsArea of

-- the text spells certificates for all areas, and this holds of each
abbrev pub AreFiledAreas : Layout → List (List Row) → List ℕ → Type 0
AreFiledAreas l rows text =
    (cs : List Plain) × AreFiledIn text cs × AllZip (IsFiledArea l rows) l.areas cs

-- ---- what the parts of a verification answer
-- the first certificate that is missing, surplus or of another name, if there is one
abbrev pub IsFirstMisnamed : Layout → List Plain → Option ℕ → Type 0
IsFirstMisnamed l cs None = AreNamed l cs
IsFirstMisnamed l cs (Some k) = IsMisnamedAt l cs k

-- the certificates against their drawings
abbrev pub AreChecked : Layout → List Plan → List Plain → Verification → Type 0
AreChecked l ds cs (proved levels) =
    (levels ≡ levels_of cs) × ((k : ℕ) → k < length cs → IsProvedAt l ds cs k)
AreChecked l ds cs (not_proved k rule place) = IsBrokenAt l ds cs k rule place

-- the line of a fault
abbrev pub IsLineOf : CertFault → ℕ → Type 0
IsLineOf (faults.Line n) line = line ≡ n
IsLineOf (faults.Number n) line = line ≡ n
IsLineOf (faults.Short n) line = line ≡ n
IsLineOf faults.Memory line = ⊥
