-- What a text spells of which a front was taken.
use Rattle.std.specs.Prelude.{ℕ, ◌+◌, List, ◌++◌, length, Result, ⊤}
use Rattle.certificate.specs.declared.fault.CertFault.{CertFault}
use Rattle.certificate.specs.declared.fault.CertFault.TheVariants as faults
use Rattle.certificate.specs.declared.stages.Stage.{Stage}
use Rattle.certificate.specs.Spelling.{Plain}
use Rattle.certificate.specs.Feeding.{stage_on}

-- what was read of whole lines, the number of the line that comes next, and the front of that line
pub record Feed : Type 0 where
  pub stage : Stage
  pub line : ℕ
  pub begun : List ℕ

-- what the whole text spells, by the bytes that come
abbrev pub gives : Feed → List ℕ → Result (List Plain) CertFault
gives feed rest = stage_on feed.stage (record { rest = feed.begun ++ rest; line = feed.line })

-- no line has a greater number, where the text ends here
abbrev pub lines : Feed → ℕ
lines feed = feed.line + length feed.begun

-- a fault of the text itself
abbrev pub IsOfText : CertFault → Type 0
IsOfText (faults.Line n) = ⊤
IsOfText (faults.Number n) = ⊤
IsOfText (faults.Short n) = ⊤
IsOfText faults.Memory = ⊥
