-- What is read of a file of certificates as it comes.
use Rattle.std.specs.Global.{Vec}
use Rattle.std.specs.Prelude.{◌≡◌, ℕ, ◌<◌, ◌^◌, ◌+◌, List, ◌++◌, Option, Result, Ok, IfOk, IfErr}
use Rattle.ports.specs.Files.{Files}
use Rattle.commands.specs.Reading.{IsWhole}
use Rattle.certificate.specs.Feeding.{ArePairedIn}
use Rattle.certificate.specs.Feeds.{gives, lines}
use Rattle.certificate.specs.FirstBad.{IsFault}
use Rattle.certificate.specs.Reading.{Gives}
use Rattle.certificate.specs.Spelling.{Plain, views}
use Rattle.certificate.specs.declared.fault.CertFault.{CertFault}
use Rattle.certificate.specs.declared.notes.Certificate.{Certificate}
use Rattle.delivery.specs.Verifying.{AreFiledIn}
use Rattle.delivery.specs.declared.filed.FileFeed.{FileFeed}

-- some bytes led it from one state to another: whatever follows them, the same is read
abbrev pub HasTaken : FileFeed → List ℕ → FileFeed → Type 0
HasTaken old bytes new =
    (rest : List ℕ) → gives old.feed (bytes ++ rest) ≡ gives new.feed rest

-- it can take so many bytes more
abbrev pub CanTake : FileFeed → ℕ → Type 0
CanTake file n = lines file.feed + n < 2 ^ 32

-- what the text of a file of certificates is read as: the list that it spells, or its first bad
-- line, unless memory runs out
pub record IsReadOf (text : List ℕ) (read : Result (Vec Certificate) CertFault) : Type 0 where
  pub found : IfOk read (λ list. AreFiledIn text (views list.items))
  pub only : (cs : List Plain) → AreFiledIn text cs → Gives (λ list. views list.items) read (Ok cs)
  pub first_bad : IfErr read (IsFault text)
  pub paired : IfOk read (λ list. ArePairedIn list.items)

-- what a file of certificates is read as
abbrev pub IsFileOf : Option Files → List ℕ → Result (Vec Certificate) CertFault → Type 0
IsFileOf held name read =
    (text : List ℕ) × IsWhole held name 1073741824 text × IsReadOf text read
