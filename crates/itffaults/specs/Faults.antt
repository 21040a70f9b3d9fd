-- What the words, the files and the answer of a call have to do with each other.
use Rattle.std.specs.Prelude.{◌≡◌, ◌≢◌, ◌⊎◌, ℕ, Bool, true, false, List, [], ◌∷◌, ⊤, Option, codes}
use Rattle.std.specs.Prelude.{slice_get}
use Rattle.std.specs.List.{count_by, flat_map}
use Rattle.area_drawings.specs.AreaLimits.{has_too_large}
use Rattle.area_drawings.specs.Drawings.{AreDrawings, area_tolerance, lines_in}
use Rattle.area_faults.specs.Answers.{IsToldOf}
use Rattle.area_faults.specs.declared.kinds.AreaFaults.{AreaFaults}
use Rattle.commands.specs.Commands.{FileNames, is_file_name}
use Rattle.commands.specs.ModelTexts.{HasLayout}
use Rattle.commands.specs.Reading.{IsWhole}
use Rattle.delivery.specs.Deciding.{CallOutcome}
use Rattle.delivery.specs.Drawn.{IsEarly, IsOfFiles}
use Rattle.delivery.specs.Effects.{HoldsFront}
use Rattle.delivery.specs.Judging.{IsClean, IsTextOf, objects}
use Rattle.delivery.specs.Surfaces.{AreSurfaceAnswers}
use Rattle.itffaults.specs.FaultText.Report.{all_verdict, fault_report}
use Rattle.itffaults.specs.FaultText.Text.{Telling, fault_text, rejected_text}
use Rattle.itffaults.specs.declared.fault_text.verdicts.Verdict.{Verdict}
use Rattle.itffaults.specs.declared.fault_text.verdicts.Verdict.TheVariants as verdict
use Rattle.itf_reader.specs.Forms.{Row}
use Rattle.plane.specs.Rule.Plans.{Plan}
use Rattle.ports.specs.Files.{Files, Puts}
use Rattle.ports.specs.Output.{Adds, AddsPrefix}
use Rattle.reports.specs.AreaNames.{table_name, topic_name}
use Rattle.reports.specs.Kinds.{has_fault}
use Rattle.reports.specs.Lines.{Line, finding, line_text}
use Rattle.reports.specs.Outcomes.{Outcome, report_of, reported, surface_lines, with_verdict}
use Rattle.reports.specs.Surfaces.{surfaces}
use Rattle.reports.specs.declared.lines.SurfaceAnswer.{SurfaceAnswer}
use Rattle.reports.specs.declared.lines.Verdict.TheVariants as report_verdict
use Rattle.reports.specs.declared.status.Status.{Status}
use Rattle.reports.specs.declared.status.Status.TheVariants as status
use Rattle.resolver.specs.Resolved.{LineForm}
use Rattle.table_layout.specs.Layouts.{AreaOf, Layout}

-- ---- the words
-- the words are the names of three files
pub record AreNames (words : List (List ℕ)) (c : FileNames) : Type 0 where
  pub spelled : words ≡ c.model ∷ c.transfer ∷ c.third ∷ []
  pub model : is_file_name c.model ≡ true
  pub transfer : is_file_name c.transfer ≡ true
  pub third : is_file_name c.third ≡ true

-- the words name no three files
abbrev pub IsUsage : List (List ℕ) → Type 0
IsUsage words = (c : FileNames) → AreNames words c → ⊥

-- the report on other words
abbrev pub usage_text : List ℕ
usage_text = codes "FAULT USAGE\nusage: itffaults M T F\n"

-- the names of three files
abbrev pub names_by : List ℕ → List ℕ → List ℕ → FileNames
names_by model transfer third = record { model = model; transfer = transfer; third = third }

-- ---- areas
-- how many decimals the coordinates of lines of these forms have; a table of lines has one form
abbrev pub scale_by : List LineForm → ℕ
scale_by [] = 0
scale_by (form ∷ forms) = form.window.x.scale

-- how many decimals the coordinates of an area have
abbrev pub area_scale : Layout → AreaOf → ℕ
area_scale l a = scale_by (lines_in (slice_get l.tables a.lines))

-- an area of the layout with that drawing, of which that is told
abbrev pub telling : Layout → AreaOf → Plan → AreaFaults → Telling
telling l a d x =
    record {
      topic = topic_name l a;
      table = table_name l a;
      attribute = a.name;
      scale = area_scale l a;
      drawing = d;
      faults = x;
    }

-- all faults are told of an area with that drawing, by the overlap that it permits
pub record IsTelling (l : Layout) (a : AreaOf) (d : Plan) (t : Telling) : Type 0 where
  pub is : t ≡ telling l a d t.faults
  pub told : IsToldOf (area_tolerance l a) d t.faults

-- and so of each of some areas
abbrev pub AreTellings : Layout → List AreaOf → List Plan → List Telling → Type 0
AreTellings l [] [] [] = ⊤
AreTellings l (a ∷ as_) (d ∷ ds) (t ∷ ts) = IsTelling l a d t × AreTellings l as_ ds ts
AreTellings l as_ ds ts = ⊥

-- ---- what is told of all
-- the lines of the report on the SURFACEs with these answers
abbrev pub surface_text : Layout → List SurfaceAnswer → List ℕ
surface_text l xs = flat_map line_text (surface_lines l (surfaces l) xs)

-- one of them is at fault
abbrev pub has_surface_fault : Layout → List SurfaceAnswer → Bool
has_surface_fault l xs = has_fault (surface_lines l (surfaces l) xs)

-- the status for what is to be said
abbrev pub status_of : Verdict → Status
status_of verdict.Clean = status.Accepted
status_of verdict.Faulty = status.Rejected
status_of verdict.Unsettled = status.Undecided

-- All faults of areas with these drawings and the answers to the SURFACEs, of n objects, are told
-- by a text, a report and a status.
pub record IsTold (l : Layout) (ds : List Plan) (xs : List SurfaceAnswer) (n : ℕ)
    (t r : List ℕ) (s : Status) : Type 0 where
  pub tellings : List Telling
  pub are : AreTellings l l.areas ds tellings
  pub text : t ≡ fault_text tellings (surface_text l xs)
  pub report : r
      ≡ fault_report tellings (surface_text l xs) n
      (all_verdict tellings (has_surface_fault l xs))
  pub status : s ≡ status_of (all_verdict tellings (has_surface_fault l xs))

-- ---- a transfer that a check rejects before any area is searched
-- the outcome of such a check: these lines, and behind them the verdict
abbrev pub rejection : List Line → Outcome
rejection ls = reported status.Rejected (with_verdict ls report_verdict.Rejected)

-- the line tells a finding
abbrev pub is_finding : Line → Bool
is_finding (finding f) = true
is_finding other = false

-- the text of such lines, with the number of findings among them
abbrev pub rejection_text : List Line → List ℕ
rejection_text ls = rejected_text (count_by is_finding ls) (flat_map line_text ls)

-- such lines are told by a text, a report and a status
pub record IsRejection (ls : List Line) (t r : List ℕ) (s : Status) : Type 0 where
  pub text : t ≡ rejection_text ls
  pub report : r ≡ report_of (rejection ls)
  pub status : s ≡ status.Rejected

-- ---- the call
-- What a call leaves that has that report, and answers with that status unless a write failed.
pub record Reports (report : List ℕ) (s : Status) (answer : Status)
    (before after : Option (List ℕ)) : Type 0 where
  pub answered : answer ≢ status.WriteFault → answer ≡ s
  pub reported : answer ≢ status.WriteFault → Adds before report after
  pub begun : AddsPrefix before report after

-- A check of the files ends before any area is searched, and does not reject the transfer: a file
-- is not read or is too long, the model is refused, or an area is over its limit. No file has
-- changed, and the report and the status are those of the check, wherever its certificates would
-- go.
pub record EndsEarly (held : Option Files) (counted : List ℕ → Type 0) (words : List (List ℕ))
    (answer : Status) (new : Option Files) (before after : Option (List ℕ)) : Type 0 where
  pub outcome : Outcome
  pub decided : CallOutcome held counted (codes "check" ∷ words) outcome
  pub early : IsEarly outcome
  pub unrejected : outcome.status ≢ status.Rejected
  pub same : new ≡ held
  pub reports : Reports (report_of outcome) outcome.status answer before after

-- What a call leaves that writes a text to the file of that name and then a report. `wrote`: a
-- failed write of a file was counted. No other file has changed. The file is whole unless a write
-- failed, also where none of a file was counted or the output gained a byte.
abbrev pub IsWritten : Option Files → List ℕ → List ℕ → Type 0 → Status → Option Files
    → Option (List ℕ) → Option (List ℕ) → Type 0
IsWritten held name text wrote answer new before after =
    (answer ≢ status.WriteFault) ⊎ ((wrote → ⊥) ⊎ (after ≢ before))
    → Puts held name (λ file. text) new

-- What a call leaves that tells of a transfer that a check rejects with these lines: the file of
-- that name holds their text, or after a failed write what it held or a front of that, and no other
-- file has changed; the report and the status are those of the check.
pub record LeavesRejection (ls : List Line) (held : Option Files) (name : List ℕ) (wrote : Type 0)
    (answer : Status) (new : Option Files) (before after : Option (List ℕ)) : Type 0 where
  pub filed : IsWritten held name (rejection_text ls) wrote answer new before after
  pub begun : HoldsFront held name (rejection_text ls) new
  pub reports : Reports (report_of (rejection ls)) status.Rejected answer before after

-- A check of the files, wherever its certificates would go, rejects the transfer with these lines
-- by its text alone, before any area is searched, and they are told.
pub record TellsRejection (held : Option Files) (counted : List ℕ → Type 0) (wrote : Type 0)
    (words : List (List ℕ)) (names : FileNames) (answer : Status) (new : Option Files)
    (before after : Option (List ℕ)) : Type 0 where
  pub lines : List Line
  pub decided : CallOutcome held counted (codes "check" ∷ words) (rejection lines)
  pub of_files : IsOfFiles held names.model names.transfer (rejection lines)
  pub leaves : LeavesRejection lines held names.third wrote answer new before after

-- All faults are told: the transfer has rows that meet the declarations, no area is over its limit,
-- the third file holds the text of all faults of the drawings of these rows, or after a failed
-- write what it held or a front of that, and no other file has changed.
pub record TellsAll (held : Option Files) (wrote : Type 0) (names : FileNames) (answer : Status)
    (new : Option Files) (before after : Option (List ℕ)) : Type 0 where
  pub layout : Layout
  pub model_text : List ℕ
  pub model : IsWhole held names.model 4194304 model_text
  pub laid : HasLayout model_text layout
  pub transfer_text : List ℕ
  pub transfer : IsWhole held names.transfer 268435456 transfer_text
  pub rows : List (List Row)
  pub are_rows : IsTextOf layout transfer_text rows
  pub clean : IsClean layout rows
  pub few : has_too_large rows layout.areas ≡ false
  pub drawings : List Plan
  pub drawn : AreDrawings layout rows drawings
  pub answers : List SurfaceAnswer
  pub answered : AreSurfaceAnswers layout rows (surfaces layout) answers
  pub text : List ℕ
  pub report : List ℕ
  pub said : Status
  pub told : IsTold layout drawings answers (objects rows) text report said
  pub filed : IsWritten held names.third text wrote answer new before after
  pub begun : HoldsFront held names.third text new
  pub reports : Reports report said answer before after

-- What a call does that does not run out of memory: `held` are the files, where the shelf says what
-- it holds; `counted name`: a failed read of that file was counted; `wrote`: a failed write of one.
pub data HasCause (held : Option Files) (counted : List ℕ → Type 0) (wrote : Type 0)
    (words : List (List ℕ)) (answer : Status) (new : Option Files)
    (before after : Option (List ℕ)) : Type 0 where
  usage : IsUsage words → new ≡ held → Reports usage_text status.Usage answer before after
      → HasCause held counted wrote words answer new before after
  early : EndsEarly held counted words answer new before after
      → HasCause held counted wrote words answer new before after
  rejected : (names : FileNames) → AreNames words names
      → TellsRejection held counted wrote words names answer new before after
      → HasCause held counted wrote words answer new before after
  told : (names : FileNames) → AreNames words names
      → TellsAll held wrote names answer new before after
      → HasCause held counted wrote words answer new before after
