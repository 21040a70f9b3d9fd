-- Outcomes: what a call answers, reports and writes.
use Rattle.std.specs.Prelude.{ℕ, if◌then◌else◌, List, [], ◌∷◌, ◌++◌, map, length, Option, Some}
use Rattle.std.specs.Prelude.{None, slice_index_or}
use Rattle.std.specs.List.{flat_map}
use Rattle.plane.specs.Rule.Plans.{Plan}
use Rattle.certificate.specs.Spelling.{Plain, spelling}
use Rattle.polygons.specs.Text as polygons
use Rattle.polygons.specs.Text.{polygons_text}
use Rattle.itf_reader.specs.Findings.{Finding}
use Rattle.itf_reader.specs.Readings.{Structure}
use Rattle.table_layout.specs.Layouts.{Table, AreaOf, Layout}
use Rattle.reports.specs.AreaKinds.{proof_answer}
use Rattle.reports.specs.AreaNames.{topic_name, table_name}
use Rattle.reports.specs.Kinds.{has_fault, has_undecided}
use Rattle.reports.specs.Surfaces.{SurfaceOf, surface_names, surfaces}
use Rattle.reports.specs.Lines as lines
use Rattle.reports.specs.Lines.{Line, line_text}
use Rattle.commands.specs.Commands.{Target}
use Rattle.commands.specs.declared.task.Filed.{Filed}
use Rattle.commands.specs.declared.task.Filed.TheVariants as filed
use Rattle.commands.specs.ModelTexts.{Refusal}
use Rattle.reports.specs.Verifications.{Verification, proved, not_proved}
use Rattle.commands.specs.declared.files.File.{File}
use Rattle.reports.specs.declared.lines.AreaAnswer.{AreaAnswer}
use Rattle.reports.specs.declared.lines.AreaAnswer.TheVariants as answer
use Rattle.reports.specs.declared.lines.SurfaceAnswer.{SurfaceAnswer}
use Rattle.reports.specs.declared.lines.Verdict as verdicts
use Rattle.reports.specs.declared.lines.Verdict.TheVariants as verdict
use Rattle.reports.specs.declared.status.Status.{Status}
use Rattle.reports.specs.declared.status.Status.TheVariants as status

-- a text that is written, and the name of its file
pub record Filing : Type 0 where
  pub name : List ℕ
  pub text : List ℕ

-- a status, the lines of the report, and the text of a file where there is one to write
pub record Outcome : Type 0 where
  pub status : Status
  pub lines : List Line
  pub filing : Option Filing

-- the report: the text of its lines
abbrev pub report_of : Outcome → List ℕ
report_of o = flat_map line_text o.lines

-- an outcome that writes no file
abbrev pub reported : Status → List Line → Outcome
reported s ls = record { status = s; lines = ls; filing = None }

-- ---- each outcome
-- the words are no command
abbrev pub usage : Outcome
usage = reported status.Usage (lines.usage_fault ∷ lines.usage_words ∷ [])

-- a file could not be read
abbrev pub unread : File → Outcome
unread f = reported status.ReadFault (lines.unread f ∷ [])

-- a file is longer than its limit
abbrev pub too_long : File → Outcome
too_long f = reported status.OverLimit (lines.too_long f ∷ [])

-- an area has more vertices or objects than its limit
abbrev pub area_too_large : Outcome
area_too_large = reported status.OverLimit (lines.area_limit ∷ [])

-- the model is refused
abbrev pub refused : Refusal → Outcome
refused r = reported status.ModelRefused (lines.model_fault r ∷ [])

-- a table of a layout whose topics have these names
abbrev pub table_line : List (List ℕ) → Table → Line
table_line topics t =
    lines.table (record {
      topic = slice_index_or topics t.topic [];
      name = t.name;
      role = t.role;
      columns = length t.columns;
      lines = length t.lines;
    })

-- the model is compiled to this layout
abbrev pub compiled : Layout → Outcome
compiled l =
    reported status.Accepted
    (lines.model l.model
    ∷ (map (table_line l.topics) l.tables
    ++ (lines.verdict (verdict.Compiled (length l.tables)) ∷ [])))

-- the transfer is no text of the layout: the first line at fault, and its code
abbrev pub malformed : ℕ → Structure → Outcome
malformed n code =
    reported status.Rejected (lines.structure n code ∷ lines.verdict verdict.Rejected ∷ [])

-- the transfer has no canonical text
abbrev pub canon_refused : Outcome
canon_refused =
    reported status.Rejected (lines.canon_refused ∷ lines.verdict verdict.Rejected ∷ [])

-- the first line of the links that states no rule
abbrev pub bad_link : ℕ → Outcome
bad_link n =
    reported status.Rejected (lines.link_line n ∷ lines.verdict verdict.Rejected ∷ [])

-- the transfer has these findings
abbrev pub rejected : List Finding → Outcome
rejected found =
    reported status.Rejected (map lines.finding found ++ (lines.verdict verdict.Rejected ∷ []))

-- an area of the layout, and the answer to it
abbrev pub area_line : Layout → AreaOf → AreaAnswer → Line
area_line l a x =
    lines.area (record {
      names = record { topic = topic_name l a; table = table_name l a; attribute = a.name };
      answer = x;
    })

-- the lines of the areas of a layout, in order
abbrev pub area_lines : Layout → List AreaOf → List AreaAnswer → List Line
area_lines l [] xs = []
area_lines l (a ∷ as_) [] = []
area_lines l (a ∷ as_) (x ∷ xs) = area_line l a x ∷ area_lines l as_ xs

-- a SURFACE of the layout, and the answer to it
abbrev pub surface_line : Layout → SurfaceOf → SurfaceAnswer → Line
surface_line l s x = lines.surface (record { names = surface_names l s; answer = x })

-- the lines of SURFACEs of a layout, in order
abbrev pub surface_lines : Layout → List SurfaceOf → List SurfaceAnswer → List Line
surface_lines l [] xs = []
surface_lines l (s ∷ ss) [] = []
surface_lines l (s ∷ ss) (x ∷ xs) = surface_line l s x ∷ surface_lines l ss xs

-- what a trial of that size reports of an area that is proved: its curves, the events that its
-- certificate has positions for, and its points
abbrev pub trial_line : ℕ → AreaAnswer → Plain → List Line
trial_line n (answer.Proved level curves points) c =
    lines.trial n curves (length c.positions) points ∷ []
trial_line n x c = []

-- the lines of the sizes of a trial
abbrev pub size_lines : ℕ → List AreaAnswer → List Plain → List Line
size_lines n [] cs = []
size_lines n (x ∷ xs) [] = []
size_lines n (x ∷ xs) (c ∷ cs) = trial_line n x c ++ size_lines n xs cs

-- the lines of the sizes of a trial, none where it is no trial
abbrev pub trial_lines : Filed → List AreaAnswer → List Plain → List Line
trial_lines (filed.Trial n) xs cs = size_lines n xs cs
trial_lines other xs cs = []

-- the lines of a report and its verdict
abbrev pub with_verdict : List Line → verdicts.Verdict → List Line
with_verdict ls v = ls ++ (lines.verdict v ∷ [])

-- accepted, with lines and a number of objects, and what is to be written, if something is
abbrev pub accepted_with : List Line → ℕ → Option Filing → Outcome
accepted_with ls objects filing =
    record {
      status = status.Accepted;
      lines = with_verdict ls (verdict.Accepted objects);
      filing = filing;
    }

-- accepted, with the lines of the areas and the number of objects, and what is to be written
abbrev pub accepted : List Line → ℕ → Filing → Outcome
accepted ls objects filing = accepted_with ls objects (Some filing)

-- the canonical text of a number of objects, which goes to the file of that name
abbrev pub canonical : List ℕ → ℕ → List ℕ → Outcome
canonical name objects text = accepted [] objects (record { name = name; text = text })

-- the text that is filed: that of the polygons, or of the certificates
abbrev pub filed_text : Filed → List Plain → List polygons.Plain → List ℕ
filed_text filed.Polygons cs ps = polygons_text ps
filed_text other cs ps = spelling cs

-- what is filed for a target
abbrev pub filing_for : Target → List Plain → List polygons.Plain → Filing
filing_for target cs ps = record { name = target.name; text = filed_text target.filed cs ps }

-- The outcome of the lines on what was judged, by their kinds: one fault rejects the transfer, else
-- one that is undecided leaves it so, else it is that other outcome.
abbrev pub by_kinds : List Line → Outcome → Outcome
by_kinds ls other =
    if has_fault ls
    then reported status.Rejected (with_verdict ls verdict.Rejected)
    else if has_undecided ls
    then reported status.Undecided (with_verdict ls verdict.Undecided)
    else other

-- the outcome of lines by their kinds; without a fault and what is undecided the transfer is
-- accepted, with these lines more, a number of objects and what is to be written
abbrev pub lines_outcome : List Line → List Line → ℕ → Filing → Outcome
lines_outcome ls more objects filing = by_kinds ls (accepted (ls ++ more) objects filing)

-- the outcome of lines by their kinds, where nothing is written
abbrev pub unfiled_outcome : List Line → ℕ → Outcome
unfiled_outcome ls objects = by_kinds ls (accepted_with ls objects None)

-- the lines of the areas of a layout and the answers to them, and behind them those of its SURFACEs
abbrev pub judged_lines : Layout → List SurfaceAnswer → List AreaAnswer → List Line
judged_lines l ss xs = area_lines l l.areas xs ++ surface_lines l (surfaces l) ss

-- the outcome of a number of objects without a finding and of the answers to the SURFACEs and the
-- areas of the layout, with certificates or polygons for the target
abbrev pub areas_outcome : Layout → ℕ → Target → List SurfaceAnswer → List AreaAnswer → List Plain
    → List polygons.Plain → Outcome
areas_outcome l objects target ss xs cs ps =
    lines_outcome (judged_lines l ss xs) (trial_lines target.filed xs cs) objects
    (filing_for target cs ps)

-- ---- links: which points must lie in the area of the object to which their row refers
-- a rule, by its line in the links, and an object, by its line in the transfer, whose point does
-- not lie in that area
pub record Misplaced : Type 0 where
  pub rule : ℕ
  pub line : ℕ

-- the line of a rule and an object
abbrev pub misplaced_line : Misplaced → Line
misplaced_line m = lines.link m.rule m.line

-- the lines of the links: the misplaced points, then how many rules and pairs there are
abbrev pub link_lines : List Misplaced → ℕ → ℕ → List Line
link_lines ms rules pairs = map misplaced_line ms ++ (lines.links rules pairs ∷ [])

-- the outcome of a number of objects without a finding, of the answers to the SURFACEs and the
-- areas of the layout, and, where none of these is a fault and none undecided, of the links
abbrev pub linked : Layout → ℕ → List SurfaceAnswer → List AreaAnswer → List Misplaced → ℕ → ℕ
    → Outcome
linked l objects ss xs ms rules pairs =
    by_kinds (judged_lines l ss xs)
    (unfiled_outcome (judged_lines l ss xs ++ link_lines ms rules pairs) objects)

-- the answers to drawings that are shown to be partitions at these levels
abbrev pub proof_answers : List Plan → List ℕ → List AreaAnswer
proof_answers [] levels = []
proof_answers (d ∷ ds) [] = []
proof_answers (d ∷ ds) (level ∷ levels) = proof_answer d level ∷ proof_answers ds levels

-- what the filed certificates prove
abbrev pub verified : Layout → ℕ → List Plan → Verification → Outcome
verified l objects ds (proved levels) =
    reported status.Accepted
    (with_verdict (area_lines l l.areas (proof_answers ds levels)) (verdict.Accepted objects))
verified l objects ds (not_proved a rule place) =
    reported status.NotProved (lines.not_proved a rule place ∷ lines.verdict verdict.NotProved ∷ [])
