-- How the text of a transfer is taken in pieces.
use Rattle.std.specs.Prelude.{◌≡◌, ◌≢◌, ◌≤◌, ◌<◌, ◌+◌, ⊤, ℕ, true, false, List, [], ◌++◌, length}
use Rattle.std.specs.Prelude.{Option, Result, Ok, Err}
use Rattle.std.specs.List.{AllZip}
use Rattle.itf_lines.specs.FeedStates.{opening}
use Rattle.itf_lines.specs.Feeds.{Reads}
use Rattle.itf_lines.specs.LogicalLines.{LogicalLine}
use Rattle.itf_reader.specs.Forms.{Row}
use Rattle.itf_reader.specs.Layouts.{form_of}
use Rattle.itf_reader.specs.Machine.{start}
use Rattle.itf_reader.specs.Names.{form_in}
use Rattle.itf_reader.specs.RowFeeds.{standing, after_lines, shown_rows}
use Rattle.table_layout.specs.Layouts.{Layout}
use Rattle.table_layout.specs.Values.{layout_view}
use Rattle.itf_reader.specs.ClosedRows.{closed_rows}
use Rattle.itf_reader.specs.Findings.{findings_of}
use Rattle.itf_reader.specs.Refusals.{fault_of}
use Rattle.itf_reader.specs.declared.refusal.ReadRefusal.{ReadRefusal}
use Rattle.itf_reader.specs.declared.refusal.ReadRefusal.TheVariants as refusals
use Rattle.delivery.specs.declared.judging.closing.Judged.{Judged}
use Rattle.delivery.specs.declared.judging.closing.Judged.TheVariants as judged
use Rattle.delivery.specs.declared.judging.closing.Wanted.{Wanted}
use Rattle.delivery.specs.declared.judging.closing.Wanted.TheVariants as wanted
use Rattle.delivery.specs.declared.judging.lines.Judge.{Judge}
use Rattle.reports.specs.AreaKinds.{plans}
use Rattle.area_drawings.specs.AreaLimits.{has_too_large}
use Rattle.area_drawings.specs.Drawings.{AreDrawings}
use Rattle.area_drawings.specs.KeptViews.{HasTolerance}
use Rattle.delivery.specs.Judging.{lines_of, objects, findings, IsMalformed, IsTextOf, IsClean}
use Rattle.delivery.specs.Judging.{IsJudgedBy}
use Rattle.reports.specs.OutcomeViews.{outcome_of}
use Rattle.commands.specs.Commands.{Source, from_file, made}
use Rattle.delivery.specs.KeptRows.{transfer_so_far}
use Rattle.delivery.specs.Surfaces.{AreSurfaceAnswers}
use Rattle.reports.specs.Surfaces.{surfaces}
use Rattle.reports.specs.declared.lines.SurfaceAnswer.{SurfaceAnswer}
use Rattle.commands.specs.Reading.{IsWhole, IsLonger}
use Rattle.commands.specs.declared.files.FileRefusal.TheVariants as refusals_of
use Rattle.delivery.specs.declared.rows.Sound.{Sound}
use Rattle.delivery.specs.declared.rows.Sound.TheVariants as sounds
use Rattle.delivery.specs.declared.transfers.PieceJudge.{PieceJudge}
use Rattle.delivery.specs.declared.transfers.RowsReading.{RowsReading}
use Rattle.delivery.specs.declared.transfers.RowsReading.TheVariants as rows_reading
use Rattle.delivery.specs.declared.transfers.TransferReading.{TransferReading}
use Rattle.delivery.specs.declared.transfers.TransferReading.TheVariants as reading
use Rattle.ports.specs.Files.{Files}

-- what is said of the rows of a layout's tables that came, each with the number of its table, by
-- whoever keeps them
abbrev pub Keeps : Type 0 → Type 1
Keeps K = Layout → List (ℕ × Row) → K → Type 0

-- in front of a text
pub record IsOpened {K : Type 0} (Has : Keeps K) (l : Layout) (j : Judge K) : Type 0 where
  pub lines : j.lines ≡ opening l.codes.continued
  pub at : j.rows.feed.at ≡ standing start
  pub sound : j.rows.feed.failed ≡ false
  pub none : Has l [] j.rows.kept

-- Some bytes lead from one state to another with the last of them left: these are their lines, and
-- the rows that they close were taken.
pub record Takes {K : Type 0} (Has : Keeps K) (l : Layout) (old : Judge K) (bytes : List ℕ)
    (new : Judge K) (left : List ℕ) : Type 0 where
  pub lines : List LogicalLine
  pub reads : Reads old.lines bytes lines new.lines left
  pub at : new.rows.feed.at ≡ after_lines (form_of l) old.rows.feed.at lines
  pub sound : old.rows.feed.failed ≡ false → new.rows.feed.failed ≡ false
  pub taken : (rows : List (ℕ × Row)) → Has l rows old.rows.kept
      → Has l (rows ++ shown_rows (form_of l) old.rows.feed.at lines) new.rows.kept

-- this text came, and it is within the limit of a transfer
pub record HasText {K : Type 0} (Has : Keeps K) (l : Layout) (text : List ℕ)
    (j : Judge K) : Type 0 where
  pub start : Judge K
  pub opened : IsOpened Has l start
  pub takes : Takes Has l start text j []
  pub few : length text ≤ 268435456

-- what is kept are the rows of a text
pub record AreKept {K : Type 0} (Has : Keeps K) (l : Layout) (text : List ℕ)
    (k : K) : Type 0 where
  pub rows : List (ℕ × Row)
  pub taken : Has l rows k
  pub has_rows : IsTextOf l text (transfer_so_far l rows)
  pub closed : rows ≡ closed_rows (form_of l) (lines_of l text).lines

-- the rows of a text, or the line at which it is at fault
abbrev pub IsKept : {K : Type 0} → Keeps K → Layout → List ℕ → Result K ReadRefusal → Type 0
IsKept Has l text (Ok k) = AreKept Has l text k
IsKept Has l text (Err (refusals.At line code)) = IsMalformed l text line (fault_of code)
IsKept Has l text (Err refusals.Memory) = ⊤

-- the answers to the SURFACEs of rows, where these are wanted
abbrev pub AreWanted : Wanted → Layout → List (List Row) → List SurfaceAnswer → Type 0
AreWanted wanted.Everything l rows answers = AreSurfaceAnswers l rows (surfaces l) answers
AreWanted wanted.AreasAlone l rows answers = ⊤

-- what a text comes to, with what is wanted of rows without a finding
abbrev pub IsJudgedFor : Wanted → Layout → List ℕ → Judged → Type 0
IsJudgedFor w l text (judged.Malformed line code) = IsMalformed l text line (fault_of code)
IsJudgedFor w l text (judged.Faulty found) =
    (rows : List (List Row)) × IsTextOf l text rows × (findings l rows ≢ [])
    × (findings_of found.items ≡ findings l rows)
IsJudgedFor w l text judged.Oversized =
    (rows : List (List Row)) × IsTextOf l text rows × IsClean l rows
    × (has_too_large rows l.areas ≡ true)
IsJudgedFor w l text (judged.Clean count drawings answers) =
    (rows : List (List Row)) × IsTextOf l text rows × IsClean l rows
    × (has_too_large rows l.areas ≡ false) × (count ≡ objects rows)
    × AreDrawings l rows (plans drawings.items) × AllZip (HasTolerance l) l.areas drawings.items
    × AreWanted w l rows answers.items

-- what a text comes to
abbrev pub IsJudged : Layout → List ℕ → Judged → Type 0
IsJudged = IsJudgedFor wanted.Everything

-- what a text whose lines were all taken comes to, as it is passed on
abbrev pub IsEndedAs : {K : Type 0} → Result K ReadRefusal → RowsReading K → Type 0
IsEndedAs (Ok k) x = x ≡ rows_reading.Rows k
IsEndedAs (Err (refusals.At line code)) x = x ≡ rows_reading.Malformed line code
IsEndedAs (Err refusals.Memory) x = ⊥

-- ---- a judge that takes a file as it comes
-- some bytes led it from one state to another, by one layout and its names
pub record HasJudged {K : Type 0} (Has : Keeps K) (old : PieceJudge K) (bytes : List ℕ)
    (new : PieceJudge K) : Type 0 where
  pub layout : new.layout ≡ old.layout
  pub names : new.names ≡ old.names
  pub takes : Takes Has (layout_view old.layout.now) old.judge bytes new.judge []

-- it can take so many bytes more
pub record CanJudge {K : Type 0} (judge : PieceJudge K) (n : ℕ) : Type 0 where
  pub named : form_in judge.names.now ≡ form_of (layout_view judge.layout.now)
  pub few : judge.judge.lines.ended + n < 4294967295

-- what the rows of a file are: it could not be read, where a fault was counted; it is too long; a
-- line is at fault; or they are the rows of its text
abbrev pub AreFileRows : {K : Type 0} → Keeps K → Option Files → List ℕ → Layout → Type 0
    → RowsReading K → Type 0
AreFileRows Has held name l rose (rows_reading.Unread refusals_of.Failed) = rose
AreFileRows Has held name l rose (rows_reading.Unread refusals_of.TooLong) =
    IsLonger held name 268435456
AreFileRows Has held name l rose (rows_reading.Unread refusals_of.Memory) = ⊥
AreFileRows Has held name l rose (rows_reading.Malformed line code) =
    (text : List ℕ) × IsWhole held name 268435456 text × IsMalformed l text line (fault_of code)
AreFileRows Has held name l rose (rows_reading.Rows k) =
    (text : List ℕ) × IsWhole held name 268435456 text × AreKept Has l text k

-- what the file of a transfer is: it could not be read, where a fault was counted; it is too long;
-- or its text comes to that, with what is wanted of its rows
abbrev pub IsTransferFor : Wanted → Option Files → List ℕ → Layout → Type 0 → TransferReading
    → Type 0
IsTransferFor w held name l rose (reading.Unread refusals_of.Failed) = rose
IsTransferFor w held name l rose (reading.Unread refusals_of.TooLong) =
    IsLonger held name 268435456
IsTransferFor w held name l rose (reading.Unread refusals_of.Memory) = ⊥
IsTransferFor w held name l rose (reading.Judged j) =
    (text : List ℕ) × IsWhole held name 268435456 text × IsJudgedFor w l text j

abbrev pub IsTransfer : Option Files → List ℕ → Layout → Type 0 → TransferReading → Type 0
IsTransfer = IsTransferFor wanted.Everything

-- what a transfer is that is read from a file or made, with what is wanted of its rows
abbrev pub IsSourceJudgedFor : Wanted → Option Files → (List ℕ → Type 0) → Layout → Source
    → TransferReading → Type 0
IsSourceJudgedFor w held counted l (from_file f name) r =
    IsTransferFor w held name l (counted name) r
IsSourceJudgedFor w held counted l (made text) (reading.Judged j) = IsJudgedFor w l text j
IsSourceJudgedFor w held counted l (made text) (reading.Unread refusal) = ⊥

-- what is drawn of a judged text, with what is wanted of its rows, or its outcome, which its areas
-- have no part in
abbrev pub IsSoundFor : Wanted → Layout → List ℕ → Sound → Type 0
IsSoundFor w l text (sounds.Drawn count drawings answers) =
    IsJudgedFor w l text (judged.Clean count drawings answers)
IsSoundFor w l text (sounds.Ended o) = IsJudgedBy l text (λ rows p. ⊥) (outcome_of o)

abbrev pub IsSound : Layout → List ℕ → Sound → Type 0
IsSound = IsSoundFor wanted.Everything
