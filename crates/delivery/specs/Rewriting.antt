-- What the text of a transfer amounts to that is written in its canonical text.
use Rattle.std.specs.Prelude.{◌≡◌, ℕ, List}
use Rattle.itf_reader.specs.Forms.{Row}
use Rattle.itf_reader.specs.Layouts.{form_of}
use Rattle.itf_reader.specs.Readings.{Structure}
use Rattle.itf_writer.specs.Canonical.{canon_text}
use Rattle.table_layout.specs.Layouts.{Layout}
use Rattle.delivery.specs.Judging.{IsMalformed, IsTextOf, objects}
use Rattle.reports.specs.Outcomes.{Outcome, malformed, canonical, canon_refused}

-- the canonical text of the rows of a transfer, by the layout of its model
abbrev pub canon_of : Layout → List (List Row) → List ℕ
canon_of l rows = canon_text l.codes.continued (form_of l) rows

-- the continue code is the letter T, in which each line CONT ends
abbrev pub HasCodeT : Layout → Type 0
HasCodeT l = l.codes.continued ≡ 84

-- the outcome of the text of a transfer that goes to the file of that name
pub data IsRewritten (name : List ℕ) (l : Layout) (text : List ℕ) (o : Outcome) : Type 0 where
  -- a line is at fault
  misread : (n : ℕ) (code : Structure) → IsMalformed l text n code → o ≡ malformed n code
      → IsRewritten name l text o
  -- it has rows, and no canonical text
  without_text : (rows : List (List Row)) → IsTextOf l text rows → HasCodeT l
      → o ≡ canon_refused → IsRewritten name l text o
  -- it has rows, and their text is written
  written : (rows : List (List Row)) → IsTextOf l text rows → (HasCodeT l → ⊥)
      → o ≡ canonical name (objects rows) (canon_of l rows) → IsRewritten name l text o
