-- Values of the code, without where they lie in memory.
use Rattle.std.specs.Prelude.{ℕ, List, Option, Some, None}
use Rattle.std.specs.Borrow.{Bor}
use Rattle.certificate.specs.Parts.{Title}
use Rattle.certificate.specs.Reading.{Text}
use Rattle.certificate.specs.declared.text.Text.{Text as CodeText}
use Rattle.certificate.specs.declared.forms.Title.{Title as CodeTitle}

abbrev pub title_view : CodeTitle → Title
title_view t = record { topic = t.topic.now; table = t.table.now; attribute = t.attribute.now }

abbrev pub some_title_view : Option CodeTitle → Option Title
some_title_view None = None
some_title_view (Some title) = Some (title_view title)

abbrev pub title_line_view : Option CodeTitle × Bor (List ℕ) → Option Title × List ℕ
title_line_view found = (some_title_view found.0, found.1.now)

-- a value and the bytes after it
abbrev pub found_view : {A : Type 0} → A × Bor (List ℕ) → A × List ℕ
found_view found = (found.0, found.1.now)

abbrev pub text_view : CodeText → Text
text_view text = record { rest = text.rest.now; line = text.line }
