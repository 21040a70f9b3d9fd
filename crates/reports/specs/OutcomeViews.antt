-- The outcome of the code, without where its parts lie in memory.
use Rattle.std.specs.Prelude.{ℕ, List, ◌++◌, map, Option}
use Rattle.std.specs.Borrow.{Bor}
use Rattle.std.specs.Option.{option_map}
use Rattle.certificate.specs.Spelling.{spelling, views}
use Rattle.polygons.specs.Text.{polygons_text, views as polygons_in}
use Rattle.table_layout.specs.Layouts.{Table}
use Rattle.table_layout.specs.Values.{table_view}
use Rattle.table_layout.specs.declared.layouts.Table as table
use Rattle.reports.specs.LineViews.{findings_view, lines_of}
use Rattle.reports.specs.Outcomes.{Filing, Misplaced, Outcome}
use Rattle.reports.specs.declared.outcome.Content as content
use Rattle.reports.specs.declared.outcome.Content.TheVariants.{Certificates, Polygons, Text}
use Rattle.reports.specs.declared.links.Misplaced as misplaced
use Rattle.reports.specs.declared.outcome.Filing as filing
use Rattle.reports.specs.declared.outcome.Outcome as outcome

-- the text of what is written
abbrev pub text_of : content.Content → List ℕ
text_of (Certificates cs) = spelling (views cs.items)
text_of (Polygons areas) = polygons_text (polygons_in areas.items)
text_of (Text text) = text

abbrev pub filing_of : filing.Filing → Filing
filing_of f = record { name = f.name.now; text = text_of f.content }

-- the lines for the findings come first
abbrev pub outcome_of : outcome.Outcome → Outcome
outcome_of o =
    record {
      status = o.status;
      lines = findings_view o.findings.items ++ lines_of o.lines.items;
      filing = option_map filing_of o.filing;
    }

abbrev pub misplaced_of : misplaced.Misplaced → Misplaced
misplaced_of m = record { rule = m.rule; line = m.line }

abbrev pub misplaced_view : List misplaced.Misplaced → List Misplaced
misplaced_view ms = map misplaced_of ms

-- a table that was found
abbrev pub table_there : Option (Bor table.Table) → Option Table
table_there t = option_map (λ found. table_view found.now) t
