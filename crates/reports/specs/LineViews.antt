-- Report lines of the code, without where they lie in memory.
use Rattle.std.specs.Prelude.{List, map}
use Rattle.itf_reader.specs.Findings.{findings_of}
use Rattle.itf_reader.specs.Refusals.{fault_of}
use Rattle.itf_reader.specs.declared.findings.Finding as found
use Rattle.table_layout.specs.Values.{role_view}
use Rattle.reports.specs.Lines as lines
use Rattle.reports.specs.Lines.{TableLine, AreaNames, AreaLine, SurfaceLine, Line}
use Rattle.commands.specs.RefusalViews.{refusal_of}
use Rattle.reports.specs.declared.area_names.AreaNames as names
use Rattle.reports.specs.declared.lines.TableLine as table
use Rattle.reports.specs.declared.lines.AreaLine as area
use Rattle.reports.specs.declared.lines.SurfaceLine as surface
use Rattle.reports.specs.declared.lines.Line as code
use Rattle.reports.specs.declared.lines.Line.TheVariants.{UsageFault, UsageWords, Unread}
use Rattle.reports.specs.declared.lines.Line.TheVariants.{TooLong, AreaLimit, ModelFault}
use Rattle.reports.specs.declared.lines.Line.TheVariants.{Model, Table, Structure, Area}
use Rattle.reports.specs.declared.lines.Line.TheVariants.{Surface, CanonRefused, NotProved, Trial}
use Rattle.reports.specs.declared.lines.Line.TheVariants.{LinkLine, Link, Links, Verdict}

abbrev pub table_of : table.TableLine → TableLine
table_of t =
    record {
      topic = t.topic;
      name = t.name;
      role = role_view t.role;
      columns = t.columns;
      lines = t.lines;
    }

abbrev pub area_names_of : names.AreaNames → AreaNames
area_names_of n = record { topic = n.topic; table = n.table; attribute = n.attribute }

abbrev pub area_of : area.AreaLine → AreaLine
area_of a = record { names = area_names_of a.names; answer = a.answer }

abbrev pub surface_of : surface.SurfaceLine → SurfaceLine
surface_of s = record { names = area_names_of s.names; answer = s.answer }

abbrev pub line_of : code.Line → Line
line_of UsageFault = lines.usage_fault
line_of UsageWords = lines.usage_words
line_of (Unread f) = lines.unread f
line_of (TooLong f) = lines.too_long f
line_of AreaLimit = lines.area_limit
line_of (ModelFault r) = lines.model_fault (refusal_of r)
line_of (Model name) = lines.model name
line_of (Table t) = lines.table (table_of t)
line_of (Structure n code) = lines.structure n (fault_of code)
line_of (Area a) = lines.area (area_of a)
line_of (Surface s) = lines.surface (surface_of s)
line_of CanonRefused = lines.canon_refused
line_of (NotProved a rule place) = lines.not_proved a rule place
line_of (Trial n curves events points) = lines.trial n curves events points
line_of (LinkLine n) = lines.link_line n
line_of (Link rule object) = lines.link rule object
line_of (Links rules pairs) = lines.links rules pairs
line_of (Verdict v) = lines.verdict v

abbrev pub lines_of : List code.Line → List Line
lines_of ls = map line_of ls

-- the lines for findings
abbrev pub findings_view : List found.Finding → List Line
findings_view fs = map lines.finding (findings_of fs)
