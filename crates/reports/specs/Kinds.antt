-- What a line of a report says of a delivery: that something is at fault, that it is undecided, or
-- neither.
use Rattle.std.specs.Prelude.{Bool, true, false, List}
use Rattle.std.specs.List.{list_all, list_any}
use Rattle.reports.specs.Lines.{Line, area, surface, canon_refused, link_line, link}
use Rattle.reports.specs.declared.kinds.Kind.{Kind}
use Rattle.reports.specs.declared.kinds.Kind.TheVariants.{Fault, Undecided, Fine}
use Rattle.reports.specs.declared.lines.AreaAnswer.{AreaAnswer}
use Rattle.reports.specs.declared.lines.AreaAnswer.TheVariants as answer
use Rattle.reports.specs.declared.lines.SurfaceAnswer.{SurfaceAnswer}
use Rattle.reports.specs.declared.lines.SurfaceAnswer.TheVariants as surfaces

-- the kind of an answer to an area
abbrev pub answer_kind : AreaAnswer → Kind
answer_kind (answer.Undecided first second) = Undecided
answer_kind (answer.Proved level curves points) = Fine
answer_kind other = Fault

-- the kind of an answer to a SURFACE
abbrev pub surface_kind : SurfaceAnswer → Kind
surface_kind (surfaces.Proved held skipped) = Fine
surface_kind other = Fault

-- the kind of a line
abbrev pub kind_of : Line → Kind
kind_of (area a) = answer_kind a.answer
kind_of (surface s) = surface_kind s.answer
kind_of canon_refused = Fault
kind_of (link_line n) = Fault
kind_of (link rule object) = Fault
kind_of other = Fine

-- the kind is a fault
abbrev pub is_fault : Kind → Bool
is_fault Fault = true
is_fault other = false

-- the kind is undecided
abbrev pub is_undecided : Kind → Bool
is_undecided Undecided = true
is_undecided other = false

-- the kind is neither
abbrev pub is_fine : Kind → Bool
is_fine Fine = true
is_fine other = false

-- no answer names a fault, and none what is undecided
abbrev pub are_fine : List AreaAnswer → Bool
are_fine xs = list_all (λ x. is_fine (answer_kind x)) xs

-- ---- the lines of a report
-- some line names a fault
abbrev pub has_fault : List Line → Bool
has_fault ls = list_any (λ l. is_fault (kind_of l)) ls

-- some line names what is undecided
abbrev pub has_undecided : List Line → Bool
has_undecided ls = list_any (λ l. is_undecided (kind_of l)) ls
