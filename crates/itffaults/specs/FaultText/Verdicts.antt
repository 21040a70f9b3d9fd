-- How many faults are told of an area, and what is to be said of it in one word.
use Rattle.std.specs.Prelude.{ℕ, Bool, true, false, ◌||◌, nat_lt, length}
use Rattle.std.specs.Prelude.{if◌then◌else◌}
use Rattle.area_faults.specs.declared.kinds.AreaFaults.{AreaFaults}
use Rattle.area_faults.specs.declared.kinds.AreaFaults.TheVariants.{Bent, Many, Told, Unsettled}
use Rattle.area_search.specs.declared.kinds.AreaAnswer.{AreaAnswer}
use Rattle.area_search.specs.declared.kinds.AreaAnswer.TheVariants as found
use Rattle.fault_lists.specs.declared.kinds.Faults.{Faults}
use Rattle.itffaults.specs.declared.fault_text.verdicts.Counts.{Counts}
use Rattle.itffaults.specs.declared.fault_text.verdicts.Verdict.{Verdict}
use Rattle.itffaults.specs.declared.fault_text.verdicts.Verdict.TheVariants.{Clean, Faulty}
use Rattle.itffaults.specs.declared.fault_text.verdicts.Verdict.TheVariants.{Unsettled as Open}

-- the counts of an area whose faces are judged
abbrev pub told_counts : Faults → Counts
told_counts f =
    record {
      meetings = length f.meetings.items;
      on = length f.on.items;
      outside = length f.faces.outside.items;
      two = length f.faces.shared.items;
      empty = length f.faces.empty.items;
      cuts = length f.faces.cuts.items;
      open_faces = length f.faces.open.items;
      unjudged = length f.faces.unjudged.items;
    }

-- so many pairs of curves that meet badly and points on curves, and no other fault
abbrev pub first_counts : ℕ → ℕ → Counts
first_counts meetings on =
    record {
      meetings = meetings;
      on = on;
      outside = 0;
      two = 0;
      empty = 0;
      cuts = 0;
      open_faces = 0;
      unjudged = 0;
    }

-- how many faults of each kind are told; where no level settles the area, no face is judged
abbrev pub counts_of : AreaFaults → Counts
counts_of (Told f) = told_counts f
counts_of (Bent f b) = told_counts f
counts_of (Unsettled f a) = first_counts (length f.meetings.items) (length f.on.items)
counts_of (Many ms) = first_counts (length ms.items) 0

-- some fault is told, or some bounded face is open
abbrev pub has_some : Counts → Bool
has_some c =
    nat_lt 0 c.meetings || nat_lt 0 c.on || nat_lt 0 c.outside || nat_lt 0 c.two
    || nat_lt 0 c.empty || nat_lt 0 c.cuts || nat_lt 0 c.open_faces || nat_lt 0 c.unjudged

-- what the answer of a search says
abbrev pub answer_verdict : AreaAnswer → Verdict
answer_verdict (found.Proved c) = Clean
answer_verdict (found.Fault f) = Faulty
answer_verdict (found.Undecided i j) = Open

-- what the outer face says
abbrev pub outer_verdict : Bool → Verdict
outer_verdict true = Faulty
outer_verdict false = Clean

-- What is said of an area none of whose counts is above 0. Of one with too many points on curves no
-- fault is told; no level settles it.
abbrev pub bare_verdict : AreaFaults → Verdict
bare_verdict (Told f) = outer_verdict f.faces.outer_open
bare_verdict (Bent f b) = outer_verdict f.faces.outer_open
bare_verdict (Unsettled f a) = answer_verdict a
bare_verdict (Many ms) = Open

-- what is to be said of an area
abbrev pub verdict_of : AreaFaults → Verdict
verdict_of x = if has_some (counts_of x) then Faulty else bare_verdict x

-- it says that something is at fault
abbrev pub is_faulty : Verdict → Bool
is_faulty Faulty = true
is_faulty other = false

-- it says that something is unsettled
abbrev pub is_unsettled : Verdict → Bool
is_unsettled Open = true
is_unsettled other = false
