-- The lines of the report on areas, and the last one.
use Rattle.std.specs.Prelude.{ℕ, Bool, ◌||◌, if◌then◌else◌, List, [], ◌++◌, codes, decimal}
use Rattle.std.specs.List.{flat_map, list_any}
use Rattle.area_faults.specs.declared.kinds.AreaFaults.{AreaFaults}
use Rattle.area_faults.specs.declared.kinds.AreaFaults.TheVariants.{Bent, Many, Told, Unsettled}
use Rattle.area_search.specs.declared.kinds.AreaAnswer.{AreaAnswer}
use Rattle.area_search.specs.declared.kinds.AreaAnswer.TheVariants as found
use Rattle.itffaults.specs.declared.fault_text.verdicts.Verdict.{Verdict}
use Rattle.itffaults.specs.declared.fault_text.verdicts.Verdict.TheVariants as verdict
use Rattle.itffaults.specs.FaultText.Text.{Telling, counts_text, names_text}
use Rattle.itffaults.specs.FaultText.Verdicts.{counts_of, is_faulty, is_unsettled, verdict_of}

-- what the answer of a search is called, with a blank before it
abbrev pub answer_word : AreaAnswer → List ℕ
answer_word (found.Proved c) = codes " PROVED"
answer_word (found.Undecided i j) = codes " UNDECIDED"
answer_word (found.Fault f) = codes " FIRST"

-- what is said where the lists are of the bent drawing, or not of all faults, with a blank before
-- it
abbrev pub told_word : AreaFaults → List ℕ
told_word (Told f) = []
told_word (Bent f b) = codes " BENT"
told_word (Unsettled f a) = answer_word a
told_word (Many ms) = codes " MANY"

-- an area: its names, its counts, and that word
abbrev pub area_line : Telling → List ℕ
area_line t =
    names_text t ++ counts_text (counts_of t.faults) ++ told_word t.faults ++ codes "\n"

-- some area is at fault
abbrev pub has_faulty : List Telling → Bool
has_faulty ts = list_any (λ t. is_faulty (verdict_of t.faults)) ts

-- some area is unsettled
abbrev pub has_unsettled : List Telling → Bool
has_unsettled ts = list_any (λ t. is_unsettled (verdict_of t.faults)) ts

-- what is to be said of areas and of SURFACEs, of which one may be at fault
abbrev pub all_verdict : List Telling → Bool → Verdict
all_verdict ts at_fault =
    if at_fault || has_faulty ts
    then verdict.Faulty
    else if has_unsettled ts
    then verdict.Unsettled
    else verdict.Clean

-- the last line, on so many objects
abbrev pub verdict_text : ℕ → Verdict → List ℕ
verdict_text objects verdict.Clean = codes "VERDICT CLEAN " ++ decimal objects ++ codes "\n"
verdict_text objects verdict.Faulty = codes "VERDICT FAULTY\n"
verdict_text objects verdict.Unsettled = codes "VERDICT UNSETTLED\n"

-- the report on areas and so many objects, with these lines of SURFACEs and that verdict
abbrev pub fault_report : List Telling → List ℕ → ℕ → Verdict → List ℕ
fault_report ts surfaces objects v =
    flat_map area_line ts ++ surfaces ++ verdict_text objects v
