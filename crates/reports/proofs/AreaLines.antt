-- The lines of areas and their answers, one pair after the other.
use Rattle.std.proofs.Common.{◌≡◌, ◌⊎◌, inl, inr, List, [], ◌∷◌, ◌++◌, refl, ◌∙◌, sym, ap}
use Rattle.std.proofs.Common.{append-nil, append_assoc, ℕ}
use Rattle.std.proofs.lemmas.List.{map-append}
use Rattle.table_layout.specs.Layouts.{Layout}
use Rattle.table_layout.specs.Values.{area_view, areas_view}
use Rattle.table_layout.specs.declared.layouts.AreaOf.{AreaOf}
use Rattle.reports.specs.LineViews.{line_of, lines_of}
use Rattle.reports.specs.Lines.{Line}
use Rattle.plane.specs.Rule.Plans.{plan}
use Rattle.plane.specs.declared.drawing.Drawing.{Drawing}
use Rattle.reports.specs.AreaKinds.{plans, proof_answer}
use Rattle.certificate.specs.Spelling.{view, views}
use Rattle.certificate.specs.declared.notes.Certificate.{Certificate}
use Rattle.reports.specs.Outcomes.{area_line, area_lines, trial_line, size_lines, proof_answers}
use Rattle.reports.specs.declared.lines.AreaAnswer.{AreaAnswer}
use Rattle.reports.specs.declared.lines.Line as code

-- nothing is left to be reported
pub all_lines : (held rest all : List Line) → rest ≡ [] → held ++ rest ≡ all → held ≡ all
all_lines held rest all e h = sym (append-nil held) ∙ ap (λ (s : List Line). held ++ s) (sym e) ∙ h

pub lines_end : (l : Layout) (as_ : List AreaOf) (xs : List AreaAnswer) → (as_ ≡ []) ⊎ (xs ≡ [])
    → area_lines l (areas_view as_) xs ≡ []
lines_end l [] xs h = refl
lines_end l (a ∷ as_) [] h = refl
lines_end l (a ∷ as_) (x ∷ xs) (inl h) = absurd (cc)
lines_end l (a ∷ as_) (x ∷ xs) (inr h) = absurd (cc)

-- one area more is reported
pub lines_more : (l : Layout) (all : List AreaOf) (a : AreaOf) (as_ : List AreaOf)
    (whole : List AreaAnswer) (x : AreaAnswer) (xs : List AreaAnswer) (old new : List code.Line)
    (line : code.Line) (result : List Line)
    → all ≡ a ∷ as_ → whole ≡ x ∷ xs
    → new ≡ old ++ line ∷ [] → line_of line ≡ area_line l (area_view a) x
    → lines_of old ++ area_lines l (areas_view all) whole ≡ result
    → lines_of new ++ area_lines l (areas_view as_) xs ≡ result
lines_more l all a as_ whole x xs old new line result e f g h k =
    let same : area_lines l (areas_view all) whole
    ≡ (line_of line ∷ []) ++ area_lines l (areas_view as_) xs = rw (e, f, h) refl in
    rw (g, map-append line_of old (line ∷ []), append_assoc, ← same) k

-- ---- the lines of a trial
pub sizes_end : (n : ℕ) (xs : List AreaAnswer) (cs : List Certificate) → (xs ≡ []) ⊎ (cs ≡ [])
    → size_lines n xs (views cs) ≡ []
sizes_end n [] cs h = refl
sizes_end n (x ∷ xs) [] h = refl
sizes_end n (x ∷ xs) (c ∷ cs) (inl h) = absurd (cc)
sizes_end n (x ∷ xs) (c ∷ cs) (inr h) = absurd (cc)

pub sizes_more : (n : ℕ) (all : List AreaAnswer) (x : AreaAnswer) (xs : List AreaAnswer)
    (whole : List Certificate) (c : Certificate) (cs : List Certificate)
    (old new result : List Line)
    → all ≡ x ∷ xs → whole ≡ c ∷ cs
    → new ≡ old ++ trial_line n x (view c) → old ++ size_lines n all (views whole) ≡ result
    → new ++ size_lines n xs (views cs) ≡ result
sizes_more n all x xs whole c cs old new result e f g k =
    let same : size_lines n all (views whole)
    ≡ trial_line n x (view c) ++ size_lines n xs (views cs) = rw (e, f) refl in
    rw (g, append_assoc, ← same) k

-- ---- the answers to drawings that are proved
pub proofs_all : (held rest all : List AreaAnswer) → rest ≡ [] → held ++ rest ≡ all → held ≡ all
proofs_all held rest all e h = sym (append-nil held)
    ∙ ap (λ (s : List AreaAnswer). held ++ s) (sym e) ∙ h

pub proofs_end : (ds : List Drawing) (levels : List ℕ) → (ds ≡ []) ⊎ (levels ≡ [])
    → proof_answers (plans ds) levels ≡ []
proofs_end [] levels h = refl
proofs_end (d ∷ ds) [] h = refl
proofs_end (d ∷ ds) (n ∷ levels) (inl h) = absurd (cc)
proofs_end (d ∷ ds) (n ∷ levels) (inr h) = absurd (cc)

pub proofs_more : (all : List Drawing) (d : Drawing) (ds : List Drawing) (whole : List ℕ) (n : ℕ)
    (levels : List ℕ) (old new : List AreaAnswer) (x : AreaAnswer) (result : List AreaAnswer)
    → all ≡ d ∷ ds → whole ≡ n ∷ levels
    → new ≡ old ++ x ∷ [] → x ≡ proof_answer (plan d) n
    → old ++ proof_answers (plans all) whole ≡ result
    → new ++ proof_answers (plans ds) levels ≡ result
proofs_more all d ds whole n levels old new x result e f g h k =
    let same : proof_answers (plans all) whole
    ≡ (x ∷ []) ++ proof_answers (plans ds) levels = rw (e, f, h) refl in
    rw (g, append_assoc, ← same) k
