-- SURFACEs and their answers, one more.
use Rattle.std.proofs.Common.{◌≡◌, ◌⊎◌, inl, inr, ℕ, ◌+◌, ◌<◌, List, [], ◌∷◌, ◌++◌, drop, get_or}
use Rattle.std.proofs.Common.{length, refl, sym, ap, ◌∙◌, append_assoc}
use Rattle.std.proofs.lemmas.List.{at_drop_more, map-append}
use Rattle.table_layout.specs.Layouts.{Layout}
use Rattle.table_layout.specs.Values.{role_view, tables_view}
use Rattle.table_layout.specs.declared.layouts.Table.{Table}
use Rattle.reports.specs.LineViews.{line_of, lines_of}
use Rattle.reports.specs.Lines.{Line}
use Rattle.reports.specs.Outcomes.{surface_line, surface_lines}
use Rattle.reports.specs.Surfaces.{SurfaceOf, surface_at, surfaces_from}
use Rattle.reports.specs.SurfaceViews.{surface_view, surfaces_view}
use Rattle.reports.specs.declared.lines.Line as code
use Rattle.reports.specs.declared.lines.SurfaceAnswer.{SurfaceAnswer}
use Rattle.reports.specs.declared.surfaces.SurfaceOf as own

-- one table more
pub table_more : (ts : List Table) (i : ℕ) (t : Table) (old new whole : List SurfaceOf)
    → i < length ts → t ≡ get_or ts i t → new ≡ old ++ surface_at i (role_view t.role)
    → old ++ surfaces_from i (tables_view (drop i ts)) ≡ whole
    → new ++ surfaces_from (i + 1) (tables_view (drop (i + 1) ts)) ≡ whole
table_more ts i t old new whole lt e n h =
    let rest = surfaces_from (i + 1) (tables_view (drop (i + 1) ts)) in
    ap (λ (ss : List SurfaceOf). ss ++ rest) n
    ∙ append_assoc old (surface_at i (role_view t.role)) rest
    ∙ ap (λ (x : Table). old ++ (surface_at i (role_view x.role) ++ rest)) e
    ∙ ap (λ (ss : List SurfaceOf). old ++ ss)
    (sym (at_drop_more (λ (us : List Table). surfaces_from i (tables_view us)) ts i t lt))
    ∙ h

-- ---- the lines on SURFACEs
pub lines_end : (l : Layout) (ss : List own.SurfaceOf) (xs : List SurfaceAnswer)
    → (ss ≡ []) ⊎ (xs ≡ []) → surface_lines l (surfaces_view ss) xs ≡ []
lines_end l [] xs h = refl
lines_end l (s ∷ ss) [] h = refl
lines_end l (s ∷ ss) (x ∷ xs) (inl h) = absurd (cc)
lines_end l (s ∷ ss) (x ∷ xs) (inr h) = absurd (cc)

pub lines_more : (l : Layout) (all : List own.SurfaceOf) (s : own.SurfaceOf)
    (ss : List own.SurfaceOf) (whole : List SurfaceAnswer) (x : SurfaceAnswer)
    (xs : List SurfaceAnswer) (old new : List code.Line) (line : code.Line) (result : List Line)
    → all ≡ s ∷ ss → whole ≡ x ∷ xs → new ≡ old ++ line ∷ []
    → line_of line ≡ surface_line l (surface_view s) x
    → lines_of old ++ surface_lines l (surfaces_view all) whole ≡ result
    → lines_of new ++ surface_lines l (surfaces_view ss) xs ≡ result
lines_more l all s ss whole x xs old new line result e f g h k =
    let same : surface_lines l (surfaces_view all) whole
    ≡ (line_of line ∷ []) ++ surface_lines l (surfaces_view ss) xs = rw (e, f, h) refl in
    rw (g, map-append line_of old (line ∷ []), append_assoc, ← same) k
