-- The lines of each object are those of the rows that name it.
use Rattle.std.proofs.Common.{◌≡◌, ℕ, zero, suc, ◌+◌, ◌<◌, Bool, true, false, nat_eq, List, [], ◌∷◌}
use Rattle.std.proofs.Common.{◌++◌, length, map, Option, Some, None, refl, sym, ap, ◌∙◌, arith}
use Rattle.std.proofs.Common.{append_assoc, append-nil, if◌then◌else◌, cond}
use Rattle.std.specs.Prelude.{slice_get}
use Rattle.std.specs.List.{filter}
use Rattle.std.proofs.lemmas.Bool.Decides.{nat_tests}
use Rattle.resolver.specs.Resolved.{LineForm}
use Rattle.itf_reader.specs.Forms.{Row}
use Rattle.itf_reader.specs.StrokeFindings.{Seen}
use Rattle.ident_refs.specs.KeptRows.{row_line}
use Rattle.plane.specs.declared.kinds.Curve.{Curve}
use Rattle.area_drawings.specs.Strokes.{strokes_curves}
use Rattle.delivery.specs.KeptRows.{changed_at}
use Rattle.delivery.specs.ObjectLines.{no_lines, with_line, grouped, drawn}
use Rattle.delivery.specs.Surfaces.{Boundary, boundary, surface_curves}

-- the place of object i is named
abbrev pub names_it : ℕ → Option ℕ → Bool
names_it i None = false
names_it i (Some p) = nat_eq p i

abbrev pub one_if : Bool → List Seen → List (List Seen)
one_if b line = if b then line ∷ [] else []

-- of some lines those whose rows name object i
abbrev pub own : ℕ → List (Option ℕ) → List (List Seen) → List (List Seen)
own i [] lines = []
own i (p ∷ ps) [] = []
own i (p ∷ ps) (line ∷ lines) = one_if (names_it i p) line ++ own i ps lines

-- objects from number i on, each with its own of some lines more
abbrev pub with_own : ℕ → List (Option ℕ) → List (List Seen) → List (List (List Seen))
    → List (List (List Seen))
with_own i ps lines [] = []
with_own i ps lines (o ∷ os) = (o ++ own i ps lines) ∷ with_own (i + 1) ps lines os

-- ---- one line more
no_names : (i : ℕ) (lines : List (List Seen)) (os : List (List (List Seen)))
    → with_own i [] lines os ≡ os
no_names i lines [] = refl
no_names i lines (o ∷ os) =
    ap (λ (x : List (List Seen)). x ∷ with_own (i + 1) [] lines os) (append-nil o)
    ∙ ap (λ (xs : List (List (List Seen))). o ∷ xs) (no_names (i + 1) lines os)

no_more : (i : ℕ) (p : Option ℕ) (ps : List (Option ℕ)) (os : List (List (List Seen)))
    → with_own i (p ∷ ps) [] os ≡ os
no_more i p ps [] = refl
no_more i p ps (o ∷ os) =
    ap (λ (x : List (List Seen)). x ∷ with_own (i + 1) (p ∷ ps) [] os) (append-nil o)
    ∙ ap (λ (xs : List (List (List Seen))). o ∷ xs) (no_more (i + 1) p ps os)

module _ (ps : List (Option ℕ)) (line : List Seen) (lines : List (List Seen)) where
  unnamed : (i : ℕ) (os : List (List (List Seen)))
      → with_own i ps lines os ≡ with_own i (None ∷ ps) (line ∷ lines) os
  unnamed i [] = refl
  unnamed i (o ∷ os) =
      ap (λ (xs : List (List (List Seen))). (o ++ own i ps lines) ∷ xs) (unnamed (i + 1) os)

  other : (i p : ℕ) (o : List (List Seen)) → nat_eq p i ≡ false
      → o ++ own i (Some p ∷ ps) (line ∷ lines) ≡ o ++ own i ps lines
  other i p o e = ap (λ (b : Bool). o ++ (one_if b line ++ own i ps lines)) e

  before : (i p : ℕ) (os : List (List (List Seen))) → p < i
      → with_own i (Some p ∷ ps) (line ∷ lines) os ≡ with_own i ps lines os
  before i p [] lt = refl
  before i p (o ∷ os) lt =
      ap (λ (x : List (List Seen)). x ∷ with_own (i + 1) (Some p ∷ ps) (line ∷ lines) os)
      (other i p o (differ i p lt))
      ∙ ap (λ (xs : List (List (List Seen))). (o ++ own i ps lines) ∷ xs)
      (before (i + 1) p os (omega (arith, lt)))
    where
      differ : (i p : ℕ) → p < i → nat_eq p i ≡ false
      differ i p lt = grind (arith, nat_tests)

  named : (i d p : ℕ) (os : List (List (List Seen))) → p ≡ i + d
      → with_own i ps lines (changed_at d (with_line line) os)
      ≡ with_own i (Some p ∷ ps) (line ∷ lines) os
  named i d p [] e = refl
  named i zero p (o ∷ os) e =
      ap (λ (x : List (List Seen)). x ∷ with_own (i + 1) ps lines os)
      (append_assoc o (line ∷ []) (own i ps lines)
      ∙ sym (ap (λ (b : Bool). o ++ (one_if b line ++ own i ps lines)) (same i p e)))
      ∙ ap (λ (xs : List (List (List Seen))). (o ++ own i (Some p ∷ ps) (line ∷ lines)) ∷ xs)
      (sym (before (i + 1) p os (omega (arith, e))))
    where
      same : (i p : ℕ) → p ≡ i + 0 → nat_eq p i ≡ true
      same i p e = grind (arith, nat_tests)
  named i (suc d) p (o ∷ os) e =
      ap (λ (x : List (List Seen)). x
      ∷ with_own (i + 1) ps lines (changed_at d (with_line line) os))
      (sym (other i p o (differ i d p e)))
      ∙ ap (λ (xs : List (List (List Seen))). (o ++ own i (Some p ∷ ps) (line ∷ lines)) ∷ xs)
      (named (i + 1) d p os (omega (arith, e)))
    where
      differ : (i d p : ℕ) → p ≡ i + suc d → nat_eq p i ≡ false
      differ i d p e = grind (arith, nat_tests)

-- lines that are added to objects, each to the one at its place
pub grouped_own : (ps : List (Option ℕ)) (lines : List (List Seen)) (os : List (List (List Seen)))
    → grouped ps lines os ≡ with_own 0 ps lines os
grouped_own [] lines os = sym (no_names 0 lines os)
grouped_own (p ∷ ps) [] os = sym (no_more 0 p ps os)
grouped_own (None ∷ ps) (line ∷ lines) os = grouped_own ps lines os ∙ unnamed ps line lines 0 os
grouped_own (Some p ∷ ps) (line ∷ lines) os =
    grouped_own ps lines (changed_at p (with_line line) os)
    ∙ named ps line lines 0 p p os (omega arith)

-- ---- their boundaries
module _ (forms : List LineForm) (rows : List Row) (ps : List (Option ℕ))
    (lines : List (List Seen)) where
  pub drawn_own : (i : ℕ) (objects : List Row)
      → ((j : ℕ) (o : Row) → slice_get objects j ≡ Some o
      → strokes_curves (own (i + j) ps lines) ≡ surface_curves forms rows o)
      → drawn (with_own i ps lines (no_lines (length objects))) (map row_line objects)
      ≡ map (boundary forms rows) objects
  drawn_own i [] h = refl
  drawn_own i (o ∷ objects) h =
      ap (λ (cs : List Curve). made o.line cs
      ∷ drawn (with_own (i + 1) ps lines (no_lines (length objects))) (map row_line objects))
      (ap (λ (n : ℕ). strokes_curves (own n ps lines)) (let z : i ≡ i + 0 = omega arith in z)
      ∙ h 0 o refl)
      ∙ ap (λ (bs : List Boundary). boundary forms rows o ∷ bs)
      (drawn_own (i + 1) objects (λ j x e. ap (λ (n : ℕ). strokes_curves (own n ps lines))
      (let z : (i + 1) + j ≡ i + suc j = omega arith in z) ∙ h (suc j) x e))
    where
      made : ℕ → List Curve → Boundary
      made n cs = record { line = n; curves = cs }

-- ---- lines of rows
pub own_rows : (i : ℕ) (f : Row → Option ℕ) (g : Row → List Seen) (rows : List Row)
    → own i (map f rows) (map g rows) ≡ map g (filter (λ r. names_it i (f r)) rows)
own_rows i f g [] = refl
own_rows i f g (r ∷ rows) = by (names_it i (f r)) (own_rows i f g rows)
  where
    by : (b : Bool) → own i (map f rows) (map g rows) ≡ map g (filter (λ r. names_it i (f r)) rows)
        → one_if b (g r) ++ own i (map f rows) (map g rows)
        ≡ map g (cond b (r ∷ filter (λ r. names_it i (f r)) rows)
        (filter (λ r. names_it i (f r)) rows))
    by true h = ap (λ (xs : List (List Seen)). g r ∷ xs) h
    by false h = h

pub filter_same : (p q : Row → Bool) (rows : List Row) → ((r : Row) → p r ≡ q r)
    → filter p rows ≡ filter q rows
filter_same p q [] h = refl
filter_same p q (r ∷ rows) h =
    ap (λ (b : Bool). cond b (r ∷ filter p rows) (filter p rows)) (h r)
    ∙ ap (λ (xs : List Row). cond (q r) (r ∷ xs) xs) (filter_same p q rows h)
