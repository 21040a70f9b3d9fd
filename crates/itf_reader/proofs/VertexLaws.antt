-- Words and vertices that were read, and their codes.
use Rattle.std.proofs.Common.{◌≡◌, ℕ, ℤ, Bool, true, false, cond, not, ◌&&◌, List, [], ◌∷◌, ◌++◌}
use Rattle.std.proofs.Common.{drop, Option, Some, None, Result, Ok, Err, refl, ap, subst, ◌∙◌}
use Rattle.std.proofs.Common.{length, append-nil}
use Rattle.std.specs.Prelude.{is_none}
use Rattle.std.specs.Option.{option_map}
use Rattle.std.specs.List.{flat_map}
use Rattle.resolver.specs.Resolved.{LineForm}
use Rattle.table_layout.specs.Layouts.{Role}
use Rattle.field_values.specs.declared.value.ValueFault.{ValueFault}
use Rattle.field_values.specs.Fields.{line_axes, vertex_fault}
use Rattle.field_values.specs.Places.{Place, place_named}
use Rattle.field_values.specs.Readings.{Value, reading, numbers_on}
use Rattle.itf_reader.specs.declared.findings.Code.{Code}
use Rattle.itf_reader.specs.declared.findings.Code.TheVariants.{Arcs}
use Rattle.itf_reader.specs.Findings.{Finding}
use Rattle.itf_reader.specs.declared.rows.values.ReadVertex.{ReadVertex}
use Rattle.itf_reader.specs.Forms.{Vertex}
use Rattle.itf_reader.specs.RowReadings.{sound_vertex, sound_vertices, sound_height, vertices_view}
use Rattle.itf_reader.specs.StrokeFindings.{Seen, is_on_arc, code_if, code_of, first_code}
use Rattle.itf_reader.specs.StrokeFindings.{finding_at, seen, all_seen, place_of, heights_of}
use Rattle.itf_reader.specs.StrokeFindings.{vertex_code, vertex_finding, is_clean, are_clean}
use Rattle.itf_reader.specs.StrokeFindings.{is_short, is_whole, is_sound_stroke, stroke_findings}
use Rattle.itf_reader.specs.StrokeFindings.{short_finding, are_arcs, arc_findings, is_bad_arc}
use Rattle.itf_reader.specs.VertexReadings.{reading_by, vertex_reading}

-- ---- columns
pub code_ok : (o : Option ValueFault) (a v : Value) → Ok v ≡ reading o a
    → None ≡ option_map code_of o
code_ok None a v h = refl
code_ok (Some f) a v h = cc

pub code_err : (o : Option ValueFault) (a : Value) (f : ValueFault) → Err f ≡ reading o a
    → Some (code_of f) ≡ option_map code_of o
code_err None a f h = cc
code_err (Some g) a f h = cc

-- ---- single vertices
pub vertex_ok : (o : Option ValueFault) (b : Bool) (ns : List ℤ) (x y : ℤ) (h : List ℤ)
    (at p : Place)
    → Ok (x ∷ y ∷ h) ≡ reading o ns → at ≡ p → b ≡ false
    → Ok (at, h) ≡ reading_by (first_code (option_map code_of o) (code_if b Arcs)) (p, drop 2 ns)
vertex_ok (Some f) b ns x y h at p e q k = cc
vertex_ok None true ns x y h at p e q k = cc
vertex_ok None false ns x y h at p e q k =
    let n : x ∷ y ∷ h ≡ ns = cc in
    ap (λ (a : Place). Ok (a, h)) q ∙ ap (λ (l : List ℤ). Ok (p, drop 2 l)) n

pub vertex_barred : (o : Option ValueFault) (b : Bool) (ns v : List ℤ) (w : Place × List ℤ)
    → Ok v ≡ reading o ns → b ≡ true
    → Err Arcs ≡ reading_by (first_code (option_map code_of o) (code_if b Arcs)) w
vertex_barred (Some f) b ns v w e k = cc
vertex_barred None true ns v w e k = refl
vertex_barred None false ns v w e k = cc

pub vertex_err : (o : Option ValueFault) (d : Option Code) (ns : List ℤ) (f : ValueFault)
    (w : Place × List ℤ)
    → Err f ≡ reading o ns → Err (code_of f) ≡ reading_by (first_code (option_map code_of o) d) w
vertex_err None d ns f w e = cc
vertex_err (Some g) d ns f w e = cc

-- the same over the fields as they were lent
pub ok_at : (l : LineForm) (v : Vertex) (lent : List (List ℕ)) (x y : ℤ) (h : List ℤ) (at : Place)
    → lent ≡ v.fields
    → Ok (x ∷ y ∷ h) ≡ reading (vertex_fault l lent) (numbers_on (line_axes l) lent)
    → at ≡ place_named l.window lent → (is_on_arc v.kind && not l.arcs) ≡ false
    → Ok (at, h) ≡ vertex_reading l v
ok_at l v lent x y h at e r p b =
    subst (λ (fs : List (List ℕ)). Ok (at, h)
    ≡ reading_by
    (first_code (option_map code_of (vertex_fault l fs))
    (code_if (is_on_arc v.kind && not l.arcs) Arcs))
    (place_named l.window fs, drop 2 (numbers_on (line_axes l) fs))) e
    (vertex_ok (vertex_fault l lent) (is_on_arc v.kind && not l.arcs)
    (numbers_on (line_axes l) lent) x y h at (place_named l.window lent) r p b)

pub barred_at : (l : LineForm) (v : Vertex) (lent : List (List ℕ)) (ns : List ℤ) → lent ≡ v.fields
    → Ok ns ≡ reading (vertex_fault l lent) (numbers_on (line_axes l) lent)
    → (is_on_arc v.kind && not l.arcs) ≡ true → Err Arcs ≡ vertex_reading l v
barred_at l v lent ns e r b =
    subst (λ (fs : List (List ℕ)). Err Arcs
    ≡ reading_by
    (first_code (option_map code_of (vertex_fault l fs))
    (code_if (is_on_arc v.kind && not l.arcs) Arcs)) (place_of l v, heights_of l v)) e
    (vertex_barred (vertex_fault l lent) (is_on_arc v.kind && not l.arcs)
    (numbers_on (line_axes l) lent) ns (place_of l v, heights_of l v) r b)

pub err_at : (l : LineForm) (v : Vertex) (lent : List (List ℕ)) (f : ValueFault) → lent ≡ v.fields
    → Err f ≡ reading (vertex_fault l lent) (numbers_on (line_axes l) lent)
    → Err (code_of f) ≡ vertex_reading l v
err_at l v lent f e r =
    subst (λ (fs : List (List ℕ)). Err (code_of f)
    ≡ reading_by
    (first_code (option_map code_of (vertex_fault l fs))
    (code_if (is_on_arc v.kind && not l.arcs) Arcs)) (place_of l v, heights_of l v)) e
    (vertex_err (vertex_fault l lent) (code_if (is_on_arc v.kind && not l.arcs) Arcs)
    (numbers_on (line_axes l) lent) f (place_of l v, heights_of l v) r)

by_none : (o : Option Code) (a w : Place × List ℤ) → Ok w ≡ reading_by o a → (o ≡ None) × (w ≡ a)
by_none None a w h = (refl, cc)
by_none (Some c) a w h = cc

by_some : (o : Option Code) (a : Place × List ℤ) (c : Code) → Err c ≡ reading_by o a → o ≡ Some c
by_some None a c h = cc
by_some (Some d) a c h = cc

-- a vertex that is sound
pub sound : (l : LineForm) (v : Vertex) (w : Place × List ℤ) (column : ℕ)
    → Ok w ≡ vertex_reading l v
    → (true ≡ is_clean l v) × (record {
      at = w.0;
      line = v.line;
      kind = v.kind;
    } ∷ [] ≡ sound_vertex l v) × (w.1 ≡ sound_height l v)
    × ([] ≡ vertex_finding l column v)
sound l v w column e =
    let b = by_none (vertex_code l v) (place_of l v, heights_of l v) w e in (
      rw b.0 refl,
      rw b.0 (ap (λ (x : Place × List ℤ). record {
        at = x.0;
        line = v.line;
        kind = v.kind;
      } ∷ []) b.1),
      rw b.0 (ap (λ (x : Place × List ℤ). x.1) b.1),
      rw b.0 refl,
    )

-- and one that is not
pub unsound : (l : LineForm) (v : Vertex) (c : Code) (column : ℕ) → Err c ≡ vertex_reading l v
    → (false ≡ is_clean l v) × ([] ≡ sound_vertex l v) × ([] ≡ sound_height l v)
    × (finding_at v.line column (Some c) ≡ vertex_finding l column v)
unsound l v c column e =
    let b = by_some (vertex_code l v) (place_of l v, heights_of l v) c e in
    (rw b refl, rw b refl, rw b refl, rw b refl)

-- ---- lines
both : (a b : Bool) → (a && b) ≡ true → (a ≡ true) × (b ≡ true)
both true b h = (refl, h)
both false b h = cc

none_by : (o : Option Code) → is_none o ≡ true → o ≡ None
none_by None h = refl
none_by (Some c) h = cc

pub clean_seen : (l : LineForm) (vs : List Vertex) → are_clean l vs ≡ true
    → sound_vertices l vs ≡ all_seen l vs
clean_seen l [] h = refl
clean_seen l (v ∷ vs) h =
    let b = both (is_clean l v) (are_clean l vs) h in
    rw b.0 (ap (λ (s : List Seen). seen l v ∷ s) (clean_seen l vs b.1))

pub clean_silent : (l : LineForm) (column : ℕ) (vs : List Vertex) → are_clean l vs ≡ true
    → flat_map (vertex_finding l column) vs ≡ []
clean_silent l column [] h = refl
clean_silent l column (v ∷ vs) h =
    let b = both (is_clean l v) (are_clean l vs) h in
    rw (none_by (vertex_code l v) b.0) (clean_silent l column vs b.1)

negated : (b : Bool) → not b ≡ true → b ≡ false
negated true h = cc
negated false h = refl

arcs_silent : (column : ℕ) (vs : List Seen) → are_arcs vs ≡ true → arc_findings column vs ≡ []
arcs_silent column [] h = refl
arcs_silent column (s ∷ []) h = refl
arcs_silent column (s ∷ m ∷ []) h = refl
arcs_silent column (s ∷ m ∷ e ∷ vs) h =
    let b = both (not (is_bad_arc s m e)) (are_arcs (m ∷ e ∷ vs)) h in
    rw (negated (is_bad_arc s m e) b.0) (arcs_silent column (m ∷ e ∷ vs) b.1)

short_silent : (role : Role) (column : ℕ) (vs : List Seen) → is_short role vs ≡ false
    → short_finding role column vs ≡ []
short_silent role column [] h = refl
short_silent role column (v ∷ vs) h = rw h refl

-- where nothing is wrong, nothing is found
pub whole_silent : (role : Role) (column : ℕ) (vs : List Seen) → is_whole role vs ≡ true
    → short_finding role column vs ++ arc_findings column vs ≡ []
whole_silent role column vs h =
    let b = both (not (is_short role vs)) (are_arcs vs) h in
    rw (short_silent role column vs (negated (is_short role vs) b.0)) (arcs_silent column vs b.1)

-- ---- the vertices of one line among those that were read
same_tail : (a b : Seen) (as_ bs : List Seen) → a ∷ as_ ≡ b ∷ bs → as_ ≡ bs
same_tail a b as_ bs h = cc

tail_of : (old new : List ReadVertex) (more : List Seen)
    → vertices_view new ≡ vertices_view old ++ more → vertices_view (drop (length old) new) ≡ more
tail_of [] new more h = h
tail_of (o ∷ os) [] more h = cc
tail_of (o ∷ os) (n ∷ ns) more h = tail_of os ns more (same_tail _ _ _ _ h)

pub own_vertices : (old new lent rest : List ReadVertex) (more : List Seen) (start : ℕ)
    → start ≡ length old → vertices_view new ≡ vertices_view old ++ more → lent ≡ new
    → rest ≡ drop start lent → vertices_view rest ≡ more
own_vertices old new lent rest more start s h e r =
    ap vertices_view r ∙ ap (λ (n : ℕ). vertices_view (drop n lent)) s
    ∙ ap (λ (l : List ReadVertex). vertices_view (drop (length old) l)) e
    ∙ tail_of old new more h

-- a line whose vertices are all clean
pub stroke_clean : (role : Role) (l : LineForm) (vs : List Vertex) (rest : List Seen)
    → rest ≡ sound_vertices l vs → are_clean l vs ≡ true
    → is_whole role rest ≡ is_sound_stroke role l vs
stroke_clean role l vs rest e h = rw (e, clean_seen l vs h, h) refl

pub stroke_unclean : (role : Role) (l : LineForm) (vs : List Vertex) → are_clean l vs ≡ false
    → false ≡ is_sound_stroke role l vs
stroke_unclean role l vs h = rw h refl

pub found_clean : (role : Role) (l : LineForm) (column : ℕ) (vs : List Vertex) (rest : List Seen)
    (old more new : List Finding)
    → rest ≡ sound_vertices l vs → are_clean l vs ≡ true
    → more ≡ old ++ flat_map (vertex_finding l column) vs
    → new ≡ more ++ (short_finding role column rest ++ arc_findings column rest)
    → new ≡ old ++ stroke_findings role l column vs
found_clean role l column vs rest old more new e h m n =
    let seen_all : rest ≡ all_seen l vs = e ∙ clean_seen l vs h in
    let same : more ≡ old = m ∙ ap (λ (fs : List Finding). old ++ fs) (clean_silent l column vs h)
    ∙ append-nil old in
    n ∙ ap (λ (fs : List Finding). fs
    ++ (short_finding role column rest ++ arc_findings column rest)) same
    ∙ ap (λ (ss : List Seen). old ++ (short_finding role column ss ++ arc_findings column ss))
    seen_all ∙ rw h refl

pub found_unclean : (role : Role) (l : LineForm) (column : ℕ) (vs : List Vertex)
    (old more : List Finding)
    → are_clean l vs ≡ false
    → more ≡ old ++ flat_map (vertex_finding l column) vs
    → more ≡ old ++ stroke_findings role l column vs
found_unclean role l column vs old more h m = m ∙ rw h refl

pub err_same : (A : Type 0) (c d : Code) → c ≡ d → ◌≡◌ {A = Result A Code} (Err c) (Err d)
err_same A c d h = cc
