-- Each vertex of a sound line is read.
use Rattle.std.proofs.Common.{◌≡◌, ℕ, ◌&&◌, Bool, true, false, cond, List, ◌∷◌, Option, Some, None}
use Rattle.std.proofs.Common.{is_none, Result, Ok, Err, ℤ, refl, ap, ◌∙◌, subst, arith}
use Rattle.std.specs.Option.{option_map}
use Rattle.resolver.specs.Resolved.{LineForm}
use Rattle.table_layout.specs.Layouts.{Role}
use Rattle.field_values.specs.declared.value.ValueFault.{ValueFault}
use Rattle.field_values.specs.Fields.{vertex_fault, line_axes}
use Rattle.field_values.specs.Readings.{Value as FieldValue, reading, numbers_on}
use Rattle.itf_reader.specs.declared.findings.Code.{Code}
use Rattle.itf_reader.specs.Forms.{Kind, Vertex}
use Rattle.itf_reader.specs.StrokeFindings.{code_of, first_code, is_clean, are_clean, is_whole}
use Rattle.itf_reader.specs.StrokeFindings.{all_seen, is_sound_stroke}
use Rattle.ident_refs.specs.ListValues.{KeyVertex, Value, key_value, key_vertex_of}

unbroken : (o : Option ValueFault) (rest : Option Code)
    → is_none (first_code (option_map code_of o) rest) ≡ true → o ≡ None
unbroken None rest h = refl
unbroken (Some f) rest h = cc

both_true : (a b : Bool) → (a && b) ≡ true → (a ≡ true) × (b ≡ true)
both_true true b h = (refl, h)
both_true false b h = absurd (grind arith)

-- the first of some vertices that are clean, and those after it
pub clean_front : (l : LineForm) (vs : List Vertex) (v : Vertex) (ws : List Vertex) → vs ≡ v ∷ ws
    → are_clean l vs ≡ true → (vertex_fault l v.fields ≡ None) × (are_clean l ws ≡ true)
clean_front l vs v ws e h =
    let b = both_true (is_clean l v) (are_clean l ws)
    (subst (λ (us : List Vertex). are_clean l us ≡ true) e h) in
    (unbroken (vertex_fault l v.fields) _ b.0, b.1)

pub sound_clean : (role : Role) (l : LineForm) (vs : List Vertex) → is_sound_stroke role l vs ≡ true
    → are_clean l vs ≡ true
sound_clean role l vs h = (both_true (are_clean l vs) (is_whole role (all_seen l vs)) h).0

-- the numbers of a vertex, over the fields as they were lent
same_value : (o : Option ValueFault) (a v : List ℤ) → Ok v ≡ reading o a → v ≡ a
same_value None a v h = cc
same_value (Some f) a v h = cc

pub corner_read : (l : LineForm) (v : Vertex) (lent : List (List ℕ)) (ns : List ℤ) → lent ≡ v.fields
    → Ok ns ≡ reading (vertex_fault l lent) (numbers_on (line_axes l) lent)
    → ◌≡◌ {A = KeyVertex} (record { kind = v.kind; numbers = ns }) (key_vertex_of l v)
corner_read l v lent ns e r =
    let n = same_value (vertex_fault l lent) (numbers_on (line_axes l) lent) ns r in
    ap (λ (m : List ℤ). the_corner v.kind m) (n
    ∙ ap (λ (fs : List (List ℕ)). numbers_on (line_axes l) fs) e)
  where
    the_corner : Kind → List ℤ → KeyVertex
    the_corner k m = record { kind = k; numbers = m }

pub never : (o : Option ValueFault) (f : ValueFault) (a : List ℤ) → o ≡ None → Err f ≡ reading o a
    → ⊥
never None f a e h = cc
never (Some g) f a e h = cc

pub never_at : (l : LineForm) (fields lent : List (List ℕ)) (f : ValueFault)
    → vertex_fault l fields ≡ None → lent ≡ fields
    → Err f ≡ reading (vertex_fault l lent) (numbers_on (line_axes l) lent) → ⊥
never_at l fields lent f e s h =
    never (vertex_fault l lent) f (numbers_on (line_axes l) lent)
    (ap (λ (fs : List (List ℕ)). vertex_fault l fs) s ∙ e) h

-- ---- columns
pub value_ok : (o : Option ValueFault) (a v : FieldValue) → Ok v ≡ reading o a
    → Some (key_value v) ≡ cond (is_none o) (Some (key_value a)) None
value_ok None a v h = ap (λ (r : Result FieldValue ValueFault). compared_in a r) h
  where
    compared_in : FieldValue → Result FieldValue ValueFault → Option Value
    compared_in d (Ok v) = Some (key_value v)
    compared_in d (Err f) = Some (key_value d)
value_ok (Some f) a v h = cc

pub value_err : (o : Option ValueFault) (a : FieldValue) (f : ValueFault) → Err f ≡ reading o a
    → None ≡ cond (is_none o) (Some (key_value a)) None
value_err None a f h = cc
value_err (Some g) a f h = refl
