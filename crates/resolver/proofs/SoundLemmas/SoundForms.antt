-- What attributes stand for that break no rule: references within the tables, and narrow windows.
use Rattle.std.proofs.Common.{◌≡◌, ℕ, ◌≤◌, ◌^◌, Bool, true, false, cond, ◌||◌, not, ℤ, pos, int_le}
use Rattle.std.proofs.Common.{◌-ℤ◌, ◌<ℤ◌, [], ◌++◌, length, Option, Some, None, refl, arith}
use Rattle.std.proofs.Common.{true≢false}
use Rattle.std.proofs.lemmas.Int.{ints}
use Rattle.ili_grammar.specs.Syntax as syntax
use Rattle.ili_grammar.specs.Syntax.{Ident, Decimal, Span, TypeSyntax, LineHead, Content}
use Rattle.resolver.specs.declared.faults.ModelCode.TheVariants as code
use Rattle.resolver.specs.declared.shape.Shape.TheVariants as shapes
use Rattle.resolver.specs.Faults.{fault_if}
use Rattle.resolver.specs.Numbers.{scale_of, in_units, is_reversed, has_long_bound, is_wide_span}
use Rattle.resolver.specs.Numbers.{is_wide}
use Rattle.resolver.specs.Lines.{is_long_overlap, suits}
use Rattle.resolver.specs.Models.{no_limits, limits, form, form_of_meaning, reference, value}
use Rattle.resolver.specs.Models.{window_in, vertex_kind}
use Rattle.resolver.specs.Rules.{reference_faults, content_faults, type_name_faults, meaning_faults}
use Rattle.resolver.specs.Rules.{vertex_faults}
use Rattle.resolver.specs.Scopes.{Scope, Meaning, is_among, is_visible, meant, meaning}
use Rattle.resolver.specs.Sound.{IsNarrow, RefersWithin}
use Rattle.resolver.proofs.SoundLemmas.NoFault.{none_behind, not_broken, or-left_false}
use Rattle.resolver.proofs.SoundLemmas.NoFault.{or-right_false}
use Rattle.resolver.proofs.ScopeLemmas.PlacedNames.{place_is_below}

-- no type is a reference
pub type_within : (tables : ℕ) (t : TypeSyntax) → RefersWithin tables (form t)
type_within tables (syntax.Named n) = tt
type_within tables (syntax.Coord2 c) = tt
type_within tables (syntax.Coord3 c) = tt
type_within tables (syntax.Dim1 s) = tt
type_within tables (syntax.Dim2 s) = tt
type_within tables (syntax.Radians s) = tt
type_within tables (syntax.Grads s) = tt
type_within tables (syntax.Degrees s) = tt
type_within tables (syntax.Range s) = tt
type_within tables (syntax.Text d) = tt
type_within tables syntax.Date = tt
type_within tables syntax.HAlignment = tt
type_within tables syntax.VAlignment = tt
type_within tables (syntax.Enumeration es) = tt
type_within tables (syntax.Polyline l) = tt
type_within tables (syntax.Surface l) = tt
type_within tables (syntax.Area l) = tt

pub meaning_within : (tables : ℕ) (o : Option Meaning) → RefersWithin tables (form_of_meaning o)
meaning_within tables None = tt
meaning_within tables (Some m) = type_within tables m.kind

-- a reference that breaks no rule names a table
pub names_table : (s : Scope) (n : Ident) → reference_faults s n ≡ []
    → is_among n.text s.tables ≡ true
names_table s n e = among (is_among n.text s.tables) e
  where
    among : (b : Bool)
        → cond b [] (fault_if true (cond (is_visible s n.text) code.NotTable code.Unknown) n) ≡ []
        → b ≡ true
    among true h = refl
    among false h =
        absurd (true≢false
        (not_broken true (cond (is_visible s n.text) code.NotTable code.Unknown) n h))

pub reference_within : (tables : ℕ) (s : Scope) (n : Ident) → length s.tables ≤ tables
    → reference_faults s n ≡ [] → RefersWithin tables (reference s n)
reference_within tables s n le e =
    omega (arith, le, place_is_below n.text s.tables (names_table s n e))

pub value_within : (tables : ℕ) (s : Scope) (owner : Ident) (c : Content) → length s.tables ≤ tables
    → content_faults s owner c ≡ [] → RefersWithin tables (value s c)
value_within tables s owner (syntax.Value t) le e = meaning_within tables (meant s t)
value_within tables s owner (syntax.Reference n) le e = reference_within tables s n le e

narrow : (z : ℤ) → int_le (pos (2 ^ 40)) z ≡ false → z <ℤ pos (2 ^ 40)
narrow z e = grind (arith, ints, e)

-- bounds that are not too far apart
limits_narrow : (scale : ℕ) (s : Span) → is_wide_span scale s ≡ false
    → ((limits scale s).high -ℤ (limits scale s).low) <ℤ pos (2 ^ 40)
limits_narrow scale s e =
    elim (is_reversed scale s || has_long_bound scale s) as
    (λ b. ((cond b no_limits (record {
      low = in_units scale s.low;
      high = in_units scale s.high;
      scale = scale;
    })).high
    -ℤ (cond b no_limits (record {
      low = in_units scale s.low;
      high = in_units scale s.high;
      scale = scale;
    })).low) <ℤ pos (2 ^ 40)) [
      | true ↦ omega (arith, ints)
      | false ↦ narrow (in_units scale s.high -ℤ in_units scale s.low) e
    ]

pub window_narrow : (t : TypeSyntax) → is_wide t ≡ false → IsNarrow (window_in t)
window_narrow (syntax.Named n) e = record { x = omega (arith, ints); y = omega (arith, ints) }
window_narrow (syntax.Coord2 c) e =
    let wide_x : Bool = is_wide_span (scale_of (syntax.Coord2 c)) c.x in
    let wide_y : Bool = is_wide_span (scale_of (syntax.Coord2 c)) c.y in
    record {
      x = limits_narrow (scale_of (syntax.Coord2 c)) c.x (or-left_false wide_x wide_y e);
      y = limits_narrow (scale_of (syntax.Coord2 c)) c.y (or-right_false wide_x wide_y e);
    }
window_narrow (syntax.Coord3 c) e =
    let wide_x : Bool = is_wide_span (scale_of (syntax.Coord3 c)) c.x in
    let wide_y : Bool = is_wide_span (scale_of (syntax.Coord3 c)) c.y in
    record {
      x = limits_narrow (scale_of (syntax.Coord3 c)) c.x (or-left_false wide_x wide_y e);
      y = limits_narrow (scale_of (syntax.Coord3 c)) c.y (or-right_false wide_x wide_y e);
    }
window_narrow (syntax.Dim1 s) e = record { x = omega (arith, ints); y = omega (arith, ints) }
window_narrow (syntax.Dim2 s) e = record { x = omega (arith, ints); y = omega (arith, ints) }
window_narrow (syntax.Radians s) e = record { x = omega (arith, ints); y = omega (arith, ints) }
window_narrow (syntax.Grads s) e = record { x = omega (arith, ints); y = omega (arith, ints) }
window_narrow (syntax.Degrees s) e = record { x = omega (arith, ints); y = omega (arith, ints) }
window_narrow (syntax.Range s) e = record { x = omega (arith, ints); y = omega (arith, ints) }
window_narrow (syntax.Text d) e = record { x = omega (arith, ints); y = omega (arith, ints) }
window_narrow syntax.Date e = record { x = omega (arith, ints); y = omega (arith, ints) }
window_narrow syntax.HAlignment e = record { x = omega (arith, ints); y = omega (arith, ints) }
window_narrow syntax.VAlignment e = record { x = omega (arith, ints); y = omega (arith, ints) }
window_narrow (syntax.Enumeration es) e =
    record { x = omega (arith, ints); y = omega (arith, ints) }
window_narrow (syntax.Polyline l) e = record { x = omega (arith, ints); y = omega (arith, ints) }
window_narrow (syntax.Surface l) e = record { x = omega (arith, ints); y = omega (arith, ints) }
window_narrow (syntax.Area l) e = record { x = omega (arith, ints); y = omega (arith, ints) }

-- the vertices of an AREA that breaks no rule
pub area_narrow : (s : Scope) (owner : Ident) (head : LineHead)
    → vertex_faults s owner shapes.Area head.vertex head.overlap ≡ []
    → IsNarrow (window_in (vertex_kind (meaning s head.vertex.text)))
area_narrow s owner head e =
    by_meaning (meaning s head.vertex.text)
    (none_behind (type_name_faults s head.vertex)
    (meaning_faults owner shapes.Area head.vertex head.overlap (meaning s head.vertex.text)) e)
  where
    by_meaning : (o : Option Meaning)
        → meaning_faults owner shapes.Area head.vertex head.overlap o ≡ []
        → IsNarrow (window_in (vertex_kind o))
    by_meaning None h = record { x = omega (arith, ints); y = omega (arith, ints) }
    by_meaning (Some m) h =
        let rest = none_behind (fault_if (is_long_overlap head.overlap m.kind) code.Decimals owner)
        (fault_if (not (suits shapes.Area m.kind)) code.NotCoord head.vertex
        ++ fault_if (is_wide m.kind) code.Wide head.vertex) h in
        window_narrow m.kind
        (not_broken (is_wide m.kind) code.Wide head.vertex
        (none_behind (fault_if (not (suits shapes.Area m.kind)) code.NotCoord head.vertex)
        (fault_if (is_wide m.kind) code.Wide head.vertex) rest))
