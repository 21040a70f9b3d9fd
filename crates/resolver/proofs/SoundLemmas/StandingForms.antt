-- Types, vertices and overlaps that break no rule stand for what is written.
use Rattle.std.proofs.Common.{◌≡◌, ℕ, ◌≤◌, Bool, true, false, cond, ◌&&◌, pos, List, [], ◌∷◌}
use Rattle.std.proofs.Common.{Option, Some, None, refl, ap, sym, ◌∙◌, subst, arith, true≢false}
use Rattle.std.specs.List.{list_any}
use Rattle.std.specs.Option.{is_some, option_map}
use Rattle.ili_grammar.specs.Syntax as syntax
use Rattle.ili_grammar.specs.Syntax.{Ident, Decimal, Span, TypeSyntax, LineHead}
use Rattle.resolver.specs.declared.faults.ModelCode.TheVariants as code
use Rattle.resolver.specs.declared.shape.Shape.{Shape}
use Rattle.resolver.specs.declared.shape.Shape.TheVariants as shapes
use Rattle.resolver.specs.Faults.{fault_if}
use Rattle.resolver.specs.Lines.{is_coord, is_coord2, is_line, is_long_overlap, suits}
use Rattle.resolver.specs.Models.{limits, window, block, text_length, form, line_with, overlap_at}
use Rattle.resolver.specs.Numbers.{spans, most_decimals, scale_of, in_units, is_long, is_reversed}
use Rattle.resolver.specs.Numbers.{has_long_bound, is_text_length}
use Rattle.resolver.specs.Rules.{numbers_faults, type_faults}
use Rattle.resolver.specs.Scopes.{Scope, is_visible, name_alone}
use Rattle.resolver.specs.Standing.{AreLimits, IsForm, IsOverlap, HasForm}
use Rattle.resolver.proofs.BuildLemmas.ExactNumbers.{limits_kept, length_kept, few_digits}
use Rattle.resolver.proofs.SoundLemmas.NoFault.{none_before, none_behind, not_broken, holds}
use Rattle.resolver.proofs.SoundLemmas.NoFault.{or-left_false}
use Rattle.resolver.proofs.SoundLemmas.NoFault.{or-right_false}

-- ---- bounds
abbrev AreKept : ℕ → List Span → Type 0
AreKept scale [] = Unit {0}
AreKept scale (s ∷ ss) = AreLimits scale s (limits scale s) × AreKept scale ss

spans_kept : (scale : ℕ) (ss : List Span) → most_decimals ss ≤ scale
    → list_any (is_reversed scale) ss ≡ false → list_any (has_long_bound scale) ss ≡ false
    → AreKept scale ss
spans_kept scale [] le r l = tt
spans_kept scale (s ∷ ss) le r l = (
  limits_kept scale s (omega (arith, le)) (omega (arith, le))
      (or-left_false (is_reversed scale s) (list_any (is_reversed scale) ss) r)
      (or-left_false (has_long_bound scale s) (list_any (has_long_bound scale) ss) l),
  spans_kept scale ss (omega (arith, le))
      (or-right_false (is_reversed scale s) (list_any (is_reversed scale) ss) r)
      (or-right_false (has_long_bound scale s) (list_any (has_long_bound scale) ss) l),
)

numbers_kept : (owner : Ident) (t : TypeSyntax) → numbers_faults owner t ≡ []
    → AreKept (scale_of t) (spans t)
numbers_kept owner t e =
    let reversed : Bool = list_any (is_reversed (scale_of t)) (spans t) in
    let long : Bool = list_any (has_long_bound (scale_of t)) (spans t) in
    spans_kept (scale_of t) (spans t) (omega arith)
    (not_broken reversed code.Bounds owner
    (none_before (fault_if reversed code.Bounds owner) (fault_if long code.Decimals owner) e))
    (not_broken long code.Decimals owner
    (none_behind (fault_if reversed code.Bounds owner) (fault_if long code.Decimals owner) e))

-- ---- types
-- a type that is no name and no line
pub form_kept : (s : Scope) (owner : Ident) (t : TypeSyntax) → type_faults s owner t ≡ []
    → name_alone t ≡ None → is_line t ≡ false → IsForm t (form t)
form_kept s owner (syntax.Named n) e a l =
    absurd (true≢false (ap (λ (o : Option Ident). is_some o) a))
form_kept s owner (syntax.Coord2 c) e a l =
    let k = numbers_kept owner (syntax.Coord2 c) e in
    (window (scale_of (syntax.Coord2 c)) c, refl, k.0, k.1.0)
form_kept s owner (syntax.Coord3 c) e a l =
    let k = numbers_kept owner (syntax.Coord3 c) e in
    (block (scale_of (syntax.Coord3 c)) c, refl, k.0, k.1.0, k.1.1.0)
form_kept s owner (syntax.Dim1 p) e a l =
    (limits (scale_of (syntax.Dim1 p)) p, refl, (numbers_kept owner (syntax.Dim1 p) e).0)
form_kept s owner (syntax.Dim2 p) e a l =
    (limits (scale_of (syntax.Dim2 p)) p, refl, (numbers_kept owner (syntax.Dim2 p) e).0)
form_kept s owner (syntax.Radians p) e a l =
    (limits (scale_of (syntax.Radians p)) p, refl, (numbers_kept owner (syntax.Radians p) e).0)
form_kept s owner (syntax.Grads p) e a l =
    (limits (scale_of (syntax.Grads p)) p, refl, (numbers_kept owner (syntax.Grads p) e).0)
form_kept s owner (syntax.Degrees p) e a l =
    (limits (scale_of (syntax.Degrees p)) p, refl, (numbers_kept owner (syntax.Degrees p) e).0)
form_kept s owner (syntax.Range p) e a l =
    (limits (scale_of (syntax.Range p)) p, refl, (numbers_kept owner (syntax.Range p) e).0)
form_kept s owner (syntax.Text d) e a l =
    (text_length d, refl, length_kept d (holds (is_text_length d) code.Bounds owner e))
form_kept s owner syntax.Date e a l = refl
form_kept s owner syntax.HAlignment e a l = refl
form_kept s owner syntax.VAlignment e a l = refl
form_kept s owner (syntax.Enumeration es) e a l = refl
form_kept s owner (syntax.Polyline k) e a l = absurd (true≢false l)
form_kept s owner (syntax.Surface k) e a l = absurd (true≢false l)
form_kept s owner (syntax.Area k) e a l = absurd (true≢false l)

unlike : {X : Type 0} (x : X) → None ≡ Some x → ⊥
unlike {X} x e = true≢false (sym (ap (λ (o : Option X). is_some o) e))

-- a name that breaks no rule is visible
pub named_visible : (s : Scope) (owner : Ident) (t : TypeSyntax) (n : Ident) → name_alone t ≡ Some n
    → type_faults s owner t ≡ [] → is_visible s n.text ≡ true
named_visible s owner (syntax.Named k) n q e =
    subst (λ (m : Ident). is_visible s m.text ≡ true) (ap (λ (o : Option Ident). same_name o) q)
    (holds (is_visible s k.text) code.Unknown k e)
  where
    same_name : Option Ident → Ident
    same_name None = k
    same_name (Some m) = m
named_visible s owner (syntax.Coord2 c) n q e = absurd (unlike n q)
named_visible s owner (syntax.Coord3 c) n q e = absurd (unlike n q)
named_visible s owner (syntax.Dim1 p) n q e = absurd (unlike n q)
named_visible s owner (syntax.Dim2 p) n q e = absurd (unlike n q)
named_visible s owner (syntax.Radians p) n q e = absurd (unlike n q)
named_visible s owner (syntax.Grads p) n q e = absurd (unlike n q)
named_visible s owner (syntax.Degrees p) n q e = absurd (unlike n q)
named_visible s owner (syntax.Range p) n q e = absurd (unlike n q)
named_visible s owner (syntax.Text d) n q e = absurd (unlike n q)
named_visible s owner syntax.Date n q e = absurd (unlike n q)
named_visible s owner syntax.HAlignment n q e = absurd (unlike n q)
named_visible s owner syntax.VAlignment n q e = absurd (unlike n q)
named_visible s owner (syntax.Enumeration es) n q e = absurd (unlike n q)
named_visible s owner (syntax.Polyline l) n q e = absurd (unlike n q)
named_visible s owner (syntax.Surface l) n q e = absurd (unlike n q)
named_visible s owner (syntax.Area l) n q e = absurd (unlike n q)

-- ---- vertices and overlaps
overlaps_kept : (overlap : Option Decimal) (kind : TypeSyntax) → is_coord kind ≡ true
    → is_long_overlap overlap kind ≡ false
    → IsOverlap (scale_of kind) overlap (option_map (overlap_at (scale_of kind)) overlap)
overlaps_kept None kind c e = refl
overlaps_kept (Some d) kind c e =
    let short : is_long (scale_of kind) d
    ≡ false = sym (ap (λ (b : Bool). b && is_long (scale_of kind) d) c) ∙ e in (
      ap (λ (b : Bool). Some (cond b (pos 0) (in_units (scale_of kind) d))) short,
      few_digits (scale_of kind) d short,
    )

unsuited : (shape : Shape) (kind : TypeSyntax) → is_coord kind ≡ false → is_coord2 kind ≡ false
    → suits shape kind ≡ true → ⊥
unsuited shapes.Polyline kind a b e = true≢false (sym e ∙ a)
unsuited shapes.Surface kind a b e = true≢false (sym e ∙ b)
unsuited shapes.Area kind a b e = true≢false (sym e ∙ b)

-- a line whose vertices are of a type that was checked
pub vertices_kept : (s : Scope) (owner : Ident) (shape : Shape) (head : LineHead)
    (kind : TypeSyntax) (name : List ℕ) (optional : Bool)
    → type_faults s owner kind ≡ [] → suits shape kind ≡ true
    → is_long_overlap head.overlap kind ≡ false
    → HasForm shape name optional head kind (line_with name optional head kind)
vertices_kept s owner shape head (syntax.Coord2 c) name optional f e o =
    let k = numbers_kept owner (syntax.Coord2 c) f in
    record {
      suits = e;
      vertices = (k.0, k.1.0, refl);
      overlap = overlaps_kept head.overlap (syntax.Coord2 c) refl o;
      name_is = refl;
      optional_is = refl;
      arcs = refl;
    }
vertices_kept s owner shape head (syntax.Coord3 c) name optional f e o =
    let k = numbers_kept owner (syntax.Coord3 c) f in
    record {
      suits = e;
      vertices = (k.0, k.1.0, limits (scale_of (syntax.Coord3 c)) c.z, refl, k.1.1.0);
      overlap = overlaps_kept head.overlap (syntax.Coord3 c) refl o;
      name_is = refl;
      optional_is = refl;
      arcs = refl;
    }
vertices_kept s owner shape head (syntax.Named n) name optional f e o =
    absurd (unsuited shape (syntax.Named n) refl refl e)
vertices_kept s owner shape head (syntax.Dim1 p) name optional f e o =
    absurd (unsuited shape (syntax.Dim1 p) refl refl e)
vertices_kept s owner shape head (syntax.Dim2 p) name optional f e o =
    absurd (unsuited shape (syntax.Dim2 p) refl refl e)
vertices_kept s owner shape head (syntax.Radians p) name optional f e o =
    absurd (unsuited shape (syntax.Radians p) refl refl e)
vertices_kept s owner shape head (syntax.Grads p) name optional f e o =
    absurd (unsuited shape (syntax.Grads p) refl refl e)
vertices_kept s owner shape head (syntax.Degrees p) name optional f e o =
    absurd (unsuited shape (syntax.Degrees p) refl refl e)
vertices_kept s owner shape head (syntax.Range p) name optional f e o =
    absurd (unsuited shape (syntax.Range p) refl refl e)
vertices_kept s owner shape head (syntax.Text d) name optional f e o =
    absurd (unsuited shape (syntax.Text d) refl refl e)
vertices_kept s owner shape head syntax.Date name optional f e o =
    absurd (unsuited shape syntax.Date refl refl e)
vertices_kept s owner shape head syntax.HAlignment name optional f e o =
    absurd (unsuited shape syntax.HAlignment refl refl e)
vertices_kept s owner shape head syntax.VAlignment name optional f e o =
    absurd (unsuited shape syntax.VAlignment refl refl e)
vertices_kept s owner shape head (syntax.Enumeration es) name optional f e o =
    absurd (unsuited shape (syntax.Enumeration es) refl refl e)
vertices_kept s owner shape head (syntax.Polyline l) name optional f e o =
    absurd (unsuited shape (syntax.Polyline l) refl refl e)
vertices_kept s owner shape head (syntax.Surface l) name optional f e o =
    absurd (unsuited shape (syntax.Surface l) refl refl e)
vertices_kept s owner shape head (syntax.Area l) name optional f e o =
    absurd (unsuited shape (syntax.Area l) refl refl e)
