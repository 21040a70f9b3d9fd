-- Attributes that break no rule are sound, those of boundaries' lines and those of tables.
use Rattle.std.proofs.Common.{◌≡◌, ℕ, ◌<◌, ◌≤◌, Bool, List, [], ◌++◌, length, Option, Some, None}
use Rattle.std.proofs.Common.{arith, subst, sym}
use Rattle.std.proofs.lemmas.List.Elements.{All-cons}
use Rattle.std.specs.List.{All}
use Rattle.std.specs.Option.{IfSome}
use Rattle.ili_grammar.specs.Syntax as syntax
use Rattle.ili_grammar.specs.Syntax.{Ident, TypeSyntax, LineHead, LineSyntax, a_line, Attributes}
use Rattle.ili_grammar.specs.Syntax.{no_attributes, and_attribute, AttributeSyntax, an_attribute}
use Rattle.ili_grammar.specs.Syntax.{Content}
use Rattle.ili_grammar.specs.Limits.{attributes_names, line_names, content_names}
use Rattle.resolver.specs.declared.shape.Shape.{Shape}
use Rattle.resolver.specs.declared.shape.Shape.TheVariants as shapes
use Rattle.resolver.specs.Faults.{Fault}
use Rattle.resolver.specs.Models.{line_attribute, line_attributes, places, type_form, meaning_form}
use Rattle.resolver.specs.Models.{attribute, attributes}
use Rattle.resolver.specs.Resolved as resolved
use Rattle.resolver.specs.Rules.{attribute_names, attribute_faults, attributes_faults}
use Rattle.resolver.specs.Rules.{line_attribute_faults, line_faults, names_faults, vertex_faults}
use Rattle.resolver.specs.Scopes.{Scope, Meaning, outside, meant}
use Rattle.resolver.specs.Sound.{listed, IsLineAttribute, IsSoundPart, IsSoundAttribute}
use Rattle.resolver.proofs.SoundLemmas.Checked.{IsChecked, AreChecked, IsFound, meant_found}
use Rattle.resolver.proofs.SoundLemmas.NoFault.{none_before, none_behind}
use Rattle.resolver.proofs.ScopeLemmas.PlacedNames.{lists_placed}
use Rattle.resolver.proofs.SoundLemmas.SoundForms.{value_within, reference_within, area_narrow}

pub names_counted : (as_ : Attributes) → length (attribute_names as_) ≤ attributes_names as_
names_counted no_attributes = omega arith
names_counted (and_attribute (an_attribute n o c) as_) = omega (arith, names_counted as_)

-- each attribute that is written is listed
line_listed : (s : Scope) (as_ : Attributes)
    → length (listed (line_attributes s as_)) ≡ length (attribute_names as_)
line_listed s no_attributes = omega arith
line_listed s (and_attribute (an_attribute n o c) as_) = omega (arith, line_listed s as_)

pub all_listed : (s : Scope) (as_ : Attributes)
    → length (listed (attributes s as_)) ≡ length (attribute_names as_)
all_listed s no_attributes = omega arith
all_listed s (and_attribute (an_attribute n o c) as_) = omega (arith, all_listed s as_)

-- the attributes of a boundary's lines
line_attributes_sound : (tables : ℕ) (s : Scope) (as_ : Attributes) → length s.tables ≤ tables
    → attributes_faults s as_ ≡ [] → All (IsLineAttribute tables) (listed (line_attributes s as_))
line_attributes_sound tables s no_attributes le e = λ i d lt. absurd (omega (arith, lt))
line_attributes_sound tables s (and_attribute (an_attribute n o c) as_) le e =
    let here : List Fault = attribute_faults s (an_attribute n o c) in
    All-cons (IsLineAttribute tables) (line_attribute s (an_attribute n o c))
    (listed (line_attributes s as_))
    (value_within tables s n c le (none_before here (attributes_faults s as_) e))
    (line_attributes_sound tables s as_ le (none_behind here (attributes_faults s as_) e))

part_sound : (tables : ℕ) (s : Scope) (owner : Ident) (shape : Shape) (head : LineHead)
    (as_ : Attributes) (lists : List (List Ident))
    → length s.tables ≤ tables
    → line_faults s owner shape (a_line head as_ lists) ≡ []
    → line_names (a_line head as_ lists) ≤ 4194304
    → IsSoundPart tables (listed (line_attributes s as_)) (places as_ lists)
part_sound tables s owner shape head as_ lists le e few =
    let vs : List Fault = vertex_faults s owner shape head.vertex head.overlap in
    let ns : List Fault = names_faults as_ lists in
    let ls : List Fault = line_attribute_faults s as_ in
    let fs : List Fault = attributes_faults s as_ in
    let rest : ns ++ (ls ++ fs) ≡ [] = none_behind vs (ns ++ (ls ++ fs)) e in
    record {
      few = omega (arith, line_listed s as_, names_counted as_, few);
      attributes =
          line_attributes_sound tables s as_ le
          (none_behind ls fs (none_behind ns (ls ++ fs) rest));
      idents = subst (λ (n : ℕ). All (All (λ i. i < n)) (places as_ lists))
          (sym (line_listed s as_)) (lists_placed as_ lists (none_before ns (ls ++ fs) rest));
    }

-- what an attribute stands for whose type was checked
type_sound : (tables : ℕ) (name : List ℕ) (optional : Bool) (s : Scope) (t : TypeSyntax)
    → length s.tables ≤ tables → IsChecked s t
    → IsSoundAttribute tables (resolved.an_attribute name optional (type_form name optional s t))
type_sound tables name optional s (syntax.Named n) le c = tt
type_sound tables name optional s (syntax.Coord2 k) le c = tt
type_sound tables name optional s (syntax.Coord3 k) le c = tt
type_sound tables name optional s (syntax.Dim1 p) le c = tt
type_sound tables name optional s (syntax.Dim2 p) le c = tt
type_sound tables name optional s (syntax.Radians p) le c = tt
type_sound tables name optional s (syntax.Grads p) le c = tt
type_sound tables name optional s (syntax.Degrees p) le c = tt
type_sound tables name optional s (syntax.Range p) le c = tt
type_sound tables name optional s (syntax.Text d) le c = tt
type_sound tables name optional s syntax.Date le c = tt
type_sound tables name optional s syntax.HAlignment le c = tt
type_sound tables name optional s syntax.VAlignment le c = tt
type_sound tables name optional s (syntax.Enumeration es) le c = tt
type_sound tables name optional s (syntax.Polyline l) le c = tt
type_sound tables name optional s (syntax.Surface (a_line head as_ lists)) le c =
    part_sound tables s c.owner shapes.Surface head as_ lists le c.clean c.few
type_sound tables name optional s (syntax.Area (a_line head as_ lists)) le c =
    let vs : List Fault = vertex_faults s c.owner shapes.Area head.vertex head.overlap in (
      area_narrow s c.owner head
          (none_before vs (names_faults as_ lists
          ++ (line_attribute_faults s as_ ++ attributes_faults s as_)) c.clean),
      part_sound tables s c.owner shapes.Area head as_ lists le c.clean c.few,
    )

meaning_sound : (tables : ℕ) (name : List ℕ) (optional : Bool) (o : Option Meaning)
    → IfSome o (IsFound tables)
    → IsSoundAttribute tables (resolved.an_attribute name optional (meaning_form name optional o))
meaning_sound tables name optional None h = tt
meaning_sound tables name optional (Some m) h =
    type_sound tables name optional m.scope m.kind h.few h.checked

attribute_sound : (tables : ℕ) (s : Scope) (n : Ident) (o : Bool) (c : Content)
    → length s.tables ≤ tables → AreChecked (outside s.above) → AreChecked s
    → attribute_faults s (an_attribute n o c) ≡ [] → content_names c ≤ 4194304
    → IsSoundAttribute tables (attribute s (an_attribute n o c))
attribute_sound tables s n o (syntax.Value t) le above own e few =
    meaning_sound tables n.text o (meant s t)
    (meant_found tables s t le above own (record { owner = n; clean = e; few = few }))
attribute_sound tables s n o (syntax.Reference m) le above own e few =
    reference_within tables s m le e

-- the attributes of a table
pub attributes_sound : (tables : ℕ) (s : Scope) (as_ : Attributes) → length s.tables ≤ tables
    → AreChecked (outside s.above) → AreChecked s
    → attributes_faults s as_ ≡ [] → attributes_names as_ ≤ 4194304
    → All (IsSoundAttribute tables) (listed (attributes s as_))
attributes_sound tables s no_attributes le above own e few = λ i d lt. absurd (omega (arith, lt))
attributes_sound tables s (and_attribute (an_attribute n o c) as_) le above own e few =
    let here : List Fault = attribute_faults s (an_attribute n o c) in
    All-cons (IsSoundAttribute tables) (attribute s (an_attribute n o c))
    (listed (attributes s as_))
    (attribute_sound tables s n o c le above own (none_before here (attributes_faults s as_) e)
    (omega (arith, few)))
    (attributes_sound tables s as_ le above own (none_behind here (attributes_faults s as_) e)
    (omega (arith, few)))
