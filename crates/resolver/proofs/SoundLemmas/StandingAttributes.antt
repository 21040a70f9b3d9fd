-- Attributes and lines that break no rule stand for what is written.
use Rattle.std.proofs.Common.{◌≡◌, ℕ, suc, ◌≤◌, Bool, true, false, ◌&&◌, not, List, [], ◌∷◌, ◌++◌}
use Rattle.std.proofs.Common.{map, length, get_or, Option, Some, None, refl, ap, sym, ◌∙◌, subst}
use Rattle.std.proofs.Common.{arith, true≢false}
use Rattle.std.specs.List.{All, AllZip, flat_map}
use Rattle.std.specs.Option.{is_some, option_map_or, unwrap_or, IfSome}
use Rattle.ili_grammar.specs.Syntax as syntax
use Rattle.ili_grammar.specs.Syntax.{Ident, TypeSyntax, Named, LineHead, LineSyntax, a_line}
use Rattle.ili_grammar.specs.Syntax.{Attributes, no_attributes, and_attribute, AttributeSyntax}
use Rattle.ili_grammar.specs.Syntax.{an_attribute, Content}
use Rattle.ili_grammar.specs.Limits.{type_names, line_names, content_names, attributes_names}
use Rattle.resolver.specs.declared.faults.ModelCode.TheVariants as code
use Rattle.resolver.specs.declared.shape.Shape.{Shape}
use Rattle.resolver.specs.declared.shape.Shape.TheVariants as shapes
use Rattle.resolver.specs.Faults.{Fault, fault_if}
use Rattle.resolver.specs.Lines.{is_area, is_line, is_long_overlap, suits, stands_for}
use Rattle.resolver.specs.Models.{form, form_of_meaning, reference, value, numbers, places}
use Rattle.resolver.specs.Models.{vertex_kind, line_form, line_with, line_part, line_attributes}
use Rattle.resolver.specs.Models.{type_form, meaning_form, content_form, attributes}
use Rattle.resolver.specs.Numbers.{is_wide}
use Rattle.resolver.specs.Rules.{attribute_names, no_attribute, list_faults, lists_faults}
use Rattle.resolver.specs.Rules.{names_faults, twice_in, type_name_faults, meaning_faults}
use Rattle.resolver.specs.Rules.{kind_faults, vertex_faults, line_attribute_fault}
use Rattle.resolver.specs.Rules.{line_attribute_faults, content_faults, attribute_faults}
use Rattle.resolver.specs.Rules.{attributes_faults, line_faults, type_faults, reference_faults}
use Rattle.resolver.specs.Scopes.{Scope, Meaning, is_among, is_visible, place, texts, name_alone}
use Rattle.resolver.specs.Scopes.{outside, meaning, meant}
use Rattle.resolver.specs.Standing.{StandsFor, as_written, as_outside, as_declared, IsReference}
use Rattle.resolver.specs.Standing.{IsValue, AreIdents, IsLine, AreValues, IsPart, IsTypeForm}
use Rattle.resolver.specs.Standing.{IsContent, AreAttributes}
use Rattle.resolver.proofs.SoundLemmas.Checked.{IsChecked, AreChecked, IsFound, meaning_found}
use Rattle.resolver.proofs.SoundLemmas.Checked.{meant_found}
use Rattle.resolver.proofs.ScopeLemmas.Ends.{AreEnding, meaning_stands, meant_stands}
use Rattle.resolver.proofs.SoundLemmas.NoFault.{none_before, none_behind, none_in_each, not_broken}
use Rattle.resolver.proofs.SoundLemmas.NoFault.{holds}
use Rattle.resolver.proofs.ScopeLemmas.PlacedNames.{stands_at}
use Rattle.resolver.proofs.SoundLemmas.SoundForms.{names_table}
use Rattle.resolver.proofs.SoundLemmas.StandingForms.{form_kept, named_visible, vertices_kept}

-- a scope whose domains, and those further out, break no rule
pub record IsFaultless (s : Scope) : Type 0 where
  pub outer : AreChecked (outside s.above)
  pub own : AreChecked s
  pub outer_ends : AreEnding (outside s.above)
  pub own_ends : AreEnding s

faultless_outside : (s : Scope) → IsFaultless s → IsFaultless (outside s.above)
faultless_outside s f = record {
  outer = λ i d lt. absurd (omega (arith, lt));
  own = f.outer;
  outer_ends =
      record {
        visible = λ i d n at q. absurd
            (true≢false (sym (ap (λ (o : Option syntax.DomainSyntax). is_some o) at)));
        no_cycle = λ i lt. absurd (omega (arith, lt));
        few = omega arith;
      };
  own_ends = f.outer_ends;
}

-- what is found is no name, and is written in a scope that breaks no rule
is_type : (m : Meaning) (s : Scope) (t : TypeSyntax) → StandsFor m s t → name_alone m.kind ≡ None
is_type m _ _ (as_written s t q e) = ap (λ (k : Meaning). name_alone k.kind) e ∙ q
is_type m _ _ (as_outside s t n q a h) = is_type m (outside s.above) t h
is_type m _ _ (as_declared s t n i d q out p at h) = is_type m s d.kind h

its_scope : (m : Meaning) (s : Scope) (t : TypeSyntax) → StandsFor m s t → IsFaultless s
    → IsFaultless m.scope
its_scope m _ _ (as_written s t q e) f = subst (λ (k : Meaning). IsFaultless k.scope) (sym e) f
its_scope m _ _ (as_outside s t n q a h) f =
    its_scope m (outside s.above) t h (faultless_outside s f)
its_scope m _ _ (as_declared s t n i d q out p at h) f = its_scope m s d.kind h f

-- what a type that breaks no rule stands for
record IsKnown (s : Scope) (t : TypeSyntax) (m : Meaning) : Type 0 where
  found : meant s t ≡ Some m
  stands : StandsFor m s t
  faultless : IsFaultless m.scope
  checked : IsChecked m.scope m.kind
  is_type : name_alone m.kind ≡ None

known : (s : Scope) (owner : Ident) (t : TypeSyntax) → IsFaultless s → type_faults s owner t ≡ []
    → type_names t ≤ 4194304 → (m : Meaning) × IsKnown s t m
known s owner t f e few =
    let w = meant_stands s t f.outer_ends f.own_ends (λ n q. named_visible s owner t n q e) in
    let found : IfSome (meant s t) (IsFound (length s.tables)) = meant_found (length s.tables) s t
    (omega arith) f.outer f.own (record { owner = owner; clean = e; few = few }) in
    let here : IsFound (length s.tables) w.0 = subst
    (λ (o : Option Meaning). IfSome o (IsFound (length s.tables))) w.1 found in (
      w.0,
      record {
        found = w.1;
        stands = w.2;
        faultless = its_scope w.0 s t w.2 f;
        checked = here.checked;
        is_type = is_type w.0 s t w.2;
      },
    )

-- ---- references and IDENT lists
place_kept : (name : List ℕ) (ns : List (List ℕ)) → is_among name ns ≡ true
    → place name ns ≡ Some (unwrap_or (place name ns) 0)
place_kept name ns e =
    let w = stands_at name ns e in w.1 ∙ ap (λ (o : Option ℕ). Some (unwrap_or o 0)) (sym w.1)

pub zip_map : {X Y : Type 0} (R : X → Y → Type 0) (f : X → Y) (xs : List X)
    → All (λ x. R x (f x)) xs → AllZip R xs (map f xs)
zip_map R f [] h = tt
zip_map R f (x ∷ xs) h =
    (h 0 x (omega arith), zip_map R f xs (λ i d lt. h (suc i) d (omega (arith, lt))))

reference_kept : (s : Scope) (n : Ident) → reference_faults s n ≡ []
    → IsReference s n (reference s n)
reference_kept s n e =
    (unwrap_or (place n.text s.tables) 0, refl, place_kept n.text s.tables (names_table s n e))

pub idents_kept : (as_ : Attributes) (lists : List (List Ident)) → names_faults as_ lists ≡ []
    → AreIdents as_ lists (places as_ lists)
idents_kept as_ lists e =
    let names : List (List ℕ) = texts (attribute_names as_) in
    let each : All (λ l. list_faults names l ≡ []) lists = none_in_each (list_faults names) lists
    (none_behind (twice_in (attribute_names as_)) (lists_faults names lists) e) in
    zip_map (AllZip (λ n k. place n.text names ≡ Some k)) (numbers names) lists
    (λ i d lt. placed names (get_or lists i d) (each i d lt))
  where
    placed : (names : List (List ℕ)) (l : List Ident) → list_faults names l ≡ []
        → AllZip (λ n k. place n.text names ≡ Some k) l (numbers names l)
    placed names l h =
        let each : All (λ m. no_attribute names m ≡ []) l = none_in_each (no_attribute names) l
        (none_behind (twice_in l) (flat_map (no_attribute names) l) h) in
        zip_map (λ n k. place n.text names ≡ Some k) (λ m. unwrap_or (place m.text names) 0) l
        (λ i d lt. place_kept (get_or l i d).text names
        (holds (is_among (get_or l i d).text names) code.IdentUnknown (get_or l i d)
        (each i d lt)))

-- ---- lines
-- the attributes of a line
value_kept : (s : Scope) (n : Ident) (c : Content) → IsFaultless s → content_faults s n c ≡ []
    → stands_for is_line s c ≡ false → content_names c ≤ 4194304 → IsValue s c (value s c)
value_kept s n (syntax.Value t) f e l few =
    let w = known s n t f e few in
    let k : IsKnown s t w.0 = w.1 in
    let plain : is_line w.0.kind ≡ false = sym
    (ap (λ (o : Option Meaning). option_map_or (λ m. is_line m.kind) o false) k.found) ∙ l in
    subst (IsValue s (syntax.Value t)) (sym (ap form_of_meaning k.found)) (
      w.0,
      k.stands,
      form_kept w.0.scope k.checked.owner w.0.kind k.checked.clean k.is_type plain,
    )
value_kept s n (syntax.Reference m) f e l few = reference_kept s m e

values_kept : (s : Scope) (as_ : Attributes) → IsFaultless s → attributes_faults s as_ ≡ []
    → line_attribute_faults s as_ ≡ [] → attributes_names as_ ≤ 4194304
    → AreValues s as_ (line_attributes s as_)
values_kept s no_attributes f e l few = refl
values_kept s (and_attribute (an_attribute n o c) as_) f e l few =
    let here : List Fault = attribute_faults s (an_attribute n o c) in
    let line : List Fault = line_attribute_fault s (an_attribute n o c) in (
      value s c,
      line_attributes s as_,
      refl,
      value_kept s n c f (none_before here (attributes_faults s as_) e)
          (not_broken (stands_for is_line s c) code.LineAttr n
          (none_before line (line_attribute_faults s as_) l)) (omega (arith, few)),
      values_kept s as_ f (none_behind here (attributes_faults s as_) e)
          (none_behind line (line_attribute_faults s as_) l) (omega (arith, few)),
    )

-- the vertices and what is written of a line
head_kept : (name : List ℕ) (optional : Bool) (s : Scope) (owner : Ident) (shape : Shape)
    (head : LineHead) (as_ : Attributes) (lists : List (List Ident))
    → IsFaultless s
    → vertex_faults s owner shape head.vertex head.overlap ≡ []
    → IsLine shape name optional s (a_line head as_ lists)
    (line_form name optional s (a_line head as_ lists))
head_kept name optional s owner shape head as_ lists f e =
    let seen : is_visible s head.vertex.text
    ≡ true = holds (is_visible s head.vertex.text) code.Unknown head.vertex
    (none_before (type_name_faults s head.vertex)
    (meaning_faults owner shape head.vertex head.overlap (meaning s head.vertex.text)) e) in
    let w = meaning_stands s head.vertex f.outer_ends f.own_ends seen in
    let v : Meaning = w.0 in
    let found : IfSome (meaning s head.vertex.text) (IsFound (length s.tables)) = meaning_found
    (length s.tables) s head.vertex.text (omega arith) f.outer f.own in
    let here : IsFound (length s.tables) v = subst
    (λ (o : Option Meaning). IfSome o (IsFound (length s.tables))) w.1 found in
    let rules : kind_faults owner shape head.vertex head.overlap v.kind ≡ [] =
    sym (ap (meaning_faults owner shape head.vertex head.overlap) w.1)
    ∙ none_behind (type_name_faults s head.vertex)
    (meaning_faults owner shape head.vertex head.overlap (meaning s head.vertex.text)) e in
    let long : List Fault = fault_if (is_long_overlap head.overlap v.kind) code.Decimals owner in
    let unsuited : List Fault = fault_if (not (suits shape v.kind)) code.NotCoord head.vertex in
    let wide : List Fault = fault_if (is_area shape && is_wide v.kind) code.Wide head.vertex in
    let suited : suits shape v.kind ≡ true = holds (suits shape v.kind) code.NotCoord head.vertex
    (none_before unsuited wide (none_behind long (unsuited ++ wide) rules)) in
    let short : is_long_overlap head.overlap v.kind
    ≡ false = not_broken (is_long_overlap head.overlap v.kind) code.Decimals owner
    (none_before long (unsuited ++ wide) rules) in
    let kept = vertices_kept v.scope here.checked.owner shape head v.kind name optional
    here.checked.clean suited short in
    subst (λ (o : Option Meaning). IsLine shape name optional s (a_line head as_ lists)
    (line_with name optional head (vertex_kind o))) (sym w.1)
    (v, w.2 (Named head.vertex) refl, kept)

line_kept : (name : List ℕ) (optional : Bool) (s : Scope) (owner : Ident) (shape : Shape)
    (l : LineSyntax)
    → IsFaultless s → line_faults s owner shape l ≡ [] → line_names l ≤ 4194304
    → IsLine shape name optional s l (line_form name optional s l) × IsPart s l (line_part s l)
line_kept name optional s owner shape (a_line head as_ lists) f e few =
    let vs : List Fault = vertex_faults s owner shape head.vertex head.overlap in
    let ns : List Fault = names_faults as_ lists in
    let ls : List Fault = line_attribute_faults s as_ in
    let fs : List Fault = attributes_faults s as_ in
    let rest : ns ++ (ls ++ fs) ≡ [] = none_behind vs (ns ++ (ls ++ fs)) e in
    let inner : ls ++ fs ≡ [] = none_behind ns (ls ++ fs) rest in (
      head_kept name optional s owner shape head as_ lists f (none_before vs (ns ++ (ls ++ fs)) e),
      (
        line_attributes s as_,
        places as_ lists,
        refl,
        values_kept s as_ f (none_behind ls fs inner) (none_before ls fs inner)
            (omega (arith, few)),
        idents_kept as_ lists (none_before ns (ls ++ fs) rest),
      ),
    )

-- ---- attributes of tables
type_kept : (name : List ℕ) (optional : Bool) (s : Scope) (owner : Ident) (t : TypeSyntax)
    → IsFaultless s → type_faults s owner t ≡ [] → type_names t ≤ 4194304 → name_alone t ≡ None
    → IsTypeForm name optional s t (type_form name optional s t)
type_kept name optional s owner (syntax.Named n) f e few a =
    absurd (true≢false (ap (λ (o : Option Ident). is_some o) a))
type_kept name optional s owner (syntax.Coord2 c) f e few a =
    (form (syntax.Coord2 c), refl, form_kept s owner (syntax.Coord2 c) e refl refl)
type_kept name optional s owner (syntax.Coord3 c) f e few a =
    (form (syntax.Coord3 c), refl, form_kept s owner (syntax.Coord3 c) e refl refl)
type_kept name optional s owner (syntax.Dim1 p) f e few a =
    (form (syntax.Dim1 p), refl, form_kept s owner (syntax.Dim1 p) e refl refl)
type_kept name optional s owner (syntax.Dim2 p) f e few a =
    (form (syntax.Dim2 p), refl, form_kept s owner (syntax.Dim2 p) e refl refl)
type_kept name optional s owner (syntax.Radians p) f e few a =
    (form (syntax.Radians p), refl, form_kept s owner (syntax.Radians p) e refl refl)
type_kept name optional s owner (syntax.Grads p) f e few a =
    (form (syntax.Grads p), refl, form_kept s owner (syntax.Grads p) e refl refl)
type_kept name optional s owner (syntax.Degrees p) f e few a =
    (form (syntax.Degrees p), refl, form_kept s owner (syntax.Degrees p) e refl refl)
type_kept name optional s owner (syntax.Range p) f e few a =
    (form (syntax.Range p), refl, form_kept s owner (syntax.Range p) e refl refl)
type_kept name optional s owner (syntax.Text d) f e few a =
    (form (syntax.Text d), refl, form_kept s owner (syntax.Text d) e refl refl)
type_kept name optional s owner syntax.Date f e few a = (form syntax.Date, refl, refl)
type_kept name optional s owner syntax.HAlignment f e few a = (form syntax.HAlignment, refl, refl)
type_kept name optional s owner syntax.VAlignment f e few a = (form syntax.VAlignment, refl, refl)
type_kept name optional s owner (syntax.Enumeration es) f e few a =
    (form (syntax.Enumeration es), refl, refl)
type_kept name optional s owner (syntax.Polyline l) f e few a = (
  line_form name optional s l,
  refl,
  (line_kept name optional s owner shapes.Polyline l f e few).0,
)
type_kept name optional s owner (syntax.Surface l) f e few a =
    let k = line_kept name optional s owner shapes.Surface l f e few in
    (line_form name optional s l, line_part s l, refl, k.0, k.1)
type_kept name optional s owner (syntax.Area l) f e few a =
    let k = line_kept name optional s owner shapes.Area l f e few in
    (line_form name optional s l, line_part s l, refl, k.0, k.1)

content_kept : (s : Scope) (n : Ident) (o : Bool) (c : Content) → IsFaultless s
    → content_faults s n c ≡ [] → content_names c ≤ 4194304
    → IsContent n.text o s c (content_form s n.text o c)
content_kept s n o (syntax.Value t) f e few =
    let w = known s n t f e few in
    let k : IsKnown s t w.0 = w.1 in
    subst (IsContent n.text o s (syntax.Value t)) (sym (ap (meaning_form n.text o) k.found)) (
      w.0,
      k.stands,
      type_kept n.text o w.0.scope k.checked.owner w.0.kind k.faultless k.checked.clean
          k.checked.few k.is_type,
    )
content_kept s n o (syntax.Reference m) f e few = (reference s m, refl, reference_kept s m e)

pub attributes_kept : (s : Scope) (as_ : Attributes) → IsFaultless s → attributes_faults s as_ ≡ []
    → attributes_names as_ ≤ 4194304 → AreAttributes s as_ (attributes s as_)
attributes_kept s no_attributes f e few = refl
attributes_kept s (and_attribute (an_attribute n o c) as_) f e few =
    let here : List Fault = attribute_faults s (an_attribute n o c) in (
      content_form s n.text o c,
      attributes s as_,
      refl,
      content_kept s n o c f (none_before here (attributes_faults s as_) e) (omega (arith, few)),
      attributes_kept s as_ f (none_behind here (attributes_faults s as_) e) (omega (arith, few)),
    )
