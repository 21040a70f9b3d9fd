-- A model that is written stands for one resolved model at most.
use Rattle.std.proofs.Common.{◌≡◌, ℕ, Bool, List, ap, sym, ◌∙◌, subst}
use Rattle.ili_grammar.specs.Syntax as syntax
use Rattle.ili_grammar.specs.Syntax.{Ident, TypeSyntax, Named, LineHead, LineSyntax, a_line}
use Rattle.ili_grammar.specs.Syntax.{Attributes, no_attributes, and_attribute, an_attribute}
use Rattle.ili_grammar.specs.Syntax.{Content, DomainSyntax, TableSyntax, TopicSyntax, ModelSyntax}
use Rattle.resolver.specs.declared.shape.Shape.{Shape}
use Rattle.resolver.specs.declared.shape.Shape.TheVariants as shapes
use Rattle.resolver.specs.Resolved as resolved
use Rattle.resolver.specs.Resolved.{Form, LineForm, LinePart, AttributeForm, ModelTable, Topic}
use Rattle.resolver.specs.Resolved.{ResolvedModel}
use Rattle.resolver.specs.Numbers.{scale_of}
use Rattle.resolver.specs.Scopes.{Scope, Meaning, everywhere, inside}
use Rattle.resolver.specs.Standing.{IsForm, IsValue, HasForm, IsLine, AreValues, IsPart, IsTypeForm}
use Rattle.resolver.specs.Standing.{IsContent, AreAttributes, IsTable, IsTopic, IsModel}
use Rattle.resolver.proofs.TextLemmas.OneStanding.{one_meaning, one_form, one_reference, one_zip}
use Rattle.resolver.proofs.TextLemmas.OneStanding.{one_idents}
use Rattle.resolver.proofs.TextLemmas.OneStanding.{one_window, one_overlap}

-- ---- lines
one_value : (s : Scope) (c : Content) (f g : Form) → IsValue s c f → IsValue s c g → f ≡ g
one_value s (syntax.Value t) f g a b =
    let m : b.0 ≡ a.0 = one_meaning b.0 a.0 s t b.1 a.1 in
    one_form a.0.kind f g a.2 (subst (λ (k : Meaning). IsForm k.kind g) m b.2)
one_value s (syntax.Reference n) f g a b = one_reference s n f g a b

one_head : (shape : Shape) (name : List ℕ) (optional : Bool) (head : LineHead) (kind : TypeSyntax)
    (f g : LineForm)
    → HasForm shape name optional head kind f → HasForm shape name optional head kind g → f ≡ g
one_head shape name optional head kind f g a b =
    let w = one_window kind f.window g.window f.height g.height a.vertices b.vertices in
    let o : f.overlap ≡ g.overlap = one_overlap
    (scale_of kind) head.overlap f.overlap g.overlap a.overlap b.overlap in
    let n : f.name ≡ g.name = a.name_is ∙ sym b.name_is in
    let p : f.optional ≡ g.optional = a.optional_is ∙ sym b.optional_is in
    let r : f.arcs ≡ g.arcs = a.arcs ∙ sym b.arcs in
    λ z. record {
      name = n z;
      optional = p z;
      arcs = r z;
      window = w.0 z;
      height = w.1 z;
      overlap = o z;
    }

one_line : (shape : Shape) (name : List ℕ) (optional : Bool) (s : Scope) (l : LineSyntax)
    (f g : LineForm)
    → IsLine shape name optional s l f → IsLine shape name optional s l g → f ≡ g
one_line shape name optional s (a_line head as_ lists) f g a b =
    let m : b.0 ≡ a.0 = one_meaning b.0 a.0 s (Named head.vertex) b.1 a.1 in
    one_head shape name optional head a.0.kind f g a.2
    (subst (λ (k : Meaning). HasForm shape name optional head k.kind g) m b.2)

one_values : (s : Scope) (as_ : Attributes) (fs gs : resolved.Attributes) → AreValues s as_ fs
    → AreValues s as_ gs → fs ≡ gs
one_values s no_attributes fs gs a b = a ∙ sym b
one_values s (and_attribute (an_attribute n o c) as_) fs gs a b =
    let v : a.0 ≡ b.0 = one_value s c a.0 b.0 a.3 b.3 in
    let rest : a.1 ≡ b.1 = one_values s as_ a.1 b.1 a.4 b.4 in
    a.2 ∙ ap (λ (f : Form). resolved.and_attribute
    (resolved.an_attribute n.text o (resolved.Value f)) a.1) v
    ∙ ap (λ (r : resolved.Attributes). resolved.and_attribute
    (resolved.an_attribute n.text o (resolved.Value b.0)) r) rest ∙ sym b.2

one_part : (s : Scope) (l : LineSyntax) (p q : LinePart) → IsPart s l p → IsPart s l q → p ≡ q
one_part s (a_line head as_ lists) p q a b =
    let own : a.0 ≡ b.0 = one_values s as_ a.0 b.0 a.3 b.3 in
    let lists_ : a.1 ≡ b.1 = one_idents as_ lists a.1 b.1 a.4 b.4 in
    a.2 ∙ ap (λ (r : resolved.Attributes). resolved.a_part r a.1) own
    ∙ ap (λ (l : List (List ℕ)). resolved.a_part b.0 l) lists_ ∙ sym b.2

-- ---- attributes of tables
plain : (t : TypeSyntax) (f g : AttributeForm) → (v : Form) × (f ≡ resolved.Value v) × IsForm t v
    → (v : Form) × (g ≡ resolved.Value v) × IsForm t v → f ≡ g
plain t f g a b = a.1 ∙ ap (λ (v : Form). resolved.Value v) (one_form t a.0 b.0 a.2 b.2) ∙ sym b.1

one_type : (name : List ℕ) (optional : Bool) (s : Scope) (t : TypeSyntax) (f g : AttributeForm)
    → IsTypeForm name optional s t f → IsTypeForm name optional s t g → f ≡ g
one_type name optional s (syntax.Polyline l) f g a b =
    a.1 ∙ ap (λ (h : LineForm). resolved.Polyline h)
    (one_line shapes.Polyline name optional s l a.0 b.0 a.2 b.2) ∙ sym b.1
one_type name optional s (syntax.Surface l) f g a b =
    a.2 ∙ ap (λ (h : LineForm). resolved.Surface h a.1)
    (one_line shapes.Surface name optional s l a.0 b.0 a.3 b.3)
    ∙ ap (λ (p : LinePart). resolved.Surface b.0 p) (one_part s l a.1 b.1 a.4 b.4) ∙ sym b.2
one_type name optional s (syntax.Area l) f g a b =
    a.2 ∙ ap (λ (h : LineForm). resolved.Area h a.1)
    (one_line shapes.Area name optional s l a.0 b.0 a.3 b.3)
    ∙ ap (λ (p : LinePart). resolved.Area b.0 p) (one_part s l a.1 b.1 a.4 b.4) ∙ sym b.2
one_type name optional s (syntax.Named n) f g a b = plain (syntax.Named n) f g a b
one_type name optional s (syntax.Coord2 c) f g a b = plain (syntax.Coord2 c) f g a b
one_type name optional s (syntax.Coord3 c) f g a b = plain (syntax.Coord3 c) f g a b
one_type name optional s (syntax.Dim1 p) f g a b = plain (syntax.Dim1 p) f g a b
one_type name optional s (syntax.Dim2 p) f g a b = plain (syntax.Dim2 p) f g a b
one_type name optional s (syntax.Radians p) f g a b = plain (syntax.Radians p) f g a b
one_type name optional s (syntax.Grads p) f g a b = plain (syntax.Grads p) f g a b
one_type name optional s (syntax.Degrees p) f g a b = plain (syntax.Degrees p) f g a b
one_type name optional s (syntax.Range p) f g a b = plain (syntax.Range p) f g a b
one_type name optional s (syntax.Text d) f g a b = plain (syntax.Text d) f g a b
one_type name optional s syntax.Date f g a b = plain syntax.Date f g a b
one_type name optional s syntax.HAlignment f g a b = plain syntax.HAlignment f g a b
one_type name optional s syntax.VAlignment f g a b = plain syntax.VAlignment f g a b
one_type name optional s (syntax.Enumeration es) f g a b = plain (syntax.Enumeration es) f g a b

one_content : (name : List ℕ) (optional : Bool) (s : Scope) (c : Content) (f g : AttributeForm)
    → IsContent name optional s c f → IsContent name optional s c g → f ≡ g
one_content name optional s (syntax.Value t) f g a b =
    let m : b.0 ≡ a.0 = one_meaning b.0 a.0 s t b.1 a.1 in
    one_type name optional a.0.scope a.0.kind f g a.2
    (subst (λ (k : Meaning). IsTypeForm name optional k.scope k.kind g) m b.2)
one_content name optional s (syntax.Reference n) f g a b =
    a.1 ∙ ap (λ (v : Form). resolved.Value v) (one_reference s n a.0 b.0 a.2 b.2) ∙ sym b.1

one_attributes : (s : Scope) (as_ : Attributes) (fs gs : resolved.Attributes)
    → AreAttributes s as_ fs → AreAttributes s as_ gs → fs ≡ gs
one_attributes s no_attributes fs gs a b = a ∙ sym b
one_attributes s (and_attribute (an_attribute n o c) as_) fs gs a b =
    let v : a.0 ≡ b.0 = one_content n.text o s c a.0 b.0 a.3 b.3 in
    let rest : a.1 ≡ b.1 = one_attributes s as_ a.1 b.1 a.4 b.4 in
    a.2 ∙ ap (λ (f : AttributeForm). resolved.and_attribute (resolved.an_attribute n.text o f) a.1)
    v
    ∙ ap (λ (r : resolved.Attributes). resolved.and_attribute
    (resolved.an_attribute n.text o b.0) r) rest ∙ sym b.2

-- ---- what holds attributes
one_table : (s : Scope) (t : TableSyntax) (a b : ModelTable) → IsTable s t a → IsTable s t b → a ≡ b
one_table s t a b f g =
    let name : a.name ≡ b.name = f.name ∙ sym g.name in
    let own : a.attributes ≡ b.attributes = one_attributes s t.attributes a.attributes b.attributes
    f.attributes g.attributes in
    let lists : a.idents ≡ b.idents = one_idents t.attributes t.idents a.idents b.idents f.idents
    g.idents in
    λ z. record { name = name z; attributes = own z; idents = lists z }

one_topic : (above : List DomainSyntax) (t : TopicSyntax) (a b : Topic) → IsTopic above t a
    → IsTopic above t b → a ≡ b
one_topic above t a b f g =
    let name : a.name ≡ b.name = f.name ∙ sym g.name in
    let tables : a.tables ≡ b.tables = one_zip (IsTable (inside above t))
    (one_table (inside above t)) t.tables a.tables b.tables f.tables g.tables in
    λ z. record { name = name z; tables = tables z }

pub one_model : (m : ModelSyntax) (a b : ResolvedModel) → IsModel m a → IsModel m b → a ≡ b
one_model m a b f g =
    let name : a.name ≡ b.name = f.name ∙ sym g.name in
    let codes : a.codes ≡ b.codes = f.codes ∙ sym g.codes in
    let topics : a.topics ≡ b.topics = one_zip (IsTopic (everywhere m))
    (one_topic (everywhere m)) m.topics a.topics b.topics f.topics g.topics in
    λ z. record { name = name z; codes = codes z; topics = topics z }
