-- A rule is read, where its parts were.
use Rattle.std.proofs.Common.{◌≡◌, ℕ, suc, List, [], ◌∷◌, ◌++◌, Bool, true, false, cond, ◌||◌, not}
use Rattle.std.proofs.Common.{Option, Some, refl, sym, ap, ◌∙◌, subst, append_assoc, append-nil}
use Rattle.std.proofs.Common.{MatchBool}
use Rattle.ili_grammar.specs.Values.{attributes_in}
use Rattle.ili_grammar.specs.Tokens.{Kind, Tok, tok, name, explanation, comma, semicolon, colon}
use Rattle.ili_grammar.specs.Tokens.{equals, left_paren, right_paren, greater, arrow, left_bracket}
use Rattle.ili_grammar.specs.Tokens.{word, NO, IDENT, BASE, WITHOUT, OVERLAPS, WITH, VERTEX}
use Rattle.ili_grammar.specs.Tokens.{STRAIGHTS, ARCS, LINEATTR, END, OPTIONAL, DATE, HALIGNMENT}
use Rattle.ili_grammar.specs.Tokens.{VALIGNMENT, POLYLINE, SURFACE, AREA, TEXT, COORD2, COORD3}
use Rattle.ili_grammar.specs.Tokens.{DIM1, DIM2, RADIANS, GRADS, DEGREES}
use Rattle.ili_grammar.specs.Syntax.{Ident, Decimal, Span, Corners2, Corners3, Elements, LineHead}
use Rattle.ili_grammar.specs.Syntax.{TypeSyntax, Named, Coord2, Coord3, Dim1, Dim2, Radians, Grads}
use Rattle.ili_grammar.specs.Syntax.{Degrees, Range, Text, Date, HAlignment, VAlignment}
use Rattle.ili_grammar.specs.Syntax.{Enumeration, Polyline, Surface, Area, LineSyntax, a_line}
use Rattle.ili_grammar.specs.Syntax.{Attributes, no_attributes, and_attribute, AttributeSyntax}
use Rattle.ili_grammar.specs.Syntax.{an_attribute, Content, Value, Reference}
use Rattle.ili_grammar.specs.Numbers.{ident, decimal}
use Rattle.ili_grammar.specs.Types.{span, IsList, one_name, more_names, IsLists, no_list}
use Rattle.ili_grammar.specs.Types.{more_lists, IsIdents, no_ident, idents, IsMaybeIdents, IsForms}
use Rattle.ili_grammar.specs.Types.{last_straights, last_arcs, straights, arcs, IsBase, base}
use Rattle.ili_grammar.specs.Types.{IsOverlap, overlap, IsLine, line, IsElements, IsEnumeration}
use Rattle.ili_grammar.specs.Types.{enumeration, IsExplained, explained, IsType, named, coord2}
use Rattle.ili_grammar.specs.Types.{coord3, dim1, dim2, radians, grads, degrees, range, text, date}
use Rattle.ili_grammar.specs.Types.{halignment, valignment, of_elements, polyline, surface, area}
use Rattle.ili_grammar.specs.Types.{IsLineAttributes, no_line_attributes, line_attributes}
use Rattle.ili_grammar.specs.Types.{IsAttributes, no_attribute, more_attributes, IsAttribute}
use Rattle.ili_grammar.specs.Types.{mandatory, optional, IsContent, value, reference}
use Rattle.ili_grammar.specs.Steps.{rest, Leads, LeadsName, LeadsNumber}
use Rattle.ili_grammar.specs.declared.source.Source.{Source}
use Rattle.ili_grammar.specs.Parts.{ReadsSpan, ReadsRange, ReadsLength, ReadsCorners2}
use Rattle.ili_grammar.specs.Parts.{ReadsCorners3, ReadsLine, ReadsEndedList, ReadsLists}

pub explained_read : (w v : List Tok) → Leads explanation w v → IsExplained w v
explained_read w v (i, e) = subst (λ (w : List Tok). IsExplained w v) (sym e) (explained i v)

pub base_read : (w u v : List Tok) → Leads (word BASE) w u → Leads explanation u v → IsBase w v
base_read w u v (i, e) (j, f) =
    subst (λ (w : List Tok). IsBase w v) (sym (e ∙ ap (λ (z : List Tok). tok (word BASE) i ∷ z) f))
    (base i j v)

pub overlap_read : (w u x y v : List Tok) (d : Decimal) → Leads (word WITHOUT) w u
    → Leads (word OVERLAPS) u x → Leads greater x y → LeadsNumber d y v → IsOverlap (Some d) w v
overlap_read w u x y v d (i, e) (j, f) (k, g) (n, h, q) =
    let all = e ∙ ap (λ (z : List Tok). tok (word WITHOUT) i ∷ z) (f
    ∙ ap (λ (z : List Tok). tok (word OVERLAPS) j ∷ z) (g
    ∙ ap (λ (z : List Tok). tok greater k ∷ z) h)) in
    subst (λ (d : Decimal). IsOverlap (Some d) w v) (sym q)
    (subst (λ (w : List Tok). IsOverlap (Some (decimal n)) w v) (sym all) (overlap i j k n v))

pub line_read : (w a b c d e f v : List Tok) (s t : Bool) (n : Ident) (o : Option Decimal)
    → Leads (word WITH) w a → Leads left_paren a b → IsForms s t b c → Leads (word VERTEX) c d
    → LeadsName n d e → IsBase e f → IsOverlap o f v
    → IsLine (record { straights = s; arcs = t; vertex = n; overlap = o }) w v
line_read w a b c d e f v s t n o (i, p) (j, q) x (k, r) (m, y, z) g h =
    let front = p ∙ ap (λ (z : List Tok). tok (word WITH) i ∷ z) q in
    let back = r ∙ ap (λ (z : List Tok). tok (word VERTEX) k ∷ z) y in
    subst (λ (n : Ident). IsLine (record { straights = s; arcs = t; vertex = n; overlap = o }) w v)
    (sym z)
    (subst (λ (w : List Tok). IsLine (record {
      straights = s;
      arcs = t;
      vertex = ident m;
      overlap = o;
    }) w v) (sym front)
    (line i j k m s t o b e f v (subst (λ (c : List Tok). IsForms s t b c) back x) g h))

-- ---- forms
-- the forms of the second list are, with those so far, the forms of the first
abbrev pub FormsFrom : Bool → Bool → List Tok → List Tok → Type 0
FormsFrom s t w v = (a b : Bool) (r : List Tok) → IsForms a b v r → IsForms (s || a) (t || b) w r

abbrev pub form_kind : Bool → Kind
form_kind b = cond b (word ARCS) (word STRAIGHTS)

last_form : (b : Bool) (w u v : List Tok) → Leads (form_kind b) w u → Leads right_paren u v
    → IsForms (not b) b w v
last_form true w u v (i, e) (j, f) =
    subst (λ (w : List Tok). IsForms false true w v)
    (sym (e ∙ ap (λ (z : List Tok). tok (word ARCS) i ∷ z) f)) (last_arcs i j v)
last_form false w u v (i, e) (j, f) =
    subst (λ (w : List Tok). IsForms true false w v)
    (sym (e ∙ ap (λ (z : List Tok). tok (word STRAIGHTS) i ∷ z) f)) (last_straights i j v)

first_form : (b : Bool) (w u v r : List Tok) (s t : Bool) → Leads (form_kind b) w u
    → Leads comma u v → IsForms s t v r → IsForms (not b || s) (b || t) w r
first_form true w u v r s t (i, e) (j, f) x =
    subst (λ (w : List Tok). IsForms s true w r)
    (sym (e ∙ ap (λ (z : List Tok). tok (word ARCS) i ∷ z) f)) (arcs i j s t v r x)
first_form false w u v r s t (i, e) (j, f) x =
    subst (λ (w : List Tok). IsForms true t w r)
    (sym (e ∙ ap (λ (z : List Tok). tok (word STRAIGHTS) i ∷ z) f)) (straights i j s t v r x)

or_assoc : (a b c : Bool) → (a || b) || c ≡ a || (b || c)
or_assoc true b c = refl
or_assoc false b c = refl

pub forms_start : (w : List Tok) → FormsFrom false false w w
forms_start w a b r x = x

pub forms_on : (s t b : Bool) (w x u v : List Tok) → FormsFrom s t w x → Leads (form_kind b) x u
    → Leads comma u v → FormsFrom (s || not b) (t || b) w v
forms_on s t b w x u v h f g c d r y =
    subst (λ (z : Bool). IsForms z ((t || b) || d) w r) (sym (or_assoc s (not b) c))
    (subst (λ (z : Bool). IsForms (s || (not b || c)) z w r) (sym (or_assoc t b d))
    (h (not b || c) (b || d) r (first_form b x u v r c d f g y)))

pub forms_end : (s t b : Bool) (w x u v : List Tok) → FormsFrom s t w x → Leads (form_kind b) x u
    → Leads right_paren u v → IsForms (s || not b) (t || b) w v
forms_end s t b w x u v h f g = h (not b) b v (last_form b x u v f g)

-- ---- IDENT lists
abbrev pub NamesFrom : List Ident → List Tok → List Tok → Type 0
NamesFrom ns w v = (l : List Ident) (r : List Tok) → IsList l v r → IsList (ns ++ l) w r

pub names_start : (w : List Tok) → NamesFrom [] w w
names_start w l r x = x

pub names_on : (ns ms : List Ident) (n : Ident) (w x u v : List Tok) → ms ≡ ns ++ n ∷ []
    → NamesFrom ns w x → LeadsName n x u → Leads comma u v → NamesFrom ms w v
names_on ns ms n w x u v q h (i, e, p) (j, f) l r y =
    let z : IsList (ident i ∷ l) x r = subst (λ (x : List Tok). IsList (ident i ∷ l) x r)
    (sym (e ∙ ap (λ (z : List Tok). tok name i ∷ z) f)) (more_names i j l v r y) in
    let same : ms ++ l ≡ ns ++ (ident i ∷ l) = ap (λ (z : List Ident). z ++ l) q
    ∙ append_assoc ns (n ∷ []) l ∙ ap (λ (n : Ident). ns ++ n ∷ l) p in
    subst (λ (z : List Ident). IsList z w r) (sym same) (h (ident i ∷ l) r z)

pub names_end : (ns ms : List Ident) (n : Ident) (w x v : List Tok) → ms ≡ ns ++ n ∷ []
    → NamesFrom ns w x → LeadsName n x v → IsList ms w v
names_end ns ms n w x v q h (i, e, p) =
    let z : IsList (ident i ∷ []) x v = subst (λ (x : List Tok). IsList (ident i ∷ []) x v) (sym e)
    (one_name i v) in
    subst (λ (z : List Ident). IsList z w v) (sym (q ∙ ap (λ (n : Ident). ns ++ n ∷ []) p))
    (h (ident i ∷ []) v z)

abbrev pub ListsFrom : List (List Ident) → List Tok → List Tok → Type 0
ListsFrom ls w v = (m : List (List Ident)) (r : List Tok) → IsLists m v r → ReadsLists (ls ++ m) w r

pub lists_first : (ls : List (List Ident)) (l : List Ident) (w v : List Tok) → ls ≡ l ∷ []
    → ReadsEndedList l w v → ListsFrom ls w v
lists_first ls l w v q x m r y = (l, m, v, ap (λ (z : List (List Ident)). z ++ m) q, x, y)

pub lists_on : (ls ms : List (List Ident)) (l : List Ident) (w x v : List Tok) → ms ≡ ls ++ l ∷ []
    → ListsFrom ls w x → ReadsEndedList l x v → ListsFrom ms w v
lists_on ls ms l w x v q h (i, u, y, e) m r z =
    let same : ms ++ m ≡ ls ++ (l ∷ m) = ap (λ (z : List (List Ident)). z ++ m) q
    ∙ append_assoc ls (l ∷ []) m in
    subst (λ (z : List (List Ident)). ReadsLists z w r) (sym same)
    (h (l ∷ m) r (more_lists i l m x v r (subst (λ (u : List Tok). IsList l x u) e y) z))

pub lists_end : (ls : List (List Ident)) (w v : List Tok) → ListsFrom ls w v → ReadsLists ls w v
lists_end ls w v h =
    subst (λ (z : List (List Ident)). ReadsLists z w v) (append-nil ls) (h [] v (no_list v))

pub no_idents_read : (w u v : List Tok) → Leads (word NO) w u → Leads (word IDENT) u v
    → IsIdents [] w v
no_idents_read w u v (i, e) (j, f) =
    subst (λ (w : List Tok). IsIdents [] w v)
    (sym (e ∙ ap (λ (z : List Tok). tok (word NO) i ∷ z) f)) (no_ident i j v)

pub idents_read : (ls : List (List Ident)) (w u v : List Tok) → Leads (word IDENT) w u
    → ReadsLists ls u v → IsIdents ls w v
idents_read ls w u v (i, e) (l, m, x, q, y, z) =
    subst (λ (ls : List (List Ident)). IsIdents ls w v) (sym q)
    (subst (λ (w : List Tok). IsIdents (l ∷ m) w v) (sym e)
    (idents i y.0 l m u x v (subst (λ (t : List Tok). IsList l u t) y.3 y.2) z))

-- ---- attributes
abbrev pub and_attributes : List AttributeSyntax → Attributes → Attributes
and_attributes [] as_ = as_
and_attributes (b ∷ bs) as_ = and_attribute b (and_attributes bs as_)

abbrev pub AttributesFrom : ℕ → List AttributeSyntax → List Tok → List Tok → Type 0
AttributesFrom d bs w v = (as_ : Attributes) (r : List Tok) → IsAttributes d as_ v r
    → IsAttributes d (and_attributes bs as_) w r

pub attributes_start : (d : ℕ) (w : List Tok) → AttributesFrom d [] w w
attributes_start d w as_ r x = x

one_more_attribute : (bs : List AttributeSyntax) (b : AttributeSyntax) (as_ : Attributes)
    → and_attributes (bs ++ b ∷ []) as_ ≡ and_attributes bs (and_attribute b as_)
one_more_attribute [] b as_ = refl
one_more_attribute (c ∷ bs) b as_ = ap (and_attribute c) (one_more_attribute bs b as_)

no_more_attributes : (bs : List AttributeSyntax)
    → and_attributes bs no_attributes ≡ attributes_in bs
no_more_attributes [] = refl
no_more_attributes (b ∷ bs) = ap (and_attribute b) (no_more_attributes bs)

pub attributes_on : (d : ℕ) (bs cs : List AttributeSyntax) (b : AttributeSyntax) (w x v : List Tok)
    → cs ≡ bs ++ b ∷ [] → AttributesFrom d bs w x → IsAttribute d b x v → AttributesFrom d cs w v
attributes_on d bs cs b w x v q h y as_ r z =
    subst (λ (cs : List AttributeSyntax). IsAttributes d (and_attributes cs as_) w r) (sym q)
    (subst (λ (t : Attributes). IsAttributes d t w r) (sym (one_more_attribute bs b as_))
    (h (and_attribute b as_) r (more_attributes d b as_ x v r y z)))

pub attributes_end : (d : ℕ) (bs : List AttributeSyntax) (w v : List Tok) → AttributesFrom d bs w v
    → IsAttributes d (attributes_in bs) w v
attributes_end d bs w v h =
    subst (λ (t : Attributes). IsAttributes d t w v) (no_more_attributes bs)
    (h no_attributes v (no_attribute d v))

pub attribute_read : (d : ℕ) (a : AttributeSyntax) (x : Ident) (o : Bool) (c : Content)
    (w b e f g v : List Tok)
    → a ≡ an_attribute x o c → LeadsName x w b → Leads colon b e
    → MatchBool o (Leads (word OPTIONAL) e f) (f ≡ e)
    → IsContent d c f g → (u : List Tok) → IsExplained g u → Leads semicolon u v
    → IsAttribute d a w v
attribute_read d a x true c w b e f g v p (i, q, y) (j, r) (k, s) z u t (m, n) =
    subst (λ (a : AttributeSyntax). IsAttribute d a w v)
    (sym (p ∙ ap (λ (x : Ident). an_attribute x true c) y))
    (subst (λ (w : List Tok). IsAttribute d (an_attribute (ident i) true c) w v)
    (sym (q ∙ ap (λ (z : List Tok). tok name i ∷ z) (r
    ∙ ap (λ (z : List Tok). tok colon j ∷ z) s)))
    (optional d i j k m c f g v z (subst (λ (u : List Tok). IsExplained g u) n t)))
attribute_read d a x false c w b e f g v p (i, q, y) (j, r) s z u t (m, n) =
    subst (λ (a : AttributeSyntax). IsAttribute d a w v)
    (sym (p ∙ ap (λ (x : Ident). an_attribute x false c) y))
    (subst (λ (w : List Tok). IsAttribute d (an_attribute (ident i) false c) w v)
    (sym (q ∙ ap (λ (z : List Tok). tok name i ∷ z) (r
    ∙ ap (λ (z : List Tok). tok colon j ∷ z) (sym s))))
    (mandatory d i j m c f g v z (subst (λ (u : List Tok). IsExplained g u) n t)))

pub reference_read : (d : ℕ) (c : Content) (x : Ident) (w u v : List Tok) → c ≡ Reference x
    → Leads arrow w u → LeadsName x u v → IsContent d c w v
reference_read d c x w u v p (i, e) (n, f, q) =
    subst (λ (c : Content). IsContent d c w v) (sym (p ∙ ap (λ (x : Ident). Reference x) q))
    (subst (λ (w : List Tok). IsContent d (Reference (ident n)) w v)
    (sym (e ∙ ap (λ (z : List Tok). tok arrow i ∷ z) f)) (reference d i n v))

pub value_read : (d : ℕ) (c : Content) (t : TypeSyntax) (w v : List Tok) → c ≡ Value t
    → IsType d t w v → IsContent d c w v
value_read d c t w v p x = subst (λ (c : Content). IsContent d c w v) (sym p) (value d t w v x)

-- ---- lines with attributes
pub bare_line_read : (d : ℕ) (x : LineSyntax) (l : LineHead) (w v : List Tok)
    → x ≡ a_line l no_attributes [] → IsLine l w v → ReadsLine d x w v
bare_line_read d x l w v p y = (l, no_attributes, [], v, p, y, no_line_attributes d v)

pub full_line_read : (d e : ℕ) (x : LineSyntax) (l : LineHead) (as_ : Attributes)
    (is : List (List Ident)) (w u a b c f v : List Tok)
    → d ≡ suc e → x ≡ a_line l as_ is → IsLine l w u → Leads (word LINEATTR) u a → Leads equals a b
    → IsAttributes e as_ b c → IsMaybeIdents is c f → Leads (word END) f v → ReadsLine d x w v
full_line_read d e x l as_ is w u a b c f v q p y (i, g) (j, h) z t (k, n) =
    let attributes : IsLineAttributes (suc e) as_ is u v =
    subst (λ (u : List Tok). IsLineAttributes (suc e) as_ is u v)
    (sym (g ∙ ap (λ (z : List Tok). tok (word LINEATTR) i ∷ z) h))
    (line_attributes e i j k as_ is b c v z
    (subst (λ (f : List Tok). IsMaybeIdents is c f) n t)) in
    (l, as_, is, u, p, y, subst (λ (d : ℕ). IsLineAttributes d as_ is u v) (sym q) attributes)

-- ---- types
pub named_read : (d : ℕ) (t : TypeSyntax) (x : Ident) (w v : List Tok) → t ≡ Named x
    → LeadsName x w v → IsType d t w v
named_read d t x w v p (i, e, q) =
    subst (λ (t : TypeSyntax). IsType d t w v) (sym (p ∙ ap (λ (x : Ident). Named x) q))
    (subst (λ (w : List Tok). IsType d (Named (ident i)) w v) (sym e) (named d i v))

pub range_read : (d : ℕ) (t : TypeSyntax) (x : Span) (w u v : List Tok) → t ≡ Range x
    → Leads left_bracket w u → ReadsRange x u v → IsType d t w v
range_read d t x w u v p (i, e) (a, m, b, n, f, q) =
    subst (λ (t : TypeSyntax). IsType d t w v) (sym (p ∙ ap (λ (x : Span). Range x) q))
    (subst (λ (w : List Tok). IsType d (Range (span a b)) w v)
    (sym (e ∙ ap (λ (z : List Tok). tok left_bracket i ∷ z) f)) (range d i a m b n v))

pub enumeration_read : (d e : ℕ) (t : TypeSyntax) (es : Elements) (w u v : List Tok) → d ≡ suc e
    → t ≡ Enumeration es → Leads left_paren w u → IsElements e es u v → IsType d t w v
enumeration_read d e t es w u v q p (i, f) x =
    subst (λ (t : TypeSyntax). IsType d t w v) (sym p)
    (of_elements d es w v
    (subst (λ (d : ℕ). IsEnumeration d es w v) (sym q)
    (subst (λ (w : List Tok). IsEnumeration (suc e) es w v) (sym f)
    (enumeration e i es u v x))))

pub text_read : (d : ℕ) (t : TypeSyntax) (x : Decimal) (w u v : List Tok) → t ≡ Text x
    → Leads (word TEXT) w u → ReadsLength x u v → IsType d t w v
text_read d t x w u v p (i, e) (s, a, f, q) =
    subst (λ (t : TypeSyntax). IsType d t w v) (sym (p ∙ ap (λ (x : Decimal). Text x) q))
    (subst (λ (w : List Tok). IsType d (Text (decimal a)) w v)
    (sym (e ∙ ap (λ (z : List Tok). tok (word TEXT) i ∷ z) f)) (text d i s a v))

pub coord2_read : (d : ℕ) (t : TypeSyntax) (x : Corners2) (w u v : List Tok) → t ≡ Coord2 x
    → Leads (word COORD2) w u → ReadsCorners2 x u v → IsType d t w v
coord2_read d t x w u v p (i, e) (a, b, g, h, f, q) =
    subst (λ (t : TypeSyntax). IsType d t w v) (sym (p ∙ ap (λ (x : Corners2). Coord2 x) q))
    (subst (λ (w : List Tok). IsType d (Coord2 (record { x = span a g; y = span b h })) w v)
    (sym (e ∙ ap (λ (z : List Tok). tok (word COORD2) i ∷ z) f)) (coord2 d i a b g h v))

pub coord3_read : (d : ℕ) (t : TypeSyntax) (x : Corners3) (w u v : List Tok) → t ≡ Coord3 x
    → Leads (word COORD3) w u → ReadsCorners3 x u v → IsType d t w v
coord3_read d t x w u v p (i, e) (a, b, c, g, h, j, f, q) =
    subst (λ (t : TypeSyntax). IsType d t w v) (sym (p ∙ ap (λ (x : Corners3). Coord3 x) q))
    (subst (λ (w : List Tok). IsType d
    (Coord3 (record { x = span a g; y = span b h; z = span c j })) w v)
    (sym (e ∙ ap (λ (z : List Tok). tok (word COORD3) i ∷ z) f)) (coord3 d i a b c g h j v))

pub dim1_read : (d : ℕ) (t : TypeSyntax) (x : Span) (w u v : List Tok) → t ≡ Dim1 x
    → Leads (word DIM1) w u → ReadsSpan x u v → IsType d t w v
dim1_read d t x w u v p (i, e) (a, b, f, q) =
    subst (λ (t : TypeSyntax). IsType d t w v) (sym (p ∙ ap (λ (x : Span). Dim1 x) q))
    (subst (λ (w : List Tok). IsType d (Dim1 (span a b)) w v)
    (sym (e ∙ ap (λ (z : List Tok). tok (word DIM1) i ∷ z) f)) (dim1 d i a b v))

pub dim2_read : (d : ℕ) (t : TypeSyntax) (x : Span) (w u v : List Tok) → t ≡ Dim2 x
    → Leads (word DIM2) w u → ReadsSpan x u v → IsType d t w v
dim2_read d t x w u v p (i, e) (a, b, f, q) =
    subst (λ (t : TypeSyntax). IsType d t w v) (sym (p ∙ ap (λ (x : Span). Dim2 x) q))
    (subst (λ (w : List Tok). IsType d (Dim2 (span a b)) w v)
    (sym (e ∙ ap (λ (z : List Tok). tok (word DIM2) i ∷ z) f)) (dim2 d i a b v))

pub radians_read : (d : ℕ) (t : TypeSyntax) (x : Span) (w u v : List Tok) → t ≡ Radians x
    → Leads (word RADIANS) w u → ReadsSpan x u v → IsType d t w v
radians_read d t x w u v p (i, e) (a, b, f, q) =
    subst (λ (t : TypeSyntax). IsType d t w v) (sym (p ∙ ap (λ (x : Span). Radians x) q))
    (subst (λ (w : List Tok). IsType d (Radians (span a b)) w v)
    (sym (e ∙ ap (λ (z : List Tok). tok (word RADIANS) i ∷ z) f)) (radians d i a b v))

pub grads_read : (d : ℕ) (t : TypeSyntax) (x : Span) (w u v : List Tok) → t ≡ Grads x
    → Leads (word GRADS) w u → ReadsSpan x u v → IsType d t w v
grads_read d t x w u v p (i, e) (a, b, f, q) =
    subst (λ (t : TypeSyntax). IsType d t w v) (sym (p ∙ ap (λ (x : Span). Grads x) q))
    (subst (λ (w : List Tok). IsType d (Grads (span a b)) w v)
    (sym (e ∙ ap (λ (z : List Tok). tok (word GRADS) i ∷ z) f)) (grads d i a b v))

pub degrees_read : (d : ℕ) (t : TypeSyntax) (x : Span) (w u v : List Tok) → t ≡ Degrees x
    → Leads (word DEGREES) w u → ReadsSpan x u v → IsType d t w v
degrees_read d t x w u v p (i, e) (a, b, f, q) =
    subst (λ (t : TypeSyntax). IsType d t w v) (sym (p ∙ ap (λ (x : Span). Degrees x) q))
    (subst (λ (w : List Tok). IsType d (Degrees (span a b)) w v)
    (sym (e ∙ ap (λ (z : List Tok). tok (word DEGREES) i ∷ z) f)) (degrees d i a b v))

pub date_read : (d : ℕ) (t : TypeSyntax) (w v : List Tok) → t ≡ Date → Leads (word DATE) w v
    → IsType d t w v
date_read d t w v p (i, e) =
    subst (λ (t : TypeSyntax). IsType d t w v) (sym p)
    (subst (λ (w : List Tok). IsType d Date w v) (sym e) (date d i v))

pub halignment_read : (d : ℕ) (t : TypeSyntax) (w v : List Tok) → t ≡ HAlignment
    → Leads (word HALIGNMENT) w v → IsType d t w v
halignment_read d t w v p (i, e) =
    subst (λ (t : TypeSyntax). IsType d t w v) (sym p)
    (subst (λ (w : List Tok). IsType d HAlignment w v) (sym e) (halignment d i v))

pub valignment_read : (d : ℕ) (t : TypeSyntax) (w v : List Tok) → t ≡ VAlignment
    → Leads (word VALIGNMENT) w v → IsType d t w v
valignment_read d t w v p (i, e) =
    subst (λ (t : TypeSyntax). IsType d t w v) (sym p)
    (subst (λ (w : List Tok). IsType d VAlignment w v) (sym e) (valignment d i v))

pub polyline_read : (d : ℕ) (t : TypeSyntax) (x : LineSyntax) (l : LineHead) (w u v : List Tok)
    → t ≡ Polyline x → x ≡ a_line l no_attributes [] → Leads (word POLYLINE) w u → IsLine l u v
    → IsType d t w v
polyline_read d t x l w u v p q (i, e) y =
    subst (λ (t : TypeSyntax). IsType d t w v) (sym (p ∙ ap (λ (x : LineSyntax). Polyline x) q))
    (subst (λ (w : List Tok). IsType d (Polyline (a_line l no_attributes [])) w v) (sym e)
    (polyline d i l u v y))

pub surface_read : (d : ℕ) (t : TypeSyntax) (x : LineSyntax) (w u v : List Tok) → t ≡ Surface x
    → Leads (word SURFACE) w u → ReadsLine d x u v → IsType d t w v
surface_read d t x w u v p (i, e) (l, as_, is, m, q, y, z) =
    subst (λ (t : TypeSyntax). IsType d t w v) (sym (p ∙ ap (λ (x : LineSyntax). Surface x) q))
    (subst (λ (w : List Tok). IsType d (Surface (a_line l as_ is)) w v) (sym e)
    (surface d i l as_ is u m v y z))

pub area_read : (d : ℕ) (t : TypeSyntax) (x : LineSyntax) (w u v : List Tok) → t ≡ Area x
    → Leads (word AREA) w u → ReadsLine d x u v → IsType d t w v
area_read d t x w u v p (i, e) (l, as_, is, m, q, y, z) =
    subst (λ (t : TypeSyntax). IsType d t w v) (sym (p ∙ ap (λ (x : LineSyntax). Area x) q))
    (subst (λ (w : List Tok). IsType d (Area (a_line l as_ is)) w v) (sym e)
    (area d i l as_ is u m v y z))

-- ---- OPTIONAL, where it stands or not
pub optional_at : (s : Source) (b : Bool) (from upto : ℕ)
    → MatchBool b (Leads (word OPTIONAL) (rest s from) (rest s upto)) (upto ≡ from)
    → MatchBool b (Leads (word OPTIONAL) (rest s from) (rest s upto)) (rest s upto ≡ rest s from)
optional_at s true from upto h = h
optional_at s false from upto h = ap (rest s) h
