-- What is written stands for one thing at most: names, numbers and types.
use Rattle.std.proofs.Common.{◌≡◌, ℕ, true, false, ℤ, unsigned_abs, List, [], ◌∷◌, slice_get}
use Rattle.std.proofs.Common.{Option, Some, None, refl, ap, sym, ◌∙◌, subst, true≢false}
use Rattle.std.specs.List.{AllZip}
use Rattle.std.specs.Option.{is_some, unwrap_or}
use Rattle.ili_grammar.specs.Syntax as syntax
use Rattle.ili_grammar.specs.Syntax.{Ident, Decimal, Span, TypeSyntax, DomainSyntax, Attributes}
use Rattle.resolver.specs.Resolved as resolved
use Rattle.resolver.specs.Resolved.{Limits, Window, Block, Form}
use Rattle.resolver.specs.Numbers.{scale_of}
use Rattle.resolver.specs.Scopes.{Scope, Meaning, is_among, place, texts, names_of, name_alone}
use Rattle.resolver.specs.Scopes.{outside}
use Rattle.resolver.specs.Rules.{attribute_names}
use Rattle.resolver.specs.Standing.{StandsFor, as_written, as_outside, as_declared, AreLimits}
use Rattle.resolver.specs.Standing.{IsLength, IsNumber, IsForm, IsReference, AreIdents, AreVertices}
use Rattle.resolver.specs.Standing.{IsOverlap}

pub one_some : {X : Type 0} (o : Option X) (x y : X) → o ≡ Some x → o ≡ Some y → x ≡ y
one_some {X} o x y a b = ap (λ (p : Option X). unwrap_or p x) (sym a ∙ b)

pub none_or_some : {X : Type 0} (o : Option X) (x : X) → o ≡ None → o ≡ Some x → ⊥
none_or_some {X} o x a b = true≢false (sym (ap (λ (p : Option X). is_some p) (sym a ∙ b)))

none_by_two : (s : Scope) (t : TypeSyntax) (n k : Ident) → name_alone t ≡ Some n
    → name_alone t ≡ Some k → is_among n.text (names_of s.above) ≡ true
    → is_among k.text (names_of s.above) ≡ false → ⊥
none_by_two s t n k p q a b =
    true≢false (sym a
    ∙ ap (λ (m : Ident). is_among m.text (names_of s.above)) (one_some (name_alone t) n k p q) ∙ b)

pub one_meaning : (m n : Meaning) (s : Scope) (t : TypeSyntax) → StandsFor m s t → StandsFor n s t
    → m ≡ n
one_meaning m n _ _ (as_written s t q e) (as_written _ _ p f) = e ∙ sym f
one_meaning m n _ _ (as_written s t q e) (as_outside _ _ k p a h) =
    absurd (none_or_some (name_alone t) k q p)
one_meaning m n _ _ (as_written s t q e) (as_declared _ _ k i d p out at here h) =
    absurd (none_or_some (name_alone t) k q p)
one_meaning m n _ _ (as_outside s t k q a g) (as_written _ _ p f) =
    absurd (none_or_some (name_alone t) k p q)
one_meaning m n _ _ (as_outside s t k q a g) (as_outside _ _ l p b h) =
    one_meaning m n (outside s.above) t g h
one_meaning m n _ _ (as_outside s t k q a g) (as_declared _ _ l i d p out at here h) =
    absurd (none_by_two s t k l q p a out)
one_meaning m n _ _ (as_declared s t k i d q out at here g) (as_written _ _ p f) =
    absurd (none_or_some (name_alone t) k p q)
one_meaning m n _ _ (as_declared s t k i d q out at here g) (as_outside _ _ l p a h) =
    absurd (none_by_two s t l k p q a out)
one_meaning m n _ _ (as_declared s t k i d q out at here g)
    (as_declared _ _ l j e p out2 at2 here2 h) =
    let name : k ≡ l = one_some (name_alone t) k l q p in
    let same_place : i ≡ j = one_some (place k.text (names_of s.own)) i j at
    (ap (λ (x : Ident). place x.text (names_of s.own)) name ∙ at2) in
    let domain : d ≡ e = one_some (slice_get s.own i) d e here
    (ap (λ (x : ℕ). slice_get s.own x) same_place ∙ here2) in
    one_meaning m n s d.kind g (subst (λ (x : DomainSyntax). StandsFor n s x.kind) (sym domain) h)

-- ---- numbers
pub one_limits : (scale : ℕ) (s : Span) (a b : Limits) → AreLimits scale s a → AreLimits scale s b
    → a ≡ b
one_limits scale s a b f g =
    let low : a.low ≡ b.low = f.low.value ∙ sym g.low.value in
    let high : a.high ≡ b.high = f.high.value ∙ sym g.high.value in
    let decimals : a.scale ≡ b.scale = f.decimals ∙ sym g.decimals in
    λ z. record { low = low z; high = high z; scale = decimals z }

one_length : (d : Decimal) (m n : ℕ) → IsLength d m → IsLength d n → m ≡ n
one_length d m n f g = ap unsigned_abs (sym f.value ∙ g.value)

of_limits : (kind : Limits → Form) (scale : ℕ) (s : Span) (f g : Form) → IsNumber kind scale s f
    → IsNumber kind scale s g → f ≡ g
of_limits kind scale s f g a b = a.1 ∙ ap kind (one_limits scale s a.0 b.0 a.2 b.2) ∙ sym b.1

-- ---- values
pub one_form : (t : TypeSyntax) (f g : Form) → IsForm t f → IsForm t g → f ≡ g
one_form (syntax.Named n) f g a b = absurd a
one_form (syntax.Coord2 c) f g a b =
    let scale : ℕ = scale_of (syntax.Coord2 c) in
    let x : a.0.x ≡ b.0.x = one_limits scale c.x a.0.x b.0.x a.2 b.2 in
    let y : a.0.y ≡ b.0.y = one_limits scale c.y a.0.y b.0.y a.3 b.3 in
    let w : a.0 ≡ b.0 = λ z. record { x = x z; y = y z } in
    a.1 ∙ ap (λ (v : Window). resolved.Coord2 v) w ∙ sym b.1
one_form (syntax.Coord3 c) f g a b =
    let scale : ℕ = scale_of (syntax.Coord3 c) in
    let x : a.0.x ≡ b.0.x = one_limits scale c.x a.0.x b.0.x a.2 b.2 in
    let y : a.0.y ≡ b.0.y = one_limits scale c.y a.0.y b.0.y a.3 b.3 in
    let h : a.0.z ≡ b.0.z = one_limits scale c.z a.0.z b.0.z a.4 b.4 in
    let w : a.0 ≡ b.0 = λ z. record { x = x z; y = y z; z = h z } in
    a.1 ∙ ap (λ (v : Block). resolved.Coord3 v) w ∙ sym b.1
one_form (syntax.Dim1 s) f g a b = of_limits resolved.Dim1 (scale_of (syntax.Dim1 s)) s f g a b
one_form (syntax.Dim2 s) f g a b = of_limits resolved.Dim2 (scale_of (syntax.Dim2 s)) s f g a b
one_form (syntax.Radians s) f g a b =
    of_limits resolved.Radians (scale_of (syntax.Radians s)) s f g a b
one_form (syntax.Grads s) f g a b = of_limits resolved.Grads (scale_of (syntax.Grads s)) s f g a b
one_form (syntax.Degrees s) f g a b =
    of_limits resolved.Degrees (scale_of (syntax.Degrees s)) s f g a b
one_form (syntax.Range s) f g a b = of_limits resolved.Range (scale_of (syntax.Range s)) s f g a b
one_form (syntax.Text d) f g a b = a.1
    ∙ ap (λ (n : ℕ). resolved.Text n) (one_length d a.0 b.0 a.2 b.2) ∙ sym b.1
one_form syntax.Date f g a b = a ∙ sym b
one_form syntax.HAlignment f g a b = a ∙ sym b
one_form syntax.VAlignment f g a b = a ∙ sym b
one_form (syntax.Enumeration es) f g a b = a ∙ sym b
one_form (syntax.Polyline l) f g a b = absurd a
one_form (syntax.Surface l) f g a b = absurd a
one_form (syntax.Area l) f g a b = absurd a

pub one_reference : (s : Scope) (n : Ident) (f g : Form) → IsReference s n f → IsReference s n g
    → f ≡ g
one_reference s n f g a b =
    a.1 ∙ ap (λ (k : ℕ). resolved.Reference k) (one_some (place n.text s.tables) a.0 b.0 a.2 b.2)
    ∙ sym b.1

pub one_zip : {X Y : Type 0} (R : X → Y → Type 0) → ((x : X) (y z : Y) → R x y → R x z → y ≡ z)
    → (xs : List X) (ys zs : List Y) → AllZip R xs ys → AllZip R xs zs → ys ≡ zs
one_zip {X} {Y} R one [] [] [] a b = refl
one_zip {X} {Y} R one [] [] (z ∷ zs) a b = absurd b
one_zip {X} {Y} R one [] (y ∷ ys) zs a b = absurd a
one_zip {X} {Y} R one (x ∷ xs) [] zs a b = absurd a
one_zip {X} {Y} R one (x ∷ xs) (y ∷ ys) [] a b = absurd b
one_zip {X} {Y} R one (x ∷ xs) (y ∷ ys) (z ∷ zs) a b =
    ap (λ (k : Y). k ∷ ys) (one x y z a.0 b.0)
    ∙ ap (λ (ks : List Y). z ∷ ks) (one_zip R one xs ys zs a.1 b.1)

pub one_idents : (as_ : Attributes) (lists : List (List Ident)) (ps qs : List (List ℕ))
    → AreIdents as_ lists ps → AreIdents as_ lists qs → ps ≡ qs
one_idents as_ lists ps qs a b =
    let names : List (List ℕ) = texts (attribute_names as_) in
    one_zip (AllZip (λ n k. place n.text names ≡ Some k))
    (one_zip (λ n k. place n.text names ≡ Some k)
    (λ n i j p q. one_some (place n.text names) i j p q)) lists ps qs a b

-- ---- vertices and overlaps
pub one_window : (t : TypeSyntax) (w v : Window) (h k : Option Limits) → AreVertices t w h
    → AreVertices t v k → (w ≡ v) × (h ≡ k)
one_window (syntax.Coord2 c) w v h k a b =
    let x : w.x ≡ v.x = one_limits (scale_of (syntax.Coord2 c)) c.x w.x v.x a.0 b.0 in
    let y : w.y ≡ v.y = one_limits (scale_of (syntax.Coord2 c)) c.y w.y v.y a.1 b.1 in
    (λ z. record { x = x z; y = y z }, a.2 ∙ sym b.2)
one_window (syntax.Coord3 c) w v h k a b =
    let x : w.x ≡ v.x = one_limits (scale_of (syntax.Coord3 c)) c.x w.x v.x a.0 b.0 in
    let y : w.y ≡ v.y = one_limits (scale_of (syntax.Coord3 c)) c.y w.y v.y a.1 b.1 in (
      λ z. record { x = x z; y = y z },
      a.3
          ∙ ap (λ (l : Limits). Some l) (one_limits (scale_of (syntax.Coord3 c)) c.z a.2 b.2 a.4 b.4)
          ∙ sym b.3,
    )
one_window (syntax.Named n) w v h k a b = absurd a
one_window (syntax.Dim1 s) w v h k a b = absurd a
one_window (syntax.Dim2 s) w v h k a b = absurd a
one_window (syntax.Radians s) w v h k a b = absurd a
one_window (syntax.Grads s) w v h k a b = absurd a
one_window (syntax.Degrees s) w v h k a b = absurd a
one_window (syntax.Range s) w v h k a b = absurd a
one_window (syntax.Text d) w v h k a b = absurd a
one_window syntax.Date w v h k a b = absurd a
one_window syntax.HAlignment w v h k a b = absurd a
one_window syntax.VAlignment w v h k a b = absurd a
one_window (syntax.Enumeration es) w v h k a b = absurd a
one_window (syntax.Polyline l) w v h k a b = absurd a
one_window (syntax.Surface l) w v h k a b = absurd a
one_window (syntax.Area l) w v h k a b = absurd a

pub one_overlap : (scale : ℕ) (d : Option Decimal) (y z : Option ℤ) → IsOverlap scale d y
    → IsOverlap scale d z → y ≡ z
one_overlap scale None y z a b = a ∙ sym b
one_overlap scale (Some d) y z a b = a.0 ∙ sym b.0
