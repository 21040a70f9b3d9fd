-- Lists of values that have one key are equal.
use Rattle.std.proofs.Common.{◌≡◌, ◌<◌, ◌^◌, ℕ, zero, suc, Bool, true, false, ◌&&◌, nat_eq, List}
use Rattle.std.proofs.Common.{[], ◌∷◌, ◌++◌, length, refl, sym, ap, subst, ◌∙◌, arith, ℤ}
use Rattle.std.proofs.Common.{append_assoc, rules, of_z, to_z, Decides}
use Rattle.std.specs.Bool.{⊤}
use Rattle.std.specs.List.{flat_map}
use Rattle.std.specs.Cmp.Lexicographic.{pointwise}
use Rattle.std.specs.Ordering.{int_eq}
use Rattle.std.specs.Int.{w64, from_be_bytes, bytes_high_first, byte_at, cast_unsigned}
use Rattle.std.specs.Int.RustNames.{FitsSigned}
use Rattle.std.proofs.lemmas.Nat.{from_be_bytes-to_be_bytes_8}
use Rattle.std.proofs.Math.Facts.{to_z-of_z, Fits-of_z}
use Rattle.std.proofs.lemmas.Bool.Decides.{Decides-int_eq}
use Rattle.std.proofs.lemmas.Slice.Eq.{bytes_eq-Decides, slice_eq-Decides}
use Rattle.itf_reader.specs.Forms.{Kind, Start, Straight, OnArc}
use Rattle.field_values.specs.Places.{is_same}
use Rattle.ident_refs.specs.ListValues.{KeyVertex, Value, Numbers, Bytes, Vertices, is_same_kind}
use Rattle.ident_refs.specs.ListValues.{is_same_vertex, is_same_value}
use Rattle.ident_refs.specs.KeyBytes.{number_code, numbers_code, kind_code, key_vertices_code}
use Rattle.ident_refs.specs.KeyBytes.{value_code, byte_code, with_end, part_code, list_code}

heads : (x y : ℕ) (xs ys : List ℕ) → x ∷ xs ≡ y ∷ ys → (x ≡ y) × (xs ≡ ys)
heads x y xs ys e = (cc, cc)

no_head : (x : ℕ) (xs : List ℕ) → [] ≡ x ∷ xs → ⊥
no_head x xs e = cc

-- ---- ended bytes
pub ended_apart : (w v a b : List ℕ)
    → flat_map byte_code w ++ 0 ∷ 0 ∷ a ≡ flat_map byte_code v ++ 0 ∷ 0 ∷ b → (w ≡ v) × (a ≡ b)
ended_apart [] [] a b e = (refl, cc)
ended_apart [] (zero ∷ v) a b e = absurd cc
ended_apart [] (suc n ∷ v) a b e = absurd (let h = (heads 0 (suc n) _ _ e).0 in omega (arith, h))
ended_apart (zero ∷ w) [] a b e = absurd cc
ended_apart (suc n ∷ w) [] a b e = absurd (let h = (heads (suc n) 0 _ _ e).0 in omega (arith, h))
ended_apart (zero ∷ w) (suc n ∷ v) a b e =
    absurd (let h = (heads 0 (suc n) _ _ e).0 in omega (arith, h))
ended_apart (suc n ∷ w) (zero ∷ v) a b e =
    absurd (let h = (heads (suc n) 0 _ _ e).0 in omega (arith, h))
ended_apart (zero ∷ w) (zero ∷ v) a b e =
    let r = ended_apart w v a b (heads 1 1 _ _ (heads 0 0 _ _ e).1).1 in
    (ap (λ (x : List ℕ). 0 ∷ x) r.0, r.1)
ended_apart (suc m ∷ w) (suc n ∷ v) a b e =
    let h = heads (suc m) (suc n) _ _ e in
    let r = ended_apart w v a b h.1 in
    (ap (λ (x : ℕ). x ∷ w) h.0 ∙ ap (λ (x : List ℕ). suc n ∷ x) r.0, r.1)

-- ---- numbers
abbrev pub AreFit : List ℤ → Type 0
AreFit [] = ⊤
AreFit (n ∷ ns) = FitsSigned w64 n × AreFit ns

bytes_apart : (k m n : ℕ) (a b : List ℕ) → bytes_high_first k m ++ a ≡ bytes_high_first k n ++ b
    → (bytes_high_first k m ≡ bytes_high_first k n) × (a ≡ b)
bytes_apart zero m n a b e = (refl, e)
bytes_apart (suc k) m n a b e =
    let r = bytes_apart k m n a b cc in
    let h : byte_at k m ≡ byte_at k n = cc in
    let s = r.0 in (cc, r.1)

number_back : (m n : ℤ) → FitsSigned w64 m → FitsSigned w64 n → number_code m ≡ number_code n
    → m ≡ n
unfolding number_code
number_back m n f g e =
    let p : of_z w64 m < 2 ^ 64 = (let u = Fits-of_z f in search rules) in
    let q : of_z w64 n < 2 ^ 64 = (let u = Fits-of_z g in search rules) in
    let h : of_z w64 m ≡ of_z w64 n = sym (from_be_bytes-to_be_bytes_8 (of_z w64 m) p)
    ∙ (ap (from_be_bytes w64) e ∙ from_be_bytes-to_be_bytes_8 (of_z w64 n) q) in
    sym (to_z-of_z f) ∙ (ap (to_z w64) h ∙ to_z-of_z g)

number_apart : (m n : ℤ) (a b : List ℕ) → FitsSigned w64 m → FitsSigned w64 n
    → number_code m ++ a ≡ number_code n ++ b → (m ≡ n) × (a ≡ b)
unfolding number_code
number_apart m n a b f g e =
    let r = bytes_apart 8 (cast_unsigned w64 m) (cast_unsigned w64 n) a b e in
    (number_back m n f g r.0, r.1)

numbers_back : (ms ns : List ℤ) → AreFit ms → AreFit ns → numbers_code ms ≡ numbers_code ns
    → ms ≡ ns
unfolding number_code
numbers_back [] [] f g e = refl
numbers_back [] (n ∷ ns) f g e = absurd cc
numbers_back (m ∷ ms) [] f g e = absurd cc
numbers_back (m ∷ ms) (n ∷ ns) f g e =
    let r = number_apart m n _ _ f.0 g.0 e in
    let s = numbers_back ms ns f.1 g.1 r.1 in
    ap (λ (x : ℤ). x ∷ ms) r.0 ∙ ap (λ (xs : List ℤ). n ∷ xs) s

numbers_apart : (ms ns : List ℤ) (a b : List ℕ) → AreFit ms → AreFit ns → length ms ≡ length ns
    → numbers_code ms ++ a ≡ numbers_code ns ++ b → (ms ≡ ns) × (a ≡ b)
numbers_apart [] [] a b f g l e = (refl, e)
numbers_apart [] (n ∷ ns) a b f g l e = absurd (omega (arith, l))
numbers_apart (m ∷ ms) [] a b f g l e = absurd (omega (arith, l))
numbers_apart (m ∷ ms) (n ∷ ns) a b f g l e =
    let r = number_apart m n (numbers_code ms ++ a) (numbers_code ns ++ b) f.0 g.0
    (sym (append_assoc (number_code m) (numbers_code ms) a)
    ∙ (e ∙ append_assoc (number_code n) (numbers_code ns) b)) in
    let s = numbers_apart ms ns a b f.1 g.1 (omega (arith, l)) r.1 in
    (ap (λ (x : ℤ). x ∷ ms) r.0 ∙ ap (λ (xs : List ℤ). n ∷ xs) s.0, s.1)

-- ---- vertices
abbrev pub AreFitCorners : List KeyVertex → Type 0
AreFitCorners [] = ⊤
AreFitCorners (c ∷ cs) = AreFit c.numbers × AreFitCorners cs

kind_back : (k l : Kind) → kind_code k ≡ kind_code l → k ≡ l
kind_back Start Start e = refl
kind_back Start Straight e = absurd cc
kind_back Start OnArc e = absurd cc
kind_back Straight Start e = absurd cc
kind_back Straight Straight e = refl
kind_back Straight OnArc e = absurd cc
kind_back OnArc Start e = absurd cc
kind_back OnArc Straight e = absurd cc
kind_back OnArc OnArc e = refl

corners_back : (cs ds : List KeyVertex) → AreFitCorners cs → AreFitCorners ds
    → key_vertices_code cs ≡ key_vertices_code ds → cs ≡ ds
corners_back [] [] f g e = refl
corners_back [] (d ∷ ds) f g e = absurd cc
corners_back (c ∷ cs) [] f g e = absurd cc
corners_back (c ∷ cs) (d ∷ ds) f g e =
    let k = heads (kind_code c.kind) (kind_code d.kind) _ _ e in
    let l = heads (length c.numbers) (length d.numbers) _ _ k.1 in
    let n = numbers_apart c.numbers d.numbers (key_vertices_code cs)
    (key_vertices_code ds) f.0 g.0 l.0 l.1 in
    let s = corners_back cs ds f.1 g.1 n.1 in
    ap (λ (x : Kind). key_vertex x c.numbers ∷ cs) (kind_back c.kind d.kind k.0)
    ∙ ap (λ (x : List ℤ). key_vertex d.kind x ∷ cs) n.0
    ∙ ap (λ (xs : List KeyVertex). d ∷ xs) s
  where
    key_vertex : Kind → List ℤ → KeyVertex
    key_vertex k n = record { kind = k; numbers = n }

-- ---- values
abbrev pub IsFit : Value → Type 0
IsFit (Numbers ns) = AreFit ns
IsFit (Bytes word) = ⊤
IsFit (Vertices cs) = AreFitCorners cs

abbrev pub AllFit : List Value → Type 0
AllFit [] = ⊤
AllFit (v ∷ vs) = IsFit v × AllFit vs

value_back : (v w : Value) → IsFit v → IsFit w → value_code v ≡ value_code w → v ≡ w
value_back (Numbers ms) (Numbers ns) f g e = ap Numbers (numbers_back ms ns f g (heads 0 0 _ _ e).1)
value_back (Numbers ms) (Bytes b) f g e = absurd cc
value_back (Numbers ms) (Vertices ds) f g e = absurd cc
value_back (Bytes a) (Numbers ns) f g e = absurd cc
value_back (Bytes a) (Bytes b) f g e = ap Bytes (heads 1 1 _ _ e).1
value_back (Bytes a) (Vertices ds) f g e = absurd cc
value_back (Vertices cs) (Numbers ns) f g e = absurd cc
value_back (Vertices cs) (Bytes b) f g e = absurd cc
value_back (Vertices cs) (Vertices ds) f g e =
    ap Vertices (corners_back cs ds f g (heads 2 2 _ _ e).1)

-- ---- lists of values
part_apart : (v w : Value) (a b : List ℕ) → IsFit v → IsFit w → part_code v ++ a ≡ part_code w ++ b
    → (v ≡ w) × (a ≡ b)
part_apart v w a b f g e =
    let r = ended_apart (value_code v) (value_code w) a b
    (sym (append_assoc (flat_map byte_code (value_code v)) _ a)
    ∙ (e ∙ append_assoc (flat_map byte_code (value_code w)) _ b)) in
    (value_back v w f g r.0, r.1)

not_ended : (w a : List ℕ) → [] ≡ with_end w ++ a → ⊥
not_ended [] a e = no_head 0 _ e
not_ended (zero ∷ w) a e = no_head 0 _ e
not_ended (suc n ∷ w) a e = no_head (suc n) _ e

parts_back : (vs ws : List Value) → AllFit vs → AllFit ws
    → flat_map part_code vs ≡ flat_map part_code ws → vs ≡ ws
parts_back [] [] f g e = refl
parts_back [] (w ∷ ws) f g e = absurd (not_ended (value_code w) _ e)
parts_back (v ∷ vs) [] f g e = absurd (not_ended (value_code v) _ (sym e))
parts_back (v ∷ vs) (w ∷ ws) f g e =
    let r = part_apart v w _ _ f.0 g.0 e in
    let s = parts_back vs ws f.1 g.1 r.1 in
    ap (λ (x : Value). x ∷ vs) r.0 ∙ ap (λ (xs : List Value). w ∷ xs) s

not_three : (v : Value) (a : List ℕ) → value_code v ≡ 3 ∷ a → ⊥
not_three (Numbers ns) a e = cc
not_three (Bytes b) a e = cc
not_three (Vertices cs) a e = cc

pub list_back : (vs ws : List Value) → AllFit vs → AllFit ws → list_code vs ≡ list_code ws → vs ≡ ws
list_back [] [] f g e = refl
list_back [] (w ∷ []) f g e = absurd (not_three w _ (sym e))
list_back [] (w ∷ x ∷ ws) f g e = parts_back [] (w ∷ x ∷ ws) f g (heads 3 3 _ _ e).1
list_back (v ∷ []) [] f g e = absurd (not_three v _ e)
list_back (v ∷ []) (w ∷ []) f g e = ap (λ (x : Value). x ∷ []) (value_back v w f.0 g.0 e)
list_back (v ∷ []) (w ∷ x ∷ ws) f g e = absurd (not_three v _ e)
list_back (v ∷ y ∷ vs) [] f g e = parts_back (v ∷ y ∷ vs) [] f g (heads 3 3 _ _ e).1
list_back (v ∷ y ∷ vs) (w ∷ []) f g e = absurd (not_three w _ (sym e))
list_back (v ∷ y ∷ vs) (w ∷ x ∷ ws) f g e =
    parts_back (v ∷ y ∷ vs) (w ∷ x ∷ ws) f g (heads 3 3 _ _ e).1

-- ---- equal values
int_same : (m n : ℤ) → int_eq m n ≡ is_same m n
int_same m n = search rules

is_same_tells : (m n : ℤ) → Decides (is_same m n) (m ≡ n)
is_same_tells m n = subst (λ (b : Bool). Decides b (m ≡ n)) (int_same m n) (Decides-int_eq m n)

both_true : (a b : Bool) → (a && b) ≡ true → (a ≡ true) × (b ≡ true)
both_true true b h = (refl, h)
both_true false b h = absurd cc

kind_tells : (k l : Kind) → Decides (is_same_kind k l) (k ≡ l)
kind_tells Start Start = (λ e. refl, λ e. refl)
kind_tells Start Straight = (λ e. absurd cc, λ e. absurd cc)
kind_tells Start OnArc = (λ e. absurd cc, λ e. absurd cc)
kind_tells Straight Start = (λ e. absurd cc, λ e. absurd cc)
kind_tells Straight Straight = (λ e. refl, λ e. refl)
kind_tells Straight OnArc = (λ e. absurd cc, λ e. absurd cc)
kind_tells OnArc Start = (λ e. absurd cc, λ e. absurd cc)
kind_tells OnArc Straight = (λ e. absurd cc, λ e. absurd cc)
kind_tells OnArc OnArc = (λ e. refl, λ e. refl)

numbers_tell : (ms ns : List ℤ) → Decides (pointwise is_same ms ns) (ms ≡ ns)
numbers_tell ms ns = slice_eq-Decides is_same_tells ms ns (pointwise is_same ms ns) refl

corner_tells : (c d : KeyVertex) → Decides (is_same_vertex c d) (c ≡ d)
corner_tells c d = (
  λ e.
      let b = both_true (is_same_kind c.kind d.kind) (pointwise is_same c.numbers d.numbers) e in
      let k : c.kind ≡ d.kind = (kind_tells c.kind d.kind).0 b.0 in
      let n : c.numbers ≡ d.numbers = (numbers_tell c.numbers d.numbers).0 b.1 in
      ap (λ (x : Kind). key_vertex x c.numbers) k ∙ ap (λ (x : List ℤ). key_vertex d.kind x) n,
  λ e. ap (λ (x : KeyVertex). is_same_vertex c x) (sym e)
      ∙ (ap (λ (b : Bool). b && pointwise is_same c.numbers c.numbers)
      ((kind_tells c.kind c.kind).1 refl) ∙ (numbers_tell c.numbers c.numbers).1 refl),
)
  where
    key_vertex : Kind → List ℤ → KeyVertex
    key_vertex k n = record { kind = k; numbers = n }

value_tells : (v w : Value) → Decides (is_same_value v w) (v ≡ w)
value_tells (Numbers ms) (Numbers ns) =
    (λ e. ap Numbers ((numbers_tell ms ns).0 e), λ e. (numbers_tell ms ns).1 cc)
value_tells (Numbers ms) (Bytes b) = (λ e. absurd cc, λ e. absurd cc)
value_tells (Numbers ms) (Vertices ds) = (λ e. absurd cc, λ e. absurd cc)
value_tells (Bytes a) (Numbers ns) = (λ e. absurd cc, λ e. absurd cc)
value_tells (Bytes a) (Bytes b) =
    (λ e. ap Bytes ((bytes_eq-Decides a b).0 e), λ e. (bytes_eq-Decides a b).1 cc)
value_tells (Bytes a) (Vertices ds) = (λ e. absurd cc, λ e. absurd cc)
value_tells (Vertices cs) (Numbers ns) = (λ e. absurd cc, λ e. absurd cc)
value_tells (Vertices cs) (Bytes b) = (λ e. absurd cc, λ e. absurd cc)
value_tells (Vertices cs) (Vertices ds) =
    let t : Decides (pointwise is_same_vertex cs ds) (cs ≡ ds) = slice_eq-Decides corner_tells cs ds
    (pointwise is_same_vertex cs ds) refl in
    (λ e. ap Vertices (t.0 e), λ e. t.1 cc)

values_tell : (vs ws : List Value) → Decides (pointwise is_same_value vs ws) (vs ≡ ws)
values_tell vs ws = slice_eq-Decides value_tells vs ws (pointwise is_same_value vs ws) refl

both_ways : (a b : Bool) → (a ≡ true → b ≡ true) → (b ≡ true → a ≡ true) → a ≡ b
both_ways true b f g = sym (f refl)
both_ways false true f g = g refl
both_ways false false f g = refl

-- two lists of values are the same where their keys are
pub keys_tell : (vs ws : List Value) → AllFit vs → AllFit ws
    → pointwise is_same_value vs ws ≡ pointwise nat_eq (list_code vs) (list_code ws)
keys_tell vs ws f g = both_ways _ _
    (λ e. (bytes_eq-Decides (list_code vs) (list_code ws)).1
    (ap list_code ((values_tell vs ws).0 e)))
    (λ e. (values_tell vs ws).1
    (list_back vs ws f g ((bytes_eq-Decides (list_code vs) (list_code ws)).0 e)))
