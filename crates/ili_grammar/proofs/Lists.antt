-- Lists of what was read so far, and what is read behind them.
use Rattle.std.proofs.Common.{◌≡◌, ℕ, suc, List, [], ◌∷◌, ◌++◌, map, refl, sym, ap, ◌∙◌, subst}
use Rattle.std.proofs.Common.{Result, Ok, Err, IfOk}
use Rattle.ili_grammar.specs.declared.syntax.Element as stored
use Rattle.ili_grammar.specs.declared.syntax.Element.TheOpen.{Element-F}
use Rattle.ili_grammar.specs.declared.syntax.Element.TheViews.{roll-Element}
use Rattle.ili_grammar.specs.declared.syntax.Element.TheFolds.{fold-roll-Element}
use Rattle.ili_grammar.specs.Tokens.{Info, Tok, tok, name, comma, right_paren, left_paren}
use Rattle.ili_grammar.specs.Syntax.{Ident, Element, an_element, Elements, no_elements, and_element}
use Rattle.ili_grammar.specs.Numbers.{ident}
use Rattle.ili_grammar.specs.Values.{ident_of, element_step, element_of, elements_in, elements_of}
use Rattle.ili_grammar.specs.Types.{IsElements, last_element, more_elements, IsElement, leaf, node}
use Rattle.ili_grammar.specs.Types.{enumeration}

-- ---- elements
pub element_roll : (x : Element-F stored.Element)
    → element_of (roll-Element x) ≡ an_element (ident_of x.name) (elements_of x.parts.items)
element_roll = fold-roll-Element Element element_step

abbrev pub and_elements : List Element → Elements → Elements
and_elements [] es = es
and_elements (d ∷ ds) es = and_element d (and_elements ds es)

abbrev pub ElementsFrom : ℕ → List Element → List Tok → List Tok → Type 0
ElementsFrom d ds w v = (es : Elements) (r : List Tok) → IsElements d es v r
    → IsElements d (and_elements ds es) w r

no_more : (ds : List Element) → and_elements ds no_elements ≡ elements_in ds
no_more [] = refl
no_more (d ∷ ds) = ap (and_element d) (no_more ds)

one_more : (ds : List Element) (e : Element) (es : Elements)
    → and_elements (ds ++ e ∷ []) es ≡ and_elements ds (and_element e es)
one_more [] e es = refl
one_more (d ∷ ds) e es = ap (and_element d) (one_more ds e es)

map_push : {A B : Type 0} (f : A → B) (xs : List A) (x : A)
    → map f (xs ++ x ∷ []) ≡ map f xs ++ f x ∷ []
map_push f [] x = refl
map_push f (y ∷ xs) x = ap (λ z. f y ∷ z) (map_push f xs x)

pub elements_start : (d : ℕ) (w : List Tok) → ElementsFrom d [] w w
elements_start d w es r x = x

-- behind an element and a comma
pub elements_on : (d : ℕ) (olds news : List stored.Element) (e : stored.Element)
    (w v u r : List Tok) (i : Info)
    → news ≡ olds ++ e ∷ [] → ElementsFrom d (map element_of olds) w v
    → IsElement d (element_of e) v u → u ≡ tok comma i ∷ r
    → ElementsFrom d (map element_of news) w r
elements_on d olds news e w v u r i q h x p es z y =
    subst (λ (ds : List Element). IsElements d (and_elements ds es) w z)
    (sym (ap (map element_of) q ∙ map_push element_of olds e))
    (subst (λ (t : Elements). IsElements d t w z)
    (sym (one_more (map element_of olds) (element_of e) es))
    (h (and_element (element_of e) es) z
    (more_elements d i (element_of e) es v r z
    (subst (λ (u : List Tok). IsElement d (element_of e) v u) p x) y)))

-- behind the last one
pub elements_end : (d : ℕ) (olds news : List stored.Element) (e : stored.Element)
    (w v u r : List Tok) (i : Info)
    → news ≡ olds ++ e ∷ [] → ElementsFrom d (map element_of olds) w v
    → IsElement d (element_of e) v u → u ≡ tok right_paren i ∷ r
    → IsElements d (elements_of news) w r
elements_end d olds news e w v u r i q h x p =
    let all : elements_of news ≡ and_elements (map element_of olds)
    (and_element (element_of e) no_elements) =
    ap elements_in (ap (map element_of) q ∙ map_push element_of olds e)
    ∙ sym (no_more (map element_of olds ++ element_of e ∷ []))
    ∙ one_more (map element_of olds) (element_of e) no_elements in
    subst (λ (t : Elements). IsElements d t w r) (sym all)
    (h (and_element (element_of e) no_elements) r
    (last_element d i (element_of e) v r
    (subst (λ (u : List Tok). IsElement d (element_of e) v u) p x)))

-- ---- parts
pub parts_read : (d e : ℕ) (es : Elements) (w l r : List Tok) (i : Info) → d ≡ suc e
    → w ≡ tok left_paren i ∷ l → IsElements e es l r → (n : Info)
    → IsElement d (an_element (ident n) es) (tok name n ∷ w) r
parts_read d e es w l r i p q x n =
    subst (λ (d : ℕ). IsElement d (an_element (ident n) es) (tok name n ∷ w) r) (sym p)
    (subst (λ (w : List Tok). IsElement (suc e) (an_element (ident n) es) (tok name n ∷ w) r)
    (sym q) (node (suc e) n es (tok left_paren i ∷ l) r (enumeration e i es l r x)))

pub element_read : (d : ℕ) (e : stored.Element) (x : Ident) (es : Elements) (w v r : List Tok)
    (i : Info)
    → element_of e ≡ an_element x es → x ≡ ident i → w ≡ tok name i ∷ v
    → ((n : Info) → IsElement d (an_element (ident n) es) (tok name n ∷ v) r)
    → IsElement d (element_of e) w r
element_read d e x es w v r i p q f h =
    subst (λ (z : Element). IsElement d z w r) (sym (p ∙ ap (λ (x : Ident). an_element x es) q))
    (subst (λ (w : List Tok). IsElement d (an_element (ident i) es) w r) (sym f) (h i))

pub parts_none : (d : ℕ) (es : List stored.Element) (w : List Tok) → es ≡ [] → (n : Info)
    → IsElement d (an_element (ident n) (elements_of es)) (tok name n ∷ w) w
parts_none d es w q n =
    subst (λ (es : List stored.Element). IsElement d (an_element (ident n) (elements_of es))
    (tok name n ∷ w) w) (sym q) (leaf d n w)

-- ---- results
pub if_ok : {A E : Type 0} (P Q : A → Type 0) (x : Result A E) → ((a : A) → P a → Q a) → IfOk x P
    → IfOk x Q
if_ok P Q (Ok a) f h = f a h
if_ok P Q (Err e) f h = h

-- ---- an item added
pub pushed : {A B : Type 0} (f : A → B) (olds news : List A) (x : A) → news ≡ olds ++ x ∷ []
    → map f news ≡ map f olds ++ f x ∷ []
pushed f olds news x q = ap (map f) q ∙ map_push f olds x

map_append : {A B : Type 0} (f : A → B) (xs ys : List A) → map f (xs ++ ys) ≡ map f xs ++ map f ys
map_append f [] ys = refl
map_append f (x ∷ xs) ys = ap (λ z. f x ∷ z) (map_append f xs ys)

pub all_pushed : {A B : Type 0} (f : A → B) (olds more news : List A) → news ≡ olds ++ more
    → map f news ≡ map f olds ++ map f more
all_pushed f olds more news q = ap (map f) q ∙ map_append f olds more
