-- What a list contains, item after item.
use Rattle.std.proofs.Common.{◌≡◌, ℕ, zero, suc, ◌⊎◌, inl, inr, Bool, true, false, ◌||◌, List, []}
use Rattle.std.proofs.Common.{◌∷◌, ◌++◌, map, refl, ap, sym, ◌∙◌, subst, arith, true≢false}
use Rattle.std.specs.Prelude.{Contains}
use Rattle.std.specs.List.{flat_map, list_any}
use Rattle.std.specs.Cmp.Lexicographic.{bytes_decides}
use Rattle.resolver.specs.Scopes.{same, is_among}

abbrev pub In : {X : Type 0} → List X → X → Type 0
In [] x = ⊥
In (y ∷ ys) x = (y ≡ x) ⊎ In ys x

pub in_contained : {X : Type 0} (xs : List X) (x : X) → Contains xs x → In xs x
in_contained [] x (k, lt, e) = absurd (omega (arith, lt))
in_contained (y ∷ ys) x (zero, lt, e) = inl e
in_contained (y ∷ ys) x (suc k, lt, e) = inr (in_contained ys x (k, omega (arith, lt), e))

pub contains : {X : Type 0} (xs : List X) (x : X) → In xs x → Contains xs x
contains [] x h = absurd h
contains (y ∷ ys) x (inl e) = (0, omega arith, e)
contains (y ∷ ys) x (inr h) = let w = contains ys x h in (suc w.0, omega (arith, w.1), w.2)

pub in_before : {X : Type 0} (xs ys : List X) (x : X) → In xs x → In (xs ++ ys) x
in_before [] ys x h = absurd h
in_before (z ∷ zs) ys x (inl e) = inl e
in_before (z ∷ zs) ys x (inr h) = inr (in_before zs ys x h)

pub in_after : {X : Type 0} (xs ys : List X) (x : X) → In ys x → In (xs ++ ys) x
in_after [] ys x h = h
in_after (z ∷ zs) ys x h = inr (in_after zs ys x h)

pub in_either : {X : Type 0} (xs ys : List X) (x : X) → In (xs ++ ys) x → In xs x ⊎ In ys x
in_either [] ys x h = inr h
in_either {X} (z ∷ zs) ys x (inl e) = inl (inl e)
in_either {X} (z ∷ zs) ys x (inr h) =
    elim (in_either zs ys x h) as (λ _. In (z ∷ zs) x ⊎ In ys x) [
      | inl a ↦ inl (inr a)
      | inr b ↦ inr b
    ]

-- what is in the list of one of some things is in the list of all
pub in_each : {X Y : Type 0} (f : X → List Y) (xs : List X) (x : X) (y : Y) → In xs x → In (f x) y
    → In (flat_map f xs) y
in_each f [] x y h k = absurd h
in_each {X} {Y} f (z ∷ zs) x y (inl e) k =
    in_before (f z) (flat_map f zs) y (subst (λ (w : X). In (f w) y) (sym e) k)
in_each f (z ∷ zs) x y (inr h) k = in_after (f z) (flat_map f zs) y (in_each f zs x y h k)

pub in_some : {X Y : Type 0} (f : X → List Y) (xs : List X) (y : Y) → In (flat_map f xs) y
    → (x : X) × In xs x × In (f x) y
in_some f [] y h = absurd h
in_some {X} {Y} f (z ∷ zs) y h =
    elim (in_either (f z) (flat_map f zs) y h) as (λ _. (x : X) × In (z ∷ zs) x × In (f x) y) [
      | inl a ↦ (z, inl refl, a)
      | inr b ↦ let w = in_some f zs y b in (w.0, inr w.1, w.2)
    ]

pub in_map : {X Y : Type 0} (f : X → Y) (xs : List X) (x : X) → In xs x → In (map f xs) (f x)
in_map f [] x h = absurd h
in_map f (z ∷ zs) x (inl e) = inl (ap f e)
in_map f (z ∷ zs) x (inr h) = inr (in_map f zs x h)

-- ---- tests
pub same_is : (a b : List ℕ) → same a b ≡ true → a ≡ b
same_is a b e = (bytes_decides a b).0 e

pub is_same : (a b : List ℕ) → a ≡ b → same a b ≡ true
is_same a b e = (bytes_decides a b).1 e

pub or-cases : (a b : Bool) → (a || b) ≡ true → (a ≡ true) ⊎ (b ≡ true)
or-cases true b e = inl refl
or-cases false b e = inr e

pub or-left : (a b : Bool) → a ≡ true → (a || b) ≡ true
or-left a b e = ap (λ (c : Bool). c || b) e

pub or-right : (a b : Bool) → b ≡ true → (a || b) ≡ true
or-right true b e = refl
or-right false b e = e

pub any_in : {X : Type 0} (p : X → Bool) (xs : List X) → list_any p xs ≡ true
    → (x : X) × In xs x × (p x ≡ true)
any_in p [] e = absurd (true≢false (sym e))
any_in {X} p (x ∷ xs) e =
    elim (or-cases (p x) (list_any p xs) e) as (λ _. (y : X) × In (x ∷ xs) y × (p y ≡ true)) [
      | inl a ↦ (x, inl refl, a)
      | inr b ↦ let w = any_in p xs b in (w.0, inr w.1, w.2)
    ]

pub in_any : {X : Type 0} (p : X → Bool) (xs : List X) (x : X) → In xs x → p x ≡ true
    → list_any p xs ≡ true
in_any p [] x h e = absurd h
in_any {X} p (y ∷ ys) x (inl q) e = or-left (p y) (list_any p ys) (ap p q ∙ e)
in_any p (y ∷ ys) x (inr h) e = or-right (p y) (list_any p ys) (in_any p ys x h e)

pub among_in : (name : List ℕ) (names : List (List ℕ)) → is_among name names ≡ true → In names name
among_in name names e =
    let w = any_in (same name) names e in subst (In names) (sym (same_is name w.0 w.2)) w.1

pub in_among : (name : List ℕ) (names : List (List ℕ)) → In names name → is_among name names ≡ true
in_among name names h = in_any (same name) names name h (is_same name name refl)

pub not_among : (name : List ℕ) (names : List (List ℕ)) → (In names name → ⊥)
    → is_among name names ≡ false
not_among name names h =
    elim (is_among name names) as (λ b. is_among name names ≡ b
    → is_among name names ≡ false) [
      | true ↦ λ e. absurd (h (among_in name names e))
      | false ↦ λ e. e
    ] refl

pub not_in : (name : List ℕ) (names : List (List ℕ)) → is_among name names ≡ false → In names name
    → ⊥
not_in name names e h = true≢false (sym (in_among name names h) ∙ e)
