-- The rules that ask an area, rule after rule, and what is asked of each area.
use Rattle.std.proofs.Common.{◌≡◌, inl, inr, ℕ, zero, suc, ◌+◌, ◌<◌, ◌≤◌, Bool, true, false, ◌&&◌}
use Rattle.std.proofs.Common.{get_or, List, [], ◌∷◌, ◌++◌, length, map, Some, None, refl, sym, ap}
use Rattle.std.proofs.Common.{◌∙◌, subst, arith, true≢false}
use Rattle.std.specs.Prelude.{◌==◌, ◌⊎◌, if◌then◌else◌, slice_get}
use Rattle.std.specs.List.{All, AllZip, position_from}
use Rattle.std.proofs.lemmas.Bool.Decides.{nat_tests}
use Rattle.std.proofs.lemmas.Bool.{eqb-true}
use Rattle.std.proofs.lemmas.List.Elements.{All-nil, All-cons, All-head, All-tail}
use Rattle.area_links.specs.Rules.{Rule}
use Rattle.itf_reader.specs.Forms.{Row}
use Rattle.table_layout.specs.Layouts.{Layout}
use Rattle.delivery.specs.AskedLinks.{AreAskedTo, HasAlike, IsAmong, IsAsked, IsAskedOf, are_alike}
use Rattle.delivery.specs.LinkRows.{IsGoodRule}
use Rattle.delivery.specs.declared.links.asked.AskedArea.{AskedArea}

-- ---- one more rule behind some
-- a rule asks what it asks itself
itself : (r : Rule) → are_alike r r ≡ true
itself r =
    all (r.table == r.table) (r.point == r.point) (r.reference == r.reference) (r.area == r.area)
    (same r.table) (same r.point) (same r.reference) (same r.area)
  where
    same : (n : ℕ) → (n == n) ≡ true
    same n = grind (arith, nat_tests)

    all : (a b c d : Bool) → a ≡ true → b ≡ true → c ≡ true → d ≡ true
        → (((a && b) && c) && d) ≡ true
    all a b c d e f g h =
        ap (λ (x : Bool). ((x && b) && c) && d) e
        ∙ (ap (λ (x : Bool). (x && c) && d) f ∙ (ap (λ (x : Bool). x && d) g ∙ h))

-- a place that is found stays found
stays : (rules : List Rule) (r s : Rule) (n i : ℕ)
    → position_from (λ q. are_alike q r) n rules ≡ Some i
    → position_from (λ q. are_alike q r) n (rules ++ s ∷ []) ≡ Some i
stays [] r s n i e = absurd (cc)
stays (q ∷ rules) r s n i e = by (are_alike q r) (stays rules r s (n + 1) i) e
  where
    by : (b : Bool)
        → (position_from (λ x. are_alike x r) (n + 1) rules ≡ Some i
        → position_from (λ x. are_alike x r) (n + 1) (rules ++ s ∷ []) ≡ Some i)
        → (if b then Some n else position_from (λ x. are_alike x r) (n + 1) rules) ≡ Some i
        → (if b then Some n else position_from (λ x. are_alike x r) (n + 1) (rules ++ s ∷ []))
        ≡ Some i
    by true again e = e
    by false again e = again e

-- the rule that is put behind is found
last : (rules : List Rule) (r : Rule) (n : ℕ)
    → (i : ℕ) × (position_from (λ q. are_alike q r) n (rules ++ r ∷ []) ≡ Some i)
last [] r n = (n, ap (λ (b : Bool). if b then Some n else None) (itself r))
last (q ∷ rules) r n = by (are_alike q r) (last rules r (n + 1))
  where
    by : (b : Bool)
        → (i : ℕ) × (position_from (λ x. are_alike x r) (n + 1) (rules ++ r ∷ []) ≡ Some i)
        → (i : ℕ) × ((if b then Some n
        else position_from (λ x. are_alike x r) (n + 1) (rules ++ r ∷ [])) ≡ Some i)
    by true h = (n, refl)
    by false h = h

-- ---- the rules of an area so far
pub none_asked : (number : ℕ) (rules : List Rule) → AreAskedTo number rules 0 []
none_asked number rules = record {
  from_rules = All-nil (IsAmong rules);
  whole = λ i r lt e f. absurd (omega (arith, lt));
}

all_push : (P : Rule → Type 0) (xs : List Rule) (x : Rule) → All P xs → P x → All P (xs ++ x ∷ [])
all_push P [] x a h = All-cons P x [] h (All-nil P)
all_push P (y ∷ xs) x a h =
    All-cons P y (xs ++ x ∷ []) (All-head P y xs a) (all_push P xs x (All-tail P y xs a) h)

same_some : {X : Type 0} (a b : X) → Some a ≡ Some b → a ≡ b
same_some a b e = cc

earlier : (i k : ℕ) → i < k + 1 → (i ≡ k → ⊥) → i < k
earlier i k lt n = omega (arith, lt, n)

module _ (number : ℕ) (rules : List Rule) (k : ℕ) (asked : List Rule)
    (h : AreAskedTo number rules k asked) (r : Rule) (at : slice_get rules k ≡ Some r) where
  by_place : (i : ℕ) (P : Type 0) → i < k + 1 → (i < k → P) → (i ≡ k → P) → P
  by_place i P lt f g =
      elim (decide_eq i k) as (λ z. P) [ inl e ↦ g e | inr n ↦ f (earlier i k lt n) ]
    where
      decide_eq : (a b : ℕ) → (a ≡ b) ⊎ (a ≡ b → ⊥)
      decide_eq a b = by (a == b) refl
        where
          by : (c : Bool) → (a == b) ≡ c → (a ≡ b) ⊎ (a ≡ b → ⊥)
          by true e = inl (eqb-true a b e)
          by false e = inr (λ q. true≢false (sym (grind (arith, nat_tests, q)) ∙ e))

  -- one rule more is asked
  pub asked_more : AreAskedTo number rules (k + 1) (asked ++ r ∷ [])
  asked_more = record {
    from_rules = all_push (IsAmong rules) asked r h.from_rules (k, at);
    whole = λ i q lt e f.
        by_place i (HasAlike (asked ++ r ∷ []) q) lt
        (λ less. let m = h.whole i q less e f in (m.0, stays asked q r 0 m.0 m.1))
        (λ same. let one = same_some q r (sym e ∙ ap (λ (n : ℕ). slice_get rules n) same ∙ at) in
        subst (HasAlike (asked ++ r ∷ [])) (sym one) (last asked r 0));
  }

  -- the rule is of another area, or asks what one asks
  pub not_asked : (r.area ≡ number → HasAlike asked r) → AreAskedTo number rules (k + 1) asked
  not_asked n = record {
    from_rules = h.from_rules;
    whole = λ i q lt e f.
        by_place i (HasAlike asked q) lt (λ less. h.whole i q less e f)
        (λ same. let one = same_some q r (sym e ∙ ap (λ (n : ℕ). slice_get rules n) same ∙ at) in
        subst (HasAlike asked) (sym one) (n (sym (ap (λ (x : Rule). x.area) one) ∙ f)));
  }

get_below : {X : Type 0} (xs : List X) (i : ℕ) (x : X) → slice_get xs i ≡ Some x → i < length xs
get_below [] i x e = absurd (cc)
get_below (y ∷ xs) zero x e = omega arith
get_below (y ∷ xs) (suc i) x e = let h = get_below xs i x e in omega (arith, h)

pub all_asked : (number : ℕ) (rules : List Rule) (k : ℕ) (asked : List Rule) → length rules ≤ k
    → AreAskedTo number rules k asked → IsAskedOf number rules asked
all_asked number rules k asked le h = record {
  from_rules = h.from_rules;
  whole = λ r m f.
      h.whole m.0 r (let lt = get_below rules m.0 r m.1 in omega (arith, lt, le)) m.1 f;
}

-- rules that are asked are good where all are
pub good_asked : (l : Layout) (rules asked : List Rule) → All (IsAmong rules) asked
    → All (IsGoodRule l) rules → All (IsGoodRule l) asked
good_asked l rules [] a g = All-nil (IsGoodRule l)
good_asked l rules (q ∷ asked) a g =
    let m = All-head (IsAmong rules) q asked a in
    All-cons (IsGoodRule l) q asked (good_at rules m.0 q g m.1)
    (good_asked l rules asked (All-tail (IsAmong rules) q asked a) g)
  where
    good_at : (rs : List Rule) (i : ℕ) (r : Rule) → All (IsGoodRule l) rs
        → slice_get rs i ≡ Some r → IsGoodRule l r
    good_at [] i r g e = absurd (cc)
    good_at (x ∷ rs) zero r g e =
        subst (IsGoodRule l) (same_some x r e) (All-head (IsGoodRule l) x rs g)
    good_at (x ∷ rs) (suc i) r g e = good_at rs i r (All-tail (IsGoodRule l) x rs g) e

-- ---- what is asked of the areas so far
abbrev pub AreAskedBelow : Layout → List (List Row) → List Rule → List AskedArea → Type 0
AreAskedBelow l rows rules xs =
    (k : ℕ) (x : AskedArea) → slice_get xs k ≡ Some x → IsAsked l rows rules k x

pub area_more : (l : Layout) (rows : List (List Row)) (rules : List Rule) (xs : List AskedArea)
    (x : AskedArea) → AreAskedBelow l rows rules xs → IsAsked l rows rules (length xs) x
    → AreAskedBelow l rows rules (xs ++ x ∷ [])
area_more l rows rules xs x h one k y e =
    subst (λ (m : ℕ). IsAsked l rows rules m y) (let q : 0 + k ≡ k = omega arith in q)
    (by xs 0
    (λ j w f. subst (λ (m : ℕ). IsAsked l rows rules m w)
    (let q : j ≡ 0 + j = omega arith in q) (h j w f))
    (subst (λ (m : ℕ). IsAsked l rows rules m x)
    (let q : length xs ≡ 0 + length xs = omega arith in q) one) k y e)
  where
    by : (ys : List AskedArea) (n : ℕ)
        → ((k : ℕ) (y : AskedArea) → slice_get ys k ≡ Some y → IsAsked l rows rules (n + k) y)
        → IsAsked l rows rules (n + length ys) x
        → (k : ℕ) (y : AskedArea) → slice_get (ys ++ x ∷ []) k ≡ Some y
        → IsAsked l rows rules (n + k) y
    by [] n g one zero y e = subst (IsAsked l rows rules (n + 0)) (same_some x y e) one
    by [] n g one (suc k) y e = absurd (cc)
    by (z ∷ ys) n g one zero y e = g zero y e
    by (z ∷ ys) n g one (suc k) y e =
        subst (λ (m : ℕ). IsAsked l rows rules m y)
        (let q : (n + 1) + k ≡ n + suc k = omega arith in q)
        (by ys (n + 1)
        (λ j w f. subst (λ (m : ℕ). IsAsked l rows rules m w)
        (let q : n + suc j ≡ (n + 1) + j = omega arith in q) (g (suc j) w f))
        (subst (λ (m : ℕ). IsAsked l rows rules m x)
        (let q : n + suc (length ys) ≡ (n + 1) + length ys = omega arith in q) one) k y e)

-- a place of a list of views
pub mapped_there : {X Y : Type 0} (f : X → Y) (xs : List X) (i : ℕ) (other : X) → i < length xs
    → slice_get (map f xs) i ≡ Some (f (get_or xs i other))
mapped_there f [] i other lt = absurd (omega (arith, lt))
mapped_there f (y ∷ xs) zero other lt = refl
mapped_there f (y ∷ xs) (suc i) other lt = mapped_there f xs i other (omega (arith, lt))

-- what holds of all views holds of one
pub all_there : {X Y : Type 0} (P : Y → Type 0) (f : X → Y) (xs : List X) (i : ℕ) (other : X)
    → i < length xs → All P (map f xs) → P (f (get_or xs i other))
all_there P f [] i other lt a = absurd (omega (arith, lt))
all_there P f (y ∷ xs) zero other lt a = All-head P (f y) (map f xs) a
all_there P f (y ∷ xs) (suc i) other lt a =
    all_there P f xs i other (omega (arith, lt)) (All-tail P (f y) (map f xs) a)

-- a place of a list
pub at_place : {X : Type 0} (xs : List X) (i : ℕ) (other : X) → i < length xs
    → slice_get xs i ≡ Some (get_or xs i other)
at_place [] i other lt = absurd (omega (arith, lt))
at_place (y ∷ xs) zero other lt = refl
at_place (y ∷ xs) (suc i) other lt = at_place xs i other (omega (arith, lt))

-- what holds of two lists, place by place, holds at one place
pub zip_there : {X Y Z : Type 0} (R : Y → Z → Type 0) (f : X → Y) (xs : List X) (zs : List Z)
    (i : ℕ) (x : X) (z : Z) → i < length zs → AllZip R (map f xs) zs
    → R (f (get_or xs i x)) (get_or zs i z)
zip_there R f [] [] i x z lt h = absurd (omega (arith, lt))
zip_there R f [] (w ∷ zs) i x z lt h = absurd h
zip_there R f (y ∷ xs) [] i x z lt h = absurd h
zip_there R f (y ∷ xs) (w ∷ zs) zero x z lt h = h.0
zip_there R f (y ∷ xs) (w ∷ zs) (suc i) x z lt h =
    zip_there R f xs zs i x z (omega (arith, lt)) h.1
