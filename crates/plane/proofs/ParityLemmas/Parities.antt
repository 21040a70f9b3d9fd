-- Where each point is the end of an even number of edges, the counts along the vertical and along
-- the sweep line have one
-- parity.
-- Each end in the wedge between the two lines counts as often as its point has edges.
use Rattle.std.proofs.Common.{◌≡◌, ℕ, suc, ◌+◌, Bool, true, false, ℤ, pos, ◌-ℤ◌, ◌<ℤ◌, inl, inr}
use Rattle.std.proofs.Common.{List, [], ◌∷◌, ◌++◌, refl, arith, ap, sym, ◌∙◌, subst}
use Rattle.std.proofs.lemmas.Int.{ints}
use Rattle.plane.specs.declared.kinds.Point.{Point}
use Rattle.plane.specs.Forms.Vectors.{Vector, Place, Edge, rise, Before, On}
use Rattle.plane.specs.Lists.{Has}
use Rattle.plane.specs.Faces.Parity.{flip, both, differ, parity, crosses_vertical, ends_of}
use Rattle.plane.specs.Faces.Parity.{same_whole, same_point, EvenEnds, either}
use Rattle.plane.proofs.ParityLemmas.ParityWords.{crosses_sweep, in_wedge, one_if, tally, Even, Odd}
use Rattle.plane.specs.Faces.Cells.{is_positive}
use Rattle.plane.proofs.ListLemmas.Points.{point_eq}
use Rattle.plane.proofs.ParityLemmas.Wedges.{not_both, is_false, wedge_law}

-- ---- truth values
pub both_false : (b : Bool) → both b false ≡ false
both_false true = refl
both_false false = refl

pub both_when : (u v s : Bool) → (s ≡ true → u ≡ v) → both u s ≡ both v s
both_when u v true h = ap (λ b. both b true) (h refl)
both_when u v false h = both_false u ∙ sym (both_false v)

pub differ_false : (b : Bool) → differ b false ≡ b
differ_false true = refl
differ_false false = refl

pub differ_self : (b : Bool) → differ b b ≡ false
differ_self true = refl
differ_self false = refl

pub differ_equal : (a b : Bool) → differ a b ≡ false → a ≡ b
differ_equal true true h = refl
differ_equal true false h = h ∙ refl
differ_equal false true h = sym h
differ_equal false false h = refl

pub differ_four : (a b c d : Bool)
    → differ (differ a b) (differ c d) ≡ differ (differ a c) (differ b d)
differ_four true true true true = refl
differ_four true true true false = refl
differ_four true true false true = refl
differ_four true true false false = refl
differ_four true false true true = refl
differ_four true false true false = refl
differ_four true false false true = refl
differ_four true false false false = refl
differ_four false true true true = refl
differ_four false true true false = refl
differ_four false true false true = refl
differ_four false true false false = refl
differ_four false false true true = refl
differ_four false false true false = refl
differ_four false false false true = refl
differ_four false false false false = refl

pub both_differ : (a b c : Bool) → both a (differ b c) ≡ differ (both a b) (both a c)
both_differ true b c = refl
both_differ false b c = refl

-- ---- parities of lists
pub parity_map : {X : Type 0} (p q : X → Bool) (xs : List X) → ((x : X) → Has x xs → p x ≡ q x)
    → parity p xs ≡ parity q xs
parity_map p q [] h = refl
parity_map p q (x ∷ xs) h = ap (λ b. differ b (parity p xs)) (h x (inl refl))
    ∙ ap (λ b. differ (q x) b) (parity_map p q xs (λ y k. h y (inr k)))

pub parity_none : {X : Type 0} (p : X → Bool) (xs : List X) → ((x : X) → Has x xs → p x ≡ false)
    → parity p xs ≡ false
parity_none p [] h = refl
parity_none p (x ∷ xs) h = ap (λ b. differ b (parity p xs)) (h x (inl refl))
    ∙ parity_none p xs (λ y k. h y (inr k))

pub parity_differ : {X : Type 0} (p q : X → Bool) (xs : List X)
    → parity (λ x. differ (p x) (q x)) xs ≡ differ (parity p xs) (parity q xs)
parity_differ p q [] = refl
parity_differ p q (x ∷ xs) = ap (λ b. differ (differ (p x) (q x)) b) (parity_differ p q xs)
    ∙ differ_four (p x) (q x) (parity p xs) (parity q xs)

pub parity_both : {X : Type 0} (c : Bool) (p : X → Bool) (xs : List X)
    → parity (λ x. both c (p x)) xs ≡ both c (parity p xs)
parity_both true p xs = refl
parity_both false p xs = parity_none (λ x. false) xs (λ x k. refl)

differ_assoc : (a b c : Bool) → differ a (differ b c) ≡ differ (differ a b) c
differ_assoc true true true = refl
differ_assoc true true false = refl
differ_assoc true false c = refl
differ_assoc false b c = refl

pub parity_append : {X : Type 0} (p : X → Bool) (xs ys : List X)
    → parity p (xs ++ ys) ≡ differ (parity p xs) (parity p ys)
parity_append p [] ys = refl
parity_append p (x ∷ xs) ys = ap (λ b. differ (p x) b) (parity_append p xs ys)
    ∙ differ_assoc (p x) (parity p xs) (parity p ys)

-- the parity of a count
abbrev pub Counted : Bool → ℕ → Type 0
Counted true n = Odd n
Counted false n = Even n

one_more : (b : Bool) (n : ℕ) → Counted b n → Counted (flip b) (1 + n)
one_more true n h = let e = h.1 in (suc h.0, omega (arith, e))
one_more false n h = let e = h.1 in (h.0, omega (arith, e))

step_counted : (t b : Bool) (n : ℕ) → Counted b n → Counted (differ t b) (one_if t + n)
step_counted true b n h = one_more b n h
step_counted false b n h = subst (λ k. Counted b k) (omega arith) h

pub counted : {X : Type 0} (p : X → Bool) (xs : List X) → Counted (parity p xs) (tally p xs)
counted p [] = (0, omega arith)
counted p (x ∷ xs) = step_counted (p x) (parity p xs) (tally p xs) (counted p xs)

not_even_odd : (n : ℕ) → Even n → Odd n → ⊥
not_even_odd n h k = let a = h.1 in let b = k.1 in halves h.0 k.0 (omega (arith, a, b))
  where
    halves : (i j : ℕ) → i + i ≡ suc (j + j) → ⊥
    halves i j e = omega (arith, e)

pub odd_parity : {X : Type 0} (p : X → Bool) (xs : List X) → Odd (tally p xs) → parity p xs ≡ true
odd_parity p xs h = by_parity (parity p xs) (tally p xs) (counted p xs) h
  where
    by_parity : (b : Bool) (n : ℕ) → Counted b n → Odd n → b ≡ true
    by_parity true n c h = refl
    by_parity false n c h = absurd (not_even_odd n c h)

pub even_parity : {X : Type 0} (p : X → Bool) (xs : List X) → Even (tally p xs)
    → parity p xs ≡ false
even_parity p xs h = by_parity (parity p xs) (tally p xs) (counted p xs) h
  where
    by_parity : (b : Bool) (n : ℕ) → Counted b n → Even n → b ≡ false
    by_parity true n c h = absurd (not_even_odd n h c)
    by_parity false n c h = refl

-- ---- points
pub both_true : (a b : Bool) → both a b ≡ true → (a ≡ true) × (b ≡ true)
both_true true b h = (refl, h)
both_true false b h = absurd (not_both (sym h))

pub flip_true : (b : Bool) → flip b ≡ true → b ≡ false
flip_true true h = absurd (not_both (sym h))
flip_true false h = refl

pub whole_is : (a b : ℤ) → same_whole a b ≡ true → a ≡ b
whole_is a b h =
    let k = both_true _ _ h in
    let x = is_false (a -ℤ b) (flip_true _ k.0) in
    let y = is_false (b -ℤ a) (flip_true _ k.1) in
    omega (arith, ints, x, y)

zero_not : (z : ℤ) → z ≡ pos 0 → is_positive z ≡ false
zero_not z h = ap is_positive h

whole_self : (a : ℤ) → same_whole a a ≡ true
whole_self a = ap (λ b. both (flip b) (flip b)) (zero_not (a -ℤ a) (omega (arith, ints)))

pub same_is : (p q : Point) → same_point p q ≡ true → p ≡ q
unfolding same_point
same_is p q h =
    let k = both_true _ _ h in point_eq p q (whole_is p.x q.x k.0) (whole_is p.y q.y k.1)

pub same_self : (p : Point) → same_point p p ≡ true
unfolding same_point
same_self p = ap (λ b. both b (same_whole p.y p.y)) (whole_self p.x) ∙ whole_self p.y

-- ---- even multiplicities: each test passes an even number of times
abbrev among_points : List Point → Point → Bool
among_points [] x = false
among_points (p ∷ ps) x = either (same_point p x) (among_points ps x)

pub split_either : (f s t : Bool)
    → both f (either s t) ≡ differ (both (both f (flip t)) s) (both f t)
split_either true true true = refl
split_either true true false = refl
split_either true false true = refl
split_either true false false = refl
split_either false s t = refl

covered : (xs : List Point) → ((p : Point) → parity (same_point p) xs ≡ false)
    → (f : Point → Bool) (ps : List Point) → parity (λ x. both (f x) (among_points ps x)) xs ≡ false
covered xs even f [] = parity_none (λ x. both (f x) false) xs (λ x k. both_false (f x))
covered xs even f (p ∷ ps) =
    let g : Point → Bool = λ x. both (both (f x) (flip (among_points ps x))) (same_point p x) in
    let c : Bool = both (f p) (flip (among_points ps p)) in
    parity_map (λ x. both (f x) (among_points (p ∷ ps) x))
    (λ x. differ (g x) (both (f x) (among_points ps x))) xs
    (λ x k. split_either (f x) (same_point p x) (among_points ps x))
    ∙ parity_differ g (λ x. both (f x) (among_points ps x)) xs
    ∙ ap (λ b. differ (parity g xs) b) (covered xs even f ps)
    ∙ differ_false (parity g xs)
    ∙ parity_map g (λ x. both c (same_point p x)) xs
    (λ x k. both_when (both (f x) (flip (among_points ps x))) c (same_point p x)
    (λ s. ap (λ y. both (f y) (flip (among_points ps y))) (sym (same_is p x s))))
    ∙ parity_both c (same_point p) xs
    ∙ ap (λ b. both c b) (even p)
    ∙ both_false c

is_among : (xs : List Point) (x : Point) → Has x xs → among_points xs x ≡ true
is_among [] x k = absurd k
is_among (y ∷ ys) x (inl e) =
    ap (λ b. either b (among_points ys x)) (subst (λ q. same_point q x ≡ true) e (same_self x))
is_among (y ∷ ys) x (inr k) = ap (λ b. either (same_point y x) b) (is_among ys x k)
    ∙ either_true (same_point y x)
  where
    either_true : (b : Bool) → either b true ≡ true
    either_true true = refl
    either_true false = refl

pub both_right : (b : Bool) → both b true ≡ b
both_right true = refl
both_right false = refl

pub even_any : (xs : List Point) → ((p : Point) → parity (same_point p) xs ≡ false)
    → (f : Point → Bool) → parity f xs ≡ false
even_any xs even f =
    parity_map f (λ x. both (f x) (among_points xs x)) xs
    (λ x k. sym (ap (λ b. both (f x) b) (is_among xs x k) ∙ both_right (f x)))
    ∙ covered xs even f xs

-- ---- the two counts
pub parity_ends : (f : Point → Bool) (es : List Edge)
    → parity f (ends_of es) ≡ parity (λ e. differ (f e.low) (f e.high)) es
parity_ends f [] = refl
parity_ends f (e ∷ es) = differ_assoc (f e.low) (f e.high) (parity f (ends_of es))
    ∙ ap (λ b. differ (differ (f e.low) (f e.high)) b) (parity_ends f es)

-- what is asked of an edge
pub record Plain (w : ℤ) (z : Vector) (e : Edge) : Type 0 where
  pub rises : Before e.low e.high
  pub up : pos 0 <ℤ rise w e
  pub off : On w e z → ⊥

pub crossings_agree : (w : ℤ) (z : Vector) (es : List Edge) → Place z
    → ((e : Edge) → Has e es → Plain w z e) → EvenEnds es
    → parity (crosses_vertical z) es ≡ parity (crosses_sweep w z) es
crossings_agree w z es hz plain even =
    differ_equal (parity (crosses_vertical z) es) (parity (crosses_sweep w z) es)
    (sym (parity_differ (crosses_vertical z) (crosses_sweep w z) es)
    ∙ parity_map (λ e. differ (crosses_vertical z e) (crosses_sweep w z e))
    (λ e. differ (in_wedge w z e.low) (in_wedge w z e.high)) es
    (λ e k. let p = plain e k in wedge_law w z e hz p.rises p.up p.off)
    ∙ sym (parity_ends (in_wedge w z) es)
    ∙ even_any (ends_of es) even (in_wedge w z))
