-- Lists on which a number is first above 0 and then below 0.
-- The live list at a place off the edges is one.
use Rattle.std.proofs.Common.{◌≡◌, ℕ, zero, suc, ◌+◌, ◌≤◌, Bool, cond, List, [], ◌∷◌, ◌++◌, length}
use Rattle.std.proofs.Common.{map, ℤ, pos, ◌<ℤ◌, ◌≤ℤ◌, refl, arith, ap, sym, ◌∙◌, ◌⊎◌, inl, inr}
use Rattle.std.proofs.Common.{subst}
use Rattle.std.proofs.lemmas.Int.{ints}
use Rattle.plane.specs.Lists.{Has}
use Rattle.plane.specs.Forms.Vectors.{Vector, side}
use Rattle.plane.specs.Faces.Replays.{Replay}
use Rattle.plane.specs.Runs.Steps.{Divides}
use Rattle.plane.proofs.ListLemmas.Lists.{each_has}
use Rattle.plane.specs.Faces.Cells.{raised}
use Rattle.plane.proofs.Strips.CountBelow.{positive_is, not_positive, raised_append, raised_all}
use Rattle.plane.proofs.Strips.CountBelow.{raised_none}
use Rattle.plane.proofs.Strips.Heights.{Parts}

pub parts_map : {X Y : Type 0} (f : X → ℤ) (g : Y → X) (i : ℕ) (ys : List Y) → Parts f i (map g ys)
    → Parts (λ y. f (g y)) i ys
parts_map f g i [] h = tt
parts_map f g zero (y ∷ ys) h = (h.0, parts_map f g zero ys h.1)
parts_map f g (suc i) (y ∷ ys) h = (h.0, parts_map f g i ys h.1)

pub parts_like : {X : Type 0} (f g : X → ℤ) (i : ℕ) (xs : List X) → ((x : X) → f x ≡ g x)
    → Parts f i xs → Parts g i xs
parts_like f g i [] e h = tt
parts_like f g zero (x ∷ xs) e h =
    (subst (λ (z : ℤ). z <ℤ pos 0) (e x) h.0, parts_like f g zero xs e h.1)
parts_like f g (suc i) (x ∷ xs) e h =
    (subst (λ (z : ℤ). pos 0 <ℤ z) (e x) h.0, parts_like f g i xs e h.1)

-- two such numbers have one sign at each element
pub parts_agree : {X : Type 0} (f g : X → ℤ) (i : ℕ) (xs : List X) → Parts f i xs → Parts g i xs
    → (x : X) → Has x xs
    → ((pos 0 <ℤ f x) × (pos 0 <ℤ g x)) ⊎ ((f x <ℤ pos 0) × (g x <ℤ pos 0))
parts_agree f g i [] h k x m = absurd m
parts_agree f g zero (y ∷ ys) h k x (inl e) =
    inr (subst (λ z. f z <ℤ pos 0) (sym e) h.0, subst (λ z. g z <ℤ pos 0) (sym e) k.0)
parts_agree f g zero (y ∷ ys) h k x (inr m) = parts_agree f g zero ys h.1 k.1 x m
parts_agree f g (suc i) (y ∷ ys) h k x (inl e) =
    inl (subst (λ z. pos 0 <ℤ f z) (sym e) h.0, subst (λ z. pos 0 <ℤ g z) (sym e) k.0)
parts_agree f g (suc i) (y ∷ ys) h k x (inr m) = parts_agree f g i ys h.1 k.1 x m

pub parts_nonzero : {X : Type 0} (f : X → ℤ) (i : ℕ) (xs : List X) → Parts f i xs → (x : X)
    → Has x xs → f x ≡ pos 0 → ⊥
parts_nonzero f i xs h x m e =
    elim (parts_agree f f i xs h h x m) [
      | inl a ↦ (let b = a.0 in omega (arith, ints))
      | inr a ↦ (let b = a.0 in omega (arith, ints))
    ]

pub parts_none : {X : Type 0} (f : X → ℤ) (xs : List X) → ((x : X) → Has x xs → f x <ℤ pos 0)
    → Parts f 0 xs
parts_none f [] h = tt
parts_none f (x ∷ xs) h = (h x (inl refl), parts_none f xs (λ y m. h y (inr m)))

pub parts_low : {X : Type 0} (f : X → ℤ) (i : ℕ) (xs ys : List X) → i ≤ length xs → Parts f i xs
    → ((y : X) → Has y ys → f y <ℤ pos 0) → Parts f i (xs ++ ys)
parts_low f zero [] ys l h k = parts_none f ys k
parts_low f (suc i) [] ys l h k = absurd (omega arith)
parts_low f zero (x ∷ xs) ys l h k = (h.0, parts_low f zero xs ys (omega arith) h.1 k)
parts_low f (suc i) (x ∷ xs) ys l h k = (h.0, parts_low f i xs ys (omega arith) h.1 k)

pub parts_high : {X : Type 0} (f : X → ℤ) (n i : ℕ) (xs ys : List X) → n ≡ length xs + i
    → ((x : X) → Has x xs → pos 0 <ℤ f x) → Parts f i ys → Parts f n (xs ++ ys)
parts_high f n i [] ys e h k = subst (λ (j : ℕ). Parts f j ys) (let g : i ≡ n = omega arith in g) k
parts_high f zero i (x ∷ xs) ys e h k = absurd (omega arith)
parts_high f (suc n) i (x ∷ xs) ys e h k =
    (h x (inl refl), parts_high f n i xs ys (omega arith) (λ y m. h y (inr m)) k)

pub parts_last : {X : Type 0} (f : X → ℤ) (i : ℕ) (xs : List X) (x : X) → i ≤ length xs
    → Parts f i (xs ++ (x ∷ [])) → Parts f i xs × (f x <ℤ pos 0)
parts_last f zero [] x l h = (tt, h.0)
parts_last f (suc i) [] x l h = absurd (omega arith)
parts_last f zero (y ∷ ys) x l h =
    let k = parts_last f zero ys x (omega arith) h.1 in ((h.0, k.0), k.1)
parts_last f (suc i) (y ∷ ys) x l h =
    let k = parts_last f i ys x (omega arith) h.1 in ((h.0, k.0), k.1)

-- ---- the sides of a list's edges
abbrev pub sides : Replay → Vector → ℕ → ℤ
sides r z e = side (r.edge e) z

pub parts_count : (r : Replay) (z : Vector) (i : ℕ) (es : List ℕ) → i ≤ length es
    → Parts (sides r z) i es → raised r z es ≡ i
parts_count r z zero [] l h = refl
parts_count r z (suc i) [] l h = absurd (omega arith)
parts_count r z zero (e ∷ es) l h =
    let a = h.0 in
    ap (λ (t : Bool). cond t (suc (raised r z es)) (raised r z es))
    (not_positive (side (r.edge e) z) (omega (arith, ints)))
    ∙ parts_count r z zero es (omega arith) h.1
parts_count r z (suc i) (e ∷ es) l h =
    let a = parts_count r z i es (omega arith) h.1 in
    ap (λ (t : Bool). cond t (suc (raised r z es)) (raised r z es))
    (positive_is (side (r.edge e) z) h.0) ∙ ap (λ (n : ℕ). suc n) a

pub divided_parts : (r : Replay) (z : Vector) (es : List ℕ) → Divides r.edge z es
    → Parts (sides r z) (raised r z es) es
divided_parts r z es h =
    let under : (e : ℕ) → Has e h.lower
    → pos 0 <ℤ side (r.edge e) z =
    λ e m. each_has (λ e. pos 0 <ℤ side (r.edge e) z) h.lower e h.under m in
    let over : (e : ℕ) → Has e h.upper
    → side (r.edge e) z <ℤ pos 0 =
    λ e m. each_has (λ e. side (r.edge e) z <ℤ pos 0) h.upper e h.over m in
    let a = raised_append r z h.lower h.upper in
    let b = raised_all r z h.lower under in
    let c : raised r z h.upper ≡ 0 = raised_none r z h.upper (λ e m. weak (over e m)) in
    let e = ap (raised r z) h.is in
    subst (λ (s : List ℕ). Parts (sides r z) (raised r z es) s) (sym h.is)
    (parts_high (sides r z) (raised r z es) 0 h.lower h.upper (omega (arith, a, b, c, e)) under
    (parts_none (sides r z) h.upper over))
  where
    weak : {z : ℤ} → z <ℤ pos 0 → z ≤ℤ pos 0
    weak l = omega (arith, ints)
