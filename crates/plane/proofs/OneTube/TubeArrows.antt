-- At each corner of a tube one bound starts and one arrives.
use Rattle.std.proofs.Common.{◌≡◌, ℕ, ◌⊎◌, inl, inr, List, [], ◌∷◌, map, ℤ, ◌-ℤ◌, ◌<ℤ◌, ◌≤ℤ◌, refl}
use Rattle.std.proofs.Common.{arith, ap, sym, ◌∙◌, subst}
use Rattle.std.proofs.lemmas.Int.{ints}
use Rattle.plane.specs.declared.kinds.Point.{Point}
use Rattle.plane.specs.Lists.{Has, Once}
use Rattle.plane.specs.Forms.Vectors.{point, Edge}
use Rattle.plane.specs.Faces.Halves.{Half, under, over, edge_of, twin}
use Rattle.plane.specs.Forms.Arcs.{HalfArc, along}
use Rattle.plane.specs.Tubes.Bays.{Bay, AreBays}
use Rattle.plane.specs.Tubes.Windings.{fence}
use Rattle.plane.specs.Faces.Directions.{Direction, origin, direction}
use Rattle.plane.specs.Tubes.Facing.{way}

abbrev A : HalfArc → Point → ℤ
A h p = along h (point p)

clash : (h : HalfArc) (p q : Point) → p ≡ q → A h p <ℤ A h q → ⊥
clash h p q e l = let x = ap (λ (v : Point). A h v) e in omega (arith, ints, x, l)

clash_back : (h : HalfArc) (p q : Point) → p ≡ q → A h q <ℤ A h p → ⊥
clash_back h p q e l = let x = ap (λ (v : Point). A h v) e in omega (arith, ints, x, l)

low_after : (h : HalfArc) (p u : Point) (ks : List Bay) (e : Edge) → AreBays h p ks
    → Has e (fence p u ks) → A h p ≤ℤ A h e.low
low_after h p u [] e are (inl m) =
    subst (λ (f : Edge). A h p ≤ℤ A h f.low) (sym m) (omega (arith, ints))
low_after h p u [] e are (inr m) = absurd m
low_after h p u (k ∷ ks) e are (inl m) =
    subst (λ (f : Edge). A h p ≤ℤ A h f.low) (sym m) (omega (arith, ints))
low_after h p u (k ∷ ks) e are (inr (inl m)) =
    let up = are.0.up in subst (λ (f : Edge). A h p ≤ℤ A h f.low) (sym m) (omega (arith, ints, up))
low_after h p u (k ∷ ks) e are (inr (inr m)) =
    let up = are.0.up in
    let on = are.0.on in
    let l = low_after h k.inner k.outer ks e are.1 m in omega (arith, ints, up, on, l)

abbrev IsHigh : HalfArc → Point → Point → Edge → Type 0
IsHigh h p u e = (e.high ≡ u) ⊎ (A h p <ℤ A h e.high)

high_after : (h : HalfArc) (p u : Point) (ks : List Bay) (e : Edge) → AreBays h p ks
    → Has e (fence p u ks) → IsHigh h p u e
high_after h p u [] e are (inl m) = inl (ap (λ (f : Edge). f.high) m)
high_after h p u [] e are (inr m) = absurd m
high_after h p u (k ∷ ks) e are (inl m) =
    let up = are.0.up in
    let on = are.0.on in
    inr (subst (λ (f : Edge). A h p <ℤ A h f.high) (sym m) (omega (arith, ints, up, on)))
high_after h p u (k ∷ ks) e are (inr (inl m)) = inl (ap (λ (f : Edge). f.high) m)
high_after h p u (k ∷ ks) e are (inr (inr m)) = later (high_after h k.inner k.outer ks e are.1 m)
  where
    later : IsHigh h k.inner k.outer e → IsHigh h p u e
    later (inl x) = let up = are.0.up in inr (subst (λ (q : Point). A h p <ℤ A h q) (sym x) up)
    later (inr l) = let up = are.0.up in let on = are.0.on in inr (omega (arith, ints, up, on, l))

-- ---- one bound starts at each corner
pub starts_one : (h : HalfArc) (p u : Point) (ks : List Bay) (e f : Edge) → AreBays h p ks
    → Has e (fence p u ks) → Has f (fence p u ks) → e.low ≡ f.low → e ≡ f
starts_one h p u [] e f are (inl m) (inl n) q = m ∙ sym n
starts_one h p u [] e f are (inl m) (inr n) q = absurd n
starts_one h p u [] e f are (inr m) n q = absurd m
starts_one h p u (k ∷ ks) e f are (inl m) (inl n) q = m ∙ sym n
starts_one h p u (k ∷ ks) e f are (inl m) (inr (inl n)) q =
    absurd (clash h p k.outer (sym (ap (λ (x : Edge). x.low) m) ∙ q
    ∙ ap (λ (x : Edge). x.low) n) are.0.up)
starts_one h p u (k ∷ ks) e f are (inl m) (inr (inr n)) q =
    let up = are.0.up in let on = are.0.on in let l = low_after h k.inner k.outer ks f are.1 n in
    absurd (clash h p f.low (sym (ap (λ (x : Edge). x.low) m) ∙ q) (omega (arith, ints, up, on, l)))
starts_one h p u (k ∷ ks) e f are (inr (inl m)) (inl n) q =
    absurd (clash_back h k.outer p (sym (ap (λ (x : Edge). x.low) m) ∙ q
    ∙ ap (λ (x : Edge). x.low) n) are.0.up)
starts_one h p u (k ∷ ks) e f are (inr (inl m)) (inr (inl n)) q = m ∙ sym n
starts_one h p u (k ∷ ks) e f are (inr (inl m)) (inr (inr n)) q =
    let on = are.0.on in let l = low_after h k.inner k.outer ks f are.1 n in
    absurd (clash h k.outer f.low (sym (ap (λ (x : Edge). x.low) m) ∙ q)
    (omega (arith, ints, on, l)))
starts_one h p u (k ∷ ks) e f are (inr (inr m)) (inl n) q =
    let up = are.0.up in let on = are.0.on in let l = low_after h k.inner k.outer ks e are.1 m in
    absurd (clash_back h e.low p (q ∙ ap (λ (x : Edge). x.low) n) (omega (arith, ints, up, on, l)))
starts_one h p u (k ∷ ks) e f are (inr (inr m)) (inr (inl n)) q =
    let on = are.0.on in let l = low_after h k.inner k.outer ks e are.1 m in
    absurd (clash_back h e.low k.outer (q ∙ ap (λ (x : Edge). x.low) n)
    (omega (arith, ints, on, l)))
starts_one h p u (k ∷ ks) e f are (inr (inr m)) (inr (inr n)) q =
    starts_one h k.inner k.outer ks e f are.1 m n q

-- ---- and one arrives
-- the high end of a later bound is neither u nor the next inner corner
not_first : (h : HalfArc) (p u : Point) (k : Bay) (ks : List Bay) (e : Edge) → A h u ≤ℤ A h p
    → AreBays h p (k ∷ ks) → Has e (fence k.inner k.outer ks)
    → (e.high ≡ k.inner → ⊥) × (e.high ≡ u → ⊥)
not_first h p u k ks e l are m =
    let up = are.0.up in let on = are.0.on in
    elim (high_after h k.inner k.outer ks e are.1 m) [
      | inl x ↦ (
        λ y. clash h k.outer k.inner (sym x ∙ y) on,
        λ y. clash_back h k.outer u (sym x ∙ y) (omega (arith, ints, l, up)),
      )
      | inr x ↦ (
        λ y. clash_back h e.high k.inner y x,
        λ y. clash_back h e.high u y (omega (arith, ints, l, up, on, x)),
      )
    ]

pub arrives_one : (h : HalfArc) (p u : Point) (ks : List Bay) (e f : Edge) → A h u ≤ℤ A h p
    → AreBays h p ks → Has e (fence p u ks) → Has f (fence p u ks) → e.high ≡ f.high → e ≡ f
arrives_one h p u [] e f l are (inl m) (inl n) q = m ∙ sym n
arrives_one h p u [] e f l are (inl m) (inr n) q = absurd n
arrives_one h p u [] e f l are (inr m) n q = absurd m
arrives_one h p u (k ∷ ks) e f l are (inl m) (inl n) q = m ∙ sym n
arrives_one h p u (k ∷ ks) e f l are (inl m) (inr (inl n)) q =
    let up = are.0.up in let on = are.0.on in
    absurd (clash_back h k.inner u (sym (ap (λ (x : Edge). x.high) m) ∙ q
    ∙ ap (λ (x : Edge). x.high) n) (omega (arith, ints, l, up, on)))
arrives_one h p u (k ∷ ks) e f l are (inl m) (inr (inr n)) q =
    absurd ((not_first h p u k ks f l are n).0 (sym q ∙ ap (λ (x : Edge). x.high) m))
arrives_one h p u (k ∷ ks) e f l are (inr (inl m)) (inl n) q =
    let up = are.0.up in let on = are.0.on in
    absurd (clash h u k.inner (sym (ap (λ (x : Edge). x.high) m) ∙ q ∙ ap (λ (x : Edge). x.high) n)
    (omega (arith, ints, l, up, on)))
arrives_one h p u (k ∷ ks) e f l are (inr (inl m)) (inr (inl n)) q = m ∙ sym n
arrives_one h p u (k ∷ ks) e f l are (inr (inl m)) (inr (inr n)) q =
    absurd ((not_first h p u k ks f l are n).1 (sym q ∙ ap (λ (x : Edge). x.high) m))
arrives_one h p u (k ∷ ks) e f l are (inr (inr m)) (inl n) q =
    absurd ((not_first h p u k ks e l are m).0 (q ∙ ap (λ (x : Edge). x.high) n))
arrives_one h p u (k ∷ ks) e f l are (inr (inr m)) (inr (inl n)) q =
    absurd ((not_first h p u k ks e l are m).1 (q ∙ ap (λ (x : Edge). x.high) n))
arrives_one h p u (k ∷ ks) e f l are (inr (inr m)) (inr (inr n)) q =
    let on = are.0.on in arrives_one h k.inner k.outer ks e f (omega (arith, ints, on)) are.1 m n q

-- ---- half-edges as arrows
pub origin_way : (E : ℕ → Edge) (g : Half) → origin E g ≡ (way E g).low
origin_way E (over e) = refl
origin_way E (under e) = refl

pub origin_twin : (E : ℕ → Edge) (g : Half) → origin E (twin g) ≡ (way E g).high
origin_twin E (over e) = refl
origin_twin E (under e) = refl

abbrev pub from_to : Edge → Direction
from_to e = record { x = e.high.x -ℤ e.low.x; y = e.high.y -ℤ e.low.y }

pub direction_way : (E : ℕ → Edge) (g : Half) → direction E g ≡ from_to (way E g)
direction_way E (over e) = refl
direction_way E (under e) = refl

-- of a list without repeated edges each half-edge is told by its edge
pub once_half : (hs : List Half) (f g : Half) → Once (map edge_of hs) → Has f hs → Has g hs
    → edge_of f ≡ edge_of g → f ≡ g
once_half [] f g o m n q = absurd m
once_half (x ∷ hs) f g o (inl m) (inl n) q = m ∙ sym n
once_half (x ∷ hs) f g o (inl m) (inr n) q = absurd (o.0 (in_map hs n (sym (ap edge_of m) ∙ q)))
  where
    in_map : (hs : List Half) → Has g hs → edge_of x ≡ edge_of g → Has (edge_of x) (map edge_of hs)
    in_map [] m e = absurd m
    in_map (y ∷ ys) (inl m) e = inl (e ∙ ap edge_of m)
    in_map (y ∷ ys) (inr m) e = inr (in_map ys m e)
once_half (x ∷ hs) f g o (inr m) (inl n) q = absurd (o.0 (in_map hs m (sym (ap edge_of n) ∙ sym q)))
  where
    in_map : (hs : List Half) → Has f hs → edge_of x ≡ edge_of f → Has (edge_of x) (map edge_of hs)
    in_map [] m e = absurd m
    in_map (y ∷ ys) (inl m) e = inl (e ∙ ap edge_of m)
    in_map (y ∷ ys) (inr m) e = inr (in_map ys m e)
once_half (x ∷ hs) f g o (inr m) (inr n) q = once_half hs f g o.1 m n q
