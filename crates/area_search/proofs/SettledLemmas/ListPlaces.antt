-- Edges at places of a live list.
use Rattle.std.proofs.Common.{◌≡◌, inl, inr, ℕ, zero, suc, ◌<◌, ◌≤◌, Option, Some, None, List, []}
use Rattle.std.proofs.Common.{◌∷◌, length, get_or, map, slice_index_or, refl, sym, ap, ◌∙◌, arith}
use Rattle.plane.specs.Faces.Halves.{At, AtBefore}
use Rattle.plane.specs.Faces.Labels.{Labels, label_at}
use Rattle.plane.specs.Lists.{Has}
use Rattle.plane.specs.Runs.Gaps.{edge_at, edge_before}
use Rattle.plane.specs.declared.kinds.Placed.{Placed}
use Rattle.straight_predicates.specs.EdgeLists.{no_point}

-- ---- places
pub at_is : (es : List ℕ) (i e : ℕ) → edge_at es i ≡ Some e → At es i e
at_is [] i e h = absurd (cc)
at_is (f ∷ es) zero e h = (let p : f ≡ e = cc in sym p)
at_is (f ∷ es) (suc i) e h = at_is es i e h

pub is_at : (es : List ℕ) (i e : ℕ) → At es i e → edge_at es i ≡ Some e
is_at [] i e h = absurd h
is_at (f ∷ es) zero e h = ap (λ (x : ℕ). Some x) (sym h)
is_at (f ∷ es) (suc i) e h = is_at es i e h

pub before_is : (es : List ℕ) (i e : ℕ) → edge_before es i ≡ Some e → AtBefore es i e
before_is es zero e h = absurd (cc)
before_is es (suc i) e h = at_is es i e h

pub is_before : (es : List ℕ) (i e : ℕ) → AtBefore es i e → edge_before es i ≡ Some e
is_before es zero e h = absurd h
is_before es (suc i) e h = is_at es i e h

pub at_has : (es : List ℕ) (i e : ℕ) → edge_at es i ≡ Some e → Has e es
at_has [] i e h = absurd (cc)
at_has (f ∷ es) zero e h = inl (let p : f ≡ e = cc in sym p)
at_has (f ∷ es) (suc i) e h = inr (at_has es i e h)

pub before_has : (es : List ℕ) (i e : ℕ) → edge_before es i ≡ Some e → Has e es
before_has es zero e h = absurd (cc)
before_has es (suc i) e h = at_has es i e h

pub some_edge : (es : List ℕ) (i : ℕ) → i < length es → (e : ℕ) × (edge_at es i ≡ Some e)
some_edge [] i h = absurd (omega (arith, h))
some_edge (e ∷ es) zero h = (e, refl)
some_edge (e ∷ es) (suc i) h = some_edge es i (omega (arith, h))

-- ---- numbers in order
pub less_equal_or : (i j : ℕ) (P : Type 0) → (i < j → P) → (i ≡ j → P) → (j < i → P) → P
less_equal_or zero zero P f g h = g refl
less_equal_or zero (suc j) P f g h = f (omega arith)
less_equal_or (suc i) zero P f g h = h (omega arith)
less_equal_or (suc i) (suc j) P f g h =
    less_equal_or i j P (λ l. f (omega (arith, l))) (λ e. g (ap suc e)) (λ l. h (omega (arith, l)))

-- ---- the label under a place of a list
abbrev pub over_or : Labels → ℕ → Option ℕ → ℕ
over_or a l None = l
over_or a l (Some e) = a.above e

pub label_before : (a : Labels) (l i : ℕ) (es : List ℕ) → i ≤ length es
    → label_at a l i es ≡ over_or a l (edge_before es i)
label_before a l zero es h = refl
label_before a l (suc i) [] h = absurd (omega (arith, h))
label_before a l (suc zero) (e ∷ es) h = refl
label_before a l (suc (suc i)) (e ∷ es) h =
    let s = some_edge es i (omega (arith, h)) in
    label_before a (a.above e) (suc i) es (omega (arith, h)) ∙ ap (over_or a (a.above e)) s.1
    ∙ sym (ap (over_or a l) s.1)

-- ---- points by number
pub nth_point : (ps : List Placed) (j : ℕ) (x : Placed) → j < length ps
    → slice_index_or (map (λ (p : Placed). p.at) ps) j no_point ≡ (get_or ps j x).at
nth_point [] j x h = absurd (omega (arith, h))
nth_point (p ∷ ps) zero x h = refl
nth_point (p ∷ ps) (suc j) x h = nth_point ps j x (omega (arith, h))
