-- The half arcs among the curves of a drawing, by number.
use Rattle.std.proofs.Common.{◌≡◌, ℕ, zero, suc, ◌+◌, ◌<◌, List, [], ◌∷◌, length, get_or, ◌⊎◌, inl}
use Rattle.std.proofs.Common.{inr, refl, arith, sym, subst}
use Rattle.plane.specs.declared.kinds.Curve.{Curve}
use Rattle.plane.specs.declared.kinds.CurveKind.{CurveKind}
use Rattle.plane.specs.declared.kinds.CurveKind.TheVariants as kind
use Rattle.plane.specs.CurveRuns.TubedRuns.{listed_arc, half_arcs}

pub decide_kind : (k : CurveKind) → (k ≡ kind.Straight) ⊎ (k ≡ kind.HalfArc)
decide_kind kind.Straight = inl refl
decide_kind kind.HalfArc = inr refl

abbrev Rises : List ℕ → Type 0
Rises is = (a b : ℕ) → a < b → b < length is → get_or is a 0 < get_or is b 0

module _ (no_curve : Curve) where
  -- number i, of a list that begins with number j, is that of a half arc
  pub record IsArcOf (j : ℕ) (cs : List Curve) (i : ℕ) : Type 0 where
    pub index : ℕ
    pub fits : index < length cs
    pub number : i ≡ j + index
    pub bent : (get_or cs index no_curve).kind ≡ kind.HalfArc

  later : (j : ℕ) (c : Curve) (cs : List Curve) (i : ℕ) → IsArcOf (suc j) cs i
      → IsArcOf j (c ∷ cs) i
  later j c cs i h =
      let a = h.fits in
      let b = h.number in
      record {
        index = suc h.index;
        fits = omega (arith, a);
        number = omega (arith, b);
        bent = h.bent;
      }

  pub arc_of : (j : ℕ) (cs : List Curve) (k : ℕ) → k < length (half_arcs j cs)
      → IsArcOf j cs (get_or (half_arcs j cs) k 0)
  arc_of j [] k l = absurd (omega arith)
  arc_of j (c ∷ cs) k l = by_kind c.kind refl (λ n o. arc_of (suc j) cs n o) l
    where
      here : c.kind ≡ kind.HalfArc
          → ((n : ℕ) → n < length (half_arcs (suc j) cs)
          → IsArcOf (suc j) cs (get_or (half_arcs (suc j) cs) n 0))
          → (n : ℕ) → n < suc (length (half_arcs (suc j) cs))
          → IsArcOf j (c ∷ cs) (get_or (j ∷ half_arcs (suc j) cs) n 0)
      here e again zero o = record { index = 0; fits = omega arith; number = omega arith; bent = e }
      here e again (suc n) o = later j c cs _ (again n (omega (arith, o)))

      by_kind : (kd : CurveKind) → c.kind ≡ kd
          → ((n : ℕ) → n < length (half_arcs (suc j) cs)
          → IsArcOf (suc j) cs (get_or (half_arcs (suc j) cs) n 0))
          → k < length (listed_arc kd j (half_arcs (suc j) cs))
          → IsArcOf j (c ∷ cs) (get_or (listed_arc kd j (half_arcs (suc j) cs)) k 0)
      by_kind kind.Straight e again m = later j c cs _ (again k m)
      by_kind kind.HalfArc e again m = here e again k m

  -- the numbers rise
  pub arcs_rise : (j : ℕ) (cs : List Curve) (a b : ℕ) → a < b → b < length (half_arcs j cs)
      → get_or (half_arcs j cs) a 0 < get_or (half_arcs j cs) b 0
  arcs_rise j [] a b l m = absurd (omega arith)
  arcs_rise j (c ∷ cs) a b l m = by_kind c.kind (λ n o p q. arcs_rise (suc j) cs n o p q) a b l m
    where
      here : Rises (half_arcs (suc j) cs) → Rises (j ∷ half_arcs (suc j) cs)
      here again a zero l m = absurd (omega arith)
      here again zero (suc b) l m =
          let r = arc_of (suc j) cs b (omega (arith, m)) in let n = r.number in omega (arith, n)
      here again (suc a) (suc b) l m = again a b (omega (arith, l)) (omega (arith, m))

      by_kind : (kd : CurveKind) → Rises (half_arcs (suc j) cs)
          → Rises (listed_arc kd j (half_arcs (suc j) cs))
      by_kind kind.Straight again = again
      by_kind kind.HalfArc again = here again

  -- each half arc is listed
  pub arc_listed : (j : ℕ) (cs : List Curve) (i : ℕ) → i < length cs
      → (get_or cs i no_curve).kind ≡ kind.HalfArc
      → (k : ℕ) × (k < length (half_arcs j cs)) × (get_or (half_arcs j cs) k 0 ≡ j + i)
  arc_listed j [] i l e = absurd (omega arith)
  arc_listed j (c ∷ cs) zero l e =
      subst (λ (kd : CurveKind). (k : ℕ) × (k < length (listed_arc kd j (half_arcs (suc j) cs)))
      × (get_or (listed_arc kd j (half_arcs (suc j) cs)) k 0 ≡ j + 0)) (sym e)
      (0, omega arith, omega arith)
  arc_listed j (c ∷ cs) (suc i) l e = by_kind c.kind (arc_listed (suc j) cs i (omega (arith, l)) e)
    where
      by_kind : (kd : CurveKind)
          → (k : ℕ) × (k < length (half_arcs (suc j) cs))
          × (get_or (half_arcs (suc j) cs) k 0 ≡ suc j + i)
          → (k : ℕ) × (k < length (listed_arc kd j (half_arcs (suc j) cs)))
          × (get_or (listed_arc kd j (half_arcs (suc j) cs)) k 0 ≡ j + suc i)
      by_kind kind.Straight h = let m = h.2 in (h.0, h.1, omega (arith, m))
      by_kind kind.HalfArc h =
          let l = h.1 in let m = h.2 in (suc h.0, omega (arith, l), omega (arith, m))
