-- Marks gap by gap, and event by event.
use Rattle.std.proofs.Common.{◌≡◌, ◌↔◌, ◌⊎◌, ℕ, suc, ◌+◌, ◌*◌, ◌<◌, ◌≤◌, ◌≢◌, inl, inr, Bool, true}
use Rattle.std.proofs.Common.{false, Option, Some, None, List, [], ◌∷◌, length, drop, get_or, set}
use Rattle.std.proofs.Common.{get_or-set_same, get_or-set_other, refl, arith, ap, sym, ◌∙◌, subst}
use Rattle.std.proofs.Common.{add-one, drop-cons, drop_of_length-le}
use Rattle.plane.specs.Faces.Halves.{Half, half_of, number, over, under}
use Rattle.plane.specs.Runs.Gaps.{Gap, gaps_between}
use Rattle.certificate.specs.declared.notes.HalfNote.{HalfNote}
use Rattle.certificate_checker.proofs.PlaneLaws.{half_number, number_half}
use Rattle.certificate_checker.proofs.ListParts.{by_eq}
use Rattle.certificate_checker.specs.Marked.{AreMarked, IsAtBorder, IsMarked, IsNamed, NamesAcross}
use Rattle.certificate_checker.specs.Marked.{OfSome}

module _ (P : Gap → Half → Type 0) where
  -- so far, and by the gaps that are left, as by all gaps from the beginning
  abbrev pub IsMarking : List Bool → List Gap → List Bool → List Gap → Type 0
  IsMarking now rest old all = (h : Half)
      → (IsMarked now h ⊎ OfSome P rest h) ↔ (IsMarked old h ⊎ OfSome P all h)

  some_cons : (g : Gap) (gs : List Gap) (h : Half) → OfSome P (g ∷ gs) h → P g h ⊎ OfSome P gs h
  some_cons g gs h (x, inl e, p) = inl (subst (λ y. P y h) e p)
  some_cons g gs h (x, inr k, p) = inr (x, k, p)

  cons_some : (g : Gap) (gs : List Gap) (h : Half) → P g h ⊎ OfSome P gs h → OfSome P (g ∷ gs) h
  cons_some g gs h (inl p) = (g, inl refl, p)
  cons_some g gs h (inr q) = (q.0, inr q.1, q.2)

  none_some : (h : Half) → OfSome P [] h → ⊥
  none_some h q = q.1

  pub marking_more : (now new old : List Bool) (g : Gap) (rest all : List Gap)
      → AreMarked P (g ∷ []) now new → IsMarking now (g ∷ rest) old all → IsMarking new rest old all
  marking_more now new old g rest all m i h = (
    (λ x. (i h).0 (elim x [
      | inl a ↦ elim ((m.each h).0 a) [
        | inl b ↦ inl b
        | inr b ↦ elim (some_cons g [] h b) [
          | inl p ↦ inr (cons_some g rest h (inl p))
          | inr n ↦ absurd (none_some h n)
        ]
      ]
      | inr q ↦ inr (cons_some g rest h (inr q))
    ])),
    (λ x. elim ((i h).1 x) [
      | inl a ↦ inl ((m.each h).1 (inl a))
      | inr q ↦ elim (some_cons g rest h q)
          [ inl p ↦ inl ((m.each h).1 (inr (cons_some g [] h (inl p)))) | inr r ↦ inr r ]
    ]),
  )

  pub marking_end : (now new old : List Bool) (g : Gap) (all : List Gap)
      → AreMarked P (g ∷ []) now new → IsMarking now (g ∷ []) old all → AreMarked P all old new
  marking_end now new old g all m i = record {
    each = λ h.
        (let j = marking_more now new old g [] all m i h in
        ((λ a. j.0 (inl a)), (λ x. elim (j.1 x) [ inl a ↦ a | inr q ↦ absurd (none_some h q) ])));
  }

  pub marking_step : (now new old : List Bool) (below : Option ℕ) (starting : List ℕ) (i : ℕ)
      (upper : Option ℕ) (all : List Gap)
      → i < length starting
      → AreMarked P (record {
        lower = below;
        upper = Some (get_or starting i 0);
        event = 0;
      } ∷ []) now new
      → IsMarking now (gaps_between 0 below (drop i starting) upper) old all
      → IsMarking new
      (gaps_between 0 (Some (get_or starting i 0)) (drop (i + 1) starting) upper) old all
  marking_step now new old below starting i upper all l m k =
      subst (λ (n : ℕ). IsMarking new
      (gaps_between 0 (Some (get_or starting i 0)) (drop n starting) upper) old all)
      (sym (add-one i))
      (marking_more now new old _
      (gaps_between 0 (Some (get_or starting i 0)) (drop (suc i) starting) upper) all m
      (subst (λ (ns : List ℕ). IsMarking now (gaps_between 0 below ns upper) old all)
      (drop-cons starting i 0 l) k))

  pub marking_last : (now new old : List Bool) (below : Option ℕ) (starting : List ℕ) (i : ℕ)
      (upper : Option ℕ) (all : List Gap)
      → length starting ≤ i
      → AreMarked P (record { lower = below; upper = upper; event = 0 } ∷ []) now new
      → IsMarking now (gaps_between 0 below (drop i starting) upper) old all
      → AreMarked P all old new
  marking_last now new old below starting i upper all l m k =
      marking_end now new old _ all m
      (subst (λ (ns : List ℕ). IsMarking now (gaps_between 0 below ns upper) old all)
      (drop_of_length-le starting l) k)

-- ---- one half-edge marked
set_one : (marks : List Bool) (n : ℕ) (h : Half) → n < length marks
    → IsMarked (set marks n true) h ↔ (IsMarked marks h ⊎ (h ≡ half_of n))
set_one marks n h l =
    by_eq (number h) n
    (λ (e : number h ≡ n). (
      (λ x. inr (sym (half_number h) ∙ ap half_of e)),
      (λ y. subst (λ (i : ℕ). get_or (set marks n true) i false ≡ true) (sym e)
          (get_or-set_same marks n true false l)),
    ))
    (λ (d : number h ≢ n). (
      (λ x. inl (sym (get_or-set_other marks n (number h) true false d) ∙ x)),
      (λ y. elim y [
        | inl a ↦ get_or-set_other marks n (number h) true false d ∙ a
        | inr e ↦ absurd (d (ap number e ∙ number_half n))
      ]),
    ))

pub mark_is : (marks : List Bool) (n : ℕ) → n < length marks → (h : Half)
    → IsMarked (set marks n true) h ↔ (IsMarked marks h ⊎ (h ≡ half_of n))
mark_is marks n l h = set_one marks n h l

pub half_under : (e : ℕ) → half_of (2 * e) ≡ under e
half_under e =
    let q : 2 * e ≡ number (under e) = omega arith in ap half_of q ∙ half_number (under e)

pub half_over : (e : ℕ) → half_of (2 * e + 1) ≡ over e
half_over e =
    let q : 2 * e + 1 ≡ number (over e) = omega arith in ap half_of q ∙ half_number (over e)

pub one_gap : (P : Gap → Half → Type 0) (g : Gap) (n : ℕ) (x : Half) (old new : List Bool)
    → half_of n ≡ x → ((h : Half) → P g h → h ≡ x) → P g x
    → ((h : Half) → IsMarked new h ↔ (IsMarked old h ⊎ (h ≡ half_of n)))
    → AreMarked P (g ∷ []) old new
one_gap P g n x old new e f p m = record {
  each = λ h. (
    (λ a. elim ((m h).0 a) [
      | inl b ↦ inl b
      | inr q ↦ inr (g, inl refl, subst (λ (y : Half). P g y) (sym (q ∙ e)) p)
    ]),
    (λ a. (m h).1
        (elim a [
          | inl b ↦ inl b
          | inr q ↦ elim q.1 [
            | inl w ↦ inr (f h (subst (λ y. P y h) w q.2) ∙ sym e)
            | inr n ↦ absurd n
          ]
        ])),
  );
}

some_one : (d e : ℕ) → Some d ≡ Some e → d ≡ e
some_one d e q = cc

none_some' : (e : ℕ) → None ≡ Some e → ⊥
none_some' e q = cc

some_none' : (e : ℕ) → Some e ≡ None → ⊥
some_none' e q = cc

lowest : (e : ℕ) (h : Half) → IsAtBorder (record { lower = None; upper = Some e; event = 0 }) h
    → h ≡ under e
lowest e (under f) q = ap under (sym (some_one e f q.1))
lowest e (over f) q = absurd (none_some' f q.0)

highest : (d : ℕ) (h : Half) → IsAtBorder (record { lower = Some d; upper = None; event = 0 }) h
    → h ≡ over d
highest d (under f) q = absurd (some_none' d q.0)
highest d (over f) q = ap over (sym (some_one d f q.0))

abbrev pub gap_of : Option ℕ → Option ℕ → Gap
gap_of l u = record { lower = l; upper = u; event = 0 }

pub lowest_marked : (l u : Option ℕ) (e : ℕ) (old new : List Bool) → l ≡ None → u ≡ Some e
    → ((h : Half) → IsMarked new h ↔ (IsMarked old h ⊎ (h ≡ half_of (2 * e))))
    → AreMarked IsAtBorder (gap_of l u ∷ []) old new
lowest_marked l u e old new p q m =
    subst (λ (l : Option ℕ). AreMarked IsAtBorder (gap_of l u ∷ []) old new) (sym p)
    (subst (λ (u : Option ℕ). AreMarked IsAtBorder (gap_of None u ∷ []) old new) (sym q)
    (one_gap IsAtBorder _ (2 * e) (under e) old new (half_under e) (lowest e) (refl, refl) m))

pub highest_marked : (l u : Option ℕ) (d : ℕ) (old new : List Bool) → l ≡ Some d → u ≡ None
    → ((h : Half) → IsMarked new h ↔ (IsMarked old h ⊎ (h ≡ half_of (2 * d + 1))))
    → AreMarked IsAtBorder (gap_of l u ∷ []) old new
highest_marked l u d old new p q m =
    subst (λ (l : Option ℕ). AreMarked IsAtBorder (gap_of l u ∷ []) old new) (sym p)
    (subst (λ (u : Option ℕ). AreMarked IsAtBorder (gap_of (Some d) u ∷ []) old new) (sym q)
    (one_gap IsAtBorder _ (2 * d + 1) (over d) old new (half_over d) (highest d)
    (refl, refl) m))

-- ---- two half-edges across a cell
module _ (notes : List HalfNote) (d e : ℕ) where
  abbrev between : Gap
  between = record { lower = Some d; upper = Some e; event = 0 }

  named_over : IsNamed notes (2 * d + 1) (2 * e) → NamesAcross notes between (over d)
  named_over q =
      let a : 2 * d + 1 ≡ number (over d) = omega arith in
      let b : 2 * e ≡ number (under e) = omega arith in (
        e,
        refl,
        refl,
        subst (λ (j : ℕ). IsNamed notes (number (over d)) j) b
            (subst (λ (i : ℕ). IsNamed notes i (2 * e)) a q),
      )

  named_under : IsNamed notes (2 * e) (2 * d + 1) → NamesAcross notes between (under e)
  named_under q =
      let a : 2 * d + 1 ≡ number (over d) = omega arith in
      let b : 2 * e ≡ number (under e) = omega arith in (
        d,
        refl,
        refl,
        subst (λ (j : ℕ). IsNamed notes (number (under e)) j) a
            (subst (λ (i : ℕ). IsNamed notes i (2 * d + 1)) b q),
      )

  names : (h : Half) → NamesAcross notes between h
      → ((h ≡ over d) × IsNamed notes (2 * d + 1) (2 * e))
      ⊎ ((h ≡ under e) × IsNamed notes (2 * e) (2 * d + 1))
  names (over f) (x, p, q, r) =
      let w : d ≡ f = some_one d f p in
      let v : e ≡ x = some_one e x q in
      let a : number (over f) ≡ 2 * d + 1 = omega (arith, w) in
      let b : number (under x) ≡ 2 * e = omega (arith, v) in
      inl (
        ap over (sym w),
        subst (λ (j : ℕ). IsNamed notes (2 * d + 1) j) b
            (subst (λ (i : ℕ). IsNamed notes i (number (under x))) a r),
      )
  names (under f) (x, p, q, r) =
      let w : d ≡ x = some_one d x p in
      let v : e ≡ f = some_one e f q in
      let a : number (under f) ≡ 2 * e = omega (arith, v) in
      let b : number (over x) ≡ 2 * d + 1 = omega (arith, w) in
      inr (
        ap under (sym v),
        subst (λ (j : ℕ). IsNamed notes (2 * e) j) b
            (subst (λ (i : ℕ). IsNamed notes i (number (over x))) a r),
      )

  across_marked : (old mid new : List Bool)
      → ((h : Half)
      → IsMarked mid h
      ↔ (IsMarked old h ⊎ ((h ≡ half_of (2 * d + 1)) × IsNamed notes (2 * d + 1) (2 * e))))
      → ((h : Half)
      → IsMarked new h
      ↔ (IsMarked mid h ⊎ ((h ≡ half_of (2 * e)) × IsNamed notes (2 * e) (2 * d + 1))))
      → AreMarked (NamesAcross notes) (between ∷ []) old new
  across_marked old mid new f g = record {
    each = λ h. (
      (λ a. elim ((g h).0 a) [
        | inl b ↦ elim ((f h).0 b) [
          | inl x ↦ inl x
          | inr q ↦ inr (
            between,
            inl refl,
            subst (λ (y : Half). NamesAcross notes between y) (sym (q.0 ∙ half_over d))
                (named_over q.1),
          )
        ]
        | inr q ↦ inr (
          between,
          inl refl,
          subst (λ (y : Half). NamesAcross notes between y) (sym (q.0 ∙ half_under e))
              (named_under q.1),
        )
      ]),
      (λ a. elim a [
        | inl x ↦ (g h).1 (inl ((f h).1 (inl x)))
        | inr q ↦ elim q.1 [
          | inl w ↦ elim (names h (subst (λ y. NamesAcross notes y h) w q.2)) [
            | inl r ↦ (g h).1 (inl ((f h).1 (inr (r.0 ∙ sym (half_over d), r.1))))
            | inr r ↦ (g h).1 (inr (r.0 ∙ sym (half_under e), r.1))
          ]
          | inr n ↦ absurd n
        ]
      ]),
    );
  }

pub both_marked : (notes : List HalfNote) (l u : Option ℕ) (d e : ℕ) (old mid new : List Bool)
    → l ≡ Some d → u ≡ Some e
    → ((h : Half)
    → IsMarked mid h
    ↔ (IsMarked old h ⊎ ((h ≡ half_of (2 * d + 1)) × IsNamed notes (2 * d + 1) (2 * e))))
    → ((h : Half)
    → IsMarked new h
    ↔ (IsMarked mid h ⊎ ((h ≡ half_of (2 * e)) × IsNamed notes (2 * e) (2 * d + 1))))
    → AreMarked (NamesAcross notes) (gap_of l u ∷ []) old new
both_marked notes l u d e old mid new p q f g =
    subst (λ (l : Option ℕ). AreMarked (NamesAcross notes) (gap_of l u ∷ []) old new) (sym p)
    (subst (λ (u : Option ℕ). AreMarked (NamesAcross notes) (gap_of (Some d) u ∷ []) old new)
    (sym q) (across_marked notes d e old mid new f g))
