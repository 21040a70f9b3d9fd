-- What the pairs that do not hold say of links.
use Rattle.std.proofs.Common.{◌≡◌, inl, inr, ℕ, ℤ, zero, suc, Bool, true, false, List, [], ◌∷◌}
use Rattle.std.proofs.Common.{◌++◌}
use Rattle.std.proofs.Common.{map, Some, refl, sym, ap, ◌∙◌, subst}
use Rattle.std.specs.Prelude.{slice_get}
use Rattle.std.specs.List.{All, AllZip, Any}
use Rattle.std.proofs.lemmas.List.Elements.{All-nil, All-cons}
use Rattle.area_drawings.proofs.Windows.{one_drawing}
use Rattle.area_drawings.specs.Drawings.{AreDrawings, IsDrawing, area_tolerance}
use Rattle.area_links.specs.Pairs.{pairs_of}
use Rattle.area_links.specs.Rules.{Rule}
use Rattle.area_links.specs.declared.kinds.LinkPair.{LinkPair}
use Rattle.itf_reader.specs.Forms.{Row}
use Rattle.plane.specs.Rule.Plans.{Plan}
use Rattle.table_layout.specs.Layouts.{AreaOf, Layout}
use Rattle.reports.specs.Outcomes.{Misplaced}
use Rattle.delivery.specs.Links.{AllHold, AreLinesOf, AreMisplaced, AreTested, LinkHolds}
use Rattle.delivery.specs.Links.{PairsPass, SomeDoesNot, misplaced_by}
use Rattle.delivery.proofs.SurfaceLemmas.{any_here, any_there, both_at}

-- some pair is misplaced
abbrev pub some_misplaced : List Misplaced → Bool
some_misplaced [] = false
some_misplaced (m ∷ ms) = true

-- ---- one rule
module _ (t : ℤ) (d : Plan) where
  held : (ps : List LinkPair) (lines : List ℕ) → AreMisplaced t d ps lines → lines ≡ []
      → All (LinkHolds t d) ps
  held [] lines h e = All-nil (LinkHolds t d)
  held (p ∷ ps) lines h e = elim h as (λ z. All (LinkHolds t d) (p ∷ ps)) [
    | inl k ↦ All-cons (LinkHolds t d) p ps k.0 (held ps lines k.1 e)
    | inr k ↦ absurd (let q = sym k.1.1 ∙ e in cc)
  ]

  abbrev Fails : LinkPair → Type 0
  Fails p = LinkHolds t d p → ⊥

  not_held : (ps : List LinkPair) (lines : List ℕ) (n : ℕ) (rest : List ℕ)
      → AreMisplaced t d ps lines → lines ≡ n ∷ rest → Any Fails ps
  not_held [] lines n rest h e = absurd (let q = sym h ∙ e in cc)
  not_held (p ∷ ps) lines n rest h e = elim h as (λ z. Any Fails (p ∷ ps)) [
    | inl k ↦ any_there Fails p ps (not_held ps lines n rest k.1 e)
    | inr k ↦ any_here Fails p ps k.0
  ]

  one_misplaced : (ps : List LinkPair) (lines more : List ℕ) → AreMisplaced t d ps lines
      → AreMisplaced t d ps more → lines ≡ more
  one_misplaced [] lines more h k = h ∙ sym k
  one_misplaced (p ∷ ps) lines more h k = elim h as (λ z. lines ≡ more) [
    | inl a ↦ elim k as (λ z. lines ≡ more) [
      | inl b ↦ one_misplaced ps lines more a.1 b.1
      | inr b ↦ absurd (b.0 a.0)
    ]
    | inr a ↦ elim k as (λ z. lines ≡ more) [
      | inl b ↦ absurd (a.0 b.0)
      | inr b ↦ a.1.1
          ∙ (ap (λ (ls : List ℕ). p.line ∷ ls) (one_misplaced ps a.1.0 b.1.0 a.1.2 b.1.2)
          ∙ sym b.1.1)
    ]
  ]

-- ---- the rules of a file
drawing_at : (l : Layout) (rows : List (List Row)) (as_ : List AreaOf) (ds : List Plan) (k : ℕ)
    (a : AreaOf) (d : Plan) → AllZip (IsDrawing l rows) as_ ds → slice_get as_ k ≡ Some a
    → slice_get ds k ≡ Some d → IsDrawing l rows a d
drawing_at l rows [] ds k a d h e f = absurd (cc)
drawing_at l rows (b ∷ as_) [] k a d h e f = absurd h
drawing_at l rows (b ∷ as_) (c ∷ ds) zero a d h e f =
    subst (λ (x : AreaOf). IsDrawing l rows x d) (same b a e)
    (subst (IsDrawing l rows b) (same c d f) h.0)
  where
    same : {X : Type 0} (x y : X) → Some x ≡ Some y → x ≡ y
    same x y q = cc
drawing_at l rows (b ∷ as_) (c ∷ ds) (suc k) a d h e f =
    drawing_at l rows as_ ds k a d h.1 e f

some_mapped : (n : ℕ) (lines : List ℕ) (rest ms : List Misplaced)
    → ms ≡ map (misplaced_by n) lines ++ rest → some_misplaced ms ≡ false
    → (lines ≡ []) × (some_misplaced rest ≡ false)
some_mapped n [] rest ms e f = (refl, ap some_misplaced (sym e) ∙ f)
some_mapped n (line ∷ lines) rest ms e f =
    absurd (let q = sym (ap some_misplaced e) ∙ f in cc)

module _ (l : Layout) (rows : List (List Row)) (ds : List Plan)
    (drawn : AreDrawings l rows ds) where
  pub all_held : (rules : List Rule) (ms : List Misplaced) → AreTested l rows ds rules ms
      → some_misplaced ms ≡ false → All (PairsPass AllHold l rows) rules
  all_held [] ms h f = All-nil (PairsPass AllHold l rows)
  all_held (r ∷ rules) ms h f =
      let s = some_mapped r.line h.0 h.1 ms h.4 f in
      let k = h.2 in
      All-cons (PairsPass AllHold l rows) r rules (
        k.0,
        k.1,
        k.2,
        drawing_at l rows l.areas ds r.area k.0 k.1 drawn k.2 k.3,
        held (area_tolerance l k.0) k.1 (pairs_of l rows r) h.0 k.4 s.0,
      )
      (all_held rules h.1 h.3 s.1)

  pub some_fails : (rules : List Rule) (ms : List Misplaced) → AreTested l rows ds rules ms
      → some_misplaced ms ≡ true → Any (PairsPass SomeDoesNot l rows) rules
  some_fails [] ms h f = absurd (let q = sym (ap some_misplaced h) ∙ f in cc)
  some_fails (r ∷ rules) ms h f = by h.0 h.2 h.4 (some_fails rules h.1 h.3)
    where
      by : (lines : List ℕ) → AreLinesOf l rows ds r lines
          → ms ≡ map (misplaced_by r.line) lines ++ h.1
          → (some_misplaced h.1 ≡ true → Any (PairsPass SomeDoesNot l rows) rules)
          → Any (PairsPass SomeDoesNot l rows) (r ∷ rules)
      by [] k e again =
          any_there (PairsPass SomeDoesNot l rows) r rules
          (again (sym (ap some_misplaced e) ∙ f))
      by (n ∷ lines) k e again =
          any_here (PairsPass SomeDoesNot l rows) r rules (
            k.0,
            k.1,
            k.2,
            drawing_at l rows l.areas ds r.area k.0 k.1 drawn k.2 k.3,
            not_held (area_tolerance l k.0) k.1 (pairs_of l rows r) (n ∷ lines) n lines k.4 refl,
          )

-- the pairs that do not hold are one list
one_lines : (l : Layout) (rows : List (List Row)) (ds : List Plan) (r : Rule)
    (lines more : List ℕ) → AreLinesOf l rows ds r lines → AreLinesOf l rows ds r more
    → lines ≡ more
one_lines l rows ds r lines more h k =
    let a = same k.0 h.0 (sym k.2 ∙ h.2) in
    let d = same k.1 h.1 (sym k.3 ∙ h.3) in
    one_misplaced (area_tolerance l h.0) h.1 (pairs_of l rows r) lines more h.4
    (subst (λ (x : AreaOf). AreMisplaced (area_tolerance l x) h.1 (pairs_of l rows r) more) a
    (subst (λ (x : Plan). AreMisplaced (area_tolerance l k.0) x (pairs_of l rows r) more) d k.4))
  where
    same : {X : Type 0} (x y : X) → Some x ≡ Some y → x ≡ y
    same x y q = cc

pub one_tested : (l : Layout) (rows : List (List Row)) (ds : List Plan) (rules : List Rule)
    (ms ns : List Misplaced) → AreTested l rows ds rules ms → AreTested l rows ds rules ns
    → ms ≡ ns
one_tested l rows ds [] ms ns h k = h ∙ sym k
one_tested l rows ds (r ∷ rules) ms ns h k =
    let lines = one_lines l rows ds r h.0 k.0 h.2 k.2 in
    let rest = one_tested l rows ds rules h.1 k.1 h.3 k.3 in
    h.4
    ∙ (ap (λ (ls : List ℕ). map (misplaced_by r.line) ls ++ h.1) lines
    ∙ (ap (λ (xs : List Misplaced). map (misplaced_by r.line) k.0 ++ xs) rest ∙ sym k.4))

-- pairs that all hold, and some that does not
pub not_both_held : (l : Layout) (rows : List (List Row)) (rules : List Rule)
    → All (PairsPass AllHold l rows) rules → Any (PairsPass SomeDoesNot l rows) rules → ⊥
not_both_held l rows rules h k =
    let b = both_at (PairsPass AllHold l rows) (PairsPass SomeDoesNot l rows) rules h k in
    clash b.0 b.1 b.2
  where
    same : {X : Type 0} (x y : X) → Some x ≡ Some y → x ≡ y
    same x y q = cc

    fails : (t : ℤ) (d : Plan) (ps : List LinkPair) → All (LinkHolds t d) ps
        → Any (λ p. LinkHolds t d p → ⊥) ps → ⊥
    fails t d ps h k =
        let b = both_at (LinkHolds t d) (λ p. LinkHolds t d p → ⊥) ps h k in
        b.2 b.1

    clash : (r : Rule) → PairsPass AllHold l rows r → PairsPass SomeDoesNot l rows r → ⊥
    clash r h k =
        let a = same h.0 k.0 (sym h.2 ∙ k.2) in
        let d : h.1 ≡ k.1 =
        one_drawing l rows k.0 h.1 k.1
        (subst (λ (x : AreaOf). IsDrawing l rows x h.1) a h.3) k.3 in
        fails (area_tolerance l k.0) k.1 (pairs_of l rows r)
        (subst (λ (x : Plan). All (LinkHolds (area_tolerance l k.0) x) (pairs_of l rows r)) d
        (subst (λ (x : AreaOf). All (LinkHolds (area_tolerance l x) h.1) (pairs_of l rows r)) a
        h.4)) k.4
