-- What is told of one area after the other.
use Rattle.std.proofs.Common.{◌≡◌, suc, List, [], ◌∷◌, ◌++◌, refl, sym, ap, ◌∙◌, subst, arith}
use Rattle.std.proofs.Common.{length, append-nil, append_assoc, ◌⊎◌, inl, inr}
use Rattle.std.specs.List.{All, AllZip}
use Rattle.std.proofs.lemmas.List.{map-append}
use Rattle.std.proofs.lemmas.List.Elements.{All-head, All-tail}
use Rattle.area_drawings.specs.AreaLimits.{IsSmallPlan}
use Rattle.area_drawings.specs.Drawings.{area_tolerance}
use Rattle.area_drawings.specs.KeptViews.{HasTolerance}
use Rattle.itffaults.specs.FaultText.Text.{Telling, telling_of, tellings}
use Rattle.itffaults.specs.declared.fault_text.kinds.AreaTelling.{AreaTelling}
use Rattle.plane.specs.Rule.Plans.{Plan, plan}
use Rattle.plane.specs.declared.drawing.Drawing.{Drawing}
use Rattle.reports.specs.AreaKinds.{plans}
use Rattle.table_layout.specs.Layouts.{AreaOf, Layout}
use Rattle.table_layout.specs.Values.{area_view, areas_view}
use Rattle.table_layout.specs.declared.layouts.AreaOf.{AreaOf as CodeArea}
use Rattle.itffaults.specs.Faults.{AreTellings, IsTelling}

-- what is told of some areas may be followed by what is told of the rest
abbrev pub GoesOn : Layout → List AreaOf → List Plan → List AreaOf → List Plan → List Telling
    → Type 0
GoesOn l all ds rest es ts = (us : List Telling) → AreTellings l rest es us
    → AreTellings l all ds (ts ++ us)

pub begin : (l : Layout) (all : List AreaOf) (ds : List Plan) → GoesOn l all ds all ds []
begin l all ds us h = h

pub go_on : (l : Layout) (all rest : List AreaOf) (ds es : List Plan) (a : AreaOf) (d : Plan)
    (as_ : List AreaOf) (fs : List Plan) (old : List AreaTelling) (t : AreaTelling)
    (new : List AreaTelling)
    → rest ≡ a ∷ as_ → es ≡ d ∷ fs → new ≡ old ++ t ∷ [] → IsTelling l a d (telling_of t)
    → GoesOn l all ds rest es (tellings old) → GoesOn l all ds as_ fs (tellings new)
go_on l all rest ds es a d as_ fs old t new q r u n g us h =
    let all_rest : AreTellings l rest es (telling_of t ∷ us) =
    subst (λ (bs : List AreaOf). AreTellings l bs es (telling_of t ∷ us)) (sym q)
    (subst (λ (zs : List Plan). AreTellings l (a ∷ as_) zs (telling_of t ∷ us)) (sym r)
    (n, h)) in
    let told : tellings new ≡ tellings old ++ telling_of t ∷ [] = ap tellings u
    ∙ map-append telling_of old (t ∷ []) in
    let joined : tellings old ++ telling_of t ∷ us
    ≡ tellings new ++ us = sym (append_assoc (tellings old) (telling_of t ∷ []) us)
    ∙ ap (λ (zs : List Telling). zs ++ us) (sym told) in
    subst (AreTellings l all ds) joined (g (telling_of t ∷ us) all_rest)

pub all_told : (l : Layout) (all rest : List AreaOf) (ds es : List Plan) (ts : List Telling)
    → rest ≡ [] → es ≡ [] → GoesOn l all ds rest es ts → AreTellings l all ds ts
all_told l all rest ds es ts q r g =
    let last : AreTellings l rest es [] = subst (λ (bs : List AreaOf). AreTellings l bs es [])
    (sym q) (subst (λ (zs : List Plan). AreTellings l [] zs []) (sym r) tt) in
    subst (AreTellings l all ds) (append-nil ts) (g [] last)

-- ---- two lists of one length that are gone through together
pub shorter_both : {A B : Type 0} (as_ : List A) (a : A) (rest : List A) (bs : List B) (b : B)
    (more : List B)
    → as_ ≡ a ∷ rest → bs ≡ b ∷ more → length bs ≡ length as_ → length more ≡ length rest
shorter_both as_ a rest bs b more e f h =
    let n : length as_ ≡ suc (length rest) = ap length e in
    let m : length bs ≡ suc (length more) = ap length f in
    omega (arith, n, m, h)

pub both_ended : {A B : Type 0} (as_ : List A) (bs : List B) → length bs ≡ length as_
    → (as_ ≡ []) ⊎ (bs ≡ []) → (as_ ≡ []) × (bs ≡ [])
both_ended [] [] h k = (refl, refl)
both_ended [] (b ∷ bs) h k = absurd (omega (arith, h))
both_ended (a ∷ as_) [] h k = absurd (omega (arith, h))
both_ended (a ∷ as_) (b ∷ bs) h (inl e) = absurd (cc)
both_ended (a ∷ as_) (b ∷ bs) h (inr e) = absurd (cc)

-- ---- drawings with few curves and points, one after the other
pub few_first : (all : List Drawing) (d : Drawing) (rest : List Drawing) → all ≡ d ∷ rest
    → All IsSmallPlan (plans all) → IsSmallPlan (plan d)
few_first all d rest e h =
    All-head IsSmallPlan (plan d) (plans rest)
    (subst (λ (ds : List Drawing). All IsSmallPlan (plans ds)) e h)

pub few_rest : (all : List Drawing) (d : Drawing) (rest : List Drawing) → all ≡ d ∷ rest
    → All IsSmallPlan (plans all) → All IsSmallPlan (plans rest)
few_rest all d rest e h =
    All-tail IsSmallPlan (plan d) (plans rest)
    (subst (λ (ds : List Drawing). All IsSmallPlan (plans ds)) e h)

-- ---- drawings with the overlaps of their areas, one after the other
abbrev pub HaveTolerances : Layout → List CodeArea → List Drawing → Type 0
HaveTolerances l as_ ds = AllZip (HasTolerance l) (areas_view as_) ds

pub tolerance_first : (l : Layout) (all : List CodeArea) (ds : List Drawing) (a : CodeArea)
    (rest : List CodeArea) (d : Drawing) (more : List Drawing)
    → all ≡ a ∷ rest → ds ≡ d ∷ more → HaveTolerances l all ds
    → d.tolerance ≡ area_tolerance l (area_view a)
tolerance_first l all ds a rest d more e f h =
    (subst (HaveTolerances l (a ∷ rest)) f
    (subst (λ (as_ : List CodeArea). HaveTolerances l as_ ds) e h)).0

pub tolerance_rest : (l : Layout) (all : List CodeArea) (ds : List Drawing) (a : CodeArea)
    (rest : List CodeArea) (d : Drawing) (more : List Drawing)
    → all ≡ a ∷ rest → ds ≡ d ∷ more → HaveTolerances l all ds
    → HaveTolerances l rest more
tolerance_rest l all ds a rest d more e f h =
    (subst (HaveTolerances l (a ∷ rest)) f
    (subst (λ (as_ : List CodeArea). HaveTolerances l as_ ds) e h)).1
