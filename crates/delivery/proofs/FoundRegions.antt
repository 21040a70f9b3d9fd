-- What is found of the places of pairs in a drawing that is proved.
use Rattle.std.proofs.Common.{◌≡◌, ℕ, ℤ, ◌<◌, Bool, true, false, List, [], ◌∷◌, length, refl, sym}
use Rattle.std.proofs.Common.{ap, ◌∙◌}
use Rattle.std.proofs.Common.{append-nil, arith, subst, true≢false}
use Rattle.std.specs.Prelude.{◌↔◌}
use Rattle.std.specs.List.{AllZip}
use Rattle.certificate.specs.declared.notes.Certificate.{Certificate}
use Rattle.area_drawings.specs.Drawings.{area_tolerance}
use Rattle.certificate.specs.Spelling.{Plain}
use Rattle.certificate_checker.specs.Subjects.{claims}
use Rattle.area_links.specs.declared.kinds.LinkPair.{LinkPair}
use Rattle.area_search.specs.Grounds.{HasArea, HasSettledGround, IsAnswerBy, IsRightGround}
use Rattle.area_search.specs.Grounds.{ProvesGround}
use Rattle.area_search.specs.declared.kinds.AreaFinding.{AreaFinding}
use Rattle.area_search.specs.declared.kinds.AreaFinding.TheVariants as fault
use Rattle.area_search.specs.Regions.{AreRegions, AreRegionsBy, AreRegionsOfGround, HasRegion}
use Rattle.area_search.specs.Regions.{place_at, region_at}
use Rattle.area_search.specs.declared.kinds.AreaAnswer.{AreaAnswer}
use Rattle.area_search.specs.declared.kinds.AreaAnswer.TheVariants.{Proved}
use Rattle.area_search.specs.declared.kinds.FoundObjects.{FoundObjects}
use Rattle.area_search.specs.declared.kinds.Region.TheVariants.{Of}
use Rattle.plane.specs.Rule.Places.{point}
use Rattle.plane.specs.Rule.Plans.{Plan}
use Rattle.plane.specs.declared.kinds.Point.{Point}
use Rattle.reports.specs.Kinds.{answer_kind, is_fine}
use Rattle.reports.specs.declared.lines.AreaAnswer.{AreaAnswer as AreaLine}
use Rattle.table_layout.specs.Layouts.{AreaOf, Layout}
use Rattle.delivery.specs.AreaAnswers.{IsAnswer, fault_answer, faulty, proved, undecided}
use Rattle.delivery.specs.AreaCertificates.{claims_of}
use Rattle.delivery.specs.Links.{AreMisplaced}
use Rattle.delivery.specs.LinkRegions.{all_inner, inner_places, lines_by, results_by}
use Rattle.delivery.proofs.AreaLemmas.{area_proved, ground_settled}
use Rattle.delivery.proofs.ToldRegions.{AreTelling, results_misplaced}

-- a drawing has one ground
abbrev pub GroundsAreOne : Type 0
GroundsAreOne =
    (t : ℤ) (d g h : Plan) (x y : Bool) (os ps : List ℕ) → IsRightGround t d x g os
    → IsRightGround t d y h ps → g ≡ h

-- the region that is found tells the region of the place
abbrev pub RegionsAreExact : Type 0
RegionsAreExact =
    (t : ℤ) (d g : Plan) (c : Certificate) (is_bent : Bool) (os : List ℕ) (places : List Point)
    (f : FoundObjects) → f.answer ≡ Proved c → IsAnswerBy t d f.answer → AreRegions t d places f
    → IsRightGround t d is_bent g os → (j k : ℕ) → j < length places
    → HasRegion g (point (place_at places j)) (Of k) ↔ (region_at f.regions.items j ≡ Of k)

module _ (exact : RegionsAreExact) (grounds : GroundsAreOne) (t : ℤ) (d : Plan)
    (f : FoundObjects) (c : Certificate) (e : f.answer ≡ Proved c)
    (a : IsAnswerBy t d f.answer) where
  -- of each rule the lines are those of the pairs that do not hold
  pub results_found : (pss : List (List LinkPair)) → AreRegions t d (all_inner d.window pss) f
      → AllZip (AreMisplaced t d) pss (results_by d.window pss f.regions.items)
  results_found pss h =
      let places = all_inner d.window pss in
      let r : AreRegionsOfGround t d c.bent places f.regions.items =
      subst (λ (x : AreaAnswer). AreRegionsBy x t d places f.regions.items) e h in
      let telling : AreTelling r.g places f.regions.items = (
        (let n = r.regions_are.count in omega (arith, n)),
        (λ j k lt. exact t d r.g c c.bent r.origin places f e a h r.right j k lt),
      ) in
      results_misplaced t d r.g c.bent r.origin r.right
      (λ g b os k. grounds t d g r.g b c.bent os r.origin k r.right) pss f.regions.items telling

  -- the same of one rule
  pub lines_found : (ps : List LinkPair) → AreRegions t d (inner_places d.window ps) f
      → AreMisplaced t d ps (lines_by d.window ps f.regions.items)
  lines_found ps h =
      (results_found (ps ∷ []) (subst (λ (xs : List Point). AreRegions t d xs f)
      (sym (append-nil (inner_places d.window ps))) h)).0

-- a drawing that one certificate proves is answered by a certificate
pub proved_again : (t : ℤ) (d : Plan)
    (proves : (c : Certificate) → IsAnswerBy t d (Proved c) → ProvesGround t d c.bent (claims c))
    (complete : (x : AreaAnswer) → HasArea t d → HasSettledGround t d → IsAnswerBy t d x
    → (c : Certificate) × (x ≡ Proved c))
    → (c : Certificate) → IsAnswerBy t d (Proved c) → (x : AreaAnswer) → IsAnswerBy t d x
    → (e : Certificate) × (x ≡ Proved e)
proved_again t d proves complete c h x a =
    let p = proves c h in
    complete x (area_proved t d c.bent (claims c) p)
    (record {
      is_bent = c.bent;
      g = p.g;
      origin = p.origin;
      right = p.right;
      settled = (c.level, p.least);
    }) a

-- a drawing whose answer names nothing at fault or undecided is answered by a certificate
not_fine : (d : Plan) (f : AreaFinding) → is_fine (answer_kind (fault_answer d f)) ≡ false
not_fine d (fault.Meeting i j) = refl
not_fine d (fault.On j i) = refl
not_fine d (fault.Outside j) = refl
not_fine d (fault.Two i j) = refl
not_fine d (fault.Empty i left) = refl
not_fine d (fault.Cut i) = refl

module _ (l : Layout) (a : AreaOf) (d : Plan) (x : AreaLine) (cs : List Plain) where
  fine_ground : is_fine (answer_kind x) ≡ true → IsAnswer l a d x cs
      → HasArea (area_tolerance l a) d × HasSettledGround (area_tolerance l a) d
  fine_ground f (faulty g h e z) =
      absurd (true≢false (sym f ∙ ap (λ (y : AreaLine). is_fine (answer_kind y)) e ∙ not_fine d g))
  fine_ground f (undecided i j h e z) =
      absurd (true≢false (sym f ∙ ap (λ (y : AreaLine). is_fine (answer_kind y)) e))
  fine_ground f (proved c n p e z) = (
    area_proved (area_tolerance l a) d c.bent (claims_of c) p,
    ground_settled (area_tolerance l a) d c.bent (claims_of c) p,
  )

  pub fine_proved : (t : ℤ) → t ≡ area_tolerance l a → is_fine (answer_kind x) ≡ true
      → IsAnswer l a d x cs
      → ((y : AreaAnswer) → HasArea t d → HasSettledGround t d → IsAnswerBy t d y
      → (c : Certificate) × (y ≡ Proved c))
      → (y : AreaAnswer) → IsAnswerBy t d y → (c : Certificate) × (y ≡ Proved c)
  fine_proved t same f h complete y b =
      let g = fine_ground f h in
      complete y (subst (λ (s : ℤ). HasArea s d) (sym same) g.0)
      (subst (λ (s : ℤ). HasSettledGround s d) (sym same) g.1) b
