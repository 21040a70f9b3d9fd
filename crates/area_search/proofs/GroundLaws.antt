-- What the answer to a drawing says of its ground.
use Rattle.std.proofs.Common.{◌≡◌, ◌⊎◌, inl, inr, ◌<◌, ◌≤◌, ℕ, ℤ, Bool, true, false, List, length}
use Rattle.std.proofs.Common.{arith, refl, sym, ap, ◌∙◌, subst}
use Rattle.plane.specs.Rule.Cuts.{HasNoCut, IsArea}
use Rattle.plane.specs.Rule.Partition.{IsPartition}
use Rattle.plane.specs.Rule.Plans.{IsHalfArc, Plan}
use Rattle.certificate.specs.declared.notes.Certificate.{Certificate}
use Rattle.certificate_checker.specs.Subjects.{Claims, claims}
use Rattle.certificate_checker.specs.Verdicts.{Proves}
use Rattle.forks.specs.Bent.{IsBentOf}
use Rattle.forks.specs.Grounds as grounds
use Rattle.forks.specs.Grounds.{IsGround}
use Rattle.tubes.specs.DrawnEdges.{AreStraights}
use Rattle.tubes.specs.Settled.{IsFirstBreak}
use Rattle.area_search.specs.declared.kinds.AreaFinding.{AreaFinding}
use Rattle.area_search.specs.declared.kinds.AreaAnswer.{AreaAnswer}
use Rattle.area_search.specs.declared.kinds.AreaAnswer.TheVariants.{Proved, Fault, Undecided}
use Rattle.area_search.specs.Chosen.{IsChosen}
use Rattle.area_search.specs.Answers.{Agree, AreClear, IsAnswer, IsLeastLevel, IsSettled}
use Rattle.area_search.specs.Answers.{IsUnsettled}
use Rattle.area_search.specs.Answers.{meeting, on, undecided, outside, two, empty, cut, proved}
use Rattle.area_search.specs.Answers.{meetings, faults, pairs, certificates}
use Rattle.area_search.specs.Grounds as by
use Rattle.area_search.specs.Grounds.{AreThere, HasArea, HasSettledGround, IsAnswerBy, IsDecided}
use Rattle.area_search.specs.Grounds.{IsRightGround, ProvesGround, named, named_finding, of_bent}
use Rattle.area_search.proofs.AnswerLaws.{BadIsNotApart, BreaksByArc, ProvesPartition, ProvesUncut}
use Rattle.area_search.proofs.AnswerLaws.{StraightsAreSettled, agree, fault_is_true, is_proved}
use Rattle.area_search.proofs.AnswerLaws.{no_on, no_pair, pair_has_half_arc, pair_order}
use Rattle.area_search.proofs.AnswerLaws.{same_level, same_pair}
use Rattle.area_search.proofs.ChosenLemmas.OneCertificate.{one_chosen}
use Rattle.area_search.proofs.Grounds.{CurvesAreThere, empty_there, not_settled, own_undecided}

-- ---- one ground
abbrev OneBent : Type 0
OneBent =
    (t : ℤ) (d g h : Plan) (os ps : List ℕ) → IsBentOf t d g os → IsBentOf t d h ps → g ≡ h

abbrev OneOrigin : Type 0
OneOrigin =
    (t : ℤ) (d g h : Plan) (os ps : List ℕ) → IsBentOf t d g os → IsBentOf t d h ps → os ≡ ps

-- the laws of one drawing and of bent drawings
pub record Laws : Type 0 where
  pub bad : BadIsNotApart
  pub partition : ProvesPartition
  pub uncut : ProvesUncut
  pub bent : OneBent
  pub origin : OneOrigin

own_ground : (t : ℤ) (d g : Plan) (x : Bool) (os : List ℕ) → IsRightGround t d x g os
    → IsSettled d → g ≡ d
own_ground t d g x os r s = by_ground r.is_ground
  where
    by_ground : IsGround t d x g os → g ≡ d
    by_ground (grounds.own e q o) = q
    by_ground (grounds.bent e b) = absurd (not_settled d (r.bent e) s)

bent_ground : (t : ℤ) (d g : Plan) (x : Bool) (os : List ℕ) → IsRightGround t d x g os
    → IsUnsettled d → IsBentOf t d g os
bent_ground t d g x os r u = by_ground r.is_ground
  where
    by_ground : IsGround t d x g os → IsBentOf t d g os
    by_ground (grounds.own e q o) = absurd (not_settled d u (r.own e))
    by_ground (grounds.bent e b) = b

-- a drawing has one right ground
pub one_right : OneBent → (t : ℤ) (d g h : Plan) (x y : Bool) (os ps : List ℕ)
    → IsRightGround t d x g os → IsRightGround t d y h ps → g ≡ h
one_right law t d g h x y os ps r s = by_ground r.is_ground
  where
    by_ground : IsGround t d x g os → g ≡ h
    by_ground (grounds.own e q o) = q ∙ sym (own_ground t d h y ps s (r.own e))
    by_ground (grounds.bent e b) = law t d g h os ps b (bent_ground t d h y ps s (r.bent e))

-- and it is the drawing itself or the bent one, whoever says so
one_kind : (t : ℤ) (d g h : Plan) (x y : Bool) (os ps : List ℕ)
    → IsRightGround t d x g os → IsRightGround t d y h ps → x ≡ y
one_kind t d g h false false os ps r s = refl
one_kind t d g h false true os ps r s = absurd (not_settled d (s.bent refl) (r.own refl))
one_kind t d g h true false os ps r s = absurd (not_settled d (r.bent refl) (s.own refl))
one_kind t d g h true true os ps r s = refl

-- of the claims that prove it at its least level one is chosen
pub one_chosen_of_ground : OneBent → (t : ℤ) (d : Plan) (x y : Bool) (c e : Claims)
    → ProvesGround t d x c → ProvesGround t d y e → (x ≡ y) × (c ≡ e)
one_chosen_of_ground law t d x y c e p q =
    let one = one_right law t d q.g p.g y x q.origin p.origin q.right p.right in (
      one_kind t d p.g q.g x y p.origin q.origin p.right q.right,
      one_chosen p.g c e p.proves (subst (λ (h : Plan). Proves h e) one q.proves)
          (same_level p.g c.level e.level p.least
          (subst (λ (h : Plan). IsLeastLevel h e.level) one q.least))
          p.chosen (subst (λ (h : Plan). IsChosen h e) one q.chosen),
    )

abbrev pub StraightsStay : Type 0
StraightsStay = (t : ℤ) (d g : Plan) (os : List ℕ) → IsBentOf t d g os → AreStraights d → g ≡ d

-- a drawing of straights is its own ground
pub straight_ground : StraightsStay → (t : ℤ) (d g : Plan) (x : Bool) (os : List ℕ)
    → AreStraights d → IsRightGround t d x g os → g ≡ d
straight_ground law t d g x os s r = by_ground r.is_ground
  where
    by_ground : IsGround t d x g os → g ≡ d
    by_ground (grounds.own e q o) = q
    by_ground (grounds.bent e b) = law t d g os b s

-- ---- what an answer of the bent drawing was
same_proved : (c e : Certificate) → Proved c ≡ Proved e → c ≡ e
same_proved c e h = cc

same_fault : (f h : AreaFinding) → Fault f ≡ Fault h → f ≡ h
same_fault f h e = cc

was_proved : (os : List ℕ) (c : Certificate) (b : AreaAnswer) → Proved c ≡ named os b
    → (e : Certificate) × (b ≡ Proved e) × (c ≡ of_bent e)
was_proved os c (Proved e) h = (e, refl, same_proved c (of_bent e) h)
was_proved os c (Fault f) h = absurd (cc h)
was_proved os c (Undecided i j) h = absurd (cc h)

was_fault : (os : List ℕ) (f : AreaFinding) (b : AreaAnswer) → Fault f ≡ named os b
    → (h : AreaFinding) × (b ≡ Fault h) × (f ≡ named_finding os h)
was_fault os f (Proved e) h = absurd (cc h)
was_fault os f (Fault x) h = (x, refl, same_fault f (named_finding os x) h)
was_fault os f (Undecided i j) h = absurd (cc h)

was_undecided : (os : List ℕ) (i j : ℕ) (b : AreaAnswer) → Undecided i j ≡ named os b
    → b ≡ Undecided i j
was_undecided os i j (Proved e) h = absurd (cc h)
was_undecided os i j (Fault f) h = absurd (cc h)
was_undecided os i j (Undecided k l) h = sym h

never_undecided : (g : Plan) (i j : ℕ) → IsSettled g → IsAnswer g (Undecided i j) → ⊥
never_undecided g _ _ s (undecided i j c u b) = not_settled g u s

-- a drawing that is clear and not settled has no decided answer of its own
never_decided : (d : Plan) (a : AreaAnswer) → AreClear d → IsUnsettled d → IsAnswer d a
    → IsDecided a → ⊥
never_decided d a c u h n =
    let (i, j, e, f) = own_undecided d a c u h in subst IsDecided e n

-- ---- a certificate
pub own_proof : (d : Plan) (c : Certificate) → IsAnswer d (Proved c)
    → Proves d (claims c) × IsLeastLevel d c.level × (c.bent ≡ false) × IsChosen d (claims c)
own_proof d _ (proved c p l n k) = (p, l, n.own, k)

pub never_both : (b : Bool) → b ≡ true → b ≡ false → ⊥
never_both b e f = absurd (cc (e, f))

module _ (laws : Laws) where
  area_of : (d : Plan) (c : Certificate) → Proves d (claims c) → IsArea d
  area_of d c p =
      record { parts = laws.partition d (claims c) p; uncut = laws.uncut d (claims c) p }

  clear_of : (d : Plan) → IsPartition d → AreClear d
  clear_of d p = record { pairs = no_pair laws.bad d p; points = no_on d p }

  pub proves_ground : (t : ℤ) (d : Plan) (c : Certificate) → IsAnswerBy t d (Proved c)
      → ProvesGround t d c.bent (claims c)
  proves_ground t d c (by.own h n) =
      let (p, l, own, k) = own_proof d c h in
      record {
        g = d;
        origin = _;
        right = record {
          is_ground = grounds.own own refl refl;
          own = λ e. (c.level, l);
          bent = λ e. absurd (never_both c.bent e own);
        };
        clear = clear_of d (laws.partition d (claims c) p);
        proves = p;
        least = l;
        chosen = k;
        area = area_of d c p;
      }
  proves_ground t d c (by.bent g os b clear u bo cg s h e) =
      let (x, q, r) = was_proved os c b e in
      let (p, l, own, k) = own_proof g x (subst (IsAnswer g) q h) in
      let is_bent : c.bent ≡ true = ap (λ (y : Certificate). y.bent) r in
      record {
        g = g;
        origin = os;
        right = record {
          is_ground = grounds.bent is_bent bo;
          own = λ f. absurd (never_both c.bent is_bent f);
          bent = λ f. u;
        };
        clear = clear;
        proves = subst (λ (y : Certificate). Proves g (claims y)) (sym r) p;
        least = subst (λ (y : Certificate). IsLeastLevel g y.level) (sym r) l;
        chosen = subst (λ (y : Certificate). IsChosen g (claims y)) (sym r) k;
        area = area_of g x p;
      }
  proves_ground t d c (by.undecided g os i j clear u bo ug br e) = absurd (cc e)

  -- ---- where the ground is settled and an area the answer is a certificate
  unsettled_ground : (t : ℤ) (d g : Plan) (os : List ℕ) → IsUnsettled d → IsBentOf t d g os
      → IsUnsettled g → HasSettledGround t d → ⊥
  unsettled_ground t d g os u b ug s =
      let other = bent_ground t d s.g s.is_bent s.origin s.right u in
      not_settled g ug (subst IsSettled (laws.bent t d s.g g s.origin os other b) s.settled)

  pub never_of_settled : (t : ℤ) (d : Plan) (i j : ℕ) → HasSettledGround t d
      → IsAnswerBy t d (Undecided i j) → ⊥
  never_of_settled t d i j s (by.own h n) = absurd n
  never_of_settled t d i j s (by.bent g os b c u bo cg st h e) =
      never_undecided g i j st (subst (IsAnswer g) (was_undecided os i j b e) h)
  never_of_settled t d i j s (by.undecided g os k l c u bo ug br e) =
      unsettled_ground t d g os u bo ug s

  pub is_certified : (t : ℤ) (d : Plan) (a : AreaAnswer) → HasArea t d → HasSettledGround t d
      → IsAnswerBy t d a → (c : Certificate) × (a ≡ Proved c)
  is_certified t d a h s (by.own x n) = by_ground h.right.is_ground
    where
      by_ground : IsGround t d h.is_bent h.g h.origin → (c : Certificate) × (a ≡ Proved c)
      by_ground (grounds.own e q o) =
          is_proved laws.bad d a (subst IsPartition q h.area.parts)
          (subst HasNoCut q h.area.uncut) (h.right.own e) x
      by_ground (grounds.bent e b) = absurd (never_decided d a h.clear (h.right.bent e) x n)
  is_certified t d a h s (by.bent g os b clear u bo cg st x e) =
      let other = bent_ground t d h.g h.is_bent h.origin h.right u in
      let q = laws.bent t d h.g g h.origin os other bo in
      let (c, r) = is_proved laws.bad g b (subst IsPartition q h.area.parts)
      (subst HasNoCut q h.area.uncut) st x in
      (of_bent c, e ∙ ap (named os) r)
  is_certified t d a h s (by.undecided g os i j clear u bo ug br e) =
      absurd (unsettled_ground t d g os u bo ug s)

  -- ---- a fault is none of an area
  own_fault : (t : ℤ) (d : Plan) (f : AreaFinding) → HasArea t d → IsAnswer d (Fault f)
      → (IsSettled d → ⊥) ⊎ IsSettled d → ⊥
  own_fault t d f s h (inl u) = unsettled f h
    where
      unsettled : (f : AreaFinding) → IsAnswer d (Fault f) → ⊥
      unsettled _ (meeting i j b) = s.clear.pairs i j b
      unsettled _ (on j i n l) = s.clear.points j i l.on
      unsettled _ (outside j c t l) = u t
      unsettled _ (two i j c t l) = u t
      unsettled _ (empty i left c t l) = u t
      unsettled _ (cut i c t l) = u t
  own_fault t d f s h (inr st) =
      let q = own_ground t d s.g s.is_bent s.origin s.right st in
      fault_is_true laws.bad d f h (subst IsPartition q s.area.parts)
      (subst HasNoCut q s.area.uncut)

  pub fault_by : (t : ℤ) (d : Plan) (f : AreaFinding) → IsAnswerBy t d (Fault f) → HasArea t d → ⊥
  fault_by t d f (by.own h n) s = by_ground s.right.is_ground
    where
      by_ground : IsGround t d s.is_bent s.g s.origin → ⊥
      by_ground (grounds.own e q o) = own_fault t d f s h (inr (s.right.own e))
      by_ground (grounds.bent e b) = own_fault t d f s h (inl (not_settled d (s.right.bent e)))
  fault_by t d f (by.bent g os b clear u bo cg st h e) s =
      let other = bent_ground t d s.g s.is_bent s.origin s.right u in
      let q = laws.bent t d s.g g s.origin os other bo in
      let (x, r, w) = was_fault os f b e in
      fault_is_true laws.bad g x (subst (IsAnswer g) r h) (subst IsPartition q s.area.parts)
      (subst HasNoCut q s.area.uncut)
  fault_by t d f (by.undecided g os i j clear u bo ug br e) s = absurd (cc e)

  -- ---- two answers agree
  named_agree : (os : List ℕ) (a b : AreaAnswer) → Agree a b → Agree (named os a) (named os b)
  named_agree os _ _ (meetings i j k l) = meetings i j k l
  named_agree os _ _ (faults f) = faults (named_finding os f)
  named_agree os _ _ (pairs i j) = pairs i j
  named_agree os _ _ (certificates c e q b) = certificates (of_bent c) (of_bent e) q refl

  pub agree_by : (t : ℤ) (d : Plan) (a b : AreaAnswer) → IsAnswerBy t d a → IsAnswerBy t d b
      → Agree a b
  agree_by t d a b (by.own h n) (by.own k m) = agree laws.bad laws.partition laws.uncut d a b h k
  agree_by t d a b (by.own h n) (by.bent g os x c u bo cg s k e) =
      absurd (never_decided d a c u h n)
  agree_by t d a b (by.own h n) (by.undecided g os i j c u bo ug br e) =
      absurd (never_decided d a c u h n)
  agree_by t d a b (by.bent g os x c u bo cg s k e) (by.own h n) =
      absurd (never_decided d b c u h n)
  agree_by t d a b (by.bent g os x c u bo cg s k e) (by.bent g' os' x' c' u' bo' cg' s' k' e') =
      let q = laws.bent t d g' g os' os bo' bo in
      let o = laws.origin t d g' g os' os bo' bo in
      let one = agree laws.bad laws.partition laws.uncut g x x' k
      (subst (λ (p : Plan). IsAnswer p x') q k') in
      let same : named os x' ≡ b = ap (λ (ps : List ℕ). named ps x') (sym o) ∙ sym e' in
      subst (λ (y : AreaAnswer). Agree y b) (sym e)
      (subst (Agree (named os x)) same (named_agree os x x' one))
  agree_by t d a b (by.bent g os x c u bo cg s k e) (by.undecided g' os' i j c' u' bo' ug br e') =
      absurd (not_settled g' ug (subst IsSettled (laws.bent t d g g' os os' bo bo') s))
  agree_by t d a b (by.undecided g os i j c u bo ug br e) (by.own h n) =
      absurd (never_decided d b c u h n)
  agree_by t d a b (by.undecided g os i j c u bo ug br e) (by.bent g' os' x c' u' bo' cg s k e') =
      absurd (not_settled g ug (subst IsSettled (laws.bent t d g' g os' os bo' bo) s))
  agree_by t d a b (by.undecided g os i j c u bo ug br e)
      (by.undecided g' os' k l c' u' bo' ug' br' e') =
      subst (λ (y : AreaAnswer). Agree y b) (sym e)
      (subst (Agree (Undecided i j)) (sym e') (same_pair d i j k l br br'))

-- ---- the pair of an undecided drawing
-- it comes from no level that settles
undecided_is : (t : ℤ) (d : Plan) (i j : ℕ) → IsAnswerBy t d (Undecided i j)
    → AreClear d × IsUnsettled d × IsFirstBreak d (λ n. 5) i j
undecided_is t d i j (by.own h n) = absurd n
undecided_is t d i j (by.bent g os b c u bo cg s h e) =
    absurd (never_undecided g i j s (subst (IsAnswer g) (was_undecided os i j b e) h))
undecided_is t d i j (by.undecided g os k l c u bo ug br e) =
    let (p, q) = same_numbers i j k l e in
    (c, u, subst (λ (x : ℕ). IsFirstBreak d (λ n. 5) x j) (sym p) (subst (IsFirstBreak d (λ n. 5) k) (sym q) br))
  where
    same_numbers : (i j k l : ℕ) → Undecided i j ≡ Undecided k l → (i ≡ k) × (j ≡ l)
    same_numbers i j k l e = (cc, cc)

pub never_of_straights : StraightsAreSettled → (t : ℤ) (d : Plan) (i j : ℕ) → AreStraights d
    → IsAnswerBy t d (Undecided i j) → ⊥
never_of_straights law t d i j s h =
    let (c, u, b) = undecided_is t d i j h in u 0 (omega arith) (law d s c.pairs)

-- a drawing of straights is never bent
pub own_of_straights : StraightsAreSettled → (t : ℤ) (d : Plan) (c : Certificate) → AreStraights d
    → IsAnswerBy t d (Proved c) → c.bent ≡ false
own_of_straights law t d c s (by.own h n) = (own_proof d c h).2
own_of_straights law t d c s (by.bent g os b clear u bo cg st h e) =
    absurd (u 0 (omega arith) (law d s clear.pairs))
own_of_straights law t d c s (by.undecided g os i j clear u bo ug br e) = absurd (cc e)

pub half_arc_by : BreaksByArc → (t : ℤ) (d : Plan) (i j : ℕ) → IsAnswerBy t d (Undecided i j)
    → IsHalfArc d i ⊎ IsHalfArc d j
half_arc_by law t d i j h =
    let (c, u, b) = undecided_is t d i j h in pair_has_half_arc law d i j (undecided i j c u b)

pub order_by : (t : ℤ) (d : Plan) (i j : ℕ) → IsAnswerBy t d (Undecided i j)
    → (i ≤ j) × (j < length d.curves)
order_by t d i j h =
    let (c, u, b) = undecided_is t d i j h in pair_order d i j (undecided i j c u b)

-- ---- the numbers of a fault
own_there : (d : Plan) (f : AreaFinding) → IsAnswer d (Fault f) → AreThere d f
own_there d _ (meeting i j b) = (omega (arith, b.order, b.there), b.there)
own_there d _ (on j i n l) = (l.on.point_there, l.on.curve_there)
own_there d _ (outside j c t l) = l.outside.there
own_there d _ (two i j c t l) = (omega (arith, l.two.order, l.two.there), l.two.there)
own_there d _ (empty i left c t l) = empty_there d i left l.empty
own_there d _ (cut i c t l) = l.there

bent_there : CurvesAreThere → (t : ℤ) (d g : Plan) (os : List ℕ) → IsBentOf t d g os → AreClear g
    → (f : AreaFinding) → IsAnswer g (Fault f) → AreThere d (named_finding os f)
bent_there law t d g os b c _ (meeting i j p) = absurd (c.pairs i j p)
bent_there law t d g os b c _ (on j i n l) = absurd (c.points j i l.on)
bent_there law t d g os b c _ (outside j n s l) =
    let e = ap length b.points in omega (arith, e, l.outside.there)
bent_there law t d g os b c _ (two i j n s l) =
    let e = ap length b.points in
    (omega (arith, e, l.two.order, l.two.there), omega (arith, e, l.two.there))
bent_there law t d g os b c _ (empty i left n s l) = law t d g os b i (empty_there g i left l.empty)
bent_there law t d g os b c _ (cut i n s l) = law t d g os b i l.there

pub there_by : CurvesAreThere → (t : ℤ) (d : Plan) (f : AreaFinding) → IsAnswerBy t d (Fault f)
    → AreThere d f
there_by law t d f (by.own h n) = own_there d f h
there_by law t d f (by.bent g os b c u bo cg s h e) =
    let (x, r, w) = was_fault os f b e in
    subst (AreThere d) (sym w) (bent_there law t d g os bo cg x (subst (IsAnswer g) r h))
there_by law t d f (by.undecided g os i j c u bo ug br e) = absurd (cc e)
