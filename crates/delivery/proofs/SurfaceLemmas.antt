-- Answers to SURFACEs: what they say of the boundaries, and that two of one SURFACE agree.
use Rattle.std.proofs.Common.{◌≡◌, ◌⊎◌, inl, inr, ℕ, suc, ◌<◌, ◌≤◌, Bool, true, false, ◌||◌, List}
use Rattle.std.proofs.Common.{[], ◌∷◌, ◌++◌, refl, sym, ap, ◌∙◌, subst, arith}
use Rattle.std.specs.List.{All, Any}
use Rattle.std.proofs.lemmas.List.Elements.{All-nil, All-cons, All-head, All-tail}
use Rattle.itf_reader.specs.Forms.{Row}
use Rattle.table_layout.specs.Layouts.{Layout}
use Rattle.plane.proofs.FaceLemmas.EdgeDrawings.{some_window}
use Rattle.plane.specs.declared.kinds.Edge.{Edge}
use Rattle.plane.specs.Faces.Parity.{EvenEnds}
use Rattle.straight_predicates.proofs.Orders.{by_lt}
use Rattle.surface_rings.specs.Surfaces.{IsClear, IsLeastOdd, IsMeeting}
use Rattle.reports.specs.Kinds.{has_fault, has_undecided, is_fault, surface_kind}
use Rattle.reports.specs.Lines.{Line}
use Rattle.reports.specs.Outcomes.{surface_line, surface_lines}
use Rattle.reports.specs.Surfaces.{SurfaceOf, surface_names, surfaces}
use Rattle.reports.specs.declared.lines.SurfaceAnswer.{SurfaceAnswer}
use Rattle.reports.specs.declared.lines.SurfaceAnswer.TheVariants.{Meeting, Odd, Parts, Proved}
use Rattle.delivery.specs.Answers.{AgreeLines, Matches, same, surfaces_meet}
use Rattle.delivery.specs.Surfaces.{AreRightSurfaces, HasFaultySurface}
use Rattle.delivery.specs.Surfaces.{AreRight, AreSurfaceAnswers, Boundary, HasFaultyBoundary, Holds}
use Rattle.delivery.specs.Surfaces.{IsAnswer, IsFault, IsFaulty, IsFaultyBoundary, IsRight}
use Rattle.delivery.specs.Surfaces.{IsSurfaceAnswer, are_all_skipped, boundaries, edges_of, faulty}
use Rattle.delivery.specs.Surfaces.{line_at, meeting, odd, parts, proved}

-- ---- what is at fault does not hold
no_meeting : (es : List Edge) (i j : ℕ) → IsMeeting es i j → IsClear es → ⊥
no_meeting es i j h c =
    let l = h.less in
    let w = h.within in
    c i j (omega (arith, l, w)) w (λ e. absurd (omega (arith, l, e))) h.bad

no_odd : (es : List Edge) (e : ℕ) → IsLeastOdd es e → EvenEnds es → ⊥
no_odd es e h v = let t = h.odd.odd in let f = v h.odd.at in let x = sym t ∙ f in cc

pub no_region : (b : Boundary) (x : SurfaceAnswer) → IsFault b x → Holds b → ⊥
no_region b x (meeting i j h e) k = no_meeting (edges_of b) i j h (k some_window).clear
no_region b x (odd e h q) k = no_odd (edges_of b) e h (k some_window).even
no_region b x (parts h q) k = (h some_window).apart (k some_window).connected

not_right : (all : Bool) (b : Boundary) (x : SurfaceAnswer) → IsFaulty all x b → IsRight all b → ⊥
not_right all b x f r = no_region b x f.1 (r f.0)

-- ---- lists
all_middle : {X : Type 0} (P : X → Type 0) (before : List X) (x : X) (after : List X)
    → All P (before ++ x ∷ after) → P x
all_middle P [] x after a = All-head P x after a
all_middle P (y ∷ before) x after a =
    all_middle P before x after (All-tail P y (before ++ x ∷ after) a)

pub any_here : {X : Type 0} (P : X → Type 0) (x : X) (xs : List X) → P x → Any P (x ∷ xs)
any_here P x xs h = (0, x, omega arith, refl, h)

pub any_there : {X : Type 0} (P : X → Type 0) (x : X) (xs : List X) → Any P xs → Any P (x ∷ xs)
any_there P x xs h = (suc h.0, h.1, (let n = h.2 in omega (arith, n)), h.3, h.4)

any_middle : {X : Type 0} (P : X → Type 0) (before : List X) (x : X) (after : List X) → P x
    → Any P (before ++ x ∷ after)
any_middle P [] x after h = any_here P x after h
any_middle P (y ∷ before) x after h =
    any_there P y (before ++ x ∷ after) (any_middle P before x after h)

-- the first element that is not so is one
first_same : {X : Type 0} (R : X → Type 0) (before past : List X) (x y : X) (after rest : List X)
    → before ++ x ∷ after ≡ past ++ y ∷ rest → All R before → All R past → (R x → ⊥) → (R y → ⊥)
    → x ≡ y
first_same {X = X} R [] [] x y after rest e a b f g = cc
first_same {X = X} R [] (p ∷ past) x y after rest e a b f g =
    absurd (f (subst R (head p x e) (All-head R p past b)))
  where
    head : (p x : X) → x ∷ after ≡ p ∷ (past ++ y ∷ rest) → p ≡ x
    head p x e = cc
first_same {X = X} R (q ∷ before) [] x y after rest e a b f g =
    absurd (g (subst R (head q y e) (All-head R q before a)))
  where
    head : (q y : X) → q ∷ (before ++ x ∷ after) ≡ y ∷ rest → q ≡ y
    head q y e = cc
first_same R (q ∷ before) (p ∷ past) x y after rest e a b f g =
    first_same R before past x y after rest (tails e) (All-tail R q before a)
    (All-tail R p past b) f g
  where
    tails : q ∷ (before ++ x ∷ after) ≡ p ∷ (past ++ y ∷ rest)
        → before ++ x ∷ after ≡ past ++ y ∷ rest
    tails e = cc

-- ---- the kinds of answers
abbrev pub answer_is_fault : SurfaceAnswer → Bool
answer_is_fault x = is_fault (surface_kind x)

differ : {P : Type 0} (b : Bool) → b ≡ true → b ≡ false → P
differ b h k = absurd (let e = sym h ∙ k in cc)

is_faulty : (b : Boundary) (x : SurfaceAnswer) → IsFault b x → answer_is_fault x ≡ true
is_faulty b x (meeting i j h e) = ap answer_is_fault e
is_faulty b x (odd n h e) = ap answer_is_fault e
is_faulty b x (parts h e) = ap answer_is_fault e

all_right : (all : Bool) (bs : List Boundary) (x : SurfaceAnswer) → IsAnswer all bs x
    → answer_is_fault x ≡ false → All (IsRight all) bs
all_right all bs x (proved a e) f = a
all_right all bs x (faulty before b after e a k) f =
    differ (answer_is_fault x) (is_faulty b x k.1) f

some_faulty : (all : Bool) (bs : List Boundary) (x : SurfaceAnswer) → IsAnswer all bs x
    → answer_is_fault x ≡ true → Any (IsFaultyBoundary all) bs
some_faulty all bs x (proved a e) t = differ (answer_is_fault x) t (ap answer_is_fault e)
some_faulty all bs x (faulty before b after e a k) t =
    subst (Any (IsFaultyBoundary all)) (sym e)
    (any_middle (IsFaultyBoundary all) before b after
    (record { answer = x; faulty = k; no_region = no_region b x k.1 }))

-- ---- all SURFACEs
neither : (b c : Bool) → (b || c) ≡ false → (b ≡ false) × (c ≡ false)
neither true c h = absurd (cc)
neither false c h = (refl, h)

either : (b c : Bool) → (b || c) ≡ true → (b ≡ true) ⊎ (c ≡ true)
either true c h = inl refl
either false c h = inr h

-- no line of a SURFACE is undecided
pub none_undecided : (l : Layout) (ss : List SurfaceOf) (xs : List SurfaceAnswer)
    → has_undecided (surface_lines l ss xs) ≡ false
none_undecided l [] xs = refl
none_undecided l (s ∷ ss) [] = refl
none_undecided l (s ∷ ss) (Proved held skipped ∷ xs) = none_undecided l ss xs
none_undecided l (s ∷ ss) (Meeting i j ∷ xs) = none_undecided l ss xs
none_undecided l (s ∷ ss) (Odd i ∷ xs) = none_undecided l ss xs
none_undecided l (s ∷ ss) (Parts i ∷ xs) = none_undecided l ss xs

module _ (l : Layout) (rows : List (List Row)) where
  pub right_surfaces : (ss : List SurfaceOf) (xs : List SurfaceAnswer)
      → AreSurfaceAnswers l rows ss xs → has_fault (surface_lines l ss xs) ≡ false
      → All (AreRight l rows) ss
  right_surfaces [] [] h f = All-nil (AreRight l rows)
  right_surfaces [] (x ∷ xs) h f = absurd h
  right_surfaces (s ∷ ss) [] h f = absurd h
  right_surfaces (s ∷ ss) (x ∷ xs) h f =
      let b = neither (answer_is_fault x) (has_fault (surface_lines l ss xs)) f in
      All-cons (AreRight l rows) s ss
      (all_right (are_all_skipped l rows s) (boundaries l rows s) x h.0 b.0)
      (right_surfaces ss xs h.1 b.1)

  pub faulty_surface : (ss : List SurfaceOf) (xs : List SurfaceAnswer)
      → AreSurfaceAnswers l rows ss xs → has_fault (surface_lines l ss xs) ≡ true
      → Any (HasFaultyBoundary l rows) ss
  faulty_surface [] [] h t = absurd (cc)
  faulty_surface [] (x ∷ xs) h t = absurd h
  faulty_surface (s ∷ ss) [] h t = absurd h
  faulty_surface (s ∷ ss) (x ∷ xs) h t =
      elim (either (answer_is_fault x) (has_fault (surface_lines l ss xs)) t) as (λ z. Any
      (HasFaultyBoundary l rows) (s ∷ ss)) [
        | inl e ↦ any_here (HasFaultyBoundary l rows) s ss
            (some_faulty (are_all_skipped l rows s) (boundaries l rows s) x h.0 e)
        | inr e ↦ any_there (HasFaultyBoundary l rows) s ss (faulty_surface ss xs h.1 e)
      ]

  -- where all boundaries that are judged hold no answer is a fault
  pub no_fault : (ss : List SurfaceOf) (xs : List SurfaceAnswer) → AreSurfaceAnswers l rows ss xs
      → All (AreRight l rows) ss → has_fault (surface_lines l ss xs) ≡ false
  no_fault [] [] h a = refl
  no_fault [] (x ∷ xs) h a = absurd h
  no_fault (s ∷ ss) [] h a = absurd h
  no_fault (s ∷ ss) (x ∷ xs) h a =
      ap (λ (b : Bool). b || has_fault (surface_lines l ss xs))
      (fine (are_all_skipped l rows s) (boundaries l rows s) x h.0
      (All-head (AreRight l rows) s ss a))
      ∙ no_fault ss xs h.1 (All-tail (AreRight l rows) s ss a)
    where
      fine : (all : Bool) (bs : List Boundary) (x : SurfaceAnswer) → IsAnswer all bs x
          → All (IsRight all) bs → answer_is_fault x ≡ false
      fine all bs x (proved a e) r = ap answer_is_fault e
      fine all bs x (faulty before b after e a k) r =
          absurd (not_right all b x k
          (all_middle (IsRight all) before b after (subst (All (IsRight all)) e r)))

-- what holds of all elements holds of the one that there is
pub both_at : {X : Type 0} (P Q : X → Type 0) (xs : List X) → All P xs → Any Q xs
    → (x : X) × P x × Q x
both_at P Q xs s h = (h.1, subst P h.3 (s h.0 h.1 h.2), h.4)

-- boundaries that hold are not at fault
pub no_faulty_surface : (l : Layout) (rows : List (List Row)) → AreRightSurfaces l rows
    → HasFaultySurface l rows → ⊥
no_faulty_surface l rows a f =
    let s = both_at (AreRight l rows) (HasFaultyBoundary l rows) (surfaces l) a f in
    let all = are_all_skipped l rows s.0 in
    let b = both_at (IsRight all) (IsFaultyBoundary all) (boundaries l rows s.0) s.1 s.2 in
    b.2.no_region (b.1 b.2.faulty.0)

-- ---- two answers to one SURFACE
data AreAlike (x y : SurfaceAnswer) : Type 0 where
  equal : x ≡ y → AreAlike x y
  both_meet : (i j k m : ℕ) → x ≡ Meeting i j → y ≡ Meeting k m → AreAlike x y

one_odd : (es : List Edge) (e f : ℕ) → IsLeastOdd es e → IsLeastOdd es f → e ≡ f
one_odd es e f h k =
    by_lt e f (λ (l : e < f). absurd (k.least e l h.odd))
    (λ (l : f ≤ e). by_lt f e (λ (m : f < e). absurd (h.least f m k.odd))
    (λ (m : e ≤ f). omega (arith, l, m)))

fault_alike : (b : Boundary) (x y : SurfaceAnswer) → IsFault b x → IsFault b y → AreAlike x y
fault_alike b x y (meeting i j h e) (meeting k m g f) =
    both_meet (line_at b i) (line_at b j) (line_at b k) (line_at b m) e f
fault_alike b x y (meeting i j h e) (odd n g f) = absurd (no_meeting (edges_of b) i j h g.clear)
fault_alike b x y (meeting i j h e) (parts g f) =
    absurd (no_meeting (edges_of b) i j h (g some_window).clear)
fault_alike b x y (odd n h e) (meeting k m g f) =
    absurd (no_meeting (edges_of b) k m g h.clear)
fault_alike b x y (odd n h e) (odd p g f) =
    equal (e ∙ ap (λ (i : ℕ). Odd (line_at b i)) (one_odd (edges_of b) n p h g) ∙ sym f)
fault_alike b x y (odd n h e) (parts g f) =
    absurd (no_odd (edges_of b) n h (g some_window).even)
fault_alike b x y (parts h e) (meeting k m g f) =
    absurd (no_meeting (edges_of b) k m g (h some_window).clear)
fault_alike b x y (parts h e) (odd p g f) =
    absurd (no_odd (edges_of b) p g (h some_window).even)
fault_alike b x y (parts h e) (parts g f) = equal (e ∙ sym f)

alike : (all : Bool) (bs : List Boundary) (x y : SurfaceAnswer) → IsAnswer all bs x
    → IsAnswer all bs y → AreAlike x y
alike all bs x y (proved a e) (proved b f) = equal (e ∙ sym f)
alike all bs x y (proved a e) (faulty before b after q r k) =
    absurd (not_right all b y k
    (all_middle (IsRight all) before b after (subst (All (IsRight all)) q a)))
alike all bs x y (faulty before b after q r k) (proved a e) =
    absurd (not_right all b x k
    (all_middle (IsRight all) before b after (subst (All (IsRight all)) q a)))
alike all bs x y (faulty before b after q r k) (faulty past c rest p s m) =
    let one = first_same (IsRight all) before past b c after rest (sym q ∙ p) r s
    (not_right all b x k) (not_right all c y m) in
    fault_alike b x y k.1 (subst (λ (d : Boundary). IsFault d y) (sym one) m.1)

alike_faults : (x y : SurfaceAnswer) → AreAlike x y → answer_is_fault x ≡ answer_is_fault y
alike_faults x y (equal e) = ap answer_is_fault e
alike_faults x y (both_meet i j k m e f) = ap answer_is_fault e ∙ sym (ap answer_is_fault f)

alike_lines : (l : Layout) (s : SurfaceOf) (x y : SurfaceAnswer) → AreAlike x y
    → Matches (surface_line l s x) (surface_line l s y)
alike_lines l s x y (equal e) = same (ap (surface_line l s) e)
alike_lines l s x y (both_meet i j k m e f) =
    surfaces_meet (surface_names l s) i j k m (ap (surface_line l s) e) (ap (surface_line l s) f)

module _ (l : Layout) (rows : List (List Row)) where
  one_alike : (s : SurfaceOf) (x y : SurfaceAnswer) → IsSurfaceAnswer l rows s x
      → IsSurfaceAnswer l rows s y → AreAlike x y
  one_alike s x y = alike (are_all_skipped l rows s) (boundaries l rows s) x y

  pub same_faults : (ss : List SurfaceOf) (xs ys : List SurfaceAnswer)
      → AreSurfaceAnswers l rows ss xs → AreSurfaceAnswers l rows ss ys
      → has_fault (surface_lines l ss xs) ≡ has_fault (surface_lines l ss ys)
  same_faults [] [] [] h k = refl
  same_faults [] [] (y ∷ ys) h k = absurd k
  same_faults [] (x ∷ xs) ys h k = absurd h
  same_faults (s ∷ ss) [] ys h k = absurd h
  same_faults (s ∷ ss) (x ∷ xs) [] h k = absurd k
  same_faults (s ∷ ss) (x ∷ xs) (y ∷ ys) h k =
      ap (λ (b : Bool). b || has_fault (surface_lines l ss xs))
      (alike_faults x y (one_alike s x y h.0 k.0))
      ∙ ap (λ (b : Bool). answer_is_fault y || b) (same_faults ss xs ys h.1 k.1)

  pub lines_agree : (ss : List SurfaceOf) (xs ys : List SurfaceAnswer) (t u : List Line)
      → AgreeLines t u → AreSurfaceAnswers l rows ss xs → AreSurfaceAnswers l rows ss ys
      → AgreeLines (surface_lines l ss xs ++ t) (surface_lines l ss ys ++ u)
  lines_agree [] [] [] t u v h k = v
  lines_agree [] [] (y ∷ ys) t u v h k = absurd k
  lines_agree [] (x ∷ xs) ys t u v h k = absurd h
  lines_agree (s ∷ ss) [] ys t u v h k = absurd h
  lines_agree (s ∷ ss) (x ∷ xs) [] t u v h k = absurd k
  lines_agree (s ∷ ss) (x ∷ xs) (y ∷ ys) t u v h k =
      (alike_lines l s x y (one_alike s x y h.0 k.0), lines_agree ss xs ys t u v h.1 k.1)
