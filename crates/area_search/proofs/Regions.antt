-- What is found, by the ground of a drawing: an answer, and the regions of places.
use Rattle.std.proofs.Common.{◌≡◌, ℕ, ℤ, Bool, true, All, List, Result, Ok, Err, IfOk}
use Rattle.std.proofs.Common.{refl, sym, ◌∙◌, subst}
use Rattle.plane.specs.Rule.Plans.{Plan}
use Rattle.plane.specs.Rule.Windows.{IsInside}
use Rattle.plane.specs.declared.kinds.Point.{Point}
use Rattle.plane.specs.declared.window.Window2.{Window2}
use Rattle.certificate.specs.declared.notes.Certificate.{Certificate}
use Rattle.forks.specs.Bent.{IsBentOf}
use Rattle.forks.specs.Grounds as grounds
use Rattle.area_search.specs.declared.kinds.AreaAnswer.{AreaAnswer}
use Rattle.area_search.specs.declared.kinds.AreaAnswer.TheVariants.{Proved, Fault, Undecided}
use Rattle.area_search.specs.declared.kinds.AreaFinding.{AreaFinding}
use Rattle.area_search.specs.declared.kinds.FoundObjects.{FoundObjects}
use Rattle.area_search.specs.declared.kinds.Region.{Region}
use Rattle.area_search.specs.Answers.{AreClear, IsAnswer, IsUnsettled}
use Rattle.area_search.specs.Grounds.{IsAnswerBy, IsUndecidedBent, named}
use Rattle.area_search.specs.Regions.{AreInWindow, AreOwnRegions, AreRegionsBy, IsFound}
use Rattle.area_search.specs.Regions.{IsFoundBy, IsFoundOfSettled}
use Rattle.area_search.proofs.GroundLaws.{never_both, own_proof}
use Rattle.area_search.proofs.Grounds.{BentLaws, bent_by, own_settled, own_undecided, undecided_by}

-- ---- an answer without regions
pub fault_found : (t : ℤ) (d : Plan) (places : List Point) (f : FoundObjects) (x : AreaFinding)
    → f.answer ≡ Fault x → IsAnswerBy t d (Fault x) → IsFoundBy t d places f
fault_found t d places f x e h = record {
  answer = subst (IsAnswerBy t d) (sym e) h;
  regions = subst (λ (a : AreaAnswer). AreRegionsBy a t d places f.regions.items) (sym e) tt;
}

pub own_fault_found : (d : Plan) (places : List Point) (f : FoundObjects) (x : AreaFinding)
    → f.answer ≡ Fault x → IsAnswer d (Fault x) → IsFound d places f
own_fault_found d places f x e h = record {
  answer = subst (IsAnswer d) (sym e) h;
  regions = subst (λ (a : AreaAnswer). AreOwnRegions a d places f.regions.items) (sym e) tt;
}

-- the pair that breaks the last level
pub undecided_found : (t : ℤ) (d : Plan) (places : List Point) (f : FoundObjects) (a : AreaAnswer)
    → f.answer ≡ a → AreClear d → IsUnsettled d → IsUndecidedBent t d → IsAnswer d a
    → IsFoundBy t d places f
undecided_found t d places f a e c u b h =
    let (i, j, q, w) = own_undecided d a c u h in
    record {
      answer = subst (IsAnswerBy t d) (sym e) (undecided_by t d a c u b h);
      regions = subst (λ (x : AreaAnswer). AreRegionsBy x t d places f.regions.items)
          (sym (e ∙ q)) tt;
    }

-- ---- the drawing itself
own_regions : (t : ℤ) (d : Plan) (places : List Point) (a : AreaAnswer) (rs : List Region)
    → IsAnswer d a → AreOwnRegions a d places rs → AreRegionsBy a t d places rs
own_regions t d places (Proved c) rs h r =
    let (p, l, own, k) = own_proof d c h in
    record {
      g = d;
      origin = _;
      right = record {
        is_ground = grounds.own own refl refl;
        own = λ e. (c.level, l);
        bent = λ e. absurd (never_both c.bent e own);
      };
      regions_are = r;
    }
own_regions t d places (Fault f) rs h r = tt
own_regions t d places (Undecided i j) rs h r = tt

pub settled_found : (t : ℤ) (d : Plan) (places : List Point) (f : FoundObjects)
    → IsFoundOfSettled d places f → IsFoundBy t d places f
settled_found t d places f h = record {
  answer = own_settled t d f.answer h.answer;
  regions = own_regions t d places f.answer f.regions.items h.answer.answer h.regions;
}

-- ---- the bent drawing
bent_regions : (t : ℤ) (d g : Plan) (os : List ℕ) (places : List Point) (b : AreaAnswer)
    (rs : List Region) → IsUnsettled d → IsBentOf t d g os → AreOwnRegions b g places rs
    → AreRegionsBy (named os b) t d places rs
bent_regions t d g os places (Proved c) rs u b r = record {
  g = g;
  origin = os;
  right = record {
    is_ground = grounds.bent refl b;
    own = λ e. absurd (never_both true refl e);
    bent = λ e. u;
  };
  regions_are = r;
}
bent_regions t d g os places (Fault f) rs u b r = tt
bent_regions t d g os places (Undecided i j) rs u b r = tt

pub bent_found : BentLaws → (t : ℤ) (d g : Plan) (os : List ℕ) (places : List Point)
    (f : FoundObjects) → AreClear d → IsUnsettled d → IsBentOf t d g os
    → IsFoundOfSettled g places f → (r : FoundObjects) → r.answer ≡ named os f.answer
    → r.regions.items ≡ f.regions.items → IsFoundBy t d places r
bent_found laws t d g os places f c u b h r e q = record {
  answer = bent_by laws t d g os f.answer c u b h.answer r.answer e;
  regions = subst (λ (a : AreaAnswer). AreRegionsBy a t d places r.regions.items) (sym e)
      (subst (λ (rs : List Region). AreRegionsBy (named os f.answer) t d places rs) (sym q)
      (bent_regions t d g os places f.answer f.regions.items u b h.regions));
}

-- its window is that of the drawing
pub window_stays : (d g : Plan) (places : List Point) → g.window ≡ d.window → AreInWindow d places
    → AreInWindow g places
window_stays d g places e h =
    subst (λ (w : Window2). All (IsInside w.low w.high) places) (sym e) h

-- ---- what is found where memory suffices
pub where_ok : {A E : Type 0} (P Q : A → Type 0) (r : Result A E) → ((a : A) → P a → Q a)
    → IfOk r P → IfOk r Q
where_ok P Q (Ok a) f h = f a h
where_ok P Q (Err e) f h = h
