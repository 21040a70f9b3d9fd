-- What the regions of the points of pairs say of the pairs.
use Rattle.std.proofs.Common.{◌≡◌, inl, inr, ℕ, ℤ, suc, ◌<◌, ◌≤◌, Bool, true, false, ◌&&◌}
use Rattle.std.proofs.Common.{int_le, List, [], ◌∷◌, ◌++◌, length, Option, Some, None, refl, sym}
use Rattle.std.proofs.Common.{ap, ◌∙◌, subst, arith, true≢false}
use Rattle.std.specs.Prelude.{◌↔◌, ◌≤ℤ◌, ◌==◌, if◌then◌else◌}
use Rattle.std.specs.List.{All, AllZip}
use Rattle.std.proofs.lemmas.Bool.Decides.{nat_tests}
use Rattle.std.proofs.lemmas.Int.{ints}
use Rattle.std.proofs.lemmas.List.Elements.{All-nil, All-cons, All-head, All-tail}
use Rattle.area_links.specs.declared.kinds.LinkPair.{LinkPair}
use Rattle.area_search.specs.Grounds.{IsRightGround}
use Rattle.area_search.specs.Regions.{HasRegion, place_at, region_at}
use Rattle.area_search.specs.declared.kinds.Region.{Region}
use Rattle.area_search.specs.declared.kinds.Region.TheVariants.{OnCurve, Outer, Of}
use Rattle.plane.specs.Rule.Places.{point}
use Rattle.plane.specs.Rule.Plans.{Plan}
use Rattle.plane.specs.Rule.Windows.{IsInside}
use Rattle.plane.specs.declared.kinds.Point.{Point}
use Rattle.plane.specs.declared.window.Window2.{Window2}
use Rattle.delivery.specs.Links.{AreMisplaced, LinkHolds}
use Rattle.delivery.specs.LinkRegions.{AreTold, FirstTells, after_first, all_inner}
use Rattle.delivery.specs.LinkRegions.{first_region, inner_places, is_of, is_within, line_unless}
use Rattle.delivery.specs.LinkRegions.{lines_by, region_of, regions_after, regions_left, results_by}

-- ---- the window
both : (a b : Bool) → (a && b) ≡ true → (a ≡ true) × (b ≡ true)
both true b e = (refl, e)
both false b e = absurd (true≢false (sym e))

at_most : (x y : ℤ) → int_le x y ≡ true → x ≤ℤ y
at_most x y e = grind (arith, ints, e)

less : (x y : ℤ) → x ≤ℤ y → int_le x y ≡ true
less x y e = grind (arith, ints, e)

pub within_inside : (w : Window2) (p : Point) → is_within w p ≡ true → IsInside w.low w.high p
within_inside w p e =
    let a = both (int_le w.low.x p.x && int_le p.x w.high.x)
    (int_le w.low.y p.y && int_le p.y w.high.y) e in
    let x = both (int_le w.low.x p.x) (int_le p.x w.high.x) a.0 in
    let y = both (int_le w.low.y p.y) (int_le p.y w.high.y) a.1 in
    record {
      left = at_most w.low.x p.x x.0;
      right = at_most p.x w.high.x x.1;
      bottom = at_most w.low.y p.y y.0;
      top = at_most p.y w.high.y y.1;
    }

all_true : (a b c d : Bool) → a ≡ true → b ≡ true → c ≡ true → d ≡ true
    → ((a && b) && (c && d)) ≡ true
all_true a b c d e f g h =
    ap (λ (x : Bool). (x && b) && (c && d)) e
    ∙ (ap (λ (x : Bool). x && (c && d)) f
    ∙ (ap (λ (x : Bool). x && d) g ∙ h))

inside_within : (w : Window2) (p : Point) → IsInside w.low w.high p → is_within w p ≡ true
inside_within w p i =
    all_true (int_le w.low.x p.x) (int_le p.x w.high.x) (int_le w.low.y p.y) (int_le p.y w.high.y)
    (less w.low.x p.x i.left) (less p.x w.high.x i.right) (less w.low.y p.y i.bottom)
    (less p.y w.high.y i.top)

-- the points that are asked for lie in the window
pub inner_inside : (w : Window2) (ps : List LinkPair)
    → All (IsInside w.low w.high) (inner_places w ps)
inner_inside w [] = All-nil (IsInside w.low w.high)
inner_inside w (p ∷ ps) = by (is_within w p.at) refl (inner_inside w ps)
  where
    by : (b : Bool) → is_within w p.at ≡ b → All (IsInside w.low w.high) (inner_places w ps)
        → All (IsInside w.low w.high)
        (if b then p.at ∷ inner_places w ps else inner_places w ps)
    by true e rest =
        All-cons (IsInside w.low w.high) p.at (inner_places w ps) (within_inside w p.at e) rest
    by false e rest = rest

all_append : (P : Point → Type 0) (xs ys : List Point) → All P xs → All P ys → All P (xs ++ ys)
all_append P [] ys a b = b
all_append P (x ∷ xs) ys a b =
    All-cons P x (xs ++ ys) (All-head P x xs a) (all_append P xs ys (All-tail P x xs a) b)

pub all_inside : (w : Window2) (pss : List (List LinkPair))
    → All (IsInside w.low w.high) (all_inner w pss)
all_inside w [] = All-nil (IsInside w.low w.high)
all_inside w (ps ∷ pss) =
    all_append (IsInside w.low w.high) (inner_places w ps) (all_inner w pss) (inner_inside w ps)
    (all_inside w pss)

-- ---- regions in order
-- the regions of some points, from a place on, tell of these
abbrev pub AreTelling : Plan → List Point → List Region → Type 0
AreTelling g places rs =
    (length places ≤ length rs)
    × ((j k : ℕ) → j < length places
    → HasRegion g (point (place_at places j)) (Of k) ↔ (region_at rs j ≡ Of k))

telling_rest : (g : Plan) (p : Point) (places : List Point) (r : Region) (rs : List Region)
    → AreTelling g (p ∷ places) (r ∷ rs) → AreTelling g places rs
telling_rest g p places r rs t =
    (omega (arith, t.0), λ j k lt. t.1 (suc j) k (omega (arith, lt)))

module _ (g : Plan) (w : Window2) where
  -- regions that tell of points tell of their pairs
  pub told : (ps : List LinkPair) (more : List Point) (rs : List Region)
      → AreTelling g (inner_places w ps ++ more) rs
      → AreTold g w ps rs × AreTelling g more (regions_left w ps rs)
  told [] more rs t = (tt, t)
  told (p ∷ ps) more rs t = by (is_within w p.at) (told ps more) rs t
    where
      Given : Bool → List Region → Type 0
      Given b rs =
          AreTelling g ((if b then p.at ∷ inner_places w ps else inner_places w ps) ++ more) rs

      Wanted : Bool → List Region → Type 0
      Wanted b rs =
          (FirstTells b g p rs
          × AreTold g w ps (if b then after_first rs else rs))
          × AreTelling g more (regions_left w ps (if b then after_first rs else rs))

      Told : Type 0
      Told =
          (rs : List Region) → AreTelling g (inner_places w ps ++ more) rs
          → AreTold g w ps rs × AreTelling g more (regions_left w ps rs)

      by : (b : Bool) → Told → (rs : List Region) → Given b rs → Wanted b rs
      by true again [] t = absurd (omega (arith, t.0))
      by true again (r ∷ rs) t =
          let rest = again rs
          (telling_rest g p.at (inner_places w ps ++ more) r rs t) in
          ((λ k. t.1 0 k (omega arith), rest.0), rest.1)
      by false again rs t =
          let rest = again rs t in
          ((tt, rest.0), rest.1)

-- ---- what they say
-- the region of a pair's point tells whether the pair holds
module _ (t : ℤ) (d g : Plan) (is_bent : Bool) (origin : List ℕ)
    (right : IsRightGround t d is_bent g origin)
    (one : (h : Plan) (b : Bool) (os : List ℕ) → IsRightGround t d b h os → h ≡ g) where
  holds_by : (p : LinkPair) (rs : List Region) (b : Bool) → is_within d.window p.at ≡ b
      → FirstTells b g p rs
      → is_of (if b then first_region rs else None) p.object ≡ true → LinkHolds t d p
  holds_by p rs false w f e = absurd (true≢false (sym (outside p.object e)))
    where
      outside : (o : Option ℕ) → is_of None o ≡ true → false ≡ true
      outside o e = e
  holds_by p [] true w f e = absurd f
  holds_by p (r ∷ rs) true w f e = by r p.object refl refl e
    where
      by : (s : Region) (o : Option ℕ) → r ≡ s → p.object ≡ o → is_of (Some s) o ≡ true
          → LinkHolds t d p
      by (Of k) (Some n) q h e =
          let same : k ≡ n = grind (arith, nat_tests, e) in
          record {
            k = k;
            object = h ∙ ap Some (sym same);
            inside = within_inside d.window p.at w;
            is_bent = is_bent;
            g = g;
            origin = origin;
            right = right;
            region = (f k).1 q;
          }
      by (Of k) None q h e = absurd (true≢false (sym e))
      by OnCurve o q h e = absurd (true≢false (sym e))
      by Outer o q h e = absurd (true≢false (sym e))

  is_of_own : (k : ℕ) (r : Region) (o : Option ℕ) → r ≡ Of k → o ≡ Some k
      → is_of (Some r) o ≡ true
  is_of_own k r o q h =
      ap (λ (s : Region). is_of (Some s) o) q
      ∙ (ap (λ (x : Option ℕ). is_of (Some (Of k)) x) h ∙ same k)
    where
      same : (k : ℕ) → (k == k) ≡ true
      same k = grind (arith, nat_tests)

  held_by : (p : LinkPair) (rs : List Region) (b : Bool) → is_within d.window p.at ≡ b
      → FirstTells b g p rs → LinkHolds t d p
      → is_of (if b then first_region rs else None) p.object ≡ true
  held_by p rs false w f h = absurd (true≢false (sym (inside_within d.window p.at h.inside) ∙ w))
  held_by p [] true w f h = absurd f
  held_by p (r ∷ rs) true w f h =
      let same = one h.g h.is_bent h.origin h.right in
      is_of_own h.k r p.object
      ((f h.k).0 (subst (λ (x : Plan). HasRegion x (point p.at) (Of h.k)) same h.region)) h.object

  -- the lines that the regions leave are those of the pairs that do not hold
  pub misplaced_by : (ps : List LinkPair) (rs : List Region) → AreTold g d.window ps rs
      → AreMisplaced t d ps (lines_by d.window ps rs)
  misplaced_by [] rs a = refl
  misplaced_by (p ∷ ps) rs a =
      by (is_of (region_of d.window p rs) p.object) refl
      (misplaced_by ps (regions_after d.window p rs) a.1)
    where
      by : (b : Bool) → is_of (region_of d.window p rs) p.object ≡ b
          → AreMisplaced t d ps (lines_by d.window ps (regions_after d.window p rs))
          → AreMisplaced t d (p ∷ ps)
          (line_unless b p.line ++ lines_by d.window ps (regions_after d.window p rs))
      by true e rest = inl (holds_by p rs (is_within d.window p.at) refl a.0 e, rest)
      by false e rest =
          inr (
            (λ h. true≢false (sym (held_by p rs (is_within d.window p.at) refl a.0 h) ∙ e)),
            (lines_by d.window ps (regions_after d.window p rs), refl, rest),
          )

  -- the same of the pairs of each rule
  pub results_misplaced : (pss : List (List LinkPair)) (rs : List Region)
      → AreTelling g (all_inner d.window pss) rs
      → AllZip (AreMisplaced t d) pss (results_by d.window pss rs)
  results_misplaced [] rs a = tt
  results_misplaced (ps ∷ pss) rs a =
      let b = told g d.window ps (all_inner d.window pss) rs a in
      (misplaced_by ps rs b.0, results_misplaced pss (regions_left d.window ps rs) b.1)
