-- The lists of tubes, boxes and marks as they grow.
use Rattle.std.proofs.Common.{◌≡◌, ℕ, suc, ◌+◌, ◌<◌, ◌≤◌, Bool, true, false, IsTrue, ◌↔◌, Option}
use Rattle.std.proofs.Common.{Some, None, List, [], ◌∷◌, ◌++◌, length, get_or, arith, ap, sym, ◌∙◌}
use Rattle.std.proofs.Common.{subst}
use Rattle.std.proofs.lemmas.List.{length-append, get_or_append_left}
use Rattle.std.proofs.Math.Seq.{get_or-append_seam}
use Rattle.plane.specs.Forms.Boxes.{Box, InBox}
use Rattle.plane.specs.Forms.Vectors.{point}
use Rattle.plane.specs.Rule.Plans.{Plan}
use Rattle.plane.specs.declared.kinds.Curve.{Curve}
use Rattle.plane.specs.declared.kinds.CurveKind.TheVariants as kind
use Rattle.plane.specs.declared.kinds.Point.{Point}
use Rattle.straight_predicates.proofs.Orders.{by_lt}
use Rattle.near_pairs.specs.Boxes.{box_of, no_reach}
use Rattle.near_pairs.specs.declared.reaches.Reach.{Reach}
use Rattle.tubes.specs.DrawnEdges.{nth_curve}
use Rattle.tubes.specs.Settled.{AreTubesAt, IsTubeFor}
use Rattle.tubes.specs.declared.kinds.Tube.{Tube}
use Rattle.level_breaks.specs.Groups.{Covers, HoldsAll, corners, nth}
use Rattle.level_breaks.specs.LevelLists.{AreBoxesTo, AreMarksTo, AreTubesTo, tube_of}
use Rattle.level_breaks.proofs.BoxPoints.{all_covered, all_of_both, covered}

last : (i k : ℕ) → i < k + 1 → k ≤ i → i ≡ k
last i k l m = omega (arith, l, m)

-- ---- a box of points
pub holds_by_number : (b : Box) (ps : List Point)
    → ((k : ℕ) → k < length ps → InBox b (point (nth ps k))) → HoldsAll b ps
holds_by_number b [] f = tt
holds_by_number b (p ∷ ps) f =
    (f 0 (omega arith), holds_by_number b ps (λ k l. f (suc k) (omega (arith, l))))

pub point_more : (a b : Box) (ps : List Point) (k : ℕ) → Covers b a
    → ((i : ℕ) → i < k → InBox a (point (nth ps i))) → InBox b (point (nth ps k)) → (i : ℕ)
    → i < k + 1 → InBox b (point (nth ps i))
point_more a b ps k c f h i l =
    by_lt i k (λ (m : i < k). covered b a (nth ps i) c (f i m))
    (λ (m : k ≤ i). subst (λ (n : ℕ). InBox b (point (nth ps n))) (sym (last i k l m)) h)

pub box_of_tube : (c : Curve) (t : Tube) (a b : Box) → HoldsAll a t.inner.items → Covers b a
    → HoldsAll b t.outer.items → HoldsAll b (corners c (Some t))
box_of_tube c t a b h k o =
    all_of_both b t.inner.items t.outer.items (all_covered b a t.inner.items k h) o

pub box_of_straight : (c : Curve) (a b : Box) → InBox a (point c.from) → Covers b a
    → InBox b (point c.to) → HoldsAll b (corners c None)
box_of_straight c a b h k o = (covered b a c.from k h, (o, tt))

-- ---- one more
module _ {X : Type 0} (xs : List X) (x d : X) (k : ℕ) (size : length xs ≡ k) where
  pub size_more : length (xs ++ x ∷ []) ≡ k + 1
  size_more = let s = length-append xs (x ∷ []) in omega (arith, s, size)

  pub front_of : (i : ℕ) → i < k → get_or (xs ++ x ∷ []) i d ≡ get_or xs i d
  front_of i l = get_or_append_left xs (x ∷ []) d i (omega (arith, l, size))

  pub last_of : (i : ℕ) → i ≡ k → get_or (xs ++ x ∷ []) i d ≡ x
  last_of i e = ap (λ (j : ℕ). get_or (xs ++ x ∷ []) j d) (e ∙ sym size)
      ∙ get_or-append_seam xs x [] d

  pub each_more : (P : ℕ → X → Type 0) → ((i : ℕ) → i < k → P i (get_or xs i d)) → P k x → (i : ℕ)
      → i < k + 1 → P i (get_or (xs ++ x ∷ []) i d)
  each_more P f h i l = by_lt i k
      (λ (m : i < k). subst (P i) (sym (front_of i m)) (f i m))
      (λ (m : k ≤ i). subst (P i) (sym (last_of i (last i k l m)))
      (subst (λ (j : ℕ). P j x) (sym (last i k l m)) h))

pub box_more : (curves : List Curve) (tubes : List (Option Tube)) (k : ℕ) (boxes new : List Reach)
    (r : Reach)
    → AreBoxesTo curves tubes k boxes → new ≡ boxes ++ r ∷ []
    → HoldsAll (box_of r) (corners (nth_curve curves k) (tube_of tubes k))
    → AreBoxesTo curves tubes (k + 1) new
box_more curves tubes k boxes new r a q h =
    subst (AreBoxesTo curves tubes (k + 1)) (sym q) (record {
      size = size_more boxes r no_reach k a.size;
      holds = each_more boxes r no_reach k a.size
          (λ i b. HoldsAll (box_of b) (corners (nth_curve curves i) (tube_of tubes i))) a.holds h;
    })

pub mark_more : (curves : List Curve) (k : ℕ) (marks new : List Bool) (r : Bool)
    → AreMarksTo curves k marks → new ≡ marks ++ r ∷ []
    → (IsTrue r ↔ ((nth_curve curves k).kind ≡ kind.HalfArc)) → AreMarksTo curves (k + 1) new
mark_more curves k marks new r a q h = subst (AreMarksTo curves (k + 1)) (sym q) (record {
  size = size_more marks r false k a.size;
  half_arc = each_more marks r false k a.size (λ i b. (nth_curve curves i).kind ≡ kind.HalfArc
      → b ≡ true) a.half_arc (λ e. h.1 e);
})

pub tube_more : (curves : List Curve) (level : ℕ → ℕ) (k : ℕ) (tubes new : List (Option Tube))
    (t : Option Tube)
    → AreTubesTo curves level k tubes → new ≡ tubes ++ t ∷ []
    → IsTubeFor (nth_curve curves k) (level k) t → AreTubesTo curves level (k + 1) new
tube_more curves level k tubes new t a q h =
    subst (AreTubesTo curves level (k + 1)) (sym q) (record {
      size = size_more tubes t None k a.size;
      each = each_more tubes t None k a.size (λ i u. IsTubeFor (nth_curve curves i) (level i) u) a.each h;
    })

-- ---- at the end
pub all_boxes : (curves : List Curve) (tubes : List (Option Tube)) (k : ℕ) (boxes : List Reach)
    → length curves ≤ k → k ≤ length curves → AreBoxesTo curves tubes k boxes
    → AreBoxesTo curves tubes (length curves) boxes
all_boxes curves tubes k boxes l m a =
    subst (λ (n : ℕ). AreBoxesTo curves tubes n boxes) (omega (arith, l, m)) a

pub all_marks : (curves : List Curve) (k : ℕ) (marks : List Bool) → length curves ≤ k
    → k ≤ length curves → AreMarksTo curves k marks → AreMarksTo curves (length curves) marks
all_marks curves k marks l m a =
    subst (λ (n : ℕ). AreMarksTo curves n marks) (omega (arith, l, m)) a

pub all_tubes : (d : Plan) (level : ℕ → ℕ) (k : ℕ) (tubes : List (Option Tube)) → length d.curves ≤ k
    → k ≤ length d.curves → AreTubesTo d.curves level k tubes → AreTubesAt d level tubes
all_tubes d level k tubes l m a =
    by (subst (λ (n : ℕ). AreTubesTo d.curves level n tubes) (omega (arith, l, m)) a)
  where
    by : AreTubesTo d.curves level (length d.curves) tubes → AreTubesAt d level tubes
    by b = record { count = b.size; each = b.each }
