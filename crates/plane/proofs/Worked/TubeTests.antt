-- A run over the edges of a drawing with tubes, and the labels of their sides, are decided by tests
-- that compute.
use Rattle.std.proofs.Common.{◌≡◌, ℕ, ◌<◌, Bool, true, false, List, length, get_or, inl, inr, refl}
use Rattle.std.proofs.Common.{ap, sym, ◌∙◌, subst}
use Rattle.plane.specs.declared.kinds.Point.{Point}
use Rattle.plane.specs.declared.kinds.CurveKind.TheVariants as kind
use Rattle.plane.specs.Forms.Vectors.{Edge}
use Rattle.plane.specs.Rule.Plans.{Plan, curve}
use Rattle.plane.specs.Rule.Curves.{arc}
use Rattle.plane.specs.Forms.Meets.{IsEnd}
use Rattle.plane.specs.Runs.Steps.{Step, Run}
use Rattle.plane.specs.Faces.Replays.{Replay, no_step}
use Rattle.plane.specs.Faces.Halves.{Half, twin, edge_of, mark}
use Rattle.plane.specs.Faces.Labels.{Labels, last_label, first_label}
use Rattle.plane.specs.Faces.Parity.{both, either, same_point, same_number}
use Rattle.plane.specs.Tubes.Bays.{Bay, IsTube}
use Rattle.plane.specs.Tubes.Facing.{way}
use Rattle.plane.specs.CurveRuns.TubedRuns.{Part, whole, inner, outer, edge_list, owned, owner}
use Rattle.plane.specs.CurveRuns.TubedRuns.{Connects, IsOfTube, IsTubedRun, tube_label}
use Rattle.plane.specs.CurveRuns.TubedRuns.{third_is_left, inward, AreTubeLabels}
use Rattle.plane.proofs.ParityLemmas.Parities.{both_true, same_is, same_self}
use Rattle.plane.proofs.ParityLemmas.ByNumber.{number_is}
use Rattle.plane.proofs.Worked.RunTests.{either_is, implies, implies_is, most, most_is, all_below}
use Rattle.plane.proofs.Worked.RunTests.{all_below_is, is_end}
use Rattle.plane.proofs.Worked.CertificateTests.{match_test, match_is}

-- ---- parts of curves
abbrev pub of_tube : Part → Bool
of_tube whole = false
of_tube inner = true
of_tube outer = true

tube_is : (p : Part) → IsOfTube p → of_tube p ≡ true
tube_is whole h = absurd h
tube_is inner h = refl
tube_is outer h = refl

abbrev same_part : Part → Part → Bool
same_part whole whole = true
same_part inner inner = true
same_part outer outer = true
same_part whole inner = false
same_part whole outer = false
same_part inner whole = false
same_part inner outer = false
same_part outer whole = false
same_part outer inner = false

part_is : (p q : Part) → p ≡ q → same_part p q ≡ true
part_is whole q e = subst (λ (x : Part). same_part whole x ≡ true) e refl
part_is inner q e = subst (λ (x : Part). same_part inner x ≡ true) e refl
part_is outer q e = subst (λ (x : Part). same_part outer x ≡ true) e refl

-- ---- edges
abbrev connects : Edge → Point → Point → Bool
connects e p q =
    either (both (same_point e.low p) (same_point e.high q))
    (both (same_point e.low q) (same_point e.high p))

connects_is : (e : Edge) (p q : Point) → connects e p q ≡ true → Connects e p q
connects_is e p q h =
    elim (either_is (both (same_point e.low p) (same_point e.high q))
    (both (same_point e.low q) (same_point e.high p)) h) [
      | inl k ↦ let b = both_true _ _ k in inl (same_is e.low p b.0, same_is e.high q b.1)
      | inr k ↦ let b = both_true _ _ k in inr (same_is e.low q b.0, same_is e.high p b.1)
    ]

same_edge : (e f : Edge) → both (same_point e.low f.low) (same_point e.high f.high) ≡ true → e ≡ f
same_edge e f h =
    let k = both_true _ _ h in
    ap (λ (p : Point). the_edge p e.high) (same_is e.low f.low k.0)
    ∙ ap (λ (p : Point). the_edge f.low p) (same_is e.high f.high k.1)
  where
    the_edge : Point → Point → Edge
    the_edge p q = record { low = p; high = q }

end_is : (e : Edge) (p : Point) → IsEnd e p → is_end e p ≡ true
end_is e p (inl q) = ap (λ (x : Point). either (same_point e.low x) (same_point e.high x)) (sym q)
    ∙ ap (λ (x : Bool). either x (same_point e.high e.low)) (same_self e.low)
end_is e p (inr q) = ap (λ (x : Point). either (same_point e.low x) (same_point e.high x)) (sym q)
    ∙ ap (λ (x : Bool). either (same_point e.low e.high) x) (same_self e.high)
    ∙ either_true (same_point e.low e.high)
  where
    either_true : (a : Bool) → either a true ≡ true
    either_true true = refl
    either_true false = refl

module _ (d : Plan) (bays : ℕ → List Bay) (m : ℕ) (E : ℕ → Edge) (steps : List Step) where
  abbrev at : ℕ → Point
  at k = (get_or steps k no_step).at

  abbrev pub connect_test : ℕ → Bool
  connect_test e = connects (E e) (owned d bays e).from (owned d bays e).to

  -- at event k, edge e is no tube's, or does not end there, or the event is an end of its half arc,
  -- or edge f is of the same curve if it ends there
  abbrev pub shares : ℕ → ℕ → ℕ → Bool
  shares k e f =
      implies (is_end (E f) (at k)) (same_number (owned d bays f).curve (owned d bays e).curve)

  abbrev pub corner_at : ℕ → ℕ → Bool
  corner_at k e =
      implies (both (of_tube (owned d bays e).part) (is_end (E e) (at k)))
      (either (same_point (at k) (owner d bays e).from)
      (either (same_point (at k) (owner d bays e).to) (all_below m (shares k e))))

  abbrev pub corner_test : ℕ → Bool
  corner_test k = all_below m (corner_at k)

  pub tubed_by_test : ((i : ℕ) → i < length d.curves → (curve d i).kind ≡ kind.HalfArc
      → IsTube (arc (curve d i)) (bays i))
      → m ≡ length (edge_list bays 0 d.curves) → Run m E steps
      → all_below m connect_test ≡ true → all_below (length steps) corner_test ≡ true
      → IsTubedRun d bays m E steps
  tubed_by_test tube count run c t = record {
    tube = tube;
    count = count;
    edge = λ e l. connects_is (E e) (owned d bays e).from (owned d bays e).to
        (all_below_is m connect_test c e l);
    run = run;
    corner = λ k e f l i j o x y.
        let b = implies_is (both (of_tube (owned d bays e).part) (is_end (E e) (at k))) _
        (all_below_is m (corner_at k) (all_below_is (length steps) corner_test t k l) e i)
        (ap (λ (z : Bool). both z (is_end (E e) (at k))) (tube_is (owned d bays e).part o)
        ∙ end_is (E e) (at k) x) in
        elim (either_is _ _ b) [
          | inl q ↦ inl (same_is _ _ q)
          | inr q ↦ elim (either_is _ _ q) [
            | inl z ↦ inr (inl (same_is _ _ z))
            | inr z ↦ inr
                (inr (number_is _ _
                (implies_is (is_end (E f) (at k)) _ (all_below_is m (shares k e) z f j)
                (end_is (E f) (at k) y))))
          ]
        ];
  }

-- ---- labels
module _ (d : Plan) (bays : ℕ → List Bay) (r : Replay) (lab : Labels) (within : ℕ → Half)
    (inside outside : ℕ → ℕ) where
  abbrev arrow_of : ℕ → Edge
  arrow_of e =
      inward (third_is_left (owner d bays e)) (owned d bays e).part (owned d bays e).from
      (owned d bays e).to

  abbrev faces_test : ℕ → Bool
  faces_test e =
      both (same_number (edge_of (within e)) e)
      (both (same_point (way r.edge (within e)).low (arrow_of e).low)
      (same_point (way r.edge (within e)).high (arrow_of e).high))

  abbrev tube_test : ℕ → Bool
  tube_test e =
      both (faces_test e)
      (both (same_number (mark lab (within e)) (tube_label d (owned d bays e).curve))
      (most (mark lab (twin (within e))) (length d.points)))

  abbrev straight_test : ℕ → Bool
  straight_test e =
      both (most (lab.below e) (length d.points)) (most (lab.above e) (length d.points))

  abbrev chains_test : ℕ → Bool
  chains_test e =
      both (implies (same_part (owned d bays e).part inner)
      (same_number (mark lab (twin (within e))) (inside (owned d bays e).curve)))
      (implies (same_part (owned d bays e).part outer)
      (same_number (mark lab (twin (within e))) (outside (owned d bays e).curve)))

  abbrev pub label_test : ℕ → Bool
  label_test e =
      both (implies (of_tube (owned d bays e).part) (tube_test e))
      (both (implies (same_part (owned d bays e).part whole) (straight_test e)) (chains_test e))

  abbrev pub matching_test : ℕ → Bool
  matching_test k =
      match_test lab (last_label lab 0 (r.step k).below) (r.step k).starting
      (first_label lab (r.step k).above 0)

  pub labels_by_test : all_below r.steps matching_test ≡ true → all_below r.edges label_test ≡ true
      → AreTubeLabels d bays r lab within inside outside
  labels_by_test n t = record {
    matched = λ k l. match_is lab (last_label lab 0 (r.step k).below) (r.step k).starting
        (first_label lab (r.step k).above 0) (all_below_is r.steps matching_test n k l);
    faces = λ e l o. let k = both_true _ _ (both_true _ _ (tube e l o)).0 in
        record {
          edge = number_is _ _ k.0;
          left = same_edge (way r.edge (within e)) (arrow_of e) k.1;
        };
    within_label = λ e l o. number_is _ _ (both_true _ _ (both_true _ _ (tube e l o)).1).0;
    outer_label = λ e l o. most_is _ _ (both_true _ _ (both_true _ _ (tube e l o)).1).1;
    straight_label = λ e l o.
        let k = both_true _ _
        (implies_is (same_part (owned d bays e).part whole) (straight_test e)
        (both_true _ _ (rest e l)).0 (part_is _ _ o)) in
        (most_is _ _ k.0, most_is _ _ k.1);
    inner_chain =
        λ e l o. number_is _ _
        (implies_is (same_part (owned d bays e).part inner) _
        (both_true _ _ (both_true _ _ (rest e l)).1).0 (part_is _ _ o));
    outer_chain =
        λ e l o. number_is _ _
        (implies_is (same_part (owned d bays e).part outer) _
        (both_true _ _ (both_true _ _ (rest e l)).1).1 (part_is _ _ o));
  }
    where
      whole_test : (e : ℕ) → e < r.edges
          → (implies (of_tube (owned d bays e).part) (tube_test e) ≡ true)
          × (both (implies (same_part (owned d bays e).part whole) (straight_test e))
          (chains_test e) ≡ true)
      whole_test e l = both_true _ _ (all_below_is r.edges label_test t e l)

      tube : (e : ℕ) → e < r.edges → IsOfTube (owned d bays e).part → tube_test e ≡ true
      tube e l o =
          implies_is (of_tube (owned d bays e).part) (tube_test e) (whole_test e l).0
          (tube_is (owned d bays e).part o)

      rest : (e : ℕ) → e < r.edges
          → both (implies (same_part (owned d bays e).part whole) (straight_test e)) (chains_test e)
          ≡ true
      rest e l = (whole_test e l).1
