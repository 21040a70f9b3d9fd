-- A segment that hits one half arc alone, outside whose two chains stands one label: all its places
-- have that label.
use Rattle.std.proofs.Common.{◌≡◌, ℕ, ◌<◌, ℤ, pos, negsuc, ◌<ℤ◌, ◌⊎◌, inl, inr, refl, arith, ap}
use Rattle.std.proofs.Common.{sym, ◌∙◌, subst}
use Rattle.std.proofs.lemmas.Int.{ints}
use Rattle.plane.specs.Lists.{Has}
use Rattle.plane.specs.Forms.Vectors.{Vector, Place, On}
use Rattle.plane.specs.Faces.Replays.{Replay}
use Rattle.plane.specs.Faces.Halves.{Half, edge_of, IsMatched}
use Rattle.plane.specs.Faces.Labels.{Labels}
use Rattle.plane.specs.CurveRuns.Extended.{Tubes, InTubeAt, AtArcEnd, IsWall, AreTubes, HasLabel}
use Rattle.plane.specs.CurveRuns.Extended.{IsOnWay}
use Rattle.plane.proofs.Windings.CommonPlaces.{decide_number, common_place}
use Rattle.plane.proofs.Windings.Whole.{IsWhole}
use Rattle.plane.proofs.Windings.Ways.{way_place}
use Rattle.plane.proofs.TubePaths.Extended.{IsAtWall, IsKeeping, label_along}

-- the segment hits no straight and no half arc but that of tube c
pub record IsFreeBut (r : Replay) (T : Tubes) (Meets : ℕ → Vector → Vector → Type 0) (c : ℕ)
    (p q : Vector) : Type 0 where
  pub straights : (z : Vector) → IsOnWay p q z → (e : ℕ) → e < r.edges → On r.weight (r.edge e) z
      → (d : ℕ) × (d < T.count) × (h : Half) × Has h (T.halves d) × (edge_of h ≡ e)
  pub arcs : (d : ℕ) → d < T.count → (d ≡ c → ⊥) → (u v : Vector) → IsOnWay p q u → IsOnWay p q v
      → Meets d u v → ⊥

module _ (r : Replay) (whole : IsWhole r) (lab : Labels) (matched : IsMatched r lab) (T : Tubes)
    (Meets : ℕ → Vector → Vector → Type 0) (tubes : AreTubes r lab T Meets) (c : ℕ)
    (l : c < T.count) where
  -- a common place of the tube and of another one on the segment would be an end of the other half
  -- arc
  module _ (p q : Vector) (P : Place p) (Q : Place q) (free : IsFreeBut r T Meets c p q) where
    not_end : (d : ℕ) (z : Vector) → d < T.count → (d ≡ c → ⊥) → IsOnWay p q z → AtArcEnd T d z → ⊥
    not_end d z k n w h = free.arcs d k n z z w w (tubes.ends d k z (way_place p q z P Q w) h)

    parted : (d e : ℕ) (z : Vector) → d < T.count → e < T.count → (d ≡ e → ⊥) → (d ≡ c → ⊥)
        → IsOnWay p q z → InTubeAt T d z → InTubeAt T e z → ⊥
    parted d e z ld le n other w hd he = not_end d z ld other w
        (common_place r whole lab matched (T.label d) (T.first d) (T.bay d) (T.bays d) (T.halves d)
        (T.label e) (T.first e) (T.bay e) (T.bays e) (T.halves e)
        (tubes.tube d ld) (tubes.tube e le) (tubes.labels d e ld le n) (tubes.apart d e ld le n)
        (tubes.clean d ld) z (way_place p q z P Q w) hd he)

    pub one_tube : (d e : ℕ) (z : Vector) → d < T.count → e < T.count → IsOnWay p q z
        → InTubeAt T d z → InTubeAt T e z → d ≡ e
    one_tube d e z ld le w hd he = elim (decide_number d e) [
      | inl k ↦ k
      | inr n ↦ elim (decide_number d c) [
        | inr other ↦ absurd (parted d e z ld le n other w hd he)
        | inl own ↦ absurd (parted e d z le ld (λ k. n (sym k)) (λ k. n (own ∙ sym k)) w he hd)
      ]
    ]

  module _ (equal : T.inner c ≡ T.outer c) where
    -- in tube c all is taken as inside
    form_by : (d : ℕ) → (d ≡ c) ⊎ (d ≡ c → ⊥) → Vector → ℤ
    form_by d (inl e) z = negsuc 0
    form_by d (inr n) z = T.form d z

    abbrev U : Tubes
    U = record {
      count = T.count;
      label = T.label;
      first = T.first;
      bay = T.bay;
      bays = T.bays;
      halves = T.halves;
      inner = T.inner;
      outer = T.outer;
      form = λ d z. form_by d (decide_number d c) z;
    }

    own_form : (d : ℕ) (z : Vector) → d ≡ c → U.form d z ≡ negsuc 0
    unfolding form_by
    own_form d z e = by_case (decide_number d c)
      where
        by_case : (k : (d ≡ c) ⊎ (d ≡ c → ⊥)) → form_by d k z ≡ negsuc 0
        by_case (inl k) = refl
        by_case (inr n) = absurd (n e)

    other_form : (d : ℕ) (z : Vector) → (d ≡ c → ⊥) → U.form d z ≡ T.form d z
    unfolding form_by
    other_form d z n = by_case (decide_number d c)
      where
        by_case : (k : (d ≡ c) ⊎ (d ≡ c → ⊥)) → form_by d k z ≡ T.form d z
        by_case (inl k) = absurd (n k)
        by_case (inr k) = refl

    own_low : (d : ℕ) (z : Vector) → d ≡ c → U.form d z <ℤ pos 0
    own_low d z e = subst (λ (x : ℤ). x <ℤ pos 0) (sym (own_form d z e)) (omega (arith, ints))

    relabel : (z : Vector) (k : ℕ) → HasLabel r lab T z k → HasLabel r lab U z k
    relabel z k (inr h) = inr h
    relabel z k (inl h) = inl (
      h.0,
      h.1,
      h.2,
      elim (decide_number h.0 c) [
        | inl e ↦ inl (
          own_low h.0 z e,
          elim h.3 [
            | inl a ↦ a.1
            | inr a ↦ a.1 ∙ ap T.outer e ∙ sym equal
                ∙ sym (ap T.inner e)
          ],
        )
        | inr n ↦ elim h.3 [
          | inl a ↦ inl (subst (λ (x : ℤ). x <ℤ pos 0) (sym (other_form h.0 z n)) a.0, a.1)
          | inr a ↦ inr (subst (λ (x : ℤ). pos 0 <ℤ x) (sym (other_form h.0 z n)) a.0, a.1)
        ]
      ],
    )

    module _ (p q : Vector) (P : Place p) (Q : Place q) (free : IsFreeBut r T Meets c p q) where
      wall_side : (d : ℕ) (z : Vector) (h : Half) → d < T.count → IsOnWay p q z → IsWall r lab T d h
          → On r.weight (r.edge (edge_of h)) z → (d ≡ c) ⊎ (d ≡ c → ⊥) → IsAtWall lab U d h z
      wall_side d z h k w (inl v) on (inl e) = inl (v.0, own_low d z e)
      wall_side d z h k w (inr v) on (inl e) =
          inl (v.0 ∙ ap T.outer e ∙ sym equal ∙ sym (ap T.inner e), own_low d z e)
      wall_side d z h k w (inl v) on (inr n) = elim (v.1 z (way_place p q z P Q w) on) [
        | inl low ↦ inl (v.0, subst (λ (x : ℤ). x <ℤ pos 0) (sym (other_form d z n)) low)
        | inr end ↦ absurd (not_end p q P Q free d z k n w end)
      ]
      wall_side d z h k w (inr v) on (inr n) = elim (v.1 z (way_place p q z P Q w) on) [
        | inl high ↦ inr (v.0, subst (λ (x : ℤ). pos 0 <ℤ x) (sym (other_form d z n)) high)
        | inr end ↦ absurd (not_end p q P Q free d z k n w end)
      ]

      keeps : IsKeeping r lab U p q
      keeps = record {
        tube = tubes.tube;
        straights = free.straights;
        one = one_tube p q P Q free;
        walls = λ d z h k w m on. wall_side d z h k w (tubes.walls d k h m) on (decide_number d c);
        circle = λ d z k w i e. elim (decide_number d c) [
          | inl own ↦ (let low = own_low d z own in absurd (omega (arith, ints, low, e)))
          | inr n ↦ free.arcs d k n z z w w
              (tubes.circle d k z (way_place p q z P Q w) i (sym (other_form d z n) ∙ e))
        ];
        kept = λ d u v k wu wv i a b. elim (decide_number d c) [
          | inl own ↦ (let low = own_low d v own in absurd (omega (arith, ints, low, b)))
          | inr n ↦ tubes.kept d k u v (way_place p q u P Q wu) (way_place p q v P Q wv) i
              (free.arcs d k n u v wu wv) (free.arcs d k n v u wv wu)
              (subst (λ (x : ℤ). x <ℤ pos 0) (other_form d u n) a)
              (subst (λ (x : ℤ). pos 0 <ℤ x) (other_form d v n) b)
        ];
      }

      -- from an end of the segment to a place in the tube
      pub label_there : (k : ℕ) → InTubeAt T c q → HasLabel r lab T p k → k ≡ T.inner c
      label_there k there hp =
          label_along r whole lab matched U p q P Q keeps k (T.inner c) (relabel p k hp)
          (inl (c, l, there, inl (own_low c q refl, refl)))
