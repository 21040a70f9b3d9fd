-- Of the three ways to meet, two edges meet in one alone.
use Rattle.std.proofs.Common.{◌≡◌, ◌↔◌, pos, inl, inr, refl, arith, subst, sym}
use Rattle.std.proofs.lemmas.Int.{ints}
use Rattle.plane.specs.declared.kinds.Point.{Point}
use Rattle.plane.specs.declared.kinds.Edge.{Edge}
use Rattle.plane.specs.Forms.Vectors.{point}
use Rattle.plane.specs.Forms.Meets as edges
use Rattle.plane.proofs.Linear.EdgePlaces.{place_point, mean_on}
use Rattle.straight_predicates.specs.declared.meets.Meet.{Meet}
use Rattle.straight_predicates.specs.declared.meets.Meet.TheVariants as answer
use Rattle.straight_predicates.specs.Meetings.{IsMeet}

end_on : (e : Edge) (p : Point) → edges.IsEnd e p → edges.OnStraight e (point p)
end_on e p (inl h) = subst (λ (q : Point). edges.OnStraight e (point q)) h
    (mean_on e (point e.low) (pos 1) (pos 0) (place_point e.low) (omega (arith, ints))
    (omega (arith, ints)) (omega (arith, ints)) (record {
      x = omega (arith, ints);
      y = omega (arith, ints);
    }))
end_on e p (inr h) = subst (λ (q : Point). edges.OnStraight e (point q)) h
    (mean_on e (point e.high) (pos 0) (pos 1) (place_point e.high) (omega (arith, ints))
    (omega (arith, ints)) (omega (arith, ints)) (record {
      x = omega (arith, ints);
      y = omega (arith, ints);
    }))

apart_touch : (s t : Edge) → edges.Disjoint s t → edges.Touch s t → ⊥
apart_touch s t a h =
    a (point h.at) (place_point h.at) (end_on s h.at h.of_first) (end_on t h.at h.of_second)

apart_bad : (s t : Edge) → edges.Disjoint s t → edges.Bad s t → ⊥
apart_bad s t a b = a b.at b.place b.of_first b.of_second

touch_bad : (s t : Edge) → edges.Touch s t → edges.Bad s t → ⊥
touch_bad s t h b =
    b.no_end (record {
      at = h.at;
      of_first = h.of_first;
      of_second = h.of_second;
      is = h.only b.at b.place b.of_first b.of_second;
    })

apart_not_common : {P : Type 0} → answer.Apart ≡ answer.CommonEnd → P
apart_not_common e = cc

apart_not_bad : {P : Type 0} → answer.Apart ≡ answer.Bad → P
apart_not_bad e = cc

common_not_bad : {P : Type 0} → answer.CommonEnd ≡ answer.Bad → P
common_not_bad e = cc

pub exact_apart : (m : Meet) (s t : Edge) → IsMeet m s t → (m ≡ answer.Apart) ↔ edges.Disjoint s t
exact_apart answer.Apart s t h = ((λ e. h), (λ k. refl))
exact_apart answer.CommonEnd s t h =
    ((λ e. apart_not_common (sym e)), (λ k. absurd (apart_touch s t k h)))
exact_apart answer.Bad s t h = ((λ e. apart_not_bad (sym e)), (λ k. absurd (apart_bad s t k h)))

pub exact_common : (m : Meet) (s t : Edge) → IsMeet m s t → (m ≡ answer.CommonEnd) ↔ edges.Touch s t
exact_common answer.Apart s t h = ((λ e. apart_not_common e), (λ k. absurd (apart_touch s t h k)))
exact_common answer.CommonEnd s t h = ((λ e. h), (λ k. refl))
exact_common answer.Bad s t h = ((λ e. common_not_bad (sym e)), (λ k. absurd (touch_bad s t k h)))

pub exact_bad : (m : Meet) (s t : Edge) → IsMeet m s t → (m ≡ answer.Bad) ↔ edges.Bad s t
exact_bad answer.Apart s t h = ((λ e. apart_not_bad e), (λ k. absurd (apart_bad s t h k)))
exact_bad answer.CommonEnd s t h = ((λ e. common_not_bad e), (λ k. absurd (touch_bad s t h k)))
exact_bad answer.Bad s t h = ((λ e. h), (λ k. refl))
