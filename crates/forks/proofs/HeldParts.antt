-- Parts that hold an object's point, and what then stands for their straight.
use Rattle.std.proofs.Common.{◌≡◌, ◌↔◌, ◌⊎◌, inl, inr, ℕ, ◌+◌, ◌-◌, ◌<◌, ◌≤◌, Bool, true, false}
use Rattle.std.proofs.Common.{IsTrue, Option, None, Some}
use Rattle.std.proofs.Common.{ℤ, List, [], ◌∷◌, ◌++◌, length, get_or, take, drop, length-append}
use Rattle.std.proofs.Common.{refl, arith, ap, sym, ◌∙◌, subst}
use Rattle.std.proofs.lemmas.Bool.{cases_lt}
use Rattle.std.specs.Prelude.{IfOk, Result, Ok, Err, Vec}
use Rattle.std.specs.declared.alloc.Global.{Global}
use Rattle.std.proofs.lemmas.List.{get_or-drop, get_or-take, get_or_append_left, length-drop}
use Rattle.std.proofs.lemmas.List.{length-take-le}
use Rattle.std.proofs.Math.Seq.{get_or-append_seam}
use Rattle.std.specs.List.{All, IsAnyAnswer}
use Rattle.plane.specs.declared.kinds.Curve.{Curve}
use Rattle.plane.specs.declared.kinds.CurveKind.{CurveKind}
use Rattle.plane.specs.declared.kinds.Point.{Point}
use Rattle.plane.specs.Forms.Boxes.{InBox}
use Rattle.plane.specs.Lists.{Has}
use Rattle.plane.specs.Rule.Curves.{IsOn, IsOnKind}
use Rattle.plane.specs.Rule.Places.{point}
use Rattle.plane.specs.Rule.Plans.{Plan, curve, object}
use Rattle.near_pairs.specs.Boxes.{AreMarkedFrom, AreNear, box_of, mark_of, reach_of}
use Rattle.near_pairs.specs.Partners.{ArePartnered, HasPartner}
use Rattle.near_pairs.specs.declared.reaches.Reach.{Reach}
use Rattle.forks.specs.Bent.{HoldPoint, IsRun, StandBy, StandFor, StandForKind, parts}
use Rattle.forks.specs.Ends.{curve_at}
use Rattle.forks.specs.ForkedStraights.{AreBoxes, AreHeld, HoldsAt, HoldsPoint, IsAnyHeld, IsBoxOf}
use Rattle.forks.specs.ForkedStraights.{IsForked, IsPart}
use Rattle.forks.specs.declared.forked.Forked.{Forked}
use Rattle.forks.proofs.LeastBends.{same_curve}
use Rattle.forks.proofs.PlaneLaws.{contains_from_has, has_at, no_curve, place_point}
use Rattle.forks.proofs.PlaneLaws.{straight_in_box}

-- ---- boxes
no_reach : Reach
no_reach = reach_of [] 0

pub box_more : (d : Plan) (ps : List Curve) (k : ℕ) (boxes new : List Reach) (r : Reach)
    → AreBoxes d ps k boxes → new ≡ boxes ++ r ∷ [] → IsBoxOf d ps k r → AreBoxes d ps (k + 1) new
box_more d ps k boxes new r a e h = subst (AreBoxes d ps (k + 1)) (sym e) (record {
  size = (let n = length-append boxes (r ∷ []) in let s = a.size in omega (arith, n, s));
  each = λ i l. by i l (cases_lt i k);
})
  where
    by : (i : ℕ) → i < k + 1 → (i < k) ⊎ (k ≤ i) → IsBoxOf d ps i (reach_of (boxes ++ r ∷ []) i)
    by i l (inl m) =
        let s = a.size in
        subst (IsBoxOf d ps i)
        (sym (get_or_append_left boxes (r ∷ []) (reach_of [] 0) i (omega (arith, m, s))))
        (a.each i m)
    by i l (inr m) =
        let s = a.size in
        let q : length boxes ≡ i = omega (arith, l, m, s) in
        let z : k ≡ i = omega (arith, l, m) in
        subst (IsBoxOf d ps i)
        (sym (ap (λ (j : ℕ). reach_of (boxes ++ r ∷ []) j) (sym q)
        ∙ get_or-append_seam boxes r [] (reach_of [] 0)))
        (subst (λ (j : ℕ). IsBoxOf d ps j r) z h)

module _ (d : Plan) (ps : List Curve) where
  pub are_near : (boxes : List Reach) (marks : List Bool) → All (IsPart d) ps
      → AreBoxes d ps (length ps + length d.points) boxes
      → AreMarkedFrom (length ps) (length boxes) marks
      → (i j : ℕ) → HoldsAt d ps i j → AreNear boxes marks i j
  are_near boxes marks drawn b m i j h = record {
    mark = inr (m.marked j h.after (let s = b.size in omega (arith, within, s)));
    place = (point held, place_point held, in_part, (b.each j within).object h.after);
  }
    where
      held : Point
      held = object d (j - length ps)

      within : j < length ps + length d.points
      within = let a = h.after in let l = h.point_there in omega (arith, a, l)

      box : IsBoxOf d ps i (reach_of boxes i)
      box = b.each i (let l = h.part_there in omega (arith, l))

      in_part : InBox (box_of (reach_of boxes i)) (point held)
      in_part =
          let c = curve_at ps i in
          straight_in_box (box_of (reach_of boxes i)) (point held) c.from c.to (place_point held)
          (box.from h.part_there) (box.to h.part_there)
          (subst (λ (x : CurveKind). IsOnKind x c (point held))
          (drawn i no_curve h.part_there).straight h.on)

  -- ---- partners
  pub held_is : (n : ℕ) (hits : List Bool) → n ≡ length ps + length d.points
      → ArePartnered (HoldsAt d ps) n hits → AreHeld d ps hits
  held_is n hits e a = record {
    size = (let s = a.size in omega (arith, s, e));
    each = λ m l. (
      λ h. found m l ((a.each m (omega (arith, l, e))).0 h),
      λ h. (a.each m (omega (arith, l, e))).1 (partner m l h),
    );
  }
    where
      found : (m : ℕ) → m < length ps → HasPartner (HoldsAt d ps) n m → HoldsPoint d (curve_at ps m)
      found m l (j, b, inl (c, s)) = (j - length ps, s.point_there, s.on)
      found m l (j, b, inr (c, s)) = absurd (let z = s.after in omega (arith, z, l))

      back : (j : ℕ) → j ≡ (length ps + j) - length ps
      back j = omega arith

      partner : (m : ℕ) → m < length ps → HoldsPoint d (curve_at ps m)
          → HasPartner (HoldsAt d ps) n m
      partner m l (j, b, on) = (
        length ps + j,
        omega (arith, b, e),
        inl (
          omega (arith, l),
          record {
            part_there = l;
            after = omega arith;
            point_there = (let q = back j in omega (arith, b, q));
            on = subst (λ (k : ℕ). IsOn (curve_at ps m) (point (object d k))) (back j) on;
          },
        ),
      )

  pub partners_held : (E : Type 0) (n : ℕ) (result : Result (Vec Bool Global) E)
      → n ≡ length ps + length d.points
      → IfOk result (λ hits. ArePartnered (HoldsAt d ps) n hits.items)
      → IfOk result (λ held. AreHeld d ps held.items)
  partners_held E n (Ok hits) e a = held_is n hits.items e a
  partners_held E n (Err m) e a = tt

-- ---- any of some parts
pub held_any : (p : Bool → Bool) → p true ≡ true → p false ≡ false
    → (held : List Bool) (start end : ℕ) (r : Bool) → end ≤ length held
    → IsAnyAnswer (λ y b. p y ≡ b) (take (end - start) (drop start held)) r
    → IsTrue r ↔ IsAnyHeld held start end
held_any p at_true at_false held start end r fits h = by r h
  where
    size : length (take (end - start) (drop start held)) ≡ end - start
    size = length-take-le (end - start) (drop start held) (let n = length-drop start held in
        omega (arith, n, fits))

    at : (k : ℕ) (x : Bool) → k < end - start
        → get_or (take (end - start) (drop start held)) k x ≡ get_or held (start + k) x
    at k x l = get_or-take (end - start) (drop start held) k x l ∙ get_or-drop start held k x

    of_true : (b : Bool) → p b ≡ true → b ≡ true
    of_true true e = refl
    of_true false e = sym at_false ∙ e

    of_false : (b : Bool) → p b ≡ false → b ≡ false
    of_false true e = sym at_true ∙ e
    of_false false e = refl

    differ : (b : Bool) → b ≡ true → b ≡ false → ⊥
    differ true e f = cc
    differ false e f = cc

    nothing : IsTrue false → ⊥
    nothing t = cc

    by : (r : Bool) → IsAnyAnswer (λ y b. p y ≡ b) (take (end - start) (drop start held)) r
        → IsTrue r ↔ IsAnyHeld held start end
    by true (k, l, f) =
        let m : k < end - start = (let s = size in omega (arith, l, s)) in (
          λ t. (start + k, omega arith, omega (arith, m), sym (at k false m) ∙ of_true _ (f false)),
          λ w. refl,
        )
    by false f = (
      λ t. absurd (nothing t),
      λ w. absurd (none w),
    )
      where
        none : IsAnyHeld held start end → ⊥
        none (m, b, c, e) =
            let k : m - start < end - start = omega (arith, b, c) in
            let s = size in
            let q : start + (m - start) ≡ m = omega (arith, b) in
            let g : get_or held (start + (m - start)) false ≡ false = sym (at (m - start) false k)
            ∙ of_false _ (f (m - start) false (omega arith) (omega (arith, k, s))) in
            differ (mark_of held m) e (ap (mark_of held) (sym q) ∙ g)

-- ---- what stands for a straight
by_run : (d : Plan) (s : Curve) (first last : Option Point) (cs : List Curve)
    → (first ≡ None → last ≡ None → ⊥) → IsRun d s first last cs → StandBy d s first last cs
by_run d s None None cs n r = absurd (n refl refl)
by_run d s None (Some b) cs n r = r
by_run d s (Some b) last cs n r = r

module _ (t : ℤ) (d : Plan) (ps : List Curve) (f : Forked) (h : IsForked t d ps f)
    (held : List Bool) (a : AreHeld d ps held) where
  abbrev s : Curve
  s = curve d f.number

  abbrev its : List Curve
  its = parts s h.first h.last

  size : length its ≡ f.end - f.start
  size =
      ap length (sym h.named)
      ∙ length-take-le (f.end - f.start) (drop f.start ps) (let n = length-drop f.start ps in
      let m = h.fits in omega (arith, n, m))

  at : (k : ℕ) (c : Curve) → k < f.end - f.start → get_or its k c ≡ get_or ps (f.start + k) c
  at k c l = ap (λ (cs : List Curve). get_or cs k c) (sym h.named)
      ∙ get_or-take (f.end - f.start) (drop f.start ps) k c l ∙ get_or-drop f.start ps k c

  stands : (cs : List Curve) → IsRun d s h.first h.last cs → StandFor t d f.number cs
  stands cs r =
      subst (λ (x : CurveKind). StandForKind x t d f.number cs) (sym h.straight)
      (record {
        first = h.first;
        last = h.last;
        at_from = h.at_from;
        at_to = h.at_to;
        stand = by_run d s h.first h.last cs h.bends r;
      })

  pub held_stands : IsAnyHeld held f.start f.end → StandFor t d f.number (s ∷ [])
  held_stands (m, b, c, e) =
      stands (s ∷ []) (inl (some ((a.each m (let z = h.fits in omega (arith, c, z))).0 e), refl))
    where
      some : HoldsPoint d (curve_at ps m) → HoldPoint d its
      some (j, l, on) =
          let k : m - f.start < f.end - f.start = omega (arith, b, c) in
          let z = size in
          let q : f.start + (m - f.start) ≡ m = omega (arith, b) in
          record {
            c = curve_at ps m;
            j = j;
            among = subst (λ (x : Curve). Has x its) (at (m - f.start) no_curve k
                ∙ ap (curve_at ps) q) (has_at its (m - f.start) no_curve (omega (arith, k, z)));
            there = l;
            on = on;
          }

  pub free_stands : (IsAnyHeld held f.start f.end → ⊥)
      → StandFor t d f.number (take (f.end - f.start) (drop f.start ps))
  free_stands none =
      stands (take (f.end - f.start) (drop f.start ps)) (inr (λ p. none (some p), h.named))
    where
      some : HoldPoint d its → IsAnyHeld held f.start f.end
      some p =
          let (k, l, e) = contains_from_has p.c its p.among in
          let z = size in
          let m : k < f.end - f.start = omega (arith, l, z) in
          let b : f.start + k < length ps = (let y = h.fits in omega (arith, m, y)) in
          let q : curve_at ps (f.start + k) ≡ p.c = same_curve ps (f.start + k) no_curve p.c b
          ∙ sym (at k p.c m) ∙ e in (
            f.start + k,
            omega arith,
            omega (arith, m),
            (a.each (f.start + k) b).1 (
              p.j,
              p.there,
              subst (λ (x : Curve). IsOn x (point (object d p.j))) (sym q) p.on,
            ),
          )
