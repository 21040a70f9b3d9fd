-- The curves that stand for a curve when forks are bent: each is drawn, lies close to it, and holds
-- no object's point that it does not
-- hold.
use Rattle.std.proofs.Common.{◌≡◌, inl, inr, ℕ, ◌<◌, Bool, true, false, Option, None, Some, ℤ, pos}
use Rattle.std.proofs.Common.{◌≤ℤ◌, List, [], ◌∷◌, ◌++◌, length, get_or, refl, sym, ap, subst, ◌∙◌}
use Rattle.std.specs.List.{All}
use Rattle.plane.specs.declared.kinds.Curve.{Curve}
use Rattle.plane.specs.declared.kinds.CurveKind.{CurveKind}
use Rattle.plane.specs.declared.kinds.CurveKind.TheVariants as kind
use Rattle.plane.specs.declared.kinds.Point.{Point}
use Rattle.plane.specs.Forms.Bends.{IsBend, IsBeside, IsClose}
use Rattle.plane.specs.Lists.{Has}
use Rattle.plane.specs.Rule.Curves.{IsOn, IsOnKind}
use Rattle.plane.specs.Rule.Places.{Place, Vector, point}
use Rattle.plane.specs.Rule.Plans.{Plan, curve, object, straight}
use Rattle.plane.specs.Rule.Windows.{IsDrawn, IsInside}
use Rattle.forks.specs.Bent.{HoldPoint, IsBendAt, IsRun, StandBy, StandFor, StandForKind, if_any}
use Rattle.forks.specs.Bent.{parts, straights_from}
use Rattle.forks.specs.ForkedStraights.{IsPart}
use Rattle.forks.specs.Zones.{far_end, is_left, near_end}
use Rattle.forks.proofs.PlaneLaws.{apart_positive, bends_differ, beside_back, beside_bend}
use Rattle.forks.proofs.PlaneLaws.{beside_between, beside_first, beside_last, close, end_differs}
use Rattle.forks.proofs.PlaneLaws.{has_at, place_point, start_differs}

-- ---- straights in turn
-- R holds from p to the first of the points, and on from each to the next one
abbrev Chained : (Point → Point → Type 0) → Point → List Point → Type 0
Chained R p [] = Unit {0}
Chained R p (q ∷ qs) = R p q × Chained R q qs

-- a straight of that line whose ends R joins
record IsLink (R : Point → Point → Type 0) (line : ℕ) (c : Curve) : Type 0 where
  a : Point
  b : Point
  is : c ≡ straight a b line
  joins : R a b

link_of : (R : Point → Point → Type 0) (p : Point) (line : ℕ) (qs : List Point) (c : Curve)
    → Chained R p qs → Has c (straights_from p line qs) → IsLink R line c
link_of R p line [] c h x = absurd x
link_of R p line (q ∷ qs) c h (inl e) = record { a = p; b = q; is = e; joins = h.0 }
link_of R p line (q ∷ qs) c h (inr x) = link_of R q line qs c h.1 x

-- ---- what a part keeps
pub record KeepsTo (t : ℤ) (d : Plan) (s c : Curve) : Type 0 where
  pub same_kind : c.kind ≡ s.kind
  pub same_line : c.line ≡ s.line
  pub drawn : IsDrawn d.window.low d.window.high s → IsDrawn d.window.low d.window.high c
  pub close : s.kind ≡ kind.Straight → pos 0 ≤ℤ t → (s.from ≡ s.to → ⊥) → (z : Vector) → Place z
      → IsOn c z → IsClose t s.from s.to z
  pub points : (j : ℕ) → j < length d.points → IsOn c (point (object d j))
      → IsOn s (point (object d j))

own_close : (t : ℤ) (s : Curve) → s.kind ≡ kind.Straight → pos 0 ≤ℤ t → (s.from ≡ s.to → ⊥)
    → (z : Vector) → Place z → IsOn s z → IsClose t s.from s.to z
own_close t s k l n z p on =
    close t s.from s.to z (apart_positive s.from s.to n) p
    (beside_between t s.from s.to l (point s.from) (point s.to) z (place_point s.from)
    (place_point s.to) p (beside_first t s.from s.to l) (beside_last t s.from s.to l)
    (subst (λ (x : CurveKind). IsOnKind x s z) k on))

itself : (t : ℤ) (d : Plan) (s c : Curve) → c ≡ s → KeepsTo t d s c
itself t d s c e =
    subst (KeepsTo t d s) (sym e) (record {
      same_kind = refl;
      same_line = refl;
      drawn = λ x. x;
      close = own_close t s;
      points = λ j l x. x;
    })

one_of : (s c : Curve) → Has c (s ∷ []) → c ≡ s
one_of s c (inl e) = e
one_of s c (inr x) = absurd x

-- ---- bends of a straight
module _ (t : ℤ) (d : Plan) (i : ℕ) where
  abbrev s : Curve
  s = curve d i

  -- a bend at the named end, and in the window
  record IsBentAt (a : Bool) (b : Point) : Type 0 where
    left : Bool
    bends : IsBend t left (near_end a s) (far_end a s) b
    inside : IsInside d.window.low d.window.high b

  bent_at : (a : Bool) (b : Point) → IsBendAt t d i a (Some b) → IsBentAt a b
  bent_at a b (k, z, l) =
      record {
        left = is_left z.zone.seen (far_end a s);
        bends = subst
            (λ (p : Point). IsBend t (is_left z.zone.seen (far_end a s)) p (far_end a s) b)
            z.zone.is_seen.begins z.zone.fork.is_bend;
        inside = z.inside;
      }

  -- ---- the three facts of the ends of parts
  abbrev Inside : Point → Type 0
  Inside p = IsDrawn d.window.low d.window.high s → IsInside d.window.low d.window.high p

  abbrev Beside : Point → Type 0
  Beside p = pos 0 ≤ℤ t → IsBeside t s.from s.to (point p)

  record Joins (p q : Point) : Type 0 where
    differ : IsDrawn d.window.low d.window.high s → p ≡ q → ⊥
    first_inside : Inside p
    last_inside : Inside q
    first_beside : Beside p
    last_beside : Beside q

  from_inside : Inside s.from
  from_inside h = h.from

  to_inside : Inside s.to
  to_inside h = h.to

  from_beside : Beside s.from
  from_beside l = beside_first t s.from s.to l

  to_beside : Beside s.to
  to_beside l = beside_last t s.from s.to l

  first_beside : (b : Point) → IsBentAt true b → Beside b
  first_beside b h l = beside_bend t h.left s.from s.to b h.bends

  last_beside : (b : Point) → IsBentAt false b → Beside b
  last_beside b h l =
      beside_back t s.from s.to (point b) (beside_bend t h.left s.to s.from b h.bends)

  chain : (first last : Option Point) → IsBendAt t d i true first → IsBendAt t d i false last
      → Chained Joins s.from (if_any first ++ (if_any last ++ s.to ∷ []))
  chain None None f l = (
    record {
      differ = λ h. h.distinct;
      first_inside = from_inside;
      last_inside = to_inside;
      first_beside = from_beside;
      last_beside = to_beside;
    },
    tt,
  )
  chain (Some b) None f l =
      let x = bent_at true b f in (
        record {
          differ = λ h e. start_differs t x.left s.from s.to b x.bends (sym e);
          first_inside = from_inside;
          last_inside = λ h. x.inside;
          first_beside = from_beside;
          last_beside = first_beside b x;
        },
        (
          record {
            differ = λ h e. end_differs t x.left s.from s.to b x.bends e;
            first_inside = λ h. x.inside;
            last_inside = to_inside;
            first_beside = first_beside b x;
            last_beside = to_beside;
          },
          tt,
        ),
      )
  chain None (Some b) f l =
      let x = bent_at false b l in (
        record {
          differ = λ h e. end_differs t x.left s.to s.from b x.bends (sym e);
          first_inside = from_inside;
          last_inside = λ h. x.inside;
          first_beside = from_beside;
          last_beside = last_beside b x;
        },
        (
          record {
            differ = λ h e. start_differs t x.left s.to s.from b x.bends e;
            first_inside = λ h. x.inside;
            last_inside = to_inside;
            first_beside = last_beside b x;
            last_beside = to_beside;
          },
          tt,
        ),
      )
  chain (Some b) (Some c) f l =
      let x = bent_at true b f in
      let y = bent_at false c l in (
        record {
          differ = λ h e. start_differs t x.left s.from s.to b x.bends (sym e);
          first_inside = from_inside;
          last_inside = λ h. x.inside;
          first_beside = from_beside;
          last_beside = first_beside b x;
        },
        (
          record {
            differ = λ h e. bends_differ t x.left y.left s.from s.to b c x.bends y.bends e;
            first_inside = λ h. x.inside;
            last_inside = λ h. y.inside;
            first_beside = first_beside b x;
            last_beside = last_beside c y;
          },
          (
            record {
              differ = λ h e. start_differs t y.left s.to s.from c y.bends e;
              first_inside = λ h. y.inside;
              last_inside = to_inside;
              first_beside = last_beside c y;
              last_beside = to_beside;
            },
            tt,
          ),
        ),
      )

  -- ---- a part
  straight_drawn : (a b : Point) → Joins a b → IsDrawn d.window.low d.window.high s
      → IsDrawn d.window.low d.window.high (straight a b s.line)
  straight_drawn a b j h = record {
    from = j.first_inside h;
    to = j.last_inside h;
    third = j.last_inside h;
    distinct = j.differ h;
    straight = λ e. refl;
    bent = λ e. let x : kind.Straight ≡ kind.HalfArc = e in cc;
  }

  straight_close : (a b : Point) → Joins a b → pos 0 ≤ℤ t → (s.from ≡ s.to → ⊥) → (z : Vector)
      → Place z → IsOn (straight a b s.line) z → IsClose t s.from s.to z
  straight_close a b j l n z p on =
      close t s.from s.to z (apart_positive s.from s.to n) p
      (beside_between t s.from s.to l (point a) (point b) z (place_point a) (place_point b) p
      (j.first_beside l) (j.last_beside l) on)

  part_keeps : s.kind ≡ kind.Straight → (first last : Option Point) → IsBendAt t d i true first
      → IsBendAt t d i false last → (HoldPoint d (parts s first last) → ⊥) → (c : Curve)
      → Has c (parts s first last) → KeepsTo t d s c
  part_keeps k first last f l none c x =
      let r = link_of Joins s.from s.line (if_any first ++ (if_any last ++ s.to ∷ [])) c
      (chain first last f l) x in
      record {
        same_kind = ap (λ (e : Curve). e.kind) r.is ∙ sym k;
        same_line = ap (λ (e : Curve). e.line) r.is;
        drawn = λ h. subst (IsDrawn d.window.low d.window.high) (sym r.is)
            (straight_drawn r.a r.b r.joins h);
        close = λ q t n z p on. straight_close r.a r.b r.joins t n z p
            (subst (λ (e : Curve). IsOn e z) r.is on);
        points = λ j b on. absurd (none (record { c = c; j = j; among = x; there = b; on = on }));
      }

  pub parts_drawn : s.kind ≡ kind.Straight → (first last : Option Point) → IsBendAt t d i true first
      → IsBendAt t d i false last → IsDrawn d.window.low d.window.high s
      → All (IsPart d) (parts s first last)
  parts_drawn k first last f l h m z b =
      let c = get_or (parts s first last) m z in
      let r = link_of Joins s.from s.line (if_any first ++ (if_any last ++ s.to ∷ [])) c
      (chain first last f l) (has_at (parts s first last) m z b) in
      record {
        straight = ap (λ (e : Curve). e.kind) r.is;
        drawn = subst (IsDrawn d.window.low d.window.high) (sym r.is)
            (straight_drawn r.a r.b r.joins h);
      }

  run_keeps : s.kind ≡ kind.Straight → (first last : Option Point) → IsBendAt t d i true first
      → IsBendAt t d i false last → (cs : List Curve) → IsRun d s first last cs → (c : Curve)
      → Has c cs → KeepsTo t d s c
  run_keeps k first last f l cs (inl (h, e)) c x = itself t d s c (one_of s c (subst (Has c) e x))
  run_keeps k first last f l cs (inr (h, e)) c x =
      part_keeps k first last f l h c (subst (Has c) e x)

  stand_keeps : s.kind ≡ kind.Straight → (first last : Option Point) → IsBendAt t d i true first
      → IsBendAt t d i false last → (cs : List Curve) → StandBy d s first last cs → (c : Curve)
      → Has c cs → KeepsTo t d s c
  stand_keeps k None None f l cs e c x = itself t d s c (one_of s c (subst (Has c) e x))
  stand_keeps k None (Some b) f l cs h c x = run_keeps k None (Some b) f l cs h c x
  stand_keeps k (Some b) last f l cs h c x = run_keeps k (Some b) last f l cs h c x

  by_kind : (k : CurveKind) → s.kind ≡ k → (cs : List Curve) → StandForKind k t d i cs → (c : Curve)
      → Has c cs → KeepsTo t d s c
  by_kind kind.HalfArc k cs e c x = itself t d s c (one_of s c (subst (Has c) e x))
  by_kind kind.Straight k cs h c x = stand_keeps k h.first h.last h.at_from h.at_to cs h.stand c x

  pub keeps : (cs : List Curve) → StandFor t d i cs → (c : Curve) → Has c cs → KeepsTo t d s c
  keeps cs h c x = by_kind s.kind refl cs h c x
