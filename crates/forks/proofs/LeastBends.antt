-- The least half arc by which a straight is bent at an end.
use Rattle.std.proofs.Common.{◌≡◌, ◌⊎◌, inl, inr, ℕ, zero, suc, ◌+◌, ◌<◌, ◌≤◌, ◌^◌, Bool, true}
use Rattle.std.proofs.Common.{false, Option, None, Some, ℤ, pos, ◌≤ℤ◌, List, [], ◌∷◌, length}
use Rattle.std.proofs.Common.{get_or, arith, refl, ap, sym, ◌∙◌, subst, IsTrue}
use Rattle.std.proofs.lemmas.Int.{ints}
use Rattle.std.proofs.lemmas.Bool.{cases_lt}
use Rattle.std.specs.List.{All, Contains}
use Rattle.plane.specs.Numbers.{IsWithin}
use Rattle.plane.specs.Rule.BadPairs.{IsEndOf}
use Rattle.plane.specs.Rule.Plans.{Plan, curve}
use Rattle.plane.specs.Rule.Windows.{IsDrawn, IsInside, IsNarrow, IsShort}
use Rattle.plane.specs.declared.kinds.Curve.{Curve}
use Rattle.plane.specs.declared.kinds.Point.{Point}
use Rattle.forks.specs.Bent.{BendsAt, IsBendAt}
use Rattle.forks.specs.Ends.{AreEnds, HasBoth, IsBendBy, IsFound, IsLesser, IsLesserBend, IsSeen}
use Rattle.forks.specs.Ends.{end_of, key}
use Rattle.forks.specs.Zones.{AreInReach, IsZone, IsZoneOf, near_end}
use Rattle.forks.specs.declared.bends.Bend.{Bend}
use Rattle.forks.specs.declared.ends.End.{End}
use Rattle.forks.specs.declared.zones.Zone.{Zone}
use Rattle.forks.proofs.OneZone.{one_zone}
use Rattle.forks.proofs.PlaneLaws.{inside_near}

-- ---- curves of a drawing are in reach
within_number : (low high a : ℤ) → IsWithin (10 ^ 18) low → IsWithin (10 ^ 18) high → low ≤ℤ a
    → a ≤ℤ high → IsWithin (10 ^ 18) a
within_number low high a l h x y =
    let u = l.low in
    let v = h.high in record { low = omega (arith, ints, u, x); high = omega (arith, ints, v, y) }

short_point : (low high p : Point) → IsShort low → IsShort high → IsInside low high p → IsShort p
short_point low high p l h a = record {
  x = within_number low.x high.x p.x l.x h.x a.left a.right;
  y = within_number low.y high.y p.y l.y h.y a.bottom a.top;
}

pub in_reach : (low high : Point) (c s : Curve) → IsNarrow low high → IsShort low → IsShort high
    → IsDrawn low high c → IsDrawn low high s → AreInReach c s
in_reach low high c s w l h a b = record {
  half_arc = record {
    ends = inside_near low high c.from c.to w a.from a.to;
    first = inside_near low high c.from c.third w a.from a.third;
    second = inside_near low high c.to c.third w a.to a.third;
  };
  way = inside_near low high s.from s.to w b.from b.to;
  from = short_point low high s.from l h b.from;
  to = short_point low high s.to l h b.to;
}

-- ---- one half arc
pub by_zone : (t : ℤ) (d : Plan) (i : ℕ) (a : Bool) (k : ℕ) (z : Zone) → k < length d.curves
    → IsZoneOf t (curve d k) (curve d i) (Some z) → z.at_from ≡ a
    → IsInside d.window.low d.window.high z.bend → IsBendBy t d i a k (Some z.bend)
by_zone t d i a k z l h e w = record {
  there = l;
  zone = subst (λ (x : Bool). IsZone t (curve d k) (curve d i) x z.bend) e h;
  inside = w;
}

pub other_end : (t : ℤ) (d : Plan) (i : ℕ) (a : Bool) (k : ℕ) (z : Zone)
    → IsZoneOf t (curve d k) (curve d i) (Some z) → (z.at_from ≡ a → ⊥) → IsBendBy t d i a k None
other_end t d i a k z h f b x =
    f (one_zone t (curve d k) (curve d i) z.at_from a z.bend b h x.zone).0

pub outside : (t : ℤ) (d : Plan) (i : ℕ) (a : Bool) (k : ℕ) (z : Zone)
    → IsZoneOf t (curve d k) (curve d i) (Some z) → (IsInside d.window.low d.window.high z.bend → ⊥)
    → IsBendBy t d i a k None
outside t d i a k z h f b x =
    f (subst (IsInside d.window.low d.window.high)
    (sym (one_zone t (curve d k) (curve d i) z.at_from a z.bend b h x.zone).1) x.inside)

pub no_zone : (t : ℤ) (d : Plan) (i : ℕ) (a : Bool) (k : ℕ)
    → IsZoneOf t (curve d k) (curve d i) None → IsBendBy t d i a k None
no_zone t d i a k h b x = h a b x.zone

-- ---- the lesser
pub lesser_none : (t : ℤ) (d : Plan) (i : ℕ) (a : Bool) (k : ℕ) (best : Option Bend)
    → IsBendBy t d i a k None → IsLesser t d i a k best best
lesser_none t d i a k best h = record {
  found = λ f. f;
  kept = λ l u. u;
  seen = λ b x. absurd (h b x);
}

module _ (t : ℤ) (d : Plan) (i : ℕ) (a : Bool) (k : ℕ) (at : Point) (h : BendsAt t d i a k at) where
  abbrev it : Bend
  it = record { number = k; at = at }

  pub lesser_some : (best next : Option Bend) → IsLesserBend best it next
      → IsLesser t d i a k best next
  lesser_some None next e =
      subst (IsLesser t d i a k None) (sym e) (record {
        found = λ f. h;
        kept = λ l u. absurd u;
        seen = λ b x. omega arith;
      })
  lesser_some (Some first) next (inl (l, e)) =
      subst (IsLesser t d i a k (Some first)) (sym e) (record {
        found = λ f. f;
        kept = λ l u. u;
        seen = λ b x. l;
      })
  lesser_some (Some first) next (inr (l, e)) =
      subst (IsLesser t d i a k (Some first)) (sym e) (record {
        found = λ f. h;
        kept = λ m u. omega (arith, l, u);
        seen = λ b x. omega arith;
      })

-- ---- the block
pub record IsBestTo (t : ℤ) (d : Plan) (i : ℕ) (a : Bool) (items : List End) (k : ℕ)
    (best : Option Bend) : Type 0 where
  pub found : IsFound t d i a best
  pub seen : (m : ℕ) (e : End) → m < k → IsSeen t d i a best (get_or items m e).number

pub best_start : (t : ℤ) (d : Plan) (i : ℕ) (a : Bool) (items : List End)
    → IsBestTo t d i a items 0 None
best_start t d i a items = record { found = tt; seen = λ m e l. absurd (omega (arith, l)) }

abbrev pub no_end : End
no_end = record { key = pos 0; number = 0 }

pub one_default : (xs : List End) (i : ℕ) (d e : End) → i < length xs
    → get_or xs i d ≡ get_or xs i e
one_default [] i d e l = absurd (omega arith)
one_default (x ∷ xs) zero d e l = refl
one_default (x ∷ xs) (suc i) d e l = one_default xs i d e (omega (arith, l))

pub known_at : (n : ℕ) (ends items : List End) (k : ℕ) → All (λ e. e.number < n) ends
    → ((e : End) → Contains items e → Contains ends e) → k < length items
    → (get_or items k no_end).number < n
known_at n ends items k known from l =
    let x = get_or items k no_end in
    let (m, lm, e) = from x (k, l, one_default items k x no_end l) in
    subst (λ (y : End). y.number < n) e (known m x lm)

pub best_more : (t : ℤ) (d : Plan) (i : ℕ) (a : Bool) (items : List End) (k : ℕ)
    (best next : Option Bend) (item : End)
    → IsBestTo t d i a items k best → k < length items → ((e : End) → get_or items k e ≡ item)
    → IsLesser t d i a item.number best next
    → IsBestTo t d i a items (k + 1) next
best_more t d i a items k best next item h l at s =
    record { found = s.found h.found; seen = λ m e lm. by m e (cases_lt m k) lm }
  where
    by : (m : ℕ) (e : End) → (m < k) ⊎ (k ≤ m) → m < k + 1
        → IsSeen t d i a next (get_or items m e).number
    by m e (inl n) lm = λ b x. s.kept (get_or items m e).number (h.seen m e n b x)
    by m e (inr n) lm =
        let q : get_or items m e ≡ item = ap (λ (j : ℕ). get_or items j e) (omega (arith, n, lm))
        ∙ at e in
        subst (λ (x : End). IsSeen t d i a next x.number) (sym q) s.seen

module _ (t : ℤ) (d : Plan) (ends : List End) (are : AreEnds d.curves ends) (i : ℕ) (a : Bool)
    (items : List End) (near : Point) (is_near : near ≡ near_end a (curve d i))
    (whole : (e : End) → Contains ends e → e.key ≡ key near → Contains items e) (k : ℕ)
    (l : length items ≤ k) where
  among : (m : ℕ) (b : Point) → BendsAt t d i a m b → Contains items (end_of near m)
  among m b x = by x.zone.shares.near
    where
      both : HasBoth (curve d m) m ends
      both = are.whole m x.there x.zone.half_arc

      by : IsEndOf (curve d m) (near_end a (curve d i)) → Contains items (end_of near m)
      by (inl e) =
          whole (end_of near m)
          (subst (λ (p : Point). Contains ends (end_of p m)) (e ∙ sym is_near) both.from) refl
      by (inr e) =
          whole (end_of near m)
          (subst (λ (p : Point). Contains ends (end_of p m)) (e ∙ sym is_near) both.to) refl

  seen_all : (best : Option Bend) → IsBestTo t d i a items k best → (m : ℕ) → IsSeen t d i a best m
  seen_all best h m b x =
      let (j, lj, e) = among m b x in
      let q : (get_or items j (end_of near m)).number ≡ m = ap (λ (y : End). y.number) e in
      subst (IsSeen t d i a best) q (h.seen j (end_of near m) (omega (arith, l, lj))) b x

  pub best_some : (bend : Bend) → IsBestTo t d i a items k (Some bend)
      → IsBendAt t d i a (Some bend.at)
  best_some bend h = (
    bend.number,
    h.found,
    λ m c lm x. let u = seen_all (Some bend) h m c x in
        absurd (omega (arith, lm, u)),
  )

  pub best_none : IsBestTo t d i a items k None → IsBendAt t d i a None
  best_none h m b x = absurd (seen_all None h m b x)

pub same_curve : (xs : List Curve) (k : ℕ) (d e : Curve) → k < length xs
    → get_or xs k d ≡ get_or xs k e
same_curve [] k d e l = absurd (omega arith)
same_curve (x ∷ xs) zero d e l = refl
same_curve (x ∷ xs) (suc k) d e l = same_curve xs k d e (omega (arith, l))

pub curve_is : (d : Plan) (k : ℕ) (x : Curve) → k < length d.curves → x ≡ get_or d.curves k x
    → x ≡ curve d k
curve_is d k x l e = e ∙ same_curve d.curves k x _ l

pub refused : (t : Bool) → t ≡ false → IsTrue t → ⊥
refused true e h = cc
refused false e h = cc
