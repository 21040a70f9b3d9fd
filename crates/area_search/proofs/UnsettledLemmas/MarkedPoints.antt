-- All points on marked curves, by the codes of their pairs.
use Rattle.std.proofs.Common.{◌≡◌, ℕ, ◌+◌, ◌-◌, ◌/◌, ◌%◌, ◌^◌, ◌<◌, ◌≤◌, inl, inr, Bool, true}
use Rattle.std.proofs.Common.{List, [], ◌∷◌, ◌++◌, length, map, get_or, sym, ◌∙◌, ap, subst}
use Rattle.std.proofs.Common.{arith}
use Rattle.std.specs.List.Sorted.{IsStrictlyIncreasing}
use Rattle.std.specs.List.{Contains}
use Rattle.std.proofs.lemmas.Bool.{cases_lt}
use Rattle.std.proofs.lemmas.List.{get_or-map, get_or_append_left, get_or_default, length-append}
use Rattle.std.proofs.lemmas.List.{length-map}
use Rattle.std.proofs.Math.Seq.{get_or-append_seam}
use Rattle.std.proofs.lemmas.List.Elements.{All-get_or}
use Rattle.plane.specs.Forms.Boxes.{Box, HoldsCurve, InBox}
use Rattle.plane.specs.Rule.Curves.{IsOn, arc}
use Rattle.plane.specs.Rule.HalfArcs.{HasSide}
use Rattle.plane.specs.Rule.Places.{Place as IsPlace, Vector}
use Rattle.plane.specs.Rule.Plans.{Plan}
use Rattle.plane.specs.declared.kinds.Curve.{Curve}
use Rattle.plane.specs.declared.kinds.CurveKind.TheVariants as kind
use Rattle.fault_lists.specs.declared.kinds.OnAt.{OnAt}
use Rattle.near_pairs.specs.Boxes.{AreMarkedFrom, AreNear}
use Rattle.near_pairs.specs.PairLists.{AreCodes, IsCode, IsPairList, code}
use Rattle.near_pairs.specs.declared.listing.PairList.{PairList}
use Rattle.near_pairs.specs.declared.reaches.Reach.{Reach}
use Rattle.area_search.specs.Unsettled.CurvePoints.{AreCurveBoxes, AreMarkedTo, IsPointOnCurve}
use Rattle.area_search.specs.Unsettled.CurvePoints.{LiesOnMarked}
use Rattle.area_search.specs.Faults.{LiesOn}
use Rattle.area_search.specs.Unsettled.MarkedPoints.{AreDecoded, ArePairsOn, HasManyOn, IsDecoded}
use Rattle.area_search.specs.Unsettled.MarkedPoints.{no_on, on_code}
use Rattle.area_search.proofs.UnsettledLemmas.PointsOnCurves.{lies_on, numbered, on_is_near}

-- ---- the boxes and marks as they are lent
pub near_pairs_on : (d : Plan) (marks : List Bool) (numbers : List ℕ)
    → AreMarkedTo marks true (length d.curves) numbers
    → (boxes lent seen : List Reach) (chosen lent_marks : List Bool) (points : ℕ) → lent ≡ boxes
    → seen ≡ boxes → lent_marks ≡ chosen → points ≡ length d.points
    → AreCurveBoxes d numbers (length numbers) boxes → AreMarkedFrom points (length seen) chosen
    → ((c : Curve) (x : Box) (z : Vector) → HoldsCurve x c → IsPlace z
    → (c.kind ≡ kind.HalfArc → HasSide (arc c) z) → IsOn c z → InBox x z)
    → (i j : ℕ) → IsPointOnCurve d numbers i j → AreNear lent lent_marks i j
near_pairs_on d marks numbers a boxes lent seen chosen lent_marks points el es em ep b k law i j h =
    subst (λ (bs : List Reach). AreNear bs lent_marks i j) (sym el)
    (subst (λ (ms : List Bool). AreNear boxes ms i j) (sym em) near)
  where
    counted : length seen ≡ length d.points + length numbers
    counted = ap (λ (bs : List Reach). length bs) es ∙ b.size

    from : AreMarkedFrom (length d.points) (length seen) chosen
    from = subst (λ (n : ℕ). AreMarkedFrom n (length seen) chosen) ep k

    near : AreNear boxes chosen i j
    near = on_is_near d marks numbers a boxes chosen b (length seen) counted from law i j h

same_on : (o : OnAt) (j i : ℕ) → o.point ≡ j → o.curve ≡ i → o ≡ record { point = j; curve = i }
same_on o j i e f = ap (λ (p : ℕ). record { point = p; curve = o.curve }) e
    ∙ ap (λ (c : ℕ). record { point = j; curve = c }) f

module _ (d : Plan) (marks : List Bool) (numbers : List ℕ)
    (a : AreMarkedTo marks true (length d.curves) numbers) (l : PairList) (ons : List OnAt)
    (list : IsPairList (IsPointOnCurve d numbers) (length d.points + length numbers) l)
    (whole : l.whole ≡ true) (few : length d.points + length numbers < 2 ^ 32)
    (decoded : AreDecoded d numbers l.codes.items (length l.codes.items) ons) where
  abbrev codes : List ℕ
  codes = l.codes.items

  abbrev at : ℕ → OnAt
  at k = get_or ons k no_on

  of_pair : (k : ℕ) → k < length codes → LiesOnMarked d marks true (at k).point (at k).curve
  of_pair k h =
      by (All-get_or (IsCode (IsPointOnCurve d numbers) (length d.points + length numbers)) codes k
      0 h list.pairs)
    where
      by : IsCode (IsPointOnCurve d numbers) (length d.points + length numbers) (get_or codes k 0)
          → LiesOnMarked d marks true (at k).point (at k).curve
      by c =
          let t = c.sought.there in
          let e = decoded.each k h c.pair.first c.pair.second
          (omega (arith, t, few)) c.is c.sought.sought in
          subst (λ (i : ℕ). LiesOnMarked d marks true (at k).point i) (sym e.1)
          (subst (λ (j : ℕ). LiesOnMarked d marks true j
          (get_or numbers (c.pair.second - length d.points) 0)) (sym e.0)
          (lies_on d marks numbers a c.pair.first c.pair.second c.sought.sought))

  on : (o : OnAt) → Contains ons o → LiesOnMarked d marks true o.point o.curve
  on o c =
      let n = decoded.size in
      let k = c.1 in
      subst (λ (p : OnAt). LiesOnMarked d marks true p.point p.curve)
      (get_or_default ons c.0 no_on o c.1 ∙ c.2) (of_pair c.0 (omega (arith, n, k)))

  every : (j i : ℕ) → LiesOnMarked d marks true j i → Contains ons (record { point = j; curve = i })
  every j i o = by (numbered d marks numbers a j i o)
    where
      by : (m : ℕ) × (m < length numbers) × (get_or numbers m 0 ≡ i)
          × IsPointOnCurve d numbers j (length d.points + m)
          → Contains ons (record { point = j; curve = i })
      by f =
          let m = f.0 in
          let less = f.1 in
          let there = o.on.point_there in
          let c = list.all whole j (length d.points + m) (omega (arith, there))
          (omega (arith, less)) f.3 in
          let n = decoded.size in
          let k = c.1 in
          let e = decoded.each c.0 c.1 j (length d.points + m) (omega (arith, less, few))
          (get_or_default codes c.0 0 _ c.1 ∙ c.2) f.3 in
          let g : (length d.points + m) - length d.points ≡ m = omega arith in
          let q : c.0 < length ons = omega (arith, n, k) in (
            c.0,
            q,
            get_or_default ons c.0 _ no_on q
                ∙ same_on (at c.0) j i e.0 (e.1 ∙ (ap (λ (x : ℕ). get_or numbers x 0) g ∙ f.2)),
          )

  pub all_pairs_on : ArePairsOn d marks ons
  all_pairs_on = record { on = on; all = every }

-- ---- one code after the other
pub none_decoded : (d : Plan) (numbers codes : List ℕ) (ons : List OnAt) → ons ≡ []
    → AreDecoded d numbers codes 0 ons
none_decoded d numbers codes ons e =
    record { size = ap (λ (xs : List OnAt). length xs) e; each = λ k l. absurd (omega (arith, l)) }

pub decoded_next : (d : Plan) (numbers codes : List ℕ) (n : ℕ) (ons new : List OnAt) (o : OnAt)
    → new ≡ ons ++ o ∷ []
    → IsDecoded d numbers (get_or codes n 0) o → AreDecoded d numbers codes n ons
    → AreDecoded d numbers codes (n + 1) new
decoded_next d numbers codes n ons new o e is h =
    subst (λ (xs : List OnAt). AreDecoded d numbers codes (n + 1) xs) (sym e)
    (record {
      size = (let s = h.size in let t = length-append ons (o ∷ []) in omega (arith, s, t));
      each = λ k l. elim (cases_lt k n) [ inl a ↦ old k a | inr b ↦ last k (omega (arith, l, b)) ];
    })
  where
    old : (k : ℕ) → k < n → IsDecoded d numbers (get_or codes k 0) (get_or (ons ++ o ∷ []) k no_on)
    old k l = subst (λ (p : OnAt). IsDecoded d numbers (get_or codes k 0) p)
        (sym (get_or_append_left ons (o ∷ []) no_on k (let s = h.size in omega (arith, l, s))))
        (h.each k l)

    last : (k : ℕ) → k ≡ n → IsDecoded d numbers (get_or codes k 0) (get_or (ons ++ o ∷ []) k no_on)
    last k q = subst
        (λ (i : ℕ). IsDecoded d numbers (get_or codes i 0) (get_or (ons ++ o ∷ []) i no_on)) (sym q)
        (subst (λ (p : OnAt). IsDecoded d numbers (get_or codes n 0) p)
        (sym (ap (λ (i : ℕ). get_or (ons ++ o ∷ []) i no_on) (sym h.size)
        ∙ get_or-append_seam ons o [] no_on)) is)

pub all_decoded : (d : Plan) (numbers codes : List ℕ) (n : ℕ) (ons : List OnAt) → length codes ≤ n
    → n ≤ length codes → AreDecoded d numbers codes n ons
    → AreDecoded d numbers codes (length codes) ons
all_decoded d numbers codes n ons a b h =
    let e : n ≡ length codes = omega (arith, a, b) in
    subst (λ (k : ℕ). AreDecoded d numbers codes k ons) e h

-- ---- all of it, with the lists as they are lent
pub lent_pairs_on : (d : Plan) (marks : List Bool) (numbers one two codes : List ℕ) (l : PairList)
    (ons : List OnAt)
    → length marks ≡ length d.curves → one ≡ numbers → two ≡ numbers → codes ≡ l.codes.items
    → AreMarkedTo marks true (length marks) numbers
    → IsPairList (IsPointOnCurve d one) (length d.points + length one) l
    → length d.points + length one < 2 ^ 32 → l.whole ≡ true
    → AreDecoded d two codes (length codes) ons → ArePairsOn d marks ons
lent_pairs_on d marks numbers one two codes l ons size e f g a list few whole decoded =
    all_pairs_on d marks numbers (subst (λ (n : ℕ). AreMarkedTo marks true n numbers) size a) l ons
    (subst (λ (xs : List ℕ). IsPairList (IsPointOnCurve d xs) (length d.points + length xs) l) e
    list) whole (subst (λ (xs : List ℕ). length d.points + length xs < 2 ^ 32) e few)
    (subst (λ (xs : List ℕ). AreDecoded d xs l.codes.items (length l.codes.items) ons) f
    (subst (λ (xs : List ℕ). AreDecoded d two xs (length xs) ons) g decoded))

-- ---- too many of them
-- the pair of a code
abbrev on_of_code : Plan → List ℕ → ℕ → OnAt
on_of_code d numbers c = record {
  point = c / 2 ^ 32;
  curve = get_or numbers ((c % 2 ^ 32) - length d.points) 0;
}

module _ (d : Plan) (marks : List Bool) (numbers : List ℕ)
    (a : AreMarkedTo marks true (length d.curves) numbers) (codes : List ℕ)
    (all : AreCodes (IsPointOnCurve d numbers) (length d.points + length numbers) codes)
    (few : length d.points + length numbers < 2 ^ 32) (curves : length d.curves < 2 ^ 32) where
  code_is : (k : ℕ) → k < length codes
      → IsCode (IsPointOnCurve d numbers) (length d.points + length numbers) (get_or codes k 0)
  code_is k l = all k 0 l

  -- the parts of a code
  first_is : (c i j : ℕ) → c ≡ code i j → j < 2 ^ 32 → c / 2 ^ 32 ≡ i
  first_is c i j e l = omega (arith, e, l)

  second_is : (c i j : ℕ) → c ≡ code i j → j < 2 ^ 32 → c % 2 ^ 32 ≡ j
  second_is c i j e l = omega (arith, e, l)

  lies : (c : ℕ) → IsCode (IsPointOnCurve d numbers) (length d.points + length numbers) c
      → LiesOn d (on_of_code d numbers c).point (on_of_code d numbers c).curve
  lies c h =
      let t = h.sought.there in
      let j : h.pair.second < 2 ^ 32 = omega (arith, t, few) in
      let o = lies_on d marks numbers a h.pair.first h.pair.second h.sought.sought in
      subst (λ (i : ℕ). LiesOn d i (get_or numbers ((c % 2 ^ 32) - length d.points) 0))
      (sym (first_is c h.pair.first h.pair.second h.is j))
      (subst (λ (n : ℕ). LiesOn d h.pair.first (get_or numbers (n - length d.points) 0))
      (sym (second_is c h.pair.first h.pair.second h.is j)) o.on)

  on_each : (o : OnAt) → Contains (map (on_of_code d numbers) codes) o → LiesOn d o.point o.curve
  on_each o (k, l, e) =
      let n = length-map codes (on_of_code d numbers) in
      let m : k < length codes = omega (arith, l, n) in
      subst (λ (p : OnAt). LiesOn d p.point p.curve)
      (sym (get_or-map (on_of_code d numbers) codes k 0 o m) ∙ e)
      (lies (get_or codes k 0) (code_is k m))

  -- pairs rise with their codes
  rises : (b c : ℕ) → IsCode (IsPointOnCurve d numbers) (length d.points + length numbers) b
      → IsCode (IsPointOnCurve d numbers) (length d.points + length numbers) c → b < c
      → on_code (on_of_code d numbers b) < on_code (on_of_code d numbers c)
  rises b c h k l =
      let i = h.pair.first in
      let j = h.pair.second - length d.points in
      let s = k.pair.first in
      let t = k.pair.second - length d.points in
      let hb = h.is in
      let kc = k.is in
      let ht = h.sought.there in
      let kt = k.sought.there in
      let ha = h.sought.sought.after in
      let ka = k.sought.sought.after in
      let x = a.known j h.sought.sought.within in
      let y = a.known t k.sought.sought.within in
      let goal : code i (get_or numbers j 0) < code s (get_or numbers t 0) =
      elim (cases_lt i s) [
        | inl f ↦ omega (arith, f, x, curves)
        | inr f ↦ (
            let q : i ≡ s = omega (arith, f, l, hb, kc, ht, kt, few) in
            let r : j < t = omega (arith, q, l, hb, kc, ht, kt, few, ha, ka) in
            let v = a.rising j t r k.sought.sought.within in
            omega (arith, q, v))
      ] in
      subst (λ (m : ℕ). m < on_code (on_of_code d numbers c)) (coded b h)
      (subst (λ (m : ℕ). code i (get_or numbers j 0) < m) (coded c k) goal)
    where
      coded : (c : ℕ)
          → (h : IsCode (IsPointOnCurve d numbers) (length d.points + length numbers) c)
          → code h.pair.first (get_or numbers (h.pair.second - length d.points) 0)
          ≡ on_code (on_of_code d numbers c)
      coded c h =
          let t = h.sought.there in
          let j : h.pair.second < 2 ^ 32 = omega (arith, t, few) in
          ap (λ (i : ℕ). code i (get_or numbers (h.pair.second - length d.points) 0))
          (sym (first_is c h.pair.first h.pair.second h.is j))
          ∙ ap (λ (n : ℕ). code (c / 2 ^ 32) (get_or numbers (n - length d.points) 0))
          (sym (second_is c h.pair.first h.pair.second h.is j))

  pub has_many : (most : ℕ) → IsStrictlyIncreasing codes → most < length codes → HasManyOn d most
  has_many most rise many = record {
    pairs = map (on_of_code d numbers) codes;
    on = on_each;
    rise = λ k l.
        let n = length-map (map (on_of_code d numbers) codes) on_code in
        let m = length-map codes (on_of_code d numbers) in
        let there : k + 1 < length codes = omega (arith, l, n, m) in
        let here : k < length codes = omega (arith, there) in
        subst (λ (x : ℕ). x < get_or (map on_code (map (on_of_code d numbers) codes)) (k + 1) 0)
        (sym (entry k here))
        (subst (λ (y : ℕ). on_code (on_of_code d numbers (get_or codes k 0)) < y)
        (sym (entry (k + 1) there))
        (rises (get_or codes k 0) (get_or codes (k + 1) 0) (code_is k here) (code_is (k + 1) there)
        (rise k there)));
    many = (let n = length-map codes (on_of_code d numbers) in omega (arith, many, n));
  }
    where
      entry : (k : ℕ) → k < length codes
          → get_or (map on_code (map (on_of_code d numbers) codes)) k 0
          ≡ on_code (on_of_code d numbers (get_or codes k 0))
      entry k l =
          get_or-map on_code (map (on_of_code d numbers) codes) k no_on 0
          (let n = length-map codes (on_of_code d numbers) in omega (arith, l, n))
          ∙ ap on_code (get_or-map (on_of_code d numbers) codes k 0 no_on l)

pub lent_many_on : (d : Plan) (marks : List Bool) (numbers one : List ℕ) (l : PairList) (most : ℕ)
    → length marks ≡ length d.curves → one ≡ numbers
    → AreMarkedTo marks true (length marks) numbers
    → IsPairList (IsPointOnCurve d one) (length d.points + length one) l
    → length d.points + length one < 2 ^ 32 → length d.curves < 2 ^ 32
    → most < length l.codes.items → HasManyOn d most
lent_many_on d marks numbers one l most size e a list few curves many =
    has_many d marks numbers (subst (λ (n : ℕ). AreMarkedTo marks true n numbers) size a)
    l.codes.items
    (subst (λ (xs : List ℕ). AreCodes (IsPointOnCurve d xs) (length d.points + length xs)
    l.codes.items) e list.pairs)
    (subst (λ (xs : List ℕ). length d.points + length xs < 2 ^ 32) e few) curves most list.rising
    many
