-- Lists of entries by their codes.
use Rattle.std.proofs.Common.{add-one, ◌≡◌, ℕ, zero, suc, ◌+◌, ◌/◌, ◌%◌, ◌^◌, ◌<◌, ◌≤◌, Bool, true}
use Rattle.std.proofs.Common.{List, [], ◌∷◌, ◌++◌, length, get_or, map, take, refl, arith, ap, sym}
use Rattle.std.proofs.Common.{◌∙◌, subst}
use Rattle.std.specs.List.{Contains}
use Rattle.std.specs.List.Sorted.{IsStrictlyIncreasing}
use Rattle.std.proofs.lemmas.List.{length-append, length-map, get_or_append_left, map-append}
use Rattle.std.proofs.Math.Seq.{get_or-append_seam}
use Rattle.plane.specs.Forms.Boxes.{Box, HoldsCurve, InBox}
use Rattle.plane.specs.Rule.BadPairs.{AreBad, IsBadPair}
use Rattle.plane.specs.Rule.Places.{Vector, Place}
use Rattle.plane.specs.Rule.Plans.{Plan, curve}
use Rattle.plane.specs.declared.kinds.Curve.{Curve}
use Rattle.straight_predicates.proofs.Orders.{by_lt}
use Rattle.near_pairs.specs.Boxes.{AreNear, box_of, reach_of}
use Rattle.near_pairs.specs.LeastPairs.{IsPair}
use Rattle.near_pairs.specs.PairLists.{IsCode, IsPairList, code}
use Rattle.near_pairs.specs.declared.listing.PairList.{PairList}
use Rattle.near_pairs.specs.declared.pairs.NearPair.{NearPair}
use Rattle.near_pairs.specs.declared.reaches.Reach.{Reach}
use Rattle.meetings.specs.CurveBoxes.{AreReachesTo}
use Rattle.fault_lists.specs.FaultLists.{AreMeetings}
use Rattle.fault_lists.specs.declared.kinds.MeetingAt.{MeetingAt}
use Rattle.area_faults.specs.MeetingMarks.{AreMeetingMarks}
use Rattle.area_faults.specs.Meetings.{AreEntries, AreManyMeetings, IsMeeting, entry_code}

-- ---- codes
same_first : (i j k l : ℕ) → j < 2 ^ 32 → l < 2 ^ 32 → code i j ≡ code k l → i ≡ k
same_first i j k l h m e =
    by_lt i k (λ (g : i < k). absurd (omega (arith, e, h, m, g)))
    (λ (g : k ≤ i). by_lt k i (λ (n : k < i). absurd (omega (arith, e, h, m, n)))
    (λ (n : i ≤ k). omega (arith, g, n)))

pub same_pair : (i j k l : ℕ) → j < 2 ^ 32 → l < 2 ^ 32 → code i j ≡ code k l → (i ≡ k) × (j ≡ l)
same_pair i j k l h m e = let f = same_first i j k l h m e in (f, omega (arith, e, f))

-- the two numbers of a code
pub numbers_of : (c first second : ℕ) → first ≡ c / 2 ^ 32 → second ≡ c % 2 ^ 32
    → (second < 2 ^ 32) × (code first second ≡ c)
numbers_of c first second e f = (omega (arith, f), omega (arith, e, f))

same_numbers : (sought : ℕ → ℕ → Type 0) (n : ℕ) (p : NearPair) (first second : ℕ) → p.first ≡ first
    → p.second ≡ second → IsPair sought n p
    → IsPair sought n (record { first = first; second = second })
same_numbers sought n p first second e f h = record {
  order = (let o = h.order in omega (arith, e, f, o));
  there = (let t = h.there in omega (arith, f, t));
  sought = subst (λ (i : ℕ). sought i second) e (subst (λ (j : ℕ). sought p.first j) f h.sought);
}

-- the pair of a code, by its two numbers
pub code_pair : (d : Plan) (c : ℕ) → length d.curves < 2 ^ 32
    → IsCode (IsBadPair d) (length d.curves) c → IsBadPair d (c / 2 ^ 32) (c % 2 ^ 32)
code_pair d c small h =
    let n = numbers_of c (c / 2 ^ 32) (c % 2 ^ 32) refl refl in
    let t = h.sought.there in
    let same = same_pair h.pair.first h.pair.second (c / 2 ^ 32) (c % 2 ^ 32)
    (omega (arith, t, small)) n.0 (sym h.is ∙ sym n.1) in
    (same_numbers (IsBadPair d) (length d.curves) h.pair (c / 2 ^ 32)
    (c % 2 ^ 32) same.0 same.1 h.sought).sought

-- ---- entries
contains_of_map : {T : Type 0} (f : T → ℕ) (xs : List T) (c : ℕ) → Contains (map f xs) c
    → (x : T) × Contains xs x × (f x ≡ c)
contains_of_map f [] c (i, l, e) = absurd (omega (arith, l))
contains_of_map f (x ∷ xs) c (zero, l, e) = (x, (0, omega arith, refl), e)
contains_of_map f (x ∷ xs) c (suc i, l, e) =
    let (y, (j, m, g), h) = contains_of_map f xs c (i, omega (arith, l), e) in
    (y, (suc j, omega (arith, m), g), h)

take_one : (xs : List ℕ) (k x : ℕ) → k < length xs → get_or xs k x ≡ x
    → take (suc k) xs ≡ take k xs ++ x ∷ []
take_one [] k x l e = absurd (omega (arith, l))
take_one (y ∷ xs) zero x l e = ap (λ (z : ℕ). z ∷ []) e
take_one (y ∷ xs) (suc k) x l e =
    ap (λ (zs : List ℕ). y ∷ zs) (take_one xs k x (omega (arith, l)) e)

pub entries_more : (d : Plan) (codes : List ℕ) (k c : ℕ) (ms new : List MeetingAt) (m : MeetingAt)
    → k < length codes → get_or codes k c ≡ c → AreEntries d (take k codes) ms → new ≡ ms ++ m ∷ []
    → entry_code m ≡ c → IsMeeting d m → AreEntries d (take (k + 1) codes) new
entries_more d codes k c ms new m l at a q e h = record {
  codes_are = ap (map entry_code) q ∙ map-append entry_code ms (m ∷ [])
      ∙ ap (λ (xs : List ℕ). xs ++ entry_code m ∷ []) a.codes_are
      ∙ ap (λ (x : ℕ). take k codes ++ x ∷ []) e
      ∙ sym (ap (λ (n : ℕ). take n codes) (add-one k) ∙ take_one codes k c l at);
  each = λ i o n. by_lt i (length ms)
      (λ (g : i < length ms). subst (IsMeeting d)
      (sym (ap (λ xs. get_or xs i o) q ∙ get_or_append_left ms (m ∷ []) o i g)) (a.each i o g))
      (λ (g : length ms ≤ i). subst (IsMeeting d)
      (sym (ap (λ xs. get_or xs i o) q ∙ ap (λ (j : ℕ). get_or (ms ++ m ∷ []) j o) (last i n g)
      ∙ get_or-append_seam ms m [] o)) h);
}
  where
    last : (i : ℕ) → i < length new → length ms ≤ i → i ≡ length ms
    last i n g = let s = ap length q ∙ length-append ms (m ∷ []) in omega (arith, n, g, s)

module _ (d : Plan) (small : length d.curves < 2 ^ 32) (n : ℕ) (size : n ≡ length d.curves)
    (l : PairList) (is : IsPairList (IsBadPair d) n l) (ms : List MeetingAt)
    (of : AreEntries d l.codes.items ms) where
  each : (m : MeetingAt) → Contains ms m → IsMeeting d m
  each m (i, l, e) = subst (IsMeeting d) e (of.each i m l)

  rise : IsStrictlyIncreasing (map entry_code ms)
  rise = subst IsStrictlyIncreasing (sym of.codes_are) is.rising

  pub many_meetings : 1000000 < length l.codes.items → AreManyMeetings d ms
  many_meetings more = record {
    some = record { each = each; rise = rise };
    more = (let n = length-map ms entry_code in let e = ap length of.codes_are in
        omega (arith, more, n, e));
  }

  pub all_meetings : l.whole ≡ true → AreMeetings d ms
  all_meetings w = record {
    bad = λ m h. (each m h).bad;
    near = λ m h. (each m h).near;
    all = λ i j p.
        let o = p.order in
        let t = p.there in
        let (m, h, e) = contains_of_map entry_code ms (code i j)
        (subst (λ cs. Contains cs (code i j)) (sym of.codes_are)
        (is.all w i j o (omega (arith, t, size)) p)) in
        let k = (each m h).bad.there in (
          m,
          h,
          same_pair m.first m.second i j (omega (arith, k, small))
              (omega (arith, t, small)) e,
        );
    rise = rise;
  }

-- bad pairs are near
pub bad_is_near : (d : Plan) (boxes : List Reach) (marks : List Bool)
    → AreReachesTo d.curves (length d.curves) boxes → AreMeetingMarks d marks
    → ((c e : Curve) (a b : Box) → AreBad c e → HoldsCurve a c → HoldsCurve b e
    → (z : Vector) × Place z × InBox a z × InBox b z)
    → (i j : ℕ) → IsBadPair d i j → AreNear boxes marks i j
bad_is_near d boxes marks r m law i j p = record {
  mark = m.pairs i j p;
  place = law (curve d i) (curve d j) (box_of (reach_of boxes i)) (box_of (reach_of boxes j)) p.bad
      (r.holds i (let o = p.order in let t = p.there in omega (arith, o, t))) (r.holds j p.there);
}
