-- The premises of a certificate are decided by tests that compute: matched labels, placed points
-- and links.
-- Cells and events that the tests need as witnesses are given to them.
use Rattle.std.proofs.Common.{◌≡◌, ℕ, zero, suc, ◌<◌, Bool, true, false, pos, ◌-ℤ◌, List, [], ◌∷◌}
use Rattle.std.proofs.Common.{length, inl, inr, refl, arith, ap, sym}
use Rattle.std.proofs.lemmas.Int.{ints}
use Rattle.plane.specs.declared.kinds.Point.{Point}
use Rattle.plane.specs.Rule.Plans.{Plan, object}
use Rattle.plane.specs.Faces.Labels.{Labels, Match, last_label, first_label}
use Rattle.plane.specs.Faces.Replays.{Replay}
use Rattle.plane.specs.Faces.Cells.{is_positive, Sector, IsSector, IsBorder}
use Rattle.plane.specs.Faces.Halves.{Half, under, over, edge_of, twin, At, AtBefore, Beside, mark}
use Rattle.plane.specs.Faces.Classes.{fan, IsFirst, IsLast, Follows, FollowsRound, Lead, root, next}
use Rattle.plane.specs.Faces.Classes.{previous, across, Falls, IsLead, AreLeads}
use Rattle.plane.specs.Faces.PlacedPoints.{IsPlaced}
use Rattle.plane.specs.Faces.Certified.{IsRoot, Certified}
use Rattle.plane.specs.Runs.Positions.{turn_at}
use Rattle.plane.specs.Faces.Parity.{both, either, same_number}
use Rattle.plane.proofs.ParityLemmas.Wedges.{not_both, is_true}
use Rattle.plane.proofs.ParityLemmas.Parities.{both_true}
use Rattle.plane.proofs.ParityLemmas.ByNumber.{number_is}
use Rattle.plane.proofs.Linear.EdgePlaces.{side-cross}
use Rattle.plane.proofs.Worked.RunTests.{either_is, implies, implies_is, less, less_is, most}
use Rattle.plane.proofs.Worked.RunTests.{most_is, is_most, all_below, all_below_is, comes_before}
use Rattle.plane.proofs.Worked.RunTests.{comes_before_is}

-- ---- places of lists
abbrev stands : List ℕ → ℕ → ℕ → Bool
stands [] i e = false
stands (d ∷ es) zero e = same_number e d
stands (d ∷ es) (suc i) e = stands es i e

pub stands_is : (es : List ℕ) (i e : ℕ) → stands es i e ≡ true → At es i e
stands_is [] i e h = absurd (not_both (sym h))
stands_is (d ∷ es) zero e h = number_is e d h
stands_is (d ∷ es) (suc i) e h = stands_is es i e h

abbrev stands_before : List ℕ → ℕ → ℕ → Bool
stands_before es zero e = false
stands_before es (suc i) e = stands es i e

pub stands_before_is : (es : List ℕ) (i e : ℕ) → stands_before es i e ≡ true → AtBefore es i e
stands_before_is es zero e h = absurd (not_both (sym h))
stands_before_is es (suc i) e h = stands_is es i e h

-- ---- labels along a list
abbrev pub match_test : Labels → ℕ → List ℕ → ℕ → Bool
match_test a l [] r = same_number l r
match_test a l (e ∷ es) r = both (same_number l (a.below e)) (match_test a (a.above e) es r)

pub match_is : (a : Labels) (l : ℕ) (es : List ℕ) (r : ℕ) → match_test a l es r ≡ true
    → Match a l es r
match_is a l [] r h = number_is l r h
match_is a l (e ∷ es) r h =
    let k = both_true (same_number l (a.below e)) (match_test a (a.above e) es r) h in
    (number_is l (a.below e) k.0, match_is a (a.above e) es r k.1)

-- ---- half-edges round an event
abbrev pub same_half : Half → Half → Bool
same_half (under d) (under e) = same_number d e
same_half (under d) (over e) = false
same_half (over d) (under e) = false
same_half (over d) (over e) = same_number d e

pub same_half_is : (g h : Half) → same_half g h ≡ true → g ≡ h
same_half_is (under d) (under e) h = ap under (number_is d e h)
same_half_is (under d) (over e) h = absurd (not_both (sym h))
same_half_is (over d) (under e) h = absurd (not_both (sym h))
same_half_is (over d) (over e) h = ap over (number_is d e h)

abbrev is_first : Half → List Half → Bool
is_first x [] = false
is_first x (y ∷ ys) = same_half x y

first_is : (x : Half) (xs : List Half) → is_first x xs ≡ true → IsFirst x xs
first_is x [] h = absurd (not_both (sym h))
first_is x (y ∷ ys) h = same_half_is x y h

abbrev is_last : Half → List Half → Bool
is_last x [] = false
is_last x (y ∷ []) = same_half x y
is_last x (y ∷ (z ∷ zs)) = is_last x (z ∷ zs)

last_is : (x : Half) (xs : List Half) → is_last x xs ≡ true → IsLast x xs
last_is x [] h = absurd (not_both (sym h))
last_is x (y ∷ []) h = same_half_is x y h
last_is x (y ∷ (z ∷ zs)) h = last_is x (z ∷ zs) h

abbrev follows : List Half → Half → Half → Bool
follows [] x y = false
follows (z ∷ zs) x y = either (both (same_half x z) (is_first y zs)) (follows zs x y)

follows_is : (xs : List Half) (x y : Half) → follows xs x y ≡ true → Follows xs x y
follows_is [] x y h = absurd (not_both (sym h))
follows_is (z ∷ zs) x y h =
    elim (either_is (both (same_half x z) (is_first y zs)) (follows zs x y) h) [
      | inl k ↦ let b = both_true (same_half x z) (is_first y zs) k in
          inl (same_half_is x z b.0, first_is y zs b.1)
      | inr k ↦ inr (follows_is zs x y k)
    ]

abbrev pub follows_round : List Half → Half → Half → Bool
follows_round xs x y = either (follows xs x y) (both (is_last x xs) (is_first y xs))

pub follows_round_is : (xs : List Half) (x y : Half) → follows_round xs x y ≡ true
    → FollowsRound xs x y
follows_round_is xs x y h =
    elim (either_is (follows xs x y) (both (is_last x xs) (is_first y xs)) h) [
      | inl k ↦ inl (follows_is xs x y k)
      | inr k ↦ let b = both_true (is_last x xs) (is_first y xs) k in
          inr (last_is x xs b.0, first_is y xs b.1)
    ]

module _ (r : Replay) where
  -- ---- cells
  abbrev pub cell_test : Sector → Bool
  cell_test c = both (most c.strip r.steps) (most c.index (length (r.list c.strip)))

  pub cell_is : (c : Sector) → cell_test c ≡ true → IsSector r c
  cell_is c h =
      let k = both_true (most c.strip r.steps) (most c.index (length (r.list c.strip))) h in
      record {
        strip = most_is c.strip r.steps k.0;
        index = most_is c.index (length (r.list c.strip)) k.1;
      }

  abbrev pub beside : Half → Sector → Bool
  beside (under e) c = stands (r.list c.strip) c.index e
  beside (over e) c = stands_before (r.list c.strip) c.index e

  pub beside_is : (h : Half) (c : Sector) → beside h c ≡ true → Beside r h c
  beside_is (under e) c k = stands_is (r.list c.strip) c.index e k
  beside_is (over e) c k = stands_before_is (r.list c.strip) c.index e k

  abbrev pub at_border : Sector → Bool
  at_border c = either (same_number c.index 0) (same_number c.index (length (r.list c.strip)))

  pub border_is : (c : Sector) → at_border c ≡ true → IsBorder r c
  border_is c h =
      elim (either_is (same_number c.index 0) (same_number c.index (length (r.list c.strip))) h) [
        | inl k ↦ inl (number_is c.index 0 k)
        | inr k ↦ inr (number_is c.index (length (r.list c.strip)) k)
      ]

  -- ---- placed points
  abbrev pub placed_test : Point → ℕ → ℕ → ℕ → ℕ → Bool
  placed_test v k i lower upper =
      both (most k r.steps)
      (both (all_below k (λ j. comes_before (r.step j).at v))
      (both (all_below r.steps (λ j. implies (most k j) (comes_before v (r.step j).at)))
      (both (stands_before (r.list k) i lower)
      (both (stands (r.list k) i upper)
      (both (is_positive (turn_at r.edge lower v))
      (is_positive (pos 0 -ℤ turn_at r.edge upper v)))))))

  abbrev pub placed_is : (v : Point) (k i lower upper : ℕ) → placed_test v k i lower upper ≡ true
      → IsPlaced r v k i
  placed_is v k i lower upper h =
      let a = both_true _ _ h in
      let b = both_true _ _ a.1 in
      let c = both_true _ _ b.1 in
      let d = both_true _ _ c.1 in
      let e = both_true _ _ d.1 in
      let f = both_true _ _ e.1 in
      let over = is_true (turn_at r.edge lower v) f.0 in
      let less = is_true (pos 0 -ℤ turn_at r.edge upper v) f.1 in
      let p = side-cross (r.edge lower) v in
      let q = side-cross (r.edge upper) v in
      record {
        fits = most_is k r.steps a.0;
        passed = λ j l. comes_before_is (r.step j).at v
            (all_below_is k (λ j. comes_before (r.step j).at v) b.0 j l);
        coming = λ j l m. comes_before_is v (r.step j).at
            (implies_is (most k j) (comes_before v (r.step j).at)
            (all_below_is r.steps (λ j. implies (most k j) (comes_before v (r.step j).at)) c.0 j m)
            (is_most k j l));
        lower = lower;
        upper = upper;
        is_lower = stands_before_is (r.list k) i lower d.0;
        is_upper = stands_is (r.list k) i upper e.0;
        above = omega (arith, ints, over, p);
        below = omega (arith, ints, less, q);
      }

  -- ---- links
  module _ (d : Plan) (lab : Labels) (rank : Half → ℕ) (link : Half → Lead) (strip index : ℕ → ℕ)
      (cell_by : Half → Sector) (event_by : Half → ℕ) where
    abbrev pub falls : Half → Half → Bool
    falls h g = both (less (edge_of g) r.edges)
        (both (same_number (mark lab g) (mark lab h)) (less (rank g) (rank h)))

    pub falls_is : (h g : Half) → falls h g ≡ true → Falls r (mark lab) rank h g
    falls_is h g k =
        let a = both_true _ _ k in
        let b = both_true _ _ a.1 in
        record {
          fits = less_is (edge_of g) r.edges a.0;
          kept = number_is (mark lab g) (mark lab h) b.0;
          less = less_is (rank g) (rank h) b.1;
        }

    -- beside the cell of the point that a label names
    abbrev named : Half → ℕ → Bool
    named h zero = false
    named h (suc j) =
        both (less j (length d.points)) (beside h (record { strip = strip j; index = index j }))

    named_is : (h : Half) (n : ℕ) → mark lab h ≡ n → named h n ≡ true → IsRoot d r lab strip index h
    named_is h zero e k = absurd (not_both (sym k))
    named_is h (suc j) e k =
        let b = both_true (less j (length d.points))
        (beside h (record { strip = strip j; index = index j })) k in
        inr (
          j,
          less_is j (length d.points) b.0,
          e,
          beside_is h (record { strip = strip j; index = index j }) b.1,
        )

    abbrev is_outer_root : Half → Bool
    is_outer_root h =
        both (same_number (mark lab h) 0)
        (both (cell_test (cell_by h)) (both (beside h (cell_by h)) (at_border (cell_by h))))

    abbrev link_test : Half → Lead → Bool
    link_test h root = either (is_outer_root h) (named h (mark lab h))
    link_test h (next g) =
        both (both (less (event_by h) r.steps)
        (follows_round (fan (r.step (event_by h))) g (twin h))) (falls h g)
    link_test h (previous g) =
        both (both (less (event_by h) r.steps)
        (follows_round (fan (r.step (event_by h))) h (twin g))) (falls h g)
    link_test h (across g) =
        both (both (cell_test (cell_by h)) (both (beside h (cell_by h)) (beside g (cell_by h))))
        (falls h g)

    link_is : (h : Half) (k : Lead) → link_test h k ≡ true
        → IsLead r (mark lab) rank (IsRoot d r lab strip index) h k
    link_is h root t = elim (either_is (is_outer_root h) (named h (mark lab h)) t) [
      | inl k ↦
          let a = both_true _ _ k in
          let b = both_true _ _ a.1 in
          let c = both_true _ _ b.1 in
          inl (
            number_is (mark lab h) 0 a.0,
            (
              cell_by h,
              cell_is (cell_by h) b.0,
              beside_is h (cell_by h) c.0,
              border_is (cell_by h) c.1,
            ),
          )
      | inr k ↦ named_is h (mark lab h) refl k
    ]
    link_is h (next g) t =
        let a = both_true _ _ t in
        let b = both_true _ _ a.0 in (
          record {
            event = event_by h;
            fits = less_is (event_by h) r.steps b.0;
            turn = follows_round_is (fan (r.step (event_by h))) g (twin h) b.1;
          },
          falls_is h g a.1,
        )
    link_is h (previous g) t =
        let a = both_true _ _ t in
        let b = both_true _ _ a.0 in (
          record {
            event = event_by h;
            fits = less_is (event_by h) r.steps b.0;
            turn = follows_round_is (fan (r.step (event_by h))) h (twin g) b.1;
          },
          falls_is h g a.1,
        )
    link_is h (across g) t =
        let a = both_true _ _ t in
        let b = both_true _ _ a.0 in
        let c = both_true _ _ b.1 in (
          (
            cell_by h,
            cell_is (cell_by h) b.0,
            beside_is h (cell_by h) c.0,
            beside_is g (cell_by h) c.1,
          ),
          falls_is h g a.1,
        )

    abbrev links_test : ℕ → Bool
    links_test e = both (link_test (under e) (link (under e))) (link_test (over e) (link (over e)))

    links_are : all_below r.edges links_test ≡ true
        → AreLeads r (mark lab) rank link (IsRoot d r lab strip index)
    links_are t (under e) l =
        link_is (under e) (link (under e)) (both_true _ _ (all_below_is r.edges links_test t e l)).0
    links_are t (over e) l =
        link_is (over e) (link (over e)) (both_true _ _ (all_below_is r.edges links_test t e l)).1

    -- ---- the whole, with the edges beside each point
    module _ (lower upper : ℕ → ℕ) where
      abbrev point_test : ℕ → Bool
      point_test j =
          both (placed_test (object d j) (strip j) (index j) (lower j) (upper j))
          (both (same_number (lab.above (lower j)) (suc j))
          (same_number (lab.below (upper j)) (suc j)))

      abbrev matches_test : ℕ → Bool
      matches_test k =
          match_test lab (last_label lab 0 (r.step k).below) (r.step k).starting
          (first_label lab (r.step k).above 0)

      pub certified_by_test : all_below r.steps matches_test ≡ true
          → all_below (length d.points) point_test ≡ true → all_below r.edges links_test ≡ true
          → Certified d r lab rank link
      certified_by_test m p t = record {
        matched = λ k l. match_is lab (last_label lab 0 (r.step k).below) (r.step k).starting
            (first_label lab (r.step k).above 0) (all_below_is r.steps matches_test m k l);
        strip = strip;
        index = index;
        placed = λ j l. placed_is (object d j) (strip j) (index j) (lower j) (upper j)
            (parts j l).0;
        lower_label =
            λ j l. number_is (lab.above (lower j)) (suc j) (both_true _ _ (parts j l).1).0;
        upper_label =
            λ j l. number_is (lab.below (upper j)) (suc j) (both_true _ _ (parts j l).1).1;
        links = links_are t;
      }
        where
          parts : (j : ℕ) (l : j < length d.points)
              → (placed_test (object d j) (strip j) (index j) (lower j) (upper j) ≡ true)
              × (both (same_number (lab.above (lower j)) (suc j))
              (same_number (lab.below (upper j)) (suc j)) ≡ true)
          parts j l = both_true _ _ (all_below_is (length d.points) point_test p j l)
