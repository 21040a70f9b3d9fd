-- What is gathered of the pairs of all rules.
use Rattle.std.proofs.Common.{◌≡◌, ℕ, zero, suc, ◌+◌, Bool, true, false, ◌&&◌, List}
use Rattle.std.proofs.Common.{[], ◌∷◌, length, map, Option, Some, None, refl, sym, ap, ◌∙◌}
use Rattle.std.proofs.Common.{subst, arith, true≢false}
use Rattle.std.specs.Prelude.{◌==◌, if◌then◌else◌, slice_get, slice_index_or}
use Rattle.std.specs.List.{All, AllZip, flat_map, position_from}
use Rattle.std.proofs.lemmas.Bool.{eqb-true}
use Rattle.std.proofs.lemmas.List.Elements.{All-head, All-tail}
use Rattle.area_drawings.specs.Drawings.{area_tolerance}
use Rattle.area_links.specs.Pairs.{pairs_in, pairs_of, pairs_with}
use Rattle.area_links.specs.Rules.{Rule}
use Rattle.area_links.specs.Views.{rules_view}
use Rattle.area_links.specs.declared.kinds.LinkPair.{LinkPair}
use Rattle.ili_grammar.specs.Syntax.{Codes}
use Rattle.itf_reader.specs.Forms.{Row}
use Rattle.plane.specs.Rule.Plans.{Plan}
use Rattle.table_layout.specs.Layouts.{AreaOf, Layout, Table}
use Rattle.reports.specs.Kinds.{answer_kind, are_fine, is_fine}
use Rattle.reports.specs.declared.lines.AreaAnswer.{AreaAnswer}
use Rattle.delivery.specs.AskedLinks.{AreAsked, AreTestedAnswers, IsAmong}
use Rattle.delivery.specs.AskedLinks.{IsAsked, are_alike, asked_pairs, count_at, count_in}
use Rattle.delivery.specs.AskedLinks.{lines_at, lines_in, place_alike, rule_count, rule_lines}
use Rattle.delivery.specs.AskedLinks.{rule_misplaced, rules_count}
use Rattle.delivery.specs.Links.{AreLinesOf, AreMisplaced, AreTested, pair_count}
use Rattle.delivery.specs.LinkRows.{IsGoodRule}
use Rattle.delivery.specs.declared.links.asked.AskedArea.{AskedArea}

both : (a b : Bool) → (a && b) ≡ true → (a ≡ true) × (b ≡ true)
both true b e = (refl, e)
both false b e = absurd (true≢false (sym e))

-- ---- rules that ask the same
-- the line of a rule says nothing of its pairs
abbrev made : ℕ → ℕ → ℕ → ℕ → Rule
made t p r k = record { line = 0; table = t; point = p; reference = r; area = k }

without_line : (codes : Codes) (t : Option Table) (a : Rule) (rows : List Row)
    (m : Option Table) (column : ℕ) (mains : List Row)
    → pairs_with codes t a rows m column mains
    ≡ pairs_with codes t (made a.table a.point a.reference a.area) rows m column mains
without_line codes None a rows m column mains = refl
without_line codes (Some t) a rows None column mains = refl
without_line codes (Some t) a rows (Some m) column mains = refl

by_area : (l : Layout) (rows : List (List Row)) (a : Rule) (o : Option AreaOf)
    → pairs_in l rows a o ≡ pairs_in l rows (made a.table a.point a.reference a.area) o
by_area l rows a None = refl
by_area l rows a (Some x) =
    without_line l.codes (slice_get l.tables a.table) a (slice_index_or rows a.table [])
    (slice_get l.tables x.main) x.column (slice_index_or rows x.main [])

-- the pairs of two rules that ask the same are the same
alike_pairs : (l : Layout) (rows : List (List Row)) (a b : Rule) → are_alike a b ≡ true
    → pairs_of l rows a ≡ pairs_of l rows b
alike_pairs l rows a b e =
    let x = both (((a.table == b.table) && (a.point == b.point)) && (a.reference == b.reference))
    (a.area == b.area) e in
    let y = both ((a.table == b.table) && (a.point == b.point)) (a.reference == b.reference) x.0 in
    let z = both (a.table == b.table) (a.point == b.point) y.0 in
    by_area l rows a (slice_get l.areas a.area)
    ∙ (same a.table b.table a.point b.point a.reference b.reference a.area b.area
    (eqb-true a.table b.table z.0) (eqb-true a.point b.point z.1)
    (eqb-true a.reference b.reference y.1) (eqb-true a.area b.area x.1)
    ∙ sym (by_area l rows b (slice_get l.areas b.area)))
  where
    same : (t u p q r s k m : ℕ) → t ≡ u → p ≡ q → r ≡ s → k ≡ m
        → pairs_of l rows (made t p r k) ≡ pairs_of l rows (made u q s m)
    same t u p q r s k m e f g h =
        ap (λ (x : ℕ). pairs_of l rows (made x p r k)) e
        ∙ (ap (λ (x : ℕ). pairs_of l rows (made u x r k)) f
        ∙ (ap (λ (x : ℕ). pairs_of l rows (made u q x k)) g
        ∙ ap (λ (x : ℕ). pairs_of l rows (made u q s x)) h))

-- the rule at the place that was found
found_at : (rules : List Rule) (r : Rule) (n i : ℕ)
    → position_from (λ q. are_alike q r) n rules ≡ Some i
    → (q : Rule) × (j : ℕ) × (i ≡ n + j) × (slice_get rules j ≡ Some q) × (are_alike q r ≡ true)
found_at [] r n i e = absurd (cc)
found_at (q ∷ rules) r n i e = by (are_alike q r) refl (found_at rules r (n + 1) i) e
  where
    by : (b : Bool) → are_alike q r ≡ b
        → (position_from (λ x. are_alike x r) (n + 1) rules ≡ Some i
        → (x : Rule) × (j : ℕ) × (i ≡ (n + 1) + j) × (slice_get rules j ≡ Some x)
        × (are_alike x r ≡ true))
        → (if b then Some n else position_from (λ x. are_alike x r) (n + 1) rules) ≡ Some i
        → (x : Rule) × (j : ℕ) × (i ≡ n + j) × (slice_get (q ∷ rules) j ≡ Some x)
        × (are_alike x r ≡ true)
    by true h again e = (q, 0, (let z : n ≡ i = cc in omega (arith, z)), refl, h)
    by false h again e =
        let m = again e in
        (m.0, suc m.1, (let z = m.2 in omega (arith, z)), m.3, m.4)

-- ---- places of lists
there : {X Y : Type 0} (xs : List X) (ys : List Y) (k : ℕ) (x : X) → length ys ≡ length xs
    → slice_get xs k ≡ Some x → (y : Y) × (slice_get ys k ≡ Some y)
there [] ys k x n e = absurd (cc)
there (z ∷ xs) [] k x n e = absurd (omega (arith, n))
there (z ∷ xs) (y ∷ ys) zero x n e = (y, refl)
there (z ∷ xs) (y ∷ ys) (suc k) x n e = there xs ys k x (omega (arith, n)) e

mapped_at : {X Y : Type 0} (f : X → List Y) (xs : List X) (i : ℕ) (x : X)
    → slice_get xs i ≡ Some x → slice_index_or (map f xs) i [] ≡ f x
mapped_at f [] i x e = absurd (cc)
mapped_at f (y ∷ xs) zero x e = ap f (same y x e)
  where
    same : {X : Type 0} (a b : X) → Some a ≡ Some b → a ≡ b
    same a b e = cc
mapped_at f (y ∷ xs) (suc i) x e = mapped_at f xs i x e

zip_at : {X Y : Type 0} (R : List X → List Y → Type 0) (xss : List (List X)) (yss : List (List Y))
    (i : ℕ) (xs : List X) → AllZip R xss yss → slice_get xss i ≡ Some xs
    → R xs (slice_index_or yss i [])
zip_at R [] yss i xs h e = absurd (cc)
zip_at R (x ∷ xss) [] i xs h e = absurd h
zip_at R (x ∷ xss) (y ∷ yss) zero xs h e = subst (λ z. R z y) (same x xs e) h.0
  where
    same : {X : Type 0} (a b : X) → Some a ≡ Some b → a ≡ b
    same a b e = cc
zip_at R (x ∷ xss) (y ∷ yss) (suc i) xs h e = zip_at R xss yss i xs h.1 e

get_mapped : {X Y : Type 0} (f : X → Y) (xs : List X) (i : ℕ) (x : X)
    → slice_get xs i ≡ Some x → slice_get (map f xs) i ≡ Some (f x)
get_mapped f [] i x e = absurd (cc)
get_mapped f (y ∷ xs) zero x e = ap (λ z. Some (f z)) (same y x e)
  where
    same : {X : Type 0} (a b : X) → Some a ≡ Some b → a ≡ b
    same a b e = cc
get_mapped f (y ∷ xs) (suc i) x e = get_mapped f xs i x e

-- answers that are all fine
fine_at : (xs : List AreaAnswer) (k : ℕ) (x : AreaAnswer) → are_fine xs ≡ true
    → slice_get xs k ≡ Some x → is_fine (answer_kind x) ≡ true
fine_at [] k x f e = absurd (cc)
fine_at (y ∷ xs) zero x f e =
    subst (λ (z : AreaAnswer). is_fine (answer_kind z) ≡ true) (same y x e)
    (both (is_fine (answer_kind y)) (are_fine xs) f).0
  where
    same : (a b : AreaAnswer) → Some a ≡ Some b → a ≡ b
    same a b e = cc
fine_at (y ∷ xs) (suc k) x f e =
    fine_at xs k x (both (is_fine (answer_kind y)) (are_fine xs) f).1 e

-- ---- one rule
module _ (l : Layout) (rows : List (List Row)) (rules : List Rule) (asked : List AskedArea)
    (h : AreAsked l rows rules asked) where
  -- what is asked of the area of a rule, and the place of one that asks the same
  record IsFoundRule (r : Rule) : Type 0 where
    q : AskedArea
    i : ℕ
    at : slice_get asked r.area ≡ Some q
    place : place_alike (rules_view q.rules.items) r ≡ Some i
    pairs : slice_get (asked_pairs q) i ≡ Some (pairs_of l rows r)

  found_rule : (r : Rule) → IsAmong rules r → IsGoodRule l r → IsFoundRule r
  found_rule r m g =
      let q = there l.areas asked r.area g.a h.count g.area_is in
      let is : IsAsked l rows rules r.area q.0 = h.each r.area q.0 q.1 in
      let p = is.rules_are.whole r m refl in
      let f = found_at (rules_view q.0.rules.items) r 0 p.0 p.1 in
      record {
        q = q.0;
        i = p.0;
        at = q.1;
        place = p.1;
        pairs =
            ap (λ (n : ℕ). slice_get (asked_pairs q.0) n)
            (let e : p.0 ≡ f.1 = (let z = f.2 in omega (arith, z)) in e)
            ∙ (ap (λ (pss : List (List LinkPair)). slice_get pss f.1) is.pairs_are
            ∙ (get_mapped (pairs_of l rows) (rules_view q.0.rules.items) f.1 f.0 f.3
            ∙ ap Some (alike_pairs l rows f.0 r f.4)));
      }

  index_of : {X : Type 0} (xss : List (List X)) (i : ℕ) (xs : List X)
      → slice_get xss i ≡ Some xs → slice_index_or xss i [] ≡ xs
  index_of [] i xs e = absurd (cc)
  index_of (y ∷ xss) zero xs e = cc
  index_of (y ∷ xss) (suc i) xs e = index_of xss i xs e

  rule_counted : (r : Rule) → IsAmong rules r → IsGoodRule l r
      → rule_count asked r ≡ length (pairs_of l rows r)
  rule_counted r m g =
      let f = found_rule r m g in
      ap (λ o. count_in o r) f.at
      ∙ (ap (λ o. count_at o (asked_pairs f.q)) f.place
      ∙ ap (λ (ps : List LinkPair). length ps)
      (index_of (asked_pairs f.q) f.i (pairs_of l rows r) f.pairs))

  pub counted : (rs : List Rule)
      → ((k : ℕ) (r : Rule) → slice_get rs k ≡ Some r → IsAmong rules r)
      → All (IsGoodRule l) rs → rules_count asked rs ≡ pair_count l rows rs
  counted [] m g = refl
  counted (r ∷ rs) m g =
      ap (λ (n : ℕ). n + rules_count asked rs)
      (rule_counted r (m 0 r refl) (All-head (IsGoodRule l) r rs g))
      ∙ ap (λ (n : ℕ). length (pairs_of l rows r) + n)
      (counted rs (λ k. m (suc k)) (All-tail (IsGoodRule l) r rs g))

  module _ (ds : List Plan) (xs : List AreaAnswer) (results : List (List (List ℕ)))
      (t : AreTestedAnswers l ds asked xs results) (fine : are_fine xs ≡ true)
      (drawn : length ds ≡ length l.areas) (answered : length xs ≡ length l.areas) where
    rule_tested : (r : Rule) → IsAmong rules r → IsGoodRule l r
        → AreLinesOf l rows ds r (rule_lines asked results r)
    rule_tested r m g =
        let f = found_rule r m g in
        let d = there l.areas ds r.area g.a drawn g.area_is in
        let x = there l.areas xs r.area g.a answered g.area_is in
        let some = t.each r.area g.a d.0 f.q x.0 g.area_is d.1 f.at x.1
        (fine_at xs r.area x.0 fine x.1) in
        let lines : rule_lines asked results r
        ≡ slice_index_or (slice_index_or results r.area []) f.i [] =
        ap (λ o. lines_in o r (slice_index_or results r.area [])) f.at
        ∙ ap (λ o. lines_at o (slice_index_or results r.area [])) f.place in (
          g.a,
          d.0,
          g.area_is,
          d.1,
          subst (AreMisplaced (area_tolerance l g.a) d.0 (pairs_of l rows r)) (sym lines)
              (zip_at (AreMisplaced (area_tolerance l g.a) d.0) (asked_pairs f.q)
              (slice_index_or results r.area []) f.i (pairs_of l rows r) some f.pairs),
        )

    pub tested : (rs : List Rule)
        → ((k : ℕ) (r : Rule) → slice_get rs k ≡ Some r → IsAmong rules r)
        → All (IsGoodRule l) rs
        → AreTested l rows ds rs (flat_map (rule_misplaced asked results) rs)
    tested [] m g = refl
    tested (r ∷ rs) m g = (
      rule_lines asked results r,
      flat_map (rule_misplaced asked results) rs,
      rule_tested r (m 0 r refl) (All-head (IsGoodRule l) r rs g),
      tested rs (λ k. m (suc k)) (All-tail (IsGoodRule l) r rs g),
      refl,
    )
