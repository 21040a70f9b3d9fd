-- The two edges beside each gap: the gaps after moves are those between the neighbours of the live
-- list.
use Rattle.std.proofs.Common.{◌≡◌, ℕ, zero, suc, ◌+◌, ◌<◌, ◌≤◌, Option, Some, None, List, [], ◌∷◌}
use Rattle.std.proofs.Common.{◌++◌, length, map, take, drop, get_or, refl, arith, ap, sym, ◌∙◌}
use Rattle.std.proofs.lemmas.List.{map-append, take-map, drop-map, length-map, length-take-le}
use Rattle.std.proofs.lemmas.List.{length-drop}
use Rattle.plane.specs.Runs.Steps.{after}
use Rattle.plane.specs.Runs.Moves.{Move, step_of, live_from, Fit}
use Rattle.plane.specs.Runs.Gaps.{Gap, edge_at, edge_before, first_or, last_or, gaps_between}
use Rattle.plane.specs.Runs.Gaps.{opened, next_gaps, gaps_from, no_gap, open_gaps}
use Rattle.plane.proofs.Runs.Positions.{before-step_at}

abbrev pub Sides : Type 0
Sides = Option ℕ × Option ℕ

abbrev pub sides : Gap → Sides
sides g = (g.lower, g.upper)

-- the pairs of neighbours from l over the list to u
abbrev pub beside : Option ℕ → List ℕ → Option ℕ → List Sides
beside l [] u = (l, u) ∷ []
beside l (e ∷ es) u = (l, Some e) ∷ beside (Some e) es u

pub sides_between : (k : ℕ) (l : Option ℕ) (es : List ℕ) (u : Option ℕ)
    → map sides (gaps_between k l es u) ≡ beside l es u
sides_between k l [] u = refl
sides_between k l (e ∷ es) u =
    ap (λ (xs : List Sides). (l, Some e) ∷ xs) (sides_between k (Some e) es u)

-- ---- a list cut in three
-- the pairs whose upper edge is in the list, and those whose lower edge is
abbrev pub upto : Option ℕ → List ℕ → List Sides
upto l [] = []
upto l (e ∷ es) = (l, Some e) ∷ upto (Some e) es

abbrev pub onward : List ℕ → Option ℕ → List Sides
onward [] u = []
onward (e ∷ es) u = (Some e, first_or u es) ∷ onward es u

beside_first : (l : Option ℕ) (es : List ℕ) (u : Option ℕ)
    → beside l es u ≡ (l, first_or u es) ∷ onward es u
beside_first l [] u = refl
beside_first l (e ∷ es) u = ap (λ (xs : List Sides). (l, Some e) ∷ xs) (beside_first (Some e) es u)

beside_two : (l : Option ℕ) (xs ys : List ℕ) (u : Option ℕ)
    → beside l (xs ++ ys) u ≡ beside l xs (first_or u ys) ++ onward ys u
beside_two l [] ys u = beside_first l ys u
beside_two l (x ∷ xs) ys u =
    ap (λ (zs : List Sides). (l, Some x) ∷ zs) (beside_two (Some x) xs ys u)

pub beside_three : (l : Option ℕ) (xs ys zs : List ℕ) (u : Option ℕ)
    → beside l (xs ++ (ys ++ zs)) u ≡ upto l xs
    ++ (beside (last_or l xs) ys (first_or u zs) ++ onward zs u)
beside_three l [] ys zs u = beside_two l ys zs u
beside_three l (x ∷ xs) ys zs u =
    ap (λ (ws : List Sides). (l, Some x) ∷ ws) (beside_three (Some x) xs ys zs u)

beside_length : (l : Option ℕ) (xs : List ℕ) (u : Option ℕ)
    → length (beside l xs u) ≡ suc (length xs)
beside_length l [] u = refl
beside_length l (x ∷ xs) u = ap (λ (n : ℕ). suc n) (beside_length (Some x) xs u)

upto_length : (l : Option ℕ) (xs : List ℕ) → length (upto l xs) ≡ length xs
upto_length l [] = refl
upto_length l (x ∷ xs) = ap (λ (n : ℕ). suc n) (upto_length (Some x) xs)

-- the front and the back of three lists put together
take_three : {X : Type 0} (xs ys : List X) (p : ℕ) → p ≡ length xs → take p (xs ++ ys) ≡ xs
take_three [] ys zero e = refl
take_three [] ys (suc p) e = absurd (omega (arith, e))
take_three (x ∷ xs) ys zero e = absurd (omega (arith, e))
take_three (x ∷ xs) ys (suc p) e =
    ap (λ (zs : List _). x ∷ zs) (take_three xs ys p (omega (arith, e)))

drop_two : {X : Type 0} (xs ys : List X) (p : ℕ) → p ≡ length xs → drop p (xs ++ ys) ≡ ys
drop_two [] ys zero e = refl
drop_two [] ys (suc p) e = absurd (omega (arith, e))
drop_two (x ∷ xs) ys zero e = absurd (omega (arith, e))
drop_two (x ∷ xs) ys (suc p) e = drop_two xs ys p (omega (arith, e))

drop_three : {X : Type 0} (xs ys zs : List X) (p : ℕ) → p ≡ length xs + length ys
    → drop p (xs ++ (ys ++ zs)) ≡ zs
drop_three [] ys zs p e = drop_two ys zs p (omega (arith, e))
drop_three (x ∷ xs) ys zs zero e = absurd (omega (arith, e))
drop_three (x ∷ xs) ys zs (suc p) e = drop_three xs ys zs p (omega (arith, e))

-- ---- one move
module _ (now : List ℕ) (v : Move) (fits : (v.position + v.ending) ≤ length now) where
  below_length : v.position ≡ length (step_of now v).below
  below_length = sym (length-take-le v.position now (omega (arith, fits)))

  ending_length : v.ending ≡ length (step_of now v).ending
  ending_length =
      sym (length-take-le v.ending (drop v.position now) (let n = length-drop v.position now in
      omega (arith, fits, n)))

  -- the gaps before the move, in three parts
  parts : (gs : List Sides) → gs ≡ beside None now None
      → gs ≡ upto None (step_of now v).below
      ++ (beside (last_or None (step_of now v).below) (step_of now v).ending
      (first_or None (step_of now v).above) ++ onward (step_of now v).above None)
  parts gs e =
      let s = step_of now v in
      e ∙ ap (λ (xs : List ℕ). beside None xs None)
      (sym (before-step_at v.at now v.position v.ending v.starting))
      ∙ beside_three None s.below s.ending s.above None

  pub next_beside : (k : ℕ) (gaps : List Gap) → map sides gaps ≡ beside None now None
      → map sides (next_gaps k now gaps v) ≡ beside None (after (step_of now v)) None
  next_beside k gaps e =
      let s = step_of now v in
      let l = last_or None s.below in
      let u = first_or None s.above in
      let low = upto None s.below in
      let mid = beside l s.ending u in
      let top = onward s.above None in
      let all = parts (map sides gaps) e in
      let n = upto_length None s.below in
      let k_mid = beside_length l s.ending u in
      let front : map sides (take v.position gaps) ≡ low = sym (take-map sides v.position gaps)
      ∙ ap (λ (xs : List Sides). take v.position xs) all
      ∙ take_three low (mid ++ top) v.position (below_length ∙ sym n) in
      let rest : map sides (drop (suc (v.position + v.ending)) gaps) ≡ top =
      sym (drop-map sides (suc (v.position + v.ending)) gaps)
      ∙ ap (λ (xs : List Sides). drop (suc (v.position + v.ending)) xs) all
      ∙ drop_three low mid top (suc (v.position + v.ending)) (let a = below_length in
      let b = ending_length in omega (arith, a, b, n, k_mid)) in
      map-append sides (take v.position gaps)
      (opened k s ++ drop (suc (v.position + v.ending)) gaps)
      ∙ ap (λ (xs : List Sides). xs ++ map sides
      (opened k s ++ drop (suc (v.position + v.ending)) gaps)) front
      ∙ ap (λ (xs : List Sides). low ++ xs)
      (map-append sides (opened k s) (drop (suc (v.position + v.ending)) gaps)
      ∙ ap (λ (xs : List Sides). xs ++ map sides (drop (suc (v.position + v.ending)) gaps))
      (sides_between k l s.starting u)
      ∙ ap (λ (xs : List Sides). beside l s.starting u ++ xs) rest)
      ∙ sym (beside_three None s.below s.starting s.above None)

-- ---- moves
pub gaps_beside : (k : ℕ) (now : List ℕ) (gaps : List Gap) (vs : List Move) → Fit now vs
    → map sides gaps ≡ beside None now None
    → map sides (gaps_from k now gaps vs) ≡ beside None (live_from now vs) None
gaps_beside k now gaps [] h e = e
gaps_beside k now gaps (v ∷ vs) h e =
    gaps_beside (suc k) (after (step_of now v)) (next_gaps k now gaps v) vs h.1
    (next_beside now v h.0 k gaps e)

pub open_beside : (vs : List Move) → Fit [] vs
    → map sides (open_gaps vs) ≡ beside None (live_from [] vs) None
open_beside vs h = gaps_beside 0 [] (no_gap ∷ []) vs h refl

pub open_size : (vs : List Move) → Fit [] vs
    → length (open_gaps vs) ≡ suc (length (live_from [] vs))
open_size vs h = sym (length-map (open_gaps vs) sides)
    ∙ ap (λ (xs : List Sides). length xs) (open_beside vs h)
    ∙ beside_length None (live_from [] vs) None

-- by index
side_at : (l : Option ℕ) (xs : List ℕ) (i : ℕ) (d : Sides) → i ≤ length xs
    → (i ≡ 0 → (get_or (beside l xs None) i d).0 ≡ l)
    × ((j : ℕ) → i ≡ suc j → (get_or (beside l xs None) i d).0 ≡ edge_at xs j)
    × ((get_or (beside l xs None) i d).1 ≡ edge_at xs i)
side_at l [] zero d h = ((λ q. refl), (λ j q. absurd (omega (arith, q))), refl)
side_at l [] (suc i) d h = absurd (omega (arith, h))
side_at l (x ∷ xs) zero d h = ((λ q. refl), (λ j q. absurd (omega (arith, q))), refl)
side_at l (x ∷ xs) (suc i) d h = (
  (λ q. absurd (omega (arith, q))),
  lower i (side_at (Some x) xs i d (omega (arith, h))),
  (side_at (Some x) xs i d (omega (arith, h))).2,
)
  where
    lower : (i : ℕ)
        → (i ≡ 0 → (get_or (beside (Some x) xs None) i d).0 ≡ Some x)
        × ((j : ℕ) → i ≡ suc j → (get_or (beside (Some x) xs None) i d).0 ≡ edge_at xs j)
        × ((get_or (beside (Some x) xs None) i d).1 ≡ edge_at xs i)
        → (j : ℕ) → suc i ≡ suc j → (get_or (beside (Some x) xs None) i d).0 ≡ edge_at (x ∷ xs) j
    lower zero f zero q = f.0 refl
    lower zero f (suc j) q = absurd (omega (arith, q))
    lower (suc i) f zero q = absurd (omega (arith, q))
    lower (suc i) f (suc j) q = f.1 j (omega (arith, q))

before_at : (xs : List ℕ) (i : ℕ) (d : Sides) → i ≤ length xs
    → (get_or (beside None xs None) i d).0 ≡ edge_before xs i
before_at xs zero d h = (side_at None xs zero d h).0 refl
before_at xs (suc i) d h = (side_at None xs (suc i) d h).1 i refl

gap_at : (gaps : List Gap) (i : ℕ) → i < length gaps
    → get_or (map sides gaps) i (sides no_gap) ≡ sides (get_or gaps i no_gap)
gap_at [] i l = absurd (omega (arith, l))
gap_at (g ∷ gaps) zero l = refl
gap_at (g ∷ gaps) (suc i) l = gap_at gaps i (omega (arith, l))

pub open_at : (vs : List Move) (i : ℕ) → Fit [] vs → i ≤ length (live_from [] vs)
    → ((get_or (open_gaps vs) i no_gap).lower ≡ edge_before (live_from [] vs) i)
    × ((get_or (open_gaps vs) i no_gap).upper ≡ edge_at (live_from [] vs) i)
open_at vs i h l =
    let n = open_size vs h in
    let e = sym (gap_at (open_gaps vs) i (omega (arith, l, n)))
    ∙ ap (λ (xs : List Sides). get_or xs i (sides no_gap)) (open_beside vs h) in (
      ap (λ (x : Sides). x.0) e ∙ before_at (live_from [] vs) i (sides no_gap) l,
      ap (λ (x : Sides). x.1) e ∙ (side_at None (live_from [] vs) i (sides no_gap) l).2,
    )
