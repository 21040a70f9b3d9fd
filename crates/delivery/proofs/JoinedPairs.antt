-- Points and names that come with the lines of their rows are given to these again.
use Rattle.std.proofs.Common.{◌≡◌, ℕ, zero, suc, ◌+◌, ◌<◌, ◌≤◌, Bool, true, false, nat_eq, List}
use Rattle.std.proofs.Common.{[], ◌∷◌, ◌++◌, append_assoc, get_or, length, drop, map, Option, Some}
use Rattle.std.proofs.Common.{None, refl, sym, ap, ◌∙◌, subst, arith, if◌then◌else◌}
use Rattle.std.specs.Prelude.{is_some, slice_index_or}
use Rattle.std.specs.List.{flat_map}
use Rattle.std.specs.List.Sorted.{IsStrictlyIncreasing}
use Rattle.std.specs.Option.{option_map, option_to_list}
use Rattle.std.proofs.lemmas.Bool.Decides.{nat_tests}
use Rattle.std.proofs.lemmas.List.Elements.{All-head, All-tail}
use Rattle.itf_reader.specs.Forms.{Row}
use Rattle.itf_reader.specs.RowLines.{LinesRise, table_lines, vertex_lines}
use Rattle.itf_reader.proofs.Among.{Among, Climbs, Rises, among-append, among_climbs}
use Rattle.itf_reader.proofs.Among.{increase_climbs, keep, none, nothing}
use Rattle.ident_refs.specs.KeptRows.{row_line}
use Rattle.ident_refs.specs.NamedRows.{Named}
use Rattle.plane.specs.declared.kinds.Placed.{Placed}
use Rattle.plane.specs.declared.kinds.Point.{Point}
use Rattle.area_links.specs.Pairs.{after, number_if, pair_by}
use Rattle.area_links.specs.declared.kinds.LinkPair.{LinkPair}
use Rattle.delivery.specs.LinkJoins.{RiseFrom, first_in, joined, left_after, named_line, numbered}
use Rattle.delivery.specs.LinkJoins.{object_at, placed_line, point_in, points_after}

-- ---- the lines of rows rise
lines_among : (rows : List Row) → Among (map row_line rows) (table_lines rows)
lines_among [] = none
lines_among (r ∷ rows) =
    keep r.line (map row_line rows) (flat_map vertex_lines r.strokes ++ table_lines rows)
    (among-append [] (flat_map vertex_lines r.strokes) (map row_line rows) (table_lines rows)
    (nothing (flat_map vertex_lines r.strokes)) (lines_among rows))

rise_above : (low : ℕ) (ns : List ℕ) → Rises low ns → RiseFrom (low + 1) ns
rise_above low [] h = tt
rise_above low (n ∷ ns) h = (let a = h.0 in omega (arith, a), rise_above n ns h.1)

rise_from : (ns : List ℕ) → Climbs ns → RiseFrom 0 ns
rise_from [] h = tt
rise_from (n ∷ ns) h = (omega arith, rise_above n ns h)

rise_lower : (m n : ℕ) (ns : List ℕ) → m ≤ n → RiseFrom n ns → RiseFrom m ns
rise_lower m n [] h k = tt
rise_lower m n (a ∷ ns) h k = (let b = k.0 in omega (arith, b, h), k.1)

-- behind a line comes none that is not above its bound
pub rise_next : (n m i : ℕ) (lines : List ℕ) → i < length lines → m ≤ n + 1
    → RiseFrom n (drop i lines) → RiseFrom m (drop (i + 1) lines)
rise_next n m i lines lt le h =
    let s : suc i ≡ i + 1 = omega arith in
    subst (λ (j : ℕ). RiseFrom m (drop j lines)) s (by i lines lt h)
  where
    by : (i : ℕ) (lines : List ℕ) → i < length lines → RiseFrom n (drop i lines)
        → RiseFrom m (drop (suc i) lines)
    by i [] lt h = absurd (omega (arith, lt))
    by zero (l ∷ lines) lt h =
        rise_lower m (l + 1) lines (let a = h.0 in omega (arith, a, le)) h.1
    by (suc i) (l ∷ lines) lt h = by i lines (omega (arith, lt)) h

-- the numbers so far, with that of the next row
pub numbers_next : (old new all : List (Option ℕ)) (n m i : ℕ) (lines : List ℕ)
    (points left : List Placed) (o : Option Point) → i < length lines
    → old ++ numbered n (drop i lines) points ≡ all → o ≡ point_in (get_or lines i 0) points
    → left ≡ points_after (get_or lines i 0) points → new ≡ old ++ number_if n o ∷ []
    → m ≡ after n o → new ++ numbered m (drop (i + 1) lines) left ≡ all
numbers_next old new all n m i lines points left o lt e p q k a =
    let s : i + 1 ≡ suc i = omega arith in
    ap (λ (xs : List (Option ℕ)). xs ++ numbered m (drop (i + 1) lines) left) k
    ∙ append_assoc old (number_if n o ∷ []) (numbered m (drop (i + 1) lines) left)
    ∙ ap (λ (xs : List (Option ℕ)). old ++ xs)
    (ap (λ (j : ℕ). number_if n o ∷ numbered m (drop j lines) left) s
    ∙ ap (λ (j : ℕ). number_if n o ∷ numbered j (drop (suc i) lines) left) a
    ∙ ap (λ (xs : List Placed). number_if n o ∷ numbered (after n o) (drop (suc i) lines) xs) q
    ∙ ap (λ (x : Option Point). number_if n x ∷ numbered (after n x) (drop (suc i) lines)
    (points_after (get_or lines i 0) points)) p
    ∙ ap (λ (ls : List ℕ). numbered n ls points) (sym (drop_at i lines lt)))
    ∙ e
  where
    drop_at : (i : ℕ) (lines : List ℕ) → i < length lines
        → drop i lines ≡ get_or lines i 0 ∷ drop (suc i) lines
    drop_at i [] lt = absurd (omega (arith, lt))
    drop_at zero (l ∷ lines) lt = refl
    drop_at (suc i) (l ∷ lines) lt = drop_at i lines (omega (arith, lt))

pub some_number : (n : ℕ) (o : Option Point) → is_some o ≡ true
    → (number_if n o ≡ Some n) × (after n o ≡ n + 1)
some_number n None e = absurd (cc)
some_number n (Some p) e = (refl, refl)

pub no_number : (n : ℕ) (o : Option Point) → is_some o ≡ false
    → (number_if n o ≡ None) × (after n o ≡ n)
no_number n None e = (refl, refl)
no_number n (Some p) e = absurd (cc)

climb_at : (transfer : List (List Row)) (n : ℕ) → LinesRise transfer
    → Climbs (table_lines (slice_index_or transfer n []))
climb_at [] n h = tt
climb_at (rows ∷ transfer) zero h =
    increase_climbs (table_lines rows)
    (All-head (λ x. IsStrictlyIncreasing (table_lines x)) rows transfer h)
climb_at (rows ∷ transfer) (suc n) h =
    climb_at transfer n (All-tail (λ x. IsStrictlyIncreasing (table_lines x)) rows transfer h)

pub rows_rise : (transfer : List (List Row)) (n : ℕ) → LinesRise transfer
    → RiseFrom 0 (map row_line (slice_index_or transfer n []))
rows_rise transfer n h =
    let rows = slice_index_or transfer n [] in
    rise_from (map row_line rows)
    (among_climbs (map row_line rows) (table_lines rows) (lines_among rows)
    (climb_at transfer n h))

-- ---- things of rows, at most one of each, with the line of the row
module _ {X : Type 0} (line_of : X → ℕ) (f : Row → Option X)
    (own : (r : Row) (x : X) → f r ≡ Some x → line_of x ≡ r.line) where
  abbrev pub things : List Row → List X
  things rows = flat_map (λ r. option_to_list (f r)) rows

  differ : (m n k : ℕ) → k ≡ n → m < n → nat_eq k m ≡ false
  differ m n k e lt = grind (arith, nat_tests)

  equal : (m k : ℕ) → k ≡ m → nat_eq k m ≡ true
  equal m k e = grind (arith, nat_tests)

  -- none of them is of a line before the rows
  later : (m n : ℕ) (rows : List Row) → RiseFrom n (map row_line rows) → m < n
      → (first_in line_of m (things rows) ≡ None)
      × (left_after line_of m (things rows) ≡ things rows)
  later m n [] h lt = (refl, refl)
  later m n (r ∷ rows) h lt =
      let a = h.0 in
      let before : m < r.line = omega (arith, a, lt) in
      by before (later m (r.line + 1) rows h.1 (omega (arith, before))) (f r) refl
    where
      by : m < r.line
          → (first_in line_of m (things rows) ≡ None)
          × (left_after line_of m (things rows) ≡ things rows)
          → (o : Option X) → f r ≡ o
          → (first_in line_of m (option_to_list o ++ things rows) ≡ None)
          × (left_after line_of m (option_to_list o ++ things rows)
          ≡ option_to_list o ++ things rows)
      by before k None e = k
      by before k (Some x) e =
          let d = differ m r.line (line_of x) (own r x e) before in (
            ap (λ (b : Bool). if b then Some x else None) d,
            ap (λ (b : Bool). if b then things rows else x ∷ things rows) d,
          )

  pub first_is : (n : ℕ) (r : Row) (rows : List Row) → RiseFrom n (map row_line (r ∷ rows))
      → (first_in line_of r.line (things (r ∷ rows)) ≡ f r)
      × (left_after line_of r.line (things (r ∷ rows)) ≡ things rows)
  first_is n r rows h = by (f r) refl
    where
      by : (o : Option X) → f r ≡ o
          → (first_in line_of r.line (option_to_list o ++ things rows) ≡ o)
          × (left_after line_of r.line (option_to_list o ++ things rows) ≡ things rows)
      by None e = later r.line (r.line + 1) rows h.1 (omega arith)
      by (Some x) e =
          let d = equal r.line (line_of x) (own r x e) in (
            ap (λ (b : Bool). if b then Some x else None) d,
            ap (λ (b : Bool). if b then things rows else x ∷ things rows) d,
          )

-- ---- points and names
abbrev pub lined : Row → Point → Placed
lined r p = record { at = p; line = r.line }

abbrev pub naming : Row → Option ℕ → Named
naming r place = record { line = r.line; row = place }

module _ (p : Row → Option Point) where
  abbrev pub row_placed : Row → Option Placed
  row_placed r = option_map (lined r) (p r)

  abbrev pub all_placed : List Row → List Placed
  all_placed rows = flat_map (λ r. option_to_list (row_placed r)) rows

  own_placed : (r : Row) (x : Placed) → row_placed r ≡ Some x → placed_line x ≡ r.line
  own_placed r x e = by (p r) e
    where
      by : (o : Option Point) → option_map (lined r) o ≡ Some x → placed_line x ≡ r.line
      by None e = absurd (cc)
      by (Some q) e = same (lined r q) x e
        where
          same : (a b : Placed) → Some a ≡ Some b → placed_line b ≡ placed_line a
          same a b e = cc

  point_back : (r : Row) → option_map (λ (x : Placed). x.at) (row_placed r) ≡ p r
  point_back r = by (p r)
    where
      by : (o : Option Point) → option_map (λ (x : Placed). x.at) (option_map (lined r) o) ≡ o
      by None = refl
      by (Some q) = refl

  point_is : (n : ℕ) (r : Row) (rows : List Row) → RiseFrom n (map row_line (r ∷ rows))
      → option_map (λ (x : Placed). x.at) (first_in placed_line r.line (all_placed (r ∷ rows)))
      ≡ p r
  point_is n r rows h =
      ap (option_map (λ (x : Placed). x.at))
      (first_is placed_line row_placed own_placed n r rows h).0
      ∙ point_back r

  points_left : (n : ℕ) (r : Row) (rows : List Row) → RiseFrom n (map row_line (r ∷ rows))
      → left_after placed_line r.line (all_placed (r ∷ rows)) ≡ all_placed rows
  points_left n r rows h = (first_is placed_line row_placed own_placed n r rows h).1

  -- the numbers of the rows with a point, counted on from k
  abbrev pub row_numbers : ℕ → List Row → List (Option ℕ)
  row_numbers k [] = []
  row_numbers k (r ∷ rows) = number_if k (p r) ∷ row_numbers (after k (p r)) rows

  pub numbered_rows : (k n : ℕ) (rows : List Row) → RiseFrom n (map row_line rows)
      → numbered k (map row_line rows) (all_placed rows) ≡ row_numbers k rows
  numbered_rows k n [] h = refl
  numbered_rows k n (r ∷ rows) h =
      ap (λ (o : Option Point). number_if k o ∷ numbered (after k o) (map row_line rows)
      (left_after placed_line r.line (all_placed (r ∷ rows)))) (point_is n r rows h)
      ∙ ap (λ (ps : List Placed). number_if k (p r)
      ∷ numbered (after k (p r)) (map row_line rows) ps) (points_left n r rows h)
      ∙ ap (λ (ns : List (Option ℕ)). number_if k (p r) ∷ ns)
      (numbered_rows (after k (p r)) (r.line + 1) rows h.1)

module _ (g : Row → Option (Option ℕ)) where
  abbrev pub row_naming : Row → Option Named
  row_naming r = option_map (naming r) (g r)

  abbrev pub all_namings : List Row → List Named
  all_namings rows = flat_map (λ r. option_to_list (row_naming r)) rows

  own_naming : (r : Row) (x : Named) → row_naming r ≡ Some x → named_line x ≡ r.line
  own_naming r x e = by (g r) e
    where
      by : (o : Option (Option ℕ)) → option_map (naming r) o ≡ Some x → named_line x ≡ r.line
      by None e = absurd (cc)
      by (Some q) e = same (naming r q) x e
        where
          same : (a b : Named) → Some a ≡ Some b → named_line b ≡ named_line a
          same a b e = cc

  place_is : (n : ℕ) (r : Row) (rows : List Row) → RiseFrom n (map row_line (r ∷ rows))
      → option_map (λ (x : Named). x.row) (first_in named_line r.line (all_namings (r ∷ rows)))
      ≡ g r
  place_is n r rows h =
      ap (option_map (λ (x : Named). x.row))
      (first_is named_line row_naming own_naming n r rows h).0
      ∙ by (g r)
    where
      by : (o : Option (Option ℕ)) → option_map (λ (x : Named). x.row) (option_map (naming r) o) ≡ o
      by None = refl
      by (Some q) = refl

  names_left : (n : ℕ) (r : Row) (rows : List Row) → RiseFrom n (map row_line (r ∷ rows))
      → left_after named_line r.line (all_namings (r ∷ rows)) ≡ all_namings rows
  names_left n r rows h = (first_is named_line row_naming own_naming n r rows h).1

-- ---- pairs
module _ (numbers : List (Option ℕ)) (p : Row → Option Point) (g : Row → Option (Option ℕ)) where
  abbrev pub pair_of : Row → Option LinkPair
  pair_of r = pair_by r.line (p r) (option_map (object_at numbers) (g r))

  pub joined_rows : (n : ℕ) (rows : List Row) → RiseFrom n (map row_line rows)
      → joined numbers (map row_line rows) (all_placed p rows) (all_namings g rows)
      ≡ flat_map (λ r. option_to_list (pair_of r)) rows
  joined_rows n [] h = refl
  joined_rows n (r ∷ rows) h =
      let lines = map row_line rows in
      let ps = left_after placed_line r.line (all_placed p (r ∷ rows)) in
      let ns = left_after named_line r.line (all_namings g (r ∷ rows)) in
      ap (λ (o : Option Point). option_to_list (pair_by r.line o
      (option_map (object_at numbers) (option_map (λ (x : Named). x.row)
      (first_in named_line r.line (all_namings g (r ∷ rows)))))) ++ joined numbers lines ps ns)
      (point_is p n r rows h)
      ∙ ap (λ (o : Option (Option ℕ)). option_to_list (pair_by r.line (p r)
      (option_map (object_at numbers) o)) ++ joined numbers lines ps ns) (place_is g n r rows h)
      ∙ ap (λ (xs : List Placed). option_to_list (pair_of r) ++ joined numbers lines xs ns)
      (points_left p n r rows h)
      ∙ ap (λ (xs : List Named). option_to_list (pair_of r)
      ++ joined numbers lines (all_placed p rows) xs) (names_left g n r rows h)
      ∙ ap (λ (ls : List LinkPair). option_to_list (pair_of r) ++ ls)
      (joined_rows (r.line + 1) rows h.1)
