-- Loops over what is kept of the rows of tables, one element more.
use Rattle.std.proofs.Common.{◌≡◌, ℕ, zero, suc, ◌+◌, ◌<◌, ◌≤◌, Bool, true, false, ◌||◌, List, []}
use Rattle.std.proofs.Common.{◌∷◌, ◌++◌, length, map, drop, get_or, set, refl, sym, ap, ◌∙◌, arith}
use Rattle.std.proofs.Common.{append_assoc}
use Rattle.std.specs.Prelude.{slice_index_or}
use Rattle.table_layout.specs.Layouts.{Table, Layout}
use Rattle.table_layout.specs.Values.{area_view, areas_view}
use Rattle.table_layout.specs.declared.layouts.AreaOf.{AreaOf as CodeArea}
use Rattle.itf_reader.specs.ClosedRows.{by_table_from}
use Rattle.itf_reader.specs.Findings.{Finding}
use Rattle.itf_reader.specs.Forms.{Row}
use Rattle.itf_reader.specs.Layouts.{wanted_of}
use Rattle.delivery.specs.declared.judging.found.TableFound.{TableFound}
use Rattle.delivery.specs.Judging.{objects}
use Rattle.area_drawings.specs.KeptRows.{Kept}
use Rattle.delivery.specs.KeptRows.{Found, all_found, transfer_so_far}
use Rattle.area_drawings.specs.KeptDrawings.{is_kept_large, has_kept_large}
use Rattle.delivery.specs.KeptViews.{found_of, found_in}

-- ---- numbers of objects
pub objects_step : (transfer : List (List Row)) (i : ℕ)
    → objects (drop i transfer) ≡ length (slice_index_or transfer i [])
    + objects (drop (i + 1) transfer)
objects_step transfer i = by transfer i
    ∙ ap (λ (m : ℕ). length (slice_index_or transfer i []) + objects (drop m transfer))
    (let s : suc i ≡ i + 1 = omega arith in s)
  where
    by : (transfer : List (List Row)) (i : ℕ)
        → objects (drop i transfer) ≡ length (slice_index_or transfer i [])
        + objects (drop (suc i) transfer)
    by [] zero = refl
    by [] (suc i) = refl
    by (rows ∷ transfer) zero = refl
    by (rows ∷ transfer) (suc i) = by transfer i

-- as many lists of rows as tables
tables_from : (n : ℕ) (ts : List Table) (rows : List (ℕ × Row))
    → length (by_table_from n (map wanted_of ts) rows) ≡ length ts
tables_from n [] rows = refl
tables_from n (t ∷ ts) rows = ap suc (tables_from (n + 1) ts rows)

no_more_rows : (transfer : List (List Row)) (n : ℕ) → length transfer ≤ n
    → objects (drop n transfer) ≡ 0
no_more_rows [] zero le = refl
no_more_rows [] (suc n) le = refl
no_more_rows (rows ∷ transfer) zero le = absurd (omega (arith, le))
no_more_rows (rows ∷ transfer) (suc n) le = no_more_rows transfer n (omega (arith, le))

pub all_counted : (l : Layout) (rows : List (ℕ × Row)) (n : ℕ) → length l.tables ≤ n
    → objects (drop n (transfer_so_far l rows)) ≡ 0
all_counted l rows n le =
    let e = tables_from 0 l.tables rows in
    no_more_rows (transfer_so_far l rows) n (omega (arith, le, e))

-- ---- areas
pub large_step : (ks : List Kept) (rows : List (List Row)) (i : ℕ) (as_ : List CodeArea)
    (a : CodeArea)
    → i < length as_ → a ≡ get_or as_ i a
    → has_kept_large ks rows (drop i (areas_view as_))
    ≡ (is_kept_large ks rows (area_view a) || has_kept_large ks rows
    (drop (i + 1) (areas_view as_)))
large_step ks rows i as_ a lt e = by i as_ a lt e
    ∙ ap (λ (m : ℕ). is_kept_large ks rows (area_view a) || has_kept_large ks rows
    (drop m (areas_view as_))) (let s : suc i ≡ i + 1 = omega arith in s)
  where
    by : (i : ℕ) (as_ : List CodeArea) (a : CodeArea) → i < length as_ → a ≡ get_or as_ i a
        → has_kept_large ks rows (drop i (areas_view as_))
        ≡ (is_kept_large ks rows (area_view a) || has_kept_large ks rows
        (drop (suc i) (areas_view as_)))
    by i [] a lt e = absurd (omega (arith, lt))
    by zero (b ∷ as_) a lt e =
        ap (λ (x : CodeArea). is_kept_large ks rows (area_view x) || has_kept_large ks rows
        (areas_view as_)) (sym e)
    by (suc i) (b ∷ as_) a lt e = by i as_ a (omega (arith, lt)) e

pub large_found : (b : Bool) (o c : Bool) → b ≡ true → c ≡ (b || o) → c ≡ true
large_found true o c e h = h
large_found false o c e h = absurd (cc)

pub large_not : (b : Bool) (o c : Bool) → b ≡ false → c ≡ (b || o) → o ≡ c
large_not true o c e h = absurd (cc)
large_not false o c e h = sym h

-- ---- findings that are moved out
set_length : {X : Type 0} (xs : List X) (i : ℕ) (x : X) → length (set xs i x) ≡ length xs
set_length [] i x = refl
set_length (y ∷ xs) zero x = refl
set_length (y ∷ xs) (suc i) x = ap suc (set_length xs i x)

pub still_counted : {X : Type 0} (xs : List X) (i n : ℕ) (x : X) → length xs ≡ n
    → length (set xs i x) ≡ n
still_counted xs i n x e = set_length xs i x ∙ e

rest_set : (tables : List TableFound) (i : ℕ) (new : TableFound)
    → drop (suc i) (found_in (set tables i new)) ≡ drop (suc i) (found_in tables)
rest_set [] i new = refl
rest_set (y ∷ tables) zero new = refl
rest_set (y ∷ tables) (suc i) new = rest_set tables i new

first_of_rest : (tables : List TableFound) (i : ℕ) (d : TableFound) → i < length tables
    → drop i (found_in tables) ≡ found_of (get_or tables i d) ∷ drop (suc i) (found_in tables)
first_of_rest [] i d lt = absurd (omega (arith, lt))
first_of_rest (y ∷ tables) zero d lt = refl
first_of_rest (y ∷ tables) (suc i) d lt = first_of_rest tables i d (omega (arith, lt))

abbrev tail_of : List Found → List Found
tail_of [] = []
tail_of (k ∷ ks) = ks

pub record Gathered (now next old : List TableFound) (i : ℕ) (all : List Finding) : Type 0 where
  pub rest : drop (i + 1) (found_in next) ≡ drop (i + 1) (found_in old)
  pub found : all ++ all_found (drop (i + 1) (found_in old)) ≡ all_found (found_in old)

pub gathered_step : (now old : List TableFound) (i : ℕ) (d new : TableFound)
    (before after : List Finding) → i < length now
    → drop i (found_in now) ≡ drop i (found_in old)
    → before ++ all_found (drop i (found_in old)) ≡ all_found (found_in old)
    → after ≡ before ++ (found_of (get_or now i d)).found
    → Gathered now (set now i new) old i after
gathered_step now old i d new before after lt r f a =
    let s : suc i ≡ i + 1 = omega arith in
    let own = (found_of (get_or now i d)).found in
    let first = first_of_rest now i d lt in
    let later : drop (suc i) (found_in now) ≡ drop (suc i) (found_in old) =
    ap tail_of (sym first ∙ r) ∙ tails old i in
    record {
      rest =
          ap (λ (m : ℕ). drop m (found_in (set now i new))) (sym s)
          ∙ rest_set now i new
          ∙ later
          ∙ ap (λ (m : ℕ). drop m (found_in old)) s;
      found =
          ap (λ (m : ℕ). after ++ all_found (drop m (found_in old))) (sym s)
          ∙ ap (λ (fs : List Finding). fs ++ all_found (drop (suc i) (found_in old))) a
          ∙ append_assoc before own (all_found (drop (suc i) (found_in old)))
          ∙ ap (λ (ks : List Found). before ++ (own ++ all_found ks)) (sym later)
          ∙ ap (λ (ks : List Found). before ++ all_found ks) (sym first ∙ r)
          ∙ f;
    }
  where
    tails : (old : List TableFound) (i : ℕ)
        → tail_of (drop i (found_in old)) ≡ drop (suc i) (found_in old)
    tails [] zero = refl
    tails [] (suc i) = refl
    tails (y ∷ old) zero = refl
    tails (y ∷ old) (suc i) = tails old i
