-- The rows of a feed, one row and one table more.
use Rattle.std.proofs.Common.{◌≡◌, ◌≤◌, ◌<◌, ◌+◌, ℕ, zero, suc, List, [], ◌∷◌, ◌++◌, map, length}
use Rattle.std.proofs.Common.{replicate, take, drop, get_or, set, Option, Some, Result, Ok, Err}
use Rattle.std.proofs.Common.{OnOk, refl, ap, sym, subst, ◌∙◌, arith, append_assoc}
use Rattle.std.proofs.lemmas.List.{append-nil, length-append, length-map, map-append, take_more}
use Rattle.std.proofs.lemmas.List.Concat.{flat_map-cons, flat_map-append}
use Rattle.std.specs.Prelude.{slice_index_or}
use Rattle.std.specs.List.{flat_map}
use Rattle.file_pages.specs.Held.{times}
use Rattle.itf_lines.specs.declared.word.LineWord.TheVariants.{Elin}
use Rattle.itf_lines.specs.LogicalLines.{LogicalLine}
use Rattle.itf_reader.specs.ClosedRows.{by_table_from}
use Rattle.itf_reader.specs.Forms.{Table, Row, Vertex}
use Rattle.itf_reader.specs.Layouts.{wanted_of}
use Rattle.itf_reader.specs.TransferText.{line}
use Rattle.table_layout.specs.Values.{table_view, tables_view}
use Rattle.table_layout.specs.declared.layouts.Table.{Table as CodeTable}
use Rattle.itf_writer.specs.Canonical.{line_text, row_lines, stroke_lines}
use Rattle.itf_writer.specs.Feeds.{HeldRows, rows_held, with_row, with_row_at, held_of, held_in}
use Rattle.itf_writer.specs.Runs.{lines_text, closing, table_run, open_after, run_lines}
use Rattle.itf_writer.specs.declared.feed.TableText.{TableText}
use Rattle.itf_writer.proofs.Flat.{run_more}

-- ---- results
pub on_ok : {A E P Q : Type 0} (r : Result A E) → (P → Q) → OnOk r P → OnOk r Q
on_ok (Ok a) f p = f p
on_ok (Err e) f p = tt

-- ---- lists
same_head : {X : Type 0} (a b : X) (as_ bs : List X) → a ∷ as_ ≡ b ∷ bs → a ≡ b
same_head a b as_ bs e = cc

same_tail : {X : Type 0} (a b : X) (as_ bs : List X) → a ∷ as_ ≡ b ∷ bs → as_ ≡ bs
same_tail a b as_ bs e = cc

pub as_many : (code : ℕ) (tables : List TableText) (transfer : List (List Row))
    → held_in tables ≡ map (rows_held code) transfer → length tables ≡ length transfer
as_many code tables transfer e = sym (length-map tables held_of)
    ∙ (ap length e ∙ length-map transfer (rows_held code))

-- ---- one row more
held_rows : ℕ → List ℕ → HeldRows
held_rows count text = record { count = count; text = text }

rows_more : (code : ℕ) (rows : List Row) (r : Row)
    → with_row code r (rows_held code rows) ≡ rows_held code (rows ++ r ∷ [])
rows_more code rows r =
    let l = length-append rows (r ∷ []) in
    let n : length rows + 1 ≡ length (rows ++ r ∷ []) = omega (arith, l) in
    let one : flat_map row_lines (r ∷ []) ≡ row_lines r = flat_map-cons row_lines r []
    ∙ append-nil (row_lines r) in
    let t : lines_text code (flat_map row_lines rows) ++ lines_text code (row_lines r)
    ≡ lines_text code (flat_map row_lines (rows ++ r ∷ [])) =
    ap (λ (ls : List LogicalLine). lines_text code (flat_map row_lines rows) ++ lines_text code ls)
    (sym one)
    ∙ (sym (flat_map-append (line_text code) (flat_map row_lines rows)
    (flat_map row_lines (r ∷ [])))
    ∙ ap (lines_text code) (sym (flat_map-append row_lines rows (r ∷ [])))) in
    ap (λ (m : ℕ). record {
      count = m;
      text = lines_text code (flat_map row_lines rows) ++ lines_text code (row_lines r);
    }) n
    ∙ ap (λ (x : List ℕ). record { count = length (rows ++ r ∷ []); text = x }) t

pub row_held : (code : ℕ) (r : Row) (tables : List TableText) (transfer : List (List Row))
    (place : ℕ) (d new : TableText)
    → place < length tables → held_of new ≡ with_row code r (held_of (get_or tables place d))
    → held_in tables ≡ map (rows_held code) transfer
    → held_in (set tables place new) ≡ map (rows_held code) (with_row_at place r transfer)
row_held code r [] transfer place d new lt n e = absurd (omega (arith, lt))
row_held code r (t ∷ ts) [] place d new lt n e = absurd cc
row_held code r (t ∷ ts) (rows ∷ transfer) zero d new lt n e =
    let h = same_head (held_of t) (rows_held code rows) (held_in ts)
    (map (rows_held code) transfer) e in
    let k = same_tail (held_of t) (rows_held code rows) (held_in ts)
    (map (rows_held code) transfer) e in
    ap (λ (x : HeldRows). x ∷ held_in ts) (n ∙ (ap (with_row code r) h ∙ rows_more code rows r))
    ∙ ap (λ (xs : List HeldRows). rows_held code (rows ++ r ∷ []) ∷ xs) k
row_held code r (t ∷ ts) (rows ∷ transfer) (suc place) d new lt n e =
    let h = same_head (held_of t) (rows_held code rows) (held_in ts)
    (map (rows_held code) transfer) e in
    let k = same_tail (held_of t) (rows_held code rows) (held_in ts)
    (map (rows_held code) transfer) e in
    ap (λ (x : HeldRows). x ∷ held_in (set ts place new)) h
    ∙ ap (λ (xs : List HeldRows). rows_held code rows ∷ xs)
    (row_held code r ts transfer place d new (omega (arith, lt)) n k)

beyond : (r : Row) (transfer : List (List Row)) (place : ℕ) → length transfer ≤ place
    → with_row_at place r transfer ≡ transfer
beyond r [] place le = refl
beyond r (rows ∷ transfer) zero le = absurd (omega (arith, le))
beyond r (rows ∷ transfer) (suc place) le =
    ap (λ (ts : List (List Row)). rows ∷ ts) (beyond r transfer place (omega (arith, le)))

pub row_beyond : (code : ℕ) (r : Row) (tables : List TableText) (transfer : List (List Row))
    (place : ℕ)
    → length tables ≤ place → held_in tables ≡ map (rows_held code) transfer
    → held_in tables ≡ map (rows_held code) (with_row_at place r transfer)
row_beyond code r tables transfer place le e =
    let n = as_many code tables transfer e in
    e ∙ ap (map (rows_held code)) (sym (beyond r transfer place (omega (arith, le, n))))

-- ---- no row
pub none_more : {X : Type 0} (n : ℕ) (x : X) → replicate (n + 1) x ≡ replicate n x ++ x ∷ []
none_more {X = X} n x = ap (λ (m : ℕ). replicate m x) (let e : n + 1 ≡ suc n = omega arith in e)
    ∙ by n
  where
    by : (n : ℕ) → replicate (suc n) x ≡ replicate n x ++ x ∷ []
    by zero = refl
    by (suc n) = ap (λ (xs : List X). x ∷ xs) (by n)

pub none_held : (code n : ℕ) (ts : List CodeTable)
    → replicate (length ts) (rows_held code [])
    ≡ map (rows_held code) (by_table_from n (map wanted_of (tables_view ts)) [])
none_held code n [] = refl
none_held code n (t ∷ ts) =
    ap (λ (xs : List HeldRows). rows_held code [] ∷ xs) (none_held code (n + 1) ts)

-- ---- numbers of rows
pub count_at : (code : ℕ) (tables : List TableText) (transfer : List (List Row)) (place : ℕ)
    (t : TableText)
    → held_in tables ≡ map (rows_held code) transfer → place < length tables
    → t ≡ get_or tables place t → t.rows ≡ length (slice_index_or transfer place [])
count_at code [] transfer place t e lt i = absurd (omega (arith, lt))
count_at code (u ∷ ts) [] place t e lt i = absurd cc
count_at code (u ∷ ts) (rows ∷ transfer) zero t e lt i =
    ap (λ (x : TableText). x.rows) i
    ∙ ap (λ (x : HeldRows). x.count)
    (same_head (held_of u) (rows_held code rows) (held_in ts) (map (rows_held code) transfer) e)
count_at code (u ∷ ts) (rows ∷ transfer) (suc place) t e lt i =
    count_at code ts transfer place t
    (same_tail (held_of u) (rows_held code rows) (held_in ts) (map (rows_held code) transfer) e)
    (omega (arith, lt)) i

none_at : (transfer : List (List Row)) (place : ℕ) → length transfer ≤ place
    → 0 ≡ length (slice_index_or transfer place [])
none_at [] zero le = refl
none_at [] (suc place) le = refl
none_at (rows ∷ transfer) zero le = absurd (omega (arith, le))
none_at (rows ∷ transfer) (suc place) le = none_at transfer place (omega (arith, le))

pub count_beyond : (code : ℕ) (tables : List TableText) (transfer : List (List Row)) (place : ℕ)
    → held_in tables ≡ map (rows_held code) transfer → length tables ≤ place
    → 0 ≡ length (slice_index_or transfer place [])
count_beyond code tables transfer place e le =
    let n = as_many code tables transfer e in none_at transfer place (omega (arith, le, n))

-- ---- the walk, one table more
-- the rows of the tables that are left
pub record Left (code : ℕ) (held : List TableText) (i : ℕ) (text whole : List ℕ)
    (topics : List (List ℕ)) (current : Option ℕ) (tables : List CodeTable) : Type 0 where
  pub left : List (List Row)
  pub held_left : drop i (held_in held) ≡ map (rows_held code) left
  pub put : text
      ++ lines_text code
      (run_lines topics current (map wanted_of (tables_view (drop i tables))) left) ≡ whole

-- the first of them
pub record First (code : ℕ) (held : List TableText) (i : ℕ) (d : TableText)
    (left : List (List Row)) : Type 0 where
  pub own : List Row
  pub others : List (List Row)
  pub are : left ≡ own ∷ others
  pub held_own : held_of (get_or held i d) ≡ rows_held code own
  pub held_others : (new : TableText)
      → drop (i + 1) (held_in (set held i new)) ≡ map (rows_held code) others

pub first_of : (code : ℕ) (held : List TableText) (i : ℕ) (d : TableText) (left : List (List Row))
    → i < length held → drop i (held_in held) ≡ map (rows_held code) left → First code held i d left
first_of code held i d left lt e = by held i left lt e
  where
    next : (i : ℕ) → suc i + 1 ≡ suc (i + 1)
    next i = omega arith

    by : (held : List TableText) (i : ℕ) (left : List (List Row)) → i < length held
        → drop i (held_in held) ≡ map (rows_held code) left → First code held i d left
    by [] i left lt e = absurd (omega (arith, lt))
    by (t ∷ ts) zero [] lt e = absurd cc
    by (t ∷ ts) zero (own ∷ others) lt e = record {
      own = own;
      others = others;
      are = refl;
      held_own = same_head (held_of t) (rows_held code own) (held_in ts)
          (map (rows_held code) others) e;
      held_others =
          λ new. same_tail (held_of t) (rows_held code own) (held_in ts)
          (map (rows_held code) others) e;
    }
    by (t ∷ ts) (suc i) left lt e =
        let f = by ts i left (omega (arith, lt)) e in
        record {
          own = f.own;
          others = f.others;
          are = f.are;
          held_own = f.held_own;
          held_others = λ new. ap (λ (m : ℕ). drop m (held_in (set (t ∷ ts) (suc i) new))) (next i)
              ∙ f.held_others new;
        }

pub table_there : (tables : List CodeTable) (i : ℕ) (t : CodeTable) → i < length tables
    → t ≡ get_or tables i t → drop i tables ≡ t ∷ drop (i + 1) tables
table_there tables i t lt e = by tables i lt e
    ∙ ap (λ (m : ℕ). t ∷ drop m tables) (let s : suc i ≡ i + 1 = omega arith in s)
  where
    by : (tables : List CodeTable) (i : ℕ) → i < length tables → t ≡ get_or tables i t
        → drop i tables ≡ t ∷ drop (suc i) tables
    by [] i lt e = absurd (omega (arith, lt))
    by (u ∷ tables) zero lt e = ap (λ (x : CodeTable). x ∷ tables) (sym e)
    by (u ∷ tables) (suc i) lt e = by tables i (omega (arith, lt)) e

pub walked : (code : ℕ) (held : List TableText) (i : ℕ) (d after : TableText)
    (text new whole : List ℕ) (topics : List (List ℕ)) (current next : Option ℕ)
    (tables : List CodeTable) (t : CodeTable)
    (l : Left code held i text whole topics current tables) (f : First code held i d l.left)
    → i < length tables → t ≡ get_or tables i t
    → next ≡ open_after current (wanted_of (table_view t)) f.own
    → new ≡ text ++ lines_text code (table_run topics current (wanted_of (table_view t)) f.own)
    → Left code (set held i after) (i + 1) new whole topics next tables
walked code held i d after text new whole topics current next tables t l f lt e n w =
    let ts = map wanted_of (tables_view (drop (i + 1) tables)) in
    record {
      left = f.others;
      held_left = f.held_others after;
      put =
          ap (λ (x : List ℕ). x ++ lines_text code (run_lines topics next ts f.others)) w
          ∙ (run_more code text topics current (wanted_of (table_view t)) ts f.own f.others next n
          ∙ (ap (λ (xs : List CodeTable). text
          ++ lines_text code
          (run_lines topics current (map wanted_of (tables_view xs)) (f.own ∷ f.others)))
          (sym (table_there tables i t lt e))
          ∙ (ap (λ (ls : List (List Row)). text
          ++ lines_text code
          (run_lines topics current (map wanted_of (tables_view (drop i tables))) ls))
          (sym f.are) ∙ l.put)));
    }

none_left : (tables : List CodeTable) (i : ℕ) → length tables ≤ i → drop i tables ≡ []
none_left [] zero le = refl
none_left [] (suc i) le = refl
none_left (t ∷ tables) zero le = absurd (omega (arith, le))
none_left (t ∷ tables) (suc i) le = none_left tables i (omega (arith, le))

pub walk_ends : (code : ℕ) (held : List TableText) (i : ℕ) (text whole : List ℕ)
    (topics : List (List ℕ)) (current : Option ℕ) (tables : List CodeTable)
    (l : Left code held i text whole topics current tables)
    → length tables ≤ i → text ++ lines_text code (closing current) ≡ whole
walk_ends code held i text whole topics current tables l le =
    ap (λ (xs : List CodeTable). text ++ lines_text code
    (run_lines topics current (map wanted_of (tables_view xs)) l.left))
    (sym (none_left tables i le)) ∙ l.put

-- ---- the bytes of some items, one item more
pub flat_next : {X : Type 0} (f : X → List ℕ) (xs : List X) (i : ℕ) (d : X) → i < length xs
    → flat_map f (take (i + 1) xs) ≡ flat_map f (take i xs) ++ f (get_or xs i d)
flat_next f xs i d l =
    ap (flat_map f) (take_more xs i d l)
    ∙ (flat_map-append f (take i xs) (get_or xs i d ∷ [])
    ∙ ap (λ (t : List ℕ). flat_map f (take i xs) ++ t) (flat_map-cons f (get_or xs i d) []
    ∙ append-nil (f (get_or xs i d))))

-- ---- strokes that are left out
left_out_text : (code n : ℕ)
    → times n (line_text code (line Elin 0 []))
    ≡ lines_text code (flat_map stroke_lines (replicate n []))
left_out_text code zero = refl
left_out_text code (suc n) =
    ap (λ (t : List ℕ). line_text code (line Elin 0 []) ++ t) (left_out_text code n)
    ∙ (sym (flat_map-cons (line_text code) (line Elin 0 [])
    (flat_map stroke_lines (replicate n [])))
    ∙ ap (lines_text code) (sym (flat_map-cons stroke_lines [] (replicate n []))))

pub all_strokes_text : (code n : ℕ) (given : List (List Vertex))
    → lines_text code (flat_map stroke_lines given) ++ times n (line_text code (line Elin 0 []))
    ≡ lines_text code (flat_map stroke_lines (given ++ replicate n []))
all_strokes_text code n given =
    ap (λ (t : List ℕ). lines_text code (flat_map stroke_lines given) ++ t) (left_out_text code n)
    ∙ (sym (flat_map-append (line_text code) (flat_map stroke_lines given)
    (flat_map stroke_lines (replicate n [])))
    ∙ ap (lines_text code) (sym (flat_map-append stroke_lines given (replicate n []))))

-- ---- no row of one table more
pub one_none : (old : List TableText) (new : TableText) (n code : ℕ)
    → held_in old ≡ replicate n (rows_held code []) → held_of new ≡ rows_held code []
    → held_in (old ++ new ∷ []) ≡ replicate (n + 1) (rows_held code [])
one_none old new n code e h =
    map-append held_of old (new ∷ [])
    ∙ (ap (λ (xs : List HeldRows). xs ++ held_of new ∷ []) e
    ∙ (ap (λ (x : HeldRows). replicate n (rows_held code []) ++ x ∷ []) h
    ∙ sym (none_more n (rows_held code []))))

-- ---- a table in its topic
pub no_run : (code : ℕ) (names : List (List ℕ)) (current : Option ℕ) (t : Table) (held : TableText)
    (rows : List Row)
    → held_of held ≡ rows_held code rows → held.rows ≡ 0
    → (table_run names current t rows ≡ []) × (open_after current t rows ≡ current)
no_run code names current t held [] h z = (refl, refl)
no_run code names current t held (r ∷ rows) h z =
    let n = ap (λ (x : HeldRows). x.count) h in absurd (omega (arith, n, z))

pub some_run : (code : ℕ) (current : Option ℕ) (t : Table) (held : TableText) (rows : List Row)
    → held_of held ≡ rows_held code rows → 0 < held.rows
    → (0 < length rows) × (Some t.topic ≡ open_after current t rows)
some_run code current t held [] h z =
    let n = ap (λ (x : HeldRows). x.count) h in absurd (omega (arith, n, z))
some_run code current t held (r ∷ rows) h z = (omega arith, refl)

-- ---- the whole text
pub table_count : (n : ℕ) (ts : List CodeTable) (rows : List (ℕ × Row))
    → length (by_table_from n (map wanted_of (tables_view ts)) rows) ≡ length ts
table_count n [] rows = refl
table_count n (t ∷ ts) rows = ap suc (table_count (n + 1) ts rows)

pub parts_of : (t0 t1 t2 t3 head a b ts e f : List ℕ) → t0 ≡ [] → t1 ≡ t0 ++ (head ++ (a ++ b))
    → t2 ≡ t1 ++ ts → t3 ≡ t2 ++ (e ++ f) → t3 ≡ ((((head ++ a) ++ b) ++ ts) ++ e) ++ f
parts_of t0 t1 t2 t3 head a b ts e f z h k l =
    let one : t1 ≡ (head ++ a) ++ b = h
    ∙ (ap (λ (t : List ℕ). t ++ (head ++ (a ++ b))) z ∙ sym (append_assoc head a b)) in
    l ∙ (ap (λ (t : List ℕ). t ++ (e ++ f)) (k ∙ ap (λ (t : List ℕ). t ++ ts) one)
    ∙ sym (append_assoc (((head ++ a) ++ b) ++ ts) e f))

pub set_length : {X : Type 0} (xs : List X) (i : ℕ) (x : X) → length (set xs i x) ≡ length xs
set_length [] i x = refl
set_length (y ∷ xs) zero x = refl
set_length (y ∷ xs) (suc i) x = ap suc (set_length xs i x)
