-- The lines of objects, and the answers to their boundaries, one more.
use Rattle.std.proofs.Common.{◌≡◌, ℕ, zero, suc, ◌+◌, ◌<◌, ◌≤◌, Bool, true, false, not, ◌&&◌, ◌||◌}
use Rattle.std.proofs.Common.{cond}
use Rattle.std.proofs.Common.{List, [], ◌∷◌, ◌++◌, length, take, drop, get_or, set, Option, Some}
use Rattle.std.proofs.Common.{None, inl, inr, refl, sym, ap, ◌∙◌, subst, arith}
use Rattle.std.specs.Borrow.{Bor}
use Rattle.std.specs.Global.{Vec}
use Rattle.std.specs.List.{All, count_by, sum_by}
use Rattle.std.proofs.lemmas.List.Sums.{sum_by-append}
use Rattle.std.proofs.lemmas.List.{length-map, map-append, take-map, take_all, drop-map}
use Rattle.std.proofs.lemmas.List.Elements.{All-cons, All-head, All-tail}
use Rattle.itf_reader.specs.RowReadings.{vertices_view}
use Rattle.itf_reader.specs.StrokeFindings.{Seen}
use Rattle.itf_reader.specs.declared.rows.values.ReadVertex.{ReadVertex}
use Rattle.ident_refs.specs.KeptViews.{named_view}
use Rattle.ident_refs.specs.declared.references.NamedRow.{NamedRow}
use Rattle.area_drawings.specs.KeptDrawings.{cut}
use Rattle.plane.specs.declared.kinds.Curve.{Curve}
use Rattle.plane.specs.declared.kinds.CurveKind.{CurveKind}
use Rattle.tubes.specs.DrawnEdges.{AreAllStraight}
use Rattle.area_drawings.specs.Strokes.{has_curve, strokes_curves, strokes_view}
use Rattle.area_drawings.proofs.StrokeSteps.{next_count}
use Rattle.delivery.specs.ObjectLines.{added_at, drawn, first_place, grouped, named_rows, no_lines}
use Rattle.delivery.specs.ObjectLines.{object_view, objects_view, with_line}
use Rattle.delivery.specs.SurfaceAnswers.{IsBoundaryAnswer, IsRingsAnswer, outline}
use Rattle.delivery.specs.declared.surfaces.BoundaryAnswer.{BoundaryAnswer}
use Rattle.delivery.specs.declared.surfaces.BoundaryAnswer.TheVariants.{Fault, Held, Skipped}
use Rattle.delivery.specs.declared.surfaces.BoundaryAnswer.TheVariants.{Unseen}
use Rattle.delivery.specs.Surfaces.{Boundary, Holds, IsRight, has_half_arc, is_judged, is_looked_at}
use Rattle.delivery.specs.Surfaces.{IsAnswer, faulty, is_bent, is_skipped, proved}
use Rattle.reports.specs.declared.lines.SurfaceAnswer.{SurfaceAnswer}
use Rattle.reports.specs.declared.lines.SurfaceAnswer.TheVariants.{Proved}
use Rattle.plane.specs.Lists.{Has}
use Rattle.reports.specs.Surfaces.{SurfaceOf}
use Rattle.reports.specs.SurfaceViews.{surface_view, surfaces_view}
use Rattle.reports.specs.declared.surfaces.SurfaceOf.{SurfaceOf as CodeSurface}
use Rattle.delivery.proofs.Drawables.{drop_both}
use Rattle.delivery.specs.KeptRows.{changed_at}
use Rattle.delivery.proofs.KeptSteps.{changed_set}

-- ---- one object more
no_lines_more : (n : ℕ) → no_lines n ++ [] ∷ [] ≡ no_lines (suc n)
no_lines_more zero = refl
no_lines_more (suc n) = ap (λ (xs : List (List (List Seen))). [] ∷ xs) (no_lines_more n)

pub object_added : (n : ℕ) (os new : List (Vec (Bor (List ReadVertex))))
    (x : Vec (Bor (List ReadVertex))) → new ≡ os ++ x ∷ [] → x.items ≡ []
    → objects_view os ≡ no_lines n → objects_view new ≡ no_lines (n + 1)
object_added n os new x e f h =
    ap objects_view e ∙ map-append object_view os (x ∷ [])
    ∙ ap (λ (o : List (List Seen)). objects_view os ++ o ∷ []) (ap strokes_view f)
    ∙ ap (λ (xs : List (List (List Seen))). xs ++ [] ∷ []) h
    ∙ no_lines_more n
    ∙ ap no_lines (let z : suc n ≡ n + 1 = omega arith in z)

-- ---- one line more of an object
pub line_added : (os : List (Vec (Bor (List ReadVertex)))) (row : Option ℕ) (p : ℕ)
    (x new : Vec (Bor (List ReadVertex))) (line : Bor (List ReadVertex)) → row ≡ Some p
    → p < length os → new.items ≡ (get_or os p x).items ++ line ∷ []
    → objects_view (set os p new) ≡ added_at row (vertices_view line.now) (objects_view os)
line_added os row p x new line e lt n =
    changed_set object_view (with_line (vertices_view line.now)) os p x new lt
    (ap strokes_view n
    ∙ map-append (λ s. vertices_view s.now) (get_or os p x).items (line ∷ []))
    ∙ ap (λ (r : Option ℕ). added_at r (vertices_view line.now) (objects_view os)) (sym e)

-- the place that the next row names
pub first_named : (ns : List NamedRow) (i : ℕ) (n : NamedRow) → i < length ns → n ≡ get_or ns i n
    → n.row ≡ first_place (drop i (named_rows (named_view ns)))
first_named [] i n lt e = absurd (omega (arith, lt))
first_named (m ∷ ns) zero n lt e = ap (λ (x : NamedRow). x.row) e
first_named (m ∷ ns) (suc i) n lt e = first_named ns i n (omega (arith, lt)) e

pub none_named : (ns : List NamedRow) (i : ℕ) → length ns ≤ i
    → None ≡ first_place (drop i (named_rows (named_view ns)))
none_named [] zero le = refl
none_named [] (suc i) le = refl
none_named (m ∷ ns) zero le = absurd (omega (arith, le))
none_named (m ∷ ns) (suc i) le = none_named ns i (omega (arith, le))

grouped_one : (ps : List (Option ℕ)) (line : List Seen) (lines : List (List Seen))
    (os : List (List (List Seen))) → grouped ps (line ∷ lines) os
    ≡ grouped (drop 1 ps) lines (added_at (first_place ps) line os)
grouped_one [] line lines os = refl
grouped_one (p ∷ ps) line lines os = refl

pub grouped_end : (ps : List (Option ℕ)) (ns : List ℕ) (i : ℕ) (vs : List Seen)
    (os whole : List (List (List Seen))) → length ns ≤ i
    → grouped ps (cut (drop i ns) vs) os ≡ whole
    → os ≡ whole
grouped_end ps ns i vs os whole le h = sym (by ps ns i le) ∙ h
  where
    by : (ps : List (Option ℕ)) (ns : List ℕ) (i : ℕ) → length ns ≤ i
        → grouped ps (cut (drop i ns) vs) os ≡ os
    by [] ns i le = refl
    by (p ∷ ps) [] zero le = refl
    by (p ∷ ps) [] (suc i) le = refl
    by (p ∷ ps) (n ∷ ns) zero le = absurd (omega (arith, le))
    by (p ∷ ps) (n ∷ ns) (suc i) le = by (p ∷ ps) ns i (omega (arith, le))

pub line_step : (ns : List ℕ) (i n : ℕ) (vs own rest : List ReadVertex) (names : List (Option ℕ))
    (old new whole : List (List (List Seen))) → i < length ns → n ≡ get_or ns i 0
    → own ≡ take n vs → rest ≡ drop n vs
    → new ≡ added_at (first_place (drop i names)) (vertices_view own) old
    → grouped (drop i names) (cut (drop i ns) (vertices_view vs)) old ≡ whole
    → grouped (drop (i + 1) names) (cut (drop (i + 1) ns) (vertices_view rest)) new ≡ whole
line_step ns i n vs own rest names old new whole lt e o r a h =
    let lines = cut (drop (i + 1) ns) (vertices_view rest) in
    let here : cut (drop i ns) (vertices_view vs) ≡ vertices_view own ∷ lines
    = ap (λ (ms : List ℕ). cut ms (vertices_view vs)) (next_count ns i n lt e)
    ∙ ap (λ (x : List Seen). x ∷ cut (drop (i + 1) ns) (drop n (vertices_view vs)))
    (take-map _ n vs ∙ ap vertices_view (sym o))
    ∙ ap (λ (x : List Seen). vertices_view own ∷ cut (drop (i + 1) ns) x)
    (drop-map _ n vs ∙ ap vertices_view (sym r)) in
    ap (grouped (drop (i + 1) names) lines) a
    ∙ ap (λ (ps : List (Option ℕ)). grouped ps lines
    (added_at (first_place (drop i names)) (vertices_view own) old)) (drop_both i 1 names)
    ∙ sym (grouped_one (drop i names) (vertices_view own) lines old)
    ∙ ap (λ (ls : List (List Seen)). grouped (drop i names) ls old) (sym here)
    ∙ h

-- ---- boundaries
-- the boundary at a place, and those before and behind it
pub split_at : (os : List (Vec (Bor (List ReadVertex)))) (ns : List ℕ) (i : ℕ)
    (o : Vec (Bor (List ReadVertex))) (n : ℕ) → length ns ≡ length os → i < length os
    → o ≡ get_or os i o → n ≡ get_or ns i 0
    → drawn (objects_view os) ns
    ≡ take i (drawn (objects_view os) ns) ++ outline n (strokes_curves (object_view o))
    ∷ drop (suc i) (drawn (objects_view os) ns)
split_at [] ns i o n l lt e f = absurd (omega (arith, lt))
split_at (x ∷ os) [] i o n l lt e f = absurd (omega (arith, l))
split_at (x ∷ os) (m ∷ ns) zero o n l lt e f =
    ap (λ (k : ℕ). outline k (strokes_curves (object_view x)) ∷ drawn (objects_view os) ns) (sym f)
    ∙ ap (λ (y : Vec (Bor (List ReadVertex))). outline n (strokes_curves (object_view y))
    ∷ drawn (objects_view os) ns) (sym e)
split_at (x ∷ os) (m ∷ ns) (suc i) o n l lt e f =
    ap (λ (bs : List Boundary). outline m (strokes_curves (object_view x)) ∷ bs)
    (split_at os ns i o n (omega (arith, l)) (omega (arith, lt)) e f)

take_next : (bs : List Boundary) (i : ℕ) (b : Boundary) (rest : List Boundary)
    → bs ≡ take i bs ++ b ∷ rest → i < length bs → take (suc i) bs ≡ take i bs ++ b ∷ []
take_next [] i b rest e lt = absurd (omega (arith, lt))
take_next (x ∷ bs) zero b rest e lt = cc
take_next (x ∷ bs) (suc i) b rest e lt =
    ap (λ (cs : List Boundary). x ∷ cs) (take_next bs i b rest (tails e) (omega (arith, lt)))
  where
    tails : x ∷ bs ≡ x ∷ (take i bs ++ b ∷ rest) → bs ≡ take i bs ++ b ∷ rest
    tails e = cc

pub drawn_count : (os : List (Vec (Bor (List ReadVertex)))) (ns : List ℕ) → length ns ≡ length os
    → length (drawn (objects_view os) ns) ≡ length os
drawn_count [] ns l = refl
drawn_count (x ∷ os) [] l = absurd (omega (arith, l))
drawn_count (x ∷ os) (m ∷ ns) l = ap suc (drawn_count os ns (omega (arith, l)))

all_more : (all : Bool) (bs : List Boundary) (b : Boundary) → All (IsRight all) bs
    → IsRight all b → All (IsRight all) (bs ++ b ∷ [])
all_more all [] b a h = All-cons (IsRight all) b [] h a
all_more all (x ∷ bs) b a h =
    All-cons (IsRight all) x (bs ++ b ∷ []) (All-head (IsRight all) x bs a)
    (all_more all bs b (All-tail (IsRight all) x bs a) h)

count_more : (p : Boundary → Bool) (bs : List Boundary) (b : Boundary)
    → count_by p (bs ++ b ∷ []) ≡ count_by p bs + cond (p b) 1 0
count_more p bs b =
    let e = sum_by-append (λ x. cond (p x) 1 0) bs (b ∷ []) in
    let h : sum_by (λ x. cond (p x) 1 0) (b ∷ []) ≡ 0 + cond (p b) 1 0 = refl in
    omega (arith, e, h)

-- the first boundaries hold where they are judged; how many these are, and how many are skipped
pub record AreCounted (all : Bool) (bs : List Boundary) (i held skipped : ℕ) : Type 0 where
  pub right : All (IsRight all) (take i bs)
  pub held_is : held ≡ count_by (is_judged all) (take i bs)
  pub skipped_is : skipped ≡ count_by (is_skipped all) (take i bs)

module _ (all : Bool) (bs : List Boundary) (i held skipped : ℕ) (b : Boundary)
    (rest : List Boundary) (e : bs ≡ take i bs ++ b ∷ rest) (lt : i < length bs)
    (h : AreCounted all bs i held skipped) where
  counted_with : (j k : ℕ) → cond (is_judged all b) 1 0 ≡ j → cond (is_skipped all b) 1 0 ≡ k
      → IsRight all b → AreCounted all bs (i + 1) (held + j) (skipped + k)
  counted_with j k f g r =
      let next : take (i + 1) bs ≡ take i bs ++ b ∷ []
      = ap (λ (n : ℕ). take n bs) (let z : i + 1 ≡ suc i = omega arith in z)
      ∙ take_next bs i b rest e lt in
      record {
        right = subst (All (IsRight all)) (sym next) (all_more all (take i bs) b h.right r);
        held_is = (let a = ap (count_by (is_judged all)) next
            ∙ count_more (is_judged all) (take i bs) b in
            let d = h.held_is in omega (arith, a, d, f));
        skipped_is = (let a = ap (count_by (is_skipped all)) next
            ∙ count_more (is_skipped all) (take i bs) b in
            let d = h.skipped_is in omega (arith, a, d, g));
      }

  abbrev out : Bool
  out = all || has_half_arc b.curves

  and_false : (x y : Bool) → x ≡ false → (x && y) ≡ false
  and_false true y f = absurd (cc)
  and_false false y f = refl

  never_both : (x y : Bool) → (x && y) ≡ true → (x && not y) ≡ false
  never_both true true f = refl
  never_both true false f = absurd (cc)
  never_both false y f = refl

  never_too : (x y : Bool) → (x && not y) ≡ true → (x && y) ≡ false
  never_too true true f = absurd (cc)
  never_too true false f = refl
  never_too false y f = refl

  not_judged : is_judged all b ≡ false → IsRight all b
  not_judged f t = absurd (let z = sym t ∙ f in cc)

  pub unseen_more : is_looked_at b ≡ false → AreCounted all bs (i + 1) held skipped
  unseen_more f =
      let j = and_false (is_looked_at b) (not out) f in
      let k = and_false (is_looked_at b) out f in
      same held skipped (counted_with 0 0 (ap (λ (x : Bool). cond x 1 0) j)
      (ap (λ (x : Bool). cond x 1 0) k) (not_judged j))
    where
      same : (m n : ℕ) → AreCounted all bs (i + 1) (m + 0) (n + 0)
          → AreCounted all bs (i + 1) m n
      same m n a =
          record {
            right = a.right;
            held_is = (let d = a.held_is in omega (arith, d));
            skipped_is = (let d = a.skipped_is in omega (arith, d));
          }

  pub skipped_more : is_skipped all b ≡ true → AreCounted all bs (i + 1) held (skipped + 1)
  skipped_more f =
      let j = never_both (is_looked_at b) out f in
      same held (counted_with 0 1 (ap (λ (x : Bool). cond x 1 0) j)
      (ap (λ (x : Bool). cond x 1 0) f) (not_judged j))
    where
      same : (m : ℕ) → AreCounted all bs (i + 1) (m + 0) (skipped + 1)
          → AreCounted all bs (i + 1) m (skipped + 1)
      same m a =
          record {
            right = a.right;
            held_is = (let d = a.held_is in omega (arith, d));
            skipped_is = a.skipped_is;
          }

  pub held_more : is_judged all b ≡ true → Holds b → AreCounted all bs (i + 1) (held + 1) skipped
  held_more f r =
      let k = never_too (is_looked_at b) out f in
      same skipped (counted_with 1 0 (ap (λ (x : Bool). cond x 1 0) f)
      (ap (λ (x : Bool). cond x 1 0) k) (λ t. r))
    where
      same : (n : ℕ) → AreCounted all bs (i + 1) (held + 1) (n + 0)
          → AreCounted all bs (i + 1) (held + 1) n
      same n a =
          record {
            right = a.right;
            held_is = a.held_is;
            skipped_is = (let d = a.skipped_is in omega (arith, d));
          }

-- what holds of all objects holds of the one at a place
pub object_at : (P : List (List Seen) → Type 0) (os : List (Vec (Bor (List ReadVertex)))) (i : ℕ)
    (o : Vec (Bor (List ReadVertex))) → i < length os → o ≡ get_or os i o
    → All P (objects_view os) → P (object_view o)
object_at P [] i o lt e h = absurd (omega (arith, lt))
object_at P (x ∷ os) zero o lt e h =
    subst (λ (y : Vec (Bor (List ReadVertex))). P (object_view y)) (sym e)
    (All-head P (object_view x) (objects_view os) h)
object_at P (x ∷ os) (suc i) o lt e h =
    object_at P os i o (omega (arith, lt)) e (All-tail P (object_view x) (objects_view os) h)

-- all boundaries are counted
pub all_counted : (all : Bool) (bs : List Boundary) (i held skipped : ℕ) → length bs ≤ i
    → AreCounted all bs i held skipped → IsAnswer all bs (Proved held skipped)
all_counted all bs i held skipped le h =
    let whole = take_all i bs le in
    proved (subst (All (IsRight all)) whole h.right)
    (ap (λ (n : ℕ). Proved n skipped)
    (h.held_is ∙ ap (count_by (is_judged all)) whole)
    ∙ ap (Proved (count_by (is_judged all) bs))
    (h.skipped_is ∙ ap (count_by (is_skipped all)) whole))

-- ---- the answer to the boundary at a place
module _ (all : Bool) (os : List (Vec (Bor (List ReadVertex)))) (ns : List ℕ) (i : ℕ)
    (o : Vec (Bor (List ReadVertex))) (size : length ns ≡ length os) (lt : i < length os)
    (here : o ≡ get_or os i o) (items : List (Bor (List ReadVertex))) (own : items ≡ o.items)
    (held skipped : ℕ) (h : AreCounted all (drawn (objects_view os) ns) i held skipped)
    (answer : BoundaryAnswer)
    (told : IsBoundaryAnswer all (outline (get_or ns i 0) (strokes_curves (strokes_view items)))
    answer) where
  abbrev bs : List Boundary
  bs = drawn (objects_view os) ns

  abbrev b : Boundary
  b = outline (get_or ns i 0) (strokes_curves (object_view o))

  abbrev rest : List Boundary
  rest = drop (suc i) bs

  split : bs ≡ take i bs ++ b ∷ rest
  split = split_at os ns i o (get_or ns i 0) size lt here refl

  within : i < length bs
  within = let n = drawn_count os ns size in omega (arith, n, lt)

  answered : (a : BoundaryAnswer) → answer ≡ a → IsBoundaryAnswer all b a
  answered a e =
      subst (IsBoundaryAnswer all b) e
      (subst (λ (ss : List (Bor (List ReadVertex))). IsBoundaryAnswer all
      (outline (get_or ns i 0) (strokes_curves (strokes_view ss))) answer) own told)

  module _ (m k : ℕ) where
    -- the same numbers by other terms
    moved : (x y : ℕ) → m ≡ x → k ≡ y → AreCounted all bs (i + 1) x y
        → AreCounted all bs (i + 1) m k
    moved x y e f a =
        record { right = a.right; held_is = e ∙ a.held_is; skipped_is = f ∙ a.skipped_is }

    pub at_unseen : answer ≡ Unseen → m ≡ held → k ≡ skipped → AreCounted all bs (i + 1) m k
    at_unseen e f g =
        moved held skipped f g
        (unseen_more all bs i held skipped b rest split within h (answered Unseen e))

    pub at_skipped : answer ≡ Skipped → m ≡ held → k ≡ skipped + 1
        → AreCounted all bs (i + 1) m k
    at_skipped e f g =
        moved held (skipped + 1) f g
        (skipped_more all bs i held skipped b rest split within h (answered Skipped e))

    pub at_held : answer ≡ Held → m ≡ held + 1 → k ≡ skipped → AreCounted all bs (i + 1) m k
    at_held e f g =
        let t = answered Held e in
        moved (held + 1) skipped f g
        (held_more all bs i held skipped b rest split within h t.0 t.1)

  pub at_fault : (x : SurfaceAnswer) → answer ≡ Fault x → IsAnswer all bs x
  at_fault x e = faulty (take i bs) b rest split h.right (answered (Fault x) e)

-- ---- the answer to one boundary of straights
pub some_curve : (cs : List Curve) → 0 < length cs → has_curve cs ≡ true
some_curve [] lt = absurd (omega (arith, lt))
some_curve (c ∷ cs) lt = refl

none_bent : (cs : List Curve) → AreAllStraight cs → has_half_arc cs ≡ false
none_bent [] h = refl
none_bent (c ∷ cs) h =
    ap (λ (k : CurveKind). is_bent k || has_half_arc cs) (h 0 (omega arith))
    ∙ none_bent cs (λ i l. h (suc i) (omega (arith, l)))

is_right : (b : Boundary) → has_curve b.curves ≡ true → AreAllStraight b.curves
    → is_judged false b ≡ true
is_right b s n =
    ap (λ (x : Bool). x && not (has_half_arc b.curves)) s ∙ ap not (none_bent b.curves n)

pub by_rings : (b : Boundary) → has_curve b.curves ≡ true → AreAllStraight b.curves
    → (a : BoundaryAnswer) → IsRingsAnswer b a → IsBoundaryAnswer false b a
by_rings b s n Held h = (is_right b s n, h)
by_rings b s n (Fault x) h = (is_right b s n, h)
by_rings b s n Unseen h = absurd h
by_rings b s n Skipped h = absurd h

-- ---- SURFACEs
pub same_there : (ss : List CodeSurface) (i : ℕ) (d e : CodeSurface) → i < length ss
    → get_or ss i d ≡ get_or ss i e
same_there [] i d e lt = absurd (omega (arith, lt))
same_there (x ∷ ss) zero d e lt = refl
same_there (x ∷ ss) (suc i) d e lt = same_there ss i d e (omega (arith, lt))

pub surface_there : (ss : List CodeSurface) (i : ℕ) (d : CodeSurface) (all : List SurfaceOf)
    → i < length ss → surfaces_view ss ≡ all → Has (surface_view (get_or ss i d)) all
surface_there ss i d all lt h = subst (Has (surface_view (get_or ss i d))) h (by ss i lt)
  where
    by : (ss : List CodeSurface) (i : ℕ) → i < length ss
        → Has (surface_view (get_or ss i d)) (surfaces_view ss)
    by [] i lt = absurd (omega (arith, lt))
    by (x ∷ ss) zero lt = inl refl
    by (x ∷ ss) (suc i) lt = inr (by ss i (omega (arith, lt)))

pub all_taken : (ss : List CodeSurface) (i : ℕ) (all : List SurfaceOf) → length ss ≤ i
    → surfaces_view ss ≡ all → take i (surfaces_view ss) ≡ all
all_taken ss i all le h =
    let n = length-map ss surface_view in
    take_all i (surfaces_view ss) (omega (arith, le, n)) ∙ h

-- ---- how many objects there are
changed_size : (p : ℕ) (line : List Seen) (os : List (List (List Seen)))
    → length (changed_at p (with_line line) os) ≡ length os
changed_size p line [] = refl
changed_size zero line (o ∷ os) = refl
changed_size (suc p) line (o ∷ os) = ap suc (changed_size p line os)

grouped_size : (ps : List (Option ℕ)) (lines : List (List Seen)) (os : List (List (List Seen)))
    → length (grouped ps lines os) ≡ length os
grouped_size [] lines os = refl
grouped_size (p ∷ ps) [] os = refl
grouped_size (None ∷ ps) (line ∷ lines) os = grouped_size ps lines os
grouped_size (Some p ∷ ps) (line ∷ lines) os =
    grouped_size ps lines (changed_at p (with_line line) os) ∙ changed_size p line os

no_lines_size : (n : ℕ) → length (no_lines n) ≡ n
no_lines_size zero = refl
no_lines_size (suc n) = ap suc (no_lines_size n)

pub objects_size : (os : List (Vec (Bor (List ReadVertex)))) (ps : List (Option ℕ))
    (lines : List (List Seen)) (n : ℕ) → objects_view os ≡ grouped ps lines (no_lines n)
    → n ≡ length os
objects_size os ps lines n e =
    sym (no_lines_size n) ∙ sym (grouped_size ps lines (no_lines n))
    ∙ sym (ap (λ (xs : List (List (List Seen))). length xs) e) ∙ length-map os object_view
