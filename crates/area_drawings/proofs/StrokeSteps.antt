-- Drawings from what is kept, one line or vertex more.
use Rattle.std.proofs.Common.{◌≡◌, ℕ, zero, suc, ◌+◌, ◌<◌, ◌≤◌, List, [], ◌∷◌, ◌++◌, length, take}
use Rattle.std.proofs.Common.{drop, get_or, sym, ap, ◌∙◌, subst, arith, append_assoc}
use Rattle.std.specs.List.{All}
use Rattle.std.proofs.lemmas.List.{take-map, drop-map, length-drop, length-take-le}
use Rattle.std.proofs.lemmas.List.Elements.{All-nil, All-cons, All-head, All-tail}
use Rattle.field_values.specs.Places.{place_view}
use Rattle.itf_reader.specs.declared.rows.values.ReadVertex.{ReadVertex}
use Rattle.itf_reader.specs.RowReadings.{vertex_view, vertices_view}
use Rattle.itf_reader.specs.StrokeFindings.{Seen}
use Rattle.plane.specs.Rule.Windows.{IsInside}
use Rattle.plane.specs.declared.kinds.Curve.{Curve}
use Rattle.plane.specs.declared.kinds.Placed.{Placed}
use Rattle.plane.specs.declared.window.Window2.{Window2}
use Rattle.area_drawings.specs.Drawable.{IsIn}
use Rattle.area_drawings.specs.KeptDrawings.{seen_curves, kept_curves, total, AreIn, ArePointsIn}

-- ---- what holds of all, of one and of the rest
pub all_at : {X : Type 0} (P : X → Type 0) (xs : List X) (i : ℕ) (x : X) → i < length xs
    → x ≡ get_or xs i x → All P xs → P x
all_at P xs i x lt e h = subst P (sym e) (h i x lt)

vertex_all : (w : Window2) (vs : List ReadVertex) (i : ℕ) (v : ReadVertex) → i < length vs
    → v ≡ get_or vs i v → AreIn w (vertices_view vs) → IsIn w (place_view v.at)
vertex_all w [] i v lt e h = absurd (omega (arith, lt))
vertex_all w (u ∷ vs) zero v lt e h =
    subst (λ (x : ReadVertex). IsIn w (place_view x.at)) (sym e)
    (All-head (λ (s : Seen). IsIn w s.at) (vertex_view u) (vertices_view vs) h)
vertex_all w (u ∷ vs) (suc i) v lt e h =
    vertex_all w vs i v (omega (arith, lt)) e
    (All-tail (λ (s : Seen). IsIn w s.at) (vertex_view u) (vertices_view vs) h)

-- the next vertex is in the window
pub vertex_inside : (w v : Window2) (vs : List ReadVertex) (i : ℕ) (x : ReadVertex) → i < length vs
    → x ≡ get_or vs i x → AreIn w (vertices_view vs) → v ≡ w → IsIn v (place_view x.at)
vertex_inside w v vs i x lt e h q =
    subst (λ (u : Window2). IsIn u (place_view x.at)) (sym q) (vertex_all w vs i x lt e h)

all_take : {X : Type 0} (P : X → Type 0) (n : ℕ) (xs : List X) → All P xs → All P (take n xs)
all_take P zero xs h = All-nil P
all_take P (suc n) [] h = All-nil P
all_take P (suc n) (x ∷ xs) h =
    All-cons P x (take n xs) (All-head P x xs h) (all_take P n xs (All-tail P x xs h))

all_drop : {X : Type 0} (P : X → Type 0) (n : ℕ) (xs : List X) → All P xs → All P (drop n xs)
all_drop P zero xs h = h
all_drop P (suc n) [] h = h
all_drop P (suc n) (x ∷ xs) h = all_drop P n xs (All-tail P x xs h)

-- the vertices of the next line, and those behind it, are in the window
pub own_inside : (w : Window2) (n : ℕ) (vs own : List ReadVertex) → own ≡ take n vs
    → AreIn w (vertices_view vs) → AreIn w (vertices_view own)
own_inside w n vs own e h =
    subst (AreIn w) (sym (ap vertices_view e ∙ sym (take-map vertex_view n vs)))
    (all_take (λ (s : Seen). IsIn w s.at) n (vertices_view vs) h)

pub rest_inside : (w : Window2) (n : ℕ) (vs rest : List ReadVertex) → rest ≡ drop n vs
    → AreIn w (vertices_view vs) → AreIn w (vertices_view rest)
rest_inside w n vs rest e h =
    subst (AreIn w) (sym (ap vertices_view e ∙ sym (drop-map vertex_view n vs)))
    (all_drop (λ (s : Seen). IsIn w s.at) n (vertices_view vs) h)

-- ---- counts of vertices
first_count : (ns : List ℕ) (i n : ℕ) → i < length ns → n ≡ get_or ns i 0
    → drop i ns ≡ n ∷ drop (suc i) ns
first_count [] i n lt e = absurd (omega (arith, lt))
first_count (m ∷ ns) zero n lt e = ap (λ (k : ℕ). k ∷ ns) (sym e)
first_count (m ∷ ns) (suc i) n lt e = first_count ns i n (omega (arith, lt)) e

pub next_count : (ns : List ℕ) (i n : ℕ) → i < length ns → n ≡ get_or ns i 0
    → drop i ns ≡ n ∷ drop (i + 1) ns
next_count ns i n lt e = first_count ns i n lt e
    ∙ ap (λ (m : ℕ). n ∷ drop m ns) (let s : suc i ≡ i + 1 = omega arith in s)

pub count_within : (ns : List ℕ) (i n : ℕ) (vs : List ReadVertex) → i < length ns
    → n ≡ get_or ns i 0 → total (drop i ns) ≤ length vs → n ≤ length vs
count_within ns i n vs lt e h = let k = ap total (next_count ns i n lt e) in omega (arith, h, k)

pub count_after : (ns : List ℕ) (i n : ℕ) (vs rest : List ReadVertex) → i < length ns
    → n ≡ get_or ns i 0 → rest ≡ drop n vs → total (drop i ns) ≤ length vs
    → total (drop (i + 1) ns) ≤ length rest
count_after ns i n vs rest lt e r h =
    let k = ap total (next_count ns i n lt e) in
    let l = ap (λ (xs : List ReadVertex). length xs) r ∙ length-drop n vs in
    omega (arith, h, k, l)

-- the curves of the next line, and of those behind it
pub strokes_step : (ns : List ℕ) (i n : ℕ) (vs own rest : List ReadVertex)
    (old new start : List Curve)
    → i < length ns → n ≡ get_or ns i 0 → own ≡ take n vs → rest ≡ drop n vs
    → new ≡ old ++ seen_curves (vertices_view own)
    → old ++ kept_curves (drop i ns) (vertices_view vs) ≡ start
    → new ++ kept_curves (drop (i + 1) ns) (vertices_view rest) ≡ start
strokes_step ns i n vs own rest old new start lt e o r q h =
    ap (λ (cs : List Curve). cs ++ kept_curves (drop (i + 1) ns) (vertices_view rest)) q
    ∙ append_assoc old (seen_curves (vertices_view own))
    (kept_curves (drop (i + 1) ns) (vertices_view rest))
    ∙ ap (λ (xs : List Seen). old
    ++ (seen_curves xs ++ kept_curves (drop (i + 1) ns) (vertices_view rest)))
    (ap vertices_view o ∙ sym (take-map vertex_view n vs))
    ∙ ap (λ (xs : List Seen). old
    ++ (seen_curves (take n (vertices_view vs)) ++ kept_curves (drop (i + 1) ns) xs))
    (ap vertices_view r ∙ sym (drop-map vertex_view n vs))
    ∙ ap (λ (ms : List ℕ). old ++ kept_curves ms (vertices_view vs)) (sym (next_count ns i n lt e))
    ∙ h

pub point_inside : (w v : Window2) (ps : List Placed) (i : ℕ) (p : Placed) → i < length ps
    → p ≡ get_or ps i p → ArePointsIn w ps → v ≡ w → IsInside v.low v.high p.at
point_inside w v ps i p lt e h q =
    subst (λ (u : Window2). IsInside u.low u.high p.at) (sym q)
    (all_at (λ (x : Placed). IsInside w.low w.high x.at) ps i p lt e h)

pub split_few : (n : ℕ) (vs own rest : List ReadVertex) → n ≤ length vs → own ≡ take n vs
    → rest ≡ drop n vs → length own + length rest ≡ length vs
split_few n vs own rest le o r =
    let a = ap (λ (xs : List ReadVertex). length xs) o ∙ length-take-le n vs le in
    let b = ap (λ (xs : List ReadVertex). length xs) r ∙ length-drop n vs in
    omega (arith, a, b, le)
