-- What the parts of a text come to.
use Rattle.std.proofs.Common.{◌≡◌, ℕ, Some, List, [], ◌∷◌, ◌++◌, length, map, refl, sym, ap, ◌∙◌}
use Rattle.std.proofs.Common.{append_assoc}
use Rattle.std.proofs.lemmas.List.{length-map}
use Rattle.std.proofs.lemmas.List.Concat.{flat_map-cons}
use Rattle.std.specs.Fmt.{decimal}
use Rattle.std.specs.List.{flat_map}
use Rattle.std.specs.Prelude.{codes}
use Rattle.plane.specs.declared.kinds.Point.{Point}
use Rattle.polygons.specs.declared.areas.AreaPolygons.{AreaPolygons}
use Rattle.polygons.specs.declared.areas.ObjectPolygon.{ObjectPolygon}
use Rattle.polygons.specs.declared.kinds.Ring.{Ring}
use Rattle.polygons.specs.Leading.{shapes}
use Rattle.polygons.specs.Text.{area_text, corner_line, count_word, line, next_word, object_text}
use Rattle.polygons.specs.Text.{object_view, objects_of, objects_view, polygons_text, rest_text}
use Rattle.polygons.specs.Text.{ring_text, view, views}

-- the texts of what a function makes of a list are those of its elements
pub flat_mapped : {X Y : Type 0} (f : Y → List ℕ) (v : X → Y) (xs : List X)
    → flat_map f (map v xs) ≡ flat_map (λ x. f (v x)) xs
flat_mapped f v [] = refl
flat_mapped f v (x ∷ xs) = flat_map-cons f (v x) (map v xs)
    ∙ (ap (λ (s : List ℕ). f (v x) ++ s) (flat_mapped f v xs)
    ∙ sym (flat_map-cons (λ y. f (v y)) x xs))

-- ---- a line, and what follows it
line_one : (w rest : List ℕ) → line (w ∷ []) ++ rest ≡ w ++ (codes "\n" ++ rest)
line_one w rest = append_assoc w (codes "\n") rest

line_two : (v w rest : List ℕ)
    → line (v ∷ w ∷ []) ++ rest ≡ v ++ (next_word w ++ (codes "\n" ++ rest))
line_two v w rest = append_assoc v (codes " " ++ line (w ∷ [])) rest
    ∙ ap (λ (s : List ℕ). v ++ (codes " " ++ s)) (line_one w rest)

line_three : (u v w rest : List ℕ)
    → line (u ∷ v ∷ w ∷ []) ++ rest ≡ u ++ (next_word v ++ (next_word w ++ (codes "\n" ++ rest)))
line_three u v w rest = append_assoc u (codes " " ++ line (v ∷ w ∷ [])) rest
    ∙ ap (λ (s : List ℕ). u ++ (codes " " ++ s)) (line_two v w rest)

line_four : (t u v w rest : List ℕ)
    → line (t ∷ u ∷ v ∷ w ∷ []) ++ rest
    ≡ t ++ (next_word u ++ (next_word v ++ (next_word w ++ (codes "\n" ++ rest))))
line_four t u v w rest = append_assoc t (codes " " ++ line (u ∷ v ∷ w ∷ [])) rest
    ∙ ap (λ (s : List ℕ). t ++ (codes " " ++ s)) (line_three u v w rest)

-- three words, and a text behind them
words_then : (a b c t : List ℕ)
    → (next_word a ++ (next_word b ++ next_word c)) ++ t
    ≡ next_word a ++ (next_word b ++ (next_word c ++ t))
words_then a b c t = append_assoc (next_word a) (next_word b ++ next_word c) t
    ∙ ap (λ (s : List ℕ). next_word a ++ s) (append_assoc (next_word b) (next_word c) t)

-- ---- the parts
pub ring_words : (corners given : List Point) (n : ℕ) → n ≡ length corners → given ≡ corners
    → codes "RING" ++ (next_word (decimal n) ++ (codes "\n" ++ flat_map corner_line given))
    ≡ ring_text corners
ring_words corners given n e q =
    rw (e, q) (sym
    (line_two (codes "RING") (decimal (length corners)) (flat_map corner_line corners)))

pub object_words : (o : ObjectPolygon) (l n : ℕ) (rings : List Ring) → l ≡ o.line
    → n ≡ length o.polygon.rings.items → rings ≡ o.polygon.rings.items
    → codes "POINT"
    ++ (next_word (decimal l)
    ++ (next_word (decimal n) ++ (codes "\n" ++ flat_map ring_text (shapes rings))))
    ≡ object_text (object_view o)
object_words o l n rings e q r =
    let rest = flat_map ring_text (shapes o.polygon.rings.items) in
    rw (e, q, r)
    (sym (line_three (codes "POINT") (decimal o.line) (decimal (length o.polygon.rings.items)) rest)
    ∙ ap (λ (k : ℕ). line (codes "POINT" ∷ decimal o.line ∷ decimal k ∷ []) ++ rest)
    (sym (length-map o.polygon.rings.items (λ (ring : Ring). ring.corners.items))))

pub counted_words : (objects : List ObjectPolygon)
    → next_word (decimal (length objects))
    ++ (codes "\n" ++ flat_map object_text (map object_view objects))
    ≡ rest_text (Some (map object_view objects))
counted_words objects =
    ap (λ (k : ℕ). next_word (decimal k)
    ++ (codes "\n" ++ flat_map object_text (map object_view objects)))
    (sym (length-map objects object_view))

pub area_words : (a : AreaPolygons)
    → (codes "AREA" ++ (next_word a.topic ++ (next_word a.table ++ next_word a.attribute)))
    ++ rest_text (objects_view a.objects) ≡ area_text (view a)
area_words a =
    let o = objects_view a.objects in
    ap (λ (s : List ℕ). codes "AREA" ++ s) (words_then a.topic a.table a.attribute (rest_text o))
    ∙ sym (ap (λ (s : List ℕ). codes "AREA " ++ s)
    (line_four a.topic a.table a.attribute (count_word o)
    (flat_map object_text (objects_of o))))

pub text_words : (areas : List AreaPolygons)
    → codes "ITFPOLY 1\n"
    ++ (codes "AREAS"
    ++ (next_word (decimal (length areas))
    ++ (codes "\n" ++ (flat_map area_text (views areas) ++ codes "END\n"))))
    ≡ polygons_text (views areas)
text_words areas =
    let rest = flat_map area_text (views areas) ++ codes "END\n" in
    ap (λ (k : ℕ). codes "ITFPOLY 1\n"
    ++ (codes "AREAS" ++ (next_word (decimal k) ++ (codes "\n" ++ rest))))
    (sym (length-map areas view))
    ∙ ap (λ (s : List ℕ). codes "ITFPOLY 1\n" ++ s)
    (sym (line_two (codes "AREAS") (decimal (length (views areas))) rest))
