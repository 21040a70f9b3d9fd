-- Lists that go together, one element more of each.
use Rattle.std.proofs.Common.{◌≡◌, ℕ, zero, suc, ◌+◌, ◌<◌, List, [], ◌∷◌, ◌++◌, length, map, take}
use Rattle.std.proofs.Common.{get_or, refl, sym, ap, ◌∙◌, subst, arith}
use Rattle.std.specs.List.{AllZip}
use Rattle.std.proofs.lemmas.List.{length-map, get_or-map, map-append}
use Rattle.itf_reader.specs.Forms.{Row}
use Rattle.table_layout.specs.Layouts.{AreaOf, Layout}
use Rattle.table_layout.specs.Values.{area_view, areas_view}
use Rattle.table_layout.specs.declared.layouts.AreaOf as area
use Rattle.plane.specs.Rule.Plans.{Plan, plan}
use Rattle.plane.specs.declared.drawing.Drawing.{Drawing}
use Rattle.area_drawings.specs.Drawings.{IsDrawing}

abbrev plans : List Drawing → List Plan
plans ds = map plan ds

zip_more : {A B : Type 0} (R : A → B → Type 0) (xs : List A) (ys : List B) (i : ℕ) (x : A) (y : B)
    → i < length xs → x ≡ get_or xs i x → AllZip R (take i xs) ys → R x y
    → AllZip R (take (suc i) xs) (ys ++ y ∷ [])
zip_more R [] ys i x y l e h r = absurd (omega (arith, l))
zip_more R (a ∷ xs) [] zero x y l e h r = (subst (λ z. R z y) e r, tt)
zip_more R (a ∷ xs) (b ∷ ys) zero x y l e h r = absurd h
zip_more R (a ∷ xs) [] (suc i) x y l e h r = absurd h
zip_more R (a ∷ xs) (b ∷ ys) (suc i) x y l e h r =
    (h.0, zip_more R xs ys i x y (omega (arith, l)) e h.1 r)

module _ {X Y B : Type 0} (f : X → Y) (R : Y → B → Type 0) (xs : List X) (i : ℕ) (x : X)
    (l : i < length xs) (e : x ≡ get_or xs i x) where
  pub seen_more : (old new : List B) (y : B) → new ≡ old ++ y ∷ []
      → AllZip R (take i (map f xs)) old → R (f x) y → AllZip R (take (i + 1) (map f xs)) new
  seen_more old new y n h r =
      let one : suc i ≡ i + 1 = omega arith in
      let m = length-map xs f in
      subst (AllZip R (take (i + 1) (map f xs))) (sym n)
      (subst (λ (k : ℕ). AllZip R (take k (map f xs)) (old ++ y ∷ [])) one
      (zip_more R (map f xs) old i (f x) y (omega (arith, l, m)) (ap f e
      ∙ sym (get_or-map f xs i x (f x) l)) h r))

pub drawn_more : (R : AreaOf → Plan → Type 0) (xs : List area.AreaOf) (i : ℕ) (x : area.AreaOf)
    (old new : List Drawing) (d : Drawing)
    → i < length xs → x ≡ get_or xs i x → new ≡ old ++ d ∷ []
    → AllZip R (take i (areas_view xs)) (plans old) → R (area_view x) (plan d)
    → AllZip R (take (i + 1) (areas_view xs)) (plans new)
drawn_more R xs i x old new d l e n h r =
    seen_more area_view R xs i x l e (plans old) (plans new) (plan d) (ap plans n
    ∙ map-append plan old (d ∷ [])) h r

-- there are as many drawings as areas
pub drawn_count : (l : Layout) (rows : List (List Row)) (as_ : List area.AreaOf) (ds : List Drawing)
    → AllZip (IsDrawing l rows) (areas_view as_) (plans ds) → length ds ≡ length as_
drawn_count l rows [] [] h = refl
drawn_count l rows [] (d ∷ ds) h = absurd h
drawn_count l rows (a ∷ as_) [] h = absurd h
drawn_count l rows (a ∷ as_) (d ∷ ds) h = ap suc (drawn_count l rows as_ ds h.1)
