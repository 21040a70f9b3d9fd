-- A list that is made of another one, element by element.
use Rattle.std.proofs.Common.{◌≡◌, ℕ, ◌+◌, ◌<◌, List, [], ◌∷◌, ◌++◌, length, map, take, get_or, sym}
use Rattle.std.proofs.Common.{ap, ◌∙◌}
use Rattle.std.proofs.lemmas.List.{append_assoc, map-append, take_more}

pub collected : {X Y W Z : Type 0} (f : X → Z) (h : Y → W) (g : W → Z) (xs new : List X) (x : X)
    (ys : List Y) (i : ℕ) (y : Y)
    → i < length ys → y ≡ get_or ys i y
    → new ≡ xs ++ x ∷ [] → f x ≡ g (h y) → map f xs ≡ map g (map h (take i ys))
    → map f new ≡ map g (map h (take (i + 1) ys))
collected {X} {Y} {W} {Z} f h g xs new x ys i y lt at n e inv =
    let front = map g (map h (take i ys)) in
    let more : map g (map h (take (i + 1) ys)) ≡ front ++ g (h y) ∷ [] =
    ap (λ (l : List Y). map g (map h l)) (take_more ys i y lt)
    ∙ (ap (map g) (map-append h (take i ys) (get_or ys i y ∷ []))
    ∙ (map-append g (map h (take i ys)) (h (get_or ys i y) ∷ [])
    ∙ ap (λ (v : Y). front ++ g (h v) ∷ []) (sym at))) in
    ap (map f) n
    ∙ (map-append f xs (x ∷ [])
    ∙ (ap (λ (l : List Z). l ++ f x ∷ []) inv ∙ (ap (λ (z : Z). front ++ z ∷ []) e ∙ sym more)))

pub collected_front : {X W Z : Type 0} (f : X → Z) (g : W → Z) (xs new : List X) (x : X)
    (ws : List W) (w : W) (more : List W) (all : List Z)
    → ws ≡ w ∷ more
    → new ≡ xs ++ x ∷ [] → f x ≡ g w → map f xs ++ map g ws ≡ all → map f new ++ map g more ≡ all
collected_front {X} {W} {Z} f g xs new x ws w more all e n h inv =
    ap (λ (l : List X). map f l ++ map g more) n
    ∙ (ap (λ (l : List Z). l ++ map g more) (map-append f xs (x ∷ [])
    ∙ ap (λ (z : Z). map f xs ++ z ∷ []) h)
    ∙ (append_assoc (map f xs) (g w ∷ []) (map g more)
    ∙ (ap (λ (l : List W). map f xs ++ map g l) (sym e) ∙ inv)))
