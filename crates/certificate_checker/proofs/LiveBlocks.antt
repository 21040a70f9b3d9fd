-- Edges in blocks.
use Rattle.std.proofs.Common.{◌≡◌, ℕ, zero, suc, ◌+◌, ◌-◌, ◌<◌, ◌≤◌, List, [], ◌∷◌, ◌++◌}
use Rattle.std.proofs.Common.{length, take, drop, replicate, get_or, set, refl, arith, ap, sym, ◌∙◌, subst}
use Rattle.std.proofs.Common.{append_assoc, append-nil}
use Rattle.std.proofs.lemmas.List.{get_or_default, get_or_read, length-append, length-drop}
use Rattle.std.proofs.lemmas.List.{length-take-le, take_more_set}
use Rattle.std.proofs.Math.Seq.{take-add}
use Rattle.straight_predicates.specs.Chunks.{IsAt, joined}
use Rattle.straight_predicates.proofs.ChunkSearch.{copied_more}
use Rattle.straight_predicates.proofs.Joined.{joined-append, read_at}

pub none_joined : (n : ℕ) → joined {T = ℕ} (replicate n []) ≡ []
none_joined zero = refl
none_joined (suc n) = none_joined n

-- what is read of a block, by another default
pub read_again : (bs : List (List ℕ)) (b : ℕ) (d : List ℕ) → b < length bs
    → get_or bs b d ≡ get_or bs b (get_or bs b d)
read_again bs b d l = get_or_default bs b d (get_or bs b d) l

pub edge_at_spot : (bs : List (List ℕ)) (place b o : ℕ) (x y : List ℕ) (d : ℕ)
    → IsAt bs place b o → x ≡ get_or bs b x → y ≡ x → place < length (joined bs)
    → get_or y o 0 ≡ get_or (joined bs) place d
edge_at_spot bs place b o x y d at r e l =
    let f = get_or_read bs b x at.known r [] in
    let i = at.inside l in
    ap (λ xs. get_or xs o 0) e
    ∙ read_at bs place b o at x r l (get_or x o 0) d
    (get_or_default x o 0 (get_or x o 0) (subst (λ xs. o < length xs) (sym f) i))

-- one part more behind others
pub appended_more : (xs old now new : List ℕ) (from done more : ℕ)
    → now ≡ old ++ take done (drop from xs) → new ≡ now ++ take more (drop (from + done) xs)
    → new ≡ old ++ take (done + more) (drop from xs)
appended_more xs old now new from done more e f =
    f ∙ ap (λ ys. ys ++ take more (drop (from + done) xs)) e
    ∙ append_assoc old (take done (drop from xs)) (take more (drop (from + done) xs))
    ∙ ap (λ ys. old ++ ys) (copied_more xs (take done (drop from xs)) _ from done more refl refl)

pub appended_size : (xs old new : List ℕ) (from done : ℕ) → from + done ≤ length xs
    → new ≡ old ++ take done (drop from xs) → length new ≡ length old + done
appended_size xs old new from done w e =
    let a = ap length e in
    let b = length-append old (take done (drop from xs)) in
    let d = length-drop from xs in
    let t = length-take-le done (drop from xs) (omega (arith, d, w)) in omega (arith, a, b, t)

-- one block more is filled
pub spread_more : (bs : List (List ℕ)) (edges new : List ℕ) (i from n : ℕ) → i < length bs
    → joined (take i bs) ≡ take from edges → new ≡ take ((from + n) - from) (drop from edges)
    → joined (take (i + 1) (set bs i new)) ≡ take (from + n) edges
spread_more bs edges new i from n l e f =
    ap joined (take_more_set bs i new l) ∙ joined-append (take i bs) (new ∷ [])
    ∙ ap (λ xs. xs ++ joined (new ∷ [])) e
    ∙ ap (λ xs. take from edges ++ xs) (append-nil new ∙ f
    ∙ ap (λ (k : ℕ). take k (drop from edges)) (rest from n))
    ∙ sym (take-add from n edges)
  where
    rest : (from n : ℕ) → (from + n) - from ≡ n
    rest from n = omega arith
