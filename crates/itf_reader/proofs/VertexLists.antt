-- Vertices whose fields are kept in one list, and a further one.
use Rattle.std.proofs.Common.{◌≡◌, ℕ, Bool, false, Result, Ok, Err, zero, suc, ◌+◌, ◌-◌, ◌≤◌, List}
use Rattle.std.proofs.Common.{[], ◌∷◌, ◌++◌, length, take, drop, refl, ap, sym, ◌∙◌, arith}
use Rattle.std.proofs.lemmas.List.{length-append, take-append-le}
use Rattle.std.specs.Result.{OnOk, is_err}
use Rattle.itf_reader.specs.declared.vertices.Head.{Head}
use Rattle.itf_reader.specs.Forms.{Vertex, vertex}
use Rattle.itf_reader.specs.VertexLists.{kind_of, with_fields, field_count}

drop_front : {A : Type 0} (n : ℕ) (xs ys : List A) → n ≤ length xs
    → drop n (xs ++ ys) ≡ drop n xs ++ ys
drop_front zero xs ys h = refl
drop_front (suc n) [] ys h = absurd (omega arith)
drop_front (suc n) (x ∷ xs) ys h = drop_front n xs ys (omega arith)

length_after : {A : Type 0} (n m : ℕ) (xs : List A) → n + m ≡ length xs → m ≡ length (drop n xs)
length_after zero m xs h = omega (arith, h)
length_after (suc n) m [] h = absurd (omega arith)
length_after (suc n) m (x ∷ xs) h = length_after n m xs (omega arith)

take_all : {A : Type 0} (n : ℕ) (xs : List A) → n ≡ length xs → take n xs ≡ xs
take_all zero [] h = refl
take_all zero (x ∷ xs) h = absurd (omega arith)
take_all (suc n) [] h = absurd (omega arith)
take_all {A} (suc n) (x ∷ xs) h = ap (λ (l : List A). x ∷ l) (take_all n xs (omega arith))

-- one more vertex with its fields
pub with_fields_push : (hs : List Head) (fs : List (List ℕ)) (h : Head) (gs : List (List ℕ))
    → field_count hs ≡ length fs → h.count ≡ length gs
    → with_fields (hs ++ h ∷ []) (fs ++ gs)
    ≡ with_fields hs fs ++ vertex (kind_of h.kind) h.line gs ∷ []
with_fields_push [] [] h gs e n =
    ap (λ (l : List (List ℕ)). vertex (kind_of h.kind) h.line l ∷ []) (take_all h.count gs n)
with_fields_push [] (f ∷ fs) h gs e n = absurd (omega arith)
with_fields_push (x ∷ hs) fs h gs e n =
    rw (take-append-le x.count fs gs (omega arith), drop_front x.count fs gs (omega arith))
    (ap (λ (l : List Vertex). vertex (kind_of x.kind) x.line (take x.count fs) ∷ l)
    (with_fields_push hs (drop x.count fs) h gs (length_after x.count (field_count hs) fs e) n))

pub field_count_push : (hs : List Head) (h : Head)
    → field_count (hs ++ h ∷ []) ≡ field_count hs + h.count
field_count_push [] h = omega arith
field_count_push (x ∷ hs) h = let e = field_count_push hs h in omega (arith, e)

pub length_with_fields : (hs : List Head) (fs : List (List ℕ))
    → length (with_fields hs fs) ≡ length hs
length_with_fields [] fs = refl
length_with_fields (h ∷ hs) fs = ap suc (length_with_fields hs (drop h.count fs))

-- the same, where each part was added or memory ran out
pub push_counted : {V E : Type 0} (r : Result V E) (hs new : List Head) (h : Head)
    (fs kept gs : List (List ℕ))
    → false ≡ is_err r → OnOk r (new ≡ hs ++ h ∷ []) → OnOk r (kept ≡ fs ++ gs)
    → field_count hs ≡ length fs → h.count ≡ length gs → field_count new ≡ length kept
push_counted (Ok u) hs new h fs kept gs t a b inv n =
    let x = field_count_push hs h in
    let y = length-append fs gs in
    let p = ap field_count a in
    let q = ap length b in
    omega (arith, x, y, p, q, inv, n)
push_counted (Err e) hs new h fs kept gs t a b inv n = cc

pub pushed : {V E : Type 0} (r : Result V E) (hs new : List Head) (h : Head)
    (fs kept gs : List (List ℕ)) (vs : List Vertex)
    → OnOk r (new ≡ hs ++ h ∷ []) → OnOk r (kept ≡ fs ++ gs)
    → field_count hs ≡ length fs → h.count ≡ length gs → vs ≡ with_fields hs fs
    → OnOk r (with_fields new kept ≡ vs ++ vertex (kind_of h.kind) h.line gs ∷ [])
pushed (Ok u) hs new h fs kept gs vs a b inv n v = rw (a, b, v) (with_fields_push hs fs h gs inv n)
pushed (Err e) hs new h fs kept gs vs a b inv n v = tt

-- all fields, where no more are asked for
none_of_none : {A : Type 0} (n : ℕ) → ◌≡◌ {A = List A} [] (take n [])
none_of_none zero = refl
none_of_none (suc n) = refl

pub taken_whole : {A : Type 0} (n : ℕ) (xs : List A) → length xs ≤ n → xs ≡ take n xs
taken_whole n [] h = none_of_none n
taken_whole zero (x ∷ xs) h = absurd (omega arith)
taken_whole {A} (suc n) (x ∷ xs) h = ap (λ (l : List A). x ∷ l) (taken_whole n xs (omega arith))

pub none_after : {A : Type 0} (n : ℕ) (xs : List A) → length xs ≤ n → [] ≡ drop n xs
none_after zero [] h = refl
none_after (suc n) [] h = refl
none_after zero (x ∷ xs) h = absurd (omega arith)
none_after (suc n) (x ∷ xs) h = none_after n xs (omega arith)
