-- Lists that are kept once, and the findings of each.
use Rattle.std.proofs.Common.{◌≡◌, ℕ, zero, suc, ◌+◌, ◌<◌, ◌≤◌, List, [], ◌∷◌, ◌++◌, length, map}
use Rattle.std.proofs.Common.{take, get_or, refl, sym, subst, ap, ◌∙◌, arith, append_assoc}
use Rattle.std.proofs.Common.{append-nil, Option, Result, Ok, Err, OnOk}
use Rattle.std.specs.List.{flat_map, All}
use Rattle.std.proofs.lemmas.List.{length-map, map-append, take_more}
use Rattle.ili_grammar.specs.Syntax.{Codes}
use Rattle.resolver.specs.declared.models.Places.{Places}
use Rattle.resolver.specs.Values.{places_of}
use Rattle.table_layout.specs.Layouts.{Table}
use Rattle.itf_reader.specs.declared.findings.Code.{Code}
use Rattle.itf_reader.specs.declared.findings.Finding.{Finding as CodeFinding}
use Rattle.itf_reader.specs.Findings.{Other, Finding, finding_of, findings_of}
use Rattle.ident_refs.specs.declared.ident_lists.KeptList.{KeptList as CodeList}
use Rattle.ident_refs.specs.KeptRows.{Ref, KeptList, Kept, kept_list, kept_lists}
use Rattle.ident_refs.specs.SharedLists.{AreBare, bare_list, code_places, list_view, lists_view}
use Rattle.ident_refs.specs.SharedLists.{picked, picked_one}
use Rattle.ident_refs.proofs.KeptRefs.{flat_map_more}

-- ---- elements by their places
one_map : {X Y : Type 0} (g : X → Y) (xs : List X) (j : ℕ)
    → picked_one (map g xs) j ≡ map g (picked_one xs j)
one_map g [] zero = refl
one_map g [] (suc j) = refl
one_map g (x ∷ xs) zero = refl
one_map g (x ∷ xs) (suc j) = one_map g xs j

pub picked_map : {X Y : Type 0} (g : X → Y) (xs : List X) (order : List ℕ)
    → picked (map g xs) order ≡ map g (picked xs order)
picked_map g xs [] = refl
picked_map {X} {Y} g xs (j ∷ order) =
    ap (λ (l : List Y). l ++ picked (map g xs) order) (one_map g xs j)
    ∙ ap (λ (l : List Y). map g (picked_one xs j) ++ l) (picked_map g xs order)
    ∙ sym (map-append g (picked_one xs j) (picked xs order))

pub one_there : {X : Type 0} (xs : List X) (j : ℕ) (d : X) → j < length xs
    → picked_one xs j ≡ get_or xs j d ∷ []
one_there [] j d lt = absurd (omega (arith, lt))
one_there (x ∷ xs) zero d lt = refl
one_there (x ∷ xs) (suc j) d lt = one_there xs j d (omega (arith, lt))

one_beyond : {X : Type 0} (xs : List X) (j : ℕ) → length xs ≤ j → picked_one xs j ≡ []
one_beyond [] zero le = refl
one_beyond [] (suc j) le = refl
one_beyond (x ∷ xs) zero le = absurd (omega (arith, le))
one_beyond (x ∷ xs) (suc j) le = one_beyond xs j (omega (arith, le))

one_grown : {X : Type 0} (xs : List X) (x : X) (j : ℕ) → j < length xs
    → picked_one (xs ++ x ∷ []) j ≡ picked_one xs j
one_grown [] x j lt = absurd (omega (arith, lt))
one_grown (y ∷ xs) x zero lt = refl
one_grown (y ∷ xs) x (suc j) lt = one_grown xs x j (omega (arith, lt))

pub picked_grown : {X : Type 0} (xs : List X) (x : X) (n : ℕ) (order : List ℕ) → n ≡ length xs
    → All (λ j. j < n) order → picked (xs ++ x ∷ []) order ≡ picked xs order
picked_grown xs x n [] e h = refl
picked_grown {X} xs x n (j ∷ order) e h =
    let first : j < n = h 0 j (omega arith) in
    ap (λ (l : List X). l ++ picked (xs ++ x ∷ []) order)
    (one_grown xs x j (omega (arith, e, first)))
    ∙ ap (λ (l : List X). picked_one xs j ++ l)
    (picked_grown xs x n order e (λ i d lt. h (suc i) d (omega (arith, lt))))

-- ---- lists that are kept
pub grown_more : (old new : List CodeList) (x : CodeList) → new ≡ old ++ x ∷ [] → (order : List ℕ)
    → All (λ j. j < length old) order
    → picked (lists_view [] new) order ≡ picked (lists_view [] old) order
grown_more old new x e order h =
    ap (λ (l : List CodeList). picked (lists_view [] l) order) e
    ∙ ap (λ (l : List KeptList). picked l order) (map-append (list_view []) old (x ∷ []))
    ∙ picked_grown (lists_view [] old) (list_view [] x) (length old) order
    (sym (length-map old (list_view []))) h

known_one : (ls : List CodeList) (j : ℕ) (l : CodeList) (places : List ℕ) → AreBare ls
    → j < length ls → l ≡ get_or ls j l → l.places.now ≡ places
    → picked_one (lists_view [] ls) j ≡ bare_list places ∷ []
known_one ls j l places bare lt at e =
    ap (λ (v : List KeptList). picked_one v j) bare
    ∙ one_map bare_list (map code_places ls) j
    ∙ ap (map bare_list) (one_map code_places ls j ∙ ap (map code_places) (one_there ls j l lt))
    ∙ ap (λ (x : CodeList). bare_list (code_places x) ∷ []) (sym at)
    ∙ ap (λ (ps : List ℕ). bare_list ps ∷ []) e

pub known_within : (ls slice : List CodeList) (j : ℕ) (l : CodeList) (places : List ℕ) → AreBare ls
    → slice ≡ ls → j < length slice → l ≡ get_or slice j l → l.places.now ≡ places
    → picked_one (lists_view [] ls) j ≡ bare_list places ∷ []
known_within ls slice j l places bare e lt at p =
    known_one ls j l places bare (subst (λ (k : List CodeList). j < length k) e lt) (at
    ∙ ap (λ (k : List CodeList). get_or k j l) e) p

all_cons : (m x : ℕ) (xs : List ℕ) → x < m → All (λ j. j < m) xs → (i : ℕ) (d : ℕ)
    → i < length (x ∷ xs) → get_or (x ∷ xs) i d < m
all_cons m x xs h t zero d lt = h
all_cons m x xs h t (suc i) d lt = t i d (omega (arith, lt))

all_none : (m i : ℕ) (d : ℕ) → i < length {A = ℕ} [] → get_or [] i d < m
all_none m i d lt = absurd (omega (arith, lt))

all_within : (n m k : ℕ) (order : List ℕ) → All (λ j. j < n) order → n ≤ m → k < m
    → All (λ j. j < m) (order ++ k ∷ [])
all_within n m k [] h le lt = all_cons m k [] lt (all_none m)
all_within n m k (j ∷ order) h le lt =
    let first : j < n = h 0 j (omega arith) in
    all_cons m j (order ++ k ∷ []) (omega (arith, first, le))
    (all_within n m k order (λ i d l. h (suc i) d (omega (arith, l))) le lt)

pub all_within_more : (n m k : ℕ) (order more : List ℕ) → more ≡ order ++ k ∷ []
    → All (λ j. j < n) order → n ≤ m → k < m → All (λ j. j < m) more
all_within_more n m k order more e h le lt =
    subst (λ (l : List ℕ). All (λ j. j < m) l) (sym e) (all_within n m k order h le lt)

pub one_more : {X : Type 0} (xs : List X) (order : List ℕ) (k : ℕ)
    → picked xs (order ++ k ∷ []) ≡ picked xs order ++ picked_one xs k
one_more {X} xs order k = flat_map_more (picked_one xs) order (k ∷ [])
    ∙ ap (λ (l : List X). picked xs order ++ l) (append-nil (picked_one xs k))

abbrev own_places : Places → List ℕ
own_places p = p.places.items

pub list_step : (codes : Codes) (t : Table) (lists : List Places) (i : ℕ) (l : Places)
    (places : List ℕ) (old new : List KeptList) (order more : List ℕ) (k : ℕ)
    → i < length lists → l ≡ get_or lists i l → places ≡ l.places.items
    → more ≡ order ++ k ∷ [] → picked new order ≡ picked old order
    → picked_one new k ≡ bare_list places ∷ []
    → picked old order ≡ kept_lists codes t [] (places_of (take i lists))
    → picked new more ≡ kept_lists codes t [] (places_of (take (i + 1) lists))
list_step codes t lists i l places old new order more k lt at pe me grown own inv =
    let front = kept_lists codes t [] (places_of (take i lists)) in
    let rest : kept_lists codes t [] (places_of (take (i + 1) lists))
    ≡ front ++ kept_list codes t [] (get_or lists i l).places.items ∷ [] =
    ap (λ (q : List Places). kept_lists codes t [] (places_of q)) (take_more lists i l lt)
    ∙ (ap (map (kept_list codes t []))
    (map-append own_places (take i lists) (get_or lists i l ∷ []))
    ∙ map-append (kept_list codes t []) (places_of (take i lists))
    ((get_or lists i l).places.items ∷ [])) in
    ap (picked new) me ∙ one_more new order k
    ∙ ap (λ (z : List KeptList). z ++ picked_one new k) (grown ∙ inv)
    ∙ ap (λ (z : List KeptList). front ++ z) (own
    ∙ ap (λ (ps : List ℕ). bare_list ps ∷ []) (pe ∙ ap own_places at))
    ∙ sym rest

-- ---- a row is added
abbrev the_kept : Codes → Table → List ℕ → List (Option (List ℕ)) → List KeptList → List Ref → Kept
the_kept c t lines ids lists refs =
    record { codes = c; table = t; lines = lines; ids = ids; lists = lists; refs = refs }

pub kept_same : (c : Codes) (t : Table) (l m : List ℕ) (i j : List (Option (List ℕ)))
    (a b : List KeptList) (r s : List Ref)
    → l ≡ m → i ≡ j → a ≡ b → r ≡ s
    → ◌≡◌ {A = Kept} (record { codes = c; table = t; lines = l; ids = i; lists = a; refs = r })
    (record { codes = c; table = t; lines = m; ids = j; lists = b; refs = s })
kept_same c t l m i j a b r s le ie ae re =
    ap (λ (x : List ℕ). the_kept c t x i a r) le
    ∙ (ap (λ (x : List (Option (List ℕ))). the_kept c t m x a r) ie
    ∙ (ap (λ (x : List KeptList). the_kept c t m j x r) ae
    ∙ ap (λ (x : List Ref). the_kept c t m j b x) re))

pub on_ok_then : {X E P Q : Type 0} (r : Result X E) → (Q → P) → OnOk r Q → OnOk r P
on_ok_then (Ok x) f q = f q
on_ok_then (Err e) f q = tt

pub lists_taken : (g : KeptList → KeptList) (old new : List KeptList) (order : List ℕ)
    → new ≡ map g old → picked new order ≡ map g (picked old order)
lists_taken g old new order e = ap (λ (l : List KeptList). picked l order) e
    ∙ picked_map g old order

-- ---- findings
pub same_finding : (line column : ℕ) (c d : Code) (o p : Other) → c ≡ d → o ≡ p
    → ◌≡◌ {A = Finding} (record { line = line; column = column; code = c; other = o })
    (record { line = line; column = column; code = d; other = p })
same_finding line column c d o p ce oe =
    ap (λ (x : Code). made line column x o) ce ∙ ap (λ (x : Other). made line column d x) oe
  where
    made : ℕ → ℕ → Code → Other → Finding
    made line column code other = record {
      line = line;
      column = column;
      code = code;
      other = other;
    }

pub copies_step : (old new : List CodeFinding) (f : CodeFinding) (own : List CodeFinding) (i : ℕ)
    (x : CodeFinding) (start : List Finding)
    → i < length own → x ≡ get_or own i x → new ≡ old ++ f ∷ []
    → finding_of f ≡ finding_of x → findings_of old ≡ start ++ findings_of (take i own)
    → findings_of new ≡ start ++ findings_of (take (i + 1) own)
copies_step old new f own i x start lt at n e inv =
    let more : findings_of (take (i + 1) own)
    ≡ findings_of (take i own) ++ finding_of (get_or own i x) ∷ [] =
    ap findings_of (take_more own i x lt)
    ∙ map-append finding_of (take i own) (get_or own i x ∷ []) in
    ap findings_of n ∙ map-append finding_of old (f ∷ [])
    ∙ ap (λ (l : List Finding). l ++ finding_of f ∷ []) inv
    ∙ append_assoc start (findings_of (take i own)) (finding_of f ∷ [])
    ∙ ap (λ (z : Finding). start ++ (findings_of (take i own) ++ z ∷ [])) (e ∙ ap finding_of at)
    ∙ ap (λ (l : List Finding). start ++ l) (sym more)

pub found_some : {X Z : Type 0} (f : X → List Z) (xs : List X) (j : ℕ) (x : X) (old new : List Z)
    → j < length xs → x ≡ get_or xs j x → new ≡ old ++ f x
    → new ≡ old ++ flat_map f (picked_one xs j)
found_some {X} {Z} f xs j x old new lt at n =
    n ∙ ap (λ (l : List Z). old ++ l)
    (sym (ap (flat_map f) (one_there xs j x lt ∙ ap (λ (y : X). y ∷ []) (sym at))
    ∙ append-nil (f x)))

pub found_none : {X Z : Type 0} (f : X → List Z) (xs : List X) (j : ℕ) (old : List Z)
    → length xs ≤ j → old ≡ old ++ flat_map f (picked_one xs j)
found_none {X} {Z} f xs j old le =
    sym (ap (λ (l : List X). old ++ flat_map f l) (one_beyond xs j le) ∙ append-nil old)

flat_as : {X Z : Type 0} (f : X → List Z) (xs : List X)
    → flat_map f xs ≡ flat_map (λ (l : List Z). l) (map f xs)
flat_as f [] = refl
flat_as {X} {Z} f (x ∷ xs) = ap (λ (l : List Z). f x ++ l) (flat_as f xs)

flat_one : {X Y Z : Type 0} (f : X → List Z) (g : Y → List Z) (xs : List X) (ys : List Y) (j : ℕ)
    → map f xs ≡ map g ys → flat_map f (picked_one xs j) ≡ flat_map g (picked_one ys j)
flat_one {X} {Y} {Z} f g xs ys j e =
    flat_as f (picked_one xs j)
    ∙ ap (flat_map (λ (l : List Z). l)) (sym (one_map f xs j)
    ∙ ap (λ (l : List (List Z)). picked_one l j) e ∙ one_map g ys j)
    ∙ sym (flat_as g (picked_one ys j))

pub flat_all : {X Y Z : Type 0} (f : X → List Z) (g : Y → List Z) (xs : List X) (ys : List Y)
    (order : List ℕ)
    → map f xs ≡ map g ys
    → flat_map (λ j. flat_map f (picked_one xs j)) order ≡ flat_map g (picked ys order)
flat_all f g xs ys [] e = refl
flat_all {X} {Y} {Z} f g xs ys (j ∷ order) e =
    ap (λ (l : List Z). l ++ flat_map (λ j. flat_map f (picked_one xs j)) order)
    (flat_one f g xs ys j e)
    ∙ ap (λ (l : List Z). flat_map g (picked_one ys j) ++ l) (flat_all f g xs ys order e)
    ∙ sym (flat_map_more g (picked_one ys j) (picked ys order))

pub number_step : {Z : Type 0} (h : ℕ → List Z) (order : List ℕ) (i d : ℕ) (old new start : List Z)
    → i < length order → new ≡ old ++ h (get_or order i d)
    → old ≡ start ++ flat_map h (take i order) → new ≡ start ++ flat_map h (take (i + 1) order)
number_step {Z} h order i d old new start lt n inv =
    let k = get_or order i d in
    let more : flat_map h (take (i + 1) order) ≡ flat_map h (take i order) ++ h k =
    ap (flat_map h) (take_more order i d lt)
    ∙ (flat_map_more h (take i order) (k ∷ [])
    ∙ ap (λ (l : List Z). flat_map h (take i order) ++ l) (append-nil (h k))) in
    n ∙ ap (λ (l : List Z). l ++ h k) inv ∙ append_assoc start (flat_map h (take i order)) (h k)
    ∙ ap (λ (l : List Z). start ++ l) (sym more)

pub taken_all : {X : Type 0} (xs : List X) (i : ℕ) → length xs ≤ i → take i xs ≡ xs
taken_all [] zero le = refl
taken_all [] (suc i) le = refl
taken_all (x ∷ xs) zero le = absurd (omega (arith, le))
taken_all {X} (x ∷ xs) (suc i) le = ap (λ (l : List X). x ∷ l) (taken_all xs i (omega (arith, le)))
