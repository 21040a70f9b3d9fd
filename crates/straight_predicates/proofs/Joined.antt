-- A list in chunks, of which one is changed.
use Rattle.std.proofs.Common.{◌≡◌, ℕ, suc, ◌+◌, ◌-◌, ◌^◌, ◌<◌, ◌≤◌, min, List, [], ◌∷◌, ◌++◌}
use Rattle.std.proofs.Common.{length, take, drop, get_or, set, refl, arith, ap, sym, ◌∙◌, subst}
use Rattle.std.proofs.Common.{append_assoc, append-nil}
use Rattle.std.specs.List.{insert}
use Rattle.std.proofs.lemmas.List.{drop_all, length-drop, get_or-append-add, get_or_append_left}
use Rattle.std.proofs.lemmas.List.{get_or_read, length-set, take_more_set, drop-set-lt}
use Rattle.std.proofs.lemmas.List.{take-append-drop, take-append-le, drop-append-le, drop-drop}
use Rattle.std.proofs.lemmas.List.{length-append, set_split, take_more, drop_more}
use Rattle.std.proofs.Math.Seq.{take-append-add, drop-append-add}
use Rattle.straight_predicates.specs.Chunks.{IsAt, joined}

one_more : (n : ℕ) → suc n ≡ n + 1
one_more n = omega arith

pub joined-append : {T : Type 0} (cs bs : List (List T))
    → joined (cs ++ bs) ≡ joined cs ++ joined bs
joined-append [] bs = refl
joined-append (c ∷ cs) bs = ap (λ xs. c ++ xs) (joined-append cs bs)
    ∙ sym (append_assoc c (joined cs) (joined bs))

-- the values before, in and behind a chunk
pub joined_split : {T : Type 0} (bs : List (List T)) (b : ℕ) → b < length bs
    → joined bs ≡ joined (take b bs) ++ (get_or bs b [] ++ joined (drop (b + 1) bs))
joined_split bs b l =
    ap joined (sym (take-append-drop b bs)) ∙ joined-append (take b bs) (drop b bs)
    ∙ ap (λ cs. joined (take b bs) ++ joined cs) (drop_more bs b [] l)

pub joined_more : {T : Type 0} (bs : List (List T)) (b : ℕ) → b < length bs
    → joined (take (b + 1) bs) ≡ joined (take b bs) ++ get_or bs b []
joined_more bs b l = ap joined (take_more bs b [] l)
    ∙ joined-append (take b bs) (get_or bs b [] ∷ [])
    ∙ ap (λ xs. joined (take b bs) ++ xs) (last (get_or bs b []))
  where
    last : {T : Type 0} (xs : List T) → joined (xs ∷ []) ≡ xs
    last [] = refl
    last (x ∷ xs) = ap (λ ys. x ∷ ys) (last xs)

pub size_more : {T : Type 0} (bs : List (List T)) (b : ℕ) → b < length bs
    → length (joined (take (b + 1) bs)) ≡ length (joined (take b bs)) + length (get_or bs b [])
size_more bs b l = ap length (joined_more bs b l)
    ∙ length-append (joined (take b bs)) (get_or bs b [])

-- the chunks up to some are no longer than all
pub size_split : {T : Type 0} (bs : List (List T)) (b : ℕ) → b < length bs
    → length (joined bs) ≡ length (joined (take (b + 1) bs)) + length (joined (drop (b + 1) bs))
size_split bs b l =
    ap length (ap joined (sym (take-append-drop (b + 1) bs))
    ∙ joined-append (take (b + 1) bs) (drop (b + 1) bs))
    ∙ length-append (joined (take (b + 1) bs)) (joined (drop (b + 1) bs))

pub same_read : {T : Type 0} (bs : List (List T)) (chunk : ℕ) (x y : List T) → chunk < length bs
    → x ≡ get_or bs chunk x → y ≡ get_or bs chunk y → x ≡ y
same_read bs chunk x y l e f = get_or_read bs chunk x l e y ∙ sym f

-- the next chunk, where the place is behind this one
pub find_next : {T : Type 0} (bs : List (List T)) (place chunk offset size : ℕ) (x : List T)
    → chunk + 1 < length bs → length (joined (take chunk bs)) + offset ≡ place
    → x ≡ get_or bs chunk x → size ≡ length x → size ≤ offset
    → length (joined (take (chunk + 1) bs)) + (offset - size) ≡ place
find_next bs place chunk offset size x k i r e l =
    let l1 : chunk < length bs = omega (arith, k) in
    let m = size_more bs chunk l1 in
    let n = ap length (get_or_read bs chunk x l1 r []) in
    omega (arith, m, n, i, e, l)

pub found : {T : Type 0} (bs : List (List T)) (place chunk offset size : ℕ) (x : List T)
    → chunk < length bs → length (joined (take chunk bs)) + offset ≡ place
    → x ≡ get_or bs chunk x → size ≡ length x → offset < size → IsAt bs place chunk offset
found bs place chunk offset size x k i r e l =
    let n = ap length (get_or_read bs chunk x k r []) in
    record {
      known = k;
      is = i;
      within = omega (arith, n, e, l);
      inside = λ _. omega (arith, n, e, l);
    }

pub found_last : {T : Type 0} (bs : List (List T)) (place chunk offset : ℕ) → chunk < length bs
    → length bs ≤ chunk + 1 → length (joined (take chunk bs)) + offset ≡ place
    → place ≤ length (joined bs)
    → IsAt bs place chunk offset
found_last bs place chunk offset k last i w =
    let m = size_more bs chunk k in
    let n = size_split bs chunk k in
    let z = ap (λ cs. length (joined cs)) (drop_all (chunk + 1) bs last) in
    record {
      known = k;
      is = i;
      within = omega (arith, m, n, z, i, w);
      inside = λ l. omega (arith, m, n, z, i, l);
    }

module _ {T : Type 0} (bs : List (List T)) (place chunk offset : ℕ)
    (at : IsAt bs place chunk offset) where
  abbrev pub the_chunk : List T
  the_chunk = get_or bs chunk []

  abbrev pub before : List T
  before = joined (take chunk bs)

  abbrev pub behind : List T
  behind = joined (drop (chunk + 1) bs)

  parts : joined bs ≡ before ++ (the_chunk ++ behind)
  parts = joined_split bs chunk at.known

  -- what stands before the place and what from it on
  pub front : take place (joined bs) ≡ before ++ take offset the_chunk
  front =
      ap (λ xs. take place xs) parts
      ∙ ap (λ (n : ℕ). take n (before ++ (the_chunk ++ behind))) (sym at.is)
      ∙ take-append-add before (the_chunk ++ behind) offset
      ∙ ap (λ xs. before ++ xs) (take-append-le offset the_chunk behind at.within)

  pub back : drop place (joined bs) ≡ drop offset the_chunk ++ behind
  back =
      ap (λ xs. drop place xs) parts
      ∙ ap (λ (n : ℕ). drop n (before ++ (the_chunk ++ behind))) (sym at.is)
      ∙ drop-append-add before (the_chunk ++ behind) offset
      ∙ drop-append-le offset the_chunk behind at.within

  pub back_more : (count : ℕ) → offset + count ≤ length the_chunk
      → drop (place + count) (joined bs) ≡ drop (offset + count) the_chunk ++ behind
  back_more count w =
      sym (drop-drop count place (joined bs))
      ∙ ap (λ xs. drop count xs) back
      ∙ drop-append-le count (drop offset the_chunk) behind (let e = length-drop offset the_chunk in
      omega (arith, e, w))
      ∙ ap (λ xs. xs ++ behind) (drop-drop count offset the_chunk)

  -- another chunk in its place
  pub with_chunk : (new : List T) → joined (set bs chunk new) ≡ before ++ (new ++ behind)
  with_chunk new =
      ap joined (set_split bs chunk new at.known)
      ∙ joined-append (take chunk bs) (new ∷ drop (suc chunk) bs)
      ∙ ap (λ (n : ℕ). before ++ (new ++ joined (drop n bs))) (one_more chunk)

  pub replaced : (with new : List T) (count : ℕ) (bs' : List (List T))
      → offset + count ≤ length the_chunk
      → new ≡ take offset the_chunk ++ (with ++ drop (offset + count) the_chunk)
      → bs' ≡ set bs chunk new
      → joined bs' ≡ take place (joined bs) ++ (with ++ drop (place + count) (joined bs))
  replaced with new count bs' w e f =
      ap joined f ∙ with_chunk new ∙ ap (λ xs. before ++ (xs ++ behind)) e
      ∙ ap (λ xs. before ++ xs)
      (append_assoc (take offset the_chunk) (with ++ drop (offset + count) the_chunk) behind)
      ∙ sym (append_assoc before (take offset the_chunk)
      ((with ++ drop (offset + count) the_chunk) ++ behind))
      ∙ ap (λ xs. xs ++ ((with ++ drop (offset + count) the_chunk) ++ behind)) (sym front)
      ∙ ap (λ xs. take place (joined bs) ++ xs)
      (append_assoc with (drop (offset + count) the_chunk) behind
      ∙ ap (λ xs. with ++ xs) (sym (back_more count w)))

  -- no value in the place of some
  pub removed : (new : List T) (count : ℕ) (bs' : List (List T)) → offset + count ≤ length the_chunk
      → new ≡ take offset the_chunk ++ drop (offset + count) the_chunk → bs' ≡ set bs chunk new
      → joined bs' ≡ take place (joined bs) ++ drop (place + count) (joined bs)
  removed new count bs' w e f = replaced [] new count bs' w e f

  -- all of the chunk taken out
  pub chunk_removed : (count : ℕ) (bs' : List (List T)) → 0 < count
      → count ≤ length the_chunk - offset → count ≡ length the_chunk
      → bs' ≡ take chunk bs ++ drop (suc chunk) bs
      → joined bs' ≡ take place (joined bs) ++ drop (place + count) (joined bs)
  chunk_removed count bs' p m l e =
      let z : offset ≡ 0 = omega (arith, p, m, l) in
      let head : take place (joined bs) ≡ before = front
      ∙ ap (λ (n : ℕ). before ++ take n the_chunk) z ∙ append-nil before in
      let rest : drop (place + count) (joined bs) ≡ behind = back_more count (omega (arith, z, l))
      ∙ ap (λ xs. xs ++ behind) (drop_all (offset + count) the_chunk (omega (arith, z, l))) in
      ap joined e ∙ joined-append (take chunk bs) (drop (suc chunk) bs)
      ∙ ap (λ (n : ℕ). before ++ joined (drop n bs)) (one_more chunk)
      ∙ sym (ap (λ xs. xs ++ drop (place + count) (joined bs)) head ∙ ap (λ xs. before ++ xs) rest)

  pub value_at : (d : T) → offset < length the_chunk
      → get_or (joined bs) place d ≡ get_or the_chunk offset d
  value_at d inside =
      ap (λ xs. get_or xs place d) parts
      ∙ ap (λ (n : ℕ). get_or (before ++ (the_chunk ++ behind)) n d) (sym at.is)
      ∙ get_or-append-add before (the_chunk ++ behind) offset d
      ∙ get_or_append_left the_chunk behind d offset inside

  -- ---- the same of the chunk x that was read

  read : (x : List T) → x ≡ get_or bs chunk x → x ≡ the_chunk
  read x r = get_or_read bs chunk x at.known r []

  pub read_at : (x : List T) → x ≡ get_or bs chunk x → place < length (joined bs) → (v d : T)
      → v ≡ get_or x offset v → v ≡ get_or (joined bs) place d
  read_at x r l v d f =
      let e = read x r in
      let i = at.inside l in
      get_or_read x offset v (subst (λ ys. offset < length ys) (sym e) i) f d
      ∙ ap (λ ys. get_or ys offset d) e ∙ sym (value_at d i)

  pub room_within : (x : List T) → x ≡ get_or bs chunk x → offset + 0 ≤ length x
  room_within x r = let w = at.within in let e = ap length (read x r) in omega (arith, w, e)

  pub put_at : (x with new : List T) (count : ℕ) → x ≡ get_or bs chunk x → offset + count ≤ length x
      → new ≡ take offset x ++ (with ++ drop (offset + count) x)
      → joined (set bs chunk new) ≡ take place (joined bs)
      ++ (with ++ drop (place + count) (joined bs))
  put_at x with new count r w e =
      replaced with new count (set bs chunk new)
      (subst (λ ys. offset + count ≤ length ys) (read x r) w)
      (subst (λ ys. new ≡ take offset ys ++ (with ++ drop (offset + count) ys)) (read x r) e)
      refl

  module _ (x : List T) (size count taken : ℕ) (r : x ≡ get_or bs chunk x) (e : size ≡ length x)
      (some : 0 < count) (within : place + count ≤ length (joined bs))
      (m : taken ≡ min count (size - offset)) where
    inside : offset < size
    inside =
        let l = at.inside (omega (arith, some, within)) in
        let n = ap length (read x r) in omega (arith, l, n, e)

    pub some_taken : 0 < taken
    some_taken = let l = inside in omega (arith, l, some, m)

    pub part_within : offset + taken ≤ length x
    part_within = let l = inside in omega (arith, l, m, e)

    pub part_taken : (new : List T) → new ≡ take offset x ++ drop (offset + taken) x
        → joined (set bs chunk new) ≡ take place (joined bs) ++ drop (place + taken) (joined bs)
    part_taken new f = put_at x [] new taken r part_within f

    pub chunk_taken : (bs' : List (List T)) → taken ≡ size
        → bs' ≡ take chunk bs ++ drop (suc chunk) bs
        → joined bs' ≡ take place (joined bs) ++ drop (place + taken) (joined bs)
    chunk_taken bs' q f =
        let n = ap length (read x r) in
        let s = some_taken in
        chunk_removed taken bs' s (omega (arith, m, n, e)) (omega (arith, q, n, e)) f

module _ {T : Type 0} (bs : List (List T)) (i place size : ℕ) (x : List T) (l : i < length bs)
    (p : place ≡ length (joined (take i bs))) (r : x ≡ get_or bs i x) (e : size ≡ length x) where
  pub start_more : place + size ≡ length (joined (take (i + 1) bs))
  start_more =
      let m = size_more bs i l in
      let n = ap length (get_or_read bs i x l r []) in omega (arith, m, n, p, e)

  pub start_fits : length (joined bs) < 2 ^ 64 → place + size < 2 ^ 64
  start_fits f = let m = start_more in let n = size_split bs i l in omega (arith, m, n, f)

-- a chunk cut in two
pub halved : {T : Type 0} (bs new : List (List T)) (chunk : ℕ) (x head tail : List T)
    → chunk < length bs → x ≡ get_or bs chunk x → head ++ tail ≡ x
    → new ≡ insert (set bs chunk head) (chunk + 1) tail
    → joined new ≡ joined bs
halved bs new chunk x head tail l r e f =
    let c = set bs chunk head in
    let n : chunk < length c = let s = length-set bs chunk head in omega (arith, s, l) in
    ap joined f ∙ joined-append (take (chunk + 1) c) (tail ∷ drop (chunk + 1) c)
    ∙ ap (λ xs. xs ++ (tail ++ joined (drop (chunk + 1) c)))
    (ap joined (take_more_set bs chunk head l) ∙ joined-append (take chunk bs) (head ∷ [])
    ∙ ap (λ xs. joined (take chunk bs) ++ xs) (append-nil head))
    ∙ ap (λ cs. (joined (take chunk bs) ++ head) ++ (tail ++ joined cs))
    (drop-set-lt (chunk + 1) bs chunk head (omega arith))
    ∙ append_assoc (joined (take chunk bs)) head (tail ++ joined (drop (chunk + 1) bs))
    ∙ ap (λ xs. joined (take chunk bs) ++ xs)
    (sym (append_assoc head tail (joined (drop (chunk + 1) bs)))
    ∙ ap (λ xs. xs ++ joined (drop (chunk + 1) bs)) (e ∙ get_or_read bs chunk x l r []))
    ∙ sym (joined_split bs chunk l)
