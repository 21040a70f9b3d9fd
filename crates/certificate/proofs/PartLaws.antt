-- The parts of a line: what is found is written there, and what is written there is found.
use Rattle.std.proofs.Common.{◌≡◌, ℕ, zero, suc, ◌+◌, ◌^◌, ◌<◌, Bool, true, false, cond, List, []}
use Rattle.std.proofs.Common.{◌∷◌, ◌++◌, length, get_or, take, drop, Option, Some, None, nat_eq}
use Rattle.std.proofs.Common.{nat_lt, refl, sym, ap, subst, ◌∙◌, arith}
use Rattle.std.specs.Prelude.{codes}
use Rattle.std.specs.Fmt.{decimal}
use Rattle.std.specs.Char.{is_ascii_digit}
use Rattle.std.specs.Str.{all_ascii_digits}
use Rattle.std.specs.Str.Parse.{digits_value}
use Rattle.std.specs.List.{prefix_len, AllByRecursion}
use Rattle.std.specs.Cmp.Lexicographic.{pointwise}
use Rattle.std.proofs.lemmas.Bool.Decides.{nat_tests}
use Rattle.std.proofs.lemmas.Bool.{eqb-true, ltb-true}
use Rattle.std.proofs.lemmas.List.{take_at, drop_at, take-append-drop}
use Rattle.std.proofs.lemmas.List.Folds.{length-prefix_len}
use Rattle.std.proofs.lemmas.Slice.Eq.{bytes_eq-Decides}
use Rattle.std.proofs.lemmas.Str.Parse.{IsNumeralModel, numerals_by_value, tells_all_ascii_digits}
use Rattle.std.proofs.lemmas.Fmt.{digits_decimal, digits_value-decimal, decimal-digits_value}
use Rattle.std.proofs.lemmas.Fmt.{decimal_nonempty, decimal_digit, first_decimal}
use Rattle.certificate.specs.declared.notes.Link.{Link}
use Rattle.certificate.specs.declared.notes.Link.TheVariants.{Root, Next, Prev, Across}
use Rattle.certificate.specs.declared.notes.HalfNote.{HalfNote}
use Rattle.certificate.specs.Spelling.{is_name_byte, IsName, link_word, side_word, FitsLink}
use Rattle.certificate.specs.Spelling.{FitsHalf}
use Rattle.certificate.specs.Parts.{◌>>=◌, after_word, front_of, name_at, has_leading_zero, number}
use Rattle.certificate.specs.Parts.{number_at, across, across_at, link_at, half_note, half_at}
use Rattle.certificate.specs.Parts.{side_at}
use Rattle.certificate.proofs.Digits.{front_is_digits, both_true}

-- a step that gave something had something before it
pub gave : {A B : Type 0} (o : Option A) (f : A → Option B) (y : B) → (o >>= f) ≡ Some y
    → (x : A) × (o ≡ Some x) × (f x ≡ Some y)
gave (Some x) f y h = (x, refl, h)
gave None f y h = absurd (cc)

pub chose : {A : Type 0} (b : Bool) (x y : A) → cond b (Some x) None ≡ Some y → (b ≡ true) × (x ≡ y)
chose true x y h = (refl, cc)
chose false x y h = absurd (cc)

pub chose_not : {A : Type 0} (b : Bool) (x y : A) → cond b None (Some x) ≡ Some y
    → (b ≡ false) × (x ≡ y)
chose_not true x y h = absurd (cc)
chose_not false x y h = (refl, cc)

pub cond_none : {A : Type 0} (b : Bool) (o : Option A) (y : A) → cond b None o ≡ Some y
    → (b ≡ false) × (o ≡ Some y)
cond_none true o y h = absurd (cc)
cond_none false o y h = (refl, h)

-- the same, where what follows is said of the value itself
pub then : {A B : Type 0} (o : Option A) (f : A → Option B) (y : B) (P : Type 0)
    → (o >>= f) ≡ Some y → ((x : A) → o ≡ Some x → f x ≡ Some y → P) → P
then (Some x) f y P h k = k x refl h
then None f y P h k = absurd (cc)

pub either_way : {A : Type 0} (b : Bool) (o q : Option A) (y : A) (P : Type 0) → cond b o q ≡ Some y
    → (b ≡ true → o ≡ Some y → P) → (q ≡ Some y → P) → P
either_way true o q y P h k l = k refl h
either_way false o q y P h k l = l h

pub some_is : {A : Type 0} (x y : A) → Some x ≡ Some y → x ≡ y
some_is x y e = cc

pub pair_is : {A B : Type 0} (m : A × B) (a : A) (b : B) → m.0 ≡ a → m.1 ≡ b → m ≡ (a, b)
pair_is {A = A} {B = B} m a b e f =
    let g : m ≡ (a, m.1) = ap (λ (x : A). (x, m.1)) e in g ∙ ap (λ (y : B). (a, y)) f

abbrev valueless : {A : Type 0} → List ℕ → Option (Option A × List ℕ)
valueless bytes = Some (None, bytes)

-- a line without a value is not one with a value
pub no_value : {A : Type 0} (a b : List ℕ) (x : A) → valueless a ≡ Some (Some x, b) → ⊥
no_value {A = A} a b x e =
    let f : (let o : Option A = None in o)
    ≡ Some x = ap (λ (y : Option A × List ℕ). y.0) (some_is (None, a) (Some x, b) e) in
    absurd (cc)

-- ---- words

pub after_word_gave : (word bytes rest : List ℕ) → after_word word bytes ≡ Some rest
    → bytes ≡ word ++ rest
after_word_gave word bytes rest h =
    let k = chose (pointwise nat_eq (take (length word) bytes) word)
    (drop (length word) bytes) rest h in
    let front : take (length word) bytes
    ≡ word = (bytes_eq-Decides (take (length word) bytes) word).0 k.0 in
    sym (take-append-drop (length word) bytes)
    ∙ ap (λ (w : List ℕ). w ++ drop (length word) bytes) front
    ∙ ap (λ (r : List ℕ). word ++ r) k.1

pub after_word_is : (word rest : List ℕ) → after_word word (word ++ rest) ≡ Some rest
after_word_is word rest =
    rw (
      take_at word rest (length word) refl,
      drop_at word rest (length word) refl,
      (bytes_eq-Decides word word).1 refl,
    ) refl

-- ---- runs

front_by_first : (p : ℕ → Bool) (c : ℕ) (xs : List ℕ) (b : Bool) → p c ≡ b
    → AllByRecursion (λ x. p x ≡ true) (take (prefix_len p xs) xs)
    → AllByRecursion (λ x. p x ≡ true) (take (cond b (1 + prefix_len p xs) 0) (c ∷ xs))
front_by_first p c xs true e h =
    let k : 1 + prefix_len p xs ≡ suc (prefix_len p xs) = omega arith in rw k (e, h)
front_by_first p c xs false e h = tt

front_passes : (p : ℕ → Bool) (xs : List ℕ)
    → AllByRecursion (λ x. p x ≡ true) (take (prefix_len p xs) xs)
front_passes p [] = tt
front_passes p (c ∷ xs) = front_by_first p c xs (p c) refl (front_passes p xs)

run_length : (p : ℕ → Bool) (xs : List ℕ) (c : ℕ) (rest : List ℕ)
    → AllByRecursion (λ x. p x ≡ true) xs → p c ≡ false
    → prefix_len p (xs ++ (c ∷ rest)) ≡ length xs
run_length p [] c rest h k = rw k refl
run_length p (x ∷ xs) c rest h k = let t = run_length p xs c rest h.1 k in rw (h.0, t) (omega arith)

-- what was found at the front is the run, and it is not empty
front_gave : {A : Type 0} (value : List ℕ → A) (p : ℕ → Bool) (bytes : List ℕ) (x : A)
    (rest : List ℕ)
    → front_of value (prefix_len p bytes) bytes ≡ Some (x, rest)
    → (run : List ℕ) × (run ≡ take (prefix_len p bytes) bytes) × (bytes ≡ run ++ rest)
    × (0 < length run) × (value run ≡ x)
front_gave {A = A} value p bytes x rest h =
    let n = prefix_len p bytes in
    let k = chose_not (nat_eq n 0) (value (take n bytes), drop n bytes) (x, rest) h in
    let e : drop n bytes ≡ rest = ap (λ (y : A × List ℕ). y.1) k.1 in
    let l = length-prefix_len p bytes in (
      take n bytes,
      refl,
      sym (take-append-drop n bytes)
          ∙ ap (λ (r : List ℕ). take n bytes ++ r) e,
      grind (arith, nat_tests, k.0, l),
      ap (λ (y : A × List ℕ). y.0) k.1,
    )

front_is : {A : Type 0} (value : List ℕ → A) (p : ℕ → Bool) (run : List ℕ) (c : ℕ) (rest : List ℕ)
    → AllByRecursion (λ x. p x ≡ true) run → 0 < length run → p c ≡ false
    → front_of value (prefix_len p (run ++ (c ∷ rest))) (run ++ (c ∷ rest))
    ≡ Some (value run, c ∷ rest)
front_is value p run c rest h l k =
    let e : nat_eq (length run) 0 ≡ false = grind (arith, nat_tests) in
    rw (
      run_length p run c rest h k,
      e,
      take_at run (c ∷ rest) (length run) refl,
      drop_at run (c ∷ rest) (length run) refl,
    ) refl

-- ---- names

pub name_gave : (bytes name rest : List ℕ) → name_at bytes ≡ Some (name, rest)
    → (bytes ≡ name ++ rest) × IsName name
name_gave bytes name rest h =
    let g = front_gave (λ name. name) is_name_byte bytes name rest h in
    let passes = front_passes is_name_byte bytes in
    let e : take (prefix_len is_name_byte bytes) bytes ≡ name = sym g.1 ∙ g.4 in (
      g.2 ∙ ap (λ (r : List ℕ). r ++ rest) g.4,
      record {
        some = subst (λ (r : List ℕ). 0 < length r) g.4 g.3;
        bytes = subst (AllByRecursion (λ c. is_name_byte c ≡ true)) e passes;
      },
    )

pub name_is : (name : List ℕ) (c : ℕ) (rest : List ℕ) → IsName name → is_name_byte c ≡ false
    → name_at (name ++ (c ∷ rest)) ≡ Some (name, c ∷ rest)
name_is name c rest h k = front_is (λ name. name) is_name_byte name c rest h.bytes h.some k

-- ---- numbers

own : IsNumeralModel (λ ds. all_ascii_digits ds ≡ true) (digits_value 10)
own = numerals_by_value (λ ds. all_ascii_digits ds ≡ true) tells_all_ascii_digits

pub each_digit : (ds : List ℕ) → all_ascii_digits ds ≡ true
    → AllByRecursion (λ c. is_ascii_digit c ≡ true) ds
each_digit [] h = tt
each_digit (d ∷ ds) h =
    let k = both_true (is_ascii_digit d) (all_ascii_digits ds) h in (k.0, each_digit ds k.1)

no_leading_zero : (ds : List ℕ) → has_leading_zero ds ≡ false → 0 < length ds → get_or ds 0 0 ≡ 48
    → length ds ≡ 1
no_leading_zero ds h l e = by_length (nat_lt 1 (length ds)) refl
  where
    by_length : (b : Bool) → nat_lt 1 (length ds) ≡ b → length ds ≡ 1
    by_length true t = absurd (let z : nat_eq (get_or ds 0 0) 48 ≡ true = rw e refl in cc)
    by_length false t = grind (arith, nat_tests)

number_spells : (ds : List ℕ) (n : ℕ) → all_ascii_digits ds ≡ true → 0 < length ds
    → number ds ≡ Some n → (decimal n ≡ ds) × (n < 2 ^ 32)
number_spells ds n h l e =
    let k = cond_none (has_leading_zero ds)
    (cond (nat_lt (digits_value 10 ds) (2 ^ 32)) (Some (digits_value 10 ds)) None) n e in
    let m = chose (nat_lt (digits_value 10 ds) (2 ^ 32)) (digits_value 10 ds) n k.1 in
    let lt : digits_value 10 ds < 2 ^ 32 = ltb-true _ _ m.0 in
    let d : decimal (digits_value 10 ds)
    ≡ ds = decimal-digits_value own ds h l (no_leading_zero ds k.0 l) (omega arith) in
    (subst (λ (v : ℕ). decimal v ≡ ds) m.1 d, subst (λ (v : ℕ). v < 2 ^ 32) m.1 lt)

leading_zero_of : (n : ℕ) → n < 2 ^ 32 → has_leading_zero (decimal n) ≡ false
leading_zero_of zero h = rw (decimal_digit 0 (omega arith)) refl
leading_zero_of (suc n) h =
    let f : 48 < get_or (decimal (suc n)) 0 0 = first_decimal (suc n) (omega arith) (omega arith) in
    let e : nat_eq (get_or (decimal (suc n)) 0 0) 48 ≡ false = grind (arith, nat_tests) in
    rw e refl

number_of : (n : ℕ) → n < 2 ^ 32 → number (decimal n) ≡ Some n
number_of n h =
    let v : digits_value 10 (decimal n) ≡ n = digits_value-decimal own n (omega arith) in
    let t : nat_lt n (2 ^ 32) ≡ true = grind (arith, nat_tests) in
    rw (leading_zero_of n h, v, t) refl

pub number_gave : (bytes : List ℕ) (n : ℕ) (rest : List ℕ) → number_at bytes ≡ Some (Some n, rest)
    → (bytes ≡ decimal n ++ rest) × (n < 2 ^ 32)
number_gave bytes n rest h =
    let g = front_gave number is_ascii_digit bytes (Some n) rest h in
    let digits : all_ascii_digits g.0 ≡ true = ap all_ascii_digits g.1 ∙ front_is_digits bytes in
    let s = number_spells g.0 n digits g.3 g.4 in
    (g.2 ∙ ap (λ (r : List ℕ). r ++ rest) (sym s.0), s.1)

pub decimal_digits : (n : ℕ) → n < 2 ^ 32 → all_ascii_digits (decimal n) ≡ true
decimal_digits n h = digits_decimal own n (omega arith)

pub number_is : (n c : ℕ) (rest : List ℕ) → n < 2 ^ 32 → is_ascii_digit c ≡ false
    → number_at (decimal n ++ (c ∷ rest)) ≡ Some (Some n, c ∷ rest)
number_is n c rest h k =
    let digits : all_ascii_digits (decimal n) ≡ true = digits_decimal own n (omega arith) in
    front_is number is_ascii_digit (decimal n) c rest (each_digit (decimal n) digits)
    (decimal_nonempty n (omega arith)) k
    ∙ ap (λ (o : Option ℕ). Some (o, c ∷ rest)) (number_of n h)

-- ---- links and sides

letter : (c d : ℕ) (k m : Link) (bytes rest : List ℕ) → nat_eq c d ≡ true → link_word k ≡ d ∷ []
    → FitsLink k → (let o : Option (Option Link × List ℕ) = Some (Some k, bytes) in o)
    ≡ Some (Some m, rest)
    → (c ∷ bytes ≡ link_word m ++ rest) × FitsLink m
letter c d k m bytes rest t w f e =
    let p = some_is (Some k, bytes) (Some m, rest) e in
    let same : k ≡ m = some_is k m (ap (λ (x : Option Link × List ℕ). x.0) p) in
    let ends : bytes ≡ rest = ap (λ (x : Option Link × List ℕ). x.1) p in
    let first : c ≡ d = eqb-true c d t in
    let whole : c ∷ bytes ≡ d ∷ rest = cc in
    subst (λ (x : Link). (c ∷ bytes ≡ link_word x ++ rest) × FitsLink x) same (
      whole
          ∙ ap (λ (x : List ℕ). x ++ rest) (sym w),
      f,
    )

across_made : (o : Option ℕ) (k : Link) → across o ≡ Some k
    → (n : ℕ) × (o ≡ Some n) × (Across n ≡ k)
across_made None k e = absurd (cc)
across_made (Some n) k e = (n, refl, some_is (Across n) k e)

across_gave : (c : ℕ) (bytes : List ℕ) (k : Link) (rest : List ℕ) → nat_eq c 67 ≡ true
    → across_at bytes ≡ Some (Some k, rest) → (c ∷ bytes ≡ link_word k ++ rest) × FitsLink k
across_gave c bytes k rest t e =
    then (number_at bytes) _ (Some k, rest) _ e (λ n i f.
    let p = some_is (across n.0, n.1) (Some k, rest) f in
    let m = across_made n.0 k (ap (λ (x : Option Link × List ℕ). x.0) p) in
    let ends : n.1 ≡ rest = ap (λ (x : Option Link × List ℕ). x.1) p in
    let g = number_gave bytes m.0 n.1 (i ∙ ap (λ (x : Option ℕ). Some (x, n.1)) m.1) in
    let first : c ≡ 67 = eqb-true c 67 t in
    let whole : c ∷ bytes ≡ 67 ∷ (decimal m.0 ++ rest) = cc (first, g.0, ends) in
    subst (λ (x : Link). (c ∷ bytes ≡ link_word x ++ rest) × FitsLink x) m.2 (whole, g.1))

pub link_gave : (bytes : List ℕ) (k : Link) (rest : List ℕ) → link_at bytes ≡ Some (Some k, rest)
    → (bytes ≡ link_word k ++ rest) × FitsLink k
link_gave [] k rest h = absurd (cc)
link_gave (c ∷ bytes) k rest h =
    either_way (nat_eq c 82) _ _ _ _ h (λ t e. letter c 82 Root k bytes rest t refl tt e) (λ f.
    either_way (nat_eq c 78) _ _ _ _ f (λ t e. letter c 78 Next k bytes rest t refl tt e) (λ g.
    either_way (nat_eq c 80) _ _ _ _ g (λ t e. letter c 80 Prev k bytes rest t refl tt e) (λ l.
    either_way (nat_eq c 67) _ _ _ _ l (λ t e. across_gave c bytes k rest t e) (λ m. absurd (cc)))))

pub link_is : (k : Link) (c : ℕ) (rest : List ℕ) → FitsLink k → is_ascii_digit c ≡ false
    → link_at (link_word k ++ (c ∷ rest)) ≡ Some (Some k, c ∷ rest)
link_is Root c rest f d = refl
link_is Next c rest f d = refl
link_is Prev c rest f d = refl
link_is (Across n) c rest f d = rw (number_is n c rest f d) refl

side_letter : (c d : ℕ) (a b : Bool) (bytes rest : List ℕ) → nat_eq c d ≡ true
    → side_word a ≡ d ∷ [] → (let o : Option (Bool × List ℕ) = Some (a, bytes) in o)
    ≡ Some (b, rest) → c ∷ bytes ≡ side_word b ++ rest
side_letter c d a b bytes rest t w e =
    let p = some_is (a, bytes) (b, rest) e in
    let same : a ≡ b = ap (λ (x : Bool × List ℕ). x.0) p in
    let ends : bytes ≡ rest = ap (λ (x : Bool × List ℕ). x.1) p in
    let first : c ≡ d = eqb-true c d t in
    let whole : c ∷ bytes ≡ d ∷ rest = cc in
    subst (λ (x : Bool). c ∷ bytes ≡ side_word x ++ rest) same (whole
    ∙ ap (λ (x : List ℕ). x ++ rest) (sym w))

pub side_gave : (bytes : List ℕ) (inside : Bool) (rest : List ℕ)
    → side_at bytes ≡ Some (inside, rest) → bytes ≡ side_word inside ++ rest
side_gave [] inside rest h = absurd (cc)
side_gave (c ∷ bytes) inside rest h =
    either_way (nat_eq c 73) _ _ _ _ h (λ t e. side_letter c 73 true inside bytes rest t refl e)
    (λ f.
    either_way (nat_eq c 79) _ _ _ _ f (λ t e. side_letter c 79 false inside bytes rest t refl e)
    (λ m. absurd (cc)))

pub side_is : (inside : Bool) (rest : List ℕ)
    → side_at (side_word inside ++ rest) ≡ Some (inside, rest)
side_is true rest = refl
side_is false rest = refl

-- ---- the note of a half-edge

-- what is written of it, before the rest
abbrev pub half_onto : HalfNote → List ℕ → List ℕ
half_onto h rest = decimal h.label ++ (32 ∷ (link_word h.link ++ (32 ∷ (decimal h.rank ++ rest))))

pub half_is : (h : HalfNote) (c : ℕ) (rest : List ℕ) → FitsHalf h → is_ascii_digit c ≡ false
    → half_at (half_onto h (c ∷ rest)) ≡ Some (Some h, c ∷ rest)
unfolding half_at
half_is h c rest f d =
    rw (
      number_is h.label 32 (link_word h.link ++ (32 ∷ (decimal h.rank ++ (c ∷ rest)))) f.label refl,
      link_is h.link 32 (decimal h.rank ++ (c ∷ rest)) f.link refl,
      number_is h.rank c rest f.rank d,
    ) refl

half_made : (label : Option ℕ) (link : Option Link) (rank : Option ℕ) (h : HalfNote)
    → half_note label link rank ≡ Some h
    → (label ≡ Some h.label) × (link ≡ Some h.link) × (rank ≡ Some h.rank)
half_made label link rank h e =
    then label _ h _ e (λ l i f.
    then link _ h _ f (λ k j g.
    then rank _ h _ g (λ r m n.
    let q : (let x : HalfNote = record { label = l; link = k; rank = r } in x)
    ≡ h = some_is _ h n in (
      i ∙ ap (λ (x : HalfNote). Some x.label) q,
      j ∙ ap (λ (x : HalfNote). Some x.link) q,
      m
          ∙ ap (λ (x : HalfNote). Some x.rank) q,
    ))))

pub half_gave : (bytes : List ℕ) (h : HalfNote) (rest : List ℕ)
    → half_at bytes ≡ Some (Some h, rest) → (bytes ≡ half_onto h rest) × FitsHalf h
unfolding half_at
half_gave bytes h rest e =
    then (number_at bytes) _ (Some h, rest) _ e (λ label i1 e1.
    then (after_word (codes " ") label.1) _ (Some h, rest) _ e1 (λ a i2 e2.
    then (link_at a) _ (Some h, rest) _ e2 (λ link i3 e3.
    then (after_word (codes " ") link.1) _ (Some h, rest) _ e3 (λ b i4 e4.
    then (number_at b) _ (Some h, rest) _ e4 (λ rank i5 e5.
    let p : (let x : Option HalfNote × List ℕ = (half_note label.0 link.0 rank.0, rank.1) in x)
    ≡ (Some h, rest) = some_is _ _ e5 in
    let m = half_made label.0 link.0 rank.0 h (ap (λ (x : Option HalfNote × List ℕ). x.0) p) in
    let ends : rank.1 ≡ rest = ap (λ (x : Option HalfNote × List ℕ). x.1) p in
    let g1 = number_gave bytes h.label label.1 (i1
    ∙ ap (λ (x : Option ℕ). Some (x, label.1)) m.0) in
    let g2 = after_word_gave (codes " ") label.1 a i2 in
    let g3 = link_gave a h.link link.1 (i3 ∙ ap (λ (x : Option Link). Some (x, link.1)) m.1) in
    let g4 = after_word_gave (codes " ") link.1 b i4 in
    let g5 = number_gave b h.rank rank.1 (i5 ∙ ap (λ (x : Option ℕ). Some (x, rank.1)) m.2) in
    (cc (g1.0, g2, g3.0, g4, g5.0, ends), record { label = g1.1; link = g3.1; rank = g5.1 }))))))
