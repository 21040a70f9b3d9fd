-- A leaf is the decimal spelling of its number.
use Rattle.std.proofs.Common.{◌≡◌, ◌↔◌, ℕ, zero, suc, ◌+◌, ◌*◌, ◌-◌, ◌^◌, ◌<◌, ◌≤◌, Bool, true}
use Rattle.std.proofs.Common.{false, not, ◌&&◌, List, [], ◌∷◌, length, get_or, refl, sym, subst}
use Rattle.std.proofs.Common.{◌∙◌, arith}
use Rattle.std.specs.Prelude.{nat_lt, nat_eq}
use Rattle.std.specs.Fmt.{decimal}
use Rattle.std.specs.Char.{is_ascii_digit, digit_value}
use Rattle.std.specs.Str.{all_ascii_digits}
use Rattle.std.specs.Str.Parse.{digits_value, digits_value_after}
use Rattle.std.proofs.Math.Nat.{pow-succ', add-mul, mul_assoc}
use Rattle.std.proofs.lemmas.Bool.Decides.{nat_tests}
use Rattle.std.proofs.lemmas.Str.Parse.{IsNumeralModel, numerals_by_value, tells_all_ascii_digits}
use Rattle.std.proofs.lemmas.Fmt.{digits_decimal, digits_value-decimal, decimal-digits_value}
use Rattle.std.proofs.lemmas.Fmt.{decimal_nonempty, decimal_digit, first_decimal}
use borrow.Author.Tests.{ltb-true, lt-ltb}
use Rattle.decimals.specs.Numerals.{is_digits, number}
use Rattle.decimals.proofs.Digits.{both_left, both_right}
use Rattle.field_values.specs.Fields.{has_leading_zero, is_leaf}
use Rattle.field_values.specs.Leaves.{IsLeaf}

own : IsNumeralModel (λ ds. all_ascii_digits ds ≡ true) (digits_value 10)
own = numerals_by_value (λ ds. all_ascii_digits ds ≡ true) tells_all_ascii_digits

-- ---- the number that digits write
digit : (c : ℕ) → is_ascii_digit c ≡ true → digit_value c ≡ c - 48
digit c h = grind (arith, nat_tests)

shift : (m d k x : ℕ) → (m * 10 + d) * 10 ^ k + x ≡ m * 10 ^ suc k + (d * 10 ^ k + x)
shift m d k x =
    rw (pow-succ' 10 k) (omega (arith, add-mul (m * 10) d (10 ^ k), mul_assoc m 10 (10 ^ k)))

number_after : (n : ℕ) (ds : List ℕ) → all_ascii_digits ds ≡ true
    → digits_value_after 10 n ds ≡ n * 10 ^ length ds + number ds
number_after n [] h = omega arith
number_after n (c ∷ cs) h =
    number_after (n * 10 + digit_value c) cs (both_right _ _ h)
    ∙ rw (digit c (both_left _ _ h)) (shift n (c - 48) (length cs) (number cs))

number_is : (ds : List ℕ) → all_ascii_digits ds ≡ true → digits_value 10 ds ≡ number ds
number_is ds h = number_after 0 ds h ∙ omega arith

-- ---- from a leaf to its spelling
one_by : (ds : List ℕ) (b : Bool) → nat_lt 1 (length ds) ≡ b → has_leading_zero ds ≡ false
    → 0 < length ds → get_or ds 0 0 ≡ 48 → length ds ≡ 1
one_by ds true t h l e = absurd (let z : nat_eq (get_or ds 0 0) 48 ≡ true = rw e refl in cc)
one_by ds false t h l e = grind (arith, nat_tests)

untrue : (b : Bool) → not b ≡ true → b ≡ false
untrue true h = cc
untrue false h = refl

to_spelling : (leaves : ℕ) (word : List ℕ) → leaves ≤ 2 ^ 32 → is_leaf leaves word ≡ true
    → IsLeaf leaves word
to_spelling leaves word f h =
    let digits : is_digits word ≡ true = both_left _ _ h in
    let rest : (not (has_leading_zero word) && nat_lt (number word) leaves)
    ≡ true = both_right _ _ h in
    let d : all_ascii_digits word ≡ true = both_right _ _ digits in
    let l : 0 < length word = ltb-true 0 (length word) (both_left _ _ digits) in
    let z : has_leading_zero word ≡ false = untrue _ (both_left _ _ rest) in
    let lt : number word < leaves = ltb-true (number word) leaves (both_right _ _ rest) in
    let e : digits_value 10 word ≡ number word = number_is word d in
    let s : decimal (digits_value 10 word)
    ≡ word = decimal-digits_value own word d l (one_by word _ refl z l)
    (omega (arith, e, lt, f)) in
    record {
      leaf = number word;
      below = lt;
      spelled = sym (subst (λ (v : ℕ). decimal v ≡ word) e s);
    }

-- ---- and back
no_zero : (n : ℕ) → n < 2 ^ 32 → has_leading_zero (decimal n) ≡ false
no_zero zero h = rw (decimal_digit 0 (omega arith)) refl
no_zero (suc n) h =
    let f : 48 < get_or (decimal (suc n)) 0 0 = first_decimal (suc n) (omega arith) (omega arith) in
    let e : nat_eq (get_or (decimal (suc n)) 0 0) 48 ≡ false = grind (arith, nat_tests) in
    rw e refl

leaf_of : (n leaves : ℕ) → leaves ≤ 2 ^ 32 → n < leaves → is_leaf leaves (decimal n) ≡ true
leaf_of n leaves f h =
    let d : all_ascii_digits (decimal n) ≡ true = digits_decimal own n (omega arith) in
    let l : 0 < length (decimal n) = decimal_nonempty n (omega arith) in
    let v : number (decimal n) ≡ n = sym (number_is (decimal n) d)
    ∙ digits_value-decimal own n (omega arith) in
    rw (lt-ltb 0 (length (decimal n)) l, d, no_zero n (omega arith), v, lt-ltb n leaves h) refl

to_leaf : (leaves : ℕ) (word : List ℕ) → leaves ≤ 2 ^ 32 → IsLeaf leaves word
    → is_leaf leaves word ≡ true
to_leaf leaves word f h = rw h.spelled (leaf_of h.leaf leaves f h.below)

pub spelled_exactly : (leaves : ℕ) (word : List ℕ) → leaves ≤ 2 ^ 32
    → (is_leaf leaves word ≡ true) ↔ IsLeaf leaves word
spelled_exactly leaves word f = (to_spelling leaves word f, to_leaf leaves word f)
