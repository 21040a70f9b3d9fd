-- No test fails exactly where the words meet the form.
use Rattle.std.proofs.Common.{◌≡◌, ◌↔◌, ℕ, Bool, true, false, cond, ◌||◌, List, [], ◌∷◌, Option}
use Rattle.std.proofs.Common.{Some, None, Result, Ok, Err, ℤ, ◌≤ℤ◌, refl, sym, ◌∙◌, arith}
use Rattle.std.specs.Prelude.{int_lt}
use Rattle.std.specs.List.{Any, AllPass, list_any, list_all}
use Rattle.std.proofs.lemmas.Bool.{false_from_ne_true}
use Rattle.std.proofs.lemmas.Int.{ints}
use Rattle.std.proofs.lemmas.List.Folds.{Any-from_list_any, list_any-from_Any}
use Rattle.std.proofs.lemmas.List.Sums.{AllPass-from_list_all, list_all-from_AllPass}
use Rattle.std.proofs.lemmas.Slice.Eq.{bytes_eq-Decides}
use Rattle.decimals.specs.Scaled.{scaled_of}
use Rattle.decimals.specs.declared.DecimalFault.{DecimalFault}
use Rattle.decimals.specs.declared.DecimalFault.TheVariants.{NotNumber, TooLong, MoreDecimals}
use Rattle.decimals.proofs.Laws.{value_exactly, value_decides}
use Rattle.ili_grammar.specs.Syntax.{Codes}
use Rattle.resolver.specs.Resolved as model
use Rattle.resolver.specs.Resolved.{Limits, Form}
use Rattle.field_values.specs.declared.value.ValueFault.{ValueFault}
use Rattle.field_values.specs.declared.value.ValueFault.TheVariants.{Undefined, Range, Text, Date}
use Rattle.field_values.specs.declared.value.ValueFault.TheVariants.{Enum}
use Rattle.field_values.specs.Fields.{is_undefined, is_text, is_date, is_leaf, bounds_fault}
use Rattle.field_values.specs.Fields.{number_fault, first_fault, numbers_fault, word_fault}
use Rattle.field_values.specs.Fields.{value_fault, field_fault}
use Rattle.field_values.specs.Meeting.{IsNumberWithin, AreNumbersWithin, IsValue, Meets}

-- ---- numbers
not_below : (a b : ℤ) → int_lt a b ≡ false → b ≤ℤ a
not_below a b e = grind (arith, ints, e)

below_false : (a b : ℤ) → b ≤ℤ a → int_lt a b ≡ false
below_false a b h = grind (arith, ints, h)

inside : (a b : Bool) → cond (a || b) (Some Range) None ≡ None → (a ≡ false) × (b ≡ false)
inside true b h = cc
inside false true h = cc
inside false false h = (refl, refl)

within : (l : Limits) (word : List ℕ) (r : Result ℤ DecimalFault) → scaled_of word l.scale ≡ r
    → bounds_fault l r ≡ None → IsNumberWithin l word
within l word (Ok v) e h =
    let i = inside (int_lt v l.low) (int_lt l.high v) h in
    record {
      value = v;
      read = (value_exactly word l.scale (scaled_of word l.scale) refl v).0 e;
      low = not_below v l.low i.0;
      high = not_below l.high v i.1;
    }
within l word (Err NotNumber) e h = cc
within l word (Err TooLong) e h = cc
within l word (Err MoreDecimals) e h = cc

number_meets : (l : Limits) (word : List ℕ) → IsNumberWithin l word → number_fault l word ≡ None
number_meets l word h =
    rw (
      value_decides word l.scale h.value h.read,
      below_false h.value l.low h.low,
      below_false l.high h.value h.high,
    ) refl

first_none : (a b : Option ValueFault) → first_fault a b ≡ None → (a ≡ None) × (b ≡ None)
first_none (Some fault) b h = cc
first_none None b h = (refl, h)

numbers_within : (ls : List Limits) (words : List (List ℕ)) → numbers_fault ls words ≡ None
    → AreNumbersWithin ls words
numbers_within [] words h = tt
numbers_within (l ∷ ls) [] h = tt
numbers_within (l ∷ ls) (w ∷ ws) h =
    let f = first_none (number_fault l w) (numbers_fault ls ws) h in
    (within l w _ refl f.0, numbers_within ls ws f.1)

numbers_meet : (ls : List Limits) (words : List (List ℕ)) → AreNumbersWithin ls words
    → numbers_fault ls words ≡ None
numbers_meet [] words h = refl
numbers_meet (l ∷ ls) [] h = refl
numbers_meet (l ∷ ls) (w ∷ ws) h = rw (number_meets l w h.0) (numbers_meet ls ws h.1)

numbers : (ls : List Limits) (words : List (List ℕ))
    → (numbers_fault ls words ≡ None) ↔ AreNumbersWithin ls words
numbers ls words = (numbers_within ls words, numbers_meet ls words)

-- ---- words that are no number
good : (b : Bool) (fault : ValueFault) → cond b None (Some fault) ≡ None → b ≡ true
good true fault h = refl
good false fault h = cc

words_pass : (test : List ℕ → Bool) (fault : ValueFault) (words : List (List ℕ))
    → (word_fault test fault words ≡ None) ↔ AllPass test words
words_pass test fault words = (
  λ h. AllPass-from_list_all test words (good (list_all test words) fault h),
  λ h. rw (list_all-from_AllPass test words h) refl,
)

-- ---- the forms
value_exact : (form : Form) (words : List (List ℕ))
    → (value_fault form words ≡ None) ↔ IsValue form words
value_exact (model.Range l) words = numbers (l ∷ []) words
value_exact (model.Dim1 l) words = numbers (l ∷ []) words
value_exact (model.Dim2 l) words = numbers (l ∷ []) words
value_exact (model.Radians l) words = numbers (l ∷ []) words
value_exact (model.Grads l) words = numbers (l ∷ []) words
value_exact (model.Degrees l) words = numbers (l ∷ []) words
value_exact (model.Coord2 w) words = numbers (w.x ∷ w.y ∷ []) words
value_exact (model.AreaPoint w) words = numbers (w.x ∷ w.y ∷ []) words
value_exact (model.Coord3 b) words = numbers (b.x ∷ b.y ∷ b.z ∷ []) words
value_exact (model.Text n) words = words_pass (is_text n) Text words
value_exact model.Date words = words_pass is_date Date words
value_exact (model.Enumeration n) words = words_pass (is_leaf n) Enum words
value_exact model.HAlignment words = words_pass (is_leaf 3) Enum words
value_exact model.VAlignment words = words_pass (is_leaf 5) Enum words
value_exact (model.Reference k) words = (λ h. tt, λ h. refl)

-- ---- the undefined word
some_undefined : (codes : Codes) (words : List (List ℕ))
    → list_any (is_undefined codes) words ≡ false → Any (λ word. word ≡ codes.undefined ∷ []) words
    → ⊥
some_undefined codes words h a =
    let u = codes.undefined ∷ [] in
    let t : list_any (is_undefined codes) words
    ≡ true = list_any-from_Any (is_undefined codes) words
    (a.0, a.1, a.2, a.3, (bytes_eq-Decides a.1 u).1 a.4) in
    cc

none_undefined : (codes : Codes) (words : List (List ℕ))
    → (Any (λ word. word ≡ codes.undefined ∷ []) words → ⊥)
    → list_any (is_undefined codes) words ≡ false
none_undefined codes words h =
    let u = codes.undefined ∷ [] in
    false_from_ne_true (list_any (is_undefined codes) words)
    (λ t. let a = Any-from_list_any (is_undefined codes) words t in
    h (a.0, a.1, a.2, a.3, (bytes_eq-Decides a.1 u).0 a.4))

told : (b : Bool) (r : Option ValueFault) → cond b (Some Undefined) r ≡ None
    → (b ≡ false) × (r ≡ None)
told true r h = cc
told false r h = (refl, h)

pub exact : (form : Form) (codes : Codes) (words : List (List ℕ))
    → (field_fault form codes words ≡ None) ↔ Meets form codes words
exact form codes words =
    let v = value_exact form words in (
      λ h. let t = told (list_any (is_undefined codes) words) (value_fault form words) h in
          record { defined = some_undefined codes words t.0; value = v.0 t.1 },
      λ m. rw (none_undefined codes words m.defined) (v.1 m.value),
    )

pub meets_exactly : (form : Form) (codes : Codes) (words : List (List ℕ)) (r : Option ValueFault)
    → r ≡ field_fault form codes words → (r ≡ None) ↔ Meets form codes words
meets_exactly form codes words r e =
    let x = exact form codes words in (λ h. x.0 (sym e ∙ h), λ m. e ∙ x.1 m)
