-- The parts of the list of faults, each with the rule that it stands for, in both directions.
use Rattle.std.proofs.Common.{◌≡◌, ℕ, zero, suc, ◌+◌, ◌≤◌, ◌⊎◌, inl, inr, Bool, true, false, cond}
use Rattle.std.proofs.Common.{not, ◌&&◌, ◌==◌, List, [], ◌∷◌, ◌++◌, slice_get, Option, Some, refl}
use Rattle.std.proofs.Common.{ap, sym, ◌∙◌, subst, arith, true≢false, append_assoc, append-nil, ℤ}
use Rattle.std.proofs.Common.{pos, ◌<ℤ◌, int_lt, int_le}
use Rattle.std.proofs.lemmas.Int.{ints}
use Rattle.std.proofs.lemmas.Bool.Decides.{nat_tests}
use Rattle.std.specs.Prelude.{Contains}
use Rattle.std.specs.List.{flat_map}
use Rattle.std.specs.Option.{unwrap_or, is_some}
use Rattle.ili_grammar.specs.Syntax.{Ident, Decimal, Span, DomainSyntax, Attributes, no_attributes}
use Rattle.ili_grammar.specs.Syntax.{and_attribute, an_attribute, TableSyntax}
use Rattle.resolver.specs.declared.faults.ModelCode.{ModelCode}
use Rattle.resolver.specs.declared.faults.ModelCode.TheVariants as code
use Rattle.resolver.specs.Faults.{Fault, fault_if}
use Rattle.resolver.specs.Numbers.{in_units, is_long, is_reversed, has_long_bound, is_text_length}
use Rattle.resolver.specs.Models.{text_length}
use Rattle.resolver.specs.Lines.{is_boundary, stands_for}
use Rattle.resolver.specs.Rules.{Entry, entry, twice, cycle_faults, helpers, helper_name}
use Rattle.resolver.specs.Rules.{table_entries}
use Rattle.resolver.specs.Scopes.{Scope, is_among, is_visible, names_of, comes_to, longest}
use Rattle.resolver.specs.Standing.{IsLength}
use Rattle.resolver.specs.Breaking.{IsVisible, StandsAgain, names_in, IsLong, IsReversed}
use Rattle.resolver.specs.Breaking.{AreHelpers, AreTableNames}
use Rattle.resolver.proofs.BuildLemmas.ExactNumbers.{length_kept}
use Rattle.resolver.proofs.ListLemmas.Members.{In, in_contained, contains, in_before, in_after}
use Rattle.resolver.proofs.ListLemmas.Members.{in_either}
use Rattle.resolver.proofs.ListLemmas.Members.{among_in, in_among, or-cases, or-left, or-right}
use Rattle.resolver.proofs.RuleLemmas.Meant.{AreShort, test_means, means_test}

abbrev pub at : ModelCode → Ident → Fault
at code name = record { code = code; name = name }

-- ---- one rule
pub in_if : (b : Bool) (c : ModelCode) (n : Ident) → b ≡ true → In (fault_if b c n) (at c n)
in_if true c n e = inl refl
in_if false c n e = absurd (true≢false (sym e))

pub is_if : (b : Bool) (c : ModelCode) (n : Ident) (f : Fault) → In (fault_if b c n) f
    → (b ≡ true) × (at c n ≡ f)
is_if true c n f (inl e) = (refl, e)
is_if true c n f (inr h) = absurd h
is_if false c n f h = absurd h

pub is_not : (b : Bool) → not b ≡ true → b ≡ false
is_not true e = absurd (true≢false (sym e))
is_not false e = refl

pub not_is : (b : Bool) → b ≡ false → not b ≡ true
not_is b e = ap not e

-- ---- names
pub seen : (s : Scope) (name : List ℕ) → is_visible s name ≡ true → IsVisible s name
seen s name e =
    elim (or-cases (is_among name (names_of s.above)) (is_among name (names_of s.own)) e) as
    (λ _. IsVisible s name) [
      | inl a ↦ inl (contains (names_of s.above) name (among_in name (names_of s.above) a))
      | inr b ↦ inr (contains (names_of s.own) name (among_in name (names_of s.own) b))
    ]

pub is_seen : (s : Scope) (name : List ℕ) → IsVisible s name → is_visible s name ≡ true
is_seen s name (inl c) =
    or-left (is_among name (names_of s.above)) (is_among name (names_of s.own))
    (in_among name (names_of s.above) (in_contained (names_of s.above) name c))
is_seen s name (inr c) =
    or-right (is_among name (names_of s.above)) (is_among name (names_of s.own))
    (in_among name (names_of s.own) (in_contained (names_of s.own) name c))

pub unseen : (s : Scope) (name : List ℕ) → is_visible s name ≡ false → IsVisible s name → ⊥
unseen s name e v = true≢false (sym (is_seen s name v) ∙ e)

pub is_unseen : (s : Scope) (name : List ℕ) → (IsVisible s name → ⊥) → is_visible s name ≡ false
is_unseen s name h =
    elim (is_visible s name) as (λ b. is_visible s name ≡ b
    → is_visible s name ≡ false) [ true ↦ λ e. absurd (h (seen s name e)) | false ↦ λ e. e ] refl

-- a name that stands again
pub in_twice : (earlier : List (List ℕ)) (before : List Entry) (again : Entry) (after : List Entry)
    → In (earlier ++ names_in before) again.key
    → In (twice earlier (before ++ (again ∷ after))) (at code.Twice again.name)
in_twice earlier [] again after h =
    in_before (fault_if (is_among again.key earlier) code.Twice again.name)
    (twice (earlier ++ (again.key ∷ [])) after) (at code.Twice again.name)
    (in_if (is_among again.key earlier) code.Twice again.name
    (in_among again.key earlier
    (subst (λ (l : List (List ℕ)). In l again.key) (append-nil earlier) h)))
in_twice earlier (e ∷ es) again after h =
    in_after (fault_if (is_among e.key earlier) code.Twice e.name)
    (twice (earlier ++ (e.key ∷ [])) (es ++ (again ∷ after))) (at code.Twice again.name)
    (in_twice (earlier ++ (e.key ∷ [])) es again after
    (subst (λ (l : List (List ℕ)). In l again.key)
    (sym (append_assoc earlier (e.key ∷ []) (names_in es))) h))

pub again_told : (earlier : List (List ℕ)) (names : List Entry) (n : Ident)
    → StandsAgain earlier names n → In (twice earlier names) (at code.Twice n)
again_told earlier names n w =
    subst (λ (l : List Entry). In (twice earlier l) (at code.Twice n)) (sym w.order)
    (subst (λ (x : Ident). In (twice earlier (w.before ++ (w.again ∷ w.after))) (at code.Twice x))
    w.place
    (in_twice earlier w.before w.again w.after
    (in_contained (earlier ++ names_in w.before) w.again.key w.known)))

pub told_again : (earlier : List (List ℕ)) (names : List Entry) (f : Fault)
    → In (twice earlier names) f → (f.code ≡ code.Twice) × StandsAgain earlier names f.name
told_again earlier [] f h = absurd h
told_again earlier (e ∷ es) f h =
    elim (in_either (fault_if (is_among e.key earlier) code.Twice e.name)
    (twice (earlier ++ (e.key ∷ [])) es) f h) as
    (λ _. (f.code ≡ code.Twice) × StandsAgain earlier (e ∷ es) f.name) [
      | inl a ↦
          let w = is_if (is_among e.key earlier) code.Twice e.name f a in (
            ap (λ (x : Fault). x.code) (sym w.1),
            record {
              before = [];
              again = e;
              after = es;
              order = refl;
              known = contains (earlier ++ []) e.key
                  (in_before earlier [] e.key (among_in e.key earlier w.0));
              place = ap (λ (x : Fault). x.name) w.1;
            },
          )
      | inr b ↦
          let w = told_again (earlier ++ (e.key ∷ [])) es f b in
          let r : StandsAgain (earlier ++ (e.key ∷ [])) es f.name = w.1 in (
            w.0,
            record {
              before = e ∷ r.before;
              again = r.again;
              after = r.after;
              order = ap (λ (l : List Entry). e ∷ l) r.order;
              known = subst (λ (l : List (List ℕ)). Contains l r.again.key)
                  (append_assoc earlier (e.key ∷ []) (names_in r.before)) r.known;
              place = r.place;
            },
          )
    ]

-- ---- domains on a cycle
pub in_cycles : (step : ℕ → Option ℕ) (from k : ℕ) (ds : List DomainSyntax) (d : DomainSyntax)
    → slice_get ds k ≡ Some d → comes_to step (from + k) longest (from + k) ≡ true
    → In (cycle_faults step from ds) (at code.Cycle d.name)
in_cycles step from k [] d at_ e =
    absurd (true≢false (sym (ap (λ (o : Option DomainSyntax). is_some o) at_)))
in_cycles step from zero (x ∷ xs) d at_ e =
    let same : from + 0 ≡ from = omega arith in
    let here : x ≡ d = ap (λ (o : Option DomainSyntax). unwrap_or o x) at_ in
    subst (λ (y : DomainSyntax). In (cycle_faults step from (x ∷ xs)) (at code.Cycle y.name)) here
    (in_before (fault_if (comes_to step from longest from) code.Cycle x.name)
    (cycle_faults step (from + 1) xs) (at code.Cycle x.name)
    (in_if (comes_to step from longest from) code.Cycle x.name
    (ap (λ (i : ℕ). comes_to step i longest i) (sym same) ∙ e)))
in_cycles step from (suc k) (x ∷ xs) d at_ e =
    let same : from + suc k ≡ from + 1 + k = omega arith in
    in_after (fault_if (comes_to step from longest from) code.Cycle x.name)
    (cycle_faults step (from + 1) xs) (at code.Cycle d.name)
    (in_cycles step (from + 1) k xs d at_ (ap (λ (i : ℕ). comes_to step i longest i) (sym same)
    ∙ e))

pub is_cycle : (step : ℕ → Option ℕ) (from : ℕ) (ds : List DomainSyntax) (f : Fault)
    → In (cycle_faults step from ds) f
    → (k : ℕ) × (d : DomainSyntax) × (slice_get ds k ≡ Some d)
    × (comes_to step (from + k) longest (from + k) ≡ true) × (at code.Cycle d.name ≡ f)
is_cycle step from [] f h = absurd h
is_cycle step from (x ∷ xs) f h =
    elim (in_either (fault_if (comes_to step from longest from) code.Cycle x.name)
    (cycle_faults step (from + 1) xs) f h)
    as (λ _. (k : ℕ) × (d : DomainSyntax) × (slice_get (x ∷ xs) k ≡ Some d)
    × (comes_to step (from + k) longest (from + k) ≡ true) × (at code.Cycle d.name ≡ f)) [
      | inl a ↦
          let w = is_if (comes_to step from longest from) code.Cycle x.name f a in
          let same : from + 0 ≡ from = omega arith in
          (0, x, refl, ap (λ (i : ℕ). comes_to step i longest i) same ∙ w.0, w.1)
      | inr b ↦
          let w = is_cycle step (from + 1) xs f b in
          let same : from + suc w.0 ≡ from + 1 + w.0 = omega arith in
          (suc w.0, w.1, w.2, ap (λ (i : ℕ). comes_to step i longest i) same ∙ w.3, w.4)
    ]

-- ---- the names of tables and of their helper tables
helpers_are : (s : Scope) (table : List ℕ) (as_ : Attributes) → AreShort s
    → AreHelpers s table as_ (helpers s table as_)
helpers_are s table no_attributes f = refl
helpers_are s table (and_attribute (an_attribute n o c) as_) f =
    by_test (stands_for is_boundary s c) refl (helpers_are s table as_ f)
  where
    by_test : (b : Bool) → stands_for is_boundary s c ≡ b
        → AreHelpers s table as_ (helpers s table as_)
        → AreHelpers s table (and_attribute (an_attribute n o c) as_)
        (cond b (record { key = helper_name table n.text; name = n } ∷ []) []
        ++ helpers s table as_)
    by_test true e h = inl (helpers s table as_, test_means is_boundary s c e, refl, h)
    by_test false e h = inr (λ w. true≢false (sym (means_test is_boundary s c f w) ∙ e), h)

helpers_one : (s : Scope) (table : List ℕ) (as_ : Attributes) (names : List Entry) → AreShort s
    → AreHelpers s table as_ names → names ≡ helpers s table as_
helpers_one s table no_attributes names f h = h
helpers_one s table (and_attribute (an_attribute n o c) as_) names f (inl (rest, w, e, h)) =
    e ∙ ap (λ (l : List Entry). record { key = helper_name table n.text; name = n } ∷ l)
    (helpers_one s table as_ rest f h)
    ∙ sym (ap (λ (b : Bool). cond b (record { key = helper_name table n.text; name = n } ∷ []) []
    ++ helpers s table as_) (means_test is_boundary s c f w))
helpers_one s table (and_attribute (an_attribute n o c) as_) names f (inr (w, h)) =
    helpers_one s table as_ names f h
    ∙ sym (ap (λ (b : Bool). cond b (record { key = helper_name table n.text; name = n } ∷ []) []
    ++ helpers s table as_) (none (stands_for is_boundary s c) refl))
  where
    none : (b : Bool) → stands_for is_boundary s c ≡ b → stands_for is_boundary s c ≡ false
    none true e = absurd (w (test_means is_boundary s c e))
    none false e = e

pub tables_are : (s : Scope) (ts : List TableSyntax) → AreShort s
    → AreTableNames s ts (flat_map (table_entries s) ts)
tables_are s [] f = refl
tables_are s (t ∷ ts) f = (
  helpers s t.name.text t.attributes,
  flat_map (table_entries s) ts,
  refl,
  helpers_are s t.name.text t.attributes f,
  tables_are s ts f,
)

pub tables_one : (s : Scope) (ts : List TableSyntax) (names : List Entry) → AreShort s
    → AreTableNames s ts names → names ≡ flat_map (table_entries s) ts
tables_one s [] names f h = h
tables_one s (t ∷ ts) names f (own, rest, e, h, k) =
    e ∙ ap (λ (l : List Entry). entry t.name ∷ (l ++ rest))
    (helpers_one s t.name.text t.attributes own f h)
    ∙ ap (λ (l : List Entry). entry t.name ∷ (helpers s t.name.text t.attributes ++ l))
    (tables_one s ts rest f k)

-- ---- numbers
pub long_number : (scale : ℕ) (d : Decimal) → is_long scale d ≡ true → IsLong scale d
long_number scale d e = grind (arith, nat_tests, e)

pub is_long_number : (scale : ℕ) (d : Decimal) → IsLong scale d → is_long scale d ≡ true
is_long_number scale d h = grind (arith, nat_tests, h)

pub long_bounds : (scale : ℕ) (b : Span) → has_long_bound scale b ≡ true
    → IsLong scale b.low ⊎ IsLong scale b.high
long_bounds scale b e =
    elim (or-cases (is_long scale b.low) (is_long scale b.high) e) as
    (λ _. IsLong scale b.low ⊎ IsLong scale b.high) [
      | inl l ↦ inl (long_number scale b.low l)
      | inr h ↦ inr (long_number scale b.high h)
    ]

pub are_long_bounds : (scale : ℕ) (b : Span) → IsLong scale b.low ⊎ IsLong scale b.high
    → has_long_bound scale b ≡ true
are_long_bounds scale b (inl l) =
    or-left (is_long scale b.low) (is_long scale b.high) (is_long_number scale b.low l)
are_long_bounds scale b (inr h) =
    or-right (is_long scale b.low) (is_long scale b.high) (is_long_number scale b.high h)

less_is : (a b : ℤ) → int_lt a b ≡ true → a <ℤ b
less_is a b e = grind (arith, ints, e)

is_less_ : (a b : ℤ) → a <ℤ b → int_lt a b ≡ true
is_less_ a b h = grind (arith, ints, h)

pub reversed_bounds : (scale : ℕ) (b : Span) → is_reversed scale b ≡ true → IsReversed scale b
reversed_bounds scale b e = less_is (in_units scale b.high) (in_units scale b.low) e

pub are_reversed : (scale : ℕ) (b : Span) → IsReversed scale b → is_reversed scale b ≡ true
are_reversed scale b h = is_less_ (in_units scale b.high) (in_units scale b.low) h

-- a length is a whole number from 1 to 65,535
within_length : (z : ℤ) (n : ℕ) → z ≡ pos n → 1 ≤ n → n ≤ 65535
    → (int_le (pos 1) z && int_le z (pos 65535)) ≡ true
within_length z n e low high = grind (arith, ints, nat_tests, e, low, high)

length_test : (d : Decimal) (n : ℕ) → IsLength d n → is_text_length d ≡ true
length_test d n h =
    ap (λ (k : ℕ). (k == 0) && (int_le (pos 1) d.digits && int_le d.digits (pos 65535))) h.whole
    ∙ within_length d.digits n h.value h.some h.few

pub length_found : (d : Decimal) → is_text_length d ≡ true → (n : ℕ) × IsLength d n
length_found d e = (text_length d, length_kept d e)

pub no_length_found : (d : Decimal) → is_text_length d ≡ false → (n : ℕ) → IsLength d n → ⊥
no_length_found d e n h = true≢false (sym (length_test d n h) ∙ e)

pub is_no_length : (d : Decimal) → ((n : ℕ) → IsLength d n → ⊥) → is_text_length d ≡ false
is_no_length d h =
    elim (is_text_length d) as (λ b. is_text_length d ≡ b
    → is_text_length d ≡ false) [
      | true ↦ λ e. let w = length_found d e in
          absurd (h w.0 w.1)
      | false ↦ λ e. e
    ] refl
