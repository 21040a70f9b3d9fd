-- Where no fault counts, no rule is broken.
use Rattle.std.proofs.Common.{◌≡◌, Bool, true, false, cond, not, ◌||◌, List, [], ◌∷◌, ◌++◌, length}
use Rattle.std.proofs.Common.{Option, Some, None, refl, ap, arith, true≢false}
use Rattle.std.proofs.lemmas.List.Elements.{All-cons}
use Rattle.std.specs.List.{All, flat_map}
use Rattle.std.specs.Option.{is_some}
use Rattle.ili_grammar.specs.Syntax.{Ident}
use Rattle.resolver.specs.declared.faults.ModelCode.{ModelCode}
use Rattle.resolver.specs.Faults.{Fault, is_before, first_from, fault_if}

-- where one fault is found, one counts
one_counts : (best : Fault) (fs : List Fault) → first_from (Some best) fs ≡ None → ⊥
one_counts best [] e = true≢false (ap (λ (o : Option Fault). is_some o) e)
one_counts best (f ∷ fs) e = one_counts (cond (is_before f best) f best) fs e

pub none_broken : (fs : List Fault) → first_from None fs ≡ None → fs ≡ []
none_broken [] e = refl
none_broken (f ∷ fs) e = absurd (one_counts f fs e)

pub none_before : (fs gs : List Fault) → fs ++ gs ≡ [] → fs ≡ []
none_before [] gs e = refl
none_before (f ∷ fs) gs e = absurd (omega (arith, ap (λ (l : List Fault). length l) e))

pub none_behind : (fs gs : List Fault) → fs ++ gs ≡ [] → gs ≡ []
none_behind [] gs e = e
none_behind (f ∷ fs) gs e = absurd (omega (arith, ap (λ (l : List Fault). length l) e))

-- each of some things breaks no rule
pub none_in_each : {X : Type 0} (f : X → List Fault) (xs : List X) → flat_map f xs ≡ []
    → All (λ x. f x ≡ []) xs
none_in_each f [] e = λ i d lt. absurd (omega (arith, lt))
none_in_each f (x ∷ xs) e =
    All-cons (λ y. f y ≡ []) x xs (none_before (f x) (flat_map f xs) e)
    (none_in_each f xs (none_behind (f x) (flat_map f xs) e))

pub not_broken : (broken : Bool) (code : ModelCode) (name : Ident) → fault_if broken code name ≡ []
    → broken ≡ false
not_broken true code name e = absurd (omega (arith, ap (λ (l : List Fault). length l) e))
not_broken false code name e = refl

pub holds : (b : Bool) (code : ModelCode) (name : Ident) → fault_if (not b) code name ≡ []
    → b ≡ true
holds true code name e = refl
holds false code name e = absurd (omega (arith, ap (λ (l : List Fault). length l) e))

pub or-left_false : (a b : Bool) → (a || b) ≡ false → a ≡ false
or-left_false true b e = absurd (true≢false e)
or-left_false false b e = refl

pub or-right_false : (a b : Bool) → (a || b) ≡ false → b ≡ false
or-right_false true b e = absurd (true≢false e)
or-right_false false b e = e
