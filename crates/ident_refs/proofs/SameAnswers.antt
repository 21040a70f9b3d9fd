-- Answers that are the same.
use Rattle.std.proofs.Common.{◌≡◌, ◌∙◌, ℕ, List, Option, Result, Ok, Err, IfOk, OnOk}
use Rattle.std.specs.Option.{option_map}
use Rattle.ident_refs.specs.declared.key_values.Value.{Value as CodeValue}
use Rattle.ident_refs.specs.ValueViews.{value_view}
use Rattle.ident_refs.specs.ListValues.{Value}

pub same_answer : {E : Type 0} (r : Result (Option CodeValue) E) (a b : Option Value) → a ≡ b
    → IfOk r (λ (v : Option CodeValue). option_map value_view v ≡ a)
    → IfOk r (λ (v : Option CodeValue). option_map value_view v ≡ b)
same_answer (Ok v) a b e h = h ∙ e
same_answer (Err x) a b e h = h

pub on_ok : {X E P : Type 0} (r : Result X E) → P → OnOk r P
on_ok (Ok x) p = p
on_ok (Err e) p = tt

pub same_key : {E : Type 0} (r : Result (Option (List ℕ)) E) (a b : Option (List ℕ)) → a ≡ b
    → IfOk r (λ (k : Option (List ℕ)). k ≡ a) → IfOk r (λ (k : Option (List ℕ)). k ≡ b)
same_key (Ok k) a b e h = h ∙ e
same_key (Err x) a b e h = h
