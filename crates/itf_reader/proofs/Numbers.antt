-- Fields that name nothing.
use Rattle.std.proofs.Common.{◌≡◌, ℕ, ◌+◌, ◌<◌, ◌≤◌, Bool, true, false, nat_eq, ◌&&◌, if◌then◌else◌}
use Rattle.std.proofs.Common.{List, [], ◌∷◌, length, Some, None, refl, sym, ap, ◌∙◌, arith}
use Rattle.itf_reader.specs.Forms.{Table, names, topic_named, table_named}
use Rattle.itf_reader.specs.TableKeys.{lines_found}

-- no field, and more than one, name nothing
abbrev none : List (List ℕ) → Type 0
none fields = (name : List ℕ) → names fields name ≡ false

none_few : (fields : List (List ℕ)) → length fields < 1 → none fields
none_few [] h name = refl
none_few (f ∷ fields) h name = absurd (omega (arith, h))

none_many : (fields : List (List ℕ)) → 2 ≤ length fields → none fields
none_many [] h name = refl
none_many (f ∷ []) h name = absurd (omega (arith, h))
none_many (f ∷ g ∷ fields) h name = refl

no_topic : (number : ℕ) (fields : List (List ℕ)) (ts : List (List ℕ)) → none fields
    → None ≡ topic_named number fields ts
no_topic number fields [] h = refl
no_topic number fields (t ∷ ts) h =
    no_topic (number + 1) fields ts h
    ∙ ap (λ (b : Bool). if b then Some number else topic_named (number + 1) fields ts) (sym (h t))

and_false : (b : Bool) → (b && false) ≡ false
and_false true = refl
and_false false = refl

no_table : (number topic : ℕ) (fields : List (List ℕ)) (ts : List Table) → none fields
    → None ≡ table_named number topic fields ts
no_table number topic fields [] h = refl
no_table number topic fields (t ∷ ts) h =
    no_table (number + 1) topic fields ts h
    ∙ ap (λ (b : Bool). if b then Some (number, t) else table_named (number + 1) topic fields ts)
    (sym (ap (λ (c : Bool). nat_eq t.topic topic && c) (h t.name)
    ∙ and_false (nat_eq t.topic topic)))

pub few_topic : (fields : List (List ℕ)) (ts : List (List ℕ)) → length fields < 1
    → None ≡ topic_named 0 fields ts
few_topic fields ts h = no_topic 0 fields ts (none_few fields h)

pub many_topic : (fields : List (List ℕ)) (ts : List (List ℕ)) → 2 ≤ length fields
    → None ≡ topic_named 0 fields ts
many_topic fields ts h = no_topic 0 fields ts (none_many fields h)

pub few_table : (topic : ℕ) (fields : List (List ℕ)) (ts : List Table) → length fields < 1
    → None ≡ lines_found (table_named 0 topic fields ts)
few_table topic fields ts h = ap lines_found (no_table 0 topic fields ts (none_few fields h))

pub many_table : (topic : ℕ) (fields : List (List ℕ)) (ts : List Table) → 2 ≤ length fields
    → None ≡ lines_found (table_named 0 topic fields ts)
many_table topic fields ts h = ap lines_found (no_table 0 topic fields ts (none_many fields h))
