-- One more number among those that came.
use Rattle.std.proofs.Common.{◌≡◌, ℕ, Bool, true, false, cond, if◌then◌else◌, nat_eq, List, [], ◌∷◌}
use Rattle.std.proofs.Common.{◌++◌, refl, ap, ◌∙◌}
use Rattle.itf_reader.specs.Forms.{TableRows, TopicRows, has_topic, has_table}

pub swap : (a b x : Bool)
    → (if a then true else cond b true x) ≡ cond b true (if a then true else x)
swap true true x = refl
swap true false x = refl
swap false b x = refl

pub one : (b : Bool) → (if b then true else false) ≡ cond b true false
one true = refl
one false = refl

pub table_more : (n : ℕ) (ts : List TableRows) (t : TableRows)
    → has_table n (ts ++ (t ∷ [])) ≡ cond (nat_eq t.table n) true (has_table n ts)
table_more n [] t = one (nat_eq t.table n)
table_more n (u ∷ ts) t =
    ap (λ (b : Bool). if nat_eq u.table n then true else b) (table_more n ts t)
    ∙ swap (nat_eq u.table n) (nat_eq t.table n) (has_table n ts)

pub topic_more : (n : ℕ) (ts : List TopicRows) (t : TopicRows)
    → has_topic n (ts ++ (t ∷ [])) ≡ cond (nat_eq t.topic n) true (has_topic n ts)
topic_more n [] t = one (nat_eq t.topic n)
topic_more n (u ∷ ts) t =
    ap (λ (b : Bool). if nat_eq u.topic n then true else b) (topic_more n ts t)
    ∙ swap (nat_eq u.topic n) (nat_eq t.topic n) (has_topic n ts)
