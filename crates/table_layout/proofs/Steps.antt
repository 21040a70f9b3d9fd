-- One declared table further in a topic.
use Rattle.std.proofs.Common.{◌≡◌, ◌<◌, ◌≤◌, ◌+◌, ℕ, List, [], ◌∷◌, ◌++◌, length, map, suc, get_or}
use Rattle.std.proofs.Common.{drop, refl, ◌∙◌, sym, ap, subst, arith, append_assoc, append-nil}
use Rattle.std.proofs.lemmas.List.{length-map, at_drop_more, at_drop_all}
use Rattle.std.specs.List.{All}
use Rattle.resolver.specs.declared.models.Attribute as attribute
use Rattle.resolver.specs.declared.models.ModelTable as model
use Rattle.resolver.specs.Resolved.{Attribute, ModelTable}
use Rattle.resolver.specs.Sound.{listed}
use Rattle.resolver.specs.Values.{attribute_of, places_of, table_of, tables_of}
use Rattle.table_layout.specs.Layouts.{Table}
use Rattle.table_layout.specs.Few.{AreFew, IsSmallTable}
use Rattle.table_layout.specs.Tables.{Owner, areas_in, surfaces_in, tables_in, numbers_from}
use Rattle.table_layout.specs.Tables.{tables_beside, with_helpers}
use Rattle.table_layout.proofs.Listed.{listed_in, all_read}

-- what is left of a list is taken over piece by piece
pub grows : {B : Type 0} (done one left all next whole : List B) → all ≡ one ++ left
    → done ++ all ≡ whole → next ≡ done ++ one → next ++ left ≡ whole
grows done one left all next whole e h n =
    ap (λ s. s ++ left) n ∙ append_assoc done one left ∙ ap (λ s. done ++ s) (sym e) ∙ h

pub small_read : (ts : List model.ModelTable) (i : ℕ) (x : model.ModelTable) → i < length ts
    → x ≡ get_or ts i x → All IsSmallTable (tables_of ts)
    → AreFew (map attribute_of x.attributes.items)
small_read ts i x l e h =
    subst AreFew (listed_in (map attribute_of x.attributes.items))
    (all_read IsSmallTable table_of ts i x l e h)

pub few_read : (ts : List model.ModelTable) (i : ℕ) (x : model.ModelTable)
    (own : List attribute.Attribute)
    → i < length ts → x ≡ get_or ts i x → All IsSmallTable (tables_of ts) → own ≡ x.attributes.items
    → length own ≤ 4194304
few_read ts i x own l e h o =
    omega (
      arith,
      (small_read ts i x l e h).few,
      length-map x.attributes.items attribute_of,
      ap (length {A = attribute.Attribute}) o,
    )

pub tables_in_step : (ts : List model.ModelTable) (i : ℕ) (x : model.ModelTable) → i < length ts
    → x ≡ get_or ts i x
    → tables_in (tables_of (drop i ts))
    ≡ areas_in (map attribute_of x.attributes.items) + 1
    + surfaces_in (map attribute_of x.attributes.items)
    + tables_in (tables_of (drop (i + 1) ts))
tables_in_step ts i x l e =
    at_drop_more (λ (s : List model.ModelTable). tables_in (tables_of s)) ts i x l
    ∙ ap (λ (y : model.ModelTable). tables_in (tables_of (y ∷ drop (i + 1) ts))) (sym e)
    ∙ ap (λ (s : List Attribute). areas_in s + 1 + surfaces_in s
    + tables_in (tables_of (drop (i + 1) ts))) (listed_in (map attribute_of x.attributes.items))

pub numbers_step : (first : ℕ) (ts : List model.ModelTable) (i : ℕ) (x : model.ModelTable)
    → i < length ts → x ≡ get_or ts i x
    → numbers_from first (tables_of (drop i ts))
    ≡ (first + areas_in (map attribute_of x.attributes.items))
    ∷ numbers_from (first + areas_in (map attribute_of x.attributes.items) + 1
    + surfaces_in (map attribute_of x.attributes.items)) (tables_of (drop (i + 1) ts))
numbers_step first ts i x l e =
    at_drop_more (λ (s : List model.ModelTable). numbers_from first (tables_of s)) ts i x l
    ∙ ap (λ (y : model.ModelTable). numbers_from first (tables_of (y ∷ drop (i + 1) ts))) (sym e)
    ∙ ap (λ (s : List Attribute). (first + areas_in s)
    ∷ numbers_from (first + areas_in s + 1 + surfaces_in s) (tables_of (drop (i + 1) ts)))
    (listed_in (map attribute_of x.attributes.items))

abbrev pub owned : ℕ → List ℕ → ℕ → model.ModelTable → List Table
owned topic mains main x =
    with_helpers (record { topic = topic; mains = mains; main = main; name = x.name })
    (map attribute_of x.attributes.items) (places_of x.idents.items)

pub beside_step : (topic : ℕ) (mains ms : List ℕ) (m : ℕ) (ts : List model.ModelTable) (i : ℕ)
    (x : model.ModelTable)
    → i < length ms → m ≡ get_or ms i m → i < length ts → x ≡ get_or ts i x
    → tables_beside topic mains (drop i ms) (tables_of (drop i ts))
    ≡ owned topic mains m x ++ tables_beside topic mains (drop (i + 1) ms)
    (tables_of (drop (i + 1) ts))
beside_step topic mains ms m ts i x k f l e =
    at_drop_more (λ (s : List ℕ). tables_beside topic mains s (tables_of (drop i ts))) ms i m k
    ∙ ap (λ (y : ℕ). tables_beside topic mains (y ∷ drop (i + 1) ms) (tables_of (drop i ts)))
    (sym f)
    ∙ at_drop_more
    (λ (s : List model.ModelTable). tables_beside topic mains (m ∷ drop (i + 1) ms)
    (tables_of s)) ts i x l
    ∙ ap (λ (y : model.ModelTable). tables_beside topic mains (m ∷ drop (i + 1) ms)
    (tables_of (y ∷ drop (i + 1) ts))) (sym e)
    ∙ ap (λ (s : List Attribute). with_helpers (let w : Owner = record {
      topic = topic;
      mains = mains;
      main = m;
      name = x.name;
    } in
    w) s (places_of x.idents.items) ++ tables_beside topic mains (drop (i + 1) ms)
    (tables_of (drop (i + 1) ts))) (listed_in (map attribute_of x.attributes.items))

pub length-numbers : (first : ℕ) (ts : List ModelTable) → length (numbers_from first ts) ≡ length ts
length-numbers first [] = refl
length-numbers first (t ∷ ts) =
    ap (λ n. suc n)
    (length-numbers (first + areas_in (listed t.attributes) + 1 + surfaces_in (listed t.attributes))
    ts)

-- ---- the loop over a topic's tables, which are read from a copy of the list
pub topic_step : (topic : ℕ) (mains ms : List ℕ) (m : ℕ) (ts read : List model.ModelTable) (i : ℕ)
    (x : model.ModelTable) (done next whole : List Table)
    → length ms ≡ length ts → read ≡ ts → mains ≡ ms → i < length read → x ≡ get_or read i x
    → m ≡ get_or ms i m
    → next ≡ done ++ owned topic mains m x
    → done ++ tables_beside topic ms (drop i ms) (tables_of (drop i ts)) ≡ whole
    → next ++ tables_beside topic ms (drop (i + 1) ms) (tables_of (drop (i + 1) ts)) ≡ whole
topic_step topic mains ms m ts read i x done next whole n r d l e f a h =
    let lt : i < length ts = subst (λ (s : List model.ModelTable). i < length s) r l in
    let at : x ≡ get_or ts i x = subst (λ (s : List model.ModelTable). x ≡ get_or s i x) r e in
    let within : i < length ms = omega arith in
    let add : next ≡ done ++ owned topic ms m x = a ∙ ap (λ s. done ++ owned topic s m x) d in
    grows done (owned topic ms m x)
    (tables_beside topic ms (drop (i + 1) ms) (tables_of (drop (i + 1) ts)))
    (tables_beside topic ms (drop i ms) (tables_of (drop i ts))) next whole
    (beside_step topic ms ms m ts i x within f lt at) h add

pub topic_end : (topic : ℕ) (ms : List ℕ) (ts : List model.ModelTable) (i : ℕ)
    (done whole : List Table)
    → length ms ≤ i → done ++ tables_beside topic ms (drop i ms) (tables_of (drop i ts)) ≡ whole
    → done ≡ whole
topic_end topic ms ts i done whole l h =
    sym (append-nil done)
    ∙ ap (λ s. done ++ s)
    (sym (at_drop_all (λ (s : List ℕ). tables_beside topic ms s (tables_of (drop i ts))) ms i l))
    ∙ h

pub length_beside : (mains : List ℕ) (first : ℕ) (read ts : List model.ModelTable)
    → mains ≡ numbers_from first (tables_of read) → read ≡ ts → length mains ≡ length ts
length_beside mains first read ts e r =
    ap (length {A = ℕ}) e ∙ length-numbers first (tables_of read) ∙ length-map read table_of
    ∙ ap (length {A = model.ModelTable}) r
