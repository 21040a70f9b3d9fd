-- A form may have one more topic, and a topic one more table, that did not come.
use Rattle.std.proofs.Common.{◌≡◌, ◌<◌, ◌+◌, ℕ, zero, suc, Bool, true, false, List, [], ◌∷◌, ◌++◌}
use Rattle.std.proofs.Common.{length, Some, refl, ap, sym, ◌∙◌, arith, nat_eq, ◌&&◌}
use Rattle.std.proofs.lemmas.List.{append_assoc, length-append}
use Rattle.std.proofs.lemmas.Slice.Eq.{bytes_eq-Decides}
use Rattle.itf_lines.specs.Words.{same}
use Rattle.itf_reader.specs.Forms.{Table, TableRows, TopicRows, names, table_named, topic_named}
use Rattle.itf_reader.specs.Forms.{has_table, has_topic}
use Rattle.itf_reader.proofs.Sorting.{by_test}

-- a name longer than some others is none of them
not_same : (long name : List ℕ) → length name < length long → same long name ≡ false
not_same long name h =
    by_test (same long name)
    (λ e. let d = bytes_eq-Decides long name in let l = ap (λ (x : List ℕ). length x) (d.0 e) in
    absurd (omega (arith, l)))
    (λ e. e)

pub same_itself : (name : List ℕ) → same name name ≡ true
same_itself name = let d = bytes_eq-Decides name name in d.1 refl

zeros : ℕ → List ℕ
zeros zero = []
zeros (suc n) = 0 ∷ zeros n

length-zeros : (n : ℕ) → length (zeros n) ≡ n
unfolding zeros
length-zeros zero = refl
length-zeros (suc n) = ap suc (length-zeros n)

-- ---- topics
abbrev all_bytes : List (List ℕ) → ℕ
all_bytes [] = 0
all_bytes (name ∷ names) = length name + all_bytes names

past_topics : (n : ℕ) (long : List ℕ) (a b : List (List ℕ)) → all_bytes a < length long
    → topic_named n (long ∷ []) (a ++ b) ≡ topic_named (length a + n) (long ∷ []) b
past_topics n long [] b h = ap (λ (k : ℕ). topic_named k (long ∷ []) b) (omega arith)
past_topics n long (name ∷ a) b h =
    let e = not_same long name (omega arith) in
    rw e (past_topics (n + 1) long a b (omega arith)
    ∙ ap (λ (k : ℕ). topic_named k (long ∷ []) b) (omega arith))

abbrev topic_numbers : List TopicRows → ℕ
topic_numbers [] = 0
topic_numbers (t ∷ ts) = t.topic + topic_numbers ts

no_topic_came : (i : ℕ) (earlier : List TopicRows) → topic_numbers earlier < i
    → has_topic i earlier ≡ false
no_topic_came i [] h = refl
no_topic_came i (t ∷ ts) h =
    let e : nat_eq t.topic i ≡ false = search arith in
    rw e (no_topic_came i ts (omega arith))

abbrev empty_names : ℕ → List (List ℕ)
empty_names zero = []
empty_names (suc n) = [] ∷ empty_names n

no_bytes : (k : ℕ) → all_bytes (empty_names k) ≡ 0
no_bytes zero = refl
no_bytes (suc k) = omega (arith, no_bytes k)

all_bytes-append : (a : List (List ℕ)) (k : ℕ) → all_bytes (a ++ empty_names k) ≡ all_bytes a
all_bytes-append [] k = no_bytes k
all_bytes-append (name ∷ a) k = ap (λ (n : ℕ). length name + n) (all_bytes-append a k)

length-empty_names : (k : ℕ) → length (empty_names k) ≡ k
length-empty_names zero = refl
length-empty_names (suc k) = ap suc (length-empty_names k)

pub record NewTopic (topics : List (List ℕ)) (earlier : List TopicRows) : Type 0 where
  pub more : List (List ℕ)
  pub fields : List (List ℕ)
  pub number : ℕ
  pub named : topic_named 0 fields (topics ++ more) ≡ Some number
  pub came_not : has_topic number earlier ≡ false

pub new_topic : (topics : List (List ℕ)) (earlier : List TopicRows) → NewTopic topics earlier
new_topic topics earlier =
    let k = suc (topic_numbers earlier) in
    let long = zeros (suc (all_bytes topics)) in
    let front = topics ++ empty_names k in
    let l : length long ≡ suc (all_bytes topics) = length-zeros (suc (all_bytes topics)) in
    let b : all_bytes front ≡ all_bytes topics = all_bytes-append topics k in
    let n : length front ≡ length topics
    + length (empty_names k) = length-append topics (empty_names k) in
    let m : length (empty_names k) ≡ k = length-empty_names k in
    record {
      more = empty_names k ++ long ∷ [];
      fields = long ∷ [];
      number = length front + 0;
      named =
          ap (topic_named 0 (long ∷ [])) (sym (append_assoc topics (empty_names k) (long ∷ [])))
          ∙ past_topics 0 long front (long ∷ []) (omega (arith, l, b))
          ∙ rw (same_itself long) refl;
      came_not = no_topic_came (length front + 0) earlier (omega (arith, n, m));
    }

-- ---- tables
abbrev table_bytes : List Table → ℕ
table_bytes [] = 0
table_bytes (t ∷ ts) = length t.name + table_bytes ts

and_false : (b : Bool) → (b && false) ≡ false
and_false true = refl
and_false false = refl

past_tables : (n topic : ℕ) (long : List ℕ) (a b : List Table) → table_bytes a < length long
    → table_named n topic (long ∷ []) (a ++ b) ≡ table_named (length a + n) topic (long ∷ []) b
past_tables n topic long [] b h = ap (λ (k : ℕ). table_named k topic (long ∷ []) b) (omega arith)
past_tables n topic long (t ∷ a) b h =
    let e = not_same long t.name (omega arith) in
    let q = ap (λ (x : Bool). nat_eq t.topic topic && x) e ∙ and_false (nat_eq t.topic topic) in
    rw q (past_tables (n + 1) topic long a b (omega arith)
    ∙ ap (λ (k : ℕ). table_named k topic (long ∷ []) b) (omega arith))

abbrev table_numbers : List TableRows → ℕ
table_numbers [] = 0
table_numbers (t ∷ ts) = t.table + table_numbers ts

no_table_came : (i : ℕ) (earlier : List TableRows) → table_numbers earlier < i
    → has_table i earlier ≡ false
no_table_came i [] h = refl
no_table_came i (t ∷ ts) h =
    let e : nat_eq t.table i ≡ false = search arith in
    rw e (no_table_came i ts (omega arith))

abbrev empty_tables : ℕ → List Table
empty_tables zero = []
empty_tables (suc n) = record { topic = 0; name = []; lines = 0 } ∷ empty_tables n

no_table_bytes : (k : ℕ) → table_bytes (empty_tables k) ≡ 0
no_table_bytes zero = refl
no_table_bytes (suc k) = omega (arith, no_table_bytes k)

table_bytes-append : (a : List Table) (k : ℕ) → table_bytes (a ++ empty_tables k) ≡ table_bytes a
table_bytes-append [] k = no_table_bytes k
table_bytes-append (t ∷ a) k = ap (λ (n : ℕ). length t.name + n) (table_bytes-append a k)

length-empty_tables : (k : ℕ) → length (empty_tables k) ≡ k
length-empty_tables zero = refl
length-empty_tables (suc k) = ap suc (length-empty_tables k)

itself : (topic n : ℕ) (t : Table) (long : List ℕ) → t.topic ≡ topic → t.name ≡ long
    → table_named n topic (long ∷ []) (t ∷ []) ≡ Some (n, t)
itself topic n t long e h =
    let p : nat_eq t.topic topic ≡ true = search arith in
    let q : same long t.name ≡ true = ap (same long) h ∙ same_itself long in
    rw p (rw q refl)

pub record NewTable (tables : List Table) (topic : ℕ) (earlier : List TableRows) : Type 0 where
  pub more : List Table
  pub fields : List (List ℕ)
  pub found : ℕ × Table
  pub named : table_named 0 topic fields (tables ++ more) ≡ Some found
  pub came_not : has_table found.0 earlier ≡ false

pub new_table : (tables : List Table) (topic : ℕ) (earlier : List TableRows)
    → NewTable tables topic earlier
new_table tables topic earlier =
    let k = suc (table_numbers earlier) in
    let long = zeros (suc (table_bytes tables)) in
    let front = tables ++ empty_tables k in
    let last : Table = record { topic = topic; name = long; lines = 0 } in
    let l : length long ≡ suc (table_bytes tables) = length-zeros (suc (table_bytes tables)) in
    let b : table_bytes front ≡ table_bytes tables = table_bytes-append tables k in
    let n : length front ≡ length tables
    + length (empty_tables k) = length-append tables (empty_tables k) in
    let m : length (empty_tables k) ≡ k = length-empty_tables k in
    record {
      more = empty_tables k ++ last ∷ [];
      fields = long ∷ [];
      found = (length front + 0, last);
      named =
          ap (table_named 0 topic (long ∷ []))
          (sym (append_assoc tables (empty_tables k) (last ∷ [])))
          ∙ past_tables 0 topic long front (last ∷ []) (omega (arith, l, b))
          ∙ itself topic (length front + 0) last long refl refl;
      came_not = no_table_came (length front + 0) earlier (omega (arith, n, m));
    }
