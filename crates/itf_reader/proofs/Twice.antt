-- A line with the code twice names what came before.
use Rattle.std.proofs.Common.{◌≡◌, ℕ, Bool, true, false, cond, ◌&&◌, List, [], ◌∷◌, ◌++◌, Option}
use Rattle.std.proofs.Common.{Some, None, Result, Ok, Err, refl, ap, sym, subst, ◌∙◌, if◌then◌else◌}
use Rattle.std.proofs.Common.{nat_eq, ◌⊎◌, inl, inr}
use Rattle.std.proofs.lemmas.Bool.{eqb-true}
use Rattle.itf_lines.specs.declared.word.LineWord.{LineWord}
use Rattle.itf_lines.specs.declared.word.LineWord.TheVariants.{Scnt, Slashes, Mtid, Modl, Motr}
use Rattle.itf_lines.specs.declared.word.LineWord.TheVariants.{Topi, Tabl, Obje, Stpt, Lipt, Arcp}
use Rattle.itf_lines.specs.declared.word.LineWord.TheVariants.{Elin, Etab, Etop, Emod, Ende}
use Rattle.itf_lines.specs.LogicalLines.{LogicalLine}
use Rattle.itf_reader.specs.Forms.{Table, Form, TableRows, TopicRows, names, table_named}
use Rattle.itf_reader.specs.Forms.{topic_named, has_table, has_topic}
use Rattle.itf_reader.specs.TransferText.{line, is_free, IsFaultAt}
use Rattle.itf_reader.specs.Machine.{InTopic, State, start, free, title, model, topics, tables}
use Rattle.itf_reader.specs.Machine.{objects, strokes, vertices, arc, last, done, has_room}
use Rattle.itf_reader.specs.Machine.{closed_topic, closed_table, named_table, named_topic, refusal}
use Rattle.itf_reader.specs.Machine.{Code, Word, Name, Twice, by_word, step, then_run, run}
use Rattle.itf_reader.specs.Codes.{HasCode}
use Rattle.itf_reader.specs.NamedBefore.{after_slashes, is_within, are_within, NamesTopic}
use Rattle.itf_reader.specs.NamedBefore.{topic_here, topic_later, NamesTable, table_here}
use Rattle.itf_reader.specs.NamedBefore.{table_later, NamedBefore}
use Rattle.itf_reader.proofs.Counted.{table_more, topic_more}
use Rattle.itf_reader.proofs.Codes.{run_opens, has_code, one_code}
use Rattle.itf_reader.proofs.Stands.{taken_on, refused_begins}

-- before the line of four slashes
abbrev in_head : State → Bool
in_head start = true
in_head free = true
in_head s = false

-- the lines after the head, from a state on
abbrev body_of : State → List LogicalLine → List LogicalLine
body_of s ls = if in_head s then after_slashes ls else ls

-- the topics that came, the open one too
abbrev topics_in : State → List TopicRows
topics_in (topics earlier) = earlier
topics_in (tables t) = closed_topic t
topics_in (objects t) = closed_topic t.inside
topics_in (strokes r) = closed_topic (r.inside).inside
topics_in (vertices r vs) = closed_topic (r.inside).inside
topics_in (arc r vs) = closed_topic (r.inside).inside
topics_in (last earlier) = earlier
topics_in (done earlier) = earlier
topics_in s = []

abbrev state_in : State → Result State Code → State
state_in other (Ok s) = s
state_in other (Err c) = other

-- ---- topics
abbrev FromTopic : Form → State → LineWord → List (List ℕ) → ℕ → Type 0
FromTopic f s w fs i =
    (has_topic i (topics_in s) ≡ true)
    ⊎ ((w ≡ Topi) × (topic_named 0 fs f.topics ≡ Some i) × (in_head s ≡ false))

abbrev TopicSteps : Form → State → LineWord → List (List ℕ) → Result State Code → Type 0
TopicSteps f s w fs r = (u : State) (i : ℕ) → r ≡ Ok u → has_topic i (topics_in u) ≡ true
    → FromTopic f s w fs i

kept : (f : Form) (s v : State) (w : LineWord) (fs : List (List ℕ))
    → ((i : ℕ) → has_topic i (topics_in v) ≡ has_topic i (topics_in s)) → TopicSteps f s w fs (Ok v)
kept f s v w fs e u i h k =
    inl (sym (e i) ∙ (ap (λ (x : State). has_topic i (topics_in x)) (ap (state_in v) h) ∙ k))

no_step : (f : Form) (s : State) (w : LineWord) (fs : List (List ℕ)) (c : Code)
    → TopicSteps f s w fs (Err c)
no_step f s w fs c u i h k = absurd cc

kept_if : (f : Form) (b : Bool) (s v : State) (w : LineWord) (fs : List (List ℕ)) (c : Code)
    → ((i : ℕ) → has_topic i (topics_in v) ≡ has_topic i (topics_in s))
    → TopicSteps f s w fs (if b then Ok v else Err c)
kept_if f true s v w fs c e = kept f s v w fs e
kept_if f false s v w fs c e = no_step f s w fs c

kept_unless : (f : Form) (b : Bool) (s v : State) (w : LineWord) (fs : List (List ℕ)) (c : Code)
    → ((i : ℕ) → has_topic i (topics_in v) ≡ has_topic i (topics_in s))
    → TopicSteps f s w fs (if b then Err c else Ok v)
kept_unless f true s v w fs c e = no_step f s w fs c
kept_unless f false s v w fs c e = kept f s v w fs e

-- the number of the open topic alone counts
same_topic : (earlier : List TopicRows) (a b : TopicRows) → a.topic ≡ b.topic → (i : ℕ)
    → has_topic i (earlier ++ (a ∷ [])) ≡ has_topic i (earlier ++ (b ∷ []))
same_topic earlier a b e i = topic_more i earlier a
    ∙ (ap (λ (n : ℕ). cond (nat_eq n i) true (has_topic i earlier)) e
    ∙ sym (topic_more i earlier b))

one_more : (a : Bool) (b : Bool) → cond a true b ≡ true → (a ≡ true) ⊎ (b ≡ true)
one_more true b h = inl refl
one_more false b h = inr h

opened_topic_from : (f : Form) (earlier : List TopicRows) (fs : List (List ℕ)) (o : Option ℕ)
    → topic_named 0 fs f.topics ≡ o → TopicSteps f (topics earlier) Topi fs (named_topic earlier o)
opened_topic_from f earlier fs None e = no_step f (topics earlier) Topi fs Name
opened_topic_from f earlier fs (Some k) e = topic_after (has_topic k earlier)
  where
    topic_after : (b : Bool)
        → TopicSteps f (topics earlier) Topi fs
        (if b then Err Twice else Ok
        (tables (record { earlier = earlier; number = k; tables = [] })))
    topic_after true = no_step f (topics earlier) Topi fs Twice
    topic_after false = λ u i h q.
        let at = ap (λ (x : State). has_topic i (topics_in x)) (ap (state_in u) h) ∙ q in
        elim (nat_eq k i) as (λ c. nat_eq k i ≡ c → cond c true (has_topic i earlier) ≡ true
        → FromTopic f (topics earlier) Topi fs i) [
          | true ↦ λ c g. inr (refl, e ∙ ap (λ (n : ℕ). Some n) (eqb-true k i c), refl)
          | false ↦ λ c g. inl g
        ] refl (sym (topic_more i earlier (record { topic = k; tables = [] })) ∙ at)

topic_step : (f : Form) (s : State) (w : LineWord) (n : ℕ) (fs : List (List ℕ))
    → TopicSteps f s w fs (by_word f s w n fs)
topic_step f start Scnt n fs = kept f start free Scnt fs (λ i. refl)
topic_step f free Slashes n fs = kept f free title Slashes fs (λ i. refl)
topic_step f free w n fs = kept f free free w fs (λ i. refl)
topic_step f title Mtid n fs = kept f title model Mtid fs (λ i. refl)
topic_step f model Modl n fs =
    kept_if f (names fs f.model) model (topics []) Modl fs Name (λ i. refl)
topic_step f (topics earlier) Topi n fs =
    opened_topic_from f earlier fs (topic_named 0 fs f.topics) refl
topic_step f (topics earlier) Emod n fs = kept f (topics earlier) (last earlier) Emod fs (λ i. refl)
topic_step f (tables t) Tabl n fs = opened_table_from t (table_named 0 t.number fs f.tables)
  where
    opened_table_from : (t : InTopic) (o : Option (ℕ × Table))
        → TopicSteps f (tables t) Tabl fs (named_table t o)
    opened_table_from t None = no_step f (tables t) Tabl fs Name
    opened_table_from t (Some p) =
        kept_unless f (has_table p.0 t.tables) (tables t)
        (objects (record { inside = t; number = p.0; lines = p.1.lines; rows = [] })) Tabl fs Twice
        (λ i. refl)
topic_step f (tables t) Etop n fs = kept f (tables t) (topics (closed_topic t)) Etop fs (λ i. refl)
topic_step f (objects t) Obje n fs = kept f (objects t) _ Obje fs (λ i. refl)
topic_step f (objects t) Etab n fs =
    kept f (objects t) (tables (closed_table t)) Etab fs (same_topic (t.inside).earlier _ _ refl)
topic_step f (strokes r) Obje n fs = kept f (strokes r) _ Obje fs (λ i. refl)
topic_step f (strokes r) Etab n fs =
    kept f (strokes r) _ Etab fs (same_topic ((r.inside).inside).earlier _ _ refl)
topic_step f (strokes r) Stpt n fs = kept_if f (has_room r) (strokes r) _ Stpt fs Word (λ i. refl)
topic_step f (strokes r) Elin n fs = kept_if f (has_room r) (strokes r) _ Elin fs Word (λ i. refl)
topic_step f (vertices r vs) Lipt n fs = kept f (vertices r vs) _ Lipt fs (λ i. refl)
topic_step f (vertices r vs) Arcp n fs = kept f (vertices r vs) _ Arcp fs (λ i. refl)
topic_step f (vertices r vs) Elin n fs = kept f (vertices r vs) _ Elin fs (λ i. refl)
topic_step f (arc r vs) Lipt n fs = kept f (arc r vs) _ Lipt fs (λ i. refl)
topic_step f (last earlier) Ende n fs = kept f (last earlier) (done earlier) Ende fs (λ i. refl)
topic_step f (done earlier) w n fs = λ u i h k. absurd cc
topic_step f s w n fs = λ u i h k. absurd cc

-- ---- a step in the body stays there
abbrev Stays : State → Result State Code → Type 0
Stays s r = (u : State) → r ≡ Ok u → in_head s ≡ false → in_head u ≡ false

stays : (s v : State) → in_head v ≡ false → Stays s (Ok v)
stays s v e u h k = ap in_head (sym (ap (state_in v) h)) ∙ e

stays_not : (s : State) (c : Code) → Stays s (Err c)
stays_not s c u h k = absurd cc

stays_if : (s v : State) (b : Bool) (c : Code) → in_head v ≡ false
    → Stays s (if b then Ok v else Err c)
stays_if s v true c e = stays s v e
stays_if s v false c e = stays_not s c

stays_unless : (s v : State) (b : Bool) (c : Code) → in_head v ≡ false
    → Stays s (if b then Err c else Ok v)
stays_unless s v true c e = stays_not s c
stays_unless s v false c e = stays s v e

stays_topic : (earlier : List TopicRows) (o : Option ℕ)
    → Stays (topics earlier) (named_topic earlier o)
stays_topic earlier None = stays_not (topics earlier) Name
stays_topic earlier (Some i) =
    stays_unless (topics earlier) (tables (record { earlier = earlier; number = i; tables = [] }))
    (has_topic i earlier) Twice refl

stays_table : (t : InTopic) (o : Option (ℕ × Table)) → Stays (tables t) (named_table t o)
stays_table t None = stays_not (tables t) Name
stays_table t (Some p) =
    stays_unless (tables t)
    (objects (record { inside = t; number = p.0; lines = p.1.lines; rows = [] }))
    (has_table p.0 t.tables) Twice refl

body_stays : (f : Form) (s : State) (w : LineWord) (n : ℕ) (fs : List (List ℕ))
    → Stays s (by_word f s w n fs)
body_stays f start w n fs = λ u h k. absurd cc
body_stays f free w n fs = λ u h k. absurd cc
body_stays f title Mtid n fs = stays title model refl
body_stays f model Modl n fs = stays_if model (topics []) (names fs f.model) Name refl
body_stays f (topics earlier) Topi n fs = stays_topic earlier (topic_named 0 fs f.topics)
body_stays f (topics earlier) Emod n fs = stays (topics earlier) (last earlier) refl
body_stays f (tables t) Tabl n fs = stays_table t (table_named 0 t.number fs f.tables)
body_stays f (tables t) Etop n fs = stays (tables t) (topics (closed_topic t)) refl
body_stays f (objects t) Obje n fs = stays (objects t) _ refl
body_stays f (objects t) Etab n fs = stays (objects t) _ refl
body_stays f (strokes r) Obje n fs = stays (strokes r) _ refl
body_stays f (strokes r) Etab n fs = stays (strokes r) _ refl
body_stays f (strokes r) Stpt n fs = stays_if (strokes r) _ (has_room r) Word refl
body_stays f (strokes r) Elin n fs = stays_if (strokes r) _ (has_room r) Word refl
body_stays f (vertices r vs) Lipt n fs = stays (vertices r vs) _ refl
body_stays f (vertices r vs) Arcp n fs = stays (vertices r vs) _ refl
body_stays f (vertices r vs) Elin n fs = stays (vertices r vs) _ refl
body_stays f (arc r vs) Lipt n fs = stays (arc r vs) _ refl
body_stays f (last earlier) Ende n fs = stays (last earlier) (done earlier) refl
body_stays f (done earlier) w n fs = λ u h k. absurd cc
body_stays f s w n fs = λ u h k. absurd cc

-- what is named in the lines after is named in these too
abbrev ok_at : State → Result State Code
ok_at s = Ok s

body_out : (P : List LogicalLine → Type 0)
    → ((l : LogicalLine) (ls : List LogicalLine) → P ls → P (l ∷ ls))
    → (s u : State) (l : LogicalLine) (ls : List LogicalLine)
    → in_head s ≡ false → in_head u ≡ false → P (body_of u ls) → P (body_of s (l ∷ ls))
body_out P later s u l ls e k h =
    subst (λ (b : Bool). P (if b then after_slashes (l ∷ ls) else l ∷ ls)) (sym e)
    (later l ls (subst (λ (b : Bool). P (if b then after_slashes ls else ls)) k h))

head_out : (P : List LogicalLine → Type 0) (v u : State) (l : LogicalLine) (ls : List LogicalLine)
    → in_head v ≡ is_free l.word → Ok v ≡ ok_at u → P (body_of u ls) → P (after_slashes (l ∷ ls))
head_out P v u l ls e h k =
    let at : P (if in_head v then after_slashes ls else ls) = subst
    (λ (x : State). P (body_of x ls)) (sym (ap (state_in v) h)) k in
    subst (λ (b : Bool). P (if b then after_slashes ls else ls)) e at

body_step : (P : List LogicalLine → Type 0)
    → ((l : LogicalLine) (ls : List LogicalLine) → P ls → P (l ∷ ls))
    → (f : Form) (s u : State) (w : LineWord) (n : ℕ) (fs : List (List ℕ)) (ls : List LogicalLine)
    → by_word f s w n fs ≡ Ok u → P (body_of u ls) → P (body_of s (line w n fs ∷ ls))
body_step P later f start u Scnt n fs ls h k = head_out P free u (line Scnt n fs) ls refl h k
body_step P later f free u Slashes n fs ls h k = head_out P title u (line Slashes n fs) ls refl h k
body_step P later f free u w n fs ls h k = head_out P free u (line w n fs) ls refl h k
body_step P later f title u w n fs ls h k =
    body_out P later title u (line w n fs) ls refl (body_stays f title w n fs u h refl) k
body_step P later f model u w n fs ls h k =
    body_out P later model u (line w n fs) ls refl (body_stays f model w n fs u h refl) k
body_step P later f (topics earlier) u w n fs ls h k =
    body_out P later (topics earlier) u (line w n fs) ls refl
    (body_stays f (topics earlier) w n fs u h refl) k
body_step P later f (tables t) u w n fs ls h k =
    body_out P later (tables t) u (line w n fs) ls refl (body_stays f (tables t) w n fs u h refl) k
body_step P later f (objects t) u w n fs ls h k =
    body_out P later (objects t) u (line w n fs) ls refl
    (body_stays f (objects t) w n fs u h refl) k
body_step P later f (strokes r) u w n fs ls h k =
    body_out P later (strokes r) u (line w n fs) ls refl
    (body_stays f (strokes r) w n fs u h refl) k
body_step P later f (vertices r vs) u w n fs ls h k =
    body_out P later (vertices r vs) u (line w n fs) ls refl
    (body_stays f (vertices r vs) w n fs u h refl) k
body_step P later f (arc r vs) u w n fs ls h k =
    body_out P later (arc r vs) u (line w n fs) ls refl (body_stays f (arc r vs) w n fs u h refl) k
body_step P later f (last earlier) u w n fs ls h k =
    body_out P later (last earlier) u (line w n fs) ls refl
    (body_stays f (last earlier) w n fs u h refl) k
body_step P later f (done earlier) u w n fs ls h k = absurd cc
body_step P later f start u w n fs ls h k = absurd cc

-- ---- the topics that came
topic_line : (f : Form) (s : State) (w : LineWord) (n : ℕ) (fs : List (List ℕ))
    (ls : List LogicalLine) (i : ℕ)
    → w ≡ Topi → topic_named 0 fs f.topics ≡ Some i → in_head s ≡ false
    → NamesTopic f i (body_of s (line w n fs ∷ ls))
topic_line f s w n fs ls i e h k =
    subst (λ (b : Bool). NamesTopic f i
    (if b then after_slashes (line w n fs ∷ ls) else line w n fs ∷ ls)) (sym k)
    (subst (λ (x : LineWord). NamesTopic f i (line x n fs ∷ ls)) (sym e) (topic_here n fs ls h))

topic_back : (f : Form) (s u : State) (l : LogicalLine) (ls : List LogicalLine) (i : ℕ)
    → step f s l ≡ Ok u → (has_topic i (topics_in u) ≡ true) ⊎ NamesTopic f i (body_of u ls)
    → (has_topic i (topics_in s) ≡ true) ⊎ NamesTopic f i (body_of s (l ∷ ls))
topic_back f s u l ls i h (inl k) = back (topic_step f s l.word l.number l.fields u i h k)
  where
    back : FromTopic f s l.word l.fields i
        → (has_topic i (topics_in s) ≡ true) ⊎ NamesTopic f i (body_of s (l ∷ ls))
    back (inl e) = inl e
    back (inr e) = inr (topic_line f s l.word l.number l.fields ls i e.0 e.1 e.2)
topic_back f s u l ls i h (inr k) =
    inr (body_step (NamesTopic f i) (λ l ls p. topic_later l ls p) f s u l.word l.number l.fields ls
    h k)

topics_back : (f : Form) (s t : State) (ls : List LogicalLine) (i : ℕ) → run f s ls ≡ Ok t
    → has_topic i (topics_in t) ≡ true
    → (has_topic i (topics_in s) ≡ true) ⊎ NamesTopic f i (body_of s ls)
topics_back f s t [] i h k =
    inl (ap (λ (x : State). has_topic i (topics_in x)) (ap (state_in s) h) ∙ k)
topics_back f s t (l ∷ ls) i h k =
    elim (step f s l) as (λ r. step f s l ≡ r → then_run (λ u. run f u ls) r ≡ Ok t
    → (has_topic i (topics_in s) ≡ true) ⊎ NamesTopic f i (body_of s (l ∷ ls))) [
      | Ok u ↦ λ e g. topic_back f s u l ls i e (topics_back f u t ls i g k)
      | Err c ↦ λ e g. absurd cc
    ] refl h

no_false : {A : Type 0} → false ≡ true → A
no_false h = absurd cc

only_right : {A B : Type 0} → (A → ⊥) → A ⊎ B → B
only_right never (inl a) = absurd (never a)
only_right never (inr b) = b

topic_before : (f : Form) (front : List LogicalLine) (t : State) (i : ℕ) → run f start front ≡ Ok t
    → has_topic i (topics_in t) ≡ true → NamesTopic f i (after_slashes front)
topic_before f front t i h k = only_right (λ e. no_false e) (topics_back f start t front i h k)

-- ---- tables of the open topic
abbrev tables_in : State → List TableRows
tables_in (tables t) = t.tables
tables_in (objects t) = (closed_table t).tables
tables_in (strokes r) = (closed_table r.inside).tables
tables_in (vertices r vs) = (closed_table r.inside).tables
tables_in (arc r vs) = (closed_table r.inside).tables
tables_in s = []

abbrev open_number : State → Option ℕ
open_number (tables t) = Some t.number
open_number (objects t) = Some (t.inside).number
open_number (strokes r) = Some ((r.inside).inside).number
open_number (vertices r vs) = Some ((r.inside).inside).number
open_number (arc r vs) = Some ((r.inside).inside).number
open_number s = None

record Stood (s : State) (w : LineWord) (k i : ℕ) : Type 0 where
  number : open_number s ≡ Some k
  earlier : has_table i (tables_in s) ≡ true
  within : is_within w ≡ true

record Named (f : Form) (s : State) (w : LineWord) (fs : List (List ℕ)) (k i : ℕ) : Type 0 where
  table : Table
  is_tabl : w ≡ Tabl
  named : table_named 0 k fs f.tables ≡ Some (i, table)
  body : in_head s ≡ false

abbrev FromTable : Form → State → LineWord → List (List ℕ) → ℕ → ℕ → Type 0
FromTable f s w fs k i = Stood s w k i ⊎ Named f s w fs k i

abbrev TableSteps : Form → State → LineWord → List (List ℕ) → Result State Code → Type 0
TableSteps f s w fs r = (u : State) (k i : ℕ) → r ≡ Ok u → open_number u ≡ Some k
    → has_table i (tables_in u) ≡ true → FromTable f s w fs k i

stood : (f : Form) (s v : State) (w : LineWord) (fs : List (List ℕ)) → is_within w ≡ true
    → open_number v ≡ open_number s
    → ((i : ℕ) → has_table i (tables_in v) ≡ has_table i (tables_in s)) → TableSteps f s w fs (Ok v)
stood f s v w fs q o e u k i h n c =
    let v_is : v ≡ u = ap (state_in v) h in
    inl (record {
      number = sym o ∙ (ap open_number v_is ∙ n);
      earlier = sym (e i) ∙ (ap (λ (x : State). has_table i (tables_in x)) v_is ∙ c);
      within = q;
    })

gone : (f : Form) (s v : State) (w : LineWord) (fs : List (List ℕ))
    → ((i : ℕ) → has_table i (tables_in v) ≡ false) → TableSteps f s w fs (Ok v)
gone f s v w fs e u k i h n c =
    no_false (sym (e i) ∙ (ap (λ (x : State). has_table i (tables_in x)) (ap (state_in v) h) ∙ c))

refused : (f : Form) (s : State) (w : LineWord) (fs : List (List ℕ)) (c : Code)
    → TableSteps f s w fs (Err c)
refused f s w fs c u k i h n q = absurd cc

stood_if : (f : Form) (b : Bool) (s v : State) (w : LineWord) (fs : List (List ℕ)) (c : Code)
    → is_within w ≡ true → open_number v ≡ open_number s
    → ((i : ℕ) → has_table i (tables_in v) ≡ has_table i (tables_in s))
    → TableSteps f s w fs (if b then Ok v else Err c)
stood_if f true s v w fs c q o e = stood f s v w fs q o e
stood_if f false s v w fs c q o e = refused f s w fs c

gone_if : (f : Form) (b : Bool) (s v : State) (w : LineWord) (fs : List (List ℕ)) (c : Code)
    → ((i : ℕ) → has_table i (tables_in v) ≡ false)
    → TableSteps f s w fs (if b then Ok v else Err c)
gone_if f true s v w fs c e = gone f s v w fs e
gone_if f false s v w fs c e = refused f s w fs c

gone_unless : (f : Form) (b : Bool) (s v : State) (w : LineWord) (fs : List (List ℕ)) (c : Code)
    → ((i : ℕ) → has_table i (tables_in v) ≡ false)
    → TableSteps f s w fs (if b then Err c else Ok v)
gone_unless f true s v w fs c e = refused f s w fs c
gone_unless f false s v w fs c e = gone f s v w fs e

gone_topic : (f : Form) (earlier : List TopicRows) (fs : List (List ℕ)) (o : Option ℕ)
    → TableSteps f (topics earlier) Topi fs (named_topic earlier o)
gone_topic f earlier fs None = refused f (topics earlier) Topi fs Name
gone_topic f earlier fs (Some i) =
    gone_unless f (has_topic i earlier) (topics earlier)
    (tables (record { earlier = earlier; number = i; tables = [] })) Topi fs Twice (λ i. refl)

same_table : (earlier : List TableRows) (a b : TableRows) → a.table ≡ b.table → (i : ℕ)
    → has_table i (earlier ++ (a ∷ [])) ≡ has_table i (earlier ++ (b ∷ []))
same_table earlier a b e i = table_more i earlier a
    ∙ (ap (λ (n : ℕ). cond (nat_eq n i) true (has_table i earlier)) e
    ∙ sym (table_more i earlier b))

some_number : (a b : ℕ) → Some a ≡ Some b → a ≡ b
some_number a b h = cc

opened_table_from : (f : Form) (t : InTopic) (fs : List (List ℕ)) (o : Option (ℕ × Table))
    → table_named 0 t.number fs f.tables ≡ o → TableSteps f (tables t) Tabl fs (named_table t o)
opened_table_from f t fs None e = refused f (tables t) Tabl fs Name
opened_table_from f t fs (Some p) e = topic_after (has_table p.0 t.tables)
  where
    topic_after : (b : Bool)
        → TableSteps f (tables t) Tabl fs
        (if b then Err Twice else Ok
        (objects (record { inside = t; number = p.0; lines = p.1.lines; rows = [] })))
    topic_after true = refused f (tables t) Tabl fs Twice
    topic_after false = λ u k i h n c.
        let v : State = objects (record {
          inside = t;
          number = p.0;
          lines = p.1.lines;
          rows = [];
        }) in
        let v_is : v ≡ u = ap (state_in v) h in
        let number : t.number ≡ k = some_number t.number k (ap open_number v_is ∙ n) in
        let at = ap (λ (x : State). has_table i (tables_in x)) v_is ∙ c in
        elim (nat_eq p.0 i) as (λ b. nat_eq p.0 i ≡ b → cond b true (has_table i t.tables) ≡ true
        → FromTable f (tables t) Tabl fs k i) [
          | true ↦ λ b g. inr (record {
            table = p.1;
            is_tabl = refl;
            named = subst (λ (x : ℕ). table_named 0 x fs f.tables ≡ Some (i, p.1)) number (e
                ∙ ap (λ (x : ℕ). Some (x, p.1)) (eqb-true p.0 i b));
            body = refl;
          })
          | false ↦ λ b g. inl (record {
            number = ap (λ (x : ℕ). Some x) number;
            earlier = g;
            within = refl;
          })
        ] refl (sym (table_more i t.tables (record { table = p.0; rows = [] })) ∙ at)

table_step : (f : Form) (s : State) (w : LineWord) (n : ℕ) (fs : List (List ℕ))
    → TableSteps f s w fs (by_word f s w n fs)
table_step f start Scnt n fs = gone f start free Scnt fs (λ i. refl)
table_step f free Slashes n fs = gone f free title Slashes fs (λ i. refl)
table_step f free w n fs = gone f free free w fs (λ i. refl)
table_step f title Mtid n fs = gone f title model Mtid fs (λ i. refl)
table_step f model Modl n fs =
    gone_if f (names fs f.model) model (topics []) Modl fs Name (λ i. refl)
table_step f (topics earlier) Topi n fs = gone_topic f earlier fs (topic_named 0 fs f.topics)
table_step f (topics earlier) Emod n fs = gone f (topics earlier) (last earlier) Emod fs (λ i. refl)
table_step f (tables t) Tabl n fs =
    opened_table_from f t fs (table_named 0 t.number fs f.tables) refl
table_step f (tables t) Etop n fs = gone f (tables t) (topics (closed_topic t)) Etop fs (λ i. refl)
table_step f (objects t) Obje n fs = stood f (objects t) _ Obje fs refl refl (λ i. refl)
table_step f (objects t) Etab n fs =
    stood f (objects t) (tables (closed_table t)) Etab fs refl refl (λ i. refl)
table_step f (strokes r) Obje n fs =
    stood f (strokes r) _ Obje fs refl refl (same_table ((r.inside).inside).tables _ _ refl)
table_step f (strokes r) Etab n fs =
    stood f (strokes r) _ Etab fs refl refl (same_table ((r.inside).inside).tables _ _ refl)
table_step f (strokes r) Stpt n fs =
    stood_if f (has_room r) (strokes r) _ Stpt fs Word refl refl (λ i. refl)
table_step f (strokes r) Elin n fs =
    stood_if f (has_room r) (strokes r) _ Elin fs Word refl refl (λ i. refl)
table_step f (vertices r vs) Lipt n fs = stood f (vertices r vs) _ Lipt fs refl refl (λ i. refl)
table_step f (vertices r vs) Arcp n fs = stood f (vertices r vs) _ Arcp fs refl refl (λ i. refl)
table_step f (vertices r vs) Elin n fs = stood f (vertices r vs) _ Elin fs refl refl (λ i. refl)
table_step f (arc r vs) Lipt n fs = stood f (arc r vs) _ Lipt fs refl refl (λ i. refl)
table_step f (last earlier) Ende n fs = gone f (last earlier) (done earlier) Ende fs (λ i. refl)
table_step f (done earlier) w n fs = λ u k i h o c. absurd cc
table_step f s w n fs = λ u k i h o c. absurd cc

-- the table came before these lines, which open no topic
record StoodBefore (s : State) (ls : List LogicalLine) (k i : ℕ) : Type 0 where
  number : open_number s ≡ Some k
  earlier : has_table i (tables_in s) ≡ true
  within : are_within ls ≡ true

and_true : (a b : Bool) → a ≡ true → b ≡ true → (a && b) ≡ true
and_true true b h k = k
and_true false b h k = absurd cc

table_line : (f : Form) (s : State) (w : LineWord) (n : ℕ) (fs : List (List ℕ))
    (ls : List LogicalLine) (k i : ℕ)
    → Named f s w fs k i → are_within ls ≡ true → NamesTable f k i (body_of s (line w n fs ∷ ls))
table_line f s w n fs ls k i h q =
    subst (λ (b : Bool). NamesTable f k i
    (if b then after_slashes (line w n fs ∷ ls) else line w n fs ∷ ls)) (sym h.body)
    (subst (λ (x : LineWord). NamesTable f k i (line x n fs ∷ ls)) (sym h.is_tabl)
    (table_here n fs h.table ls h.named q))

table_back : (f : Form) (s u : State) (l : LogicalLine) (ls : List LogicalLine) (k i : ℕ)
    → step f s l ≡ Ok u → StoodBefore u ls k i ⊎ NamesTable f k i (body_of u ls)
    → StoodBefore s (l ∷ ls) k i ⊎ NamesTable f k i (body_of s (l ∷ ls))
table_back f s u l ls k i h (inl a) =
    back (table_step f s l.word l.number l.fields u k i h a.number a.earlier)
  where
    back : FromTable f s l.word l.fields k i
        → StoodBefore s (l ∷ ls) k i ⊎ NamesTable f k i (body_of s (l ∷ ls))
    back (inl e) =
        inl (record {
          number = e.number;
          earlier = e.earlier;
          within = and_true (is_within l.word) (are_within ls) e.within a.within;
        })
    back (inr e) = inr (table_line f s l.word l.number l.fields ls k i e a.within)
table_back f s u l ls k i h (inr a) =
    inr (body_step (NamesTable f k i) (λ l ls p. table_later l ls p) f s u l.word l.number l.fields
    ls h a)

tables_back : (f : Form) (s t : State) (ls : List LogicalLine) (k i : ℕ) → run f s ls ≡ Ok t
    → open_number t ≡ Some k → has_table i (tables_in t) ≡ true
    → StoodBefore s ls k i ⊎ NamesTable f k i (body_of s ls)
tables_back f s t [] k i h n c =
    let s_is : s ≡ t = ap (state_in s) h in
    inl (record {
      number = ap open_number s_is ∙ n;
      earlier = ap (λ (x : State). has_table i (tables_in x)) s_is ∙ c;
      within = refl;
    })
tables_back f s t (l ∷ ls) k i h n c =
    elim (step f s l) as (λ r. step f s l ≡ r → then_run (λ u. run f u ls) r ≡ Ok t
    → StoodBefore s (l ∷ ls) k i ⊎ NamesTable f k i (body_of s (l ∷ ls))) [
      | Ok u ↦ λ e g. table_back f s u l ls k i e (tables_back f u t ls k i g n c)
      | Err c ↦ λ e g. absurd cc
    ] refl h

table_before : (f : Form) (front : List LogicalLine) (t : State) (k i : ℕ)
    → run f start front ≡ Ok t → open_number t ≡ Some k → has_table i (tables_in t) ≡ true
    → NamesTable f k i (after_slashes front)
table_before f front t k i h n c =
    only_right (λ e. no_false e.earlier) (tables_back f start t front k i h n c)

-- ---- where the machine stops with the code twice
abbrev TwiceAt : Form → State → LineWord → List (List ℕ) → Type 0
TwiceAt f (topics earlier) Topi fs =
    (i : ℕ) × (topic_named 0 fs f.topics ≡ Some i) × (has_topic i earlier ≡ true)
TwiceAt f (tables t) Tabl fs =
    (i : ℕ) × (table : Table) × (table_named 0 t.number fs f.tables ≡ Some (i, table))
    × (has_table i t.tables ≡ true)
TwiceAt f s w fs = ⊥

not_refused : (w : LineWord) → refusal w ≡ Twice → ⊥
not_refused Motr h = absurd cc
not_refused w h = absurd cc

not_if : (b : Bool) (s : State) (c : Code) → (c ≡ Twice → ⊥)
    → (if b then Ok s else Err c) ≡ Err Twice → ⊥
not_if true s c n h = absurd cc
not_if false s c n h = n (ap (code_in c) h)
  where
    code_in : Code → Result State Code → Code
    code_in other (Ok s) = other
    code_in other (Err c) = c

topic_twice : (f : Form) (earlier : List TopicRows) (fs : List (List ℕ)) (o : Option ℕ)
    → topic_named 0 fs f.topics ≡ o → named_topic earlier o ≡ Err Twice
    → TwiceAt f (topics earlier) Topi fs
topic_twice f earlier fs None e h = absurd cc
topic_twice f earlier fs (Some i) e h =
    elim (has_topic i earlier) as (λ b. has_topic i earlier ≡ b
    → (if b then Err Twice else Ok (tables (record { earlier = earlier; number = i; tables = [] })))
    ≡ Err Twice → TwiceAt f (topics earlier) Topi fs) [
      | true ↦ λ b g. (i, e, b)
      | false ↦ λ b g. absurd cc
    ] refl h

table_twice : (f : Form) (t : InTopic) (fs : List (List ℕ)) (o : Option (ℕ × Table))
    → table_named 0 t.number fs f.tables ≡ o → named_table t o ≡ Err Twice
    → TwiceAt f (tables t) Tabl fs
table_twice f t fs None e h = absurd cc
table_twice f t fs (Some p) e h =
    elim (has_table p.0 t.tables) as (λ b. has_table p.0 t.tables ≡ b
    → (if b then Err Twice else Ok
    (objects (record { inside = t; number = p.0; lines = p.1.lines; rows = [] }))) ≡ Err Twice
    → TwiceAt f (tables t) Tabl fs) [
      | true ↦ λ b g. (p.0, p.1, e, b)
      | false ↦ λ b g. absurd cc
    ] refl h

not_name : Name ≡ Twice → ⊥
not_name h = absurd cc

not_word : Word ≡ Twice → ⊥
not_word h = absurd cc

abbrev code_of : Result State Code → Code
code_of (Ok s) = Word
code_of (Err c) = c

twice_at : (f : Form) (s : State) (w : LineWord) (n : ℕ) (fs : List (List ℕ))
    → by_word f s w n fs ≡ Err Twice → TwiceAt f s w fs
twice_at f start Scnt n fs h = absurd cc
twice_at f free Slashes n fs h = absurd cc
twice_at f free w n fs h = absurd cc
twice_at f title Mtid n fs h = absurd cc
twice_at f model Modl n fs h = absurd (not_if (names fs f.model) (topics []) Name not_name h)
twice_at f (topics earlier) Topi n fs h =
    topic_twice f earlier fs (topic_named 0 fs f.topics) refl h
twice_at f (topics earlier) Emod n fs h = absurd cc
twice_at f (tables t) Tabl n fs h = table_twice f t fs (table_named 0 t.number fs f.tables) refl h
twice_at f (tables t) Etop n fs h = absurd cc
twice_at f (objects t) Obje n fs h = absurd cc
twice_at f (objects t) Etab n fs h = absurd cc
twice_at f (strokes r) Obje n fs h = absurd cc
twice_at f (strokes r) Etab n fs h = absurd cc
twice_at f (strokes r) Stpt n fs h = absurd (not_if (has_room r) _ Word not_word h)
twice_at f (strokes r) Elin n fs h = absurd (not_if (has_room r) _ Word not_word h)
twice_at f (vertices r vs) Lipt n fs h = absurd cc
twice_at f (vertices r vs) Arcp n fs h = absurd cc
twice_at f (vertices r vs) Elin n fs h = absurd cc
twice_at f (arc r vs) Lipt n fs h = absurd cc
twice_at f (last earlier) Ende n fs h = absurd cc
twice_at f (done earlier) w n fs h = absurd (not_word (ap code_of h))
twice_at f s w n fs h = absurd (not_refused w (ap code_of h))

came_at : (f : Form) (front : List LogicalLine) (s : State) (w : LineWord) (fs : List (List ℕ))
    → run f start front ≡ Ok s → TwiceAt f s w fs → NamedBefore f front w fs
came_at f front (topics earlier) Topi fs h k =
    (k.0, k.1, topic_before f front (topics earlier) k.0 h k.2)
came_at f front (tables t) Tabl fs h k = (
  t.number,
  k.0,
  k.1,
  run_opens f None start (tables t) front h tt,
  k.2,
  table_before f front (tables t) t.number k.0 h refl k.3,
)
came_at f front s w fs h k = absurd k

stopped : (f : Form) (front : List LogicalLine) (l : LogicalLine) (s : State)
    → run f start front ≡ Ok s → HasCode f front l Twice → (r : Result State Code) → step f s l ≡ r
    → IsFaultAt f front l → NamedBefore f front l.word l.fields
stopped f front l s h c (Ok t) e q = absurd (q.1 (taken_on f front l s t h e))
stopped f front l s h c (Err d) e q =
    let same = one_code f front l d Twice (has_code f front l s d h e) c in
    came_at f front s l.word l.fields h
    (twice_at f s l.word l.number l.fields (e ∙ ap (λ (x : Code). Err x) same))

-- what comes a second time came before
pub named_before : (f : Form) (front : List LogicalLine) (l : LogicalLine) → IsFaultAt f front l
    → HasCode f front l Twice → NamedBefore f front l.word l.fields
named_before f front l q c =
    elim (run f start front) as (λ r. run f start front ≡ r → NamedBefore f front l.word l.fields) [
      | Ok s ↦ λ h. stopped f front l s h c (step f s l) refl q
      | Err d ↦ λ h. absurd (refused_begins f front d h q.0)
    ] refl
