-- The rows that a machine holds are those that the lines before closed.
use Rattle.std.proofs.Common.{◌≡◌, ℕ, Bool, true, false, List, [], ◌∷◌, ◌++◌, Option, Some, None}
use Rattle.std.proofs.Common.{Result, Ok, Err, refl, ap, sym, ◌∙◌, if◌then◌else◌}
use Rattle.std.proofs.lemmas.List.{append_assoc, append-nil, map-append}
use Rattle.itf_lines.specs.declared.word.LineWord.{LineWord}
use Rattle.itf_lines.specs.declared.word.LineWord.TheVariants.{Scnt, Slashes, Mtid, Modl, Topi}
use Rattle.itf_lines.specs.declared.word.LineWord.TheVariants.{Tabl, Obje, Stpt, Lipt, Arcp, Elin}
use Rattle.itf_lines.specs.declared.word.LineWord.TheVariants.{Etab, Etop, Emod, Ende}
use Rattle.itf_lines.specs.LogicalLines.{LogicalLine}
use Rattle.itf_reader.specs.Forms.{Table, Form, Start, Straight, OnArc, vertex, Row, TableRows}
use Rattle.itf_reader.specs.Forms.{TopicRows, names, table_named, topic_named, has_table, has_topic}
use Rattle.itf_reader.specs.Forms.{tables_of}
use Rattle.itf_reader.specs.Machine.{InTopic, InTable, InRow, State, start, free, title, model}
use Rattle.itf_reader.specs.Machine.{topics, tables, objects, strokes, vertices, arc, last, done}
use Rattle.itf_reader.specs.Machine.{Code, Name, Twice, Word, closed_topic, closed_table}
use Rattle.itf_reader.specs.Machine.{closed_row, opened_row, named_topic, named_table, has_room}
use Rattle.itf_reader.specs.Machine.{by_word, step, then_run, run}
use Rattle.itf_reader.specs.ClosedRows.{row_closed, closes, closed_after, closed_from, pairs}
use Rattle.itf_reader.specs.ClosedRows.{all_pairs}

abbrev held_topics : List TopicRows → List (ℕ × Row)
held_topics earlier = all_pairs (tables_of earlier)

abbrev held_topic : InTopic → List (ℕ × Row)
held_topic t = held_topics t.earlier ++ all_pairs t.tables

abbrev held_table : InTable → List (ℕ × Row)
held_table t = held_topic t.inside ++ pairs (record { table = t.number; rows = t.rows })

-- the closed rows that a state holds
abbrev held : State → List (ℕ × Row)
held (topics earlier) = held_topics earlier
held (tables t) = held_topic t
held (objects t) = held_table t
held (strokes r) = held_table r.inside
held (vertices r vs) = held_table r.inside
held (arc r vs) = held_table r.inside
held (last earlier) = held_topics earlier
held (done earlier) = held_topics earlier
held state = []

all_pairs-append : (a b : List TableRows) → all_pairs (a ++ b) ≡ all_pairs a ++ all_pairs b
all_pairs-append [] b = refl
all_pairs-append (c ∷ a) b = ap (λ (l : List (ℕ × Row)). pairs c ++ l) (all_pairs-append a b)
    ∙ sym (append_assoc (pairs c) (all_pairs a) (all_pairs b))

one_pairs : (a : List TableRows) (c : TableRows)
    → all_pairs (a ++ (c ∷ [])) ≡ all_pairs a ++ pairs c
one_pairs a c = all_pairs-append a (c ∷ [])
    ∙ ap (λ (l : List (ℕ × Row)). all_pairs a ++ l) (append-nil (pairs c))

tables_of-append : (a b : List TopicRows) → tables_of (a ++ b) ≡ tables_of a ++ tables_of b
tables_of-append [] b = refl
tables_of-append (t ∷ a) b = ap (λ (l : List TableRows). t.tables ++ l) (tables_of-append a b)
    ∙ sym (append_assoc t.tables (tables_of a) (tables_of b))

topic_kept : (t : InTopic) → held_topics (closed_topic t) ≡ held_topic t
topic_kept t =
    ap all_pairs (tables_of-append t.earlier (record { topic = t.number; tables = t.tables } ∷ [])
    ∙ ap (λ (l : List TableRows). tables_of t.earlier ++ l) (append-nil t.tables))
    ∙ all_pairs-append (tables_of t.earlier) t.tables

table_kept : (t : InTable) → held_topic (closed_table t) ≡ held_table t
table_kept t =
    ap (λ (l : List (ℕ × Row)). held_topics t.inside.earlier ++ l)
    (one_pairs t.inside.tables (record { table = t.number; rows = t.rows }))
    ∙ sym (append_assoc (held_topics t.inside.earlier) (all_pairs t.inside.tables)
    (pairs (record { table = t.number; rows = t.rows })))

row_added : (r : InRow)
    → held_table (closed_row r) ≡ held_table r.inside ++ ((r.inside.number, row_closed r) ∷ [])
row_added r =
    ap (λ (l : List (ℕ × Row)). held_topic r.inside.inside ++ l)
    (map-append (λ row. (r.inside.number, row)) r.inside.rows (row_closed r ∷ []))
    ∙ sym (append_assoc (held_topic r.inside.inside)
    (pairs (record { table = r.inside.number; rows = r.inside.rows }))
    ((r.inside.number, row_closed r) ∷ []))

abbrev state_in : State → Result State Code → State
state_in other (Ok s) = s
state_in other (Err c) = other

-- a state that a line leads to
abbrev Leads : State → List (ℕ × Row) → Result State Code → Type 0
Leads s more r = (t : State) → r ≡ Ok t → held t ≡ held s ++ more

leads : (s : State) (more : List (ℕ × Row)) (u : State) → held u ≡ held s ++ more
    → Leads s more (Ok u)
leads s more u e t h = ap held (sym (ap (state_in u) h)) ∙ e

same : (s u : State) → held u ≡ held s → Leads s [] (Ok u)
same s u e = leads s [] u (e ∙ sym (append-nil (held s)))

none : (s : State) (more : List (ℕ × Row)) (c : Code) → Leads s more (Err c)
none s more c t h = absurd cc

if_same : (b : Bool) (s u : State) (c : Code) → held u ≡ held s
    → Leads s [] (if b then Ok u else Err c)
if_same true s u c e = same s u e
if_same false s u c e = none s [] c

if_taken : (b : Bool) (s u : State) (c : Code) → held u ≡ held s
    → Leads s [] (if b then Err c else Ok u)
if_taken true s u c e = none s [] c
if_taken false s u c e = same s u e

topic_leads : (earlier : List TopicRows) (o : Option ℕ)
    → Leads (topics earlier) [] (named_topic earlier o)
topic_leads earlier None = none (topics earlier) [] Name
topic_leads earlier (Some i) =
    if_taken (has_topic i earlier) (topics earlier)
    (tables (record { earlier = earlier; number = i; tables = [] })) Twice
    (append-nil (held_topics earlier))

table_leads : (t : InTopic) (o : Option (ℕ × Table)) → Leads (tables t) [] (named_table t o)
table_leads t None = none (tables t) [] Name
table_leads t (Some p) =
    if_taken (has_table p.0 t.tables) (tables t)
    (objects (record { inside = t; number = p.0; lines = p.1.lines; rows = [] })) Twice
    (append-nil (held_topic t))

held_word : (f : Form) (s : State) (w : LineWord) (n : ℕ) (fs : List (List ℕ))
    → Leads s (closes s w) (by_word f s w n fs)
held_word f start Scnt n fs = same start free refl
held_word f free Slashes n fs = same free title refl
held_word f free word n fs = same free free refl
held_word f title Mtid n fs = same title model refl
held_word f model Modl n fs = if_same (names fs f.model) model (topics []) Name refl
held_word f (topics earlier) Topi n fs = topic_leads earlier (topic_named 0 fs f.topics)
held_word f (topics earlier) Emod n fs = same (topics earlier) (last earlier) refl
held_word f (tables t) Tabl n fs = table_leads t (table_named 0 t.number fs f.tables)
held_word f (tables t) Etop n fs = same (tables t) (topics (closed_topic t)) (topic_kept t)
held_word f (objects t) Obje n fs = same (objects t) (strokes (opened_row t n fs)) refl
held_word f (objects t) Etab n fs = same (objects t) (tables (closed_table t)) (table_kept t)
held_word f (strokes r) Obje n fs =
    leads (strokes r) ((r.inside.number, row_closed r) ∷ [])
    (strokes (opened_row (closed_row r) n fs)) (row_added r)
held_word f (strokes r) Etab n fs =
    leads (strokes r) ((r.inside.number, row_closed r) ∷ []) (tables (closed_table (closed_row r)))
    (table_kept (closed_row r) ∙ row_added r)
held_word f (strokes r) Stpt n fs =
    if_same (has_room r) (strokes r) (vertices r (vertex Start n fs ∷ [])) Word refl
held_word f (strokes r) Elin n fs =
    if_same (has_room r) (strokes r)
    (strokes (record {
      inside = r.inside;
      line = r.line;
      fields = r.fields;
      strokes = r.strokes ++ [] ∷ [];
    })) Word refl
held_word f (vertices r vs) Lipt n fs =
    same (vertices r vs) (vertices r (vs ++ vertex Straight n fs ∷ [])) refl
held_word f (vertices r vs) Arcp n fs =
    same (vertices r vs) (arc r (vs ++ vertex OnArc n fs ∷ [])) refl
held_word f (vertices r vs) Elin n fs =
    same (vertices r vs)
    (strokes (record {
      inside = r.inside;
      line = r.line;
      fields = r.fields;
      strokes = r.strokes ++ vs ∷ [];
    })) refl
held_word f (arc r vs) Lipt n fs =
    same (arc r vs) (vertices r (vs ++ vertex Straight n fs ∷ [])) refl
held_word f (last earlier) Ende n fs = same (last earlier) (done earlier) refl
held_word f (done earlier) word n fs = λ t h. absurd cc
held_word f state word n fs = λ t h. absurd cc

-- and so over lines
held_run : (f : Form) (s t : State) (ls : List LogicalLine) → run f s ls ≡ Ok t
    → held t ≡ held s ++ closed_from f s ls
held_run f s t [] h = same s s refl t h
held_run f s t (l ∷ ls) h =
    elim (step f s l) as (λ r. step f s l ≡ r → then_run (λ u. run f u ls) r ≡ Ok t
    → held t ≡ held s ++ (closes s l.word ++ closed_after (λ u. closed_from f u ls) r)) [
      | Ok u ↦ λ e k. held_run f u t ls k
          ∙ (ap (λ (x : List (ℕ × Row)). x ++ closed_from f u ls)
          (held_word f s l.word l.number l.fields u e)
          ∙ append_assoc (held s) (closes s l.word) (closed_from f u ls))
      | Err c ↦ λ e k. absurd cc
    ] refl h

-- where a text ends, they are all of its rows
pub closed_whole : (f : Form) (ls : List LogicalLine) (ts : List TopicRows)
    → run f start ls ≡ Ok (done ts) → all_pairs (tables_of ts) ≡ closed_from f start ls
closed_whole f ls ts h = held_run f start (done ts) ls h
