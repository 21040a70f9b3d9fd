-- A machine that keeps no closed object goes as one that keeps them all.
use Rattle.std.proofs.Common.{◌≡◌, ℕ, Bool, true, false, List, [], ◌∷◌, ◌++◌, map, Option, Some}
use Rattle.std.proofs.Common.{None, Result, Ok, Err, refl, ap, sym, subst, ◌∙◌, if◌then◌else◌}
use Rattle.std.proofs.Common.{nat_eq}
use Rattle.std.proofs.lemmas.List.{map-append}
use Rattle.itf_lines.specs.declared.word.LineWord.{LineWord}
use Rattle.itf_lines.specs.declared.word.LineWord.TheVariants.{Scnt, Slashes, Mtid, Modl, Topi}
use Rattle.itf_lines.specs.declared.word.LineWord.TheVariants.{Tabl, Obje, Stpt, Lipt, Arcp, Elin}
use Rattle.itf_lines.specs.declared.word.LineWord.TheVariants.{Etab, Etop, Emod, Ende}
use Rattle.itf_lines.specs.LogicalLines.{LogicalLine}
use Rattle.itf_reader.specs.Forms.{Table, Form, Start, vertex, Row, TableRows, TopicRows, names}
use Rattle.itf_reader.specs.Forms.{table_named, topic_named, has_table, has_topic}
use Rattle.itf_reader.specs.Machine.{InTopic, InTable, InRow, State, start, free, title, model}
use Rattle.itf_reader.specs.Machine.{topics, tables, objects, strokes, vertices, arc, last, done}
use Rattle.itf_reader.specs.Machine.{with_stroke, Code, Name, Word, named_topic, named_table}
use Rattle.itf_reader.specs.Machine.{has_room, has_ended, by_word, step, then_run, run}
use Rattle.itf_reader.specs.Readings.{Structure, OfLine}
use Rattle.itf_reader.specs.ClosedRows.{closes, closed_after, closed_from}
use Rattle.itf_reader.specs.RowFeeds.{Standing, standing, stopped, forget_closed, standing_by, next}
use Rattle.itf_reader.specs.RowFeeds.{after_lines, shows, shown_rows}

-- ---- what is kept of a state
abbrev bare_table : TableRows → TableRows
bare_table t = record { table = t.table; rows = [] }

abbrev bare_topic : TopicRows → TopicRows
bare_topic t = record { topic = t.topic; tables = [] }

abbrev thin_topic : InTopic → InTopic
thin_topic t = record {
  earlier = map bare_topic t.earlier;
  number = t.number;
  tables = map bare_table t.tables;
}

abbrev thin_table : InTable → InTable
thin_table t = record {
  inside = thin_topic t.inside;
  number = t.number;
  lines = t.lines;
  rows = [];
}

abbrev thin_row : InRow → InRow
thin_row r = record {
  inside = thin_table r.inside;
  line = r.line;
  fields = r.fields;
  strokes = r.strokes;
}

abbrev pub thin : State → State
thin start = start
thin free = free
thin title = title
thin model = model
thin (topics earlier) = topics (map bare_topic earlier)
thin (tables t) = tables (thin_topic t)
thin (objects t) = objects (thin_table t)
thin (strokes r) = strokes (thin_row r)
thin (vertices r vs) = vertices (thin_row r) vs
thin (arc r vs) = arc (thin_row r) vs
thin (last earlier) = last (map bare_topic earlier)
thin (done earlier) = done (map bare_topic earlier)

abbrev thinned : ℕ → Result State Code → Standing
thinned n (Ok s) = standing (thin s)
thinned n (Err c) = stopped n (OfLine c)

pub thin_ended : (s : State) → has_ended (thin s) ≡ has_ended s
thin_ended (done earlier) = refl
thin_ended s = refl

-- ---- one line
same_topics : (n : ℕ) (ts : List TopicRows) → has_topic n (map bare_topic ts) ≡ has_topic n ts
same_topics n [] = refl
same_topics n (t ∷ ts) = ap (λ (b : Bool). if nat_eq t.topic n then true else b) (same_topics n ts)

same_tables : (n : ℕ) (ts : List TableRows) → has_table n (map bare_table ts) ≡ has_table n ts
same_tables n [] = refl
same_tables n (t ∷ ts) = ap (λ (b : Bool). if nat_eq t.table n then true else b) (same_tables n ts)

either : (n : ℕ) (a b : Bool) (s t : State) (c d : Result State Code) → a ≡ b → thin s ≡ thin t
    → standing_by n c ≡ thinned n d
    → standing_by n (if a then c else Ok (thin s)) ≡ thinned n (if b then d else Ok t)
either n true true s t c d e h k = k
either n true false s t c d e h k = absurd cc
either n false true s t c d e h k = absurd cc
either n false false s t c d e h k = ap (λ (x : State). standing x) h

if_room : (n : ℕ) (b : Bool) (s : State) (c : Code)
    → standing_by n (if b then Ok (thin s) else Err c) ≡ thinned n (if b then Ok s else Err c)
if_room n true s c = refl
if_room n false s c = refl

topic_word : (n : ℕ) (earlier : List TopicRows) (o : Option ℕ)
    → standing_by n (named_topic (map bare_topic earlier) o) ≡ thinned n (named_topic earlier o)
topic_word n earlier None = refl
topic_word n earlier (Some i) =
    let s = tables (record { earlier = earlier; number = i; tables = [] }) in
    either n (has_topic i (map bare_topic earlier)) (has_topic i earlier) s s _ _
    (same_topics i earlier) refl refl

table_word : (n : ℕ) (t : InTopic) (o : Option (ℕ × Table))
    → standing_by n (named_table (thin_topic t) o) ≡ thinned n (named_table t o)
table_word n t None = refl
table_word n t (Some p) =
    let s = objects (record { inside = t; number = p.0; lines = p.1.lines; rows = [] }) in
    either n (has_table p.0 (map bare_table t.tables)) (has_table p.0 t.tables) s s _ _
    (same_tables p.0 t.tables) refl refl

topic_end : (t : InTopic)
    → standing (topics (map bare_topic t.earlier
    ++ (record { topic = t.number; tables = [] } ∷ [])))
    ≡ standing (topics
    (map bare_topic (t.earlier ++ (record { topic = t.number; tables = t.tables } ∷ []))))
topic_end t =
    ap (λ (l : List TopicRows). standing (topics l))
    (sym (map-append bare_topic t.earlier (record { topic = t.number; tables = t.tables } ∷ [])))

abbrev table_in : InTopic → List TableRows → Standing
table_in t ts =
    standing (tables (record {
      earlier = map bare_topic t.earlier;
      number = t.number;
      tables = ts;
    }))

table_end : (t : InTopic) (n : ℕ) (rows : List Row)
    → table_in t (map bare_table t.tables ++ (record { table = n; rows = [] } ∷ []))
    ≡ table_in t (map bare_table (t.tables ++ (record { table = n; rows = rows } ∷ [])))
table_end t n rows =
    ap (table_in t) (sym (map-append bare_table t.tables (record { table = n; rows = rows } ∷ [])))

pub thin_word : (f : Form) (s : State) (w : LineWord) (n : ℕ) (fs : List (List ℕ))
    → standing_by n (by_word f (forget_closed (thin s) w) w n fs) ≡ thinned n (by_word f s w n fs)
thin_word f start Scnt n fs = refl
thin_word f free Slashes n fs = refl
thin_word f free word n fs = refl
thin_word f title Mtid n fs = refl
thin_word f model Modl n fs = if_room n (names fs f.model) (topics []) Name
thin_word f (topics earlier) Topi n fs = topic_word n earlier (topic_named 0 fs f.topics)
thin_word f (topics earlier) Emod n fs = refl
thin_word f (tables t) Tabl n fs = table_word n t (table_named 0 t.number fs f.tables)
thin_word f (tables t) Etop n fs = topic_end t
thin_word f (objects t) Obje n fs = refl
thin_word f (objects t) Etab n fs = table_end t.inside t.number t.rows
thin_word f (strokes r) Obje n fs = refl
thin_word f (strokes r) Etab n fs = table_end r.inside.inside r.inside.number _
thin_word f (strokes r) Stpt n fs =
    if_room n (has_room r) (vertices r (vertex Start n fs ∷ [])) Word
thin_word f (strokes r) Elin n fs = if_room n (has_room r) (strokes (with_stroke r [])) Word
thin_word f (vertices r vs) Lipt n fs = refl
thin_word f (vertices r vs) Arcp n fs = refl
thin_word f (vertices r vs) Elin n fs = refl
thin_word f (arc r vs) Lipt n fs = refl
thin_word f (last earlier) Ende n fs = refl
thin_word f (done earlier) word n fs = refl
thin_word f state word n fs = refl

thin_shows : (s : State) (w : LineWord) → shows (standing (thin s)) w ≡ closes s w
thin_shows (strokes r) Obje = refl
thin_shows (strokes r) Etab = refl
thin_shows s w = refl

-- ---- many lines
pub stays : (f : Form) (n : ℕ) (code : Structure) (ls : List LogicalLine)
    → after_lines f (stopped n code) ls ≡ stopped n code
stays f n code [] = refl
stays f n code (l ∷ ls) = stays f n code ls

no_rows : (f : Form) (n : ℕ) (code : Structure) (ls : List LogicalLine)
    → shown_rows f (stopped n code) ls ≡ []
no_rows f n code [] = refl
no_rows f n code (l ∷ ls) = no_rows f n code ls

rows_behind : (f : Form) (n : ℕ) (ls : List LogicalLine) (r : Result State Code)
    → ((t : State) → shown_rows f (standing (thin t)) ls ≡ closed_from f t ls)
    → shown_rows f (thinned n r) ls ≡ closed_after (λ t. closed_from f t ls) r
rows_behind f n ls (Ok t) rest = rest t
rows_behind f n ls (Err c) rest = no_rows f n (OfLine c) ls

-- the rows that are shown are those that lines close
pub rows_shown : (f : Form) (s : State) (ls : List LogicalLine)
    → shown_rows f (standing (thin s)) ls ≡ closed_from f s ls
rows_shown f s [] = refl
rows_shown f s (l ∷ ls) =
    ap (λ (x : List (ℕ × Row)). x ++ shown_rows f (next f (standing (thin s)) l) ls)
    (thin_shows s l.word)
    ∙ ap (λ (x : List (ℕ × Row)). closes s l.word ++ x)
    (ap (λ (at : Standing). shown_rows f at ls) (thin_word f s l.word l.number l.fields)
    ∙ rows_behind f l.number ls (step f s l) (λ t. rows_shown f t ls))

-- the first line at which the machine stops
pub record StopsWith (f : Form) (s : State) (ls : List LogicalLine) (n : ℕ)
    (code : Structure) : Type 0 where
  pub front : List LogicalLine
  pub rest : List LogicalLine
  pub l : LogicalLine
  pub behind : State
  pub kind : Code
  pub whole : ls ≡ front ++ (l ∷ rest)
  pub after_line : run f s front ≡ Ok behind
  pub refused : step f behind l ≡ Err kind
  pub is_number : n ≡ l.number
  pub is_code : code ≡ OfLine kind

-- where the machine that keeps all objects stands
abbrev pub Follows : Form → State → List LogicalLine → Standing → Type 0
Follows f s ls (standing u) = (t : State) × (run f s ls ≡ Ok t) × (u ≡ thin t)
Follows f s ls (stopped n code) = StopsWith f s ls n code

ahead : (f : Form) (s u : State) (l : LogicalLine) (ls : List LogicalLine) (at : Standing)
    → step f s l ≡ Ok u → Follows f u ls at → Follows f s (l ∷ ls) at
ahead f s u l ls (standing v) e h = (h.0, ap (then_run (λ t. run f t ls)) e ∙ h.1, h.2)
ahead f s u l ls (stopped n code) e k = record {
  front = l ∷ k.front;
  rest = k.rest;
  l = k.l;
  behind = k.behind;
  kind = k.kind;
  whole = ap (λ (x : List LogicalLine). l ∷ x) k.whole;
  after_line = ap (then_run (λ t. run f t k.front)) e ∙ k.after_line;
  refused = k.refused;
  is_number = k.is_number;
  is_code = k.is_code;
}

follow_on : (f : Form) (s : State) (l : LogicalLine) (ls : List LogicalLine) (r : Result State Code)
    → step f s l ≡ r → ((u : State) → Follows f u ls (after_lines f (standing (thin u)) ls))
    → Follows f s (l ∷ ls) (after_lines f (thinned l.number r) ls)
follow_on f s l ls (Ok u) e rest =
    ahead f s u l ls (after_lines f (standing (thin u)) ls) e (rest u)
follow_on f s l ls (Err c) e rest =
    subst (λ (at : Standing). Follows f s (l ∷ ls) at) (sym (stays f l.number (OfLine c) ls)) stop
  where
    stop : StopsWith f s (l ∷ ls) l.number (OfLine c)
    stop = record {
      front = [];
      rest = ls;
      l = l;
      behind = s;
      kind = c;
      whole = refl;
      after_line = refl;
      refused = e;
      is_number = refl;
      is_code = refl;
    }

pub follow : (f : Form) (s : State) (ls : List LogicalLine)
    → Follows f s ls (after_lines f (standing (thin s)) ls)
follow f s [] = (s, refl, refl)
follow f s (l ∷ ls) =
    subst (λ (at : Standing). Follows f s (l ∷ ls) (after_lines f at ls))
    (sym (thin_word f s l.word l.number l.fields))
    (follow_on f s l ls (step f s l) refl (λ u. follow f u ls))
