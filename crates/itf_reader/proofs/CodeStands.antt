-- The code with which the machine stops is the first that fits.
use Rattle.std.proofs.Common.{◌≡◌, ℕ, Bool, true, false, List, [], Option, Some, None, Result, Ok}
use Rattle.std.proofs.Common.{Err, ap, sym, if◌then◌else◌}
use Rattle.std.specs.Prelude.{not, is_some, ◌&&◌}
use Rattle.itf_lines.specs.declared.word.LineWord.{LineWord}
use Rattle.itf_lines.specs.declared.word.LineWord.TheVariants.{Scnt, Slashes, Mtid, Modl, Motr}
use Rattle.itf_lines.specs.declared.word.LineWord.TheVariants.{Topi, Tabl, Obje, Stpt, Lipt, Arcp}
use Rattle.itf_lines.specs.declared.word.LineWord.TheVariants.{Elin, Etab, Etop, Emod, Ende}
use Rattle.itf_lines.specs.LogicalLines.{LogicalLine}
use Rattle.itf_reader.specs.Forms.{Table, Form, TopicRows, names, table_named, topic_named}
use Rattle.itf_reader.specs.Forms.{has_table, has_topic}
use Rattle.itf_reader.specs.TransferText.{line}
use Rattle.itf_reader.specs.Machine.{InTopic, State, start, free, title, model, topics, tables}
use Rattle.itf_reader.specs.Machine.{objects, strokes, vertices, arc, last, done, named_table}
use Rattle.itf_reader.specs.Machine.{named_topic, has_room, has_ended, Code, Word, AsMotr, Name}
use Rattle.itf_reader.specs.Machine.{Twice, by_word}

-- the words that may stand there
abbrev pub may_stand : State → LineWord → Bool
may_stand start Scnt = true
may_stand free word = true
may_stand title Mtid = true
may_stand model Modl = true
may_stand (topics earlier) Topi = true
may_stand (topics earlier) Emod = true
may_stand (tables t) Tabl = true
may_stand (tables t) Etop = true
may_stand (objects t) Obje = true
may_stand (objects t) Etab = true
may_stand (strokes r) Obje = true
may_stand (strokes r) Etab = true
may_stand (strokes r) Stpt = has_room r
may_stand (strokes r) Elin = has_room r
may_stand (vertices r vs) Lipt = true
may_stand (vertices r vs) Arcp = true
may_stand (vertices r vs) Elin = true
may_stand (arc r vs) Lipt = true
may_stand (last earlier) Ende = true
may_stand state word = false

-- MODL has exactly the model's name, TOPI that of a topic, TABL that of a table of the open topic
abbrev pub state_named : Form → State → List (List ℕ) → Bool
state_named f model fields = names fields f.model
state_named f (topics earlier) fields = is_some (topic_named 0 fields f.topics)
state_named f (tables t) fields = is_some (table_named 0 t.number fields f.tables)
state_named f state fields = true

abbrev pub is_motr : LineWord → Bool
is_motr Motr = true
is_motr word = false

-- the first code that fits a line at fault
abbrev pub code_of : Form → State → LogicalLine → Code
code_of f s l =
    if is_motr l.word && not (has_ended s) then AsMotr
    else if not (may_stand s l.word) then Word
    else if not (state_named f s l.fields) then Name
    else Twice

abbrev code_in : Code → Result State Code → Code
code_in other (Ok s) = other
code_in other (Err c) = c

abbrev pub fault : Code → Result State Code
fault c = Err c

pub same_code : (c d : Code) → fault c ≡ fault d → c ≡ d
same_code c d e = ap (code_in c) e

-- by a test
no_room : (b : Bool) (s : State) (c : Code) → (if b then Ok s else fault Word) ≡ Err c
    → c ≡ (if not b then Word else Twice)
no_room true s c h = absurd cc
no_room false s c h = sym (same_code Word c h)

not_named : (b : Bool) (s : State) (c : Code) → (if b then Ok s else fault Name) ≡ Err c
    → c ≡ (if not b then Name else Twice)
not_named true s c h = absurd cc
not_named false s c h = sym (same_code Name c h)

twice : (b : Bool) (s : State) (c : Code) → (if b then fault Twice else Ok s) ≡ Err c → c ≡ Twice
twice true s c h = sym (same_code Twice c h)
twice false s c h = absurd cc

topic_code : (earlier : List TopicRows) (found : Option ℕ) (c : Code)
    → named_topic earlier found ≡ Err c → c ≡ (if not (is_some found) then Name else Twice)
topic_code earlier None c h = sym (same_code Name c h)
topic_code earlier (Some i) c h =
    twice (has_topic i earlier) (tables (record { earlier = earlier; number = i; tables = [] })) c h

table_code : (o : InTopic) (found : Option (ℕ × Table)) (c : Code) → named_table o found ≡ Err c
    → c ≡ (if not (is_some found) then Name else Twice)
table_code o None c h = sym (same_code Name c h)
table_code o (Some found) c h =
    twice (has_table found.0 o.tables)
    (objects (record { inside = o; number = found.0; lines = (found.1).lines; rows = [] })) c h

pub code_stands : (f : Form) (s : State) (word : LineWord) (n : ℕ) (fs : List (List ℕ)) (c : Code)
    → by_word f s word n fs ≡ Err c → c ≡ code_of f s (line word n fs)
code_stands f free Slashes n fs c h = absurd cc
code_stands f free word n fs c h = absurd cc
code_stands f model Modl n fs c h = not_named (names fs f.model) (topics []) c h
code_stands f (topics earlier) Topi n fs c h = topic_code earlier (topic_named 0 fs f.topics) c h
code_stands f (tables o) Tabl n fs c h = table_code o (table_named 0 o.number fs f.tables) c h
code_stands f (strokes r) Stpt n fs c h = no_room (has_room r) _ c h
code_stands f (strokes r) Elin n fs c h = no_room (has_room r) _ c h
code_stands f start Scnt n fs c h = absurd cc
code_stands f title Mtid n fs c h = absurd cc
code_stands f (topics earlier) Emod n fs c h = absurd cc
code_stands f (tables o) Etop n fs c h = absurd cc
code_stands f (objects t) Obje n fs c h = absurd cc
code_stands f (objects t) Etab n fs c h = absurd cc
code_stands f (strokes r) Obje n fs c h = absurd cc
code_stands f (strokes r) Etab n fs c h = absurd cc
code_stands f (vertices r vs) Lipt n fs c h = absurd cc
code_stands f (vertices r vs) Arcp n fs c h = absurd cc
code_stands f (vertices r vs) Elin n fs c h = absurd cc
code_stands f (arc r vs) Lipt n fs c h = absurd cc
code_stands f (last earlier) Ende n fs c h = absurd cc
code_stands f (done earlier) Motr n fs c h = sym (same_code Word c h)
code_stands f s Motr n fs c h = sym (same_code AsMotr c h)
code_stands f s word n fs c h = sym (same_code Word c h)
