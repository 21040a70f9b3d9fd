-- The code with which the machine stops is that of the line at fault.
use Rattle.std.proofs.Common.{◌≡◌, ℕ, Bool, true, false, List, [], ◌∷◌, Option, Some, None, Result}
use Rattle.std.proofs.Common.{Ok, Err, refl, ap, sym, subst, ◌∙◌, if◌then◌else◌}
use Rattle.std.specs.Prelude.{⊤, not, ◌&&◌}
use Rattle.itf_lines.specs.declared.word.LineWord.{LineWord}
use Rattle.itf_lines.specs.declared.word.LineWord.TheVariants.{Scnt, Slashes, Mtid, Modl, Motr}
use Rattle.itf_lines.specs.declared.word.LineWord.TheVariants.{Topi, Tabl, Obje, Stpt, Lipt, Arcp}
use Rattle.itf_lines.specs.declared.word.LineWord.TheVariants.{Elin, Etab, Etop, Emod, Ende}
use Rattle.itf_lines.specs.LogicalLines.{LogicalLine}
use Rattle.itf_reader.specs.Forms.{Table, Form, TopicRows, names, table_named, topic_named}
use Rattle.itf_reader.specs.Forms.{has_table, has_topic}
use Rattle.itf_reader.specs.TransferText.{line, IsText, IsFaultAt}
use Rattle.itf_reader.specs.Machine.{InTopic, State, start, free, title, model, topics, tables}
use Rattle.itf_reader.specs.Machine.{objects, strokes, vertices, arc, last, done, has_room}
use Rattle.itf_reader.specs.Machine.{has_ended, named_table, named_topic, Code, Word, AsMotr, Name}
use Rattle.itf_reader.specs.Machine.{Twice, by_word, step, then_run, run}
use Rattle.itf_reader.specs.Codes.{with_more, MayStand, topic_after, open_topic, names_table}
use Rattle.itf_reader.specs.Codes.{is_named, IsMotr, HasCode, motr, word, name, twice}
use Rattle.itf_reader.proofs.Fresh.{same_itself, new_topic, new_table}
use Rattle.itf_reader.proofs.Wider.{run_wider}
use Rattle.itf_reader.proofs.Back.{ok, same_state}
use Rattle.itf_reader.proofs.CodeStands.{may_stand, state_named, is_motr, code_stands}
use Rattle.itf_reader.proofs.Drive.{text_drive}
use Rattle.itf_reader.proofs.Stands.{done_text, taken_on, refused_at}

-- a line of that word that a wider form takes there
record Goes (f : Form) (s : State) (w : LineWord) : Type 0 where
  more : List (List ℕ)
  others : List Table
  number : ℕ
  fields : List (List ℕ)
  behind : State
  after_line : by_word (with_more f more others) s w number fields ≡ Ok behind

-- at once, with any fields
goes_so : (f : Form) (s : State) (w : LineWord) (t : State)
    → by_word (with_more f [] []) s w 0 [] ≡ Ok t → Goes f s w
goes_so f s w t e = record {
  more = [];
  others = [];
  number = 0;
  fields = [];
  behind = t;
  after_line = e;
}

goes_model : (f : Form) → Goes f model Modl
goes_model f = record {
  more = [];
  others = [];
  number = 0;
  fields = f.model ∷ [];
  behind = topics [];
  after_line = rw (same_itself f.model) refl;
}

goes_topic : (f : Form) (earlier : List TopicRows) → Goes f (topics earlier) Topi
goes_topic f earlier =
    let q = new_topic f.topics earlier in
    record {
      more = q.more;
      others = [];
      number = 0;
      fields = q.fields;
      behind = tables (record { earlier = earlier; number = q.number; tables = [] });
      after_line = ap (named_topic earlier) q.named ∙ rw q.came_not refl;
    }

goes_table : (f : Form) (o : InTopic) → Goes f (tables o) Tabl
goes_table f o =
    let q = new_table f.tables o.number o.tables in
    record {
      more = [];
      others = q.more;
      number = 0;
      fields = q.fields;
      behind = objects (record {
        inside = o;
        number = (q.found).0;
        lines = ((q.found).1).lines;
        rows = [];
      });
      after_line = ap (named_table o) q.named ∙ rw q.came_not refl;
    }

goes_room : (f : Form) (s t : State) (w : LineWord) (b : Bool)
    → by_word (with_more f [] []) s w 0 [] ≡ (if b then Ok t else Err Word) → b ≡ true → Goes f s w
goes_room f s t w b e h = goes_so f s w t (e ∙ ap (λ (c : Bool). if c then Ok t else Err Word) h)

-- where the word may stand, such a line goes there
goes : (f : Form) (s : State) (w : LineWord) → may_stand s w ≡ true → Goes f s w
goes f start Scnt h = goes_so f start Scnt free refl
goes f free Slashes h = goes_so f free Slashes title refl
goes f free w h = goes_so f free w free refl
goes f title Mtid h = goes_so f title Mtid model refl
goes f model Modl h = goes_model f
goes f (topics earlier) Topi h = goes_topic f earlier
goes f (topics earlier) Emod h = goes_so f (topics earlier) Emod (last earlier) refl
goes f (tables o) Tabl h = goes_table f o
goes f (tables o) Etop h = goes_so f (tables o) Etop _ refl
goes f (objects o) Obje h = goes_so f (objects o) Obje _ refl
goes f (objects o) Etab h = goes_so f (objects o) Etab _ refl
goes f (strokes r) Obje h = goes_so f (strokes r) Obje _ refl
goes f (strokes r) Etab h = goes_so f (strokes r) Etab _ refl
goes f (strokes r) Stpt h = goes_room f (strokes r) _ Stpt (has_room r) refl h
goes f (strokes r) Elin h = goes_room f (strokes r) _ Elin (has_room r) refl h
goes f (vertices r vs) Lipt h = goes_so f (vertices r vs) Lipt _ refl
goes f (vertices r vs) Arcp h = goes_so f (vertices r vs) Arcp _ refl
goes f (vertices r vs) Elin h = goes_so f (vertices r vs) Elin _ refl
goes f (arc r vs) Lipt h = goes_so f (arc r vs) Lipt _ refl
goes f (last earlier) Ende h = goes_so f (last earlier) Ende (done earlier) refl
goes f s w h = absurd cc

stands : (f : Form) (front : List LogicalLine) (s : State) (w : LineWord) → run f start front ≡ Ok s
    → may_stand s w ≡ true → MayStand f front w
stands f front s w h e =
    let g = goes f s w e in (
      g.more,
      g.others,
      g.number,
      g.fields,
      taken_on (with_more f g.more g.others) front (line w g.number g.fields) s g.behind
          (run_wider f g.more g.others start s front h) g.after_line,
    )

-- and nothing else goes there
room_there : (b : Bool) (s t : State) → (if b then Ok s else Err Word) ≡ Ok t → b ≡ true
room_there true s t h = refl
room_there false s t h = absurd cc

may : (f : Form) (s t : State) (w : LineWord) (n : ℕ) (fs : List (List ℕ))
    → by_word f s w n fs ≡ Ok t → may_stand s w ≡ true
may f start t Scnt n fs h = refl
may f free t w n fs h = refl
may f title t Mtid n fs h = refl
may f model t Modl n fs h = refl
may f (topics earlier) t Topi n fs h = refl
may f (topics earlier) t Emod n fs h = refl
may f (tables o) t Tabl n fs h = refl
may f (tables o) t Etop n fs h = refl
may f (objects o) t Obje n fs h = refl
may f (objects o) t Etab n fs h = refl
may f (strokes r) t Obje n fs h = refl
may f (strokes r) t Etab n fs h = refl
may f (strokes r) t Stpt n fs h = room_there (has_room r) _ t h
may f (strokes r) t Elin n fs h = room_there (has_room r) _ t h
may f (vertices r vs) t Lipt n fs h = refl
may f (vertices r vs) t Arcp n fs h = refl
may f (vertices r vs) t Elin n fs h = refl
may f (arc r vs) t Lipt n fs h = refl
may f (last earlier) t Ende n fs h = refl
may f s t w n fs h = absurd cc

-- a line that begins a text after some lines is taken by the machine
taken_of : (f : Form) (front : List LogicalLine) (l : LogicalLine) (s : State)
    (r : Result State Code)
    → run f start front ≡ Ok s → step f s l ≡ r → (IsFaultAt f front l → ⊥)
    → (t : State) × (r ≡ Ok t)
taken_of f front l s (Ok t) h e k = (t, refl)
taken_of f front l s (Err c) h e k = absurd (k (refused_at f front l s c h e))

stands_only : (f : Form) (front : List LogicalLine) (s : State) (w : LineWord)
    → run f start front ≡ Ok s → MayStand f front w → may_stand s w ≡ true
stands_only f front s w h (more, others, n, fs, b) =
    let k = run_wider f more others start s front h in
    let t = taken_of (with_more f more others) front (line w n fs) s
    (by_word (with_more f more others) s w n fs) k refl (λ q. q.1 b) in
    may (with_more f more others) s t.0 w n fs t.1

-- ---- the open topic
abbrev pub Opens : Option ℕ → State → Type 0
Opens topic (tables o) = topic ≡ Some o.number
Opens topic (objects t) = topic ≡ Some (t.inside).number
Opens topic (strokes r) = topic ≡ Some ((r.inside).inside).number
Opens topic (vertices r vs) = topic ≡ Some ((r.inside).inside).number
Opens topic (arc r vs) = topic ≡ Some ((r.inside).inside).number
Opens topic s = ⊤

lands : (topic : Option ℕ) (s t : State) → ok s ≡ ok t → Opens topic s → Opens topic t
lands topic s t h o = subst (λ (x : State). Opens topic x) (same_state s t h) o

lands_if : (topic : Option ℕ) (b : Bool) (s t : State) (c : Code)
    → (if b then Ok s else Err c) ≡ Ok t → Opens topic s → Opens topic t
lands_if topic true s t c h o = lands topic s t h o
lands_if topic false s t c h o = absurd cc

lands_unless : (topic : Option ℕ) (b : Bool) (s t : State) (c : Code)
    → (if b then Err c else Ok s) ≡ Ok t → Opens topic s → Opens topic t
lands_unless topic true s t c h o = absurd cc
lands_unless topic false s t c h o = lands topic s t h o

topic_lands : (earlier : List TopicRows) (found : Option ℕ) (t : State)
    → named_topic earlier found ≡ Ok t → Opens found t
topic_lands earlier None t h = absurd cc
topic_lands earlier (Some i) t h =
    lands_unless (Some i) (has_topic i earlier)
    (tables (record { earlier = earlier; number = i; tables = [] })) t Twice h refl

table_lands : (topic : Option ℕ) (o : InTopic) (found : Option (ℕ × Table)) (t : State)
    → named_table o found ≡ Ok t → topic ≡ Some o.number → Opens topic t
table_lands topic o None t h e = absurd cc
table_lands topic o (Some v) t h e =
    lands_unless topic (has_table v.0 o.tables)
    (objects (record { inside = o; number = v.0; lines = (v.1).lines; rows = [] })) t Twice h e

step_opens : (f : Form) (topic : Option ℕ) (s t : State) (w : LineWord) (n : ℕ) (fs : List (List ℕ))
    → by_word f s w n fs ≡ Ok t → Opens topic s → Opens (topic_after f topic w fs) t
step_opens f topic start t Scnt n fs h o = lands topic free t h tt
step_opens f topic free t Slashes n fs h o = lands topic title t h tt
step_opens f topic free t w n fs h o = lands (topic_after f topic w fs) free t h tt
step_opens f topic title t Mtid n fs h o = lands topic model t h tt
step_opens f topic model t Modl n fs h o = lands_if topic (names fs f.model) (topics []) t Name h tt
step_opens f topic (topics earlier) t Topi n fs h o =
    topic_lands earlier (topic_named 0 fs f.topics) t h
step_opens f topic (topics earlier) t Emod n fs h o = lands topic (last earlier) t h tt
step_opens f topic (tables p) t Tabl n fs h o =
    table_lands topic p (table_named 0 p.number fs f.tables) t h o
step_opens f topic (tables p) t Etop n fs h o = lands topic _ t h tt
step_opens f topic (objects p) t Obje n fs h o = lands topic _ t h o
step_opens f topic (objects p) t Etab n fs h o = lands topic _ t h o
step_opens f topic (strokes r) t Obje n fs h o = lands topic _ t h o
step_opens f topic (strokes r) t Etab n fs h o = lands topic _ t h o
step_opens f topic (strokes r) t Stpt n fs h o = lands_if topic (has_room r) _ t Word h o
step_opens f topic (strokes r) t Elin n fs h o = lands_if topic (has_room r) _ t Word h o
step_opens f topic (vertices r vs) t Lipt n fs h o = lands topic _ t h o
step_opens f topic (vertices r vs) t Arcp n fs h o = lands topic _ t h o
step_opens f topic (vertices r vs) t Elin n fs h o = lands topic _ t h o
step_opens f topic (arc r vs) t Lipt n fs h o = lands topic _ t h o
step_opens f topic (last earlier) t Ende n fs h o = lands topic (done earlier) t h tt
step_opens f topic s t w n fs h o = absurd cc

opens_on : (f : Form) (topic : Option ℕ) (s t : State) (l : LogicalLine) (ls : List LogicalLine)
    (after_line : Result State Code)
    → step f s l ≡ after_line → then_run (λ u. run f u ls) after_line ≡ Ok t → Opens topic s
    → ((u : State) → run f u ls ≡ Ok t → Opens (topic_after f topic l.word l.fields) u
    → Opens (open_topic f topic (l ∷ ls)) t) → Opens (open_topic f topic (l ∷ ls)) t
opens_on f topic s t l ls (Ok u) e h o rest =
    rest u h (step_opens f topic s u l.word l.number l.fields e o)
opens_on f topic s t l ls (Err c) e h o rest = absurd cc

pub run_opens : (f : Form) (topic : Option ℕ) (s t : State) (ls : List LogicalLine)
    → run f s ls ≡ Ok t → Opens topic s → Opens (open_topic f topic ls) t
run_opens f topic s t [] h o = lands topic s t h o
run_opens f topic s t (l ∷ ls) h o =
    opens_on f topic s t l ls (step f s l) refl h o
    (λ u k p. run_opens f (topic_after f topic l.word l.fields) u t ls k p)

-- ---- the code
named_there : (f : Form) (front : List LogicalLine) (s : State) (w : LineWord) (n : ℕ)
    (fs : List (List ℕ)) (c : Code)
    → Opens (open_topic f None front) s → by_word f s w n fs ≡ Err c → may_stand s w ≡ true
    → state_named f s fs ≡ is_named f front w fs
named_there f front start Scnt n fs c o h e = absurd cc
named_there f front free Slashes n fs c o h e = absurd cc
named_there f front free w n fs c o h e = absurd cc
named_there f front title Mtid n fs c o h e = absurd cc
named_there f front model Modl n fs c o h e = refl
named_there f front (topics earlier) Topi n fs c o h e = refl
named_there f front (topics earlier) Emod n fs c o h e = absurd cc
named_there f front (tables p) Tabl n fs c o h e = ap (λ (t : Option ℕ). names_table f t fs) (sym o)
named_there f front (tables p) Etop n fs c o h e = absurd cc
named_there f front (strokes r) Stpt n fs c o h e = refl
named_there f front (strokes r) Elin n fs c o h e = refl
named_there f front (objects p) Obje n fs c o h e = refl
named_there f front (objects p) Etab n fs c o h e = refl
named_there f front (strokes r) Obje n fs c o h e = refl
named_there f front (strokes r) Etab n fs c o h e = refl
named_there f front (vertices r vs) Lipt n fs c o h e = refl
named_there f front (vertices r vs) Arcp n fs c o h e = refl
named_there f front (vertices r vs) Elin n fs c o h e = refl
named_there f front (arc r vs) Lipt n fs c o h e = refl
named_there f front (last earlier) Ende n fs c o h e = refl
named_there f front s w n fs c o h e = absurd cc

-- the word MOTR before the end
motr_word : (w : LineWord) → is_motr w ≡ true → w ≡ Motr
motr_word Motr h = refl
motr_word w h = absurd cc

both : (a b : Bool) → (a && not b) ≡ true → (a ≡ true) × (b ≡ false)
both true false h = (refl, refl)
both true true h = absurd cc
both false b h = absurd cc

neither : (a b : Bool) → (a && not b) ≡ false → a ≡ true → b ≡ true
neither true true h e = refl
neither true false h e = absurd cc
neither false b h e = absurd cc

ends : (f : Form) (front : List LogicalLine) (s : State) → run f start front ≡ Ok s
    → has_ended s ≡ true → (ts : List TopicRows) × IsText f ts front
ends f front (done ts) h e = (ts, done_text f front ts h)
ends f front s h e = absurd cc

not_both : (b : Bool) → b ≡ true → b ≡ false → ⊥
not_both true h k = absurd cc
not_both false h k = absurd cc

abbrev ended_in : Result State Code → Bool
ended_in (Ok s) = has_ended s
ended_in (Err c) = false

is_motr_there : (f : Form) (front : List LogicalLine) (s : State) (w : LineWord)
    → run f start front ≡ Ok s → (is_motr w && not (has_ended s)) ≡ true → IsMotr f front w
is_motr_there f front s w h e =
    let b = both (is_motr w) (has_ended s) e in (
      motr_word w b.0,
      λ ts t. not_both (has_ended s)
          (ap ended_in (sym h ∙ text_drive f ts front t)) b.1,
    )

no_motr_there : (f : Form) (front : List LogicalLine) (s : State) (w : LineWord)
    → run f start front ≡ Ok s → (is_motr w && not (has_ended s)) ≡ false → IsMotr f front w → ⊥
no_motr_there f front s w h e m =
    let t = ends f front s h (neither (is_motr w) (has_ended s) e (ap is_motr m.0)) in
    m.1 t.0 t.1

coded : (f : Form) (front : List LogicalLine) (l : LogicalLine) (a b c : Bool)
    → (a ≡ true → IsMotr f front l.word) → (a ≡ false → IsMotr f front l.word → ⊥)
    → (b ≡ true → MayStand f front l.word) → (b ≡ false → MayStand f front l.word → ⊥)
    → (b ≡ true → c ≡ is_named f front l.word l.fields)
    → HasCode f front l
    (if a then AsMotr else if not b then Word else if not c then Name else Twice)
coded f front l true b c p q r s t = motr (p refl)
coded f front l false false c p q r s t = word (q refl) (s refl)
coded f front l false true false p q r s t = name (q refl) (r refl) (sym (t refl))
coded f front l false true true p q r s t = twice (q refl) (r refl) (sym (t refl))

-- the code with which the machine stops is that of the line
pub has_code : (f : Form) (front : List LogicalLine) (l : LogicalLine) (s : State) (c : Code)
    → run f start front ≡ Ok s → step f s l ≡ Err c → HasCode f front l c
has_code f front l s c h e =
    let o = run_opens f None start s front h tt in
    let d =
    coded f front l (is_motr l.word && not (has_ended s)) (may_stand s l.word)
    (state_named f s l.fields)
    (is_motr_there f front s l.word h) (no_motr_there f front s l.word h)
    (stands f front s l.word h)
    (λ k m. not_both (may_stand s l.word) (stands_only f front s l.word h m) k)
    (named_there f front s l.word l.number l.fields c o e)
    in subst (HasCode f front l) (sym (code_stands f s l.word l.number l.fields c e)) d

-- a line has one code
pub one_code : (f : Form) (front : List LogicalLine) (l : LogicalLine) (c d : Code)
    → HasCode f front l c → HasCode f front l d → c ≡ d
one_code f front l _ _ (motr m) (motr n) = refl
one_code f front l _ _ (motr m) (word n a) = absurd (n m)
one_code f front l _ _ (motr m) (name n a b) = absurd (n m)
one_code f front l _ _ (motr m) (twice n a b) = absurd (n m)
one_code f front l _ _ (word m k) (motr n) = absurd (m n)
one_code f front l _ _ (word m k) (word n a) = refl
one_code f front l _ _ (word m k) (name n a b) = absurd (k a)
one_code f front l _ _ (word m k) (twice n a b) = absurd (k a)
one_code f front l _ _ (name m k e) (motr n) = absurd (m n)
one_code f front l _ _ (name m k e) (word n a) = absurd (a k)
one_code f front l _ _ (name m k e) (name n a b) = refl
one_code f front l _ _ (name m k e) (twice n a b) =
    absurd (not_both (is_named f front l.word l.fields) b e)
one_code f front l _ _ (twice m k e) (motr n) = absurd (m n)
one_code f front l _ _ (twice m k e) (word n a) = absurd (a k)
one_code f front l _ _ (twice m k e) (name n a b) =
    absurd (not_both (is_named f front l.word l.fields) e b)
one_code f front l _ _ (twice m k e) (twice n a b) = refl
