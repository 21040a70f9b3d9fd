-- A form with further topics and tables takes what the form takes, and more.
use Rattle.std.proofs.Common.{◌≡◌, ◌+◌, ℕ, Bool, true, false, List, [], ◌∷◌, ◌++◌, Option, Some}
use Rattle.std.proofs.Common.{None, Result, Ok, Err, refl, ap, ◌∙◌, if◌then◌else◌, nat_eq, ◌&&◌}
use Rattle.itf_lines.specs.declared.word.LineWord.{LineWord}
use Rattle.itf_lines.specs.declared.word.LineWord.TheVariants.{Slashes, Topi, Tabl}
use Rattle.itf_lines.specs.LogicalLines.{LogicalLine}
use Rattle.itf_reader.specs.Forms.{Table, Form, TopicRows, names, table_named, topic_named}
use Rattle.itf_reader.specs.Machine.{InTopic, State, free, topics, tables, done, named_table}
use Rattle.itf_reader.specs.Machine.{named_topic, Code, by_word, step, then_run, run}
use Rattle.itf_reader.specs.Codes.{with_more}

-- what the form names, the wider one names
pick : {X : Type 0} (b : Bool) (x y z : Option X) (v : X) → (y ≡ Some v → z ≡ Some v)
    → (if b then x else y) ≡ Some v → (if b then x else z) ≡ Some v
pick true x y z v f h = h
pick false x y z v f h = f h

topic_kept : (n : ℕ) (fs : List (List ℕ)) (a b : List (List ℕ)) (i : ℕ)
    → topic_named n fs a ≡ Some i → topic_named n fs (a ++ b) ≡ Some i
topic_kept n fs [] b i h = absurd cc
topic_kept n fs (x ∷ a) b i h =
    pick (names fs x) (Some n) (topic_named (n + 1) fs a) (topic_named (n + 1) fs (a ++ b)) i
    (topic_kept (n + 1) fs a b i) h

table_kept : (n topic : ℕ) (fs : List (List ℕ)) (a b : List Table) (v : ℕ × Table)
    → table_named n topic fs a ≡ Some v → table_named n topic fs (a ++ b) ≡ Some v
table_kept n topic fs [] b v h = absurd cc
table_kept n topic fs (x ∷ a) b v h =
    pick (nat_eq x.topic topic && names fs x.name) (Some (n, x)) (table_named (n + 1) topic fs a)
    (table_named (n + 1) topic fs (a ++ b)) v (table_kept (n + 1) topic fs a b v) h

topic_opens : (earlier : List TopicRows) (a b : Option ℕ) (t : State)
    → ((i : ℕ) → a ≡ Some i → b ≡ Some i) → named_topic earlier a ≡ Ok t
    → named_topic earlier b ≡ Ok t
topic_opens earlier None b t f h = absurd cc
topic_opens earlier (Some i) b t f h = ap (named_topic earlier) (f i refl) ∙ h

table_opens : (o : InTopic) (a b : Option (ℕ × Table)) (t : State)
    → ((v : ℕ × Table) → a ≡ Some v → b ≡ Some v) → named_table o a ≡ Ok t → named_table o b ≡ Ok t
table_opens o None b t f h = absurd cc
table_opens o (Some v) b t f h = ap (named_table o) (f v refl) ∙ h

word_wider : (f : Form) (more : List (List ℕ)) (others : List Table) (s t : State) (word : LineWord)
    (n : ℕ) (fs : List (List ℕ))
    → by_word f s word n fs ≡ Ok t → by_word (with_more f more others) s word n fs ≡ Ok t
word_wider f more others (topics earlier) t Topi n fs h =
    topic_opens earlier (topic_named 0 fs f.topics) (topic_named 0 fs (f.topics ++ more)) t
    (topic_kept 0 fs f.topics more) h
word_wider f more others (tables o) t Tabl n fs h =
    table_opens o (table_named 0 o.number fs f.tables)
    (table_named 0 o.number fs (f.tables ++ others)) t (table_kept 0 o.number fs f.tables others) h
word_wider f more others free t Slashes n fs h = h
word_wider f more others free t word n fs h = h
word_wider f more others (done earlier) t word n fs h = h
word_wider f more others s t word n fs h = h

run_on : (f : Form) (more : List (List ℕ)) (others : List Table) (s t : State) (l : LogicalLine)
    (ls : List LogicalLine) (after_line : Result State Code)
    → step f s l ≡ after_line → then_run (λ u. run f u ls) after_line ≡ Ok t
    → ((u : State) → run f u ls ≡ Ok t → run (with_more f more others) u ls ≡ Ok t)
    → run (with_more f more others) s (l ∷ ls) ≡ Ok t
run_on f more others s t l ls (Ok u) e h rest =
    ap (then_run (λ x. run (with_more f more others) x ls))
    (word_wider f more others s u l.word l.number l.fields e) ∙ rest u h
run_on f more others s t l ls (Err c) e h rest = absurd cc

pub run_wider : (f : Form) (more : List (List ℕ)) (others : List Table) (s t : State)
    (ls : List LogicalLine)
    → run f s ls ≡ Ok t → run (with_more f more others) s ls ≡ Ok t
run_wider f more others s t [] h = h
run_wider f more others s t (l ∷ ls) h =
    run_on f more others s t l ls (step f s l) refl h (λ u k. run_wider f more others u t ls k)
