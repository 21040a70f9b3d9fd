-- What is known of the rows of a text that was read: their tables and topics came by their names,
-- and their fields are words.
use Rattle.std.proofs.Common.{◌≡◌, ◌+◌, ◌⊎◌, inl, inr, ℕ, zero, suc, true, false, List, [], ◌∷◌}
use Rattle.std.proofs.Common.{◌++◌, replicate, ◌-◌, length, Some, refl, ap, sym, subst}
use Rattle.std.proofs.Common.{if◌then◌else◌, nat_eq}
use Rattle.std.proofs.lemmas.Bool.{eqb-true}
use Rattle.std.proofs.lemmas.Slice.Eq.{bytes_eq-Decides}
use Rattle.itf_lines.specs.Words.{same}
use Rattle.itf_lines.specs.LogicalLines.{LogicalLine}
use Rattle.itf_reader.specs.Forms.{Table, Form, Vertex, Row, TableRows, TopicRows, names}
use Rattle.itf_reader.specs.Forms.{table_named, topic_named, rows_in, rows_from, tables_of}
use Rattle.itf_reader.specs.TransferText.{IsVertices, no_vertex, straight_vertex, arc_vertex}
use Rattle.itf_reader.specs.TransferText.{IsStroke, undefined_stroke, defined_stroke, IsStrokes}
use Rattle.itf_reader.specs.TransferText.{no_stroke, more_strokes, IsObjects, no_object}
use Rattle.itf_reader.specs.TransferText.{more_objects, IsTables, no_table, more_tables, IsTopics}
use Rattle.itf_reader.specs.TransferText.{no_topic, more_topics, AreFree, no_free, more_free}
use Rattle.itf_reader.specs.TransferText.{IsText, text, TransferText}
use Rattle.itf_writer.proofs.Words.{IsWord, AreWords, HaveWords}

-- ---- words of rows
abbrev pub VertexWords : List Vertex → Type 0
VertexWords [] = Unit {0}
VertexWords (v ∷ vs) = AreWords v.fields × VertexWords vs

abbrev pub StrokeWords : List (List Vertex) → Type 0
StrokeWords [] = Unit {0}
StrokeWords (s ∷ ss) = VertexWords s × StrokeWords ss

abbrev pub RowWords : List Row → Type 0
RowWords [] = Unit {0}
RowWords (r ∷ rows) = AreWords r.fields × StrokeWords r.strokes × RowWords rows

-- what is read has words, and what is left too
vertices_words : (vs : List Vertex) (w r : List LogicalLine) → IsVertices vs w r → HaveWords w
    → VertexWords vs × HaveWords r
vertices_words _ _ _ (no_vertex r) h = (tt, h)
vertices_words _ _ _ (straight_vertex n fs vs w r k) h =
    let i = vertices_words vs w r k h.1 in ((h.0, i.0), i.1)
vertices_words _ _ _ (arc_vertex n m fs gs vs w r k) h =
    let i = vertices_words vs w r k h.1.1 in ((h.0, (h.1.0, i.0)), i.1)

stroke_words : (s : List Vertex) (w r : List LogicalLine) → IsStroke s w r → HaveWords w
    → VertexWords s × HaveWords r
stroke_words _ _ _ (undefined_stroke n fs r) h = (tt, h.1)
stroke_words _ _ _ (defined_stroke n m fs gs vs w r k) h =
    let i = vertices_words vs w _ k h.1 in ((h.0, i.0), i.1.1)

strokes_words : (ss : List (List Vertex)) (w r : List LogicalLine) → IsStrokes ss w r → HaveWords w
    → StrokeWords ss × HaveWords r
strokes_words _ _ _ (no_stroke r) h = (tt, h)
strokes_words _ _ _ (more_strokes s ss w u r k i) h =
    let a = stroke_words s w u k h in
    let b = strokes_words ss u r i a.1 in
    ((a.0, b.0), b.1)

none_words : (n : ℕ) → StrokeWords (replicate n [])
none_words zero = tt
none_words (suc n) = (tt, none_words n)

more_words : (ss us : List (List Vertex)) → StrokeWords ss → StrokeWords us → StrokeWords (ss ++ us)
more_words [] us h k = k
more_words (s ∷ ss) us h k = (h.0, more_words ss us h.1 k)

objects_words : (lines : ℕ) (rows : List Row) (w r : List LogicalLine) → IsObjects lines rows w r
    → HaveWords w → RowWords rows × HaveWords r
objects_words lines _ _ _ (no_object r) h = (tt, h)
objects_words lines _ _ _ (more_objects n fs ss rows w u r k l i) h =
    let a = strokes_words ss w u k h.1 in
    let b = objects_words lines rows u r i a.1 in (
      (
        h.0,
        more_words ss (replicate (lines - length ss) []) a.0 (none_words (lines - length ss)),
        b.0,
      ),
      b.1,
    )

-- ---- names
-- a table that came: by the name of a topic, and by a name in it
pub record Came (f : Form) (number : ℕ) (rows : List Row) : Type 0 where
  pub topic : ℕ
  pub topic_fields : List (List ℕ)
  pub topic_named : topic_named 0 topic_fields f.topics ≡ Some topic
  pub topic_words : AreWords topic_fields
  pub fields : List (List ℕ)
  pub table : Table
  pub named : table_named 0 topic fields f.tables ≡ Some (number, table)
  pub words : AreWords fields
  pub row_words : RowWords rows

abbrev AllCame : Form → List TableRows → Type 0
AllCame f [] = Unit {0}
AllCame f (c ∷ cs) = Came f c.table c.rows × AllCame f cs

tables_came : (f : Form) (topic : ℕ) (gs : List (List ℕ)) (earlier ts : List TableRows)
    (w r : List LogicalLine)
    → topic_named 0 gs f.topics ≡ Some topic → AreWords gs
    → IsTables f topic earlier ts w r → HaveWords w → AllCame f ts × HaveWords r
tables_came f topic gs _ _ _ _ e g (no_table earlier r) h = (tt, h)
tables_came f topic gs _ _ _ _ e g (more_tables earlier n m i fs hs t rows ts w u r k l o s) h =
    let a = objects_words t.lines rows w _ o h.1 in
    let b = tables_came f topic gs _ ts u r e g s a.1.1 in (
      (
        record {
          topic = topic;
          topic_fields = gs;
          topic_named = e;
          topic_words = g;
          fields = fs;
          table = t;
          named = k;
          words = h.0;
          row_words = a.0;
        },
        b.0,
      ),
      b.1,
    )

all_came-append : (f : Form) (a b : List TableRows) → AllCame f a → AllCame f b → AllCame f (a ++ b)
all_came-append f [] b h k = k
all_came-append f (c ∷ a) b h k = (h.0, all_came-append f a b h.1 k)

topics_came : (f : Form) (earlier ts : List TopicRows) (w r : List LogicalLine)
    → IsTopics f earlier ts w r → HaveWords w → AllCame f (tables_of ts)
topics_came f _ _ _ _ (no_topic earlier r) h = tt
topics_came f _ _ _ _ (more_topics earlier n m i fs gs tables ts w u r k l o s) h =
    let a = tables_came f i fs [] tables w _ k h.0 o h.1 in
    all_came-append f tables (tables_of ts) a.0 (topics_came f _ ts u r s a.1.1)

free_words : (w r : List LogicalLine) → AreFree w r → HaveWords w → HaveWords r
free_words _ _ (no_free r) h = h
free_words _ _ (more_free l w r e k) h = free_words w r k h.1

-- of a table that has no row nothing is known
abbrev pub Placed : Form → ℕ → List Row → Type 0
Placed f n rows = (rows ≡ []) ⊎ Came f n rows

placed_in : (f : Form) (n : ℕ) (cs : List TableRows) → AllCame f cs → Placed f n (rows_in n cs)
placed_in f n [] h = inl refl
placed_in f n (c ∷ cs) h =
    elim (nat_eq c.table n) as (λ b. nat_eq c.table n ≡ b
    → Placed f n (if b then c.rows else rows_in n cs)) [
      | true ↦ λ e. inr (subst (λ (m : ℕ). Came f m c.rows) (eqb-true c.table n e) h.0)
      | false ↦ λ e. placed_in f n cs h.1
    ] refl

abbrev pub AllPlaced : Form → ℕ → List Table → List (List Row) → Type 0
AllPlaced f n [] [] = Unit {0}
AllPlaced f n (t ∷ ts) (rows ∷ others) = Placed f n rows × AllPlaced f (n + 1) ts others
AllPlaced f n ts transfer = ⊥

placed_from : (f : Form) (n : ℕ) (ts : List Table) (cs : List TableRows) → AllCame f cs
    → AllPlaced f n ts (rows_from n ts cs)
placed_from f n [] cs h = tt
placed_from f n (t ∷ ts) cs h = (placed_in f n cs h, placed_from f (n + 1) ts cs h)

same_name : (a b : List ℕ) → same a b ≡ true → a ≡ b
same_name a b h = (bytes_eq-Decides a b).0 h

-- the fields are the name alone
pub only_name : (fs : List (List ℕ)) (name : List ℕ) → names fs name ≡ true → fs ≡ name ∷ []
only_name [] name h = absurd cc
only_name (f ∷ []) name h = ap (λ (l : List ℕ). l ∷ []) (same_name f name h)
only_name (f ∷ g ∷ fs) name h = absurd cc

-- the rows of a text came by name, and its model has its name from a field
pub text_placed : (f : Form) (ls : List LogicalLine) (transfer : List (List Row))
    → TransferText f ls transfer → HaveWords ls → AllPlaced f 0 f.tables transfer × IsWord f.model
text_placed f ls transfer t h = (
  subst (λ (x : List (List Row)). AllPlaced f 0 f.tables x) (sym t.2)
      (placed_from f 0 f.tables (tables_of t.0) (came f t.0 ls t.1 h)),
  model f t.0 ls t.1 h,
)
  where
    came : (f : Form) (ts : List TopicRows) (ls : List LogicalLine) → IsText f ts ls → HaveWords ls
        → AllCame f (tables_of ts)
    came f _ _ (text n m i j k e fs gs hs is js ks ts w u a b o) h =
        topics_came f [] ts u _ o (free_words w _ a h.1).1.1.1

    model : (f : Form) (ts : List TopicRows) (ls : List LogicalLine) → IsText f ts ls → HaveWords ls
        → IsWord f.model
    model f _ _ (text n m i j k e fs gs hs is js ks ts w u a b o) h =
        let words : AreWords is = (free_words w _ a h.1).1.1.0 in
        (subst (λ (x : List (List ℕ)). AreWords x) (only_name is f.model b) words).0
