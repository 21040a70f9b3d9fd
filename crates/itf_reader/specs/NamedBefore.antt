-- What is named a second time, by the lines alone.
use Rattle.std.specs.Prelude.{◌≡◌, ℕ, Bool, true, false, Some, None, List, [], ◌∷◌, ◌&&◌}
use Rattle.std.specs.Prelude.{if◌then◌else◌}
use Rattle.itf_lines.specs.declared.word.LineWord.{LineWord}
use Rattle.itf_lines.specs.declared.word.LineWord.TheVariants.{Topi, Tabl}
use Rattle.itf_lines.specs.LogicalLines.{LogicalLine}
use Rattle.itf_reader.specs.Forms.{Table, Form, topic_named, table_named}
use Rattle.itf_reader.specs.TransferText.{line, is_free}
use Rattle.itf_reader.specs.Codes.{open_topic}

-- the lines after the line of four slashes
abbrev pub after_slashes : List LogicalLine → List LogicalLine
after_slashes [] = []
after_slashes (l ∷ ls) = if is_free l.word then after_slashes ls else ls

-- any word but TOPI
abbrev pub is_within : LineWord → Bool
is_within Topi = false
is_within word = true

-- no line opens a topic
abbrev pub are_within : List LogicalLine → Bool
are_within [] = true
are_within (l ∷ ls) = is_within l.word && are_within ls

-- one of these lines is TOPI with the name of that topic
pub data NamesTopic (form : Form) (topic : ℕ) : List LogicalLine → Type 0 where
  topic_here : (n : ℕ) (fs : List (List ℕ)) (ls : List LogicalLine)
      → topic_named 0 fs form.topics ≡ Some topic → NamesTopic form topic (line Topi n fs ∷ ls)
  topic_later : (l : LogicalLine) (ls : List LogicalLine) → NamesTopic form topic ls
      → NamesTopic form topic (l ∷ ls)

-- one of these lines is TABL with the name of that table of the topic, and no topic is opened after
-- it
pub data NamesTable (form : Form) (topic table : ℕ) : List LogicalLine → Type 0 where
  table_here : (n : ℕ) (fs : List (List ℕ)) (t : Table) (ls : List LogicalLine)
      → table_named 0 topic fs form.tables ≡ Some (table, t) → are_within ls ≡ true
      → NamesTable form topic table (line Tabl n fs ∷ ls)
  table_later : (l : LogicalLine) (ls : List LogicalLine) → NamesTable form topic table ls
      → NamesTable form topic table (l ∷ ls)

-- a line of that word and these fields names a topic, or a table of the open topic, that a line
-- before it names
abbrev pub NamedBefore : Form → List LogicalLine → LineWord → List (List ℕ) → Type 0
NamedBefore form front Topi fields =
    (i : ℕ) × (topic_named 0 fields form.topics ≡ Some i) × NamesTopic form i (after_slashes front)
NamedBefore form front Tabl fields =
    (topic : ℕ) × (i : ℕ) × (t : Table) × (open_topic form None front ≡ Some topic)
    × (table_named 0 topic fields form.tables ≡ Some (i, t))
    × NamesTable form topic i (after_slashes front)
NamedBefore form front word fields = ⊥
