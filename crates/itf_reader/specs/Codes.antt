-- What is wrong with the first line at fault, said of the lines alone.
use Rattle.std.specs.Prelude.{◌≡◌, ℕ, Bool, true, false, List, [], ◌∷◌, ◌++◌, Option, Some, None}
use Rattle.std.specs.Prelude.{is_some}
use Rattle.itf_lines.specs.declared.word.LineWord.{LineWord}
use Rattle.itf_lines.specs.declared.word.LineWord.TheVariants.{Modl, Motr, Topi, Tabl}
use Rattle.itf_lines.specs.LogicalLines.{LogicalLine}
use Rattle.itf_reader.specs.Forms.{Table, Form, TopicRows, names, topic_named, table_named}
use Rattle.itf_reader.specs.TransferText.{line, IsText, Begins}
use Rattle.itf_reader.specs.Machine.{Code, Word, AsMotr, Name, Twice}

-- the form, with further topics and tables after its own
abbrev pub with_more : Form → List (List ℕ) → List Table → Form
with_more form topics tables =
    record { model = form.model; topics = form.topics ++ topics; tables = form.tables ++ tables }

-- whatever the names: a line of that word, with some number and fields, may follow those lines, if
-- the form may have further topics and tables
abbrev pub MayStand : Form → List LogicalLine → LineWord → Type 0
MayStand form front word =
    (topics : List (List ℕ)) × (tables : List Table) × (number : ℕ) × (fields : List (List ℕ))
    × Begins (with_more form topics tables) (front ++ line word number fields ∷ [])

-- the topic that is open after a line of that word
abbrev pub topic_after : Form → Option ℕ → LineWord → List (List ℕ) → Option ℕ
topic_after form topic Topi fields = topic_named 0 fields form.topics
topic_after form topic word fields = topic

-- the topic that is open after lines: the one that the last TOPI names
abbrev pub open_topic : Form → Option ℕ → List LogicalLine → Option ℕ
open_topic form topic [] = topic
open_topic form topic (l ∷ ls) = open_topic form (topic_after form topic l.word l.fields) ls

-- a table of the open topic
abbrev pub names_table : Form → Option ℕ → List (List ℕ) → Bool
names_table form None fields = false
names_table form (Some topic) fields = is_some (table_named 0 topic fields form.tables)

-- MODL has exactly the model's name, TOPI that of a topic, TABL that of a table of the open topic
abbrev pub is_named : Form → List LogicalLine → LineWord → List (List ℕ) → Bool
is_named form front Modl fields = names fields form.model
is_named form front Topi fields = is_some (topic_named 0 fields form.topics)
is_named form front Tabl fields = names_table form (open_topic form None front) fields
is_named form front word fields = true

-- the word is MOTR, and the lines before it are no whole text, so that ENDE is still to come
abbrev pub IsMotr : Form → List LogicalLine → LineWord → Type 0
IsMotr form front word = (word ≡ Motr) × ((ts : List TopicRows) → IsText form ts front → ⊥)

-- the first code that fits a line at fault after those lines; one that fits no other names what was
-- named before
pub data HasCode (form : Form) (front : List LogicalLine) (l : LogicalLine) : Code → Type 0 where
  motr : IsMotr form front l.word → HasCode form front l AsMotr
  word : (IsMotr form front l.word → ⊥) → (MayStand form front l.word → ⊥)
      → HasCode form front l Word
  name : (IsMotr form front l.word → ⊥) → MayStand form front l.word
      → is_named form front l.word l.fields ≡ false → HasCode form front l Name
  twice : (IsMotr form front l.word → ⊥) → MayStand form front l.word
      → is_named form front l.word l.fields ≡ true → HasCode form front l Twice
