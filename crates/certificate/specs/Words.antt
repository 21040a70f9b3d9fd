-- The words of a line.
use Rattle.std.specs.Prelude.{List, ℕ, ◌++◌, codes}
use Rattle.std.specs.Fmt.{decimal}
use Rattle.certificate.specs.declared.notes.HalfNote.{HalfNote}
use Rattle.certificate.specs.Spelling.{link_word}

-- a blank and a word
abbrev pub next_word : List ℕ → List ℕ
next_word word = codes " " ++ word

-- the words of a note, a blank before each
abbrev pub note_words : HalfNote → List ℕ
note_words note =
    next_word (decimal note.label)
    ++ (next_word (link_word note.link) ++ next_word (decimal note.rank))
