-- The words of lines.
use Rattle.std.specs.Prelude.{ℕ, List, [], ◌∷◌, Bool, if◌then◌else◌, nat_eq, codes}
use Rattle.std.specs.Cmp.Lexicographic.{pointwise}
use Rattle.itf_lines.specs.declared.word.LineWord.{LineWord}
use Rattle.itf_lines.specs.declared.word.LineWord.TheVariants.{Scnt, Mtid, Modl, Motr, Topi, Tabl}
use Rattle.itf_lines.specs.declared.word.LineWord.TheVariants.{Obje, Stpt, Lipt, Arcp, Elin, Etab}
use Rattle.itf_lines.specs.declared.word.LineWord.TheVariants.{Etop, Emod, Ende, Other}

-- two fields are the same bytes
abbrev pub same : List ℕ → List ℕ → Bool
same = pointwise nat_eq

-- the word that a field spells
abbrev pub word_of : List ℕ → LineWord
word_of field =
    if same field (codes "SCNT") then Scnt
    else if same field (codes "MTID") then Mtid
    else if same field (codes "MODL") then Modl
    else if same field (codes "MOTR") then Motr
    else if same field (codes "TOPI") then Topi
    else if same field (codes "TABL") then Tabl
    else if same field (codes "OBJE") then Obje
    else if same field (codes "STPT") then Stpt
    else if same field (codes "LIPT") then Lipt
    else if same field (codes "ARCP") then Arcp
    else if same field (codes "ELIN") then Elin
    else if same field (codes "ETAB") then Etab
    else if same field (codes "ETOP") then Etop
    else if same field (codes "EMOD") then Emod
    else if same field (codes "ENDE") then Ende
    else Other

-- the word of a line with these fields: that of the first
abbrev pub word_in : List (List ℕ) → LineWord
word_in [] = Other
word_in (field ∷ fields) = word_of field
