-- The files of a trial: a square grid of n times n cells, each ten units wide.
use Rattle.std.specs.Prelude.{ℕ, zero, suc, ◌≡◌, ◌+◌, ◌*◌, ◌≤◌, List, [], ◌∷◌, ◌++◌, codes, decimal}
use Rattle.std.specs.Prelude.{pos}
use Rattle.std.specs.List.{flat_map}
use Rattle.decimals.specs.Written.{spelling_of}
use Rattle.commands.specs.declared.trial.objects.Place.{Place}

-- the word is a number from 1 to 500 without a sign and without a zero in front
pub record IsSize (word : List ℕ) (n : ℕ) : Type 0 where
  pub spelled : word ≡ decimal n
  pub least : 1 ≤ n
  pub most : n ≤ 500

-- a line of a text
abbrev pub line : List ℕ → List ℕ
line text = text ++ 10 ∷ []

-- the model of each trial: cells in a window of 5000 units
abbrev pub model_text : List ℕ
model_text = flat_map line (
    codes "TRANSFER Trial;"
    ∷ codes "DOMAIN"
    ∷ codes "Koord = COORD2 0.000 0.000 5000.000 5000.000;"
    ∷ codes "MODEL Trial"
    ∷ codes "TOPIC Grid ="
    ∷ codes "TABLE Cell ="
    ∷ codes "Form: AREA WITH (STRAIGHTS) VERTEX Koord;"
    ∷ codes "NO IDENT"
    ∷ codes "END Cell;"
    ∷ codes "END Grid."
    ∷ codes "END Trial."
    ∷ codes "FORMAT FREE;"
    ∷ codes "CODE BLANK = DEFAULT, UNDEFINED = DEFAULT, CONTINUE = DEFAULT; TID = ANY; END."
    ∷ [])

-- a coordinate in units, with three decimals
abbrev pub coordinate : ℕ → List ℕ
coordinate units = spelling_of (pos (1000 * units)) 3

-- the two coordinates of a place
abbrev pub place_text : Place → List ℕ
place_text p = coordinate p.x ++ codes " " ++ coordinate p.y

-- the object of a straight, with this identification
abbrev pub straight_text : ℕ → Place → Place → List ℕ
straight_text number from to =
    codes "OBJE " ++ decimal number
    ++ codes "\nSTPT " ++ place_text from
    ++ codes "\nLIPT " ++ place_text to
    ++ codes "\nELIN\n"

-- the object of a cell
abbrev pub cell_text : ℕ → Place → List ℕ
cell_text number point =
    codes "OBJE " ++ decimal number ++ codes " " ++ place_text point ++ codes "\n"

-- a corner of the grid, by its column and its row
abbrev pub corner : ℕ → ℕ → Place
corner i j = record { x = 10 * i; y = 10 * j }

-- the middle of a cell, by its column and its row
abbrev pub middle : ℕ → ℕ → Place
middle i j = record { x = 10 * i + 5; y = 10 * j + 5 }

-- the straight from a corner to the next one on its right
abbrev pub level : ℕ → ℕ → ℕ → List ℕ
level n j i = straight_text (j * n + i + 1) (corner i j) (corner (i + 1) j)

-- the straight from a corner to the next one above it; they are numbered after the others
abbrev pub upright : ℕ → ℕ → ℕ → List ℕ
upright n i j = straight_text (n * (n + 1) + i * n + j + 1) (corner i j) (corner i (j + 1))

-- the object of the cell in a row and a column, with its number and its middle
abbrev pub cell : ℕ → ℕ → ℕ → List ℕ
cell n j i = cell_text (j * n + i + 1) (middle i j)

-- the texts of 0, 1 and so on, of so many numbers, one after the other
abbrev pub each : ℕ → (ℕ → List ℕ) → List ℕ
each zero text = []
each (suc n) text = each n text ++ text n

-- all level straights, row by row
abbrev pub levels : ℕ → List ℕ
levels n = each (n + 1) (λ j. each n (level n j))

-- all upright straights, column by column
abbrev pub uprights : ℕ → List ℕ
uprights n = each (n + 1) (λ i. each n (upright n i))

-- all cells, row by row
abbrev pub cells : ℕ → List ℕ
cells n = each n (λ j. each n (cell n j))

-- what stands before the straights
abbrev pub head : List ℕ
head = codes "SCNT\n////\nMTID Trial\nMODL Trial\nTOPI Grid\nTABL Cell_Form\n"

-- what stands between the straights and the cells
abbrev pub between : List ℕ
between = codes "ETAB\nTABL Cell\n"

-- what stands after the cells
abbrev pub ending : List ℕ
ending = codes "ETAB\nETOP\nEMOD\nENDE\n"

-- the transfer of a trial
abbrev pub transfer_text : ℕ → List ℕ
transfer_text n = head ++ levels n ++ uprights n ++ between ++ cells n ++ ending
