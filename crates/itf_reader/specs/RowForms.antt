-- What every row of a transfer meets.
use Rattle.std.specs.Prelude.{◌≡◌, ⊤, ℕ, List, [], ◌∷◌, length, All}
use Rattle.itf_reader.specs.Forms.{Table, Start, Straight, OnArc, Vertex, vertex, Row}

-- straights, and arcs by their third point and their end
pub data GoesOn : List Vertex → Type 0 where
  at_end : GoesOn []
  by_straight : (n : ℕ) (fs : List (List ℕ)) (vs : List Vertex) → GoesOn vs
      → GoesOn (vertex Straight n fs ∷ vs)
  by_arc : (n m : ℕ) (fs gs : List (List ℕ)) (vs : List Vertex) → GoesOn vs
      → GoesOn (vertex OnArc n fs ∷ vertex Straight m gs ∷ vs)

-- a stroke is undefined, or it begins somewhere and goes on
pub data HasStrokeForm : List Vertex → Type 0 where
  undefined_stroke : HasStrokeForm []
  defined_stroke : (n : ℕ) (fs : List (List ℕ)) (vs : List Vertex) → GoesOn vs
      → HasStrokeForm (vertex Start n fs ∷ vs)

-- as many strokes as its table has lines
abbrev pub IsCounted : ℕ → Row → Type 0
IsCounted lines row = length row.strokes ≡ lines

abbrev pub HasForm : ℕ → Row → Type 0
HasForm lines row = All HasStrokeForm row.strokes

-- each row of each table meets that, with the number of the table's lines
abbrev pub EachRow : (ℕ → Row → Type 0) → List Table → List (List Row) → Type 0
EachRow P [] [] = ⊤
EachRow P (table ∷ tables) (rows ∷ others) = All (P table.lines) rows × EachRow P tables others
EachRow P tables others = ⊥
