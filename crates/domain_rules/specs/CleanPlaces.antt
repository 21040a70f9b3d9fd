-- The places of a transfer in which no value is at fault.
use Rattle.std.specs.Prelude.{◌≡◌, ◌⊎◌, ◌≤ℤ◌, Bool, true, false, ◌&&◌, ⊤, ℕ, List, [], ◌∷◌, take}
use Rattle.std.specs.Prelude.{drop, None}
use Rattle.std.specs.List.{list_all}
use Rattle.ili_grammar.specs.Syntax.{Codes}
use Rattle.resolver.specs.Resolved as model
use Rattle.resolver.specs.Resolved.{Form, LineForm, Window}
use Rattle.table_layout.specs.Layouts.{Column, Table}
use Rattle.field_values.specs.Fields.{is_undefined, vertex_fault, width}
use Rattle.field_values.specs.Places.{Place, place_named, is_same_place, are_collinear, is_between}
use Rattle.itf_reader.specs.Forms.{Vertex, Row}
use Rattle.itf_reader.specs.RowFindings.{is_counted}
use Rattle.itf_reader.specs.StrokeFindings.{Seen, is_on_arc, place_of, all_seen}

-- a place lies in its window
pub record IsInside (w : Window) (p : Place) : Type 0 where
  pub west : w.x.low ≤ℤ p.x
  pub east : p.x ≤ℤ w.x.high
  pub south : w.y.low ≤ℤ p.y
  pub north : p.y ≤ℤ w.y.high

-- ---- the points of objects in their areas
-- it is undefined, as an optional one may be, or lies in its window
abbrev pub HasPoint : Codes → Bool → Form → List (List ℕ) → Type 0
HasPoint codes optional (model.AreaPoint w) words =
    ((optional && list_all (is_undefined codes) words) ≡ true) ⊎ IsInside w (place_named w words)
HasPoint codes optional other words = ⊤

abbrev pub HavePoints : Codes → List Column → List (List ℕ) → Type 0
HavePoints codes [] words = ⊤
HavePoints codes (c ∷ cs) words =
    HasPoint codes c.optional c.form (take (width c.form) words)
    × HavePoints codes cs (drop (width c.form) words)

-- ---- the lines of objects
-- the fields of a vertex break no rule, and its place lies in the window of its line
pub record IsSoundVertex (l : LineForm) (v : Vertex) : Type 0 where
  pub sound : vertex_fault l v.fields ≡ None
  pub inside : IsInside l.window (place_of l v)

abbrev pub AreSoundVertices : LineForm → List Vertex → Type 0
AreSoundVertices l [] = ⊤
AreSoundVertices l (v ∷ vs) = IsSoundVertex l v × AreSoundVertices l vs

-- the ends of an arc are two places, and where all three lie on one straight, the middle one lies
-- between the ends or on one of them
pub record IsArc (s m e : Place) : Type 0 where
  pub ends : is_same_place s e ≡ false
  pub middle : are_collinear s m e ≡ true
      → (is_between s.x e.x m.x && is_between s.y e.y m.y) ≡ true

-- each vertex on an arc, and those before and after it
abbrev pub AreArcs : List Seen → Type 0
AreArcs [] = ⊤
AreArcs (s ∷ []) = ⊤
AreArcs (s ∷ m ∷ []) = ⊤
AreArcs (s ∷ m ∷ e ∷ vs) = (is_on_arc m.kind ≡ true → IsArc s.at m.at e.at) × AreArcs (m ∷ e ∷ vs)

abbrev pub AreLines : List LineForm → List (List Vertex) → Type 0
AreLines [] ss = ⊤
AreLines (l ∷ ls) [] = ⊤
AreLines (l ∷ ls) (s ∷ ss) = (AreSoundVertices l s × AreArcs (all_seen l s)) × AreLines ls ss

-- ---- rows
-- a row has the words of its columns, and its points and lines are sound
pub record HasPlaces (codes : Codes) (t : Table) (r : Row) : Type 0 where
  pub counted : is_counted t r ≡ true
  pub points : HavePoints codes t.columns (drop 1 r.fields)
  pub lines : AreLines t.lines r.strokes

abbrev pub RowsHavePlaces : Codes → Table → List Row → Type 0
RowsHavePlaces codes t [] = ⊤
RowsHavePlaces codes t (r ∷ rows) = HasPlaces codes t r × RowsHavePlaces codes t rows

-- the rows of each table, in the order of the layout
abbrev pub HavePlaces : Codes → List Table → List (List Row) → Type 0
HavePlaces codes [] transfer = ⊤
HavePlaces codes (t ∷ ts) [] = ⊤
HavePlaces codes (t ∷ ts) (rows ∷ transfer) =
    RowsHavePlaces codes t rows × HavePlaces codes ts transfer
