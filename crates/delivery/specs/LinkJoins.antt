-- The pairs of a rule by the lines of rows, where points and names come with the lines of theirs.
use Rattle.std.specs.Prelude.{ℕ, ◌+◌, ◌≤◌, nat_eq, if◌then◌else◌, List, [], ◌∷◌, ◌++◌, Option}
use Rattle.std.specs.Prelude.{Some, None, option_and_then, slice_get}
use Rattle.std.specs.Option.{option_map, option_to_list}
use Rattle.area_links.specs.Pairs.{after, number_if, number_in, pair_by}
use Rattle.area_links.specs.declared.kinds.LinkPair.{LinkPair}
use Rattle.ident_refs.specs.NamedRows.{Named}
use Rattle.plane.specs.declared.kinds.Placed.{Placed}
use Rattle.plane.specs.declared.kinds.Point.{Point}

-- ---- what belongs to a row
-- the first of some things with lines, where it is of that line
abbrev pub first_in : {X : Type 0} → (X → ℕ) → ℕ → List X → Option X
first_in line_of line [] = None
first_in line_of line (x ∷ xs) = if nat_eq (line_of x) line then Some x else None

-- those that are left behind it
abbrev pub left_after : {X : Type 0} → (X → ℕ) → ℕ → List X → List X
left_after line_of line [] = []
left_after line_of line (x ∷ xs) = if nat_eq (line_of x) line then xs else x ∷ xs

-- the line of a row with a point
abbrev pub placed_line : Placed → ℕ
placed_line p = p.line

-- the line of a row with a reference
abbrev pub named_line : Named → ℕ
named_line n = n.line

-- the point of the row in that line
abbrev pub point_in : ℕ → List Placed → Option Point
point_in line points = option_map (λ (p : Placed). p.at) (first_in placed_line line points)

-- the row that the row in that line refers to, by its place
abbrev pub name_in : ℕ → List Named → Option (Option ℕ)
name_in line names = option_map (λ (n : Named). n.row) (first_in named_line line names)

-- the points of the rows after that line
abbrev pub points_after : ℕ → List Placed → List Placed
points_after line points = left_after placed_line line points

-- what the rows after that line refer to
abbrev pub names_after : ℕ → List Named → List Named
names_after line names = left_after named_line line names

-- ---- row after row
-- numbers rise, and none is less than the first
abbrev pub RiseFrom : ℕ → List ℕ → Type 0
RiseFrom n [] = Unit {0}
RiseFrom n (m ∷ ms) = (n ≤ m) × RiseFrom (m + 1) ms

-- the numbers of the objects in these lines, counted on from k; none for those without a point
abbrev pub numbered : ℕ → List ℕ → List Placed → List (Option ℕ)
numbered k [] points = []
numbered k (line ∷ lines) points =
    number_if k (point_in line points)
    ∷ numbered (after k (point_in line points)) lines (points_after line points)

-- the number of the object at a place, if there is one
abbrev pub object_at : List (Option ℕ) → Option ℕ → Option ℕ
object_at numbers place =
    option_and_then (λ (i : ℕ). number_in (slice_get numbers i)) place

-- the pair of the row in that line
abbrev pub line_pair : List (Option ℕ) → ℕ → List Placed → List Named → Option LinkPair
line_pair numbers line points names =
    pair_by line (point_in line points) (option_map (object_at numbers) (name_in line names))

-- the pairs of the rows in these lines
abbrev pub joined : List (Option ℕ) → List ℕ → List Placed → List Named → List LinkPair
joined numbers [] points names = []
joined numbers (line ∷ lines) points names =
    option_to_list (line_pair numbers line points names)
    ++ joined numbers lines (points_after line points) (names_after line names)
