-- Points that must lie in the area of the object that their row refers to.
use Rattle.std.specs.Prelude.{◌≡◌, ◌⊎◌, ℕ, ℤ, ◌+◌, Bool, true, List, [], ◌∷◌, ◌++◌, length, map}
use Rattle.std.specs.Prelude.{Some, Ok, Err, slice_get}
use Rattle.std.specs.List.{All, Any}
use Rattle.area_drawings.specs.Drawings.{AreDrawings, IsDrawing, area_tolerance}
use Rattle.area_links.specs.Pairs.{pairs_of}
use Rattle.area_links.specs.Rules.{Rule, links_of}
use Rattle.area_links.specs.declared.kinds.LinkPair.{LinkPair}
use Rattle.area_search.specs.Grounds.{IsRightGround}
use Rattle.area_search.specs.Regions.{HasRegion}
use Rattle.area_search.specs.declared.kinds.Region.TheVariants.{Of}
use Rattle.certificate.specs.Spelling.{Plain}
use Rattle.itf_reader.specs.Forms.{Row}
use Rattle.plane.specs.Rule.Places.{point}
use Rattle.plane.specs.Rule.Plans.{Plan}
use Rattle.plane.specs.Rule.Windows.{IsInside}
use Rattle.table_layout.specs.Layouts.{AreaOf, Layout}
use Rattle.reports.specs.Kinds.{are_fine}
use Rattle.reports.specs.Outcomes.{Misplaced, Outcome, bad_link, linked}
use Rattle.reports.specs.Surfaces.{surfaces}
use Rattle.reports.specs.declared.lines.AreaAnswer.{AreaAnswer}
use Rattle.reports.specs.declared.lines.SurfaceAnswer.{SurfaceAnswer}
use Rattle.delivery.specs.AreaAnswers.{AreAnswers}
use Rattle.delivery.specs.Judging.{IsJudgedBy, objects}
use Rattle.delivery.specs.Surfaces.{AreSurfaceAnswers}

-- ---- one pair
-- The pair has an object; its point lies in the window of the drawing, and in the ground of the
-- drawing, which permits an overlap of t units, on no curve and joined to the object's point.
pub record LinkHolds (t : ℤ) (d : Plan) (p : LinkPair) : Type 0 where
  pub k : ℕ
  pub object : p.object ≡ Some k
  pub inside : IsInside d.window.low d.window.high p.at
  pub is_bent : Bool
  pub g : Plan
  pub origin : List ℕ
  pub right : IsRightGround t d is_bent g origin
  pub region : HasRegion g (point p.at) (Of k)

-- of these pairs, in order, the lines of those that do not hold
abbrev pub AreMisplaced : ℤ → Plan → List LinkPair → List ℕ → Type 0
AreMisplaced t d [] lines = lines ≡ []
AreMisplaced t d (p ∷ ps) lines =
    (LinkHolds t d p × AreMisplaced t d ps lines)
    ⊎ ((LinkHolds t d p → ⊥)
    × ((rest : List ℕ) × (lines ≡ p.line ∷ rest) × AreMisplaced t d ps rest))

-- ---- the pairs of rules
-- a test of the drawing of a rule's area, by the overlap that it permits, and of the rule's pairs
abbrev pub PairsPass : (ℤ → Plan → List LinkPair → Type 0) → Layout → List (List Row) → Rule
    → Type 0
PairsPass test l rows r =
    (a : AreaOf) × (d : Plan) × (slice_get l.areas r.area ≡ Some a) × IsDrawing l rows a d
    × test (area_tolerance l a) d (pairs_of l rows r)

-- all of these pairs hold
abbrev pub AllHold : ℤ → Plan → List LinkPair → Type 0
AllHold t d ps = All (LinkHolds t d) ps

-- one of these pairs does not hold
abbrev pub SomeDoesNot : ℤ → Plan → List LinkPair → Type 0
SomeDoesNot t d ps = Any (λ p. LinkHolds t d p → ⊥) ps

-- the file states rules, and all of their pairs hold
abbrev pub LinksHold : Layout → List ℕ → List (List Row) → Type 0
LinksHold l links rows =
    (rules : List Rule) × (links_of l links ≡ Ok rules) × All (PairsPass AllHold l rows) rules

-- the file states rules, and some pair of one does not hold
abbrev pub HasMisplaced : Layout → List ℕ → List (List Row) → Type 0
HasMisplaced l links rows =
    (rules : List Rule) × (links_of l links ≡ Ok rules) × Any (PairsPass SomeDoesNot l rows) rules

-- a line of the file states no rule
abbrev pub HasBadLink : Layout → List ℕ → List (List Row) → Type 0
HasBadLink l links rows = (n : ℕ) × (links_of l links ≡ Err n)

-- the file states rules
abbrev pub StatesRules : Layout → List ℕ → Type 0
StatesRules l links = (rules : List Rule) × (links_of l links ≡ Ok rules)

-- ---- what is reported
-- a rule, by its line in the file of links, and an object
abbrev pub misplaced_by : ℕ → ℕ → Misplaced
misplaced_by rule line = record { rule = rule; line = line }

-- the lines of the pairs of a rule that do not hold, by the drawings of all areas
abbrev pub AreLinesOf : Layout → List (List Row) → List Plan → Rule → List ℕ → Type 0
AreLinesOf l rows ds r lines =
    (a : AreaOf) × (d : Plan) × (slice_get l.areas r.area ≡ Some a) × (slice_get ds r.area ≡ Some d)
    × AreMisplaced (area_tolerance l a) d (pairs_of l rows r) lines

-- the pairs of rules that do not hold, rule after rule
abbrev pub AreTested : Layout → List (List Row) → List Plan → List Rule → List Misplaced → Type 0
AreTested l rows ds [] ms = ms ≡ []
AreTested l rows ds (r ∷ rules) ms =
    (lines : List ℕ) × (rest : List Misplaced) × AreLinesOf l rows ds r lines
    × AreTested l rows ds rules rest × (ms ≡ map (misplaced_by r.line) lines ++ rest)

-- how many pairs rules have
abbrev pub pair_count : Layout → List (List Row) → List Rule → ℕ
pair_count l rows [] = 0
pair_count l rows (r ∷ rules) = length (pairs_of l rows r) + pair_count l rows rules

-- ---- outcomes
-- The areas of rows are drawn, and the outcome has the answers to the SURFACEs and to the drawings,
-- and where these name nothing at fault or undecided, the pairs of the rules that do not hold.
pub record AreTestedBy (l : Layout) (rules : List Rule) (rows : List (List Row))
    (o : Outcome) : Type 0 where
  pub surface_answers : List SurfaceAnswer
  pub surfaces_answered : AreSurfaceAnswers l rows (surfaces l) surface_answers
  pub drawings : List Plan
  pub answers : List AreaAnswer
  pub certificates : List Plain
  pub drawn : AreDrawings l rows drawings
  pub answered : AreAnswers l l.areas drawings answers certificates
  pub misplaced : List Misplaced
  pub tested : are_fine answers ≡ true → AreTested l rows drawings rules misplaced
  pub is : o ≡ linked l (objects rows) surface_answers answers misplaced (length rules)
      (pair_count l rows rules)

-- What is said of rows by a file of links: the first line that states no rule, or what its rules
-- find.
pub data AreLinked (l : Layout) (links : List ℕ) (rows : List (List Row))
    (o : Outcome) : Type 0 where
  bad : (n : ℕ) → links_of l links ≡ Err n → o ≡ bad_link n → AreLinked l links rows o
  tested : (rules : List Rule) → links_of l links ≡ Ok rules → AreTestedBy l rules rows o
      → AreLinked l links rows o

-- the outcome of a transfer's text and of the text of links
abbrev pub IsLinked : Layout → List ℕ → List ℕ → Outcome → Type 0
IsLinked l text links o = IsJudgedBy l text (AreLinked l links) o
