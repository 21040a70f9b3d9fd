-- What the rules of a file of links ask of each area, and what is found.
use Rattle.std.specs.Prelude.{◌≡◌, ℕ, ℤ, ◌+◌, ◌<◌, Bool, true, ◌==◌, ◌&&◌, List, [], ◌∷◌, length, map}
use Rattle.std.specs.Prelude.{Option, Some, None, slice_get, slice_index_or}
use Rattle.std.specs.Global.{Vec}
use Rattle.std.specs.List.{All, AllZip, position_from}
use Rattle.area_drawings.specs.Drawings.{area_tolerance}
use Rattle.area_links.specs.Pairs.{pairs_of}
use Rattle.area_links.specs.Rules.{Rule}
use Rattle.area_links.specs.Views.{rules_view}
use Rattle.area_links.specs.declared.kinds.LinkPair.{LinkPair}
use Rattle.certificate.specs.Spelling.{Plain}
use Rattle.itf_reader.specs.Forms.{Row}
use Rattle.plane.specs.Rule.Plans.{Plan}
use Rattle.table_layout.specs.Layouts.{AreaOf, Layout}
use Rattle.reports.specs.Kinds.{answer_kind, is_fine}
use Rattle.reports.specs.Outcomes.{Misplaced}
use Rattle.reports.specs.declared.lines.AreaAnswer.{AreaAnswer}
use Rattle.delivery.specs.AreaAnswers.{AreAnswers, IsAnswer}
use Rattle.delivery.specs.Links.{AreMisplaced, misplaced_by}
use Rattle.delivery.specs.declared.links.asked.AskedArea.{AskedArea}

-- ---- rules that ask the same
-- two rules name the same table, columns and area
abbrev pub are_alike : Rule → Rule → Bool
are_alike a b =
    (((a.table == b.table) && (a.point == b.point)) && (a.reference == b.reference))
    && (a.area == b.area)

-- the place of the first rule that asks the same
abbrev pub place_alike : List Rule → Rule → Option ℕ
place_alike rules r = position_from (λ q. are_alike q r) 0 rules

-- some rule asks the same
abbrev pub HasAlike : List Rule → Rule → Type 0
HasAlike rules r = (i : ℕ) × (place_alike rules r ≡ Some i)

-- the rule is among these
abbrev pub IsAmong : List Rule → Rule → Type 0
IsAmong rules r = (i : ℕ) × (slice_get rules i ≡ Some r)

-- Of some rules these are of the area of that number, and each such rule asks the same as one.
pub record IsAskedOf (number : ℕ) (rules asked : List Rule) : Type 0 where
  pub from_rules : All (IsAmong rules) asked
  pub whole : (r : Rule) → IsAmong rules r → r.area ≡ number → HasAlike asked r

-- the same of the first k rules
pub record AreAskedTo (number : ℕ) (rules : List Rule) (k : ℕ) (asked : List Rule) : Type 0 where
  pub from_rules : All (IsAmong rules) asked
  pub whole : (i : ℕ) (r : Rule) → i < k → slice_get rules i ≡ Some r → r.area ≡ number
      → HasAlike asked r

-- ---- the pairs of the rules of each area
-- the code's pairs of a rule
abbrev pub pairs_view : Vec LinkPair → List LinkPair
pairs_view v = v.items

-- the code's pairs of some rules
abbrev pub pairs_in : List (Vec LinkPair) → List (List LinkPair)
pairs_in ps = map pairs_view ps

-- what the rules ask of the area of that number
pub record IsAsked (l : Layout) (rows : List (List Row)) (rules : List Rule) (number : ℕ)
    (x : AskedArea) : Type 0 where
  pub rules_are : IsAskedOf number rules (rules_view x.rules.items)
  pub pairs_are : pairs_in x.pairs.items ≡ map (pairs_of l rows) (rules_view x.rules.items)

-- what they ask of each area of the layout
pub record AreAsked (l : Layout) (rows : List (List Row)) (rules : List Rule)
    (xs : List AskedArea) : Type 0 where
  pub count : length xs ≡ length l.areas
  pub each : (k : ℕ) (x : AskedArea) → slice_get xs k ≡ Some x → IsAsked l rows rules k x

-- ---- what is found
-- the code's lines of a rule
abbrev pub lines_view : Vec ℕ → List ℕ
lines_view v = v.items

-- the code's lines of the rules of an area
abbrev pub results_view : Vec (Vec ℕ) → List (List ℕ)
results_view v = map lines_view v.items

-- the same of all areas
abbrev pub all_results : List (Vec (Vec ℕ)) → List (List (List ℕ))
all_results rs = map results_view rs

-- of the pairs of each rule the lines of those that do not hold in the drawing
abbrev pub AreResults : ℤ → Plan → List (List LinkPair) → List (List ℕ) → Type 0
AreResults t d pss results = AllZip (AreMisplaced t d) pss results

-- the answer to an area and its drawing, and the results of the pairs that are asked, where the
-- answer names nothing at fault or undecided
pub record IsTestedAnswer (l : Layout) (a : AreaOf) (d : Plan) (pss : List (List LinkPair))
    (x : AreaAnswer) (cs : List Plain) (results : List (List ℕ)) : Type 0 where
  pub answer : IsAnswer l a d x cs
  pub results_are : is_fine (answer_kind x) ≡ true → AreResults (area_tolerance l a) d pss results

-- the pairs of each rule that asks an area
abbrev pub asked_pairs : AskedArea → List (List LinkPair)
asked_pairs x = pairs_in x.pairs.items

-- the answers to the areas of the layout and their drawings, and the results of what is asked of
-- each
pub record AreTestedAnswers (l : Layout) (ds : List Plan) (asked : List AskedArea)
    (xs : List AreaAnswer) (results : List (List (List ℕ))) : Type 0 where
  pub certificates : List Plain
  pub answered : AreAnswers l l.areas ds xs certificates
  pub each : (k : ℕ) (a : AreaOf) (d : Plan) (q : AskedArea) (x : AreaAnswer)
      → slice_get l.areas k ≡ Some a → slice_get ds k ≡ Some d → slice_get asked k ≡ Some q
      → slice_get xs k ≡ Some x → is_fine (answer_kind x) ≡ true
      → AreResults (area_tolerance l a) d (asked_pairs q) (slice_index_or results k [])

-- ---- what is reported of a rule
-- the lines of the rule at that place; none where there is no place
abbrev pub lines_at : Option ℕ → List (List ℕ) → List ℕ
lines_at None results = []
lines_at (Some i) results = slice_index_or results i []

-- how many pairs the rule at that place has; 0 where there is no place
abbrev pub count_at : Option ℕ → List (List LinkPair) → ℕ
count_at None pss = 0
count_at (Some i) pss = length (slice_index_or pss i [])

-- the lines of the rule that asks the same of the area; none where there is no area
abbrev pub lines_in : Option AskedArea → Rule → List (List ℕ) → List ℕ
lines_in None r results = []
lines_in (Some x) r results = lines_at (place_alike (rules_view x.rules.items) r) results

-- how many pairs that rule has; 0 where there is no area
abbrev pub count_in : Option AskedArea → Rule → ℕ
count_in None r = 0
count_in (Some x) r = count_at (place_alike (rules_view x.rules.items) r) (asked_pairs x)

-- the lines of the pairs of a rule that do not hold, by the results of its area
abbrev pub rule_lines : List AskedArea → List (List (List ℕ)) → Rule → List ℕ
rule_lines asked results r =
    lines_in (slice_get asked r.area) r (slice_index_or results r.area [])

-- how many pairs a rule has
abbrev pub rule_count : List AskedArea → Rule → ℕ
rule_count asked r = count_in (slice_get asked r.area) r

-- the pairs of a rule that do not hold
abbrev pub rule_misplaced : List AskedArea → List (List (List ℕ)) → Rule → List Misplaced
rule_misplaced asked results r = map (misplaced_by r.line) (rule_lines asked results r)

-- how many pairs rules have
abbrev pub rules_count : List AskedArea → List Rule → ℕ
rules_count asked [] = 0
rules_count asked (r ∷ rules) = rule_count asked r + rules_count asked rules
