-- What the text of a transfer and the text of links come to, as they are taken in pieces.
use Rattle.std.specs.Prelude.{◌≡◌, ◌≢◌, ℕ, true, false, List, [], Ok, Err}
use Rattle.std.specs.List.{AllZip}
use Rattle.itf_reader.specs.Findings.{findings_of}
use Rattle.itf_reader.specs.Forms.{Row}
use Rattle.table_layout.specs.Layouts.{Layout}
use Rattle.area_drawings.specs.AreaLimits.{has_too_large}
use Rattle.area_drawings.specs.Drawings.{AreDrawings}
use Rattle.area_drawings.specs.KeptViews.{HasTolerance}
use Rattle.area_links.specs.Rules.{links_of}
use Rattle.area_links.specs.Views.{rules_view}
use Rattle.reports.specs.AreaKinds.{plans}
use Rattle.reports.specs.Surfaces.{surfaces}
use Rattle.delivery.specs.AskedLinks.{AreAsked}
use Rattle.delivery.specs.Judging.{IsClean, IsTextOf, findings, objects}
use Rattle.delivery.specs.Surfaces.{AreSurfaceAnswers}
use Rattle.delivery.specs.declared.judging.linked.CleanLinks.{CleanLinks}
use Rattle.delivery.specs.declared.judging.linked.LinksJudged.{LinksJudged}
use Rattle.delivery.specs.declared.judging.linked.LinksJudged.TheVariants as judged

-- of rows without findings, whose areas are within the limit: their number, drawings and answers,
-- the rules, and what these ask
pub record AreCleanLinks (l : Layout) (links : List ℕ) (rows : List (List Row))
    (c : CleanLinks) : Type 0 where
  pub few : has_too_large rows l.areas ≡ false
  pub count : c.objects ≡ objects rows
  pub drawn : AreDrawings l rows (plans c.drawings.items)
  pub tolerances : AllZip (HasTolerance l) l.areas c.drawings.items
  pub surfaces_answered : AreSurfaceAnswers l rows (surfaces l) c.surfaces.items
  pub rules_are : links_of l links ≡ Ok (rules_view c.rules.items)
  pub asked : AreAsked l rows (rules_view c.rules.items) c.asked.items

-- what a text and the text of links come to
abbrev pub IsLinksJudged : Layout → List ℕ → List ℕ → LinksJudged → Type 0
IsLinksJudged l text links (judged.Faulty found) =
    (rows : List (List Row)) × IsTextOf l text rows × (findings l rows ≢ [])
    × (findings_of found.items ≡ findings l rows)
IsLinksJudged l text links judged.Oversized =
    (rows : List (List Row)) × IsTextOf l text rows × IsClean l rows
    × (has_too_large rows l.areas ≡ true)
IsLinksJudged l text links (judged.BadLink n) =
    (rows : List (List Row)) × IsTextOf l text rows × IsClean l rows
    × (has_too_large rows l.areas ≡ false) × (links_of l links ≡ Err n)
IsLinksJudged l text links (judged.Clean c) =
    (rows : List (List Row)) × IsTextOf l text rows × IsClean l rows
    × (has_too_large rows l.areas ≡ false) × AreCleanLinks l links rows c
