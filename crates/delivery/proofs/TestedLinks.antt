-- The outcome of what is tested of links.
use Rattle.std.proofs.Common.{◌≡◌, ℕ, List, length, sym, ap, ◌∙◌, subst}
use Rattle.std.specs.Prelude.{Ok}
use Rattle.std.specs.List.{flat_map}
use Rattle.area_drawings.specs.Drawings.{AreDrawings}
use Rattle.area_links.specs.Rules.{Rule, links_of}
use Rattle.itf_reader.specs.Forms.{Row}
use Rattle.plane.specs.Rule.Plans.{Plan}
use Rattle.table_layout.specs.Layouts.{Layout}
use Rattle.reports.specs.Outcomes.{Misplaced, Outcome, linked}
use Rattle.reports.specs.Surfaces.{surfaces}
use Rattle.reports.specs.declared.lines.AreaAnswer.{AreaAnswer}
use Rattle.reports.specs.declared.lines.SurfaceAnswer.{SurfaceAnswer}
use Rattle.delivery.specs.AskedLinks.{AreAsked, AreTestedAnswers, rule_misplaced, rules_count}
use Rattle.delivery.specs.Judging.{objects as objects_of}
use Rattle.delivery.specs.Links.{AreTested, AreTestedBy}
use Rattle.delivery.specs.Surfaces.{AreSurfaceAnswers}
use Rattle.delivery.specs.declared.links.asked.AskedArea.{AskedArea}
use Rattle.delivery.proofs.GatheredLinks.{counted, tested}
use Rattle.delivery.proofs.GoodRules.{good_rules}
use Rattle.delivery.proofs.TestedAreas.{answers_count}

module _ (l : Layout) (links : List ℕ) (rows : List (List Row)) (ds : List Plan)
    (ss : List SurfaceAnswer) (rules : List Rule) (asked : List AskedArea)
    (xs : List AreaAnswer) (results : List (List (List ℕ))) (drawn : AreDrawings l rows ds)
    (answered : AreSurfaceAnswers l rows (surfaces l) ss) (is : links_of l links ≡ Ok rules)
    (asks : AreAsked l rows rules asked) (t : AreTestedAnswers l ds asked xs results) where
  pub tested_by_rules : (objects pairs n : ℕ) (ms : List Misplaced) (o : Outcome)
      → objects ≡ objects_of rows → ms ≡ flat_map (rule_misplaced asked results) rules
      → pairs ≡ rules_count asked rules → n ≡ length rules
      → o ≡ linked l objects ss xs ms n pairs → AreTestedBy l rules rows o
  tested_by_rules objects pairs n ms o count found pairs_are many e =
      let good = good_rules l links rules is in
      let sizes = answers_count l l.areas ds xs t.certificates t.answered in
      record {
        surface_answers = ss;
        surfaces_answered = answered;
        drawings = ds;
        answers = xs;
        certificates = t.certificates;
        drawn = drawn;
        answered = t.answered;
        misplaced = ms;
        tested = λ f. subst (AreTested l rows ds rules) (sym found)
            (tested l rows rules asked asks ds xs results t f sizes.1 sizes.0 rules
            (λ k r i. (k, i)) good);
        is =
            e
            ∙ (ap (λ (m : ℕ). linked l m ss xs ms n pairs) count
            ∙ (ap (λ (m : ℕ). linked l (objects_of rows) ss xs ms m pairs) many
            ∙ ap (linked l (objects_of rows) ss xs ms (length rules))
            (pairs_are ∙ counted l rows rules asked asks rules (λ k r i. (k, i)) good)));
      }
