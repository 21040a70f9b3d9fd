use Rattle.std.proofs.Common.{◌≡◌, ℕ, List, ap, sym, ◌∙◌, subst}
use Rattle.std.specs.Global.{Vec}
use Rattle.area_links.specs.declared.kinds.LinkPair.{LinkPair}
use Rattle.area_search.specs.declared.kinds.Region.{Region}
use Rattle.plane.specs.Rule.Plans.{plan}
use Rattle.commands.proofs.Results.{if_ok}
use Rattle.delivery.specs.AskedLinks.{AreResults, asked_pairs, pairs_in, results_view}
use Rattle.delivery.specs.LinkRegions.{results_by}
use Rattle.delivery.proofs.FoundRegions.{results_found}
use Rattle.delivery.proofs.links.testing.results_of.Goals as goal

pub returns-in-Proved : goal.returns-in-Proved
returns-in-Proved c certificate e =
    let w = c.args.drawing.now.window in
    let t = c.args.drawing.now.tolerance in
    let d = plan c.args.drawing.now in
    let f = c.args.found.now in
    let pss = asked_pairs c.args.asked.now in
    if_ok _ _ c.results_by.result
    (λ xs h.
    let same : results_view xs ≡ results_by w pss f.regions.items =
    h
    ∙ (ap (λ (ps : List (Vec LinkPair)). results_by w (pairs_in ps) c.deref-in-Proved.result.now)
    c.deref.ensures.value
    ∙ ap (λ (rs : List Region). results_by w pss rs) c.deref-in-Proved.ensures.value) in
    subst (λ (ys : List (List ℕ)). AreResults t d pss ys) (sym same)
    (results_found c.regions_are_exact.ensures.exact c.one_right_ground.ensures.one t d f
    certificate e c.requires.answer pss c.requires.regions))
    c.results_by.ensures
