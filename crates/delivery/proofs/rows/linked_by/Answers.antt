use Rattle.std.proofs.Common.{ap, ◌∙◌, subst}
use Rattle.table_layout.specs.Values.{layout_view}
use Rattle.area_links.specs.Views.{rules_view}
use Rattle.reports.specs.Outcomes.{rejected}
use Rattle.commands.proofs.Results.{if_ok}
use Rattle.delivery.specs.Judging.{faulty, oversized, sound}
use Rattle.delivery.specs.LinkPieces.{IsLinksJudged}
use Rattle.delivery.specs.Links.{bad, tested}
use Rattle.delivery.specs.declared.judging.linked.LinksJudged.{LinksJudged}
use Rattle.delivery.proofs.rows.linked_by.Goals as goal

pub returns-in-Faulty : goal.returns-in-Faulty
returns-in-Faulty c text h =
    let l = layout_view c.args.layout.now in
    let j = subst (λ (x : LinksJudged). IsLinksJudged l text c.args.links.now x) c.in-Faulty.is
    (c.in_ok-found.ensures text h) in
    if_ok _ _ c.rejected.result (λ o e. faulty j.0 j.1 j.2 (e ∙ ap rejected j.3))
    c.rejected.ensures

pub returns-in-Oversized : goal.returns-in-Oversized
returns-in-Oversized c text h =
    let l = layout_view c.args.layout.now in
    let j = subst (λ (x : LinksJudged). IsLinksJudged l text c.args.links.now x) c.in-Oversized.is
    (c.in_ok-found.ensures text h) in
    if_ok _ _ c.area_too_large.result (λ o e. oversized j.0 j.1 j.2 j.3 e)
    c.area_too_large.ensures

pub returns-in-BadLink : goal.returns-in-BadLink
returns-in-BadLink c text h =
    let l = layout_view c.args.layout.now in
    let j = subst (λ (x : LinksJudged). IsLinksJudged l text c.args.links.now x) c.in-BadLink.is
    (c.in_ok-found.ensures text h) in
    if_ok _ _ c.bad_link.result
    (λ o e. sound (j.0, j.1, j.2, j.3, bad c.in-BadLink.line j.4 e))
    c.bad_link.ensures

pub tested-requires-clause-rows : goal.tested-requires-clause-rows
tested-requires-clause-rows c =
    let l = layout_view c.args.layout.now in
    let text = c.requires.text.0 in
    let j = subst (λ (x : LinksJudged). IsLinksJudged l text c.args.links.now x) c.in-Clean.is
    (c.in_ok-found.ensures text c.requires.text.1) in
    (c.args.links.now, j.0, j.4)

pub returns-in-Clean : goal.returns-in-Clean
returns-in-Clean c text h =
    let l = layout_view c.args.layout.now in
    let j = subst (λ (x : LinksJudged). IsLinksJudged l text c.args.links.now x) c.in-Clean.is
    (c.in_ok-found.ensures text h) in
    if_ok _ _ c.tested.result
    (λ o e. sound (
      j.0,
      j.1,
      j.2,
      j.3,
      tested (rules_view c.in-Clean.clean.rules.items) j.4.rules_are e,
    ))
    (c.tested.ensures c.args.links.now j.0 j.4)
