use Rattle.std.proofs.Common.{◌≡◌, List, ◌++◌, ap, sym, ◌∙◌, subst}
use Rattle.std.specs.List.{All}
use Rattle.area_search.specs.Regions.{AreRegions}
use Rattle.area_search.specs.declared.kinds.Region.{Region}
use Rattle.plane.specs.Rule.Plans.{plan}
use Rattle.plane.specs.Rule.Windows.{IsInside}
use Rattle.plane.specs.declared.kinds.Point.{Point}
use Rattle.delivery.specs.LinkRegions.{inner_places, lines_by}
use Rattle.delivery.specs.Links.{AreMisplaced}
use Rattle.delivery.proofs.FoundRegions.{lines_found, proved_again}
use Rattle.delivery.proofs.ToldRegions.{inner_inside}
use Rattle.delivery.proofs.links.regions.misplaced.Goals as goal

pub find_objects-requires-clause-near : goal.find_objects-requires-clause-near
find_objects-requires-clause-near c =
    let w = c.args.drawing.now.window in
    let places : c.deref.result.now ≡ inner_places w c.args.pairs.now =
    c.deref.ensures.value
    ∙ (c.in_ok-add_inner.ensures
    ∙ ap (λ (ps : List Point). ps ++ inner_places w c.args.pairs.now) c.new-places.ensures.items) in
    subst (λ (ps : List Point). All (IsInside w.low w.high) ps) (sym places)
    (inner_inside w c.args.pairs.now)

pub returns : goal.returns
returns c =
    let w = c.args.drawing.now.window in
    let t = c.args.drawing.now.tolerance in
    let d = plan c.args.drawing.now in
    let f = c.in_ok-found.found in
    let places : c.deref.result.now ≡ inner_places w c.args.pairs.now =
    c.deref.ensures.value
    ∙ (c.in_ok-add_inner.ensures
    ∙ ap (λ (ps : List Point). ps ++ inner_places w c.args.pairs.now) c.new-places.ensures.items) in
    let again =
    proved_again t d (c.answers_are_right.ensures.proved t d)
    (c.answers_are_right.ensures.complete t d) c.requires.proved.0 c.requires.proved.1 f.answer
    c.in_ok-found.ensures.answer in
    let lines : c.in_ok-lines.lines.items ≡ lines_by w c.args.pairs.now f.regions.items =
    c.in_ok-lines.ensures.lines
    ∙ ap (λ (rs : List Region). lines_by w c.args.pairs.now rs) c.deref-2.ensures.value in
    subst (AreMisplaced t d c.args.pairs.now) (sym lines)
    (lines_found c.regions_are_exact.ensures.exact c.one_right_ground.ensures.one t d f again.0
    again.1 c.in_ok-found.ensures.answer c.args.pairs.now
    (subst (λ (ps : List Point). AreRegions t d ps f) places c.in_ok-found.ensures.regions))
