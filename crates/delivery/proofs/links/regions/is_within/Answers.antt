use Rattle.std.proofs.Common.{◌≡◌, Bool, true, ◌&&◌, ap, rules, sym, ◌∙◌}
use Rattle.delivery.specs.LinkRegions.{is_between}
use Rattle.delivery.proofs.links.regions.is_within.Goals as goal

pub returns-then-is_between : goal.returns-then-is_between
returns-then-is_between c =
    let w = c.args.window.now in
    let across : is_between w.low.x w.high.x c.args.at.x ≡ true = search rules in
    let up : c.is_between-then-is_between.result ≡ is_between w.low.y w.high.y c.args.at.y =
    search rules in
    up ∙ ap (λ (b : Bool). b && is_between w.low.y w.high.y c.args.at.y) (sym across)
