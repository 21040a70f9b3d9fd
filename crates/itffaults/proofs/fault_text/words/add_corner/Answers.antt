use Rattle.std.specs.Prelude.{codes}
use Rattle.std.proofs.Common.{FitsSigned, ap, rules, to_z-of_z, w64, ℤ, ◌++◌, ◌∙◌}
use Rattle.std.proofs.lemmas.Result.{on_ok_weaker}
use Rattle.decimals.specs.Written.{spelling_of}
use Rattle.itffaults.proofs.FaultTextLemmas.Parts.{three_parts}
use Rattle.itffaults.proofs.fault_text.words.add_corner.Goals as goal

pub returns : goal.returns
returns c =
    let s = c.args.scale in
    let x : FitsSigned w64 c.args.place.x = search rules in
    let y : FitsSigned w64 c.args.place.y = search rules in
    on_ok_weaker c.add_scaled-2.result
    (λ e. three_parts c.args.text.now c.add_scaled.new.text c.add.new.self c.add_scaled-2.new.text
    (spelling_of c.args.place.x s) (codes " ") (spelling_of c.args.place.y s)
    (c.in_ok-add_scaled.ensures ∙ ap (λ (z : ℤ). c.args.text.now ++ spelling_of z s) (to_z-of_z x))
    c.in_ok-add.ensures
    (e ∙ ap (λ (z : ℤ). c.add.new.self ++ spelling_of z s) (to_z-of_z y)))
    c.add_scaled-2.ensures
