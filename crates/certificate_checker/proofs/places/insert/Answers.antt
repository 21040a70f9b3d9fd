use Rattle.std.proofs.Common.{get_or, ◌≡◌, ◌+◌, ◌++◌, ℕ, take, drop, arith, ap, refl, ◌∙◌}
use Rattle.straight_predicates.specs.Chunks.{joined}
use Rattle.straight_predicates.proofs.Joined.{put_at}
use Rattle.certificate_checker.proofs.LiveBlocks.{read_again}
use Rattle.certificate_checker.proofs.places.insert.Goals as goal

pub returns-then-fits-clause-joined : goal.returns-then-fits-clause-joined
returns-then-fits-clause-joined c =
    let x = get_or c.args.blocks.now c.find-spot.result.block c.index-blocks-spot.result in
    let z : c.args.place + 0 ≡ c.args.place = omega arith in
    put_at c.args.blocks.now c.args.place c.find-spot.result.block c.find-spot.result.offset
    c.find-spot.ensures x c.args.with.now c.replace.new.self 0
    (read_again c.args.blocks.now c.find-spot.result.block c.index-blocks-spot.result
    c.find-spot.ensures.known)
    (let w = c.if-fits.ensures.within refl in let e = c.len.ensures.size in
    omega (arith, w, e)) c.replace.ensures
    ∙ ap (λ (n : ℕ). take c.args.place (joined c.args.blocks.now)
    ++ (c.args.with.now ++ drop n (joined c.args.blocks.now))) z
