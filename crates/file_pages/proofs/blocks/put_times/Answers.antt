use Rattle.std.proofs.Common.{◌≡◌, ℕ, ap, sym, arith}
use Rattle.file_pages.specs.Held.{times}
use Rattle.file_pages.proofs.HeldSteps.{times_more}
use Rattle.file_pages.proofs.Steps.{wrote_nothing, wrote_then, wrote_as}
use Rattle.file_pages.proofs.blocks.put_times.Goals as goal

pub loop-init : goal.loop-init
loop-init g c = wrote_nothing

pub loop-preserved : goal.loop-preserved
loop-preserved g c =
    wrote_as (sym (times_more c.loop.counter c.args.line.now))
    (wrote_then c.loop.invariant c.put.ensures)

pub returns : goal.returns
returns g c =
    let most = c.loop-test.false in
    let least = c.loop.auto.counter-end in
    let end : c.loop.counter ≡ c.args.count = omega (arith, most, least) in
    wrote_as (ap (λ (n : ℕ). times n c.args.line.now) end) c.loop.invariant
