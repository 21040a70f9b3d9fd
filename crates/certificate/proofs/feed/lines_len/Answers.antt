use Rattle.std.proofs.Common.{◌≡◌, ◌-◌, suc, get_or, arith, subst, sym, ℕ, take}
use Rattle.certificate.specs.Feeding.{EndsLine}
use Rattle.certificate.proofs.Pieces.{ends_at}
use Rattle.certificate.proofs.feed.lines_len.Goals as goal

pub returns-else-piece-length-ne10-clause-ends : goal.returns-else-piece-length-ne10-clause-ends
returns-else-piece-length-ne10-clause-ends c =
    let e : get_or c.args.piece.now (c.loop-length.length - 1) 0
    ≡ 10 = c.if-piece-length-ne10.false in
    let n : c.loop-length.length ≡ suc (c.loop-length.length - 1) = omega arith in
    subst (λ (k : ℕ). EndsLine (take k c.args.piece.now)) (sym n)
    (ends_at (c.loop-length.length - 1) c.args.piece.now (omega arith) e)
