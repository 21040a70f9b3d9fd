use Rattle.std.proofs.Common.{◌≡◌, ◌-◌, length, arith}
use Rattle.std.proofs.lemmas.Result.{on_ok_weaker}
use Rattle.itf_lines.specs.Pass.{open_line_view}
use Rattle.itf_lines.proofs.Gathering.{last_filled}
use Rattle.itf_lines.proofs.partial.PartialLine.add_other.Goals as goal

pub returns : goal.returns
returns c =
    let h = open_line_view c.args.self.now in
    let fields = c.push.new.self.items in
    let last = c.len-last.result - 1 in
    let i : last ≡ length fields - 1 = omega arith in
    on_ok_weaker c.set.result
    (λ e. rw e (last_filled h fields c.empty.result c.args.field.now last
    c.in_ok-push.ensures.items i)) c.set.ensures.set
