use Rattle.std.proofs.Common.{ℕ, [], ◌∷◌, ◌++◌, Option, ◌∙◌, ap, sym, arith}
use Rattle.std.specs.Global.{Vec}
use Rattle.delivery.proofs.JoinedPairs.{no_number, numbers_next, rise_next, some_number}
use Rattle.delivery.proofs.link_pairs.numbered.Goals as goal
use Rattle.delivery.proofs.link_pairs.numbered.Goals.{then-is_some+in_ok-push}
use Rattle.delivery.proofs.link_pairs.numbered.Goals.{else-is_some+in_ok-push-2}

pub loop-line-preserved : goal.loop-line-preserved
loop-line-preserved c =
    let n = c.loop-line.count in
    let i = c.loop-line.line-index in
    let lines = c.args.lines.now in
    let old = c.loop-line.numbers.items in
    let o = c.point_in.result in
    let inv = c.loop-line.invariant in
    elim c.if-is_some.branch [
      | then-is_some+in_ok-push w ↦
          let s = some_number n o (sym c.is_some.ensures ∙ w.if-is_some.true) in
          record {
            numbers = numbers_next old c.if-is_some.numbers.items _ n c.if-is_some.count i lines
                c.loop-line.left.now c.points_after-left.result.now o c.loop-line-test.true
                inv.numbers c.point_in.ensures c.points_after-left.ensures
                (ap (λ (v : Vec (Option ℕ)). v.items) w.numbers-is ∙ w.in_ok-push.ensures.items
                ∙ sym (ap (λ (x : Option ℕ). old ++ x ∷ []) s.0))
                (w.count-is ∙ sym s.1);
            rise = rise_next n c.if-is_some.count i lines c.loop-line-test.true
                (let e = w.count-is in omega (arith, e)) inv.rise;
          }
      | else-is_some+in_ok-push-2 w ↦
          let s = no_number n o (sym c.is_some.ensures ∙ w.if-is_some.false) in
          record {
            numbers = numbers_next old c.if-is_some.numbers.items _ n c.if-is_some.count i lines
                c.loop-line.left.now c.points_after-left.result.now o c.loop-line-test.true
                inv.numbers c.point_in.ensures c.points_after-left.ensures
                (ap (λ (v : Vec (Option ℕ)). v.items) w.numbers-is ∙ w.in_ok-push-2.ensures.items
                ∙ sym (ap (λ (x : Option ℕ). old ++ x ∷ []) s.0))
                (w.count-is ∙ sym s.1);
            rise = rise_next n c.if-is_some.count i lines c.loop-line-test.true
                (let e = w.count-is in omega (arith, e)) inv.rise;
          }
    ]
