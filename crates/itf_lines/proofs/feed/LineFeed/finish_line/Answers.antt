use Rattle.std.proofs.Common.{◌≡◌, ◌+◌, [], length, subst, refl, sym, ap, ◌∙◌, arith, vec_len, ℕ}
use Rattle.std.proofs.Common.{List}
use Rattle.std.proofs.lemmas.Bool.{eqb-true}
use Rattle.std.proofs.lemmas.List.{nil_from_length}
use Rattle.itf_lines.specs.contracts.feed.LineFeed.{the_view}
use Rattle.itf_lines.specs.Pass.{state_view, step}
use Rattle.itf_lines.specs.Views.{line_view}
use Rattle.itf_lines.specs.Feeds.{Takes}
use Rattle.itf_lines.specs.FeedStates.{FeedState, has_no_lf}
use Rattle.itf_lines.proofs.FeedLaws.{ends_plain, ends_open, same_front, some_bytes}
use Rattle.itf_lines.proofs.feed.LineFeed.finish_line.Goals as goal

pub returns-then-is_empty-clause-ends : goal.returns-then-is_empty-clause-ends
returns-then-is_empty-clause-ends c =
    let n : vec_len c.self.inside.begun ≡ 0 = eqb-true _ _ (sym c.if-is_empty.ensures) in
    let o = c.self.inside.begun.ok in
    let e : c.args.self.begun ≡ [] = ap (λ (s : FeedState). s.begun) (sym c.self.view_is)
    ∙ nil_from_length c.self.inside.begun.items (omega (arith, n, o)) in
    ends_plain c.args.self (the_view c.self.inside) c.fault.result
    (same_front c.args.self (the_view c.self.inside) (sym c.self.view_is)) e c.fault.ensures

pub returns-clause-ends : goal.returns-clause-ends
returns-clause-ends c =
    let b = ap (λ (s : FeedState). s.begun) (sym c.self.view_is) in
    let n = some_bytes (vec_len c.self.inside.begun) (sym c.if-is_empty.ensures) in
    let o = c.self.inside.begun.ok in
    let l = ap length b in
    ends_open c.args.self (the_view c.self.inside) c.in_ok-whole.whole (line_view c.take.new.line)
    (state_view c.take.new.self) c.fault-2.result (c.self.inside.ended + 1)
    (same_front c.args.self (the_view c.self.inside) (sym c.self.view_is)) (ap has_no_lf b
    ∙ c.self.invariant.1) (omega (arith, n, o, l))
    (subst (λ (text : List ℕ). Takes
    (step c.self.inside.pass.code (c.self.inside.ended + 1) text
    (state_view c.self.inside.pass)) c.in_ok-whole.whole (line_view c.take.new.line)
    (state_view c.take.new.self)) (c.deref.ensures.value ∙ sym b) c.in_ok-whole.ensures.next)
    c.fault-2.ensures refl
