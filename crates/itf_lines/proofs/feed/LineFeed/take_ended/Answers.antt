use Rattle.std.proofs.Common.{◌≡◌, ◌++◌, ℕ, List, [], refl, sym, ap, ◌∙◌, arith, vec_len}
use Rattle.std.proofs.lemmas.Bool.{eqb-true}
use Rattle.std.proofs.lemmas.List.{nil_from_length}
use Rattle.bstr.specs.Text.{without_terminator}
use Rattle.itf_lines.specs.contracts.feed.LineFeed.{the_view}
use Rattle.itf_lines.specs.Pass.{state_view}
use Rattle.itf_lines.specs.FeedStates.{FeedState, has_no_lf}
use Rattle.itf_lines.specs.Views.{line_view}
use Rattle.itf_lines.proofs.FeedLaws.{reads_ended, reads_whole, same_front}
use Rattle.itf_lines.proofs.feed.LineFeed.take_ended.Goals as goal

pub returns-then-is_empty-clause-reads : goal.returns-then-is_empty-clause-reads
returns-then-is_empty-clause-reads c =
    let n : vec_len c.self.inside.begun ≡ 0 = eqb-true _ _ (sym c.if-is_empty.ensures) in
    let o = c.self.inside.begun.ok in
    let e : c.args.self.now.begun ≡ [] = ap (λ (s : FeedState). s.begun) (sym c.self.view_is)
    ∙ nil_from_length c.self.inside.begun.items (omega (arith, n, o)) in
    reads_whole c.args.self.now c.take_line.new.self c.args.bytes.now c.content.result.now
    c.take_line.result (line_view c.take_line.new.line) e c.requires.ended c.content.ensures
    c.take_line.ensures.begun c.take_line.ensures.lines

pub returns-clause-reads : goal.returns-clause-reads
returns-clause-reads c =
    let b = ap (λ (s : FeedState). s.begun) c.self.view_is in
    let v : c.replace-begun.result.items
    ≡ c.self.inside.begun.items = rw c.replace-begun.ensures.value refl in
    let x = c.in_ok-extend_from_slice.ensures.items
    ∙ ap (λ (l : List ℕ). l ++ c.args.bytes.now) (v ∙ b) in
    let t = c.content-2.ensures ∙ ap without_terminator (c.deref.ensures.value ∙ x) in
    reads_ended c.args.self.now (the_view c.self.inside) c.take_line-2.new.self
    (record {
      failed = c.self-2.inside.failed;
      code = c.self-2.inside.pass.code;
      ended = c.self-2.inside.ended;
      begun = c.clear.new.self.items;
      state = state_view c.self-2.inside.pass;
    })
    c.args.bytes.now c.content-2.result.now c.in_ok-whole.whole (line_view c.take_line-2.new.line)
    (ap has_no_lf (sym b) ∙ c.self.invariant.1) c.requires.ended t
    (same_front c.args.self.now (the_view c.self.inside) (sym c.self.view_is))
    c.in_ok-whole.ensures.lines
    (same_front c.take_line-2.new.self (the_view c.self-2.inside) (sym c.self-2.view_is))
    c.clear.ensures.items
