use Rattle.std.proofs.Common.{◌≤◌, ◌<◌, ◌++◌, ◌∙◌, List, ℕ, [], ap, subst, take, get_or, length}
use Rattle.std.proofs.lemmas.List.{get_or_default}
use Rattle.file_pages.specs.Held.{spliced, times}
use Rattle.file_pages.specs.declared.blocks.Repeat.{Repeat}
use Rattle.file_pages.proofs.HeldSteps.{place_put, none_put}
use Rattle.file_pages.proofs.Steps.{wrote_nothing, wrote_then, wrote_as}
use Rattle.file_pages.proofs.blocks.put_block.Goals as goal

pub loop-repeat-init : goal.loop-repeat-init
loop-repeat-init g c = (
  [],
  wrote_nothing,
  ap (spliced c.block.inside.line.items c.block.inside.repeats.items)
      c.deref-left.ensures.value ∙ c.block.view_is,
)

pub loop-repeat-preserved : goal.loop-repeat-preserved
loop-repeat-preserved g c =
    let w = c.loop-repeat.invariant in
    let block = c.block.inside in
    let left = c.loop-repeat.left.now in
    let all = c.deref-repeat-items.result.now in
    let e = c.deref-repeat-items.ensures.value in
    let i = c.loop-repeat.repeat-index in
    let none : Repeat = record { after = 0; count = 0 } in
    let r = get_or all i none in
    let lines = ap (λ (line : List ℕ). take r.after left ++ times r.count line)
    c.deref.ensures.value in (
      w.0 ++ (take r.after left ++ times r.count block.line.items),
      wrote_then w.1 (wrote_as lines c.put_up_to-left.ensures.wrote),
      place_put block.line.items w.0 left c.put_up_to-left.result.now c.args.block.now
          block.repeats.items i r
          (subst (λ (xs : List Repeat). i < length xs) e c.loop-repeat-test.true)
          (get_or_default all i none r c.loop-repeat-test.true
          ∙ ap (λ (xs : List Repeat). get_or xs i r) e)
          c.put_up_to-left.ensures.rest w.2,
    )

pub returns : goal.returns
returns g c =
    let w = c.loop-repeat.invariant in
    let block = c.block.inside in
    let i = c.loop-repeat.repeat-index in
    let all = subst (λ (xs : List Repeat). length xs ≤ i) c.deref-repeat-items.ensures.value
    c.loop-repeat-test.false in
    wrote_as (none_put block.line.items w.0 c.loop-repeat.left.now c.args.block.now
    block.repeats.items i all w.2) (wrote_then w.1 c.put.ensures)
