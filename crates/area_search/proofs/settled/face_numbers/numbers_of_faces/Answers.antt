use Rattle.std.proofs.Common.{rules, ◌≡◌, ◌+◌, ◌<◌, arith, length, take, sym, ap, subst, ◌∙◌, List}
use Rattle.std.proofs.Common.{ℕ}
use Rattle.std.proofs.lemmas.List.{take_more}
use Rattle.area_search.specs.Settled.CaseSides.{beside_at, no_beside}
use Rattle.area_search.specs.Settled.FaceNumbers.{AreFaceNumbers, faces_met}
use Rattle.area_search.proofs.SettledLemmas.FaceNumberLists.{met_more}
use Rattle.area_search.proofs.settled.face_numbers.numbers_of_faces.Goals as goal

pub loop-curve-preserved : goal.loop-curve-preserved
loop-curve-preserved c =
    let i = c.loop-curve.invariant in
    let a = c.add_face.ensures in
    let b = c.add_face-in-loop-curve.ensures in
    let bs = c.args.besides.now in
    let k = c.loop-curve.curve in
    let l : k < length bs = search rules in
    let few_a = a.few in
    let few_b = b.few in
    let few_i = i.few in
    record {
      size = b.size ∙ (a.size ∙ i.size);
      few = omega (arith, few_a, few_b, few_i);
      numbers = subst
          (λ (met : List ℕ). AreFaceNumbers met c.add_face-in-loop-curve.new.numbers.of_face.items
          c.add_face-in-loop-curve.new.numbers.count)
          (sym (ap faces_met (take_more bs k no_beside l) ∙ met_more (take k bs) (beside_at bs k)))
          (b.numbers _ (a.numbers _ i.numbers));
    }
