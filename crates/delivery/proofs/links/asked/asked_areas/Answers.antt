use Rattle.std.proofs.Common.{◌≡◌, ℕ, List, [], ◌∷◌, ◌++◌, length, ap, arith, sym, subst}
use Rattle.std.proofs.lemmas.List.{length-append, length-map}
use Rattle.area_links.specs.Views.{rules_view}
use Rattle.table_layout.specs.Values.{area_view, layout_view}
use Rattle.delivery.specs.AskedLinks.{IsAsked}
use Rattle.delivery.specs.KeptRows.{transfer_so_far}
use Rattle.delivery.specs.declared.links.asked.AskedArea.{AskedArea}
use Rattle.delivery.proofs.AskedRules.{AreAskedBelow, area_more}
use Rattle.delivery.proofs.NamedAreas.{areas_few}
use Rattle.delivery.proofs.links.asked.asked_areas.Goals as goal

pub overflow_cast-number : goal.overflow_cast-number
overflow_cast-number c =
    let few = areas_few (layout_view c.args.layout.now) c.requires.valid in
    let n = length-map c.args.layout.now.areas.items area_view in
    let m = c.len-number-end.ensures in
    let lt = c.loop-number-test.true in
    omega (arith, few, n, m, lt)

pub loop-number-preserved : goal.loop-number-preserved
loop-number-preserved c =
    let l = layout_view c.args.layout.now in
    let rules = rules_view c.args.rules.now in
    let before = c.loop-number.asked.items in
    let x = c.in_ok-asked_area.field-0 in
    let count = c.loop-number.invariant.count in
    record {
      count =
          (let e : length c.push.new.self.items ≡ length (before ++ x ∷ []) =
          ap length c.in_ok-push.ensures.items in
          let m = length-append before (x ∷ []) in
          omega (arith, e, m, count));
      each = λ rows k.
          subst (AreAskedBelow l (transfer_so_far l rows) rules)
          (sym {A = List AskedArea} c.in_ok-push.ensures.items)
          (area_more l (transfer_so_far l rows) rules before x
          (c.loop-number.invariant.each rows k)
          (subst (λ (m : ℕ). IsAsked l (transfer_so_far l rows) rules m x) (sym count)
          (c.in_ok-asked_area.ensures rows k)));
    }

pub returns : goal.returns
returns c rows k =
    record {
      count =
          (let n = length-map c.args.layout.now.areas.items area_view in
          let m = c.len-number-end.ensures in
          let end = c.loop-number.auto.number-end in
          let past = c.loop-number-test.false in
          let count = c.loop-number.invariant.count in
          omega (arith, n, m, end, past, count));
      each = c.loop-number.invariant.each rows k;
    }
