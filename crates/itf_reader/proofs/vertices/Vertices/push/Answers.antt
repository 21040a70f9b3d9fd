use Rattle.std.proofs.Common.{◌≡◌, ◌∙◌, rules, length, sym}
use Rattle.itf_reader.proofs.VertexLists.{push_counted, pushed}
use Rattle.itf_reader.proofs.vertices.Vertices.push.Goals as goal

pub invariant_of-self-else-is_err : goal.invariant_of-self-else-is_err
invariant_of-self-else-is_err c =
    let n : c.in-Ok.count ≡ length c.args.fields.now.items = search rules in
    push_counted c.add-added.result c.self.inside.heads.items c.add-added.new.heads.items _
    c.self.inside.fields.items c.add-added.new.kept.items c.args.fields.now.items
    (sym c.if-is_err.false ∙ c.is_err.ensures.value) c.add-added.ensures.heads
    c.add-added.ensures.fields c.self.invariant n

pub returns-else-is_err : goal.returns-else-is_err
returns-else-is_err c =
    let n : c.in-Ok.count ≡ length c.args.fields.now.items = search rules in
    pushed c.add-added.result c.self.inside.heads.items c.add-added.new.heads.items _
    c.self.inside.fields.items c.add-added.new.kept.items c.args.fields.now.items
    c.args.self.now
    c.add-added.ensures.heads c.add-added.ensures.fields c.self.invariant n (sym c.self.view_is)
