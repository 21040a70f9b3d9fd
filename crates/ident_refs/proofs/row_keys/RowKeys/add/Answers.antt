use Rattle.std.proofs.Common.{rules}
use Rattle.ident_refs.proofs.RowSpans.{row_spanned}
use Rattle.ident_refs.proofs.row_keys.RowKeys.add.Goals as goal

pub returns : goal.returns
returns c =
    row_spanned c.args.self.now.keys.items c.append.new.self.items c.args.keys.now.items
    c.args.self.now.rows.items c.push.new.self.items _
    c.in_ok-append.ensures.items c.in_ok-push.ensures.items c.args.self.now.spans (search rules)
    (search rules)
