use Rattle.std.proofs.Common.{rules, ◌≡◌, ◌∙◌, ap, sym, List, ℕ, [], ◌∷◌}
use Rattle.table_layout.specs.Values.{tables_view}
use Rattle.itf_reader.specs.Forms.{table_named}
use Rattle.itf_reader.specs.Names.{form_in}
use Rattle.itf_reader.specs.TableKeys.{lines_found}
use Rattle.itf_reader.proofs.KeyLaws.{only, entry_named}
use Rattle.itf_reader.proofs.Numbers.{few_table, many_table}
use Rattle.itf_reader.proofs.machine.names.Names.find_table.Goals as goal

pub returns-in_default : goal.returns-in_default
returns-in_default c =
    few_table c.args.topic c.args.fields.now (form_in c.args.self.now).tables c.in_default.len_below

pub returns-in_ok-key-in-len1 : goal.returns-in_ok-key-in-len1
returns-in_ok-key-in-len1 c =
    let tables = (form_in c.args.self.now).tables in
    let e : c.args.fields.now ≡ c.field-item.result
    ∷ [] = only c.args.fields.now c.field-item.result c.in-len1.len_at_least c.in-len1.len_below
    (search rules) in
    c.find_key.ensures
    ∙ (entry_named c.args.topic c.bytes.result.now c.bytes-in-len1.result.now
    (tables_view c.args.self.now.layout.now.tables.items) c.args.self.now.keys.items
    (search rules) c.args.self.now.small c.args.self.now.keys_given
    (c.bytes-in-len1.ensures ∙ c.in_ok-key-in-len1.ensures)
    ∙ (ap (λ (x : List ℕ). lines_found (table_named 0 c.args.topic (x ∷ []) tables)) c.bytes.ensures
    ∙ ap (λ (fs : List (List ℕ)). lines_found (table_named 0 c.args.topic fs tables)) (sym e)))

pub returns-in_default-2 : goal.returns-in_default-2
returns-in_default-2 c =
    many_table c.args.topic c.args.fields.now
    (form_in c.args.self.now).tables c.in_default.len_at_least
