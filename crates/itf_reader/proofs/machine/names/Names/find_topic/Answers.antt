use Rattle.std.proofs.Common.{rules, ◌≡◌, ◌∙◌, ap, sym, List, ℕ, [], ◌∷◌}
use Rattle.std.specs.List.{position_from}
use Rattle.ports.specs.SortedKeys.{is_key}
use Rattle.itf_reader.specs.Forms.{topic_named}
use Rattle.itf_reader.specs.TableKeys.{name_keys}
use Rattle.itf_reader.proofs.KeyLaws.{only, topic_first}
use Rattle.itf_reader.proofs.Numbers.{few_topic, many_topic}
use Rattle.itf_reader.proofs.machine.names.Names.find_topic.Goals as goal

pub returns-in_default : goal.returns-in_default
returns-in_default c =
    few_topic c.args.fields.now c.args.self.now.layout.now.topics.items c.in_default.len_below

pub returns-in-len1 : goal.returns-in-len1
returns-in-len1 c =
    let topics = c.args.self.now.layout.now.topics.items in
    let e : c.args.fields.now ≡ c.field-item.result
    ∷ [] = only c.args.fields.now c.field-item.result c.in-len1.len_at_least c.in-len1.len_below
    (search rules) in
    let place = c.first.ensures
    ∙ ap (λ (ns : List (List ℕ)). position_from (is_key c.bytes.result.now) 0 (name_keys ns))
    c.deref.ensures.value in
    place
    ∙ (topic_first 0 c.bytes.result.now topics
    ∙ (ap (λ (x : List ℕ). topic_named 0 (x ∷ []) topics) c.bytes.ensures
    ∙ ap (λ (fs : List (List ℕ)). topic_named 0 fs topics) (sym e)))

pub returns-in_default-2 : goal.returns-in_default-2
returns-in_default-2 c =
    many_topic c.args.fields.now c.args.self.now.layout.now.topics.items c.in_default.len_at_least
