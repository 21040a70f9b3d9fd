use Rattle.std.proofs.Common.{◌≡◌, ◌∙◌, ◌++◌, ◌∷◌, [], List, ℕ, ap, sym, subst, length, map}
use Rattle.std.specs.Prelude.{codes}
use Rattle.itf_lines.specs.declared.word.LineWord.TheVariants.{Mtid, Modl, Emod, Ende}
use Rattle.itf_reader.specs.ClosedRows.{by_table}
use Rattle.itf_reader.specs.Layouts.{form_of, wanted_of}
use Rattle.itf_reader.specs.TransferText.{line}
use Rattle.table_layout.specs.ByTopic.{AreByTopic}
use Rattle.table_layout.specs.Values.{layout_view, tables_view}
use Rattle.table_layout.specs.declared.layouts.Table.{Table}
use Rattle.itf_writer.specs.Canonical.{line_text, topics_lines}
use Rattle.itf_writer.specs.Feeds.{held_in}
use Rattle.itf_writer.specs.Runs.{lines_text}
use Rattle.itf_writer.proofs.FeedSteps.{as_many, table_count, parts_of}
use Rattle.itf_writer.proofs.Flat.{text_is}
use Rattle.itf_writer.proofs.feed.CanonFeed.finish.Goals as goal

pub add_tables-requires-clause-by_topic : goal.add_tables-requires-clause-by_topic
add_tables-requires-clause-by_topic c =
    subst (λ (ts : List Table). AreByTopic 0 (length c.deref.result.now) (tables_view ts))
    (sym c.deref-2.ensures.value)
    (subst (λ (ns : List (List ℕ)). AreByTopic 0 (length ns)
    (tables_view c.args.layout.now.tables.items))
    (sym c.deref.ensures.value) c.requires.valid.by_topic)

pub add_tables-requires-clause-all : goal.add_tables-requires-clause-all
add_tables-requires-clause-all c =
    let l = layout_view c.args.layout.now in
    let fed = c.requires.fed in
    ap length c.deref_mut.ensures.value
    ∙ (as_many l.codes.continued c.args.self.tables.items (by_table (form_of l) fed.0) fed.1
    ∙ (table_count 0 c.args.layout.now.tables.items fed.0
    ∙ ap length (sym c.deref-2.ensures.value)))

pub returns : goal.returns
returns c rows h =
    let l = layout_view c.args.layout.now in
    let code = c.args.layout.now.codes.continued in
    let topics = c.args.layout.now.topics.items in
    let tables = c.args.layout.now.tables.items in
    let transfer = by_table (form_of l) rows in
    let head = codes "SCNT\n////\n" in
    let a = line Mtid 0 [] in
    let b = line Modl 0 (c.args.layout.now.model ∷ []) in
    let e = line Emod 0 [] in
    let f = line Ende 0 [] in
    let ts = topics_lines 0 topics (map wanted_of (tables_view tables)) transfer in
    let all : topics_lines 0 c.deref.result.now
    (map wanted_of (tables_view c.deref-2.result.now)) transfer ≡ ts =
    ap (λ (ns : List (List ℕ)). topics_lines 0 ns
    (map wanted_of (tables_view c.deref-2.result.now)) transfer) c.deref.ensures.value
    ∙ ap (λ (xs : List Table). topics_lines 0 topics (map wanted_of (tables_view xs)) transfer)
    c.deref-2.ensures.value in
    let put = c.in_ok-add_tables.ensures transfer (ap held_in c.deref_mut.ensures.value ∙ h)
    ∙ ap (λ ls. c.add_head.new.text ++ lines_text code ls) all in
    parts_of c.in_ok-text.text c.add_head.new.text c.add_tables.new.text c.add_foot.new.text head
    (line_text code a) (line_text code b) (lines_text code ts) (line_text code e)
    (line_text code f)
    c.in_ok-text.ensures c.in_ok-add_head.ensures put c.in_ok-add_foot.ensures
    ∙ text_is code head a b ts e f
