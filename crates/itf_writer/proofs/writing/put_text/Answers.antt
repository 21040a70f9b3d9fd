use Rattle.std.proofs.Common.{◌≡◌, ◌∙◌, ◌∷◌, [], List, ℕ, ap, sym, subst, length, map}
use Rattle.std.specs.Prelude.{codes}
use Rattle.itf_lines.specs.declared.word.LineWord.TheVariants.{Mtid, Modl, Emod, Ende}
use Rattle.itf_reader.specs.Layouts.{wanted_of}
use Rattle.itf_reader.specs.TransferText.{line}
use Rattle.itf_reader.specs.Views.{tables_rows_of}
use Rattle.itf_reader.specs.declared.transfer.TableRows.{TableRows}
use Rattle.table_layout.specs.ByTopic.{AreByTopic}
use Rattle.table_layout.specs.Values.{tables_view}
use Rattle.table_layout.specs.declared.layouts.Table.{Table}
use Rattle.file_pages.proofs.Steps.{wrote_as, wrote_then}
use Rattle.itf_writer.specs.Canonical.{line_text, topics_lines}
use Rattle.itf_writer.specs.Runs.{lines_text}
use Rattle.itf_writer.proofs.Flat.{text_is}
use Rattle.itf_writer.proofs.writing.put_text.Goals as goal

pub put_tables-requires : goal.put_tables-requires
put_tables-requires g c =
    subst (λ (ts : List Table). AreByTopic 0 (length c.deref.result.now) (tables_view ts))
    (sym c.deref-2.ensures.value)
    (subst (λ (ns : List (List ℕ)). AreByTopic 0 (length ns)
    (tables_view c.args.layout.now.tables.items))
    (sym c.deref.ensures.value) c.requires.by_topic)

pub returns : goal.returns
returns g c =
    let code = c.args.layout.now.codes.continued in
    let topics = c.args.layout.now.topics.items in
    let tables = c.args.layout.now.tables.items in
    let transfer = c.args.transfer.now.tables.items in
    let all : topics_lines 0 c.deref.result.now (map wanted_of (tables_view c.deref-2.result.now))
    (tables_rows_of c.deref-3.result.now)
    ≡ topics_lines 0 topics (map wanted_of (tables_view tables)) (tables_rows_of transfer) =
    ap (λ (ns : List (List ℕ)). topics_lines 0 ns (map wanted_of (tables_view c.deref-2.result.now))
    (tables_rows_of c.deref-3.result.now)) c.deref.ensures.value
    ∙ (ap (λ (ts : List Table). topics_lines 0 topics (map wanted_of (tables_view ts))
    (tables_rows_of c.deref-3.result.now)) c.deref-2.ensures.value
    ∙ ap (λ (rs : List TableRows). topics_lines 0 topics (map wanted_of (tables_view tables))
    (tables_rows_of rs)) c.deref-3.ensures.value) in
    let named = wrote_as
    (ap (λ (n : List ℕ). line_text code (line Modl 0 (n ∷ []))) c.bytes.ensures)
    c.put_named.ensures in
    let put = wrote_as (ap (lines_text code) all) c.put_tables.ensures in
    wrote_as (text_is code (codes "SCNT\n////\n") (line Mtid 0 [])
    (line Modl 0 (c.args.layout.now.model ∷ []))
    (topics_lines 0 topics (map wanted_of (tables_view tables)) (tables_rows_of transfer))
    (line Emod 0 []) (line Ende 0 []))
    (wrote_then (wrote_then
    (wrote_then (wrote_then (wrote_then c.put.ensures c.put_line.ensures) named) put)
    c.put_line-2.ensures) c.put_line-3.ensures)
