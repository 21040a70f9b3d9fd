use Rattle.itf_reader.specs.Findings.{findings_of}
use Rattle.ident_refs.specs.declared.repeats.KeyColumn.{KeyColumn}
use Rattle.ident_refs.specs.KeptRows.{ids_of, lines_of, kept_findings}
use Rattle.ident_refs.specs.KeptViews.{kept_view, ids_view}
use Rattle.ident_refs.proofs.FeedSteps.{same_at}
use Rattle.ident_refs.proofs.FlatSteps.{flat_step}
use Rattle.ident_refs.proofs.asked.add_findings.Goals as goal

pub add_findings-requires-clause-lines : goal.add_findings-requires-clause-lines
add_findings-requires-clause-lines c =
    same_at (λ (k : KeyColumn). k.lines.now) kept_view lines_of c.args.ids.now c.args.tables.now
    c.loop-place.place c.index-ids-place.result c.index-tables-place.result
    c.loop-place-test.true c.index-ids-place.is c.index-tables-place.is c.requires.lines

pub add_findings-requires-clause-keys : goal.add_findings-requires-clause-keys
add_findings-requires-clause-keys c =
    same_at (λ (k : KeyColumn). k.keys.now) kept_view ids_of c.args.ids.now c.args.tables.now
    c.loop-place.place c.index-ids-place.result c.index-tables-place.result
    c.loop-place-test.true c.index-ids-place.is c.index-tables-place.is c.requires.keys

pub loop-place-preserved : goal.loop-place-preserved
loop-place-preserved c =
    flat_step kept_view (kept_findings (ids_view c.args.ids.now)) c.loop-place.place
    c.args.tables.now c.index-tables-place.result (findings_of c.loop-place.findings.items) _ _
    c.loop-place-test.true c.index-tables-place.is c.in_ok-add_findings.ensures
    c.loop-place.invariant
