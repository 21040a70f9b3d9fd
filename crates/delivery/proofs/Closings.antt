-- What a text comes to whose lines were all taken.
use Rattle.std.proofs.Common.{◌≡◌, ◌≤◌, ◌<◌, ℕ, false, List, [], ◌∷◌, ◌++◌, length, Option, Some}
use Rattle.std.proofs.Common.{None, Err, refl, ap, sym, ◌∙◌, subst, arith}
use Rattle.std.proofs.lemmas.List.{append-nil}
use Rattle.std.specs.List.{All, AllZip}
use Rattle.itf_lines.specs.LogicalLines.{LogicalLine, LogicalLines, logical}
use Rattle.itf_lines.specs.FeedStates.{FeedState, opening}
use Rattle.itf_lines.specs.Feeds.{lines_from_state, with_lines, Ends}
use Rattle.itf_lines.specs.declared.logical.LineEnd.{LineEnd}
use Rattle.itf_reader.specs.ClosedRows.{by_table, closed_rows}
use Rattle.itf_reader.specs.Findings.{Finding, in_order}
use Rattle.itf_reader.specs.Forms.{Row}
use Rattle.itf_reader.specs.Layouts.{form_of}
use Rattle.itf_reader.specs.Machine.{start}
use Rattle.itf_reader.specs.Readings.{Structure, IsRead, IsRefused}
use Rattle.itf_reader.specs.Reads as reads
use Rattle.itf_reader.specs.Reads.{answer, fault_at, read_from, end_of, read, refused, FindsFault}
use Rattle.itf_reader.specs.Refusals.{fault_of}
use Rattle.itf_reader.specs.declared.refusal.ReadRefusal.{ReadRefusal}
use Rattle.itf_reader.specs.declared.refusal.ReadRefusal.TheVariants as refusals
use Rattle.itf_reader.specs.RowFeeds.{Standing, standing, after_lines, shown_rows}
use Rattle.itf_reader.specs.RowForms.{EachRow, IsCounted}
use Rattle.itf_reader.specs.TransferText.{TransferText}
use Rattle.table_layout.specs.Layouts.{Table, Layout}
use Rattle.table_layout.specs.Valid.{IsValid}
use Rattle.ili_grammar.specs.Syntax.{Codes}
use Rattle.domain_rules.specs.ValueFindings.{table_findings, tables_findings, value_findings}
use Rattle.ident_refs.specs.FedRows.{fed_keys}
use Rattle.ident_refs.specs.KeyFindings.{key_findings}
use Rattle.plane.specs.Rule.Plans.{Plan}
use Rattle.area_drawings.specs.AreaLimits.{has_too_large}
use Rattle.area_drawings.specs.Drawings.{AreDrawings}
use Rattle.delivery.specs.Judging.{lines_of, findings, IsClean}
use Rattle.area_drawings.specs.KeptDrawings.{has_kept_large, CanBeDrawn, IsDrawnFrom}
use Rattle.area_drawings.specs.KeptRows.{Kept}
use Rattle.area_drawings.specs.KeptViews.{kept_in}
use Rattle.delivery.specs.KeptRows.{tables_found, all_found, transfer_so_far}
use Rattle.delivery.specs.KeptViews.{HasTaken, found_in}
use Rattle.delivery.specs.Pieces.{Keeps, HasText, AreKept, IsKept}
use Rattle.delivery.specs.declared.judging.lines.Judge.{Judge}
use Rattle.delivery.specs.declared.judging.rows.TransferKept.{TransferKept}
use Rattle.delivery.proofs.KeptPlaces.{all_large, all_can_be_drawn, all_drawings}
use Rattle.delivery.proofs.PieceSteps.{after-append, shown-append}

-- ---- the lines of a text
abbrev lines_to : List LogicalLine → LineEnd → LogicalLines
lines_to lines end = record { lines = lines; fault = end.fault; total = end.total }

module _ (K : Type 0) (Has : Keeps K) (l : Layout) (text : List ℕ) (j : Judge K)
    (h : HasText Has l text j) (last : List LogicalLine) (end : LineEnd)
    (ends : Ends j.lines last end) (law : lines_from_state (opening l.codes.continued) text
    ≡ logical l.codes.continued text) where
  abbrev all : List LogicalLine
  all = h.takes.lines ++ last

  pub found : lines_of l text ≡ lines_to all end
  found =
      sym law
      ∙ (ap (λ (s : FeedState). lines_from_state s text) (sym h.opened.lines)
      ∙ (ap (lines_from_state h.start.lines) (sym (append-nil text))
      ∙ (h.takes.reads [] ∙ ap (with_lines h.takes.lines) ends)))

  pub few_total : (lines_of l text).total ≤ length text → end.total < 4294967295
  few_total k =
      let t = ap (λ (f : LogicalLines). f.total) found in let n = h.few in omega (arith, k, t, n)

  module _ (at : Standing) (k : K) (a : at ≡ after_lines (form_of l) j.rows.feed.at last)
      (t : (came : List (ℕ × Row)) → Has l came j.rows.kept
      → Has l (came ++ shown_rows (form_of l) j.rows.feed.at last) k) where
    abbrev rows : List (ℕ × Row)
    rows = shown_rows (form_of l) (standing start) all

    at_front : j.rows.feed.at ≡ after_lines (form_of l) (standing start) h.takes.lines
    at_front = h.takes.at
        ∙ ap (λ (s : Standing). after_lines (form_of l) s h.takes.lines) h.opened.at

    at_end : at ≡ after_lines (form_of l) (standing start) all
    at_end = a ∙ (ap (λ (s : Standing). after_lines (form_of l) s last) at_front
        ∙ sym (after-append (form_of l) (standing start) h.takes.lines last))

    rows_end : Has l rows k
    rows_end = subst (λ (rs : List (ℕ × Row)). Has l rs k)
        (ap (λ (s : Standing). shown_rows (form_of l) s h.takes.lines
        ++ shown_rows (form_of l) j.rows.feed.at last) h.opened.at
        ∙ (ap (λ (s : Standing). shown_rows (form_of l) (standing start) h.takes.lines
        ++ shown_rows (form_of l) s last) at_front
        ∙ sym (shown-append (form_of l) (standing start) h.takes.lines last)))
        (t ([] ++ shown_rows (form_of l) h.start.rows.feed.at h.takes.lines)
        (h.takes.taken [] h.opened.none))

    answered : (o : Option (ℕ × Structure)) → fault_at at end ≡ o
        → read_from (form_of l) reads.opening (lines_of l text).lines (end_of (lines_of l text))
        ≡ answer (form_of l) rows o
    answered o e =
        ap (λ (f : LogicalLines). read_from (form_of l) reads.opening f.lines (end_of f)) found
        ∙ ap (answer (form_of l) rows) (ap (λ (s : Standing). fault_at s end) (sym at_end) ∙ e)

    pub refused_at : ((n : ℕ) (code : Structure)
        → read_from (form_of l) reads.opening (lines_of l text).lines (end_of (lines_of l text))
        ≡ refused n code → IsRefused (form_of l) (lines_of l text) n code)
        → (n : ℕ) (code : Structure) → fault_at at end ≡ Some (n, code)
        → IsRefused (form_of l) (lines_of l text) n code
    refused_at r n code e = r n code (answered (Some (n, code)) e)

    pub are_kept : ((transfer : List (List Row))
        → read_from (form_of l) reads.opening (lines_of l text).lines (end_of (lines_of l text))
        ≡ read transfer → IsRead (form_of l) (lines_of l text) transfer)
        → ((lines : List LogicalLine) → shown_rows (form_of l) (standing start) lines
        ≡ closed_rows (form_of l) lines) → fault_at at end ≡ None → AreKept Has l text k
    are_kept r s e = record {
      rows = rows;
      taken = rows_end;
      has_rows = r (by_table (form_of l) rows) (answered None e);
      closed = s all ∙ ap (λ (f : LogicalLines). closed_rows (form_of l) f.lines) (sym found);
    }

-- what the code answers to a text that is at fault
pub kept_err : (K : Type 0) (Has : Keeps K) (l : Layout) (text : List ℕ)
    (fault : Option (ℕ × Structure)) (e : ReadRefusal)
    → FindsFault fault (Err e)
    → ((n : ℕ) (code : Structure) → fault ≡ Some (n, code)
    → IsRefused (form_of l) (lines_of l text) n code)
    → IsKept Has l text (Err e)
kept_err K Has l text fault (refusals.At line code) h r = r line (fault_of code) h
kept_err K Has l text fault refusals.Memory h r = tt

-- ---- findings
found_tables : (codes : Codes) (ts : List Table) (transfer : List (List Row))
    → all_found (tables_found codes ts transfer) ≡ tables_findings codes ts transfer
found_tables codes [] transfer = refl
found_tables codes (t ∷ ts) [] = refl
found_tables codes (t ∷ ts) (rows ∷ transfer) =
    ap (λ (fs : List Finding). table_findings codes t rows ++ fs) (found_tables codes ts transfer)

module _ (l : Layout) (text : List ℕ) (k : TransferKept) (h : AreKept HasTaken l text k) where
  abbrev transfer : List (List Row)
  transfer = transfer_so_far l h.rows

  pub all_lines : ((l : Layout) (lines : List LogicalLine) (transfer : List (List Row))
      → TransferText (form_of l) lines transfer
      → key_findings l transfer ≡ in_order (fed_keys l (closed_rows (form_of l) lines)))
      → in_order (in_order (all_found (found_in k.tables.items)) ++ in_order (fed_keys l h.rows))
      ≡ findings l transfer
  all_lines law =
      ap (λ (fs : List Finding). in_order (in_order fs ++ in_order (fed_keys l h.rows)))
      (ap all_found h.taken.found ∙ found_tables l.codes l.tables transfer)
      ∙ ap (λ (fs : List Finding). in_order (value_findings l transfer ++ fs))
      (ap (λ (rs : List (ℕ × Row)). in_order (fed_keys l rs)) h.closed
      ∙ sym (law l (lines_of l text).lines transfer h.has_rows.1))

  -- rows without findings
  module _ (v : IsValid l) (c : IsClean l transfer)
      (n : EachRow IsCounted (form_of l).tables transfer) where
    pub large_are : has_kept_large (kept_in k.places.items) transfer l.areas
        ≡ has_too_large transfer l.areas
    large_are =
        ap (λ (ks : List Kept). has_kept_large ks transfer l.areas) h.taken.kept
        ∙ all_large l transfer v c n

    pub are_drawable : has_too_large transfer l.areas ≡ false
        → All (CanBeDrawn l (kept_in k.places.items)) l.areas
    are_drawable s =
        subst (λ (ks : List Kept). All (CanBeDrawn l ks) l.areas) (sym h.taken.kept)
        (all_can_be_drawn l transfer v c n s)

    pub drawn_are : (ds : List Plan) → AllZip (IsDrawnFrom l (kept_in k.places.items)) l.areas ds
        → AreDrawings l transfer ds
    drawn_are ds z =
        all_drawings l transfer v c n ds
        (subst (λ (ks : List Kept). AllZip (IsDrawnFrom l ks) l.areas ds) h.taken.kept z)
