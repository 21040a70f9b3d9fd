-- From the opening, the answer is the relation of the lines alone.
use Rattle.std.proofs.Common.{◌≡◌, ℕ, Bool, true, false, List, [], ◌++◌, Option, Some, None, Result}
use Rattle.std.proofs.Common.{Ok, Err, IfOk, IfErr, refl, ap, sym, subst, ◌∙◌}
use Rattle.std.specs.Bool.{⊤}
use Rattle.std.proofs.lemmas.List.{append-nil}
use Rattle.itf_lines.specs.declared.logical.LineEnd.{LineEnd}
use Rattle.itf_lines.specs.declared.logical.LineFault.{LineFault}
use Rattle.itf_lines.specs.declared.logical.LineFault.TheVariants.{OpenContinue, StrayCont}
use Rattle.itf_lines.specs.LogicalLines.{LogicalLine, LogicalLines}
use Rattle.itf_reader.specs.declared.transfer.Transfer.{Transfer}
use Rattle.itf_reader.specs.declared.refusal.ReadRefusal.{ReadRefusal}
use Rattle.itf_reader.specs.declared.refusal.ReadRefusal.TheVariants as refusals
use Rattle.itf_reader.specs.Forms.{Form, Row, TopicRows, rows_by_form}
use Rattle.itf_reader.specs.TransferText.{IsText}
use Rattle.itf_reader.specs.Machine.{State, start, done, has_ended, Code, run}
use Rattle.itf_reader.specs.Readings.{Structure, IsRead, IsRefused, at_line, at_open, at_stray}
use Rattle.itf_reader.specs.Readings.{at_end}
use Rattle.itf_reader.specs.Refusals.{Refuses}
use Rattle.itf_reader.specs.ClosedRows.{closed_rows, by_table}
use Rattle.itf_reader.specs.RowFeeds.{Standing, standing, stopped, after_lines, shown_rows}
use Rattle.itf_reader.specs.RowFeeds.{RowState}
use Rattle.itf_reader.specs.Views.{transfer_of}
use Rattle.itf_reader.specs.Reads.{Answer, read, refused, answer, fault_after, fault_at}
use Rattle.itf_reader.specs.Reads.{TransferState, opening, read_from, end_of, Gives, FindsFault}
use Rattle.itf_reader.proofs.ByTable.{rows_by_table}
use Rattle.itf_reader.proofs.Codes.{has_code}
use Rattle.itf_reader.proofs.Drive.{text_drive}
use Rattle.itf_reader.proofs.FeedLaws.{read_on, all_took}
use Rattle.itf_reader.proofs.Stands.{done_text, taken_begins, refused_at}
use Rattle.itf_reader.proofs.Thin.{thin_ended, StopsWith, Follows, follow, rows_shown}

abbrev pub Answered : Form → LogicalLines → Answer → Type 0
Answered f given (read transfer) = IsRead f given transfer
Answered f given (refused n code) = IsRefused f given n code

ended_done : (s : State) → has_ended s ≡ true → (ts : List TopicRows) × (s ≡ done ts)
ended_done (done ts) e = (ts, refl)
ended_done s e = absurd cc

abbrev ended_in : Result State Code → Bool
ended_in (Ok s) = has_ended s
ended_in (Err c) = false

not_both : true ≡ false → ⊥
not_both e = absurd cc

whole : (f : Form) (given : LogicalLines) (t : State) (rows : List (ℕ × Row))
    → run f start given.lines ≡ Ok t → rows ≡ closed_rows f given.lines → given.fault ≡ None
    → has_ended t ≡ true → IsRead f given (by_table f rows)
whole f given t rows h e q k =
    let d = ended_done t k in
    let text = done_text f given.lines d.0 (h ∙ ap (λ (s : State). Ok s) d.1) in (
      q,
      (
        d.0,
        text,
        ap (by_table f) e
            ∙ sym (rows_by_table f given.lines (rows_by_form f d.0) (d.0, text, refl)),
      ),
    )

ends : (f : Form) (given : LogicalLines) (t : State) (rows : List (ℕ × Row))
    → run f start given.lines ≡ Ok t → rows ≡ closed_rows f given.lines
    → (fault : Option LineFault) (ended : Bool) → given.fault ≡ fault → has_ended t ≡ ended
    → Answered f given (answer f rows (fault_after fault ended given.total))
ends f given t rows h e (Some (OpenContinue n)) ended q k =
    at_open n (taken_begins f given.lines t h) q
ends f given t rows h e (Some (StrayCont n)) ended q k =
    at_stray n (taken_begins f given.lines t h) q
ends f given t rows h e None true q k = whole f given t rows h e q k
ends f given t rows h e None false q k =
    at_end (taken_begins f given.lines t h)
    (λ (ts : List TopicRows) (text : IsText f ts given.lines). not_both
    (ap ended_in (sym (text_drive f ts given.lines text) ∙ h) ∙ k)) q

stops : (f : Form) (given : LogicalLines) (n : ℕ) (code : Structure)
    → StopsWith f start given.lines n code → IsRefused f given n code
stops f given n code k =
    subst (λ (m : ℕ). IsRefused f given m code) (sym k.is_number)
    (subst (λ (c : Structure). IsRefused f given k.l.number c) (sym k.is_code)
    (at_line k.front k.rest k.l k.kind k.whole
    (refused_at f k.front k.l k.behind k.kind k.after_line k.refused)
    (has_code f k.front k.l k.behind k.kind k.after_line k.refused)))

answered : (f : Form) (given : LogicalLines) (rows : List (ℕ × Row))
    → rows ≡ closed_rows f given.lines → (at : Standing) → Follows f start given.lines at
    → Answered f given (answer f rows (fault_at at (end_of given)))
answered f given rows e (stopped n code) k = stops f given n code k
answered f given rows e (standing u) k =
    ends f given k.0 rows k.1 e given.fault (has_ended u) refl (sym (thin_ended k.0)
    ∙ sym (ap has_ended k.2))

pub opens : (f : Form) (given : LogicalLines)
    → Answered f given (read_from f opening given.lines (end_of given))
opens f given =
    answered f given (shown_rows f (standing start) given.lines) (rows_shown f start given.lines)
    (after_lines f (standing start) given.lines) (follow f start given.lines)

pub opens_read : (f : Form) (given : LogicalLines) (transfer : List (List Row))
    → read_from f opening given.lines (end_of given) ≡ read transfer → IsRead f given transfer
opens_read f given transfer e = subst (Answered f given) e (opens f given)

pub opens_refused : (f : Form) (given : LogicalLines) (n : ℕ) (code : Structure)
    → read_from f opening given.lines (end_of given) ≡ refused n code → IsRefused f given n code
opens_refused f given n code e = subst (Answered f given) e (opens f given)

-- ---- what the code answers
pub gives_read : (f : Form) (given : LogicalLines) (a : Answer) (r : Result Transfer ReadRefusal)
    → Answered f given a → Gives a r → IfOk r (λ transfer. IsRead f given (transfer_of transfer))
gives_read f given a (Ok transfer) h g = subst (Answered f given) g h
gives_read f given a (Err e) h g = tt

pub gives_refused : (f : Form) (given : LogicalLines) (a : Answer) (r : Result Transfer ReadRefusal)
    → Answered f given a → Gives a r → IfErr r (λ refusal. Refuses f given refusal)
gives_refused f given a (Ok transfer) h g = tt
gives_refused f given a (Err (refusals.At n code)) h g = subst (Answered f given) g h
gives_refused f given a (Err refusals.Memory) h g = tt

-- a feed that took all lines
pub whole_feed : (f : Form) (given : LogicalLines) (feed : TransferState)
    → feed.rows ≡ opening.rows ++ shown_rows f opening.at given.lines
    → feed.at ≡ after_lines f opening.at given.lines
    → Answered f given (read_from f feed [] (end_of given))
whole_feed f given feed r a =
    subst (Answered f given)
    (ap (λ (ls : List LogicalLine). read_from f opening ls (end_of given))
    (sym (append-nil given.lines)) ∙ read_on f opening feed given.lines r a [] (end_of given))
    (opens f given)

-- ---- a feed that ends, over one that shows its rows
abbrev result_err : ReadRefusal → Result ⊤ ReadRefusal
result_err e = Err e

abbrev result_ok : ⊤ → Result ⊤ ReadRefusal
result_ok u = Ok u

finished : {P : Type 0} (b : Bool) → (b ≡ false → P) → (b ≡ true → P) → P
finished true f t = t refl
finished false f t = f refl

tells_gives : (f : Form) (rows : List (ℕ × Row)) (fault : Option (ℕ × Structure)) (e : ReadRefusal)
    → FindsFault fault (Err e) → Gives (answer f rows fault) (Err e)
tells_gives f rows fault (refusals.At n code) h = ap (answer f rows) h
tells_gives f rows fault refusals.Memory h = tt

memory_gives : (a : Answer) (e : ReadRefusal) → result_err e ≡ result_err refusals.Memory
    → Gives a (Err e)
memory_gives a (refusals.At n code) h = absurd cc
memory_gives a refusals.Memory h = tt

pub finish_err : (f : Form) (s : TransferState) (inner : RowState) (end : LineEnd) (e : ReadRefusal)
    → s.at ≡ inner.at → (inner.failed ≡ false → FindsFault (fault_at inner.at end) (Err e))
    → (inner.failed ≡ true → result_err e ≡ result_err refusals.Memory)
    → Gives (read_from f s [] end) (Err e)
finish_err f s inner end e a k m =
    finished inner.failed
    (λ sound. subst (λ (at : Standing). Gives (answer f (s.rows ++ []) (fault_at at end)) (Err e))
    (sym a) (tells_gives f (s.rows ++ []) (fault_at inner.at end) e (k sound)))
    (λ failed. memory_gives (read_from f s [] end) e (m failed))

not_memory : {P : Type 0} (u : ⊤) → result_ok u ≡ result_err refusals.Memory → P
not_memory u h = absurd cc

pub finish_ok : (f : Form) (s : TransferState) (inner : RowState) (end : LineEnd)
    (rows : List (ℕ × Row)) (transfer : List (List Row)) (u : ⊤)
    → s.at ≡ inner.at → s.rows ≡ rows
    → (inner.failed ≡ false → fault_at inner.at end ≡ None)
    → (inner.failed ≡ true → result_ok u ≡ result_err refusals.Memory)
    → transfer ≡ by_table f rows → read_from f s [] end ≡ read transfer
finish_ok f s inner end rows transfer u a r k m e =
    finished inner.failed
    (λ sound.
    ap (λ (fault : Option (ℕ × Structure)). answer f (s.rows ++ []) fault)
    (ap (λ (at : Standing). fault_at at end) a ∙ k sound)
    ∙ (ap (λ (x : List (ℕ × Row)). read (by_table f x)) (append-nil s.rows ∙ r) ∙ ap read (sym e)))
    (λ failed. not_memory u (m failed))

-- a feed of the code that began before the text and took all lines
pub whole_took : (f g : Form) (given : LogicalLines) (old new : TransferState)
    (ms : List LogicalLine)
    → g ≡ f → old ≡ opening → ms ≡ given.lines → new.at ≡ after_lines g old.at ms
    → new.rows ≡ old.rows ++ shown_rows g old.at ms
    → Answered f given (read_from f new [] (end_of given))
whole_took f g given old new ms e o k p q =
    let t = all_took f g opening new given.lines ms e k
    (subst (λ (s : TransferState). new.at ≡ after_lines g s.at ms) o p)
    (subst (λ (s : TransferState). new.rows ≡ s.rows ++ shown_rows g s.at ms) o q) in
    whole_feed f given new t.0 t.1
