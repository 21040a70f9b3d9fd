-- Lines that are taken in pieces.
use Rattle.std.proofs.Common.{◌≡◌, ◌<◌, ◌+◌, ℕ, List, [], ◌∷◌, ◌++◌, length, take, get_or, Option}
use Rattle.std.proofs.Common.{Result, Ok, Err, OnOk, refl, ap, sym, ◌∙◌}
use Rattle.std.proofs.lemmas.List.{append_assoc, append-nil, take_more, map-append}
use Rattle.itf_lines.specs.declared.word.LineWord.{LineWord}
use Rattle.itf_lines.specs.declared.word.LineWord.TheVariants.{Obje, Etab}
use Rattle.itf_lines.specs.declared.logical.Line.{Line}
use Rattle.itf_lines.specs.declared.logical.LineEnd.{LineEnd}
use Rattle.itf_lines.specs.LogicalLines.{LogicalLine}
use Rattle.itf_lines.specs.Views.{line_view, lines_view}
use Rattle.itf_reader.specs.Forms.{Form, Row}
use Rattle.itf_reader.specs.Machine.{strokes}
use Rattle.itf_reader.specs.RowFeeds.{Standing, standing, stopped, next, after_lines, shows}
use Rattle.itf_reader.specs.RowFeeds.{shown_rows, number_shown, Shows, shown_row}
use Rattle.itf_reader.specs.Reads.{TransferState, read_from, fault_at, answer}

pub after-append : (f : Form) (at : Standing) (xs ys : List LogicalLine)
    → after_lines f at (xs ++ ys) ≡ after_lines f (after_lines f at xs) ys
after-append f at [] ys = refl
after-append f at (x ∷ xs) ys = after-append f (next f at x) xs ys

pub shown_row-append : (f : Form) (at : Standing) (xs ys : List LogicalLine)
    → shown_rows f at (xs ++ ys) ≡ shown_rows f at xs ++ shown_rows f (after_lines f at xs) ys
shown_row-append f at [] ys = refl
shown_row-append f at (x ∷ xs) ys =
    ap (λ (l : List (ℕ × Row)). shows at x.word ++ l) (shown_row-append f (next f at x) xs ys)
    ∙ sym (append_assoc (shows at x.word) (shown_rows f (next f at x) xs)
    (shown_rows f (after_lines f (next f at x) xs) ys))

-- where a feed took some lines, the answer is that from there on
pub read_on : (f : Form) (old new : TransferState) (lines : List LogicalLine)
    → new.rows ≡ old.rows ++ shown_rows f old.at lines → new.at ≡ after_lines f old.at lines
    → (more : List LogicalLine) (end : LineEnd)
    → read_from f old (lines ++ more) end ≡ read_from f new more end
read_on f old new lines r a more end =
    let rows : old.rows ++ shown_rows f old.at (lines ++ more)
    ≡ new.rows ++ shown_rows f new.at more =
    ap (λ (l : List (ℕ × Row)). old.rows ++ l) (shown_row-append f old.at lines more)
    ∙ (sym (append_assoc old.rows (shown_rows f old.at lines)
    (shown_rows f (after_lines f old.at lines) more))
    ∙ (ap (λ (l : List (ℕ × Row)). l ++ shown_rows f (after_lines f old.at lines) more) (sym r)
    ∙ ap (λ (s : Standing). new.rows ++ shown_rows f s more) (sym a))) in
    let at : after_lines f old.at (lines ++ more)
    ≡ after_lines f new.at more = after-append f old.at lines more
    ∙ ap (λ (s : Standing). after_lines f s more) (sym a) in
    ap (λ (l : List (ℕ × Row)). answer f l (fault_at (after_lines f old.at (lines ++ more)) end))
    rows
    ∙ ap (λ (s : Standing). answer f (new.rows ++ shown_rows f new.at more) (fault_at s end)) at

one_line : (ls : List Line) (i : ℕ) (l : Line) → i < length ls → l ≡ get_or ls i l
    → lines_view (take (i + 1) ls) ≡ lines_view (take i ls) ++ (line_view l ∷ [])
one_line ls i l h e =
    ap lines_view (take_more ls i l h)
    ∙ (map-append line_view (take i ls) (get_or ls i l ∷ [])
    ∙ ap (λ (x : Line). lines_view (take i ls) ++ (line_view x ∷ [])) (sym e))

-- a feed goes on by a line
pub at_more : (f : Form) (old now new : Standing) (ls : List Line) (i : ℕ) (l : Line)
    → i < length ls → l ≡ get_or ls i l → now ≡ after_lines f old (lines_view (take i ls))
    → new ≡ next f now (line_view l)
    → new ≡ after_lines f old (lines_view (take (i + 1) ls))
at_more f old now new ls i l h e k q =
    q ∙ (ap (λ (s : Standing). next f s (line_view l)) k
    ∙ sym (ap (after_lines f old) (one_line ls i l h e)
    ∙ after-append f old (lines_view (take i ls)) (line_view l ∷ [])))

pub rows_more : (f : Form) (old now : Standing) (before rows new : List (ℕ × Row)) (ls : List Line)
    (i : ℕ) (l : Line)
    → i < length ls → l ≡ get_or ls i l → now ≡ after_lines f old (lines_view (take i ls))
    → rows ≡ before ++ shown_rows f old (lines_view (take i ls)) → new ≡ rows ++ shows now l.word
    → new ≡ before ++ shown_rows f old (lines_view (take (i + 1) ls))
rows_more f old now before rows new ls i l h e k r q =
    let front = lines_view (take i ls) in
    let own = ap (λ (s : Standing). shows s l.word) k
    ∙ sym (append-nil (shows (after_lines f old front) l.word)) in
    q ∙ (ap (λ (x : List (ℕ × Row)). x ++ shows now l.word) r
    ∙ (append_assoc before (shown_rows f old front) (shows now l.word)
    ∙ ap (λ (x : List (ℕ × Row)). before ++ x)
    (ap (λ (x : List (ℕ × Row)). shown_rows f old front ++ x) own
    ∙ sym (ap (shown_rows f old) (one_line ls i l h e)
    ∙ shown_row-append f old front (line_view l ∷ [])))))

-- the row that a line shows, by the number of its table
pub one_shown : (at : Standing) (w : LineWord) (row : Row) (table : Option ℕ)
    → table ≡ number_shown (shows at w) → Shows (shows at w) row → shown_row table row ≡ shows at w
one_shown at w row table e h = ap (λ (o : Option ℕ). shown_row o row) e ∙ by_word at w row h
  where
    by_word : (at : Standing) (w : LineWord) (row : Row) → Shows (shows at w) row
        → shown_row (number_shown (shows at w)) row ≡ shows at w
    by_word (standing (strokes r)) Obje row h = ap (λ (x : Row). (r.inside.number, x) ∷ []) h
    by_word (standing (strokes r)) Etab row h = ap (λ (x : Row). (r.inside.number, x) ∷ []) h
    by_word (standing s) w row h = refl
    by_word (stopped n code) w row h = refl

pub both : {A E P Q R : Type 0} (r : Result A E) → (P → Q → R) → OnOk r P → OnOk r Q → OnOk r R
both (Ok a) f p q = f p q
both (Err e) f p q = tt

at_took : (f g : Form) (at front : Standing) (ls ms : List LogicalLine) → g ≡ f → front ≡ at
    → ms ≡ ls → after_lines g front ms ≡ after_lines f at ls
at_took f g at front ls ms e a k = ap (λ (h : Form). after_lines h front ms) e
    ∙ (ap (λ (s : Standing). after_lines f s ms) a ∙ ap (after_lines f at) k)

shown_took : (f g : Form) (at front : Standing) (ls ms : List LogicalLine) → g ≡ f → front ≡ at
    → ms ≡ ls → shown_rows g front ms ≡ shown_rows f at ls
shown_took f g at front ls ms e a k =
    ap (λ (h : Form). shown_rows h front ms) e
    ∙ (ap (λ (s : Standing). shown_rows f s ms) a ∙ ap (shown_rows f at) k)

-- the same of a feed of the code, by the names of a layout
pub took : (f g : Form) (old new : TransferState) (rows : List (ℕ × Row)) (front : Standing)
    (ls ms : List LogicalLine)
    → g ≡ f → rows ≡ old.rows → front ≡ old.at → ms ≡ ls
    → new.at ≡ after_lines g front ms → new.rows ≡ rows ++ shown_rows g front ms
    → (more : List LogicalLine) (end : LineEnd)
    → read_from f old (ls ++ more) end ≡ read_from f new more end
took f g old new rows front ls ms e r a k p q =
    read_on f old new ls (q
    ∙ (ap (λ (x : List (ℕ × Row)). x ++ shown_rows g front ms) r
    ∙ ap (λ (x : List (ℕ × Row)). old.rows ++ x) (shown_took f g old.at front ls ms e a k)))
    (p ∙ at_took f g old.at front ls ms e a k)

pub all_took : (f g : Form) (old new : TransferState) (ls ms : List LogicalLine) → g ≡ f → ms ≡ ls
    → new.at ≡ after_lines g old.at ms → new.rows ≡ old.rows ++ shown_rows g old.at ms
    → (new.rows ≡ old.rows ++ shown_rows f old.at ls) × (new.at ≡ after_lines f old.at ls)
all_took f g old new ls ms e k p q = (
  q ∙ ap (λ (x : List (ℕ × Row)). old.rows ++ x) (shown_took f g old.at old.at ls ms e refl k),
  p
      ∙ at_took f g old.at old.at ls ms e refl k,
)

-- a feed of the code that took lines by the names of a layout took them by the layout
pub at_by : {A E : Type 0} (r : Result A E) (f g : Form) (new at front : Standing)
    (ls : List LogicalLine)
    → g ≡ f → front ≡ at → OnOk r (new ≡ after_lines g front ls)
    → OnOk r (new ≡ after_lines f at ls)
at_by (Ok a) f g new at front ls e k p = p ∙ at_took f g at front ls ls e k refl
at_by (Err x) f g new at front ls e k p = tt

pub rows_by : {A E : Type 0} (r : Result A E) (f g : Form) (new before rows : List (ℕ × Row))
    (at front : Standing) (ls : List LogicalLine)
    → g ≡ f → front ≡ at → rows ≡ before
    → OnOk r (new ≡ rows ++ shown_rows g front ls) → OnOk r (new ≡ before ++ shown_rows f at ls)
rows_by (Ok a) f g new before rows at front ls e k h p =
    p ∙ (ap (λ (x : List (ℕ × Row)). x ++ shown_rows g front ls) h
    ∙ ap (λ (x : List (ℕ × Row)). before ++ x) (shown_took f g at front ls ls e k refl))
rows_by (Err x) f g new before rows at front ls e k h p = tt
