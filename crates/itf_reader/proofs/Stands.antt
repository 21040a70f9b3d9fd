-- The machine stops exactly at the first line after which no text can follow.
use Rattle.std.proofs.Common.{◌≡◌, List, [], ◌∷◌, ◌++◌, Result, Ok, Err, refl, ap, sym, subst, ◌∙◌}
use Rattle.std.proofs.Common.{arith}
use Rattle.std.proofs.lemmas.List.{append-nil}
use Rattle.itf_lines.specs.declared.word.LineWord.TheVariants.{Scnt, Slashes, Mtid, Modl, Lipt}
use Rattle.itf_lines.specs.declared.word.LineWord.TheVariants.{Elin, Etab, Etop, Emod, Ende}
use Rattle.itf_lines.specs.LogicalLines.{LogicalLine}
use Rattle.itf_reader.specs.Forms.{Form, Straight, Vertex, vertex, TopicRows}
use Rattle.itf_reader.specs.TransferText.{line, no_vertex, no_stroke, no_object, no_table, no_topic}
use Rattle.itf_reader.specs.TransferText.{no_free, IsText, text, Begins, IsFaultAt}
use Rattle.itf_reader.specs.Machine.{InTopic, InTable, InRow, State, start, free, title, model}
use Rattle.itf_reader.specs.Machine.{topics, tables, objects, strokes, vertices, arc, last, done}
use Rattle.itf_reader.specs.Machine.{with_stroke, closed_row, Code, step, then_run, run}
use Rattle.itf_reader.proofs.Completes.{and_strokes, and_tables, and_rows, Completes, at_done}
use Rattle.itf_reader.proofs.Completes.{at_last, at_topics, at_tables, at_objects, at_strokes}
use Rattle.itf_reader.proofs.Completes.{at_vertices, at_arc, at_model, at_title, at_free, at_start}
use Rattle.itf_reader.proofs.Drive.{text_drive}
use Rattle.itf_reader.proofs.Fresh.{same_itself}
use Rattle.itf_reader.proofs.Back.{back, same_state}

-- what completes the start is a text
pub completes_text : (f : Form) (ts : List TopicRows) (ls : List LogicalLine)
    → Completes f start ts ls → IsText f ts ls
completes_text f ts _
    (at_start _ n fs w
    (at_free _ m gs _ _ free_lines
    (at_title _ i hs _ (at_model _ j is u named (at_topics _ us _ k e ks js _ h q))))) =
    subst (λ (x : List TopicRows). IsText f x (line Scnt n fs ∷ w)) (sym q)
    (text n m i j k e fs gs hs is ks js us w u free_lines named h)

-- some lines and a text after them
abbrev pub Live : Form → State → Type 0
Live f s = (all : List TopicRows) × (w : List LogicalLine) × Completes f s all w

live_topics : (f : Form) (earlier : List TopicRows) → Live f (topics earlier)
live_topics f earlier =
    let end : List LogicalLine = line Emod 0 [] ∷ line Ende 0 [] ∷ [] in (
      earlier,
      end,
      at_topics earlier [] earlier 0 0 [] [] end (no_topic earlier end)
          (sym (append-nil earlier)),
    )

live_tables : (f : Form) (t : InTopic) → Live f (tables t)
live_tables f t =
    let l = live_topics f (and_tables t []) in (
      l.0,
      line Etop 0 [] ∷ l.1,
      at_tables t [] l.0 0 [] (line Etop 0 [] ∷ l.1) l.1
          (no_table t.tables (line Etop 0 [] ∷ l.1)) l.2,
    )

live_objects : (f : Form) (t : InTable) → Live f (objects t)
live_objects f t =
    let l = live_tables f (and_rows t []) in (
      l.0,
      line Etab 0 [] ∷ l.1,
      at_objects t [] l.0 0 [] (line Etab 0 [] ∷ l.1) l.1
          (no_object (line Etab 0 [] ∷ l.1)) l.2,
    )

live_strokes : (f : Form) (r : InRow) → Live f (strokes r)
live_strokes f r =
    let l = live_objects f (closed_row (and_strokes r [])) in
    (l.0, l.1, at_strokes r [] l.0 l.1 l.1 (no_stroke l.1) (omega arith) l.2)

live_vertices : (f : Form) (r : InRow) (acc : List Vertex) → Live f (vertices r acc)
live_vertices f r acc =
    let l = live_strokes f (with_stroke r (acc ++ [])) in (
      l.0,
      line Elin 0 [] ∷ l.1,
      at_vertices r [] acc l.0 0 [] (line Elin 0 [] ∷ l.1) l.1
          (no_vertex (line Elin 0 [] ∷ l.1)) l.2,
    )

live_arc : (f : Form) (r : InRow) (acc : List Vertex) → Live f (arc r acc)
live_arc f r acc =
    let l = live_strokes f (with_stroke r (acc ++ (vertex Straight 0 [] ∷ []))) in (
      l.0,
      line Lipt 0 [] ∷ line Elin 0 [] ∷ l.1,
      at_arc r acc [] l.0 0 0 [] [] (line Elin 0 [] ∷ l.1) l.1
          (no_vertex (line Elin 0 [] ∷ l.1)) l.2,
    )

live_model : (f : Form) → Live f model
live_model f =
    let l = live_topics f [] in (
      l.0,
      line Modl 0 (f.model ∷ []) ∷ l.1,
      at_model l.0 0 (f.model ∷ []) l.1 (same_itself f.model) l.2,
    )

live_title : (f : Form) → Live f title
live_title f = let l = live_model f in (l.0, line Mtid 0 [] ∷ l.1, at_title l.0 0 [] l.1 l.2)

live_free : (f : Form) → Live f free
live_free f =
    let l = live_title f in (
      l.0,
      line Slashes 0 [] ∷ l.1,
      at_free l.0 0 [] (line Slashes 0 [] ∷ l.1) l.1
          (no_free (line Slashes 0 [] ∷ l.1)) l.2,
    )

-- each state leads to a text
pub live : (f : Form) (s : State) → Live f s
live f start = let l = live_free f in (l.0, line Scnt 0 [] ∷ l.1, at_start l.0 0 [] l.1 l.2)
live f free = live_free f
live f title = live_title f
live f model = live_model f
live f (topics earlier) = live_topics f earlier
live f (tables t) = live_tables f t
live f (objects t) = live_objects f t
live f (strokes r) = live_strokes f r
live f (vertices r acc) = live_vertices f r acc
live f (arc r acc) = live_arc f r acc
live f (last earlier) = (earlier, line Ende 0 [] ∷ [], at_last earlier 0 [])
live f (done earlier) = (earlier, [], at_done earlier)

-- where the machine takes some lines, they stand before what completes the state after them
run_on : (f : Form) (s t : State) (l : LogicalLine) (ls : List LogicalLine)
    (after_line : Result State Code)
    → step f s l ≡ after_line → then_run (λ u. run f u ls) after_line ≡ Ok t
    → ((u : State) → run f u ls ≡ Ok t → (all : List TopicRows) (w : List LogicalLine)
    → Completes f t all w → Completes f u all (ls ++ w))
    → (all : List TopicRows) (w : List LogicalLine) → Completes f t all w
    → Completes f s all (l ∷ (ls ++ w))
run_on f s t l ls (Ok u) e h rest all w q =
    back f s u l.word l.number l.fields all (ls ++ w) e (rest u h all w q)
run_on f s t l ls (Err c) e h rest all w q = absurd cc

pub run_back : (f : Form) (s t : State) (ls : List LogicalLine) → run f s ls ≡ Ok t
    → (all : List TopicRows) (w : List LogicalLine) → Completes f t all w
    → Completes f s all (ls ++ w)
run_back f s t [] h all w q = subst (λ (x : State). Completes f x all w) (sym (same_state s t h)) q
run_back f s t (l ∷ ls) h all w q =
    run_on f s t l ls (step f s l) refl h (λ u k. run_back f u t ls k) all w q

-- what the machine takes begins a text
pub taken_begins : (f : Form) (ls : List LogicalLine) (s : State) → run f start ls ≡ Ok s
    → Begins f ls
taken_begins f ls s h =
    let l = live f s in
    (l.1, l.0, completes_text f l.0 (ls ++ l.1) (run_back f start s ls h l.0 l.1 l.2))

-- and where it comes to the end, it is one
pub done_text : (f : Form) (ls : List LogicalLine) (ts : List TopicRows)
    → run f start ls ≡ Ok (done ts) → IsText f ts ls
done_text f ls ts h =
    let c = completes_text f ts (ls ++ []) (run_back f start (done ts) ls h ts [] (at_done ts)) in
    subst (λ (x : List LogicalLine). IsText f ts x) (append-nil ls) c

append_on : (f : Form) (a b : List LogicalLine) (r : Result State Code)
    → ((s : State) → run f s (a ++ b) ≡ then_run (λ t. run f t b) (run f s a))
    → then_run (λ t. run f t (a ++ b)) r ≡ then_run (λ t. run f t b) (then_run (λ t. run f t a) r)
append_on f a b (Ok s) h = h s
append_on f a b (Err c) h = refl

pub run_append : (f : Form) (s : State) (a b : List LogicalLine)
    → run f s (a ++ b) ≡ then_run (λ t. run f t b) (run f s a)
run_append f s [] b = refl
run_append f s (l ∷ a) b = append_on f a b (step f s l) (λ t. run_append f t a b)

-- what it refuses begins none
pub refused_begins : (f : Form) (ls : List LogicalLine) (c : Code) → run f start ls ≡ Err c
    → Begins f ls → ⊥
refused_begins f ls c h b =
    let e = sym (text_drive f b.1 (ls ++ b.0) b.2)
    ∙ (run_append f start ls b.0 ∙ ap (then_run (λ t. run f t b.0)) h) in
    absurd cc

-- so the line that it does not take is the first with which the lines begin none
pub refused_at : (f : Form) (front : List LogicalLine) (l : LogicalLine) (s : State) (c : Code)
    → run f start front ≡ Ok s → step f s l ≡ Err c → IsFaultAt f front l
refused_at f front l s c h k = (
  taken_begins f front s h,
  refused_begins f (front ++ (l ∷ [])) c
      (run_append f start front (l ∷ [])
      ∙ (ap (then_run (λ t. run f t (l ∷ []))) h ∙ ap (then_run (λ t. run f t [])) k)),
)

-- and there is no other
pub taken_on : (f : Form) (front : List LogicalLine) (l : LogicalLine) (s t : State)
    → run f start front ≡ Ok s → step f s l ≡ Ok t → Begins f (front ++ (l ∷ []))
taken_on f front l s t h k =
    taken_begins f (front ++ (l ∷ [])) t (run_append f start front (l ∷ [])
    ∙ (ap (then_run (λ t. run f t (l ∷ []))) h ∙ ap (then_run (λ t. run f t [])) k))
