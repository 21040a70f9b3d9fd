-- How the text of a transfer is taken, one line and one piece more.
use Rattle.std.proofs.Common.{◌≡◌, ◌≤◌, ◌<◌, ◌+◌, ◌-◌, ℕ, Bool, false, List, [], ◌∷◌, ◌++◌, length}
use Rattle.std.proofs.Common.{take, drop, Option, Some, None, Result, Ok, Err, refl, ap, sym, ◌∙◌}
use Rattle.std.proofs.Common.{subst, arith}
use Rattle.std.specs.Borrow.{Bor}
use Rattle.std.specs.Prelude.{IfSome, IfNone, OnOk, IsErrOf, ◌≢◌}
use Rattle.std.proofs.lemmas.List.{append_assoc, append-nil, drop-drop, take_rest, length-drop}
use Rattle.itf_lines.specs.LogicalLines.{LogicalLine, LogicalLines}
use Rattle.itf_lines.specs.FeedStates.{FeedState}
use Rattle.itf_lines.specs.Feeds.{lines_from_state, with_lines, Reads}
use Rattle.itf_reader.specs.Forms.{Form, Row}
use Rattle.itf_reader.specs.Layouts.{form_of}
use Rattle.itf_reader.specs.RowFeeds.{Standing, next, after_lines, shows, shown_rows}
use Rattle.table_layout.specs.Layouts.{Layout}
use Rattle.delivery.specs.declared.judging.lines.Judge.{Judge}
use Rattle.delivery.specs.declared.judging.rows.RowJudge.{RowJudge}
use Rattle.table_layout.specs.Values.{layout_view}
use Rattle.table_layout.specs.declared.layouts.Layout.{Layout as CodeLayout}
use Rattle.ports.specs.Files.{Files}
use Rattle.commands.specs.Reading.{IsWhole, IsLonger}
use Rattle.commands.specs.declared.files.FileRefusal.{FileRefusal}
use Rattle.commands.specs.declared.files.FileRefusal.TheVariants.{Failed, TooLong, Memory}
use Rattle.delivery.specs.Pieces.{Keeps, Takes, HasJudged, CanJudge, HasText, IsOpened, IsKept}
use Rattle.delivery.specs.Pieces.{IsEndedAs, AreFileRows}
use Rattle.delivery.specs.declared.transfers.PieceJudge.{PieceJudge}
use Rattle.delivery.specs.declared.transfers.RowsReading.{RowsReading}
use Rattle.delivery.specs.declared.transfers.RowsReading.TheVariants as reading
use Rattle.itf_reader.specs.declared.refusal.ReadRefusal.{ReadRefusal}
use Rattle.itf_reader.specs.declared.refusal.ReadRefusal.TheVariants as refusals

-- ---- lines
with_lines_twice : (xs ys : List LogicalLine) (r : LogicalLines)
    → with_lines xs (with_lines ys r) ≡ with_lines (xs ++ ys) r
with_lines_twice xs ys r =
    ap (λ (ls : List LogicalLine). record { lines = ls; fault = r.fault; total = r.total })
    (sym (append_assoc xs ys r.lines))

reads_on : (a s t : FeedState) (bytes rest left : List ℕ) (xs ys : List LogicalLine)
    → Reads a bytes xs s rest → Reads s rest ys t left → Reads a bytes (xs ++ ys) t left
reads_on a s t bytes rest left xs ys h k z =
    h z ∙ (ap (with_lines xs) (k z) ∙ with_lines_twice xs ys (lines_from_state t (left ++ z)))

some_is : (o : Option ℕ) (n : ℕ) (P : ℕ → Type 0) → o ≡ Some n → IfSome o P → P n
some_is o n P e h = subst (λ (x : Option ℕ). IfSome x P) e h

none_is : (o : Option ℕ) (P : Type 0) → ((n : ℕ) → o ≡ Some n → ⊥) → IfNone o P → P
none_is None P k h = h
none_is (Some n) P k h = absurd (k n refl)

-- the rest of a piece, as the code has it
abbrev rest_of : List ℕ → ℕ → List ℕ
rest_of piece at = take (length piece - at) (drop at piece)

reads_more : (a s t : FeedState) (piece : List ℕ) (at n : ℕ) (ls : List LogicalLine)
    (line : LogicalLine)
    → Reads a piece ls s (drop at piece)
    → Reads s (rest_of piece at) (line ∷ []) t (drop n (rest_of piece at))
    → Reads a piece (ls ++ line ∷ []) t (drop (at + n) piece)
reads_more a s t piece at n ls line h k =
    reads_on a s t piece (drop at piece) (drop (at + n) piece) ls (line ∷ []) h (λ z.
    ap (λ (b : List ℕ). lines_from_state s (b ++ z)) (sym (take_rest piece at))
    ∙ (k z ∙ ap (λ (b : List ℕ). with_lines (line ∷ []) (lines_from_state t (b ++ z)))
    (ap (drop n) (take_rest piece at) ∙ drop-drop n at piece)))

reads_last : (a s t : FeedState) (piece : List ℕ) (at : ℕ) (ls : List LogicalLine)
    → Reads a piece ls s (drop at piece) → Reads s (rest_of piece at) [] t []
    → Reads a piece ls t []
reads_last a s t piece at ls h k z =
    h z ∙ (ap (λ (b : List ℕ). with_lines ls (lines_from_state s (b ++ z)))
    (sym (take_rest piece at)) ∙ ap (with_lines ls) (k z))

-- ---- rows
pub after-append : (f : Form) (at : Standing) (xs ys : List LogicalLine)
    → after_lines f at (xs ++ ys) ≡ after_lines f (after_lines f at xs) ys
after-append f at [] ys = refl
after-append f at (x ∷ xs) ys = after-append f (next f at x) xs ys

pub shown-append : (f : Form) (at : Standing) (xs ys : List LogicalLine)
    → shown_rows f at (xs ++ ys) ≡ shown_rows f at xs ++ shown_rows f (after_lines f at xs) ys
shown-append f at [] ys = refl
shown-append f at (x ∷ xs) ys =
    ap (λ (l : List (ℕ × Row)). shows at x.word ++ l) (shown-append f (next f at x) xs ys)
    ∙ sym (append_assoc (shows at x.word) (shown_rows f (next f at x) xs)
    (shown_rows f (after_lines f (next f at x) xs) ys))

module _ (K : Type 0) (Has : Keeps K) (l : Layout) where
  abbrev Follows : Standing → K → Bool → List LogicalLine → Standing → K → Bool → Type 0
  Follows at kept failed lines at_now kept_now failed_now =
      (at_now ≡ after_lines (form_of l) at lines) × (failed ≡ false → failed_now ≡ false)
      × ((rows : List (ℕ × Row)) → Has l rows kept
      → Has l (rows ++ shown_rows (form_of l) at lines) kept_now)

  follows_on : (a : Standing) (k : K) (f : Bool) (xs ys : List LogicalLine) (b : Standing) (m : K)
      (g : Bool) (c : Standing) (n : K) (h : Bool)
      → Follows a k f xs b m g → Follows b m g ys c n h → Follows a k f (xs ++ ys) c n h
  follows_on a k f xs ys b m g c n h p q = (
    q.0 ∙ ap (λ (s : Standing). after_lines (form_of l) s ys) p.0
        ∙ sym (after-append (form_of l) a xs ys),
    λ e. q.1 (p.1 e),
    λ rows t. subst (λ (rs : List (ℕ × Row)). Has l rs n)
        (append_assoc rows (shown_rows (form_of l) a xs) (shown_rows (form_of l) b ys)
        ∙ ap (λ (rs : List (ℕ × Row)). rows ++ rs)
        (ap (λ (s : Standing). shown_rows (form_of l) a xs ++ shown_rows (form_of l) s ys) p.0
        ∙ sym (shown-append (form_of l) a xs ys)))
        (q.2 (rows ++ shown_rows (form_of l) a xs) (p.2 rows t)),
  )

  -- one line more
  pub one_more : (old now new : Judge K) (piece : List ℕ) (at n : ℕ) (o : Option ℕ)
      (line : LogicalLine)
      → Takes Has l old piece now (drop at piece) → o ≡ Some n
      → IfSome o (λ m. Reads now.lines (rest_of piece at) (line ∷ []) new.lines
      (drop m (rest_of piece at)))
      → new.rows.feed.at ≡ next (form_of l) now.rows.feed.at line → new.rows.feed.failed ≡ false
      → ((rows : List (ℕ × Row)) → Has l rows now.rows.kept
      → Has l (rows ++ shows now.rows.feed.at line.word) new.rows.kept)
      → Takes Has l old piece new (drop (at + n) piece)
  one_more old now new piece at n o line t e k a s r =
      let nil : (rows : List (ℕ × Row))
      → shows now.rows.feed.at line.word ++ [] ≡ shows now.rows.feed.at line.word =
      λ rows. append-nil (shows now.rows.feed.at line.word) in
      let f = follows_on old.rows.feed.at old.rows.kept old.rows.feed.failed t.lines
      (line ∷ []) now.rows.feed.at now.rows.kept now.rows.feed.failed new.rows.feed.at
      new.rows.kept new.rows.feed.failed
      (t.at, t.sound, t.taken) (
        a,
        λ z. s,
        λ rows h. subst (λ (rs : List (ℕ × Row)). Has l (rows ++ rs) new.rows.kept)
            (sym (nil rows)) (r rows h),
      ) in
      record {
        lines = t.lines ++ line ∷ [];
        reads = reads_more old.lines now.lines new.lines piece at n t.lines line t.reads
            (some_is o n
            (λ m. Reads now.lines (rest_of piece at) (line ∷ []) new.lines
            (drop m (rest_of piece at))) e k);
        at = f.0;
        sound = f.1;
        taken = f.2;
      }

  -- and no line more
  pub no_more : (old now new : Judge K) (piece : List ℕ) (at : ℕ) (o : Option ℕ)
      → Takes Has l old piece now (drop at piece) → ((n : ℕ) → o ≡ Some n → ⊥)
      → IfNone o (Reads now.lines (rest_of piece at) [] new.lines []) → new.rows ≡ now.rows
      → Takes Has l old piece new []
  no_more old now new piece at o t k n e = record {
    lines = t.lines;
    reads = reads_last old.lines now.lines new.lines piece at t.lines t.reads
        (none_is o (Reads now.lines (rest_of piece at) [] new.lines []) k n);
    at = ap (λ (r : RowJudge K). r.feed.at) e ∙ t.at;
    sound = λ z. ap (λ (r : RowJudge K). r.feed.failed) e ∙ t.sound z;
    taken = λ rows h. subst
        (λ (r : RowJudge K). Has l (rows ++ shown_rows (form_of l) old.rows.feed.at t.lines) r.kept)
        (sym e) (t.taken rows h);
  }

  -- one piece more
  pub takes_on : (a s t : Judge K) (front piece : List ℕ) → Takes Has l a front s []
      → Takes Has l s piece t [] → Takes Has l a (front ++ piece) t []
  takes_on a s t front piece p q =
      let f = follows_on a.rows.feed.at a.rows.kept a.rows.feed.failed p.lines q.lines
      s.rows.feed.at s.rows.kept s.rows.feed.failed t.rows.feed.at t.rows.kept
      t.rows.feed.failed (p.at, p.sound, p.taken) (q.at, q.sound, q.taken) in
      record {
        lines = p.lines ++ q.lines;
        reads = λ z.
            ap (lines_from_state a.lines) (append_assoc front piece z)
            ∙ (p.reads (piece ++ z)
            ∙ (ap (with_lines p.lines) (q.reads z)
            ∙ with_lines_twice p.lines q.lines (lines_from_state t.lines z)));
        at = f.0;
        sound = f.1;
        taken = f.2;
      }

  -- nothing yet
  pub nothing_taken : (j : Judge K) → Takes Has l j [] j []
  nothing_taken j = record {
    lines = [];
    reads = λ z. refl;
    at = refl;
    sound = λ e. e;
    taken = λ rows h. subst (λ (rs : List (ℕ × Row)). Has l rs j.rows.kept)
        (sym (append-nil rows)) h;
  }

  -- the whole piece is left
  pub piece_left : (j : Judge K) (piece : List ℕ) → Takes Has l j piece j piece
  piece_left j piece = record {
    lines = [];
    reads = λ z. refl;
    at = refl;
    sound = λ e. e;
    taken = λ rows h. subst (λ (rs : List (ℕ × Row)). Has l rs j.rows.kept)
        (sym (append-nil rows)) h;
  }

pub further_on : (piece : List ℕ) (at n was from to : ℕ) (o : Option ℕ) → o ≡ Some n
    → IfSome o (λ m. (0 < m) × (m ≤ length (rest_of piece at)) × (to ≤ from + m))
    → at ≤ length piece → from ≤ was + at
    → (at + n ≤ length piece) × (to ≤ was + (at + n)) × (0 < n)
further_on piece at n was from to o i h w f =
    let k = some_is o n (λ m. (0 < m) × (m ≤ length (rest_of piece at)) × (to ≤ from + m)) i h in
    let l = ap length (take_rest piece at) ∙ length-drop at piece in
    let a = k.0 in
    let b = k.1 in
    let d = k.2 in
    (omega (arith, b, l, w), omega (arith, d, f), a)

pub few_more : (was from to at : ℕ) (piece : List ℕ) (o : Option ℕ) → ((n : ℕ) → o ≡ Some n → ⊥)
    → IfNone o (to ≤ from + length (rest_of piece at)) → at ≤ length piece → from ≤ was + at
    → to ≤ was + length piece
few_more was from to at piece o k h w f =
    let l = ap length (take_rest piece at) ∙ length-drop at piece in
    let b = none_is o (to ≤ from + length (rest_of piece at)) k h in
    omega (arith, b, l, w, f)

-- the text of a whole file is within its limit
is_few : (held : Option Files) (name text : List ℕ) (limit : ℕ) → IsWhole held name limit text
    → length text ≤ limit
is_few None name text limit h = h
is_few (Some files) name text limit h = h.1

-- ---- a judge that takes a file as it comes
pub judges_fewer : (K : Type 0) (j : PieceJudge K) (n more : ℕ) → CanJudge j (n + more)
    → CanJudge j n
judges_fewer K j n more h = record { named = h.named; few = (let f = h.few in omega (arith, f)) }

module _ (K : Type 0) (Has : Keeps K) where
  pub nothing_judged : (j : PieceJudge K) → HasJudged Has j [] j
  nothing_judged j = record {
    layout = refl;
    names = refl;
    takes = nothing_taken K Has (layout_view j.layout.now) j.judge;
  }

  -- one piece more
  pub piece_judged : {A E : Type 0} (r : Result A E) (old new : PieceJudge K) (piece : List ℕ)
      → new.layout ≡ old.layout → new.names ≡ old.names
      → OnOk r (Takes Has (layout_view old.layout.now) old.judge piece new.judge [])
      → OnOk r ((start : PieceJudge K) (front : List ℕ) → HasJudged Has start front old
      → HasJudged Has start (front ++ piece) new)
  piece_judged (Ok x) old new piece e f t = λ start front h. record {
    layout = e ∙ h.layout;
    names = f ∙ h.names;
    takes = takes_on K Has (layout_view start.layout.now) start.judge old.judge new.judge front
        piece h.takes
        (subst (λ (b : Bor CodeLayout). Takes Has (layout_view b.now) old.judge piece new.judge [])
        h.layout t);
  }
  piece_judged (Err x) old new piece e f t = t

  -- the text of a whole file was taken
  pub whole_text : (held : Option Files) (name text : List ℕ) (limit : ℕ) (l : Layout)
      (start judge : Judge K)
      → limit ≡ 268435456 → IsWhole held name limit text → IsOpened Has l start
      → Takes Has l start text judge []
      → IsWhole held name 268435456 text × HasText Has l text judge
  whole_text held name text limit l start judge e w o t =
      let h = subst (λ (n : ℕ). IsWhole held name n text) e w in
      (h, record { start = start; opened = o; takes = t; few = is_few held name text 268435456 h })

  -- a file that was not read
  pub unread_rows : (T : Type 0) (held : Option Files) (name : List ℕ) (limit : ℕ) (l : Layout)
      (rose : Type 0) (r : FileRefusal) (x : RowsReading K) → limit ≡ 268435456
      → (IsErrOf {T = T} (Err r) Failed → rose)
      → (IsErrOf {T = T} (Err r) TooLong → IsLonger held name limit)
      → (x ≡ reading.Unread r) × (r ≢ Memory) → AreFileRows Has held name l rose x
  unread_rows T held name limit l rose Failed x e a b h =
      subst (λ (y : RowsReading K). AreFileRows Has held name l rose y) (sym h.0) (a refl)
  unread_rows T held name limit l rose TooLong x e a b h =
      subst (λ (y : RowsReading K). AreFileRows Has held name l rose y) (sym h.0)
      (subst (λ (n : ℕ). IsLonger held name n) e (b refl))
  unread_rows T held name limit l rose Memory x e a b h = absurd (h.1 refl)

  -- what is kept of a file that was read, or the line at fault
  pub ended_rows : (held : Option Files) (name text : List ℕ) (l : Layout) (rose : Type 0)
      (r : Result K ReadRefusal) (x : RowsReading K)
      → IsWhole held name 268435456 text → IsKept Has l text r → IsEndedAs r x
      → AreFileRows Has held name l rose x
  ended_rows held name text l rose (Ok k) x w h e =
      subst (λ (y : RowsReading K). AreFileRows Has held name l rose y) (sym e) (text, w, h)
  ended_rows held name text l rose (Err (refusals.At line code)) x w h e =
      subst (λ (y : RowsReading K). AreFileRows Has held name l rose y) (sym e) (text, w, h)
  ended_rows held name text l rose (Err refusals.Memory) x w h e = absurd e
