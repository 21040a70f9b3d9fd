-- How a text is read in pieces.
use Rattle.std.proofs.Common.{◌≡◌, ◌≤◌, ◌<◌, ◌+◌, ℕ, suc, Bool, true, false, List, [], ◌∷◌, ◌++◌}
use Rattle.std.proofs.Common.{◌-◌, length, take, drop, refl, ap, sym, ◌∙◌, arith, Option, Some}
use Rattle.std.proofs.Common.{None, IfSome, IfNone, Result, Ok, Err, IfOk, subst, zero, ◌==◌}
use Rattle.std.proofs.lemmas.List.{append_assoc, append-nil, take-append-drop, drop-drop, take_rest}
use Rattle.std.proofs.lemmas.List.{length-drop}
use Rattle.itf_lines.specs.Fields.{physical_lines}
use Rattle.itf_lines.specs.LogicalLines.{LogicalLine, LogicalLines, logical}
use Rattle.itf_lines.specs.PassStates.{PassState, in_the_head}
use Rattle.itf_lines.specs.Pass.{step, pass, fault_at}
use Rattle.bstr.specs.Text.{without_terminator}
use Rattle.itf_lines.specs.declared.logical.LineFault.{LineFault}
use Rattle.itf_lines.specs.FeedStates.{FeedState, has_no_lf, opening}
use Rattle.itf_lines.specs.Feeds.{lines_from_pass, lines_from_state, with_lines, line_if, Takes}
use Rattle.itf_lines.specs.Feeds.{TakesLine, Reads, Adds, AddsFront, AddsEnd, IsEnded}
use Rattle.itf_lines.specs.declared.logical.LineEnd.{LineEnd}
use Rattle.itf_lines.proofs.LineCuts.{cut_begun, open_physical, nothing_physical}
use Rattle.itf_lines.proofs.PassLaws.{whole_pass}

-- a physical line is one step
pub one_step : (code ended : ℕ) (state : PassState) (text : List ℕ) (whole : Bool)
    (line : LogicalLine) (next : PassState) (count : ℕ)
    → Takes (step code count text state) whole line next → count ≡ ended + 1
    → (lines : List (List ℕ)) → lines_from_pass code ended state (text ∷ lines)
    ≡ with_lines (line_if whole line) (lines_from_pass code count next lines)
one_step code ended state text whole line next count h e lines =
    let t : ended + suc (length lines) ≡ (ended + 1) + length lines = omega arith in
    rw (e, h.0, h.1, e, t) refl

with_lines_twice : (xs ys : List LogicalLine) (r : LogicalLines)
    → with_lines xs (with_lines ys r) ≡ with_lines (xs ++ ys) r
with_lines_twice xs ys r =
    ap (λ (ls : List LogicalLine). record { lines = ls; fault = r.fault; total = r.total })
    (sym (append_assoc xs ys r.lines))

-- one reading after another
pub reads_on : (a s t : FeedState) (bytes rest left : List ℕ) (xs ys : List LogicalLine)
    → Reads a bytes xs s rest → Reads s rest ys t left → Reads a bytes (xs ++ ys) t left
reads_on a s t bytes rest left xs ys h k z =
    h z ∙ (ap (with_lines xs) (k z) ∙ with_lines_twice xs ys (lines_from_state t (left ++ z)))

-- what is left after the bytes stays
pub reads_more : (s t : FeedState) (bytes left : List ℕ) (ys : List LogicalLine)
    → Reads s bytes ys t [] → Reads s (bytes ++ left) ys t left
reads_more s t bytes left ys h z = ap (lines_from_state s) (append_assoc bytes left z)
    ∙ h (left ++ z)

-- two states are the same after as many lines
abbrev pub SameFront : FeedState → FeedState → Type 0
SameFront a b = (a.code ≡ b.code) × (a.ended ≡ b.ended) × (a.state ≡ b.state)

pub same_front : (a b : FeedState) → a ≡ b → SameFront a b
same_front a b e = (
  ap (λ (s : FeedState). s.code) e,
  ap (λ (s : FeedState). s.ended) e,
  ap (λ (s : FeedState). s.state) e,
)

front_lines : (a b : FeedState) (ps : List (List ℕ)) → SameFront a b
    → lines_from_pass a.code a.ended a.state ps ≡ lines_from_pass b.code b.ended b.state ps
front_lines a b ps h =
    ap (λ (n : ℕ). lines_from_pass n a.ended a.state ps) h.0
    ∙ (ap (λ (n : ℕ). lines_from_pass b.code n a.state ps) h.1
    ∙ ap (λ (p : PassState). lines_from_pass b.code b.ended p ps) h.2)

-- the last bytes of a physical line, with its LF
pub reads_ended : (old s t new : FeedState) (bytes text : List ℕ) (whole : Bool)
    (line : LogicalLine)
    → has_no_lf old.begun ≡ true → IsEnded bytes → text ≡ without_terminator (old.begun ++ bytes)
    → SameFront old s → TakesLine s text whole line t → SameFront t new → new.begun ≡ []
    → Reads old bytes (line_if whole line) new []
reads_ended old s t new bytes text whole line plain ended is f takes g empty z =
    ap (lines_from_pass old.code old.ended old.state) (cut_begun old.begun bytes plain ended z
    ∙ ap (λ (l : List ℕ). l ∷ physical_lines z) (sym is))
    ∙ (front_lines old s (text ∷ physical_lines z) f
    ∙ (takes (physical_lines z)
    ∙ ap (with_lines (line_if whole line)) (front_lines t new (physical_lines z) g
    ∙ ap (λ (b : List ℕ). lines_from_pass new.code new.ended new.state
    (physical_lines (b ++ z))) (sym empty))))

if_ok : {A E : Type 0} (r : Result A E) (P Q : A → Type 0) → ((a : A) → P a → Q a) → IfOk r P
    → IfOk r Q
if_ok (Ok a) P Q f h = f a h
if_ok (Err e) P Q f h = h

-- the same of a whole physical line
pub reads_whole : {E : Type 0} (old new : FeedState) (bytes text : List ℕ) (r : Result Bool E)
    (line : LogicalLine)
    → old.begun ≡ [] → IsEnded bytes → text ≡ without_terminator bytes → new.begun ≡ old.begun
    → IfOk r (λ whole. TakesLine old text whole line new)
    → IfOk r (λ whole. Reads old bytes (line_if whole line) new [])
reads_whole old new bytes text r line empty ended is same h =
    if_ok r (λ whole. TakesLine old text whole line new)
    (λ whole. Reads old bytes (line_if whole line) new [])
    (λ whole takes. reads_ended old old new new bytes text whole line (ap has_no_lf empty) ended (is
    ∙ ap (λ (l : List ℕ). without_terminator (l ++ bytes)) (sym empty))
    (same_front old old refl) takes (same_front new new refl) (same ∙ empty)) h

-- from a place of a piece to the one after the next LF
pub reads_next : (old s t : FeedState) (piece : List ℕ) (at end : ℕ) (ys : List LogicalLine)
    → Reads old piece [] s (drop at piece)
    → Reads s (take (at + end + 1 - at) (drop at piece)) ys t []
    → Reads old piece ys t (drop (at + end + 1) piece)
reads_next old s t piece at end ys h k =
    let n = at + end + 1 - at in
    let e : at + (at + end + 1 - at) ≡ at + end + 1 = omega arith in
    reads_on old s t piece (drop at piece) (drop (at + end + 1) piece) [] ys h (λ z.
    ap (λ (b : List ℕ). lines_from_state s (b ++ z)) (sym (take-append-drop n (drop at piece)))
    ∙ (reads_more s t (take n (drop at piece)) (drop n (drop at piece)) ys k z
    ∙ ap (λ (b : List ℕ). with_lines ys (lines_from_state t (b ++ z))) (drop-drop n at piece
    ∙ ap (λ (m : ℕ). drop m piece) e)))

-- nothing more in a piece
pub reads_last : (old s t : FeedState) (piece : List ℕ) (at : ℕ)
    → Reads old piece [] s (drop at piece)
    → Reads s (take (length piece - at) (drop at piece)) [] t [] → Reads old piece [] t []
reads_last old s t piece at h k =
    reads_on old s t piece (drop at piece) [] [] [] h
    (λ z. ap (λ (b : List ℕ). lines_from_state s (b ++ z)) (sym (take_rest piece at)) ∙ k z)

some_is : (o : Option ℕ) (n : ℕ) (P : ℕ → Type 0) → o ≡ Some n → IfSome o P → P n
some_is o n P e h = subst (λ (x : Option ℕ). IfSome x P) e h

pub none_is : (o : Option ℕ) (P : Type 0) → ((n : ℕ) → o ≡ Some n → ⊥) → IfNone o P → P
none_is None P k h = h
none_is (Some n) P k h = absurd (k n refl)

-- one line more
pub adds_more : (before now next : List LogicalLine) (old s t : FeedState) (piece : List ℕ)
    (at n : ℕ) (o : Option ℕ) (line : LogicalLine)
    → Adds before old piece now s (drop at piece) → o ≡ Some n
    → IfSome o (λ m. Reads s (take (length piece - at) (drop at piece)) (line ∷ []) t
    (drop m (take (length piece - at) (drop at piece)))) → next ≡ now ++ line ∷ []
    → Adds before old piece next t (drop (at + n) piece)
adds_more before now next old s t piece at n o line a i h e =
    let k = some_is o n
    (λ m. Reads s (take (length piece - at) (drop at piece)) (line ∷ []) t
    (drop m (take (length piece - at) (drop at piece)))) i h in
    record {
      added = a.added ++ line ∷ [];
      kept = e ∙ (ap (λ (ls : List LogicalLine). ls ++ line ∷ []) a.kept
          ∙ append_assoc before a.added (line ∷ []));
      reads = reads_on old s t piece (drop at piece) (drop (at + n) piece) a.added
          (line ∷ []) a.reads (λ z.
          ap (λ (b : List ℕ). lines_from_state s (b ++ z)) (sym (take_rest piece at))
          ∙ (k z ∙ ap (λ (b : List ℕ). with_lines (line ∷ []) (lines_from_state t (b ++ z)))
          (ap (drop n) (take_rest piece at) ∙ drop-drop n at piece)));
    }

pub further_on : (piece : List ℕ) (at n was from to : ℕ) (o : Option ℕ) → o ≡ Some n
    → IfSome o (λ m. (0 < m) × (m ≤ length (take (length piece - at) (drop at piece)))
    × (to ≤ from + m))
    → at ≤ length piece → from ≤ was + at
    → (at + n ≤ length piece) × (to ≤ was + (at + n)) × (0 < n)
further_on piece at n was from to o i h w f =
    let k = some_is o n (λ m. (0 < m) × (m ≤ length (take (length piece - at) (drop at piece)))
    × (to ≤ from + m)) i h in
    let l = ap length (take_rest piece at) ∙ length-drop at piece in
    let a = k.0 in
    let b = k.1 in
    let d = k.2 in
    (omega (arith, b, l, w), omega (arith, d, f), a)

-- and no line more
pub adds_last : (before now : List LogicalLine) (old s t : FeedState) (piece : List ℕ) (at : ℕ)
    → Adds before old piece now s (drop at piece)
    → Reads s (take (length piece - at) (drop at piece)) [] t []
    → Adds before old piece now t []
adds_last before now old s t piece at a k = record {
  added = a.added;
  kept = a.kept;
  reads = λ z. a.reads z
      ∙ (ap (λ (b : List ℕ). with_lines a.added (lines_from_state s (b ++ z)))
      (sym (take_rest piece at)) ∙ ap (with_lines a.added) (k z));
}

-- what was added is the first of what would have been
pub adds_front : (before now next : List LogicalLine) (old s : FeedState) (piece left : List ℕ)
    → Adds before old piece now s left → next ≡ now → AddsFront before old piece next
adds_front before now next old s piece left a e = record {
  added = a.added;
  kept = e ∙ a.kept;
  front = λ z. (
    (lines_from_state s (left ++ z)).lines,
    ap (λ (r : LogicalLines). r.lines) (a.reads z),
  );
}

pub some_bytes : (n : ℕ) → (n == 0) ≡ false → 0 < n
some_bytes zero h = absurd cc
some_bytes (suc n) h = omega arith

-- a text that ends with a LF
pub ends_plain : (s t : FeedState) (fault : Option LineFault) → SameFront s t → s.begun ≡ []
    → fault ≡ fault_at t.state → lines_from_state s [] ≡ record {
      lines = [];
      fault = fault;
      total = t.ended;
    }
ends_plain s t fault f empty e =
    let total : t.ended + 0 ≡ t.ended = omega arith in
    ap (λ (b : List ℕ). lines_from_pass s.code s.ended s.state (physical_lines (b ++ []))) empty
    ∙ (ap (lines_from_pass s.code s.ended s.state) nothing_physical
    ∙ (front_lines s t [] f ∙ rw (e, total) refl))

-- and one that does not
pub ends_open : (s t : FeedState) (whole : Bool) (line : LogicalLine) (next : PassState)
    (fault : Option LineFault) (total : ℕ)
    → SameFront s t → has_no_lf s.begun ≡ true → 0 < length s.begun
    → Takes (step t.code total s.begun t.state) whole line next → fault ≡ fault_at next
    → total ≡ t.ended + 1
    → lines_from_state s [] ≡ record { lines = line_if whole line; fault = fault; total = total }
ends_open s t whole line next fault total f plain some takes e count =
    let none : total + 0 ≡ total = omega arith in
    ap (λ (b : List ℕ). lines_from_pass s.code s.ended s.state (physical_lines b))
    (append-nil s.begun)
    ∙ (ap (lines_from_pass s.code s.ended s.state) (open_physical s.begun plain some)
    ∙ (front_lines s t (s.begun ∷ []) f
    ∙ (one_step t.code t.ended t.state s.begun whole line next total takes count []
    ∙ rw (e, none, append-nil (line_if whole line)) refl)))

-- From the opening state on, they are the logical lines of a text.
pub opening_is : (code : ℕ) (text : List ℕ)
    → lines_from_state (opening code) text ≡ logical code text
opening_is code text =
    let ps = physical_lines text in
    let e : 0 + length ps ≡ length ps = omega arith in
    ap (λ (n : ℕ). record {
      lines = (pass code 1 in_the_head ps).lines;
      fault = (pass code 1 in_the_head ps).fault;
      total = n;
    }) e ∙ whole_pass code ps

pub ends_logical : (code : ℕ) (bytes : List ℕ) (now next : List LogicalLine) (s : FeedState)
    (end : LineEnd)
    → Adds [] (opening code) bytes now s [] → AddsEnd now s next end
    → record { lines = next; fault = end.fault; total = end.total } ≡ logical code bytes
ends_logical code bytes now next s end a b =
    let e : next ≡ a.added ++ b.added = b.kept
    ∙ ap (λ (ls : List LogicalLine). ls ++ b.added) a.kept in
    ap (λ (ls : List LogicalLine). record { lines = ls; fault = end.fault; total = end.total }) e
    ∙ (ap (with_lines a.added) (sym b.ends)
    ∙ (sym (a.reads [])
    ∙ (ap (lines_from_state (opening code)) (append-nil bytes) ∙ opening_is code bytes)))
