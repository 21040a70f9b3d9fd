-- Fields are words: one or more bytes, none of them a blank, a tab or a LF.
use Rattle.std.proofs.Common.{◌≡◌, ◌+◌, ◌-◌, ◌==◌, ℕ, zero, suc, Bool, true, false, not, cond, ◌&&◌}
use Rattle.std.proofs.Common.{List, [], ◌∷◌, ◌++◌, map, length, take, drop, refl, ap, sym, subst}
use Rattle.std.proofs.Common.{◌∙◌, if◌then◌else◌, Option, Some, None}
use Rattle.std.proofs.lemmas.Bool.{eqb-true}
use Rattle.bstr.specs.Text.{lines_from, line_len, without_terminator, no_cr}
use Rattle.itf_lines.specs.declared.word.LineWord.{LineWord}
use Rattle.itf_lines.specs.Fields.{physical_lines, is_blank, with_first_byte, ends_field, fields}
use Rattle.itf_lines.specs.Fields.{all_blank, trim_end, without_last}
use Rattle.itf_lines.specs.FeedStates.{has_no_lf}
use Rattle.itf_lines.specs.LogicalLines.{LogicalLine, logical, is_slashes, is_cont, without_first}
use Rattle.itf_lines.specs.LogicalLines.{without_code, goes_on}
use Rattle.itf_lines.specs.PassStates.{OpenLine, PassState, in_the_head, between, waiting, broken}
use Rattle.itf_lines.specs.Pass.{Step, no_fields, add_field, with_field, with_fields, line_by_word}
use Rattle.itf_lines.specs.Pass.{end_step, fault_step, step, pass}
use Rattle.itf_lines.specs.declared.logical.LineFault.TheVariants.{OpenContinue, StrayCont}
use Rattle.itf_lines.proofs.PassLaws.{whole_pass}
use Rattle.itf_lines.specs.LogicalLines.{LogicalLines}
use Rattle.itf_writer.proofs.LastBytes.{terminator_off}

pub data IsWord : List ℕ → Type 0 where
  one_byte : (c : ℕ) → is_blank c ≡ false → (c == 10) ≡ false → IsWord (c ∷ [])
  more_bytes : (c : ℕ) (w : List ℕ) → is_blank c ≡ false → (c == 10) ≡ false → IsWord w
      → IsWord (c ∷ w)

abbrev pub AreWords : List (List ℕ) → Type 0
AreWords [] = Unit {0}
AreWords (w ∷ ws) = IsWord w × AreWords ws

-- the fields after the first of each line are words
abbrev pub HaveWords : List LogicalLine → Type 0
HaveWords [] = Unit {0}
HaveWords (l ∷ ls) = AreWords l.fields × HaveWords ls

pub words-append : (a b : List (List ℕ)) → AreWords a → AreWords b → AreWords (a ++ b)
words-append [] b h k = k
words-append (w ∷ a) b h k = (h.0, words-append a b h.1 k)

have-append : (a b : List LogicalLine) → HaveWords a → HaveWords b → HaveWords (a ++ b)
have-append [] b h k = k
have-append (l ∷ a) b h k = (h.0, have-append a b h.1 k)

-- ---- the fields of a line
both : (a b : Bool) → (not a && b) ≡ true → (a ≡ false) × (b ≡ true)
both true b h = absurd cc
both false b h = (refl, h)

first_words : (c : ℕ) (fs : List (List ℕ)) → is_blank c ≡ false → (c == 10) ≡ false → AreWords fs
    → AreWords (with_first_byte c fs)
first_words c [] h k a = (one_byte c h k, tt)
first_words c (f ∷ fs) h k a = (more_bytes c f h k a.0, a.1)

pub fields_are_words : (line : List ℕ) → has_no_lf line ≡ true → AreWords (fields line)
fields_are_words [] h = tt
fields_are_words (c ∷ line) h =
    let p = both (c == 10) (has_no_lf line) h in
    let rest = fields_are_words line p.1 in
    elim (is_blank c) as (λ b. is_blank c ≡ b
    → AreWords (cond b (fields line)
    (cond (ends_field line) ((c ∷ []) ∷ fields line) (with_first_byte c (fields line))))) [
      | true ↦ λ e. rest
      | false ↦ λ e. elim (ends_field line) as
          (λ b. AreWords (cond b ((c ∷ []) ∷ fields line) (with_first_byte c (fields line)))) [
            | true ↦ (one_byte c e p.0, rest)
            | false ↦ first_words c (fields line) e p.0 rest
          ]
    ] refl

-- ---- physical lines hold no LF
no_lf-take : (n : ℕ) (line : List ℕ) → has_no_lf line ≡ true → has_no_lf (take n line) ≡ true
no_lf-take zero line h = refl
no_lf-take (suc n) [] h = refl
no_lf-take (suc n) (c ∷ line) h =
    let p = both (c == 10) (has_no_lf line) h in rw (p.0, no_lf-take n line p.1) refl

no_lf-cond : (b : Bool) (x y : List ℕ) → has_no_lf x ≡ true → has_no_lf y ≡ true
    → has_no_lf (cond b x y) ≡ true
no_lf-cond true x y h k = h
no_lf-cond false x y h k = k

no_lf-cr : (x : List ℕ) → has_no_lf x ≡ true → has_no_lf (no_cr x) ≡ true
no_lf-cr x h = no_lf-cond _ (take (length x - 1) x) x (no_lf-take (length x - 1) x h) h

no_lf-trim : (line : List ℕ) → has_no_lf line ≡ true → has_no_lf (trim_end line) ≡ true
no_lf-trim [] h = refl
no_lf-trim (c ∷ line) h =
    let p = both (c == 10) (has_no_lf line) h in
    no_lf-cond (all_blank (c ∷ line)) [] (c ∷ trim_end line) refl
    (rw (p.0, no_lf-trim line p.1) refl)

no_lf-code : (code : ℕ) (line : List ℕ) → has_no_lf line ≡ true
    → has_no_lf (without_code code line) ≡ true
no_lf-code code line h =
    no_lf-cond (goes_on code line) (without_last (trim_end line)) line
    (no_lf-take (length (trim_end line) - 1) (trim_end line) (no_lf-trim line h)) h

-- a line as it is cut: without a LF, or with one at its end
data IsCut : List ℕ → Type 0 where
  open_cut : (x : List ℕ) → has_no_lf x ≡ true → IsCut x
  ended_cut : (x : List ℕ) → has_no_lf x ≡ true → IsCut (x ++ 10 ∷ [])

more_cut : (c : ℕ) (x : List ℕ) → (c == 10) ≡ false → IsCut x → IsCut (c ∷ x)
more_cut c _ e (open_cut x h) = open_cut (c ∷ x) (rw (e, h) refl)
more_cut c _ e (ended_cut x h) = ended_cut (c ∷ x) (rw (e, h) refl)

first_cut : (bs : List ℕ) → IsCut (take (line_len bs) bs)
unfolding line_len
first_cut [] = open_cut [] refl
first_cut (c ∷ bs) =
    elim (c == 10) as (λ t. (c == 10) ≡ t → IsCut (take (cond t 1 (suc (line_len bs))) (c ∷ bs))) [
      | true ↦ λ e. subst (λ (d : ℕ). IsCut (d ∷ [])) (sym (eqb-true c 10 e)) (ended_cut [] refl)
      | false ↦ λ e. more_cut c (take (line_len bs) bs) e (first_cut bs)
    ] refl

cut_plain : (x : List ℕ) → IsCut x → has_no_lf (without_terminator x) ≡ true
cut_plain _ (open_cut x h) =
    no_lf-cond _ (no_cr (take (length x - 1) x)) x
    (no_lf-cr (take (length x - 1) x) (no_lf-take (length x - 1) x h)) h
cut_plain _ (ended_cut x h) = ap has_no_lf (terminator_off x) ∙ no_lf-cr x h

abbrev ArePlain : List (List ℕ) → Type 0
ArePlain [] = Unit {0}
ArePlain (l ∷ ls) = (has_no_lf l ≡ true) × ArePlain ls

cuts_plain : (n : ℕ) (bs : List ℕ) → ArePlain (map without_terminator (lines_from n bs))
unfolding lines_from
cuts_plain zero bs = tt
cuts_plain (suc n) [] = tt
cuts_plain (suc n) (c ∷ bs) =
    (cut_plain _ (first_cut (c ∷ bs)), cuts_plain n (drop (line_len (c ∷ bs)) (c ∷ bs)))

-- ---- the lines of a pass
words_from_second : (fs : List (List ℕ)) → AreWords fs → AreWords (without_first fs)
words_from_second [] h = tt
words_from_second (f ∷ fs) h = h.1

words_added : (n : ℕ) (w : Option LineWord) (xs : List (List ℕ)) (f : List ℕ) → AreWords xs
    → IsWord f → AreWords (add_field n w xs f).fields
words_added n None xs f h k = h
words_added n (Some w) xs f h k = words-append xs (f ∷ []) h (k, tt)

words_held : (held : OpenLine) (fs : List (List ℕ)) → AreWords held.fields → AreWords fs
    → AreWords (with_fields held fs).fields
words_held held [] h k = h
words_held held (f ∷ fs) h k =
    words_held (with_field held f) fs (words_added held.number held.word held.fields f h k.0) k.1

words_by : (n : ℕ) (w : Option LineWord) (fs : List (List ℕ)) → AreWords fs
    → HaveWords (line_by_word n w fs)
words_by n None fs h = tt
words_by n (Some w) fs h = (h, tt)

abbrev HeldWords : PassState → Type 0
HeldWords (waiting held last) = AreWords held.fields
HeldWords state = Unit {0}

abbrev StepWords : Step → Type 0
StepWords s = HaveWords s.lines × HeldWords s.next

words_end : (o : Bool) (n : ℕ) (held : OpenLine) → AreWords held.fields
    → StepWords (end_step o n held)
words_end true n held h = (tt, h)
words_end false n held h = (words_by held.number held.word held.fields h, tt)

words_if : (b : Bool) (s t : Step) → StepWords s → StepWords t → StepWords (if b then s else t)
words_if true s t h k = h
words_if false s t h k = k

head_next : (b : Bool) → HeldWords (if b then between else in_the_head)
head_next true = tt
head_next false = tt

words_step : (code n : ℕ) (line : List ℕ) (state : PassState) → has_no_lf line ≡ true
    → HeldWords state → StepWords (step code n line state)
words_step code n line in_the_head h k =
    ((words_from_second (fields line) (fields_are_words line h), tt), head_next (is_slashes line))
words_step code n line between h k =
    let fs = fields (without_code code line) in
    let words = fields_are_words (without_code code line) (no_lf-code code line h) in
    words_if (is_cont fs) (fault_step (StrayCont n))
    (end_step (goes_on code line) n (with_fields (no_fields n) fs)) (tt, tt)
    (words_end (goes_on code line) n (with_fields (no_fields n) fs)
    (words_held (no_fields n) fs tt words))
words_step code n line (waiting held last) h k =
    let fs = fields (without_code code line) in
    let words = fields_are_words (without_code code line) (no_lf-code code line h) in
    words_if (is_cont fs) (end_step (goes_on code line) n (with_fields held (without_first fs)))
    (fault_step (OpenContinue last))
    (words_end (goes_on code line) n (with_fields held (without_first fs))
    (words_held held (without_first fs) k (words_from_second fs words))) (tt, tt)
words_step code n line (broken fault) h k = (tt, tt)

words_pass : (code n : ℕ) (state : PassState) (ls : List (List ℕ)) → ArePlain ls → HeldWords state
    → HaveWords (pass code n state ls).lines
words_pass code n state [] h k = tt
words_pass code n state (l ∷ ls) h k =
    let s = words_step code n l state h.0 k in
    have-append (step code n l state).lines
    (pass code (n + 1) (step code n l state).next ls).lines s.0
    (words_pass code (n + 1) (step code n l state).next ls h.1 s.1)

-- the fields of the logical lines of a text are words
pub logical_words : (code : ℕ) (text : List ℕ) → HaveWords (logical code text).lines
logical_words code text =
    subst (λ (g : LogicalLines). HaveWords g.lines) (whole_pass code (physical_lines text))
    (words_pass code 1 in_the_head (physical_lines text) (cuts_plain (length text) text) tt)
