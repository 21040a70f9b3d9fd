-- The lines of a canonical text are read as they were written, but for their numbers.
use Rattle.std.proofs.Common.{◌≡◌, ◌+◌, ◌==◌, ℕ, Bool, true, false, List, [], ◌∷◌, ◌++◌, map, refl}
use Rattle.std.proofs.Common.{ap, sym, subst, ◌∙◌, if◌then◌else◌, nat_eq, None, append_assoc}
use Rattle.std.proofs.lemmas.Bool.{eq-eqb}
use Rattle.std.proofs.lemmas.List.{append-nil}
use Rattle.std.proofs.lemmas.List.Concat.{flat_map-cons}
use Rattle.std.specs.Prelude.{codes}
use Rattle.std.specs.List.{flat_map}
use Rattle.bstr.specs.Text.{no_cr}
use Rattle.itf_lines.specs.declared.word.LineWord.{LineWord}
use Rattle.itf_lines.specs.declared.word.LineWord.TheVariants.{Scnt, Slashes}
use Rattle.itf_lines.specs.Words.{same, word_of}
use Rattle.itf_lines.specs.Fields.{physical_lines, is_blank, fields, ends_field, with_first_byte}
use Rattle.itf_lines.specs.Fields.{trim_end, ends_in, without_last}
use Rattle.itf_lines.specs.FeedStates.{has_no_lf}
use Rattle.itf_lines.specs.LogicalLines.{LogicalLine, LogicalLines, logical, is_cont, without_code}
use Rattle.itf_lines.specs.LogicalLines.{goes_on, line_with}
use Rattle.itf_lines.specs.PassStates.{in_the_head, between, waiting}
use Rattle.itf_lines.specs.Pass.{Rest, Step, lines_then, no_fields, with_fields, end_step}
use Rattle.itf_lines.specs.Pass.{fault_step, start_step, continue_step, step, pass}
use Rattle.itf_lines.specs.declared.logical.LineFault.TheVariants.{StrayCont}
use Rattle.itf_lines.proofs.Gathering.{gathered_line}
use Rattle.itf_lines.proofs.LineCuts.{cut_physical, no_lf-append, nothing_physical}
use Rattle.itf_lines.proofs.PassLaws.{whole_pass}
use Rattle.itf_reader.specs.TransferText.{line}
use Rattle.itf_writer.specs.Canonical.{spelt, blank_before, line_end, line_text}
use Rattle.itf_writer.proofs.LastBytes.{terminator_off, cr_off, other_stays, last_off, ends_in_last}
use Rattle.itf_writer.proofs.LastBytes.{nothing_dropped}
use Rattle.itf_writer.proofs.Renumbered.{bare_line}
use Rattle.itf_writer.proofs.Words.{IsWord, one_byte, more_bytes, AreWords}

-- ---- a word in front of other bytes
starts : (w rest : List ℕ) → IsWord w → ends_field (w ++ rest) ≡ false
starts _ rest (one_byte c h k) = h
starts _ rest (more_bytes c w h k i) = h

first_field : (w rest : List ℕ) → IsWord w → ends_field rest ≡ true
    → fields (w ++ rest) ≡ w ∷ fields rest
first_field _ rest (one_byte c h k) e = rw (h, e) refl
first_field _ rest (more_bytes c w h k i) e =
    rw (h, starts w rest i) (ap (with_first_byte c) (first_field w rest i e))

blanks_end : (ws : List (List ℕ)) → ends_field (blank_before ws) ≡ true
blanks_end [] = refl
blanks_end (w ∷ ws) = refl

fields_before : (ws : List (List ℕ)) → AreWords ws → fields (blank_before ws) ≡ ws
fields_before [] h = refl
fields_before (w ∷ ws) h = first_field w (blank_before ws) h.0 (blanks_end ws)
    ∙ ap (λ (fs : List (List ℕ)). w ∷ fs) (fields_before ws h.1)

-- the fields of a word with others
fields_of_words : (w : List ℕ) (ws : List (List ℕ)) → IsWord w → AreWords ws
    → fields (w ++ blank_before ws) ≡ w ∷ ws
fields_of_words w ws h k = first_field w (blank_before ws) h (blanks_end ws)
    ∙ ap (λ (fs : List (List ℕ)). w ∷ fs) (fields_before ws k)

word_plain : (w : List ℕ) → IsWord w → has_no_lf w ≡ true
word_plain _ (one_byte c h k) = rw k refl
word_plain _ (more_bytes c w h k i) = rw k (word_plain w i)

before_plain : (ws : List (List ℕ)) → AreWords ws → has_no_lf (blank_before ws) ≡ true
before_plain [] h = refl
before_plain (w ∷ ws) h = no_lf-append w (blank_before ws) (word_plain w h.0) (before_plain ws h.1)

-- ---- the last byte
record HasLast (l : List ℕ) : Type 0 where
  front : List ℕ
  byte : ℕ
  ends : l ≡ front ++ byte ∷ []
  solid : is_blank byte ≡ false
  plain : (byte == 10) ≡ false

word_last : (w : List ℕ) → IsWord w → HasLast w
word_last _ (one_byte c h k) = record { front = []; byte = c; ends = refl; solid = h; plain = k }
word_last _ (more_bytes c w h k i) =
    let r = word_last w i in
    record {
      front = c ∷ r.front;
      byte = r.byte;
      ends = ap (λ (l : List ℕ). c ∷ l) r.ends;
      solid = r.solid;
      plain = r.plain;
    }

further_last : (a l : List ℕ) → HasLast l → HasLast (a ++ l)
further_last a l h = record {
  front = a ++ h.front;
  byte = h.byte;
  ends = ap (λ (x : List ℕ). a ++ x) h.ends ∙ sym (append_assoc a h.front (h.byte ∷ []));
  solid = h.solid;
  plain = h.plain;
}

bytes_last : (w : List ℕ) (ws : List (List ℕ)) → IsWord w → AreWords ws
    → HasLast (w ++ blank_before ws)
bytes_last w [] h k = subst (λ (l : List ℕ). HasLast l) (sym (append-nil w)) (word_last w h)
bytes_last w (v ∷ ws) h k =
    further_last w (32 ∷ (v ++ blank_before ws))
    (further_last (32 ∷ []) (v ++ blank_before ws) (bytes_last v ws k.0 k.1))

-- ---- one line
-- a code that a model may have, but not the last letter of CONT
pub record IsCode (code : ℕ) : Type 0 where
  pub blank : is_blank code ≡ false
  pub lf : (code == 10) ≡ false
  pub cr : (code == 13) ≡ false
  pub cont : (84 == code) ≡ false

-- a physical line that is not continued is its line
one_line : (code n : ℕ) (l w : List ℕ) (ws : List (List ℕ)) (rest : List (List ℕ))
    → goes_on code l ≡ false → fields l ≡ w ∷ ws → same w (codes "CONT") ≡ false
    → pass code n between (l ∷ rest) ≡ lines_then (line (word_of w) n ws ∷ [])
    (pass code (n + 1) between rest)
one_line code n l w ws rest g f k =
    let text : without_code code l ≡ l = rw g refl in
    let s : step code n l between ≡ record { lines = line (word_of w) n ws ∷ []; next = between } =
    ap (λ (b : Bool). start_step n (without_code code l) b) g
    ∙ (ap (λ (x : List ℕ). start_step n x false) text
    ∙ (ap (λ (b : Bool). if b then fault_step (StrayCont n) else end_step false n
    (with_fields (no_fields n) (fields l))) (ap is_cont f ∙ k)
    ∙ ap (λ (ls : List LogicalLine). record { lines = ls; next = between })
    (gathered_line n (fields l) ∙ ap (line_with n) f))) in
    ap (λ (t : Step). lines_then t.lines (pass code (n + 1) t.next rest)) s

-- a line with the code once more, and CONT behind it
two_lines : (code n : ℕ) (l w : List ℕ) (ws : List (List ℕ)) (rest : List (List ℕ)) → IsCode code
    → fields l ≡ w ∷ ws → same w (codes "CONT") ≡ false
    → pass code n between ((l ++ code ∷ []) ∷ codes "CONT" ∷ rest)
    ≡ lines_then (line (word_of w) n ws ∷ []) (pass code (n + 1 + 1) between rest)
two_lines code n l w ws rest c f k =
    let held = with_fields (no_fields n) (fields l) in
    let trimmed = nothing_dropped l code c.blank in
    let g : goes_on code (l ++ code ∷ []) ≡ true = ap (ends_in code) trimmed
    ∙ (ends_in_last code l code ∙ same_code code) in
    let t : without_code code (l ++ code ∷ [])
    ≡ l = rw g (ap without_last trimmed ∙ last_off l code) in
    let s : step code n (l ++ code ∷ []) between ≡ record { lines = []; next = waiting held n } =
    ap (λ (b : Bool). start_step n (without_code code (l ++ code ∷ [])) b) g
    ∙ (ap (λ (x : List ℕ). start_step n x true) t
    ∙ ap (λ (b : Bool). if b then fault_step (StrayCont n) else end_step true n held) (ap is_cont f
    ∙ k)) in
    let h : goes_on code (codes "CONT") ≡ false = c.cont in
    let u : step code (n + 1) (codes "CONT") (waiting held n)
    ≡ record { lines = line (word_of w) n ws ∷ []; next = between } =
    ap (λ (b : Bool). continue_step (n + 1) held n
    (if b then without_last (trim_end (codes "CONT")) else codes "CONT") b) h
    ∙ ap (λ (ls : List LogicalLine). record { lines = ls; next = between })
    (gathered_line n (fields l) ∙ ap (line_with n) f) in
    ap (λ (x : Step). lines_then x.lines (pass code (n + 1) x.next (codes "CONT" ∷ rest))) s
    ∙ ap (λ (x : Step). lines_then x.lines (pass code (n + 1 + 1) x.next rest)) u
  where
    same_code : (code : ℕ) → nat_eq code code ≡ true
    same_code code = eq-eqb code code refl

-- what the pass gives behind a line
abbrev Passes : ℕ → ℕ → List ℕ → LogicalLine → List ℕ → Type 0
Passes code n text l z =
    (m : ℕ) × (pass code n between (physical_lines (text ++ z))
    ≡ lines_then (l ∷ []) (pass code m between (physical_lines z)))

abbrev text_with : List ℕ → List ℕ → List ℕ
text_with bytes end = bytes ++ end

cut_line : (bytes z front : List ℕ) → has_no_lf bytes ≡ true → no_cr bytes ≡ front
    → physical_lines (bytes ++ 10 ∷ z) ≡ front ∷ physical_lines z
cut_line bytes z front h k = cut_physical bytes z h
    ∙ ap (λ (l : List ℕ). l ∷ physical_lines z) (terminator_off bytes ∙ k)

doubled : (code n : ℕ) (bytes w : List ℕ) (ws : List (List ℕ)) (z : List ℕ) → IsCode code
    → has_no_lf bytes ≡ true → fields bytes ≡ w ∷ ws → same w (codes "CONT") ≡ false
    → Passes code n (bytes ++ code ∷ codes "\nCONT\n") (line (word_of w) n ws) z
doubled code n bytes w ws z c h f k =
    let all : (bytes ++ code ∷ codes "\nCONT\n") ++ z
    ≡ (bytes ++ code ∷ []) ++ 10 ∷ (codes "CONT" ++ 10 ∷ z) =
    append_assoc bytes (code ∷ codes "\nCONT\n") z
    ∙ sym (append_assoc bytes (code ∷ []) (10 ∷ (codes "CONT" ++ 10 ∷ z))) in
    let plain : has_no_lf (bytes ++ code ∷ [])
    ≡ true = no_lf-append bytes (code ∷ []) h (rw c.lf refl) in
    let lines : physical_lines ((bytes ++ code ∷ codes "\nCONT\n") ++ z)
    ≡ (bytes ++ code ∷ []) ∷ codes "CONT" ∷ physical_lines z =
    ap physical_lines all
    ∙ (cut_line (bytes ++ code ∷ []) (codes "CONT" ++ 10 ∷ z) (bytes ++ code ∷ []) plain
    (other_stays bytes code c.cr)
    ∙ ap (λ (ls : List (List ℕ)). (bytes ++ code ∷ []) ∷ ls)
    (cut_line (codes "CONT") z (codes "CONT") refl refl)) in (
      n + 1 + 1,
      ap (pass code n between) lines
          ∙ two_lines code n bytes w ws (physical_lines z) c f k,
    )

with_cr : (code n : ℕ) (bytes w : List ℕ) (ws : List (List ℕ)) (z : List ℕ)
    → goes_on code bytes ≡ false → has_no_lf bytes ≡ true → fields bytes ≡ w ∷ ws
    → same w (codes "CONT") ≡ false
    → Passes code n (bytes ++ codes "\r\n") (line (word_of w) n ws) z
with_cr code n bytes w ws z g h f k =
    let all : (bytes ++ codes "\r\n") ++ z
    ≡ (bytes ++ 13 ∷ []) ++ 10 ∷ z = append_assoc bytes (codes "\r\n") z
    ∙ sym (append_assoc bytes (13 ∷ []) (10 ∷ z)) in
    let lines : physical_lines ((bytes ++ codes "\r\n") ++ z) ≡ bytes ∷ physical_lines z =
    ap physical_lines all
    ∙ cut_line (bytes ++ 13 ∷ []) z bytes (no_lf-append bytes (13 ∷ []) h refl)
    (cr_off bytes) in
    (n + 1, ap (pass code n between) lines ∙ one_line code n bytes w ws (physical_lines z) g f k)

alone : (code n : ℕ) (bytes w : List ℕ) (ws : List (List ℕ)) (z : List ℕ)
    → goes_on code bytes ≡ false → has_no_lf bytes ≡ true → no_cr bytes ≡ bytes
    → fields bytes ≡ w ∷ ws → same w (codes "CONT") ≡ false
    → Passes code n (bytes ++ codes "\n") (line (word_of w) n ws) z
alone code n bytes w ws z g h r f k =
    let lines : physical_lines ((bytes ++ codes "\n") ++ z)
    ≡ bytes ∷ physical_lines z = ap physical_lines (append_assoc bytes (codes "\n") z)
    ∙ cut_line bytes z bytes h r in
    (n + 1, ap (pass code n between) lines ∙ one_line code n bytes w ws (physical_lines z) g f k)

kept_whole : (bytes : List ℕ) (l : HasLast bytes) → ends_in 13 bytes ≡ false → no_cr bytes ≡ bytes
kept_whole bytes l h =
    let e : (l.byte == 13) ≡ false = sym (ends_in_last 13 l.front l.byte)
    ∙ (ap (ends_in 13) (sym l.ends) ∙ h) in
    ap no_cr l.ends ∙ (other_stays l.front l.byte e ∙ sym l.ends)

goes_not : (code : ℕ) (bytes : List ℕ) (l : HasLast bytes) → ends_in code bytes ≡ false
    → goes_on code bytes ≡ false
goes_not code bytes l h = ap (λ (x : List ℕ). ends_in code (trim_end x)) l.ends
    ∙ (ap (ends_in code) (nothing_dropped l.front l.byte l.solid)
    ∙ (ap (ends_in code) (sym l.ends) ∙ h))

pub spelled_line : (code n : ℕ) (w : List ℕ) (ws : List (List ℕ)) (z : List ℕ) → IsCode code
    → IsWord w → same w (codes "CONT") ≡ false → AreWords ws
    → Passes code n ((w ++ blank_before ws) ++ line_end code (w ++ blank_before ws))
    (line (word_of w) n ws) z
spelled_line code n w ws z c h k a =
    let bytes = w ++ blank_before ws in
    let f = fields_of_words w ws h a in
    let p = no_lf-append w (blank_before ws) (word_plain w h) (before_plain ws a) in
    let l = bytes_last w ws h a in
    elim (ends_in code bytes) as (λ b. ends_in code bytes ≡ b
    → Passes code n
    (bytes ++ (if b then code ∷ codes "\nCONT\n" else if ends_in 13 bytes then codes "\r\n" else
    codes "\n")) (line (word_of w) n ws) z) [
      | true ↦ λ e. doubled code n bytes w ws z c p f k
      | false ↦ λ e. elim (ends_in 13 bytes) as (λ b. ends_in 13 bytes ≡ b
          → Passes code n (bytes ++ (if b then codes "\r\n" else codes "\n"))
          (line (word_of w) n ws) z) [
            | true ↦ λ d. with_cr code n bytes w ws z (goes_not code bytes l e) p f k
            | false ↦ λ d. alone code n bytes w ws z (goes_not code bytes l e) p
                (kept_whole bytes l d) f k
          ] refl
    ] refl

-- ---- many lines
-- the words that a canonical text has after its head
pub data IsSpelt : LineWord → Type 0 where
  is_spelt : (w : LineWord) → IsWord (spelt w) → same (spelt w) (codes "CONT") ≡ false
      → word_of (spelt w) ≡ w → IsSpelt w

abbrev pub AreSpelt : List LogicalLine → Type 0
AreSpelt [] = Unit {0}
AreSpelt (l ∷ ls) = IsSpelt l.word × AreWords l.fields × AreSpelt ls

-- a pass gives these lines, but for their numbers, and no fault
abbrev pub Gives : Rest → List LogicalLine → Type 0
Gives r ls = (map bare_line r.lines ≡ map bare_line ls) × (r.fault ≡ None)

one_more : (r : Rest) (l k : LogicalLine) (ls : List LogicalLine) → bare_line k ≡ bare_line l
    → Gives r ls → Gives (lines_then (k ∷ []) r) (l ∷ ls)
one_more r l k ls e h = (
  ap (λ (x : List LogicalLine). bare_line k ∷ x) h.0
      ∙ ap (λ (x : LogicalLine). x ∷ map bare_line ls) e,
  h.1,
)

spelled : (code n : ℕ) (l : LogicalLine) (z : List ℕ) → IsCode code → IsSpelt l.word
    → AreWords l.fields
    → (m : ℕ) × (k : LogicalLine) × (bare_line k ≡ bare_line l)
    × (pass code n between (physical_lines (line_text code l ++ z))
    ≡ lines_then (k ∷ []) (pass code m between (physical_lines z)))
spelled code n l z c (is_spelt w h k e) a =
    let s = spelled_line code n (spelt w) l.fields z c h k a in
    (s.0, line (word_of (spelt w)) n l.fields, ap (λ (x : LineWord). line x 0 l.fields) e, s.1)

pub spelled_lines : (code n : ℕ) (ls : List LogicalLine) → IsCode code → AreSpelt ls
    → Gives (pass code n between (physical_lines (flat_map (line_text code) ls))) ls
spelled_lines code n [] c h =
    subst (λ (ps : List (List ℕ)). Gives (pass code n between ps) []) (sym nothing_physical)
    (refl, refl)
spelled_lines code n (l ∷ ls) c h =
    let z = flat_map (line_text code) ls in
    let s = spelled code n l z c h.0 h.1 in
    subst (λ (t : List ℕ). Gives (pass code n between (physical_lines t)) (l ∷ ls))
    (sym (flat_map-cons (line_text code) l ls))
    (subst (λ (r : Rest). Gives r (l ∷ ls)) (sym s.3)
    (one_more (pass code s.0 between (physical_lines z)) l s.1 ls s.2
    (spelled_lines code s.0 ls c h.2)))

-- ---- the whole text
abbrev head_text : List ℕ
head_text = codes "SCNT\n////\n"

head_cut : (z : List ℕ)
    → physical_lines (head_text ++ z) ≡ codes "SCNT" ∷ codes "////" ∷ physical_lines z
head_cut z = cut_line (codes "SCNT") (codes "////\n" ++ z) (codes "SCNT") refl refl
    ∙ ap (λ (ls : List (List ℕ)). codes "SCNT" ∷ ls)
    (cut_line (codes "////") z (codes "////") refl refl)

abbrev pub head_lines : List LogicalLine
head_lines = line Scnt 0 [] ∷ line Slashes 0 [] ∷ []

-- the logical lines of a head and of lines that are spelt are those, but for their numbers
pub text_gives : (code : ℕ) (ls : List LogicalLine) → IsCode code → AreSpelt ls
    → (map bare_line (logical code (head_text ++ flat_map (line_text code) ls)).lines
    ≡ map bare_line (head_lines ++ ls))
    × ((logical code (head_text ++ flat_map (line_text code) ls)).fault ≡ None)
text_gives code ls c h =
    let z = flat_map (line_text code) ls in
    let r = pass code 3 between (physical_lines z) in
    let g = spelled_lines code 3 ls c h in
    let w = whole_pass code (physical_lines (head_text ++ z)) in
    let p : pass code 1 in_the_head (physical_lines (head_text ++ z))
    ≡ lines_then (line Scnt 1 [] ∷ line Slashes 2 [] ∷ []) r =
    ap (pass code 1 in_the_head) (head_cut z) in (
      ap (λ (x : LogicalLines). map bare_line x.lines) (sym w)
          ∙ (ap (λ (x : Rest). map bare_line x.lines) p
          ∙ ap (λ (x : List LogicalLine). line Scnt 0 [] ∷ line Slashes 0 [] ∷ x) g.0),
      ap (λ (x : LogicalLines). x.fault) (sym w) ∙ (ap (λ (x : Rest). x.fault) p ∙ g.1),
    )
