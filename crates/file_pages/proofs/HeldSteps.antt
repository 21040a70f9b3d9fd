-- Texts that are held, part by part.
use Rattle.std.proofs.Common.{◌≡◌, ◌≤◌, ◌<◌, ◌+◌, ◌-◌, ℕ, zero, suc, List, [], ◌∷◌, ◌++◌, length}
use Rattle.std.proofs.Common.{take, drop, get_or, refl, sym, ap, ◌∙◌, append_assoc, arith}
use Rattle.std.proofs.lemmas.Grind.{common_steps}
use Rattle.std.proofs.lemmas.List.{append-nil, length-drop, take-append-le, drop-append-le}
use Rattle.file_pages.specs.Held.{times, settled_by, spliced}
use Rattle.file_pages.specs.declared.blocks.Repeat.{Repeat}

-- ---- a line so many times
at_its_end : (n : ℕ) (line : List ℕ) → line ++ times n line ≡ times n line ++ line
at_its_end zero line = append-nil line
at_its_end (suc n) line = ap (λ (t : List ℕ). line ++ t) (at_its_end n line)
    ∙ sym (append_assoc line (times n line) line)

pub times_more : (n : ℕ) (line : List ℕ) → times (n + 1) line ≡ times n line ++ line
times_more n line = ap (λ (m : ℕ). times m line) (let e : n + 1 ≡ suc n = omega arith in e)
    ∙ at_its_end n line

-- ---- a block with more bytes
settled_less : (n : ℕ) (a m l k : ℕ) → a + m ≤ l → k ≡ l - a → m ≤ k
settled_less n a m l k h e = omega (arith, h, e)

with_bytes : (line : List ℕ) (repeats : List Repeat) (bytes more : List ℕ)
    → settled_by repeats ≤ length bytes
    → spliced line repeats (bytes ++ more) ≡ spliced line repeats bytes ++ more
with_bytes line [] bytes more h = refl
with_bytes line (r ∷ repeats) bytes more h =
    let n = r.after in
    let front = take n bytes in
    let lines = times r.count line in
    let rest = drop n bytes in
    let l = length-drop n bytes in
    let e = with_bytes line repeats rest more (omega (arith, h, l)) in
    ap (λ (t : List ℕ). t ++ (lines ++ spliced line repeats (drop n (bytes ++ more))))
    (take-append-le n bytes more (omega (arith, h)))
    ∙ (ap (λ (t : List ℕ). front ++ (lines ++ spliced line repeats t))
    (drop-append-le n bytes more (omega (arith, h)))
    ∙ (ap (λ (t : List ℕ). front ++ (lines ++ t)) e
    ∙ (ap (λ (t : List ℕ). front ++ t) (sym (append_assoc lines (spliced line repeats rest) more))
    ∙ sym (append_assoc front (lines ++ spliced line repeats rest) more))))

pub bytes_more : (line : List ℕ) (repeats : List Repeat) (bytes new more view : List ℕ)
    → new ≡ bytes ++ more → settled_by repeats ≤ length bytes → view ≡ spliced line repeats bytes
    → spliced line repeats new ≡ view ++ more
bytes_more line repeats bytes new more view e h v =
    ap (spliced line repeats) e
    ∙ (with_bytes line repeats bytes more h ∙ ap (λ (t : List ℕ). t ++ more) (sym v))

-- ---- a block with one place more
pub settled_more : (repeats : List Repeat) (r : Repeat)
    → settled_by (repeats ++ r ∷ []) ≡ settled_by repeats + r.after
settled_more [] r = omega arith
settled_more (q ∷ repeats) r = let e = settled_more repeats r in omega (arith, e)

all_taken : (n : ℕ) (bytes : List ℕ) → n ≡ length bytes → take n bytes ≡ bytes
all_taken n bytes e = grind (arith, common_steps)

none_left : (n : ℕ) (bytes : List ℕ) → n ≡ length bytes → drop n bytes ≡ []
none_left n bytes e = grind (arith, common_steps)

with_repeat : (line : List ℕ) (repeats : List Repeat) (bytes : List ℕ) (r : Repeat)
    → settled_by repeats + r.after ≡ length bytes
    → spliced line (repeats ++ r ∷ []) bytes ≡ spliced line repeats bytes ++ times r.count line
with_repeat line [] bytes r h =
    let n : r.after ≡ length bytes = omega (arith, h) in
    ap (λ (t : List ℕ). t ++ (times r.count line ++ drop r.after bytes)) (all_taken r.after bytes n)
    ∙ ap (λ (t : List ℕ). bytes ++ t)
    (ap (λ (t : List ℕ). times r.count line ++ t) (none_left r.after bytes n)
    ∙ append-nil (times r.count line))
with_repeat line (q ∷ repeats) bytes r h =
    let front = take q.after bytes in
    let lines = times q.count line in
    let rest = drop q.after bytes in
    let l = length-drop q.after bytes in
    let e = with_repeat line repeats rest r (omega (arith, h, l)) in
    ap (λ (t : List ℕ). front ++ (lines ++ t)) e
    ∙ (ap (λ (t : List ℕ). front ++ t)
    (sym (append_assoc lines (spliced line repeats rest) (times r.count line)))
    ∙ sym (append_assoc front (lines ++ spliced line repeats rest) (times r.count line)))

pub repeat_more : (line : List ℕ) (repeats new : List Repeat) (bytes view : List ℕ) (r : Repeat)
    → new ≡ repeats ++ r ∷ [] → settled_by repeats + r.after ≡ length bytes
    → view ≡ spliced line repeats bytes → spliced line new bytes ≡ view ++ times r.count line
repeat_more line repeats new bytes view r e h v =
    ap (λ (rs : List Repeat). spliced line rs bytes) e
    ∙ (with_repeat line repeats bytes r h ∙ ap (λ (t : List ℕ). t ++ times r.count line) (sym v))

-- ---- a block that is put, one place more
repeat_there : (repeats : List Repeat) (i : ℕ) (r : Repeat) → i < length repeats
    → r ≡ get_or repeats i r → drop i repeats ≡ r ∷ drop (i + 1) repeats
repeat_there repeats i r l e = by repeats i l e
    ∙ ap (λ (m : ℕ). r ∷ drop m repeats) (let s : suc i ≡ i + 1 = omega arith in s)
  where
    by : (repeats : List Repeat) (i : ℕ) → i < length repeats → r ≡ get_or repeats i r
        → drop i repeats ≡ r ∷ drop (suc i) repeats
    by [] i l e = absurd (omega (arith, l))
    by (q ∷ repeats) zero l e = ap (λ (x : Repeat). x ∷ repeats) (sym e)
    by (q ∷ repeats) (suc i) l e = by repeats i (omega (arith, l)) e

pub place_put : (line done left rest whole : List ℕ) (repeats : List Repeat) (i : ℕ) (r : Repeat)
    → i < length repeats → r ≡ get_or repeats i r → rest ≡ drop r.after left
    → done ++ spliced line (drop i repeats) left ≡ whole
    → (done ++ (take r.after left ++ times r.count line))
    ++ spliced line (drop (i + 1) repeats) rest ≡ whole
place_put line done left rest whole repeats i r l e g h =
    let front = take r.after left in
    let lines = times r.count line in
    let later = drop (i + 1) repeats in
    ap (λ (t : List ℕ). (done ++ (front ++ lines)) ++ spliced line later t) g
    ∙ (append_assoc done (front ++ lines) (spliced line later (drop r.after left))
    ∙ (ap (λ (t : List ℕ). done ++ t)
    (append_assoc front lines (spliced line later (drop r.after left)))
    ∙ (ap (λ (rs : List Repeat). done ++ spliced line rs left) (sym (repeat_there repeats i r l e))
    ∙ h)))

pub none_put : (line done left whole : List ℕ) (repeats : List Repeat) (i : ℕ) → length repeats ≤ i
    → done ++ spliced line (drop i repeats) left ≡ whole → done ++ left ≡ whole
none_put line done left whole repeats i l h =
    ap (λ (rs : List Repeat). done ++ spliced line rs left) (sym (beyond repeats i l)) ∙ h
  where
    beyond : (repeats : List Repeat) (i : ℕ) → length repeats ≤ i → drop i repeats ≡ []
    beyond repeats i l = grind (arith, common_steps)
