-- What the parts of a text come to.
use Rattle.std.proofs.Common.{◌≡◌, ℕ, suc, List, [], ◌∷◌, ◌++◌, length, refl, sym, ap, ◌∙◌}
use Rattle.std.proofs.Common.{append_assoc}
use Rattle.std.specs.Prelude.{codes}
use Rattle.std.specs.Fmt.{decimal}
use Rattle.std.specs.List.{flat_map}
use Rattle.std.proofs.lemmas.List.Concat.{flat_map-cons}
use Rattle.certificate.specs.declared.notes.HalfNote.{HalfNote}
use Rattle.certificate.specs.declared.notes.PointPlace.{PointPlace}
use Rattle.certificate.specs.declared.notes.Certificate.{Certificate}
use Rattle.certificate.specs.declared.forms.Version.TheVariants.{Two}
use Rattle.certificate.specs.Spelling.{line, link_word, bent_word, edge_line, title_line}
use Rattle.certificate.specs.Spelling.{sizes_line}
use Rattle.certificate.specs.Spelling.{event_line, place_line}
use Rattle.certificate.specs.Spelling.{certificate_text, spelling, pairs}
use Rattle.certificate.specs.Spelling.{view, views}
use Rattle.certificate.specs.Words.{next_word, note_words}

-- three words, and a text behind them
words_then : (a b c t : List ℕ)
    → (next_word a ++ (next_word b ++ next_word c)) ++ t
    ≡ next_word a ++ (next_word b ++ (next_word c ++ t))
words_then a b c t =
    append_assoc (next_word a) (next_word b ++ next_word c) t
    ∙ ap (λ (s : List ℕ). next_word a ++ s) (append_assoc (next_word b) (next_word c) t)

-- the words of a note, and a text behind them
note_then : (note : HalfNote) (t : List ℕ)
    → note_words note ++ t
    ≡ next_word (decimal note.label)
    ++ (next_word (link_word note.link) ++ (next_word (decimal note.rank) ++ t))
note_then note t = words_then (decimal note.label) (link_word note.link) (decimal note.rank) t

pub edge_words : (below above : HalfNote)
    → codes "E" ++ (note_words below ++ (note_words above ++ codes "\n")) ≡ edge_line (below, above)
edge_words below above =
    ap (λ (s : List ℕ). codes "E" ++ (note_words below ++ s)) (note_then above (codes "\n"))
    ∙ ap (λ (s : List ℕ). codes "E" ++ s) (note_then below
    (next_word (decimal above.label)
    ++ (next_word (link_word above.link) ++ (next_word (decimal above.rank) ++ codes "\n"))))

-- the counts, as the code has them
pub sizes_words : (c : Certificate) {level edges events points : ℕ}
    → level ≡ c.level
    → edges ≡ length (pairs c.notes.items)
    → events ≡ length c.positions.items
    → points ≡ length c.places.items
    → codes "SIZES" ++ (next_word (decimal level) ++ (next_word (bent_word c.bent)
    ++ (next_word (decimal edges) ++ (next_word (decimal events) ++ (next_word (decimal points)
    ++ codes "\n")))))
    ≡ sizes_line Two (view c)
sizes_words c l e v p = rw (l, e, v, p) refl

-- the lists, as the code has them
pub certificate_words : (c : Certificate)
    {positions : List ℕ} {notes : List HalfNote} {places : List PointPlace}
    → positions ≡ c.positions.items
    → notes ≡ c.notes.items
    → places ≡ c.places.items
    → title_line (view c) ++ (sizes_line Two (view c) ++ (flat_map event_line positions
    ++ (flat_map edge_line (pairs notes) ++ (flat_map place_line places ++ codes "END\n"))))
    ≡ certificate_text Two (view c)
certificate_words c p n q = rw (p, n, q) refl

pub length_views : (cs : List Certificate) → length (views cs) ≡ length cs
length_views [] = refl
length_views (c ∷ cs) = ap suc (length_views cs)

pub flat_views : (cs : List Certificate)
    → flat_map (certificate_text Two) (views cs) ≡ flat_map (λ c. certificate_text Two (view c)) cs
flat_views [] = refl
flat_views (c ∷ cs) =
    flat_map-cons (certificate_text Two) (view c) (views cs)
    ∙ (ap (λ (t : List ℕ). certificate_text Two (view c) ++ t) (flat_views cs)
    ∙ sym (flat_map-cons (λ c. certificate_text Two (view c)) c cs))

-- the lines before the first certificate, and a text behind them
head_then : (n : ℕ) (t : List ℕ)
    → codes "ITFCERT 2\n" ++ (codes "AREAS" ++ (next_word (decimal n) ++ (codes "\n" ++ t)))
    ≡ line (codes "ITFCERT" ∷ codes "2" ∷ []) ++ (line (codes "AREAS" ∷ decimal n ∷ []) ++ t)
head_then n t =
    let ends = sym (append_assoc (decimal n) (codes "\n") t) in
    ap (λ (s : List ℕ). codes "ITFCERT 2\nAREAS " ++ s) ends

pub text_words : (cs : List Certificate) (n : ℕ) → n ≡ length cs
    → codes "ITFCERT 2\n" ++ (codes "AREAS" ++ (next_word (decimal n) ++ (codes "\n"
    ++ flat_map (certificate_text Two) (views cs)))) ≡ spelling (views cs)
text_words cs n e =
    let text = flat_map (certificate_text Two) (views cs) in
    head_then n text
    ∙ ap (λ (k : ℕ). line (codes "ITFCERT" ∷ codes "2" ∷ [])
    ++ (line (codes "AREAS" ∷ decimal k ∷ []) ++ text)) (e ∙ sym (length_views cs))
