-- Each part of a certificate: its text is one line or more, two values have two texts, and what
-- is read of a line is the text of its value.
use Rattle.std.proofs.Common.{◌≡◌, ℕ, zero, ◌+◌, ◌^◌, ◌<◌, replicate, Bool, true, false, not}
use Rattle.std.proofs.Common.{nat_eq, List, [], ◌∷◌, ◌++◌, Some, Ok, refl, sym, ap, ◌∙◌, arith}
use Rattle.std.specs.Prelude.{codes}
use Rattle.std.specs.Fmt.{decimal}
use Rattle.std.specs.Char.{is_ascii_digit}
use Rattle.std.specs.List.{flat_map, AllByRecursion}
use Rattle.std.proofs.lemmas.Bool.Decides.{nat_tests}
use Rattle.certificate.specs.declared.notes.HalfNote.{HalfNote}
use Rattle.certificate.specs.declared.notes.Link.{Link}
use Rattle.certificate.specs.declared.notes.Link.TheVariants.{Root, Next, Prev, Across}
use Rattle.certificate.specs.declared.notes.PointPlace.{PointPlace}
use Rattle.certificate.specs.declared.notes.PointPlace.TheVariants.{Cell, Tube}
use Rattle.certificate.specs.declared.forms.Counts.{Counts}
use Rattle.certificate.specs.declared.forms.Sizes.{Sizes}
use Rattle.certificate.specs.declared.forms.Version.{Version}
use Rattle.certificate.specs.declared.forms.Version.TheVariants.{One, Two}
use Rattle.certificate.specs.Spelling.{Plain, line, is_name_byte, IsName, link_word, side_word}
use Rattle.certificate.specs.Spelling.{bent_word, CanSay, FitsLink, FitsHalf, FitsEdge, FitsPlace}
use Rattle.certificate.specs.Spelling.{Fits, event_line, edge_line, place_line}
use Rattle.certificate.specs.Parts.{Line, Title, version_at, areas_at, title_at, sizes_at, event_at}
use Rattle.certificate.specs.Parts.{edge_at, place_at, end_at}
use Rattle.certificate.specs.Reading.{Text, Lines, line_at, many_at}
use Rattle.certificate.proofs.Digits.{both_true}
use Rattle.certificate.proofs.PartLaws.{decimal_digits, each_digit}
use Rattle.certificate.proofs.FormLaws.{size_words, FitsSizes, version_words, version_gave}
use Rattle.certificate.proofs.FormLaws.{version_is, areas_gave, areas_is, title_gave, title_is}
use Rattle.certificate.proofs.FormLaws.{sizes_gave, sizes_is, event_gave, edge_gave, place_gave}
use Rattle.certificate.proofs.FormLaws.{end_gave}
use Rattle.certificate.proofs.TextLaws.{from, line_is, line_some, IsRead, event_read, edge_read}
use Rattle.certificate.proofs.TextLaws.{place_read, many_is, FitsIn}
use Rattle.certificate.proofs.FirstLines.{AreLines, IsInner, inner_lines, last_line}
use Rattle.certificate.proofs.Stops.{Went, Det, det_of_read, line_went, both_texts, Both, AreSo}
use Rattle.certificate.proofs.Stops.{all_same}

-- ---- each kind of line is one line

words_lines : (words : List (List ℕ)) → AllByRecursion (AllByRecursion IsInner) words
    → AreLines 1 (line words)
words_lines [] h = last_line
words_lines (w ∷ []) h = inner_lines zero w (10 ∷ []) h.0 last_line
words_lines (w ∷ n ∷ words) h =
    inner_lines zero w (32 ∷ line (n ∷ words)) h.0
    (inner_lines zero (32 ∷ []) (line (n ∷ words)) (refl, tt) (words_lines (n ∷ words) h.1))

digits_inner : (ds : List ℕ) → AllByRecursion (λ c. is_ascii_digit c ≡ true) ds
    → AllByRecursion IsInner ds
digits_inner [] h = tt
digits_inner (d ∷ ds) h =
    let k = h.0 in
    let e : nat_eq d 10 ≡ false = grind (arith, nat_tests) in (e, digits_inner ds h.1)

number_inner : (n : ℕ) → n < 2 ^ 32 → AllByRecursion IsInner (decimal n)
number_inner n h = digits_inner (decimal n) (each_digit (decimal n) (decimal_digits n h))

not_true : (b : Bool) → not b ≡ true → b ≡ false
not_true true h = absurd (cc)
not_true false h = refl

name_inner : (name : List ℕ) → AllByRecursion (λ c. is_name_byte c ≡ true) name
    → AllByRecursion IsInner name
name_inner [] h = tt
name_inner (c ∷ name) h = (
  not_true (nat_eq c 10) (both_true (not (nat_eq c 32)) (not (nat_eq c 10)) h.0).1,
  name_inner name h.1,
)

link_inner : (l : Link) → FitsLink l → AllByRecursion IsInner (link_word l)
link_inner Root h = (refl, tt)
link_inner Next h = (refl, tt)
link_inner Prev h = (refl, tt)
link_inner (Across n) h = (refl, number_inner n h)

side_inner : (b : Bool) → AllByRecursion IsInner (side_word b)
side_inner true = (refl, tt)
side_inner false = (refl, tt)

abbrev pub title_text : Title → List ℕ
title_text t = line (codes "AREA" ∷ t.topic ∷ t.table ∷ t.attribute ∷ [])

abbrev pub sizes_text : Version → Sizes → List ℕ
sizes_text v s = line (size_words v s)

abbrev pub end_text : Unit {0} → List ℕ
end_text u = line (codes "END" ∷ [])

abbrev pub version_text : Version → List ℕ
version_text v = line (version_words v)

abbrev pub areas_text : ℕ → List ℕ
areas_text n = line (codes "AREAS" ∷ decimal n ∷ [])

abbrev pub FitsTitle : Title → Type 0
FitsTitle t = IsName t.topic × IsName t.table × IsName t.attribute

abbrev pub IsShortNumber : ℕ → Type 0
IsShortNumber n = n < 2 ^ 32

abbrev pub IsVersion : Version → Type 0
IsVersion v = Unit {0}

abbrev pub IsAny : Unit {0} → Type 0
IsAny u = Unit {0}

pub title_lines : (t : Title) → FitsTitle t → AreLines 1 (title_text t)
title_lines t f = words_lines (codes "AREA" ∷ t.topic ∷ t.table ∷ t.attribute ∷ []) (
  (refl, (refl, (refl, (refl, tt)))),
  (
    name_inner t.topic f.0.bytes,
    (name_inner t.table f.1.bytes, (name_inner t.attribute f.2.bytes, tt)),
  ),
)

bent_inner : (b : Bool) → AllByRecursion IsInner (bent_word b)
bent_inner true = (refl, tt)
bent_inner false = (refl, tt)

pub sizes_lines : (v : Version) (s : Sizes) → FitsSizes v s → AreLines 1 (sizes_text v s)
sizes_lines One s f = words_lines (size_words One s) (
  (refl, (refl, (refl, (refl, (refl, tt))))),
  (
    number_inner s.level (omega (arith, f.level)),
    (
      number_inner s.counts.edges f.edges,
      (number_inner s.counts.events f.events, (number_inner s.counts.points f.points, tt)),
    ),
  ),
)
sizes_lines Two s f = words_lines (size_words Two s) (
  (refl, (refl, (refl, (refl, (refl, tt))))),
  (
    number_inner s.level (omega (arith, f.level)),
    (
      bent_inner s.bent,
      (
        number_inner s.counts.edges f.edges,
        (number_inner s.counts.events f.events, (number_inner s.counts.points f.points, tt)),
      ),
    ),
  ),
)

pub event_lines : (n : ℕ) → IsShortNumber n → AreLines 1 (event_line n)
event_lines n f = words_lines (codes "V" ∷ decimal n ∷ []) ((refl, tt), (number_inner n f, tt))

pub edge_lines : (e : HalfNote × HalfNote) → FitsEdge e → AreLines 1 (edge_line e)
edge_lines e f =
    words_lines (codes "E" ∷ decimal e.0.label ∷ link_word e.0.link ∷ decimal e.0.rank
    ∷ decimal e.1.label ∷ link_word e.1.link ∷ decimal e.1.rank ∷ []) (
      (refl, tt),
      (
        number_inner e.0.label f.0.label,
        (
          link_inner e.0.link f.0.link,
          (
            number_inner e.0.rank f.0.rank,
            (
              number_inner e.1.label f.1.label,
              (link_inner e.1.link f.1.link, (number_inner e.1.rank f.1.rank, tt)),
            ),
          ),
        ),
      ),
    )

pub place_lines : (p : PointPlace) → FitsPlace p → AreLines 1 (place_line p)
place_lines (Cell n) f =
    words_lines (codes "P" ∷ decimal n ∷ []) ((refl, tt), (number_inner n f, tt))
place_lines (Tube n inside) f =
    words_lines (codes "P" ∷ codes "T" ∷ decimal n ∷ side_word inside ∷ [])
    ((refl, tt), ((refl, tt), (number_inner n f, (side_inner inside, tt))))

pub end_lines : (u : Unit {0}) → IsAny u → AreLines 1 (end_text u)
end_lines u f = words_lines (codes "END" ∷ []) ((refl, (refl, (refl, tt))), tt)

pub version_lines : (v : Version) → IsVersion v → AreLines 1 (version_text v)
version_lines One f =
    words_lines (version_words One) (
      (refl, (refl, (refl, (refl, (refl, (refl, (refl, tt))))))),
      ((refl, tt), tt),
    )
version_lines Two f =
    words_lines (version_words Two) (
      (refl, (refl, (refl, (refl, (refl, (refl, (refl, tt))))))),
      ((refl, tt), tt),
    )

pub areas_lines : (n : ℕ) → IsShortNumber n → AreLines 1 (areas_text n)
areas_lines n f =
    words_lines (codes "AREAS" ∷ decimal n ∷ [])
    ((refl, (refl, (refl, (refl, (refl, tt))))), (number_inner n f, tt))

-- ---- some value of each kind

pub some_name : IsName (codes "a")
some_name = record { some = omega arith; bytes = (refl, tt) }

abbrev pub some_note : HalfNote
some_note = record { label = 0; link = Root; rank = 0 }

pub note_fits : FitsHalf some_note
note_fits = record { label = omega arith; link = tt; rank = omega arith }

abbrev pub some_title : Title
some_title = record { topic = codes "a"; table = codes "a"; attribute = codes "a" }

abbrev no_counts : Counts
no_counts = record { edges = 0; events = 0; points = 0 }

abbrev pub no_sizes : Sizes
no_sizes = record { level = 0; bent = false; counts = no_counts }

not_bent : (v : Version) → CanSay v false
not_bent One = refl
not_bent Two = tt

pub none_fit : (v : Version) → FitsSizes v no_sizes
none_fit v = record {
  level = omega arith;
  bent = not_bent v;
  edges = omega arith;
  events = omega arith;
  points = omega arith;
}

abbrev pub some_plain : Plain
some_plain = record {
  topic = codes "a";
  table = codes "a";
  attribute = codes "a";
  level = 0;
  bent = false;
  positions = [];
  edges = [];
  places = [];
}

plain_fits : Fits some_plain
plain_fits = record {
  topic = some_name;
  table = some_name;
  attribute = some_name;
  level = omega arith;
  positions = tt;
  edges = tt;
  places = tt;
  position_count = omega arith;
  edge_count = omega arith;
  place_count = omega arith;
}

pub plain_fits_in : (v : Version) → FitsIn v some_plain
plain_fits_in v = (plain_fits, not_bent v)

-- ---- a certificate in its parts

abbrev Parts5 : Type 0
Parts5 = List PointPlace × Unit {0}

abbrev Parts4 : Type 0
Parts4 = List (HalfNote × HalfNote) × Parts5

abbrev Parts3 : Type 0
Parts3 = List ℕ × Parts4

abbrev pub Parts2 : Type 0
Parts2 = Sizes × Parts3

abbrev pub text5 : Parts5 → List ℕ
text5 = both_texts (flat_map place_line) (λ x. end_text)

abbrev pub text4 : Parts4 → List ℕ
text4 = both_texts (flat_map edge_line) (λ x. text5)

abbrev pub text3 : Parts3 → List ℕ
text3 = both_texts (flat_map event_line) (λ x. text4)

abbrev pub text2 : Version → Parts2 → List ℕ
text2 v = both_texts (sizes_text v) (λ x. text3)

abbrev pub text1 : Version → Title × Parts2 → List ℕ
text1 v = both_texts title_text (λ x. text2 v)

abbrev pub Good5 : Counts → Parts5 → Type 0
Good5 c = Both (AreSo FitsPlace c.points) (λ x. IsAny)

abbrev pub Good4 : Counts → Parts4 → Type 0
Good4 c = Both (AreSo FitsEdge c.edges) (λ x. Good5 c)

abbrev pub Good3 : Counts → Parts3 → Type 0
Good3 c = Both (AreSo IsShortNumber c.events) (λ x. Good4 c)

abbrev pub Good2 : Version → Parts2 → Type 0
Good2 v = Both (FitsSizes v) (λ s. Good3 s.counts)

abbrev pub Good1 : Version → Title × Parts2 → Type 0
Good1 v = Both FitsTitle (λ t. Good2 v)

pub some5 : (c : Counts) → (x : Parts5) × Good5 c x
some5 c = (
  (replicate c.points (Cell 0), tt),
  (all_same FitsPlace c.points (Cell 0) (omega arith), tt),
)

pub some4 : (c : Counts) → (x : Parts4) × Good4 c x
some4 c =
    let o = some5 c in (
      (replicate c.edges (some_note, some_note), o.0),
      (all_same FitsEdge c.edges (some_note, some_note) (note_fits, note_fits), o.1),
    )

pub some3 : (c : Counts) → (x : Parts3) × Good3 c x
some3 c =
    let o = some4 c in
    ((replicate c.events 0, o.0), (all_same IsShortNumber c.events 0 (omega arith), o.1))

pub some2 : (v : Version) → (x : Parts2) × Good2 v x
some2 v = let o = some3 no_counts in ((no_sizes, o.0), (none_fit v, o.1))

-- ---- one text, one value

abbrev read_line : {A : Type 0} (form : List ℕ → Line A) (words : A → List (List ℕ)) (x : A) (n : ℕ)
    (rest : List ℕ) → form (line (words x) ++ rest) ≡ Some (Some x, rest)
    → IsRead (line_at form) (line (words x) ++ rest) n x rest
read_line form words x n rest h =
    (n + 1, line_is form (line (words x) ++ rest) n x rest (line_some (words x) rest) h)

pub title_det : Det title_text FitsTitle
title_det = det_of_read (line_at title_at) title_text FitsTitle
    (λ x n rest p. read_line title_at (λ t. codes "AREA" ∷ t.topic ∷ t.table ∷ t.attribute ∷ []) x n
    rest (title_is x rest p.0 p.1 p.2))

pub sizes_det : (v : Version) → Det (sizes_text v) (FitsSizes v)
sizes_det v =
    det_of_read (line_at (sizes_at v)) (sizes_text v) (FitsSizes v)
    (λ x n rest p. read_line (sizes_at v) (size_words v) x n rest (sizes_is v x rest p))

pub event_det : Det event_line IsShortNumber
event_det = det_of_read (line_at event_at) event_line IsShortNumber event_read

pub edge_det : Det edge_line FitsEdge
edge_det = det_of_read (line_at edge_at) edge_line FitsEdge edge_read

pub place_det : Det place_line FitsPlace
place_det = det_of_read (line_at place_at) place_line FitsPlace place_read

pub many_det : {A : Type 0} (one : Text → Lines A) (text : A → List ℕ) (P : A → Type 0)
    → ((x : A) (n : ℕ) (rest : List ℕ) → P x → IsRead one (text x ++ rest) n x rest)
    → (k : ℕ) → Det (flat_map text) (AreSo P k)
many_det {A = A} one text P is k = det_of_read (many_at one k) (flat_map text) (AreSo P k)
    (λ xs n rest p. let r = many_is one text P is xs n rest p.1 in
    (r.0, ap (λ (m : ℕ). many_at one m (from (flat_map text xs ++ rest) n)) (sym p.0) ∙ r.1))

pub areas_det : Det areas_text IsShortNumber
areas_det = det_of_read (line_at areas_at) areas_text IsShortNumber
    (λ x n rest p. read_line areas_at (λ m. codes "AREAS" ∷ decimal m ∷ []) x n rest
    (areas_is x rest p))

version_read : (x : Version) (n : ℕ) (rest : List ℕ) → IsVersion x
    → IsRead (line_at version_at) (version_text x ++ rest) n x rest
version_read x n rest p = read_line version_at version_words x n rest (version_is x rest)

pub version_det : Det version_text IsVersion
version_det = det_of_read (line_at version_at) version_text IsVersion version_read

-- ---- what each line went over

pub title_went : (t : Text) (x : Title) (u : Text) → line_at title_at t ≡ Ok (x, u)
    → Went title_text FitsTitle t x u
title_went =
    line_went title_at title_text FitsTitle (λ bytes y rest h. let g = title_gave bytes y rest h in
    (g.0, (g.1, g.2, g.3))) title_lines

pub sizes_went : (v : Version) (t : Text) (x : Sizes) (u : Text) → line_at (sizes_at v) t ≡ Ok (x, u)
    → Went (sizes_text v) (FitsSizes v) t x u
sizes_went v = line_went (sizes_at v) (sizes_text v) (FitsSizes v) (sizes_gave v) (sizes_lines v)

pub event_went : (t : Text) (x : ℕ) (u : Text) → line_at event_at t ≡ Ok (x, u)
    → Went event_line IsShortNumber t x u
event_went = line_went event_at event_line IsShortNumber event_gave event_lines

pub edge_went : (t : Text) (x : HalfNote × HalfNote) (u : Text) → line_at edge_at t ≡ Ok (x, u)
    → Went edge_line FitsEdge t x u
edge_went = line_went edge_at edge_line FitsEdge edge_gave edge_lines

pub place_went : (t : Text) (x : PointPlace) (u : Text) → line_at place_at t ≡ Ok (x, u)
    → Went place_line FitsPlace t x u
place_went = line_went place_at place_line FitsPlace place_gave place_lines

pub end_went : (t : Text) (x : Unit {0}) (u : Text) → line_at end_at t ≡ Ok (x, u)
    → Went end_text IsAny t x u
end_went = line_went end_at end_text IsAny
    (λ bytes y rest h. (end_gave bytes y rest h, tt)) end_lines

pub areas_went : (t : Text) (x : ℕ) (u : Text) → line_at areas_at t ≡ Ok (x, u)
    → Went areas_text IsShortNumber t x u
areas_went = line_went areas_at areas_text IsShortNumber areas_gave areas_lines

pub version_went : (t : Text) (x : Version) (u : Text) → line_at version_at t ≡ Ok (x, u)
    → Went version_text IsVersion t x u
version_went =
    line_went version_at version_text IsVersion
    (λ bytes y rest h. (version_gave bytes y rest h, tt)) version_lines
