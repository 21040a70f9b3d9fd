-- What a form finds in a line does not depend on the bytes after the line.
use Rattle.std.proofs.Common.{◌≡◌, ℕ, Bool, true, false, cond, nat_eq, List, []}
use Rattle.std.proofs.Common.{◌∷◌, ◌++◌, length, Option, Some, None, refl, ap}
use Rattle.std.proofs.Common.{append_assoc, arith}
use Rattle.std.specs.Prelude.{codes, ⊤}
use Rattle.std.specs.List.{prefix_len, AllByRecursion}
use Rattle.std.specs.Char.{is_ascii_digit}
use Rattle.std.proofs.lemmas.Bool.{eqb-true}
use Rattle.std.proofs.lemmas.List.{take_at, drop_at}
use Rattle.certificate.specs.Spelling.{is_name_byte}
use Rattle.certificate.specs.Parts.{◌>>=◌, Line, after_word, front_of, name_at, number, number_at}
use Rattle.certificate.specs.Parts.{across, link_at, half_at, edge_at}
use Rattle.certificate.specs.Parts.{numbered_at, event_at, side_at, tube_at, cell_at}
use Rattle.certificate.specs.Parts.{place_after, place_at, title_at, counts_of, bent_at}
use Rattle.certificate.specs.Parts.{are_sizes, if_sizes, sizes_at, if_known, version_at, areas_at}
use Rattle.certificate.specs.Parts.{end_at}
use Rattle.certificate.specs.declared.forms.Version.{Version}
use Rattle.certificate.specs.declared.forms.Version.TheVariants.{One, Two}
use Rattle.certificate.specs.declared.forms.Counts.{Counts}
use Rattle.certificate.specs.declared.forms.Sizes.{Sizes}
use Rattle.certificate.specs.Feeding.{EndsLine}
use Rattle.certificate.proofs.FirstLines.{IsInner}

-- one or more bytes, of which the last is LF
abbrev pub IsLines : List ℕ → Type 0
IsLines [] = ⊥
IsLines (c ∷ []) = c ≡ 10
IsLines (c ∷ d ∷ bytes) = IsLines (d ∷ bytes)

-- what is found, with more bytes after it
abbrev pub grown : {A : Type 0} → List ℕ → Option (A × List ℕ) → Option (A × List ℕ)
grown rest None = None
grown rest (Some found) = Some (found.0, found.1 ++ rest)

abbrev pub Left : {A : Type 0} → (List ℕ → Type 0) → Option (A × List ℕ) → Type 0
Left Q None = ⊤
Left Q (Some found) = Q found.1

-- with more bytes the same is found, and what is left after it is so
abbrev pub IsGrown : {A : Type 0} → (List ℕ → Type 0) → List ℕ → Option (A × List ℕ)
    → Option (A × List ℕ) → Type 0
IsGrown Q rest o p = (p ≡ grown rest o) × Left Q o

abbrev grown_word : List ℕ → Option (List ℕ) → Option (List ℕ)
grown_word rest None = None
grown_word rest (Some bytes) = Some (bytes ++ rest)

abbrev LeftWord : (List ℕ → Type 0) → Option (List ℕ) → Type 0
LeftWord Q None = ⊤
LeftWord Q (Some bytes) = Q bytes

abbrev IsGrownWord : (List ℕ → Type 0) → List ℕ → Option (List ℕ) → Option (List ℕ) → Type 0
IsGrownWord Q rest o p = (p ≡ grown_word rest o) × LeftWord Q o

then_grown : {A B : Type 0} (Q : List ℕ → Type 0) (rest : List ℕ) (o p : Option (A × List ℕ))
    (f : A × List ℕ → Option (B × List ℕ))
    → IsGrown IsLines rest o p
    → ((x : A) (r : List ℕ) → IsLines r → IsGrown Q rest (f (x, r)) (f (x, r ++ rest)))
    → IsGrown Q rest (o >>= f) (p >>= f)
then_grown Q rest None p f h k = rw h.0 (refl, tt)
then_grown Q rest (Some x) p f h k = rw h.0 (k x.0 x.1 h.1)

-- the end of a line, after which the form ends
ends_grown : {A : Type 0} (rest : List ℕ) (o p : Option (List ℕ)) (f : List ℕ → Option (A × List ℕ))
    → IsGrownWord EndsLine rest o p
    → ((r : List ℕ) → EndsLine r → IsGrown EndsLine rest (f r) (f (r ++ rest)))
    → IsGrown EndsLine rest (o >>= f) (p >>= f)
ends_grown rest None p f h k = rw h.0 (refl, tt)
ends_grown rest (Some r) p f h k = rw h.0 (k r h.1)

word_then : {A : Type 0} (Q : List ℕ → Type 0) (rest : List ℕ) (o p : Option (List ℕ)) (f : List ℕ
    → Option (A × List ℕ))
    → IsGrownWord IsLines rest o p
    → ((r : List ℕ) → IsLines r → IsGrown Q rest (f r) (f (r ++ rest)))
    → IsGrown Q rest (o >>= f) (p >>= f)
word_then Q rest None p f h k = rw h.0 (refl, tt)
word_then Q rest (Some r) p f h k = rw h.0 (k r h.1)

-- ---- words

-- after a byte that is no LF there is a line
inner_left : (c : ℕ) (bytes : List ℕ) → nat_eq c 10 ≡ false → IsLines (c ∷ bytes) → IsLines bytes
inner_left c [] h l = absurd (cc)
inner_left c (d ∷ bytes) h l = l

last_left : (c : ℕ) (bytes : List ℕ) → IsLines (c ∷ bytes) → EndsLine bytes
last_left c [] l = tt
last_left c (d ∷ []) l = l
last_left c (d ∷ e ∷ bytes) l = last_left d (e ∷ bytes) l

by_byte : (Q : List ℕ → Type 0) (rest : List ℕ) (c d : ℕ) (word bytes : List ℕ) (b : Bool)
    → nat_eq d c ≡ b
    → (b ≡ true → IsGrownWord Q rest (after_word word bytes) (after_word word (bytes ++ rest)))
    → IsGrownWord Q rest (after_word (c ∷ word) (d ∷ bytes))
    (after_word (c ∷ word) ((d ∷ bytes) ++ rest))
by_byte Q rest c d word bytes true e h = rw e (h refl)
by_byte Q rest c d word bytes false e h = rw e (refl, tt)

word_grown : (rest word bytes : List ℕ) → AllByRecursion IsInner word → IsLines bytes
    → IsGrownWord IsLines rest (after_word word bytes) (after_word word (bytes ++ rest))
word_grown rest [] bytes h l = (refl, l)
word_grown rest (c ∷ word) [] h l = absurd l
word_grown rest (c ∷ word) (d ∷ bytes) h l =
    by_byte IsLines rest c d word bytes (nat_eq d c) refl
    (λ e. let same : d ≡ c = eqb-true d c e in
    word_grown rest word bytes h.1 (inner_left d bytes (rw same h.0) l))

-- a word and LF
end_grown : (rest word bytes : List ℕ) → AllByRecursion IsInner word → IsLines bytes
    → IsGrownWord EndsLine rest (after_word (word ++ codes "\n") bytes)
    (after_word (word ++ codes "\n") (bytes ++ rest))
end_grown rest word [] h l = absurd l
end_grown rest [] (d ∷ bytes) h l =
    by_byte EndsLine rest 10 d [] bytes (nat_eq d 10) refl (λ e. (refl, last_left d bytes l))
end_grown rest (c ∷ word) (d ∷ bytes) h l =
    by_byte EndsLine rest c d (word ++ codes "\n") bytes (nat_eq d c) refl
    (λ e. let same : d ≡ c = eqb-true d c e in
    end_grown rest word bytes h.1 (inner_left d bytes (rw same h.0) l))

blank_grown : (rest bytes : List ℕ) → IsLines bytes
    → IsGrownWord IsLines rest (after_word (codes " ") bytes)
    (after_word (codes " ") (bytes ++ rest))
blank_grown rest bytes l = word_grown rest (codes " ") bytes (refl, tt) l

lf_grown : (rest bytes : List ℕ) → IsLines bytes
    → IsGrownWord EndsLine rest (after_word (codes "\n") bytes)
    (after_word (codes "\n") (bytes ++ rest))
lf_grown rest bytes l = end_grown rest [] bytes tt l

-- ---- runs

-- a run at the front of a line, and what is left of the line
record Run (p : ℕ → Bool) (rest bytes : List ℕ) : Type 0 where
  run : List ℕ
  left : List ℕ
  is : bytes ≡ run ++ left
  lines : IsLines left
  here : prefix_len p bytes ≡ length run
  there : prefix_len p (bytes ++ rest) ≡ length run

passes_inner : (p : ℕ → Bool) (c : ℕ) → p 10 ≡ false → p c ≡ true → nat_eq c 10 ≡ false
passes_inner p c h e = by_test (nat_eq c 10) refl
  where
    by_test : (b : Bool) → nat_eq c 10 ≡ b → b ≡ false
    by_test false g = refl
    by_test true g =
        let same : c ≡ 10 = eqb-true c 10 g in let f : p c ≡ false = rw same h in absurd (cc)

run_by_first : (p : ℕ → Bool) (rest : List ℕ) (c : ℕ) (bytes : List ℕ) (b : Bool) → p c ≡ b
    → IsLines (c ∷ bytes)
    → (b ≡ true → Run p rest bytes) → Run p rest (c ∷ bytes)
run_by_first p rest c bytes false e l k =
    record { run = []; left = c ∷ bytes; is = refl; lines = l; here = rw e refl; there = rw e refl }
run_by_first p rest c bytes true e l k =
    let r = k refl in
    record {
      run = c ∷ r.run;
      left = r.left;
      is = ap (λ (x : List ℕ). c ∷ x) r.is;
      lines = r.lines;
      here = rw (e, r.here) (omega arith);
      there = rw (e, r.there) (omega arith);
    }

run_of : (p : ℕ → Bool) (rest bytes : List ℕ) → p 10 ≡ false → IsLines bytes → Run p rest bytes
run_of p rest [] h l = absurd l
run_of p rest (c ∷ bytes) h l =
    run_by_first p rest c bytes (p c) refl l
    (λ e. run_of p rest bytes h (inner_left c bytes (passes_inner p c h e) l))

front_grown : {A : Type 0} (value : List ℕ → A) (p : ℕ → Bool) (rest bytes : List ℕ) → p 10 ≡ false
    → IsLines bytes
    → IsGrown IsLines rest (front_of value (prefix_len p bytes) bytes)
    (front_of value (prefix_len p (bytes ++ rest)) (bytes ++ rest))
front_grown {A = A} value p rest bytes h l =
    let r = run_of p rest bytes h l in
    rw (r.here, r.there) (cut r.run r.left bytes r.is r.lines)
  where
    by_length : (b : Bool) (x : A) (left : List ℕ) → IsLines left
        → IsGrown IsLines rest (cond b None (Some (x, left))) (cond b None (Some (x, left ++ rest)))
    by_length true x left k = (refl, tt)
    by_length false x left k = (refl, k)

    cut : (run left bytes : List ℕ) → bytes ≡ run ++ left → IsLines left
        → IsGrown IsLines rest (front_of value (length run) bytes)
        (front_of value (length run) (bytes ++ rest))
    cut run left bytes e k =
        let there : bytes ++ rest ≡ run ++ (left ++ rest) = rw e (simp append_assoc) in
        rw (
          there,
          e,
          take_at run left (length run) refl,
          drop_at run left (length run) refl,
          take_at run (left ++ rest) (length run) refl,
          drop_at run (left ++ rest) (length run) refl,
        )
        (by_length (nat_eq (length run) 0) (value run) left k)

name_grown : (rest bytes : List ℕ) → IsLines bytes
    → IsGrown IsLines rest (name_at bytes) (name_at (bytes ++ rest))
name_grown rest bytes l = front_grown (λ name. name) is_name_byte rest bytes refl l

number_grown : (rest bytes : List ℕ) → IsLines bytes
    → IsGrown IsLines rest (number_at bytes) (number_at (bytes ++ rest))
number_grown rest bytes l = front_grown number is_ascii_digit rest bytes refl l

-- ---- notes

by_letter : {A : Type 0} (rest : List ℕ) (b : Bool) (x : A) (bytes : List ℕ)
    (o p : Option (A × List ℕ))
    → (b ≡ true → IsLines bytes) → IsGrown IsLines rest o p
    → IsGrown IsLines rest (cond b (Some (x, bytes)) o) (cond b (Some (x, bytes ++ rest)) p)
by_letter rest true x bytes o p h k = (refl, h refl)
by_letter rest false x bytes o p h k = k

by_across : {A : Type 0} (rest : List ℕ) (b : Bool) (o p : Option (A × List ℕ))
    → (b ≡ true → IsGrown IsLines rest o p) → IsGrown IsLines rest (cond b o None) (cond b p None)
by_across rest true o p h = h refl
by_across rest false o p h = (refl, tt)

-- after a letter that is no LF there is a line
letter_left : (c d : ℕ) (bytes : List ℕ) → nat_eq d 10 ≡ false → IsLines (c ∷ bytes)
    → nat_eq c d ≡ true
    → IsLines bytes
letter_left c d bytes h l e = let same : c ≡ d = eqb-true c d e in inner_left c bytes (rw same h) l

link_grown : (rest bytes : List ℕ) → IsLines bytes
    → IsGrown IsLines rest (link_at bytes) (link_at (bytes ++ rest))
link_grown rest [] l = absurd l
link_grown rest (c ∷ bytes) l =
    by_letter rest (nat_eq c 82) _ bytes _ _ (letter_left c 82 bytes refl l)
    (by_letter rest (nat_eq c 78) _ bytes _ _ (letter_left c 78 bytes refl l)
    (by_letter rest (nat_eq c 80) _ bytes _ _ (letter_left c 80 bytes refl l)
    (by_across rest (nat_eq c 67) _ _ (λ e.
    then_grown IsLines rest (number_at bytes) _ (λ n. Some (across n.0, n.1))
    (number_grown rest bytes (letter_left c 67 bytes refl l e)) (λ x r k. (refl, k))))))

side_grown : (rest bytes : List ℕ) → IsLines bytes
    → IsGrown IsLines rest (side_at bytes) (side_at (bytes ++ rest))
side_grown rest [] l = absurd l
side_grown rest (c ∷ bytes) l =
    by_letter rest (nat_eq c 73) true bytes _ _ (letter_left c 73 bytes refl l)
    (by_letter rest (nat_eq c 79) false bytes None None (letter_left c 79 bytes refl l) (refl, tt))

half_grown : (rest bytes : List ℕ) → IsLines bytes
    → IsGrown IsLines rest (half_at bytes) (half_at (bytes ++ rest))
unfolding half_at
half_grown rest bytes l =
    then_grown IsLines rest (number_at bytes) _ _ (number_grown rest bytes l) (λ label a la.
    word_then IsLines rest (after_word (codes " ") a) _ _ (blank_grown rest a la) (λ b lb.
    then_grown IsLines rest (link_at b) _ _ (link_grown rest b lb) (λ link c lc.
    word_then IsLines rest (after_word (codes " ") c) _ _ (blank_grown rest c lc) (λ d ld.
    then_grown IsLines rest (number_at d) _ _ (number_grown rest d ld) (λ rank e le. (refl, le))))))

-- ---- the lines

-- with more bytes after its lines a form finds the same
abbrev pub IsLocal : {A : Type 0} → (List ℕ → Line A) → Type 0
IsLocal form = (rest bytes : List ℕ) → IsLines bytes
    → IsGrown EndsLine rest (form bytes) (form (bytes ++ rest))

pub edge_local : IsLocal edge_at
unfolding edge_at
edge_local rest bytes l =
    word_then EndsLine rest (after_word (codes "E ") bytes) _ _
    (word_grown rest (codes "E ") bytes (refl, (refl, tt)) l) (λ a la.
    then_grown EndsLine rest (half_at a) _ _ (half_grown rest a la) (λ below b lb.
    word_then EndsLine rest (after_word (codes " ") b) _ _ (blank_grown rest b lb) (λ c lc.
    then_grown EndsLine rest (half_at c) _ _ (half_grown rest c lc) (λ above d ld.
    ends_grown rest (after_word (codes "\n") d) _ _ (lf_grown rest d ld) (λ e le. (refl, le))))))

numbered_local : (word : List ℕ) → AllByRecursion IsInner word → IsLocal (numbered_at word)
unfolding numbered_at
numbered_local word h rest bytes l =
    word_then EndsLine rest (after_word word bytes) _ _ (word_grown rest word bytes h l) (λ a la.
    then_grown EndsLine rest (number_at a) _ _ (number_grown rest a la) (λ n b lb.
    ends_grown rest (after_word (codes "\n") b) _ _ (lf_grown rest b lb) (λ c lc. (refl, lc))))

pub event_local : IsLocal event_at
event_local = numbered_local (codes "V ") (refl, (refl, tt))

pub areas_local : IsLocal areas_at
areas_local = numbered_local (codes "AREAS ") (refl, (refl, (refl, (refl, (refl, (refl, tt))))))

-- a form of a line that was found, and what it gives
line_then : {A B : Type 0} (rest : List ℕ) (o p : Line A) (f : Option A × List ℕ → Line B)
    → IsGrown EndsLine rest o p
    → ((x : Option A) (r : List ℕ) → EndsLine r
    → IsGrown EndsLine rest (f (x, r)) (f (x, r ++ rest)))
    → IsGrown EndsLine rest (o >>= f) (p >>= f)
line_then rest None p f h k = rw h.0 (refl, tt)
line_then rest (Some x) p f h k = rw h.0 (k x.0 x.1 h.1)

known_grown : (rest : List ℕ) (o : Option ℕ) (r : List ℕ) → EndsLine r
    → IsGrown EndsLine rest (if_known o r) (if_known o (r ++ rest))
known_grown rest None r h = (refl, h)
known_grown rest (Some version) r h = by_one (nat_eq version 1) (nat_eq version 2)
  where
    by_one : (b d : Bool)
        → IsGrown EndsLine rest (cond b (Some (Some One, r)) (cond d (Some (Some Two, r)) None))
        (cond b (Some (Some One, r ++ rest)) (cond d (Some (Some Two, r ++ rest)) None))
    by_one true d = (refl, h)
    by_one false true = (refl, h)
    by_one false false = (refl, tt)

pub version_local : IsLocal version_at
unfolding version_at
version_local rest bytes l =
    line_then rest (numbered_at (codes "ITFCERT ") bytes) _ _
    (numbered_local (codes "ITFCERT ")
    (refl, (refl, (refl, (refl, (refl, (refl, (refl, (refl, tt)))))))) rest bytes l)
    (λ n r h. known_grown rest n r h)

tube_local : (rest bytes : List ℕ) → IsLines bytes
    → IsGrown EndsLine rest (tube_at bytes) (tube_at (bytes ++ rest))
unfolding tube_at
tube_local rest bytes l =
    then_grown EndsLine rest (number_at bytes) _ _ (number_grown rest bytes l) (λ curve a la.
    word_then EndsLine rest (after_word (codes " ") a) _ _ (blank_grown rest a la) (λ b lb.
    then_grown EndsLine rest (side_at b) _ _ (side_grown rest b lb) (λ side c lc.
    ends_grown rest (after_word (codes "\n") c) _ _ (lf_grown rest c lc) (λ d ld. (refl, ld)))))

cell_local : IsLocal cell_at
unfolding cell_at
cell_local rest bytes l =
    line_then rest (numbered_at (codes "P ") bytes) _ _
    (numbered_local (codes "P ") (refl, (refl, tt)) rest bytes l) (λ n r h. (refl, h))

place_by : (rest bytes : List ℕ) (o p : Option (List ℕ)) → IsLines bytes
    → IsGrownWord IsLines rest o p
    → IsGrown EndsLine rest (place_after bytes o) (place_after (bytes ++ rest) p)
place_by rest bytes None p l h = rw h.0 (cell_local rest bytes l)
place_by rest bytes (Some r) p l h = rw h.0 (tube_local rest r h.1)

pub place_local : IsLocal place_at
place_local rest bytes l =
    place_by rest bytes (after_word (codes "P T ") bytes) _ l
    (word_grown rest (codes "P T ") bytes (refl, (refl, (refl, (refl, tt)))) l)

pub title_local : IsLocal title_at
unfolding title_at
title_local rest bytes l =
    word_then EndsLine rest (after_word (codes "AREA ") bytes) _ _
    (word_grown rest (codes "AREA ") bytes (refl, (refl, (refl, (refl, (refl, tt))))) l)
    (λ a la.
    then_grown EndsLine rest (name_at a) _ _ (name_grown rest a la) (λ topic b lb.
    word_then EndsLine rest (after_word (codes " ") b) _ _ (blank_grown rest b lb) (λ c lc.
    then_grown EndsLine rest (name_at c) _ _ (name_grown rest c lc) (λ table d ld.
    word_then EndsLine rest (after_word (codes " ") d) _ _ (blank_grown rest d ld) (λ e le.
    then_grown EndsLine rest (name_at e) _ _ (name_grown rest e le) (λ attribute f lf.
    ends_grown rest (after_word (codes "\n") f) _ _ (lf_grown rest f lf) (λ g lg. (refl, lg))))))))

bent_grown : (v : Version) (rest bytes : List ℕ) → IsLines bytes
    → IsGrown IsLines rest (bent_at v bytes) (bent_at v (bytes ++ rest))
bent_grown One rest bytes l = (refl, l)
bent_grown Two rest bytes l =
    word_then IsLines rest (after_word (codes " ") bytes) _ _ (blank_grown rest bytes l)
    (λ r k. number_grown rest r k)

sizes_grown : (rest : List ℕ) (level bent : Option ℕ) (counts : Option Counts) (r : List ℕ)
    → EndsLine r
    → IsGrown EndsLine rest (if_sizes level bent counts r) (if_sizes level bent counts (r ++ rest))
sizes_grown rest None bent counts r h = (refl, h)
sizes_grown rest (Some level) None counts r h = (refl, h)
sizes_grown rest (Some level) (Some bent) None r h = (refl, h)
sizes_grown rest (Some level) (Some bent) (Some counts) r h =
    by_range (are_sizes level bent)
    (Some (record { level = level; bent = nat_eq bent 1; counts = counts }))
  where
    by_range : (b : Bool) (x : Option Sizes)
        → IsGrown EndsLine rest (cond b (Some (x, r)) None) (cond b (Some (x, r ++ rest)) None)
    by_range true x = (refl, h)
    by_range false x = (refl, tt)

pub sizes_local : (v : Version) → IsLocal (sizes_at v)
unfolding sizes_at
sizes_local v rest bytes l =
    word_then EndsLine rest (after_word (codes "SIZES ") bytes) _ _
    (word_grown rest (codes "SIZES ") bytes
    (refl, (refl, (refl, (refl, (refl, (refl, tt)))))) l) (λ a la.
    then_grown EndsLine rest (number_at a) _ _ (number_grown rest a la) (λ level b lb.
    then_grown EndsLine rest (bent_at v b) _ _ (bent_grown v rest b lb) (λ bent c lc.
    word_then EndsLine rest (after_word (codes " ") c) _ _ (blank_grown rest c lc) (λ d ld.
    then_grown EndsLine rest (number_at d) _ _ (number_grown rest d ld) (λ edges e le.
    word_then EndsLine rest (after_word (codes " ") e) _ _ (blank_grown rest e le) (λ f lf.
    then_grown EndsLine rest (number_at f) _ _ (number_grown rest f lf) (λ events g lg.
    word_then EndsLine rest (after_word (codes " ") g) _ _ (blank_grown rest g lg) (λ h lh.
    then_grown EndsLine rest (number_at h) _ _ (number_grown rest h lh) (λ points i li.
    ends_grown rest (after_word (codes "\n") i) _ _ (lf_grown rest i li) (λ j lj.
    sizes_grown rest level bent (counts_of edges events points) j lj))))))))))

pub end_local : IsLocal end_at
unfolding end_at
end_local rest bytes l =
    ends_grown rest (after_word (codes "END\n") bytes) _ _
    (end_grown rest (codes "END") bytes (refl, (refl, (refl, tt))) l) (λ r h. (refl, h))
