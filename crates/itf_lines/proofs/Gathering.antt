-- Fields that are gathered one after another are those of the line.
use Rattle.std.proofs.Common.{◌≡◌, ℕ, List, [], ◌∷◌, ◌++◌, ◌-◌, length, slice_set, None, Some, refl}
use Rattle.std.proofs.Common.{ap, sym, ◌∙◌, arith}
use Rattle.std.proofs.lemmas.List.{append_assoc, append-nil, length-append}
use Rattle.std.proofs.Math.Seq.{set-append_seam}
use Rattle.itf_lines.specs.declared.word.LineWord.{LineWord}
use Rattle.itf_lines.specs.LogicalLines.{line_with, without_first}
use Rattle.itf_lines.specs.Words.{word_of, word_in}
use Rattle.itf_lines.specs.PassStates.{OpenLine}
use Rattle.itf_lines.specs.Pass.{no_fields, with_word, with_others, with_field, with_fields}
use Rattle.itf_lines.specs.Pass.{line_in, any_line}

pub with_fields-append : (h : OpenLine) (a b : List (List ℕ))
    → with_fields h (a ++ b) ≡ with_fields (with_fields h a) b
with_fields-append h [] b = refl
with_fields-append h (f ∷ a) b = with_fields-append (with_field h f) a b

abbrev named : ℕ → LineWord → List (List ℕ) → OpenLine
named n w fs = record { number = n; word = Some w; fields = fs }

named_more : (n : ℕ) (w : LineWord) (xs fs : List (List ℕ))
    → with_fields (named n w xs) fs ≡ named n w (xs ++ fs)
named_more n w xs [] = ap (named n w) (sym (append-nil xs))
named_more n w xs (f ∷ fs) = named_more n w (xs ++ (f ∷ [])) fs
    ∙ ap (named n w) (append_assoc xs (f ∷ []) fs)

-- fields after the word

pub others : (h : OpenLine) (w : LineWord) (fs : List (List ℕ)) → h.word ≡ Some w
    → with_fields h fs ≡ with_others h fs
others h w fs e = rw e (named_more h.number w h.fields fs)

pub word_first : (h : OpenLine) (f : List ℕ) (fs : List (List ℕ)) → h.word ≡ None
    → with_fields h (f ∷ fs) ≡ with_others (record {
      number = h.number;
      word = Some (word_of f);
      fields = h.fields;
    }) fs
word_first h f fs e = rw e (named_more h.number (word_of f) h.fields fs)

pub begun : (n : ℕ) (f : List ℕ) (fs : List (List ℕ))
    → with_fields (no_fields n) (f ∷ fs) ≡ with_others (with_word n (word_of f)) fs
begun n f fs = word_first (no_fields n) f fs refl

-- a field that was added empty, and then filled
pub last_filled : (h : OpenLine) (xs : List (List ℕ)) (none field : List ℕ) (i : ℕ)
    → xs ≡ h.fields ++ (none ∷ []) → i ≡ length xs - 1
    → record {
      number = h.number;
      word = h.word;
      fields = slice_set xs i field;
    } ≡ with_others h (field ∷ [])
last_filled h xs none field i e l =
    let n : i ≡ length h.fields = l ∙ rw e (omega (arith, length-append h.fields (none ∷ []))) in
    rw (n, e, set-append_seam h.fields none [] field) refl

-- from nothing on, they make the line that has them
pub gathered_line : (n : ℕ) (fs : List (List ℕ))
    → line_in (with_fields (no_fields n) fs) ≡ line_with n fs
gathered_line n [] = refl
gathered_line n (f ∷ fs) = ap line_in (named_more n (word_of f) [] fs)

pub gathered_any : (n : ℕ) (fs : List (List ℕ))
    → any_line (with_fields (no_fields n) fs) ≡ record {
      number = n;
      word = word_in fs;
      fields = without_first fs;
    }
gathered_any n [] = refl
gathered_any n (f ∷ fs) = ap any_line (named_more n (word_of f) [] fs)
