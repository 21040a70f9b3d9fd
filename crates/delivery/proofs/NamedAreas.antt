-- The names of areas are such as certificates can hold, and areas are few.
use Rattle.std.proofs.Common.{◌≡◌, ℕ, ◌+◌, ◌≤◌, Bool, true, false, not, ◌&&◌, ◌==◌, List, [], ◌∷◌}
use Rattle.std.proofs.Common.{length, Option, Some, refl, sym, ap, ◌∙◌, subst, arith, inl, inr}
use Rattle.std.specs.Prelude.{get_or, slice_get, slice_index_or}
use Rattle.std.specs.Char.{is_ascii_alphabetic}
use Rattle.std.specs.List.{All, AllPass, AllByRecursion}
use Rattle.std.proofs.lemmas.Bool.Decides.{eqb_tells}
use Rattle.std.proofs.lemmas.List.Elements.{All-head, All-tail}
use Rattle.std.proofs.lemmas.Option.{slice_get_within, slice_get-get_or}
use Rattle.ili_lexer.specs.Bytes.{is_name_byte as is_word_byte}
use Rattle.ili_lexer.specs.Forms.{IsName as IsWord}
use Rattle.certificate.specs.Spelling.{IsName, is_name_byte}
use Rattle.table_layout.specs.Layouts.{Table, AreaOf, Layout}
use Rattle.table_layout.specs.Valid.{IsArea, IsNamedArea, Rise, IsValid}
use Rattle.reports.specs.AreaNames.{HasTitle, name_at, topic_at}

-- ---- names of a model are names of a certificate
differ : true ≡ false → ⊥
differ e = cc

-- a byte that passes a test which a byte k fails is not k
is_other : (p : ℕ → Bool) (k c : ℕ) → p k ≡ false → p c ≡ true → (c == k) ≡ false
is_other p k c fails passes = elim (eqb_tells c k) as (λ z. (c == k) ≡ false) [
  | inl e ↦ absurd (differ (sym passes ∙ ap p e.1 ∙ fails))
  | inr n ↦ n.0
]

name_byte : (p : ℕ → Bool) → p 32 ≡ false → p 10 ≡ false → (c : ℕ) → p c ≡ true
    → is_name_byte c ≡ true
name_byte p blank lf c h =
    ap (λ (b : Bool). not b && not (c == 10)) (is_other p 32 c blank h)
    ∙ ap (λ (b : Bool). not false && not b) (is_other p 10 c lf h)

word_bytes : (bytes : List ℕ) → AllPass is_word_byte bytes
    → AllByRecursion (λ c. is_name_byte c ≡ true) bytes
word_bytes [] h = tt
word_bytes (c ∷ bytes) h = (
  name_byte is_word_byte refl refl c (All-head (λ x. is_word_byte x ≡ true) c bytes h),
  word_bytes bytes (All-tail (λ x. is_word_byte x ≡ true) c bytes h),
)

pub held_name : (bytes : List ℕ) → IsWord bytes → IsName bytes
held_name bytes w =
    subst IsName (sym w.made)
    (record {
      some = omega arith;
      bytes = (
        name_byte is_ascii_alphabetic refl refl w.first w.letter,
        word_bytes w.rest w.behind,
      );
    })

-- ---- areas are no more than tables
rising : (tables : List Table) (from : ℕ) (as_ : List AreaOf) → from ≤ length tables → Rise from as_
    → All (IsArea tables) as_ → from + length as_ ≤ length tables
rising tables from [] b r h = omega (arith, b)
rising tables from (a ∷ as_) b r h =
    let one = All-head (IsArea tables) a as_ h in
    let within = slice_get_within tables a.lines one.helper one.lines in
    omega (
      arith,
      r.0,
      rising tables (a.lines + 1) as_ (omega (arith, within)) r.1
          (All-tail (IsArea tables) a as_ h),
    )

pub areas_few : (l : Layout) → IsValid l → length l.areas ≤ 4194304
areas_few l v = omega (arith, v.few, rising l.tables 0 l.areas (omega arith) v.in_order v.areas)

-- ---- areas of a valid layout have names that a certificate can hold
module _ (l : Layout) (named : (k : ℕ) (a : AreaOf) → slice_get l.areas k ≡ Some a
    → IsNamedArea l a) where
  has_title : (a : AreaOf) → IsNamedArea l a → HasTitle l a
  has_title a n = record {
    topic = subst (λ (t : Option Table). IsName (topic_at l t)) (sym n.main)
        (held_name (slice_index_or l.topics n.table.topic []) n.topic_name);
    table = subst (λ (t : Option Table). IsName (name_at t)) (sym n.main)
        (held_name n.table.name n.table_name);
    attribute = held_name a.name n.name;
  }

  pub all_titled : All (HasTitle l) l.areas
  all_titled k a lt =
      has_title (get_or l.areas k a)
      (named k (get_or l.areas k a) (slice_get-get_or l.areas k a lt))
