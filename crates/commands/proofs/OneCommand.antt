-- The words spell one command only.
use Rattle.std.proofs.Common.{◌≡◌, List, ℕ, get_or, ap, refl, subst, arith}
use Rattle.commands.specs.Commands.{FileNames, Command, compile, on_files, trial, IsCommand}
use Rattle.commands.specs.Commands.{IsSpelled, verb_word}
use Rattle.commands.specs.declared.command.Verb.{Verb}
use Rattle.commands.specs.declared.command.Verb.TheVariants.{Check, Verify, Polygons, Canonical}
use Rattle.commands.specs.declared.command.Verb.TheVariants.{Points}
use Rattle.commands.proofs.CommandLemmas.{one_spelling, one_word, one_compile, not_both}
use Rattle.commands.proofs.TrialWords.{one_trial, no_compile, no_names}

-- verbs differ in their third letter
abbrev third : List ℕ → ℕ
third word = get_or word 2 0

one_verb : (v w : Verb) → verb_word v ≡ verb_word w → v ≡ w
one_verb Check Check e = refl
one_verb Check Verify e = absurd (let k : 101 ≡ 114 = ap third e in omega arith)
one_verb Check Polygons e = absurd (let k : 101 ≡ 108 = ap third e in omega arith)
one_verb Check Canonical e = absurd (let k : 101 ≡ 110 = ap third e in omega arith)
one_verb Check Points e = absurd (let k : 101 ≡ 105 = ap third e in omega arith)
one_verb Verify Check e = absurd (let k : 114 ≡ 101 = ap third e in omega arith)
one_verb Verify Verify e = refl
one_verb Verify Polygons e = absurd (let k : 114 ≡ 108 = ap third e in omega arith)
one_verb Verify Canonical e = absurd (let k : 114 ≡ 110 = ap third e in omega arith)
one_verb Verify Points e = absurd (let k : 114 ≡ 105 = ap third e in omega arith)
one_verb Polygons Check e = absurd (let k : 108 ≡ 101 = ap third e in omega arith)
one_verb Polygons Verify e = absurd (let k : 108 ≡ 114 = ap third e in omega arith)
one_verb Polygons Polygons e = refl
one_verb Polygons Canonical e = absurd (let k : 108 ≡ 110 = ap third e in omega arith)
one_verb Polygons Points e = absurd (let k : 108 ≡ 105 = ap third e in omega arith)
one_verb Canonical Check e = absurd (let k : 110 ≡ 101 = ap third e in omega arith)
one_verb Canonical Verify e = absurd (let k : 110 ≡ 114 = ap third e in omega arith)
one_verb Canonical Polygons e = absurd (let k : 110 ≡ 108 = ap third e in omega arith)
one_verb Canonical Canonical e = refl
one_verb Canonical Points e = absurd (let k : 110 ≡ 105 = ap third e in omega arith)
one_verb Points Check e = absurd (let k : 105 ≡ 101 = ap third e in omega arith)
one_verb Points Verify e = absurd (let k : 105 ≡ 114 = ap third e in omega arith)
one_verb Points Polygons e = absurd (let k : 105 ≡ 108 = ap third e in omega arith)
one_verb Points Canonical e = absurd (let k : 105 ≡ 110 = ap third e in omega arith)
one_verb Points Points e = refl

same_files : (words : List (List ℕ)) (v w : Verb) (c d : FileNames)
    → IsSpelled (verb_word v) words c → IsSpelled (verb_word w) words d
    → on_files v c ≡ on_files w d
same_files words v w c d h k =
    let e = one_verb v w (one_word words (verb_word v) (verb_word w) c d h k) in
    let n = one_spelling words (verb_word w) c d
    (subst (λ (x : Verb). IsSpelled (verb_word x) words c) e h) k in
    λ i. on_files (e i) (n i)

pub one_command : (words : List (List ℕ)) (c d : Command) → IsCommand words c → IsCommand words d
    → c ≡ d
one_command words (compile m) (compile n) h k = ap compile (one_compile words m n h k)
one_command words (compile m) (on_files w d) h k = absurd (not_both words m (verb_word w) d h k)
one_command words (compile m) (trial n a) h k = absurd (no_compile words n a m k h)
one_command words (on_files v c) (compile n) h k = absurd (not_both words n (verb_word v) c k h)
one_command words (on_files v c) (on_files w d) h k = same_files words v w c d h k
one_command words (on_files v c) (trial n a) h k = absurd (no_names words n a (verb_word v) c k h)
one_command words (trial n a) (compile m) h k = absurd (no_compile words n a m h k)
one_command words (trial n a) (on_files w d) h k = absurd (no_names words n a (verb_word w) d h k)
one_command words (trial m a) (trial n b) h k =
    let e = one_trial words m n a b h k in λ i. trial (e.0 i) (e.1 i)
