use Rattle.ili_grammar.specs.Machine.{a_type}
use Rattle.ili_grammar.proofs.NoType.{stuck_word}
use Rattle.ili_grammar.proofs.Follow.{by_token, by_way, handed, within}
use Rattle.std.proofs.Common.{◌+◌, subst, refl}
use Rattle.ili_lexer.specs.declared.keywords.Keyword.{Keyword}
use Rattle.ili_grammar.specs.Tokens.{word, COORD2, COORD3, DEGREES, DIM1, DIM2, GRADS, RADIANS}
use Rattle.ili_grammar.specs.Tokens.{TEXT}
use Rattle.ili_grammar.specs.Slices.{word_of}
use Rattle.ili_grammar.specs.Steps.{rest, Leads, all}
use Rattle.ili_grammar.specs.Values.{decimal_of, span_of, corners2_of, corners3_of}
use Rattle.ili_grammar.proofs.Views.{type-text, type-coord2, type-coord3, type-dim1, type-dim2}
use Rattle.ili_grammar.proofs.Views.{type-radians, type-grads, type-degrees}
use Rattle.ili_grammar.proofs.RulesRead.{text_read, coord2_read, coord3_read, dim1_read, dim2_read}
use Rattle.ili_grammar.proofs.RulesRead.{radians_read, grads_read, degrees_read}
use Rattle.ili_grammar.proofs.source.Source.number_type.Goals as goal

pub returns-in_ok-length-in-Text-clause-reads : goal.returns-in_ok-length-in-Text-clause-reads
returns-in_ok-length-in-Text-clause-reads c =
    let r = rest c.args.self.now in
    text_read c.args.depth _ (decimal_of c.in_ok-length-in-Text.length) (r c.args.at)
    (r (c.args.at + 1)) (r c.in_ok-length-in-Text.next) (type-text _)
    (subst (λ (k : Keyword). Leads (word (word_of k)) (r c.args.at) (r (c.args.at + 1)))
    c.in-Text.is c.requires.begun) c.in_ok-length-in-Text.ensures.reads

pub returns-in_ok-corners-in-Coord2-clause-reads : goal.returns-in_ok-corners-in-Coord2-clause-reads
returns-in_ok-corners-in-Coord2-clause-reads c =
    let r = rest c.args.self.now in
    coord2_read c.args.depth _ (corners2_of c.in_ok-corners-in-Coord2.corners) (r c.args.at)
    (r (c.args.at + 1)) (r c.in_ok-corners-in-Coord2.next) (type-coord2 _)
    (subst (λ (k : Keyword). Leads (word (word_of k)) (r c.args.at) (r (c.args.at + 1)))
    c.in-Coord2.is c.requires.begun) c.in_ok-corners-in-Coord2.ensures.reads

pub returns-in_ok-corners-in-Coord3-clause-reads : goal.returns-in_ok-corners-in-Coord3-clause-reads
returns-in_ok-corners-in-Coord3-clause-reads c =
    let r = rest c.args.self.now in
    coord3_read c.args.depth _ (corners3_of c.in_ok-corners-in-Coord3.corners) (r c.args.at)
    (r (c.args.at + 1)) (r c.in_ok-corners-in-Coord3.next) (type-coord3 _)
    (subst (λ (k : Keyword). Leads (word (word_of k)) (r c.args.at) (r (c.args.at + 1)))
    c.in-Coord3.is c.requires.begun) c.in_ok-corners-in-Coord3.ensures.reads

pub returns-in_ok-span-in-Dim1-clause-reads : goal.returns-in_ok-span-in-Dim1-clause-reads
returns-in_ok-span-in-Dim1-clause-reads c =
    let r = rest c.args.self.now in
    dim1_read c.args.depth _ (span_of c.in_ok-span-in-Dim1.span) (r c.args.at) (r (c.args.at + 1))
    (r c.in_ok-span-in-Dim1.next) (type-dim1 _)
    (subst (λ (k : Keyword). Leads (word (word_of k)) (r c.args.at) (r (c.args.at + 1)))
    c.in-Dim1.is c.requires.begun) c.in_ok-span-in-Dim1.ensures.reads

pub returns-in_ok-span-in-Dim2-clause-reads : goal.returns-in_ok-span-in-Dim2-clause-reads
returns-in_ok-span-in-Dim2-clause-reads c =
    let r = rest c.args.self.now in
    dim2_read c.args.depth _ (span_of c.in_ok-span-in-Dim2.span) (r c.args.at) (r (c.args.at + 1))
    (r c.in_ok-span-in-Dim2.next) (type-dim2 _)
    (subst (λ (k : Keyword). Leads (word (word_of k)) (r c.args.at) (r (c.args.at + 1)))
    c.in-Dim2.is c.requires.begun) c.in_ok-span-in-Dim2.ensures.reads

pub returns-in_ok-span-in-Radians-clause-reads : goal.returns-in_ok-span-in-Radians-clause-reads
returns-in_ok-span-in-Radians-clause-reads c =
    let r = rest c.args.self.now in
    radians_read c.args.depth _ (span_of c.in_ok-span-in-Radians.span) (r c.args.at)
    (r (c.args.at + 1)) (r c.in_ok-span-in-Radians.next) (type-radians _)
    (subst (λ (k : Keyword). Leads (word (word_of k)) (r c.args.at) (r (c.args.at + 1)))
    c.in-Radians.is c.requires.begun) c.in_ok-span-in-Radians.ensures.reads

pub returns-in_ok-span-in-Grads-clause-reads : goal.returns-in_ok-span-in-Grads-clause-reads
returns-in_ok-span-in-Grads-clause-reads c =
    let r = rest c.args.self.now in
    grads_read c.args.depth _ (span_of c.in_ok-span-in-Grads.span) (r c.args.at) (r (c.args.at + 1))
    (r c.in_ok-span-in-Grads.next) (type-grads _)
    (subst (λ (k : Keyword). Leads (word (word_of k)) (r c.args.at) (r (c.args.at + 1)))
    c.in-Grads.is c.requires.begun) c.in_ok-span-in-Grads.ensures.reads

pub returns-in_ok-span-in-Degrees-clause-reads : goal.returns-in_ok-span-in-Degrees-clause-reads
returns-in_ok-span-in-Degrees-clause-reads c =
    let r = rest c.args.self.now in
    degrees_read c.args.depth _ (span_of c.in_ok-span-in-Degrees.span) (r c.args.at)
    (r (c.args.at + 1)) (r c.in_ok-span-in-Degrees.next) (type-degrees _)
    (subst (λ (k : Keyword). Leads (word (word_of k)) (r c.args.at) (r (c.args.at + 1)))
    c.in-Degrees.is c.requires.begun) c.in_ok-span-in-Degrees.ensures.reads

pub returns-in_err-length-in-Text-clause-stops : goal.returns-in_err-length-in-Text-clause-stops
returns-in_err-length-in-Text-clause-stops c =
    handed _ _ _ c.from_residual.ensures.1
    (within _ (by_token (a_type c.args.depth) (word TEXT) _ (rest c.args.self.now c.args.at)
    (rest c.args.self.now (c.args.at + 1)) (λ i. refl)
    (subst (λ (k : Keyword). Leads (word (word_of k)) (rest c.args.self.now c.args.at)
    (rest c.args.self.now (c.args.at + 1))) c.in-Text.is c.requires.begun))
    c.in_err-length-in-Text.ensures.stops)

pub returns-in_ok-length-in-Text-clause-runs : goal.returns-in_ok-length-in-Text-clause-runs
returns-in_ok-length-in-Text-clause-runs c =
    by_way _ (by_token (a_type c.args.depth) (word TEXT) _ (rest c.args.self.now c.args.at)
    (rest c.args.self.now (c.args.at + 1)) (λ i. refl)
    (subst (λ (k : Keyword). Leads (word (word_of k)) (rest c.args.self.now c.args.at)
    (rest c.args.self.now (c.args.at + 1))) c.in-Text.is c.requires.begun))
    c.in_ok-length-in-Text.ensures.runs

pub returns-in_err-corners-in-Coord2-clause-stops : goal.returns-in_err-corners-in-Coord2-clause-stops
returns-in_err-corners-in-Coord2-clause-stops c =
    handed _ _ _ c.from_residual-in_err-corners-in-Coord2.ensures.1
    (within _ (by_token (a_type c.args.depth) (word COORD2) _ (rest c.args.self.now c.args.at)
    (rest c.args.self.now (c.args.at + 1)) (λ i. refl)
    (subst (λ (k : Keyword). Leads (word (word_of k)) (rest c.args.self.now c.args.at)
    (rest c.args.self.now (c.args.at + 1))) c.in-Coord2.is c.requires.begun))
    c.in_err-corners-in-Coord2.ensures.stops)

pub returns-in_ok-corners-in-Coord2-clause-runs : goal.returns-in_ok-corners-in-Coord2-clause-runs
returns-in_ok-corners-in-Coord2-clause-runs c =
    by_way _ (by_token (a_type c.args.depth) (word COORD2) _ (rest c.args.self.now c.args.at)
    (rest c.args.self.now (c.args.at + 1)) (λ i. refl)
    (subst (λ (k : Keyword). Leads (word (word_of k)) (rest c.args.self.now c.args.at)
    (rest c.args.self.now (c.args.at + 1))) c.in-Coord2.is c.requires.begun))
    c.in_ok-corners-in-Coord2.ensures.runs

pub returns-in_err-corners-in-Coord3-clause-stops : goal.returns-in_err-corners-in-Coord3-clause-stops
returns-in_err-corners-in-Coord3-clause-stops c =
    handed _ _ _ c.from_residual-in_err-corners-in-Coord3.ensures.1
    (within _ (by_token (a_type c.args.depth) (word COORD3) _ (rest c.args.self.now c.args.at)
    (rest c.args.self.now (c.args.at + 1)) (λ i. refl)
    (subst (λ (k : Keyword). Leads (word (word_of k)) (rest c.args.self.now c.args.at)
    (rest c.args.self.now (c.args.at + 1))) c.in-Coord3.is c.requires.begun))
    c.in_err-corners-in-Coord3.ensures.stops)

pub returns-in_ok-corners-in-Coord3-clause-runs : goal.returns-in_ok-corners-in-Coord3-clause-runs
returns-in_ok-corners-in-Coord3-clause-runs c =
    by_way _ (by_token (a_type c.args.depth) (word COORD3) _ (rest c.args.self.now c.args.at)
    (rest c.args.self.now (c.args.at + 1)) (λ i. refl)
    (subst (λ (k : Keyword). Leads (word (word_of k)) (rest c.args.self.now c.args.at)
    (rest c.args.self.now (c.args.at + 1))) c.in-Coord3.is c.requires.begun))
    c.in_ok-corners-in-Coord3.ensures.runs

pub returns-in_err-span-in-Dim1-clause-stops : goal.returns-in_err-span-in-Dim1-clause-stops
returns-in_err-span-in-Dim1-clause-stops c =
    handed _ _ _ c.from_residual-in_err-span-in-Dim1.ensures.1
    (within _ (by_token (a_type c.args.depth) (word DIM1) _ (rest c.args.self.now c.args.at)
    (rest c.args.self.now (c.args.at + 1)) (λ i. refl)
    (subst (λ (k : Keyword). Leads (word (word_of k)) (rest c.args.self.now c.args.at)
    (rest c.args.self.now (c.args.at + 1))) c.in-Dim1.is c.requires.begun))
    c.in_err-span-in-Dim1.ensures.stops)

pub returns-in_ok-span-in-Dim1-clause-runs : goal.returns-in_ok-span-in-Dim1-clause-runs
returns-in_ok-span-in-Dim1-clause-runs c =
    by_way _ (by_token (a_type c.args.depth) (word DIM1) _ (rest c.args.self.now c.args.at)
    (rest c.args.self.now (c.args.at + 1)) (λ i. refl)
    (subst (λ (k : Keyword). Leads (word (word_of k)) (rest c.args.self.now c.args.at)
    (rest c.args.self.now (c.args.at + 1))) c.in-Dim1.is c.requires.begun))
    c.in_ok-span-in-Dim1.ensures.runs

pub returns-in_err-span-in-Dim2-clause-stops : goal.returns-in_err-span-in-Dim2-clause-stops
returns-in_err-span-in-Dim2-clause-stops c =
    handed _ _ _ c.from_residual-in_err-span-in-Dim2.ensures.1
    (within _ (by_token (a_type c.args.depth) (word DIM2) _ (rest c.args.self.now c.args.at)
    (rest c.args.self.now (c.args.at + 1)) (λ i. refl)
    (subst (λ (k : Keyword). Leads (word (word_of k)) (rest c.args.self.now c.args.at)
    (rest c.args.self.now (c.args.at + 1))) c.in-Dim2.is c.requires.begun))
    c.in_err-span-in-Dim2.ensures.stops)

pub returns-in_ok-span-in-Dim2-clause-runs : goal.returns-in_ok-span-in-Dim2-clause-runs
returns-in_ok-span-in-Dim2-clause-runs c =
    by_way _ (by_token (a_type c.args.depth) (word DIM2) _ (rest c.args.self.now c.args.at)
    (rest c.args.self.now (c.args.at + 1)) (λ i. refl)
    (subst (λ (k : Keyword). Leads (word (word_of k)) (rest c.args.self.now c.args.at)
    (rest c.args.self.now (c.args.at + 1))) c.in-Dim2.is c.requires.begun))
    c.in_ok-span-in-Dim2.ensures.runs

pub returns-in_err-span-in-Radians-clause-stops : goal.returns-in_err-span-in-Radians-clause-stops
returns-in_err-span-in-Radians-clause-stops c =
    handed _ _ _ c.from_residual-in_err-span-in-Radians.ensures.1
    (within _ (by_token (a_type c.args.depth) (word RADIANS) _ (rest c.args.self.now c.args.at)
    (rest c.args.self.now (c.args.at + 1)) (λ i. refl)
    (subst (λ (k : Keyword). Leads (word (word_of k)) (rest c.args.self.now c.args.at)
    (rest c.args.self.now (c.args.at + 1))) c.in-Radians.is c.requires.begun))
    c.in_err-span-in-Radians.ensures.stops)

pub returns-in_ok-span-in-Radians-clause-runs : goal.returns-in_ok-span-in-Radians-clause-runs
returns-in_ok-span-in-Radians-clause-runs c =
    by_way _ (by_token (a_type c.args.depth) (word RADIANS) _ (rest c.args.self.now c.args.at)
    (rest c.args.self.now (c.args.at + 1)) (λ i. refl)
    (subst (λ (k : Keyword). Leads (word (word_of k)) (rest c.args.self.now c.args.at)
    (rest c.args.self.now (c.args.at + 1))) c.in-Radians.is c.requires.begun))
    c.in_ok-span-in-Radians.ensures.runs

pub returns-in_err-span-in-Grads-clause-stops : goal.returns-in_err-span-in-Grads-clause-stops
returns-in_err-span-in-Grads-clause-stops c =
    handed _ _ _ c.from_residual-in_err-span-in-Grads.ensures.1
    (within _ (by_token (a_type c.args.depth) (word GRADS) _ (rest c.args.self.now c.args.at)
    (rest c.args.self.now (c.args.at + 1)) (λ i. refl)
    (subst (λ (k : Keyword). Leads (word (word_of k)) (rest c.args.self.now c.args.at)
    (rest c.args.self.now (c.args.at + 1))) c.in-Grads.is c.requires.begun))
    c.in_err-span-in-Grads.ensures.stops)

pub returns-in_ok-span-in-Grads-clause-runs : goal.returns-in_ok-span-in-Grads-clause-runs
returns-in_ok-span-in-Grads-clause-runs c =
    by_way _ (by_token (a_type c.args.depth) (word GRADS) _ (rest c.args.self.now c.args.at)
    (rest c.args.self.now (c.args.at + 1)) (λ i. refl)
    (subst (λ (k : Keyword). Leads (word (word_of k)) (rest c.args.self.now c.args.at)
    (rest c.args.self.now (c.args.at + 1))) c.in-Grads.is c.requires.begun))
    c.in_ok-span-in-Grads.ensures.runs

pub returns-in_err-span-in-Degrees-clause-stops : goal.returns-in_err-span-in-Degrees-clause-stops
returns-in_err-span-in-Degrees-clause-stops c =
    handed _ _ _ c.from_residual-in_err-span-in-Degrees.ensures.1
    (within _ (by_token (a_type c.args.depth) (word DEGREES) _ (rest c.args.self.now c.args.at)
    (rest c.args.self.now (c.args.at + 1)) (λ i. refl)
    (subst (λ (k : Keyword). Leads (word (word_of k)) (rest c.args.self.now c.args.at)
    (rest c.args.self.now (c.args.at + 1))) c.in-Degrees.is c.requires.begun))
    c.in_err-span-in-Degrees.ensures.stops)

pub returns-in_ok-span-in-Degrees-clause-runs : goal.returns-in_ok-span-in-Degrees-clause-runs
returns-in_ok-span-in-Degrees-clause-runs c =
    by_way _ (by_token (a_type c.args.depth) (word DEGREES) _ (rest c.args.self.now c.args.at)
    (rest c.args.self.now (c.args.at + 1)) (λ i. refl)
    (subst (λ (k : Keyword). Leads (word (word_of k)) (rest c.args.self.now c.args.at)
    (rest c.args.self.now (c.args.at + 1))) c.in-Degrees.is c.requires.begun))
    c.in_ok-span-in-Degrees.ensures.runs

pub returns-in_default-clause-stops : goal.returns-in_default-clause-stops
returns-in_default-clause-stops c =
    stuck_word (all c.args.self.now) (rest c.args.self.now c.args.at)
    (rest c.args.self.now (c.args.at + 1)) c.args.depth c.args.keyword _ c.requires.begun
    c.requires.numbered c.in_default.not-Text c.in_default.not-Coord2 c.in_default.not-Coord3
    c.in_default.not-Dim1 c.in_default.not-Dim2 c.in_default.not-Radians c.in_default.not-Grads
    c.in_default.not-Degrees c.fault.ensures
