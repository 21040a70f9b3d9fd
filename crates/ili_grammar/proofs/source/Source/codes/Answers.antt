use Rattle.ili_grammar.proofs.ModelsDrive.{not_in_one, not_in_two}
use Rattle.ili_grammar.proofs.Stuck.{goes_value, is_first_of, is_in_one, is_second_of, used_value}
use Rattle.ili_grammar.proofs.Follow.{after, first, handed, within}
use Rattle.std.proofs.Common.{[], refl, ◌∷◌, ◌+◌}
use Rattle.ili_grammar.specs.Machine.{blank_value, continue_value, undefined_value}
use Rattle.ili_grammar.specs.Steps.{rest, all, for_blank, for_continue, for_undefined}
use Rattle.ili_grammar.proofs.ModelsRead.{codes_read}
use Rattle.ili_grammar.proofs.source.Source.codes.Goals as goal

pub returns-clause-reads : goal.returns-clause-reads
returns-clause-reads c =
    let r = rest c.args.self.now in
    codes_read c.in_ok-blank.blank c.in_ok-undefined.undefined c.in_ok-continued.continued
    (r c.args.at) (r (c.in_ok-blank.place + 1)) (r c.in_ok-next.next)
    (r (c.in_ok-undefined.place + 1)) (r c.in_ok-next-2.next) (r (c.in_ok-continued.place + 1))
    (r c.in_ok-next-3.next)
    c.in_ok-blank.ensures.reads c.in_ok-next.ensures.reads c.in_ok-undefined.ensures.reads
    c.if-undefined-blank.false c.in_ok-next-2.ensures.reads c.in_ok-continued.ensures.reads
    c.if-continued-blank.false c.if-continued-undefined.false c.in_ok-next-3.ensures.reads

pub returns-in_err-blank-clause-stops : goal.returns-in_err-blank-clause-stops
returns-in_err-blank-clause-stops c =
    handed _ _ _ c.from_residual.ensures.1 (c.in_err-blank.ensures.stops [] blank_value for_blank)

pub returns-in_err-next-clause-stops : goal.returns-in_err-next-clause-stops
returns-in_err-next-clause-stops c =
    handed _ _ _ c.from_residual-in_err-next.ensures.1
    (after c.in_ok-blank.ensures.runs
    (within _ (goes_value _ _ 95 c.in_ok-blank.blank [] blank_value for_blank
    c.in_ok-blank.ensures.value refl) (first _ c.in_err-next.ensures.stops)))

pub returns-in_err-undefined-clause-stops : goal.returns-in_err-undefined-clause-stops
returns-in_err-undefined-clause-stops c =
    handed _ _ _ c.from_residual-in_err-undefined.ensures.1
    (after c.in_ok-blank.ensures.runs
    (within _ (goes_value _ _ 95 c.in_ok-blank.blank [] blank_value for_blank
    c.in_ok-blank.ensures.value refl)
    (after c.in_ok-next.ensures.runs
    (c.in_err-undefined.ensures.stops (c.in_ok-blank.blank ∷ [])
    (undefined_value c.in_ok-blank.blank) (for_undefined c.in_ok-blank.blank)))))

pub returns-then-undefined-blank-clause-stops : goal.returns-then-undefined-blank-clause-stops
returns-then-undefined-blank-clause-stops c =
    after c.in_ok-blank.ensures.runs
    (within _ (goes_value _ _ 95 c.in_ok-blank.blank [] blank_value for_blank
    c.in_ok-blank.ensures.value refl)
    (after c.in_ok-next.ensures.runs
    (after c.in_ok-undefined.ensures.runs
    (used_value (all c.args.self.now) _ _ 64 c.in_ok-undefined.undefined (c.in_ok-blank.blank ∷ [])
    (undefined_value c.in_ok-blank.blank) _
    (for_undefined c.in_ok-blank.blank) c.in_ok-undefined.ensures.value
    (is_in_one c.in_ok-undefined.undefined c.in_ok-blank.blank c.if-undefined-blank.true)
    c.fault.ensures))))

pub returns-in_err-next-2-clause-stops : goal.returns-in_err-next-2-clause-stops
returns-in_err-next-2-clause-stops c =
    handed _ _ _ c.from_residual-in_err-next-2.ensures.1
    (after c.in_ok-blank.ensures.runs
    (within _ (goes_value _ _ 95 c.in_ok-blank.blank [] blank_value for_blank
    c.in_ok-blank.ensures.value refl)
    (after c.in_ok-next.ensures.runs
    (after c.in_ok-undefined.ensures.runs
    (within _ (goes_value _ _ 64 c.in_ok-undefined.undefined (c.in_ok-blank.blank ∷ [])
    (undefined_value c.in_ok-blank.blank)
    (for_undefined c.in_ok-blank.blank) c.in_ok-undefined.ensures.value
    (not_in_one c.in_ok-undefined.undefined c.in_ok-blank.blank c.if-undefined-blank.false))
    (first _ c.in_err-next-2.ensures.stops))))))

pub returns-in_err-continued-clause-stops : goal.returns-in_err-continued-clause-stops
returns-in_err-continued-clause-stops c =
    handed _ _ _ c.from_residual-in_err-continued.ensures.1
    (after c.in_ok-blank.ensures.runs
    (within _ (goes_value _ _ 95 c.in_ok-blank.blank [] blank_value for_blank
    c.in_ok-blank.ensures.value refl)
    (after c.in_ok-next.ensures.runs
    (after c.in_ok-undefined.ensures.runs
    (within _ (goes_value _ _ 64 c.in_ok-undefined.undefined (c.in_ok-blank.blank ∷ [])
    (undefined_value c.in_ok-blank.blank)
    (for_undefined c.in_ok-blank.blank) c.in_ok-undefined.ensures.value
    (not_in_one c.in_ok-undefined.undefined c.in_ok-blank.blank c.if-undefined-blank.false))
    (after c.in_ok-next-2.ensures.runs
    (c.in_err-continued.ensures.stops (c.in_ok-blank.blank ∷ c.in_ok-undefined.undefined ∷ [])
    (continue_value c.in_ok-blank.blank c.in_ok-undefined.undefined)
    (for_continue c.in_ok-blank.blank c.in_ok-undefined.undefined))))))))

pub returns-then-continued-blank-clause-stops : goal.returns-then-continued-blank-clause-stops
returns-then-continued-blank-clause-stops c =
    after c.in_ok-blank.ensures.runs
    (within _ (goes_value _ _ 95 c.in_ok-blank.blank [] blank_value for_blank
    c.in_ok-blank.ensures.value refl)
    (after c.in_ok-next.ensures.runs
    (after c.in_ok-undefined.ensures.runs
    (within _ (goes_value _ _ 64 c.in_ok-undefined.undefined (c.in_ok-blank.blank ∷ [])
    (undefined_value c.in_ok-blank.blank)
    (for_undefined c.in_ok-blank.blank) c.in_ok-undefined.ensures.value
    (not_in_one c.in_ok-undefined.undefined c.in_ok-blank.blank c.if-undefined-blank.false))
    (after c.in_ok-next-2.ensures.runs
    (after c.in_ok-continued.ensures.runs
    (used_value (all c.args.self.now) _ _ 92 c.in_ok-continued.continued
    (c.in_ok-blank.blank ∷ c.in_ok-undefined.undefined ∷ [])
    (continue_value c.in_ok-blank.blank c.in_ok-undefined.undefined) _
    (for_continue c.in_ok-blank.blank c.in_ok-undefined.undefined) c.in_ok-continued.ensures.value
    (is_first_of c.in_ok-continued.continued c.in_ok-blank.blank c.in_ok-undefined.undefined
    c.if-continued-blank.true) c.fault-then-continued-blank.ensures)))))))

pub returns-then-continued-undefined-clause-stops : goal.returns-then-continued-undefined-clause-stops
returns-then-continued-undefined-clause-stops c =
    after c.in_ok-blank.ensures.runs
    (within _ (goes_value _ _ 95 c.in_ok-blank.blank [] blank_value for_blank
    c.in_ok-blank.ensures.value refl)
    (after c.in_ok-next.ensures.runs
    (after c.in_ok-undefined.ensures.runs
    (within _ (goes_value _ _ 64 c.in_ok-undefined.undefined (c.in_ok-blank.blank ∷ [])
    (undefined_value c.in_ok-blank.blank)
    (for_undefined c.in_ok-blank.blank) c.in_ok-undefined.ensures.value
    (not_in_one c.in_ok-undefined.undefined c.in_ok-blank.blank c.if-undefined-blank.false))
    (after c.in_ok-next-2.ensures.runs
    (after c.in_ok-continued.ensures.runs
    (used_value (all c.args.self.now) _ _ 92 c.in_ok-continued.continued
    (c.in_ok-blank.blank ∷ c.in_ok-undefined.undefined ∷ [])
    (continue_value c.in_ok-blank.blank c.in_ok-undefined.undefined) _
    (for_continue c.in_ok-blank.blank c.in_ok-undefined.undefined) c.in_ok-continued.ensures.value
    (is_second_of c.in_ok-continued.continued c.in_ok-blank.blank c.in_ok-undefined.undefined
    c.if-continued-undefined.true) c.fault-then-continued-undefined.ensures)))))))

pub returns-in_err-next-3-clause-stops : goal.returns-in_err-next-3-clause-stops
returns-in_err-next-3-clause-stops c =
    handed _ _ _ c.from_residual-in_err-next-3.ensures.1
    (after c.in_ok-blank.ensures.runs
    (within _ (goes_value _ _ 95 c.in_ok-blank.blank [] blank_value for_blank
    c.in_ok-blank.ensures.value refl)
    (after c.in_ok-next.ensures.runs
    (after c.in_ok-undefined.ensures.runs
    (within _ (goes_value _ _ 64 c.in_ok-undefined.undefined (c.in_ok-blank.blank ∷ [])
    (undefined_value c.in_ok-blank.blank)
    (for_undefined c.in_ok-blank.blank) c.in_ok-undefined.ensures.value
    (not_in_one c.in_ok-undefined.undefined c.in_ok-blank.blank c.if-undefined-blank.false))
    (after c.in_ok-next-2.ensures.runs
    (after c.in_ok-continued.ensures.runs
    (within _ (goes_value _ _ 92 c.in_ok-continued.continued
    (c.in_ok-blank.blank ∷ c.in_ok-undefined.undefined ∷ [])
    (continue_value c.in_ok-blank.blank c.in_ok-undefined.undefined)
    (for_continue c.in_ok-blank.blank c.in_ok-undefined.undefined) c.in_ok-continued.ensures.value
    (not_in_two c.in_ok-continued.continued c.in_ok-blank.blank c.in_ok-undefined.undefined
    c.if-continued-blank.false c.if-continued-undefined.false))
    (c.in_err-next-3.ensures.stops)))))))))
