use Rattle.decimals.proofs.OneSpelling.{in_form, one}
use Rattle.decimals.proofs.writing.one_spelling.Goals as goal

pub returns-clause-form : goal.returns-clause-form
returns-clause-form c = in_form

pub returns-clause-one : goal.returns-clause-one
returns-clause-one c = one
