use Rattle.std.proofs.Common.{◌∙◌, inr, refl}
use Rattle.link_command.proofs.command_line.without_matches.Goals as goal

pub returns-in_ok-shown-in_default-clause-mistake : goal.returns-in_ok-shown-in_default-clause-mistake
returns-in_ok-shown-in_default-clause-mistake c = λ text same.
    (λ h. c.in_default.not-DisplayHelp (c.kind.ensures ∙ h), λ h. c.in_default.not-DisplayVersion (c.kind.ensures ∙ h), λ h. c.in_default.not-OutOfMemory (c.kind.ensures ∙ h))

pub returns-in_ok-shown-in_default-clause-fault : goal.returns-in_ok-shown-in_default-clause-fault
returns-in_ok-shown-in_default-clause-fault c = inr (c.in_ok-shown-in_default.field-0, refl)
