-- Which number each refusal of a call on a session has; it is about no record of a file.
use Rattle.refusals.specs.declared.Refusal.{Refusal}
use Rattle.refusals.specs.Refusals.{about_no_record}
use Rattle.session.specs.declared.calls.SessionFault.{SessionFault}
use Rattle.session.specs.declared.calls.SessionFault.TheVariants.{Memory, Item, Inactive}

abbrev pub session_refusal : SessionFault → Refusal
session_refusal Memory = about_no_record 9
session_refusal Item = about_no_record 10
session_refusal Inactive = about_no_record 11
