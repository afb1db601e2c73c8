use Rattle.std.proofs.Common.{◌≡◌, drop}
use Rattle.text.specs.declared.faults.StringFault.TheVariants.{NoName}
use Rattle.text.specs.Machines.{read_from}
use Rattle.text.specs.Readers.{name_step, name_finish, read_name}
use Rattle.text.proofs.names.read_name.Given as goal

-- what is left of the string gives the answer
abbrev pub invariant-loop-at : goal.invariant-loop-at
invariant-loop-at l = read_from name_step name_finish NoName l.text l.at l.at (drop l.at l.text) ≡ read_name l.text
