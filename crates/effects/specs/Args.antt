-- A call's arguments, as control's proofs name them.
use Rattle.definition.specs.Bus.{Bytes}
use Rattle.control.specs.declared.Job.{Job}
use Rattle.control.specs.Meaning.{Args}

abbrev pub args_of : Job → Bytes → Bytes → Args
args_of j first second = record { job = j; first = first; second = second }
