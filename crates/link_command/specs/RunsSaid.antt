use Rattle.link_command.specs.Values.{RunParts}
use Rattle.link_command.specs.declared.values.Run.{Run}

-- a run, by its parts
abbrev pub run_parts_of : Run → RunParts
run_parts_of run = record { params = run.params; seed = run.seed; link = run.link; every = run.every }
