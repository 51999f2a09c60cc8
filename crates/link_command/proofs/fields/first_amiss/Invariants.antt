use Rattle.std.proofs.Common.{◌≡◌, take, None}
use Rattle.std.specs.List.{find}
use Rattle.csv.specs.Records.{fields_of}
use Rattle.link_command.specs.Fields.{is_amiss}
use Rattle.link_command.proofs.fields.first_amiss.Given as goal

-- none of the fields so far is amiss
abbrev pub invariant-loop-name : goal.invariant-loop-name
invariant-loop-name l = find (is_amiss (fields_of l.row)) (take l.name-index l.name-items) ≡ None
