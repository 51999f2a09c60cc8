use Rattle.std.proofs.Common.{◌≡◌, take}
use Rattle.std.specs.Str.Parse.{AllDigits, digits_value}
use Rattle.row_core.proofs.numbers.read_number.Given as goal

-- the digits so far write the value
abbrev pub invariant-loop-byte : goal.invariant-loop-byte
invariant-loop-byte l = record {
  digits : AllDigits 10 (take l.byte-index l.text);
  value : l.value ≡ digits_value 10 (take l.byte-index l.text);
}
