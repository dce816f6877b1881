use Rattle.std.proofs.Common.{◌≡◌, ◌<◌, ◌^◌, true, take}
use Rattle.std.specs.List.{list_all}
use Rattle.std.specs.Char.{is_ascii_hexdigit}
use Rattle.std.specs.Str.Parse.{digits_value}
use Rattle.osl_lex.proofs.number.hex_of.Given as goal

abbrev pub invariant-loop-digit : goal.invariant-loop-digit
invariant-loop-digit l = record {
  each : list_all is_ascii_hexdigit (take l.digit-index l.digits) ≡ true;
  value : l.bits ≡ digits_value 16 (take l.digit-index l.digits);
  low : l.bits < 2 ^ 32;
}
