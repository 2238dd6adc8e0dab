use Prim.Native.Nat.{◌<◌, ◌^◌}
use mathlib.Core.Path.{◌≡◌}
use lib.ListN.{drop}
use Rattle.machine.specs.Choice.{all}
use Rattle.std.specs.Char.{is_ascii_digit}
use Rattle.lines.specs.Numbers.{value_from}
use Rattle.lines.proofs.numbers.read_number.Given as goal

abbrev pub invariant-loop-b : goal.invariant-loop-b
invariant-loop-b l = record {
  small : l.n < 10 ^ l.b-index;
  digits : all is_ascii_digit l.field ≡ all is_ascii_digit (drop l.b-index l.field);
  value : value_from l.n (drop l.b-index l.field) ≡ value_from 0 l.field;
}
