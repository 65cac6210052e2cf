-- The digits so far, and those of the bytes that are left, are all the digits.
use Rattle.std.proofs.Common.{◌≡◌, ◌++◌, drop}
use Rattle.console_lines.specs.Hex.{digits}
use Rattle.console_lines.proofs.hex.put_digits.Given as goal

abbrev pub invariant-loop-byte : goal.invariant-loop-byte
invariant-loop-byte l = l.out.items ++ digits (drop l.byte-index l.bytes) ≡ l.fn.out.items ++ digits l.bytes
