use Rattle.std.proofs.Common.{◌≡◌, ◌+◌, ◌≤◌, ◌-◌}
use Rattle.script_lines.specs.Lines.{numbers_from, numbers_of}
use Rattle.script_lines.proofs.numbers.Given as goal

abbrev pub invariant-loop-i : goal.invariant-loop-i
invariant-loop-i l = (l.count ≤ 8) × (l.from ≤ l.words) × (l.words - l.from ≡ l.count) × (numbers_from (l.count - l.i) l.line (l.from + l.i) l.i l.numbers ≡ numbers_of l.line l.from l.count)
